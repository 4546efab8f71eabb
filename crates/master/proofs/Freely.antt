-- A work that finds a free place while Go: it puts a start that reaches the slave, or comes nearer to it.
use Rattle.std.proofs.Common.{◌≡◌, ℕ, ◌<◌, ◌≤◌, Bool, true, false, ◌⊎◌, List, [], ◌∷◌, Some, count_by, sym, refl, ap, ◌∙◌, subst, inl, inr, ⊎_elim, arith, None}
use Rattle.std.specs.Option.{option_map}
use Rattle.std.proofs.lemmas.Bool.{cases_Bool, cases_eq, cond-true, cond-false, eq-eqb, ne_eqb}
use Rattle.frames.specs.Contents.{Content}
use Rattle.frames.specs.Nmt.{nmt_in, reaches}
use Rattle.frames.specs.Sdo.{request_content}
use Rattle.frames.specs.declared.nmt.Command.TheVariants as command
use Rattle.frames.specs.declared.nmt.NmtMessage.{NmtMessage}
use Rattle.sheet.specs.Format.{SlaveLines, SheetLines}
use Rattle.sheet.specs.Rules.{SlavesKeep}
use Rattle.master.specs.Checks.{request_of}
use Rattle.master.specs.Network.{State, slave_by, going, starts_all, serve_plan, duty_plan_from, planned, command_of, nmt_to, plan_content, carried_out}
use Rattle.master.specs.Record.{Every, put}
use Rattle.master.specs.Step.{duty_of}
use Rattle.master.specs.Table.{entry_of}
use Rattle.master.specs.declared.types.Duty.{Duty}
use Rattle.master.specs.declared.types.Duty.TheVariants as duty
use Rattle.master.specs.declared.types.Entry.{Entry}
use Rattle.master.specs.declared.types.Phase.TheVariants.{Running}
use Rattle.master.specs.declared.types.Plan.{Plan}
use Rattle.master.specs.declared.types.Plan.TheVariants as plan
use Rattle.master.proofs.Agreement.{some_found, state}
use Rattle.master.proofs.Origins.{Owed, due_next}
use Rattle.master.proofs.Owing.{Other}
use Rattle.master.proofs.Permitting.{is_message, reset_no_start, not_command}
use Rattle.master.proofs.Putting.{nmt_back, no_command, reach_all, reach_one}
use Rattle.master.proofs.Spread.{has}
use Rattle.master.proofs.Turning.{in_arc, arc_mono, arc_out, count_strict, chosen}

every_all : (P : SlaveLines → Type 0) (cs : List SlaveLines) → ((c : SlaveLines) → P c) → Every P cs
every_all P [] f = tt
every_all P (c ∷ cs) f = (f c, every_all P cs f)

module _ (ls : SheetLines) (k : SlavesKeep ls.own 0 ls.slaves) (c : SlaveLines) (e : ℕ) (is : slave_by e ls.slaves ≡ Some c) where
  -- how many listed slaves stand after l, around to e
  abbrev pub away : ℕ → ℕ
  away l = count_by (λ x. in_arc l e x.node) ls.slaves

  -- a frame that starts the slave
  pub record Starts (f : Content) : Type 0 where
    pub message : NmtMessage
    pub reads : nmt_in f ≡ Some message
    pub start : message.command ≡ command.Start
    pub reaching : reaches message c.node ls.own ≡ true

  pub record Turned (s : State) : Type 0 where
    pub frame : Content
    pub content : plan_content ls.slaves (planned s) ≡ Some frame
    pub outcome : Starts frame ⊎ ((away (carried_out (planned s) s).last < away s.last) × Other ls c (put frame))

  nearer : (l m : ℕ) (d : SlaveLines) → slave_by m ls.slaves ≡ Some d → in_arc l e m ≡ true → (m ≡ e → ⊥) → away m < away l
  nearer l m d x way ne =
      let node = (has m ls.own 0 ls.slaves d k x).node in
      count_strict (λ y. in_arc l e y.node) (λ y. in_arc m e y.node) ls.slaves (every_all (λ y. in_arc m e y.node ≡ true → in_arc l e y.node ≡ true) ls.slaves (λ y h. arc_mono l e m y.node way ne h))
      (some_found (λ y. (in_arc l e y.node ≡ true) × (in_arc m e y.node ≡ false)) m ls.slaves d x (ap (in_arc l e) node ∙ way, ap (in_arc m e) node ∙ arc_out e m ne))

  module _ (t : List Entry) (l : ℕ) (b : Bool) (n : ℕ) where
    abbrev now : State
    now = state ls t None l b n Running

    low : 1 ≤ c.node
    low = (has e ls.own 0 ls.slaves c k is).low

    other : c.node ≡ ls.own → ⊥
    other = (has e ls.own 0 ls.slaves c k is).other

    node : c.node ≡ e
    node = (has e ls.own 0 ls.slaves c k is).node

    abbrev Turns : Plan → Type 0
    Turns p = (f : Content) × (plan_content ls.slaves p ≡ Some f) × (Starts f ⊎ ((away (carried_out p now).last < away l) × Other ls c (put f)))

    start_all : (m : ℕ) → Turns (plan.StartAll m)
    start_all m = (nmt_to command.Start 0, refl, inl (record { message = record { command = command.Start; node = 0 }; reads = nmt_back command.Start 0; start = refl; reaching = reach_all command.Start c.node ls.own low other }))

    start_one : (m : ℕ) → Owed now m duty.Start → in_arc l e m ≡ true → Turns (plan.Serve m duty.Start)
    start_one m o way =
        let g = has m ls.own 0 ls.slaves o.slave k o.listed in
        let pos : 1 ≤ m = let a = g.low in let z = g.node in omega arith in
        ⊎_elim
        (λ x. (nmt_to command.Start m, refl, inl (record { message = record { command = command.Start; node = m }; reads = nmt_back command.Start m; start = refl; reaching = reach_one command.Start m c.node ls.own pos low ∙ eq-eqb c.node m (node ∙ sym x) })))
        (λ x. (
          nmt_to command.Start m,
          refl,
          inr (
            nearer l m o.slave o.listed way x,
            λ y h s r. let w = ap (λ (z : NmtMessage). reaches z c.node ls.own) (sym (is_message command.Start m y h)) ∙ r in let v = sym (reach_one command.Start m c.node ls.own pos low ∙ ne_eqb c.node m (λ q. x (sym q ∙ node))) ∙ w in let z : ◌≡◌ {A = ℕ} 0 1 = cc in omega arith,
          ),
        ))
        (cases_eq m e)

    -- a slave with another duty is another slave
    not_same : (m : ℕ) (d : Duty) → Owed now m d → duty_of (going now) (entry_of t c).stage ≡ Some duty.Start → (d ≡ duty.Start → ⊥) → m ≡ e → ⊥
    not_same m d o due ne x =
        let it : o.slave ≡ c = let y = sym o.listed ∙ ap (λ z. slave_by z ls.slaves) x ∙ is in cc in
        ne (let y = sym o.due ∙ ap (λ z. duty_of (going now) (entry_of t z).stage) it ∙ due in cc)

    serve_one : (m : ℕ) (d : Duty) → Owed now m d → in_arc l e m ≡ true → duty_of (going now) (entry_of t c).stage ≡ Some duty.Start → Turns (serve_plan now m d)
    serve_one m (duty.Reset r) o way due =
        (nmt_to (command_of r) m, refl, inr (nearer l m o.slave o.listed way (not_same m (duty.Reset r) o due (λ x. let z : ◌≡◌ {A = ℕ} 0 1 = cc in omega arith)), λ y h s q. reset_no_start r m y (is_message (command_of r) m y h) s))
    serve_one m (duty.Request q) o way due = (
      request_content (request_of o.slave q),
      ap (option_map (λ x. request_content (request_of x q))) o.listed,
      inr (
        nearer l m o.slave o.listed way (not_same m (duty.Request q) o due (λ x. let z : ◌≡◌ {A = ℕ} 0 1 = cc in omega arith)),
        λ y h s r. not_command o.slave (request_content (request_of o.slave q)) y (no_command (request_of o.slave q)) h,
      ),
    )
    serve_one m duty.Start o way due =
        ⊎_elim
        (λ x. subst Turns (sym (cond-true _ (plan.StartAll m) (plan.Serve m duty.Start) x)) (start_all m))
        (λ x. subst Turns (sym (cond-false _ (plan.StartAll m) (plan.Serve m duty.Start) x)) (start_one m o way))
        (cases_Bool (starts_all now))

    pub turned : duty_of (going now) (entry_of t c).stage ≡ Some duty.Start → Turned now
    turned due =
        let h = chosen now k c e is node duty.Start due in
        let o = due_next now k h.next h.found in
        let r = subst Turns (sym (ap (duty_plan_from now) h.found)) (serve_one h.next.0 h.next.1 o h.way due) in
        record { frame = r.0; content = r.1; outcome = r.2 }
