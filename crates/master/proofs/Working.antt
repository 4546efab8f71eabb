-- A work that puts a frame, while the master runs: entries and record still agree.
use Rattle.std.proofs.Common.{◌≡◌, ℕ, ◌≤◌, Bool, true, false, cond, ◌||◌, List, [], ◌∷◌, ◌++◌, length, Some, None, Option, sym, refl, ap, ◌∙◌, subst, arith}
use Rattle.std.specs.Option.{option_map}
use Rattle.std.proofs.lemmas.Bool.{cond-true, cond-false, eq-eqb, ne_eqb}
use Rattle.frames.specs.Contents.{Content}
use Rattle.frames.specs.Sdo.{request_content}
use Rattle.frames.specs.declared.nmt.Command.{Command}
use Rattle.frames.specs.declared.nmt.Command.TheVariants as command
use Rattle.sheet.specs.Format.{SlaveLines, SheetLines}
use Rattle.sheet.specs.Rules.{SlavesKeep}
use Rattle.master.specs.Checks.{request_of}
use Rattle.master.specs.Network.{State, slave_by, applied_to, command_of, nmt_to, duty_content, plan_content, carried_out}
use Rattle.master.specs.Record.{Reading, Event, put, read, commanded}
use Rattle.master.specs.Step.{duty_of, requested, request_put}
use Rattle.master.specs.Table.{entry_of, change_by, applied_all}
use Rattle.master.specs.declared.types.Change.{Change}
use Rattle.master.specs.declared.types.Change.TheVariants as change
use Rattle.master.specs.declared.types.Check.{Check}
use Rattle.master.specs.declared.types.Check.TheVariants.{Kind, Vendor, Product, Revision, Serial, Set}
use Rattle.master.specs.declared.types.Duty.{Duty}
use Rattle.master.specs.declared.types.Duty.TheVariants as duty
use Rattle.master.specs.declared.types.Entry.{Entry}
use Rattle.master.specs.declared.types.Phase.TheVariants.{Running}
use Rattle.master.specs.declared.types.Plan.{Plan}
use Rattle.master.specs.declared.types.Plan.TheVariants as plan
use Rattle.master.specs.declared.types.Stage.{Stage}
use Rattle.master.specs.declared.types.Stage.TheVariants.{AwaitBoot, Ask, Asked, ListenState, ListenControl, Passed, Retry, ResetDue}
use Rattle.master.specs.declared.types.Sweep.{Sweep}
use Rattle.master.specs.declared.types.Sweep.TheVariants.{Singles}
use Rattle.master.proofs.Agreement.{Same, Agrees, live, state}
use Rattle.master.proofs.Origins.{Owed, Origin}
use Rattle.master.proofs.Putting.{read_nmt, reach_all, reach_one, seen_reset, seen_start, read_own, read_other, put_one, put_all}
use Rattle.master.proofs.Seeing.{seen, made}
use Rattle.master.specs.Record.{Every}
use Rattle.master.proofs.Spread.{Ranged, has, changed_long, applied_long}

-- a start is due to a passed slave alone, and a request where it is to be asked
none_some : (b : Bool) (d : Duty) → cond b (Some duty.Start) None ≡ Some d → d ≡ duty.Start
none_some true d e = cc
none_some false d e = let z : ◌≡◌ {A = ℕ} 0 1 = cc in absurd (omega arith)

ask_due : (go : Bool) (x : Stage) (q : Check) → duty_of go x ≡ Some (duty.Request q) → x ≡ Ask q
ask_due go (AwaitBoot n) q e = let z : ◌≡◌ {A = ℕ} 0 1 = cc in absurd (omega arith)
ask_due go (Ask k) q e = cc
ask_due go (Asked k n) q e = let z : ◌≡◌ {A = ℕ} 0 1 = cc in absurd (omega arith)
ask_due go (ListenState n) q e = let z : ◌≡◌ {A = ℕ} 0 1 = cc in absurd (omega arith)
ask_due go (ListenControl n r) q e = let z : ◌≡◌ {A = ℕ} 0 1 = cc in absurd (omega arith)
ask_due go (Passed r s n) q e = let y = none_some _ (duty.Request q) e in let z : ◌≡◌ {A = ℕ} 0 1 = cc in absurd (omega arith)
ask_due go (Retry n) q e = let z : ◌≡◌ {A = ℕ} 0 1 = cc in absurd (omega arith)
ask_due go (ResetDue k) q e = let z : ◌≡◌ {A = ℕ} 0 1 = cc in absurd (omega arith)

applied_to_long : (g : Change) (o : Option SlaveLines) (t : List Entry) → length t ≡ 127 → length (applied_to g o t) ≡ 127
applied_to_long g None t l = l
applied_to_long g (Some c) t l = changed_long t c (change_by g c (entry_of t c)) l

module _ (ls : SheetLines) (k : SlavesKeep ls.own 0 ls.slaves) (h : List Event) (t : List Entry) (w : Option Sweep) (l : ℕ) (b : Bool) (n : ℕ) (long : length t ≡ 127) (same : Every (Same ls h t) ls.slaves) where
  abbrev now : State
  now = state ls t w l b n Running

  -- an NMT command to one node
  module _ (c : Command) (m : ℕ) (pos : 1 ≤ m) (g : Change) (is : (d : SlaveLines) (e : Entry) → seen (change_by g d e) ≡ commanded c (seen e)) where
    one_hit : (d : SlaveLines) → slave_by m ls.slaves ≡ Some d → Ranged ls.own 0 d → seen (change_by g d (entry_of t d)) ≡ read ls d (seen (entry_of t d)) (put (nmt_to c m))
    one_hit d e r =
        let low = r.above in
        is d (entry_of t d) ∙ sym (read_nmt ls d c m (seen (entry_of t d)) ∙ cond-true _ _ _ (reach_one c m d.node ls.own pos (omega arith) ∙ eq-eqb d.node m (has m ls.own 0 ls.slaves d k e).node))

    one_miss : (d : SlaveLines) → Ranged ls.own 0 d → (d.node ≡ m → ⊥) → (r : Reading) → read ls d r (put (nmt_to c m)) ≡ r
    one_miss d r x z = let low = r.above in read_nmt ls d c m z ∙ cond-false _ _ _ (reach_one c m d.node ls.own pos (omega arith) ∙ ne_eqb d.node m x)

    nmt_one : Every (Same ls (h ++ put (nmt_to c m) ∷ []) (applied_to g (slave_by m ls.slaves) t)) ls.slaves
    nmt_one = put_one ls k h t long same g (nmt_to c m) m one_hit one_miss

  -- an NMT command to all
  nmt_all : (c : Command) (g : Change) → ((d : SlaveLines) (e : Entry) → seen (change_by g d e) ≡ commanded c (seen e)) → Every (Same ls (h ++ put (nmt_to c 0) ∷ []) (applied_all g ls.slaves t)) ls.slaves
  nmt_all c g is =
      put_all ls k h t long same g (nmt_to c 0)
      (λ d r. let low = r.above in is d (entry_of t d) ∙ sym (read_nmt ls d c 0 (seen (entry_of t d)) ∙ cond-true _ _ _ (reach_all c d.node ls.own (omega arith) r.other)))

  -- a request to the slave that is to be asked
  asking : (m : ℕ) (q : Check) (o : Owed now m (duty.Request q)) → Every (Same ls (h ++ put (request_content (request_of o.slave q)) ∷ []) (applied_to (change.Request ls.wait) (slave_by m ls.slaves) t)) ls.slaves
  asking m q o =
      let c : SlaveLines = o.slave in
      let f : Content = request_content (request_of c q) in
      put_one ls k h t long same (change.Request ls.wait) f m
      (λ d e r.
      let same_slave : c ≡ d = let y = sym o.listed ∙ e in cc in
      let x : Entry = entry_of t c in
      let at : x.stage ≡ Ask q = ask_due _ x.stage q o.due in
      let here : seen (request_put ls.wait x) ≡ read ls c (seen x) (put f) =
      subst (λ z. seen (requested ls.wait z (made z x.word x.booted x.result x.once)) ≡ read ls c (seen (made z x.word x.booted x.result x.once)) (put f)) (sym at)
      (sym (read_own ls c x.booted x.word x.once q)) in
      subst (λ z. seen (request_put ls.wait (entry_of t z)) ≡ read ls z (seen (entry_of t z)) (put f)) same_slave here)
      (λ d r x z. read_other ls d (request_of c q) (λ y. x (y ∙ node q c ∙ (has m ls.own 0 ls.slaves c k o.listed).node)) z)
    where
      node : (q : Check) (c : SlaveLines) → (request_of c q).node ≡ c.node
      node Kind c = refl
      node Vendor c = refl
      node Product c = refl
      node Revision c = refl
      node Serial c = refl
      node (Set i) c = refl

  serving : (m : ℕ) (d : Duty) (f : Content) → Owed now m d → duty_content ls.slaves m d ≡ Some f → Agrees ls (h ++ put f ∷ []) (carried_out (plan.Serve m d) now)
  serving m (duty.Reset r) f o e =
      let pos = has m ls.own 0 ls.slaves o.slave k o.listed in
      let is : nmt_to (command_of r) m ≡ f = cc in
      let low = pos.low in let node = pos.node in
      subst (λ x. Agrees ls (h ++ put x ∷ []) (carried_out (plan.Serve m (duty.Reset r)) now)) is
      (live (applied_to change.Reset (slave_by m ls.slaves) t) None m (b || false) n (applied_to_long change.Reset (slave_by m ls.slaves) t long) (nmt_one (command_of r) m (omega arith) change.Reset (λ d x. seen_reset r x)))
  serving m (duty.Request q) f o e =
      let is : request_content (request_of o.slave q) ≡ f = let y = ap (option_map (λ c. request_content (request_of c q))) (sym o.listed) ∙ e in cc in
      subst (λ x. Agrees ls (h ++ put x ∷ []) (carried_out (plan.Serve m (duty.Request q)) now)) is
      (live (applied_to (change.Request ls.wait) (slave_by m ls.slaves) t) None m (b || false) n (applied_to_long (change.Request ls.wait) (slave_by m ls.slaves) t long) (asking m q o))
  serving m duty.Start f o e =
      let pos = has m ls.own 0 ls.slaves o.slave k o.listed in
      let is : nmt_to command.Start m ≡ f = cc in
      let low = pos.low in let node = pos.node in
      subst (λ x. Agrees ls (h ++ put x ∷ []) (carried_out (plan.Serve m duty.Start) now)) is
      (live (applied_to change.Start (slave_by m ls.slaves) t) None m (b || true) n (applied_to_long change.Start (slave_by m ls.slaves) t long) (nmt_one command.Start m (omega arith) change.Start (λ d x. seen_start x)))

  -- the frame of any plan of a running master
  pub live_put : (p : Plan) (f : Content) → Origin now p → plan_content ls.slaves p ≡ Some f → Agrees ls (h ++ put f ∷ []) (carried_out p now)
  live_put plan.Nothing f o e = let z : ◌≡◌ {A = ℕ} 0 1 = cc in absurd (omega arith)
  live_put plan.Stop f o e = let z : ◌≡◌ {A = ℕ} 0 1 = cc in absurd (omega arith)
  live_put (plan.ResetAll r) f o e =
      let is : nmt_to (command_of r) 0 ≡ f = cc in
      subst (λ x. Agrees ls (h ++ put x ∷ []) (carried_out (plan.ResetAll r) now)) is
      (live (applied_all change.Reset ls.slaves t) None l b n (applied_long change.Reset ls.slaves t long) (nmt_all (command_of r) change.Reset (λ d x. seen_reset r x)))
  live_put (plan.ResetOne r m) f o e =
      let is : nmt_to (command_of r) m ≡ f = cc in
      subst (λ x. Agrees ls (h ++ put x ∷ []) (carried_out (plan.ResetOne r m) now)) is
      (live (applied_to change.Reset (slave_by m ls.slaves) t) (Some (Singles r m)) l b n (applied_to_long change.Reset (slave_by m ls.slaves) t long) (nmt_one (command_of r) m o.0 change.Reset (λ d x. seen_reset r x)))
  live_put (plan.Serve m d) f o e = serving m d f o e
  live_put (plan.StartAll m) f o e =
      let is : nmt_to command.Start 0 ≡ f = cc in
      subst (λ x. Agrees ls (h ++ put x ∷ []) (carried_out (plan.StartAll m) now)) is
      (live (applied_all change.Start ls.slaves t) None m (b || true) n (applied_long change.Start ls.slaves t long) (nmt_all command.Start change.Start (λ d x. seen_start x)))
