-- Every frame that a work puts is one that the record before it permits.
use Rattle.std.proofs.Common.{◌≡◌, ℕ, ◌≤◌, Bool, true, false, cond, not, ◌&&◌, eqb, List, length, Some, None, sym, refl, ap, ◌∙◌, subst, arith, Option}
use Rattle.std.specs.Option.{option_map}
use Rattle.std.proofs.lemmas.Bool.{and_parts, not-true, eqb-true}
use Rattle.frames.specs.Contents.{Content}
use Rattle.frames.specs.Nmt.{nmt_in, reaches}
use Rattle.frames.specs.Sdo.{request_content}
use Rattle.frames.specs.declared.nmt.Command.{Command}
use Rattle.frames.specs.declared.nmt.Command.TheVariants as command
use Rattle.frames.specs.declared.nmt.NmtMessage.{NmtMessage}
use Rattle.sheet.specs.Format.{SlaveLines, SheetLines}
use Rattle.sheet.specs.Rules.{SlavesKeep}
use Rattle.master.specs.Checks.{request_of}
use Rattle.master.specs.Network.{State, slave_by, counted, going, holds, spared_at, starts_all, command_of, nmt_to, duty_content, plan_content}
use Rattle.master.specs.Record.{Every, Event, Reading, reading, has_passed, silent_or_running, is_reset, MayStart, MayReset, MayPut}
use Rattle.master.specs.Step.{duty_of, is_passed, is_spared, may_run}
use Rattle.master.specs.Table.{entry_of}
use Rattle.master.specs.declared.types.Duty.{Duty}
use Rattle.master.specs.declared.types.Duty.TheVariants as duty
use Rattle.master.specs.declared.types.Entry.{Entry}
use Rattle.master.specs.declared.types.Phase.TheVariants.{Running}
use Rattle.master.specs.declared.types.Plan.{Plan}
use Rattle.master.specs.declared.types.Plan.TheVariants as plan
use Rattle.master.specs.declared.types.Quality.TheVariants as quality
use Rattle.master.specs.declared.types.ResetKind.{ResetKind}
use Rattle.master.specs.declared.types.ResetKind.TheVariants as reset
use Rattle.master.specs.declared.types.Stage.{Stage}
use Rattle.master.specs.declared.types.Stage.TheVariants.{AwaitBoot, Ask, Asked, ListenState, ListenControl, Passed, Retry, ResetDue}
use Rattle.master.specs.declared.types.Sweep.{Sweep}
use Rattle.master.specs.declared.types.Word.{Word}
use Rattle.master.specs.declared.types.Word.TheVariants as word
use Rattle.master.proofs.Agreement.{Same, state}
use Rattle.master.proofs.Clearing.{live_go, count_all, count_none}
use Rattle.master.proofs.Fairness.{Fair, due_reset}
use Rattle.master.proofs.Origins.{Owed, Origin}
use Rattle.master.proofs.Putting.{nmt_back, no_command, reach_one}
use Rattle.master.proofs.Seeing.{seen_passed}
use Rattle.master.proofs.Spread.{every_map, every_zip, Ranged, ranged, found, has}

same_word : (w : Word) → silent_or_running w ≡ may_run w
same_word word.Silence = refl
same_word word.BootUp = refl
same_word word.Stopped = refl
same_word word.Operational = refl
same_word word.PreOperational = refl
same_word word.Reset = refl
same_word word.Loss = refl

-- a message is read from a command's frame as it is
pub is_message : (c : Command) (n : ℕ) (m : NmtMessage) → nmt_in (nmt_to c n) ≡ Some m → m ≡ record { command = c; node = n }
is_message c n m e = let y = sym (nmt_back c n) ∙ e in cc

pub not_command : {X : Type 0} (q : SlaveLines) (f : Content) (m : NmtMessage) → nmt_in f ≡ None → nmt_in f ≡ Some m → X
not_command q f m a b = let z : ◌≡◌ {A = ℕ} 0 1 = cc in absurd (omega arith)

-- a start is due only while Go, to a slave that has passed
start_due : (go : Bool) (x : Stage) → duty_of go x ≡ Some duty.Start → (go ≡ true) × (is_passed x ≡ true)
start_due go (AwaitBoot n) e = let z : ◌≡◌ {A = ℕ} 0 1 = cc in absurd (omega arith)
start_due go (Ask k) e = let z : ◌≡◌ {A = ℕ} 0 1 = cc in absurd (omega arith)
start_due go (Asked k n) e = let z : ◌≡◌ {A = ℕ} 0 1 = cc in absurd (omega arith)
start_due go (ListenState n) e = let z : ◌≡◌ {A = ℕ} 0 1 = cc in absurd (omega arith)
start_due go (ListenControl n r) e = let z : ◌≡◌ {A = ℕ} 0 1 = cc in absurd (omega arith)
start_due true (Passed r s n) e = (refl, refl)
start_due false (Passed r s n) e = let z : ◌≡◌ {A = ℕ} 0 1 = cc in absurd (omega arith)
start_due go (Retry n) e = let z : ◌≡◌ {A = ℕ} 0 1 = cc in absurd (omega arith)
start_due go (ResetDue k) e = let z : ◌≡◌ {A = ℕ} 0 1 = cc in absurd (omega arith)

start_none : (b : Bool) (k : ResetKind) → cond b (Some duty.Start) None ≡ Some (duty.Reset k) → ⊥
start_none true k e = let z : ◌≡◌ {A = ℕ} 0 1 = cc in omega arith
start_none false k e = let z : ◌≡◌ {A = ℕ} 0 1 = cc in omega arith

reset_due : (go : Bool) (x : Stage) (k : ResetKind) → duty_of go x ≡ Some (duty.Reset k) → due_reset x ≡ true
reset_due go (AwaitBoot n) k e = let z : ◌≡◌ {A = ℕ} 0 1 = cc in absurd (omega arith)
reset_due go (Ask q) k e = let z : ◌≡◌ {A = ℕ} 0 1 = cc in absurd (omega arith)
reset_due go (Asked q n) k e = let z : ◌≡◌ {A = ℕ} 0 1 = cc in absurd (omega arith)
reset_due go (ListenState n) k e = let z : ◌≡◌ {A = ℕ} 0 1 = cc in absurd (omega arith)
reset_due go (ListenControl n r) k e = let z : ◌≡◌ {A = ℕ} 0 1 = cc in absurd (omega arith)
reset_due go (Passed r s n) k e = absurd (start_none _ k e)
reset_due go (Retry n) k e = let z : ◌≡◌ {A = ℕ} 0 1 = cc in absurd (omega arith)
reset_due go (ResetDue q) k e = refl

-- a message that is no start, or no reset
pub reset_no_start : {X : Type 0} (r : ResetKind) (n : ℕ) (m : NmtMessage) → m ≡ record { command = command_of r; node = n } → m.command ≡ command.Start → X
reset_no_start reset.Node n m a b = let y = sym (ap (λ (z : NmtMessage). z.command) a) ∙ b in let z : ◌≡◌ {A = ℕ} 0 1 = cc in absurd (omega arith)
reset_no_start reset.Communication n m a b = let y = sym (ap (λ (z : NmtMessage). z.command) a) ∙ b in let z : ◌≡◌ {A = ℕ} 0 1 = cc in absurd (omega arith)

pub other_no_reset : {X : Type 0} (c : Command) (n : ℕ) (m : NmtMessage) → is_reset c ≡ false → m ≡ record { command = c; node = n } → is_reset m.command ≡ true → X
other_no_reset c n m f a b = let y = sym (ap (λ (z : NmtMessage). is_reset z.command) a) ∙ b in let w = sym f ∙ y in let z : ◌≡◌ {A = ℕ} 0 1 = cc in absurd (omega arith)

module _ (ls : SheetLines) (k : SlavesKeep ls.own 0 ls.slaves) (h : List Event) (t : List Entry) (w : Option Sweep) (l : ℕ) (b : Bool) (n : ℕ) (same : Every (Same ls h t) ls.slaves) (fair : Every (λ c. Fair c (entry_of t c)) ls.slaves) where
  abbrev now : State
  now = state ls t w l b n Running

  -- what is known of each listed slave
  abbrev About : ℕ → SlaveLines → Type 0
  About m d = Ranged ls.own 0 d × (d.node ≡ m → slave_by m ls.slaves ≡ Some d) × Same ls h t d

  about : (m : ℕ) → Every (About m) ls.slaves
  about m =
      every_zip (λ d. Ranged ls.own 0 d × (d.node ≡ m → slave_by m ls.slaves ≡ Some d)) (Same ls h t) (About m) ls.slaves (λ d x y. (x.0, x.1, y))
      (every_zip (Ranged ls.own 0) (λ d. d.node ≡ m → slave_by m ls.slaves ≡ Some d) (λ d. Ranged ls.own 0 d × (d.node ≡ m → slave_by m ls.slaves ≡ Some d)) ls.slaves (λ d x y. (x, y)) (ranged ls.own 0 ls.slaves k) (found m ls.own 0 ls.slaves k)) same

  pass_read : (d : SlaveLines) → Same ls h t d → is_passed (entry_of t d).stage ≡ true → has_passed (reading ls d h).at ≡ true
  pass_read d s p = ap (λ (r : Reading). has_passed r.at) (sym s) ∙ sym (seen_passed (entry_of t d).stage) ∙ p

  -- the slave that a single command reaches
  reached : (c : Command) (m : ℕ) → 1 ≤ m → (d : SlaveLines) → About m d → reaches (record { command = c; node = m }) d.node ls.own ≡ true → slave_by m ls.slaves ≡ Some d
  reached c m pos d a e = let low = a.0.above in a.1 (eqb-true d.node m (sym (reach_one c m d.node ls.own pos (omega arith)) ∙ e))

  may_start : (m : ℕ) → Owed now m duty.Start → MayPut ls h (nmt_to command.Start m)
  may_start m o =
      let g = has m ls.own 0 ls.slaves o.slave k o.listed in
      let low = g.low in let node = g.node in
      let d = start_due (going now) (entry_of t o.slave).stage o.due in
      record {
        start = λ x e c.
            subst (MayStart ls h) (sym (is_message command.Start m x e))
            (record {
              cleared = sym (live_go ls h t l same) ∙ d.0;
              passed = every_map (About m) (λ y. reaches (record { command = command.Start; node = m }) y.node ls.own ≡ true → has_passed (reading ls y h).at ≡ true) ls.slaves
                  (λ y a r. let it : o.slave ≡ y = let z = sym o.listed ∙ reached command.Start m (omega arith) y a r in cc in pass_read y a.2 (ap (λ z. is_passed (entry_of t z).stage) (sym it) ∙ d.1)) (about m);
            });
        reset = λ x e c. other_no_reset command.Start m x refl (is_message command.Start m x e) c;
      }

  may_start_all : (m : ℕ) → Owed now m duty.Start → starts_all now ≡ true → MayPut ls h (nmt_to command.Start 0)
  may_start_all m o s =
      let d = start_due (going now) (entry_of t o.slave).stage o.due in
      let full = eqb-true (counted quality.Passed now) (length ls.slaves) (and_parts (not b) _ (and_parts ls.startall _ s).1).1 in
      record {
        start = λ x e c.
            subst (MayStart ls h) (sym (is_message command.Start 0 x e))
            (record {
              cleared = sym (live_go ls h t l same) ∙ d.0;
              passed = every_zip (λ y. is_passed (entry_of t y).stage ≡ true) (Same ls h t) (λ y. reaches (record { command = command.Start; node = 0 }) y.node ls.own ≡ true → has_passed (reading ls y h).at ≡ true) ls.slaves (λ y p a r. pass_read y a p) (count_all (holds quality.Passed t l) ls.slaves full) same;
            });
        reset = λ x e c. other_no_reset command.Start 0 x refl (is_message command.Start 0 x e) c;
      }

  spared_read : (d : SlaveLines) → Same ls h t d → is_spared d (entry_of t d) ≡ false → d.keep ≡ true → silent_or_running (reading ls d h).word ≡ false
  spared_read d s p q = ap (λ (r : Reading). silent_or_running r.word) (sym s) ∙ same_word (entry_of t d).word ∙ ap (λ x. x && may_run (entry_of t d).word) (sym q) ∙ p

  may_reset : (r : ResetKind) (m : ℕ) → Every (λ d. reaches (record { command = command_of r; node = m }) d.node ls.own ≡ true → is_spared d (entry_of t d) ≡ false) ls.slaves → MayPut ls h (nmt_to (command_of r) m)
  may_reset r m f = record {
    start = λ x e c. reset_no_start r m x (is_message (command_of r) m x e) c;
    reset = λ x e c.
        subst (MayReset ls h) (sym (is_message (command_of r) m x e))
        (every_zip (λ d. reaches (record { command = command_of r; node = m }) d.node ls.own ≡ true → is_spared d (entry_of t d) ≡ false) (Same ls h t) (λ d. reaches (record { command = command_of r; node = m }) d.node ls.own ≡ true → d.keep ≡ true → silent_or_running (reading ls d h).word ≡ false) ls.slaves (λ d p a y q. spared_read d a (p y) q) f same);
  }

  may_reset_own : (r : ResetKind) (m : ℕ) → Owed now m (duty.Reset r) → MayPut ls h (nmt_to (command_of r) m)
  may_reset_own r m o =
      let g = has m ls.own 0 ls.slaves o.slave k o.listed in
      let low = g.low in let node = g.node in
      may_reset r m
      (every_zip (About m) (λ c. Fair c (entry_of t c)) (λ d. reaches (record { command = command_of r; node = m }) d.node ls.own ≡ true → is_spared d (entry_of t d) ≡ false) ls.slaves
      (λ d a f y.
      let it : o.slave ≡ d = let z = sym o.listed ∙ reached (command_of r) m (omega arith) d a y in cc in
      f (ap (λ z. due_reset (entry_of t z).stage) (sym it) ∙ reset_due (going now) (entry_of t o.slave).stage r o.due)) (about m) fair)

  may_serve : (m : ℕ) (d : Duty) (f : Content) → Owed now m d → duty_content ls.slaves m d ≡ Some f → MayPut ls h f
  may_serve m (duty.Reset r) f o e = let is : nmt_to (command_of r) m ≡ f = cc in subst (MayPut ls h) is (may_reset_own r m o)
  may_serve m (duty.Request q) f o e =
      let is : request_content (request_of o.slave q) ≡ f = let y = ap (option_map (λ c. request_content (request_of c q))) (sym o.listed) ∙ e in cc in
      let quiet : nmt_in f ≡ None = ap nmt_in (sym is) ∙ no_command (request_of o.slave q) in
      record { start = λ x y z. not_command o.slave f x quiet y; reset = λ x y z. not_command o.slave f x quiet y }
  may_serve m duty.Start f o e = let is : nmt_to command.Start m ≡ f = cc in subst (MayPut ls h) is (may_start m o)

  pub may_put : (p : Plan) (f : Content) → Origin now p → plan_content ls.slaves p ≡ Some f → MayPut ls h f
  may_put plan.Nothing f o e = let z : ◌≡◌ {A = ℕ} 0 1 = cc in absurd (omega arith)
  may_put plan.Stop f o e = let z : ◌≡◌ {A = ℕ} 0 1 = cc in absurd (omega arith)
  may_put (plan.ResetAll r) f o e =
      let is : nmt_to (command_of r) 0 ≡ f = cc in
      subst (MayPut ls h) is (may_reset r 0 (every_map (λ d. is_spared d (entry_of t d) ≡ false) (λ d. reaches (record { command = command_of r; node = 0 }) d.node ls.own ≡ true → is_spared d (entry_of t d) ≡ false) ls.slaves (λ d x _. x) (count_none (holds quality.Spared t l) ls.slaves o)))
  may_put (plan.ResetOne r m) f o e =
      let is : nmt_to (command_of r) m ≡ f = cc in
      let free : spared_at t (slave_by m ls.slaves) ≡ false = not-true _ (and_parts (not (eqb m ls.own)) _ o.1).1 in
      subst (MayPut ls h) is
      (may_reset r m (every_map (About m) (λ d. reaches (record { command = command_of r; node = m }) d.node ls.own ≡ true → is_spared d (entry_of t d) ≡ false) ls.slaves (λ d a y. ap (spared_at t) (sym (reached (command_of r) m o.0 d a y)) ∙ free) (about m)))
  may_put (plan.Serve m d) f o e = may_serve m d f o e
  may_put (plan.StartAll m) f o e = let is : nmt_to command.Start 0 ≡ f = cc in subst (MayPut ls h) is (may_start_all m o.0 o.1)

pub stop_no_start : {X : Type 0} (n : ℕ) (m : NmtMessage) → m ≡ record { command = command.Stop; node = n } → m.command ≡ command.Start → X
stop_no_start n m a b = let y = sym (ap (λ (z : NmtMessage). z.command) a) ∙ b in let z : ◌≡◌ {A = ℕ} 0 1 = cc in absurd (omega arith)
