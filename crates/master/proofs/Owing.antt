-- A slave that is owed its start and stays passed is owed it until a start reaches it.
use Rattle.std.proofs.Common.{◌≡◌, ℕ, Bool, true, not, ◌&&◌, eqb, ltb, Some, None, Option, sym, refl, subst, ⊎_elim}
use Rattle.std.proofs.lemmas.Bool.{cases_Bool, cond-true, cond-false}
use Rattle.frames.specs.Contents.{Content}
use Rattle.frames.specs.Nmt.{nmt_in, reaches}
use Rattle.frames.specs.Signs.{sign_in}
use Rattle.frames.specs.declared.error_control.Sign.{Sign}
use Rattle.frames.specs.declared.error_control.Sign.TheVariants as sign
use Rattle.frames.specs.declared.nmt.Command.{Command}
use Rattle.frames.specs.declared.nmt.Command.TheVariants as command
use Rattle.frames.specs.declared.nmt.NmtMessage.{NmtMessage}
use Rattle.sheet.specs.Format.{SlaveLines, SheetLines}
use Rattle.master.specs.Record.{Try, none, to_ask, asked, at_state, at_control, passed, Reading, Event, heard, tick, put, read, heard_from, waited, put_to, commanded, asks_for, has_passed, owes_start}
use Rattle.master.specs.Step.{duty_of}
use Rattle.master.specs.declared.types.Check.TheVariants.{Kind, Vendor, Product, Revision, Serial, Set}
use Rattle.master.specs.declared.types.Duty.TheVariants as duty
use Rattle.master.specs.declared.types.Stage.{Stage}
use Rattle.master.specs.declared.types.Stage.TheVariants.{AwaitBoot, Ask, Asked, ListenState, ListenControl, Passed, Retry, ResetDue}
use Rattle.master.specs.declared.types.Word.{Word}
use Rattle.master.proofs.Choosing.{choose, no}
use Rattle.master.proofs.Seeing.{try_of}

-- the event is no start that reaches the slave
abbrev pub Other : SheetLines → SlaveLines → Event → Type 0
Other ls c (heard f) = Unit {0}
Other ls c tick = Unit {0}
Other ls c (put f) = (m : NmtMessage) → nmt_in f ≡ Some m → m.command ≡ command.Start → reaches m c.node ls.own ≡ true → ⊥

module _ (ls : SheetLines) (c : SlaveLines) (a b : Bool) (q : ℕ) (o : Bool) (w : Word) (u : Bool) (owes : (not a && not b) ≡ true) where
  abbrev was : Reading
  was = record { at = passed a b q; booted = o; word = w; once = u }

  abbrev Keeps : Reading → Type 0
  Keeps r = has_passed r.at ≡ true → owes_start r.at ≡ true

  sign_keeps : (f : Content) (s : Option Sign) → Keeps (heard_from c f s was)
  sign_keeps f None = λ _. owes
  sign_keeps f (Some sign.BootUp) = no
  sign_keeps f (Some sign.Stopped) = λ _. owes
  sign_keeps f (Some sign.Operational) = λ _. owes
  sign_keeps f (Some sign.PreOperational) = λ _. owes

  tick_keeps : Keeps (waited c (passed a b q) was)
  tick_keeps = choose Keeps (eqb c.hb 0) _ _ (λ _. owes) (choose Keeps (ltb 1 q) _ _ (λ _. owes) no)

  command_keeps : (k : Command) → (k ≡ command.Start → ⊥) → Keeps (commanded k was)
  command_keeps command.Start n = absurd (n refl)
  command_keeps command.Stop n = λ _. owes
  command_keeps command.ResetNode n = no
  command_keeps command.ResetCommunication n = no

  put_keeps : (f : Content) (m : Option NmtMessage) → ((x : NmtMessage) → m ≡ Some x → x.command ≡ command.Start → reaches x c.node ls.own ≡ true → ⊥) → Keeps (put_to ls c f m was)
  put_keeps f None g = choose Keeps (asks_for c f Kind) _ _ no (λ _. owes)
  put_keeps f (Some m) g =
      ⊎_elim
      (λ t. subst Keeps (sym (cond-true _ (commanded m.command was) was t)) (command_keeps m.command (λ e. g m refl e t)))
      (λ t. subst Keeps (sym (cond-false _ (commanded m.command was) was t)) (λ _. owes))
      (cases_Bool (reaches m c.node ls.own))

  event_keeps : (x : Event) → Other ls c x → Keeps (read ls c was x)
  event_keeps (heard f) g = sign_keeps f (sign_in f c.node)
  event_keeps tick g = tick_keeps
  event_keeps (put f) g = put_keeps f (nmt_in f) g

owed_by : (ls : SheetLines) (c : SlaveLines) (x : Event) (t : Try) (o : Bool) (w : Word) (u : Bool) → owes_start t ≡ true → Other ls c x → has_passed (read ls c (record { at = t; booted = o; word = w; once = u }) x).at ≡ true → owes_start (read ls c (record { at = t; booted = o; word = w; once = u }) x).at ≡ true
owed_by ls c x none o w u e g h = no e
owed_by ls c x (to_ask k) o w u e g h = no e
owed_by ls c x (asked k n) o w u e g h = no e
owed_by ls c x (at_state n) o w u e g h = no e
owed_by ls c x (at_control n r) o w u e g h = no e
owed_by ls c x (passed a b q) o w u e g h = event_keeps ls c a b q o w u e x g h

pub owed_step : (ls : SheetLines) (c : SlaveLines) (r : Reading) (x : Event) → owes_start r.at ≡ true → Other ls c x → has_passed (read ls c r x).at ≡ true → owes_start (read ls c r x).at ≡ true
owed_step ls c r x = owed_by ls c x r.at r.booted r.word r.once

-- who is owed its start has it as its duty, while Go
pub start_owed : (x : Stage) → owes_start (try_of x) ≡ true → duty_of true x ≡ Some duty.Start
start_owed (AwaitBoot n) e = no e
start_owed (Ask Kind) e = no e
start_owed (Ask Vendor) e = no e
start_owed (Ask Product) e = no e
start_owed (Ask Revision) e = no e
start_owed (Ask Serial) e = no e
start_owed (Ask (Set i)) e = no e
start_owed (Asked k n) e = no e
start_owed (ListenState n) e = no e
start_owed (ListenControl n r) e = no e
start_owed (Passed r s n) e = cond-true _ _ _ e
start_owed (Retry n) e = no e
start_owed (ResetDue k) e = no e
