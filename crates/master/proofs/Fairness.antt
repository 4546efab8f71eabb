-- A reset is due only to a slave that is not spared.
use Rattle.std.proofs.Common.{◌≡◌, ℕ, ◌-◌, Bool, true, false, cond, not, ◌&&◌, eqb, ltb, Some, None, Option, sym, refl, subst, Err, Ok, Result}
use Rattle.std.proofs.lemmas.Bool.{and_right, cond-false}
use Rattle.frames.specs.declared.error_control.Sign.{Sign}
use Rattle.frames.specs.declared.error_control.Sign.TheVariants as sign
use Rattle.frames.specs.declared.sdo.Reply.{Reply}
use Rattle.sheet.specs.Format.{SlaveLines}
use Rattle.master.specs.Checks.{runs, verdict_of, following}
use Rattle.master.specs.Step.{stepped, on_beat, on_sign, on_reply, on_tick, gone_on, decided, to, passed_by, requested, started_from, is_spared, may_run}
use Rattle.master.specs.Table.{change_by, fresh}
use Rattle.master.specs.declared.types.Change.{Change}
use Rattle.master.specs.declared.types.Change.TheVariants as change
use Rattle.master.specs.declared.types.Check.{Check}
use Rattle.master.specs.declared.types.Check.TheVariants.{Kind}
use Rattle.master.specs.declared.types.Entry.{Entry}
use Rattle.master.specs.declared.types.Input.{Input}
use Rattle.master.specs.declared.types.Input.TheVariants as input
use Rattle.master.specs.declared.types.Letter.{Letter}
use Rattle.master.specs.declared.types.Next.{Next}
use Rattle.master.specs.declared.types.Next.TheVariants as next
use Rattle.master.specs.declared.types.ResetKind.{ResetKind}
use Rattle.master.specs.declared.types.Stage.{Stage}
use Rattle.master.specs.declared.types.Stage.TheVariants.{AwaitBoot, Ask, Asked, ListenState, ListenControl, Passed, Retry, ResetDue}
use Rattle.master.specs.declared.types.Stepped.{Stepped}
use Rattle.master.specs.declared.types.Word.{Word}
use Rattle.master.specs.declared.types.Word.TheVariants as word
use Rattle.master.proofs.Choosing.{choose, no}
use Rattle.master.proofs.Seeing.{made}

abbrev pub due_reset : Stage → Bool
due_reset (AwaitBoot n) = false
due_reset (Ask k) = false
due_reset (Asked k n) = false
due_reset (ListenState n) = false
due_reset (ListenControl n r) = false
due_reset (Passed r s n) = false
due_reset (Retry n) = false
due_reset (ResetDue k) = true

abbrev pub Fair : SlaveLines → Entry → Type 0
Fair c e = due_reset e.stage ≡ true → is_spared c e ≡ false

module _ (c : SlaveLines) (b : Bool) (l : Option Letter) (o : Bool) where
  -- a state other than Operational
  off_beat : (s : Sign) (w : Word) → may_run w ≡ false → (x : Stage) → Fair c (on_beat c s x (made x w b l o))
  off_beat s w m (AwaitBoot n) = no
  off_beat s w m (Ask k) = no
  off_beat s w m (Asked k n) = no
  off_beat s w m (ListenState n) = λ _. and_right c.keep (may_run w) m
  off_beat s w m (ListenControl n r) = choose (Fair c) (r && not (runs s)) _ _ (λ _. and_right c.keep (may_run w) m) no
  off_beat s w m (Passed r t n) = no
  off_beat s w m (Retry n) = no
  off_beat s w m (ResetDue k) = choose (Fair c) (c.keep && runs s) _ _ no (λ _. and_right c.keep (may_run w) m)

  due_beat : (keep : Bool) (k : ResetKind) → (due_reset (cond (keep && true) (to (Ask Kind) (made (ResetDue k) word.Operational b l o)) (made (ResetDue k) word.Operational b l o)).stage ≡ true) → (keep && true) ≡ false
  due_beat true k e = no e
  due_beat false k e = refl

  beat_is_heard : (x : Stage) → Fair c (on_beat c sign.Operational x (made x word.Operational b l o))
  beat_is_heard (AwaitBoot n) = no
  beat_is_heard (Ask k) = no
  beat_is_heard (Asked k n) = no
  beat_is_heard (ListenState n) = no
  beat_is_heard (ListenControl n r) = subst (Fair c) (sym (cond-false (r && false) _ (passed_by c r (made (ListenControl n r) word.Operational b l o)) (and_right r false refl))) no
  beat_is_heard (Passed r t n) = no
  beat_is_heard (Retry n) = no
  beat_is_heard (ResetDue k) = λ e. spared (due_beat c.keep k e)
    where
      spared : (c.keep && true) ≡ false → is_spared c (cond (c.keep && true) (to (Ask Kind) (made (ResetDue k) word.Operational b l o)) (made (ResetDue k) word.Operational b l o)) ≡ false
      spared e = choose (λ (z : Entry). is_spared c z ≡ false) (c.keep && true) _ _ e e

fair_sign : (c : SlaveLines) (s : Sign) (e : Entry) → Fair c (on_sign c s e)
fair_sign c sign.BootUp e = no
fair_sign c sign.Stopped e = off_beat c e.booted e.result e.once sign.Stopped word.Stopped refl e.stage
fair_sign c sign.Operational e = beat_is_heard c e.booted e.result e.once e.stage
fair_sign c sign.PreOperational e = off_beat c e.booted e.result e.once sign.PreOperational word.PreOperational refl e.stage

fair_next : (c : SlaveLines) (n : Next) (e : Entry) → Fair c (gone_on c n e)
fair_next c (next.Ask k) e = no
fair_next c next.ListenState e = no
fair_next c next.ListenControl e = no
fair_next c next.Pass e = no

fair_decided : (c : SlaveLines) (k : Check) (v : Result (Unit {0}) Letter) (e : Entry) → Fair c (decided c k v e).entry
fair_decided c k (Ok u) e = fair_next c (following c e.booted k) e
fair_decided c k (Err m) e = no

fair_reply : (c : SlaveLines) (r : Reply) (x : Stage) (e : Entry) → Fair c e → Fair c (on_reply c r x e).entry
fair_reply c r (AwaitBoot n) e f = f
fair_reply c r (Ask k) e f = f
fair_reply c r (Asked k n) e f = fair_decided c k (verdict_of c k r) e
fair_reply c r (ListenState n) e f = f
fair_reply c r (ListenControl n s) e f = f
fair_reply c r (Passed s t n) e f = f
fair_reply c r (Retry n) e f = f
fair_reply c r (ResetDue k) e f = f

abbrev FairStep : SlaveLines → Stepped → Type 0
FairStep c x = Fair c x.entry

fair_tick : (c : SlaveLines) (x : Stage) (e : Entry) → Fair c e → FairStep c (on_tick c x e)
fair_tick c (AwaitBoot None) e f = f
fair_tick c (AwaitBoot (Some n)) e f = choose (λ y. Fair c (to y e)) (ltb 1 n) (AwaitBoot (Some (n - 1))) (Ask Kind) no no
fair_tick c (Ask k) e f = f
fair_tick c (Asked k n) e f = choose (FairStep c) (ltb 1 n) _ _ no no
fair_tick c (ListenState n) e f = choose (FairStep c) (ltb 1 n) _ _ no no
fair_tick c (ListenControl n r) e f = choose (FairStep c) (ltb 1 n) _ _ no no
fair_tick c (Passed r s n) e f = choose (FairStep c) (eqb c.hb 0) _ _ f (choose (FairStep c) (ltb 1 n) _ _ no (λ _. and_right c.keep false refl))
fair_tick c (Retry n) e f = choose (λ y. Fair c (to y e)) (ltb 1 n) (Retry (n - 1)) (Ask Kind) no no
fair_tick c (ResetDue k) e f = f

pub fair_step : (c : SlaveLines) (e : Entry) (i : Input) → Fair c e → Fair c (stepped c e i).entry
fair_step c e (input.Heard s) f = fair_sign c s e
fair_step c e (input.Replied r) f = fair_reply c r e.stage e f
fair_step c e input.Tick f = fair_tick c e.stage e f

fair_request : (c : SlaveLines) (wait : ℕ) (x : Stage) (e : Entry) → Fair c e → Fair c (requested wait x e)
fair_request c wait (AwaitBoot n) e f = f
fair_request c wait (Ask k) e f = no
fair_request c wait (Asked k n) e f = f
fair_request c wait (ListenState n) e f = f
fair_request c wait (ListenControl n r) e f = f
fair_request c wait (Passed r s n) e f = f
fair_request c wait (Retry n) e f = f
fair_request c wait (ResetDue k) e f = f

fair_start : (c : SlaveLines) (x : Stage) (e : Entry) → Fair c e → Fair c (started_from x e)
fair_start c (AwaitBoot n) e f = f
fair_start c (Ask k) e f = f
fair_start c (Asked k n) e f = f
fair_start c (ListenState n) e f = f
fair_start c (ListenControl n r) e f = f
fair_start c (Passed r s n) e f = no
fair_start c (Retry n) e f = f
fair_start c (ResetDue k) e f = f

pub fair_change : (g : Change) (c : SlaveLines) (e : Entry) → Fair c e → Fair c (change_by g c e)
fair_change change.Begin c e f = choose (Fair c) c.keep (to (Ask Kind) e) e no f
fair_change change.Reset c e f = no
fair_change (change.Request wait) c e f = fair_request c wait e.stage e f
fair_change change.Start c e f = fair_start c e.stage e f

pub fair_fresh : (c : SlaveLines) → Fair c fresh
fair_fresh c = no
