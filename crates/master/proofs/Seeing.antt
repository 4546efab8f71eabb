-- An entry as the record reads its slave, and that what happens to the one happens to the other.
use Rattle.std.proofs.Common.{◌≡◌, ℕ, ◌+◌, ◌-◌, Bool, true, false, cond, not, ◌&&◌, eqb, ltb, length, Some, None, Option, refl, ap, Err, Ok, Result}
use Rattle.frames.specs.declared.error_control.Sign.{Sign}
use Rattle.frames.specs.declared.error_control.Sign.TheVariants as sign
use Rattle.frames.specs.declared.sdo.Reply.{Reply}
use Rattle.sheet.specs.Format.{SlaveLines}
use Rattle.master.specs.Checks.{runs, verdict_of, following, from_control, from_set, from_state, from_serial, from_revision, from_product, from_vendor}
use Rattle.master.specs.Record.{Try, none, to_ask, asked, at_state, at_control, passed, Reading, now_at, beaten, signed, judged_by, waited, onward, has_passed, clears}
use Rattle.master.specs.Step.{on_beat, on_sign, on_reply, on_tick, gone_on, decided, is_passed, is_cleared}
use Rattle.master.specs.declared.types.Check.{Check}
use Rattle.master.specs.declared.types.Check.TheVariants.{Kind, Vendor, Product, Revision, Serial, Set}
use Rattle.master.specs.declared.types.Entry.{Entry}
use Rattle.master.specs.declared.types.Letter.{Letter}
use Rattle.master.specs.declared.types.Next.{Next}
use Rattle.master.specs.declared.types.Next.TheVariants as next
use Rattle.master.specs.declared.types.ResetKind.TheVariants as reset
use Rattle.master.specs.declared.types.Stage.{Stage}
use Rattle.master.specs.declared.types.Stage.TheVariants.{AwaitBoot, Ask, Asked, ListenState, ListenControl, Passed, Retry, ResetDue}
use Rattle.master.specs.declared.types.Stepped.{Stepped}
use Rattle.master.specs.declared.types.Word.{Word}
use Rattle.master.specs.declared.types.Word.TheVariants.{Stopped, Operational, PreOperational}

-- a try begins with its first request: while that is due there is none
abbrev pub to_ask_of : Check → Try
to_ask_of Kind = none
to_ask_of Vendor = to_ask Vendor
to_ask_of Product = to_ask Product
to_ask_of Revision = to_ask Revision
to_ask_of Serial = to_ask Serial
to_ask_of (Set i) = to_ask (Set i)

abbrev pub try_of : Stage → Try
try_of (AwaitBoot left) = none
try_of (Ask k) = to_ask_of k
try_of (Asked k left) = asked k left
try_of (ListenState left) = at_state left
try_of (ListenControl left running) = at_control left running
try_of (Passed running started left) = passed running started left
try_of (Retry left) = none
try_of (ResetDue kind) = none

abbrev pub seen : Entry → Reading
seen e = record { at = try_of e.stage; booted = e.booted; word = e.word; once = e.once }

abbrev pub made : Stage → Word → Bool → Option Letter → Bool → Entry
made x w b l o = record { stage = x; word = w; booted = b; result = l; once = o }

-- a choice on either side
both : {X Z : Type 0} (f : X → Z) (b : Bool) (x y : X) (u v : Z) → f x ≡ u → f y ≡ v → f (cond b x y) ≡ cond b u v
both f true x y u v p q = p
both f false x y u v p q = q

one : {X Z : Type 0} (f : X → Z) (b : Bool) (x y : X) (u : Z) → f x ≡ u → f y ≡ u → f (cond b x y) ≡ u
one f true x y u p q = p
one f false x y u p q = q

module _ (c : SlaveLines) (w : Word) (b : Bool) (l : Option Letter) (o : Bool) where
  ask_tick : (k : Check) → seen (made (Ask k) w b l o) ≡ waited c (to_ask_of k) (seen (made (Ask k) w b l o))
  ask_tick Kind = refl
  ask_tick Vendor = refl
  ask_tick Product = refl
  ask_tick Revision = refl
  ask_tick Serial = refl
  ask_tick (Set i) = refl

  stage_tick : (x : Stage) → seen (on_tick c x (made x w b l o)).entry ≡ waited c (try_of x) (seen (made x w b l o))
  stage_tick (AwaitBoot None) = refl
  stage_tick (AwaitBoot (Some n)) = one (λ x. seen (made x w b l o)) (ltb 1 n) (AwaitBoot (Some (n - 1))) (Ask Kind) _ refl refl
  stage_tick (Ask k) = ask_tick k
  stage_tick (Asked k n) = both (λ (s : Stepped). seen s.entry) (ltb 1 n) _ _ _ _ refl refl
  stage_tick (ListenState n) = both (λ (s : Stepped). seen s.entry) (ltb 1 n) _ _ _ _ refl refl
  stage_tick (ListenControl n r) = both (λ (s : Stepped). seen s.entry) (ltb 1 n) _ _ _ _ refl refl
  stage_tick (Passed r s n) =
      both (λ (s : Stepped). seen s.entry) (eqb c.hb 0) _ _ _ _ refl (both (λ (s : Stepped). seen s.entry) (ltb 1 n) _ _ _ _ refl refl)
  stage_tick (Retry n) = one (λ x. seen (made x w b l o)) (ltb 1 n) (Retry (n - 1)) (Ask Kind) _ refl refl
  stage_tick (ResetDue k) = refl

pub seen_tick : (c : SlaveLines) (e : Entry) → seen (on_tick c e.stage e).entry ≡ waited c (try_of e.stage) (seen e)
seen_tick c e = stage_tick c e.word e.booted e.result e.once e.stage

two : {X Y Z : Type 0} (f : X → Z) (g : Y → Z) (b : Bool) (x y : X) (u v : Y) → f x ≡ g u → f y ≡ g v → f (cond b x y) ≡ g (cond b u v)
two f g true x y u v p q = p
two f g false x y u v p q = q

module _ (c : SlaveLines) (s : Sign) (w : Word) (b : Bool) (l : Option Letter) (o : Bool) where
  ask_beat : (k : Check) → seen (made (Ask k) w b l o) ≡ beaten c s (to_ask_of k) (seen (made (Ask k) w b l o))
  ask_beat Kind = refl
  ask_beat Vendor = refl
  ask_beat Product = refl
  ask_beat Revision = refl
  ask_beat Serial = refl
  ask_beat (Set i) = refl

  stage_beat : (x : Stage) → seen (on_beat c s x (made x w b l o)) ≡ beaten c s (try_of x) (seen (made x w b l o))
  stage_beat (AwaitBoot n) = refl
  stage_beat (Ask k) = ask_beat k
  stage_beat (Asked k n) = refl
  stage_beat (ListenState n) = two (λ x. seen (made x w b l o)) (λ t. now_at t (seen (made (ListenState n) w b l o))) (runs s) (ListenControl c.hb true) (ResetDue reset.Communication) (at_control c.hb true) none refl refl
  stage_beat (ListenControl n r) = both seen (r && not (runs s)) _ _ _ _ refl refl
  stage_beat (Passed r t n) = refl
  stage_beat (Retry n) = refl
  stage_beat (ResetDue k) = one seen (c.keep && runs s) _ _ _ refl refl

pub seen_sign : (c : SlaveLines) (s : Sign) (e : Entry) → seen (on_sign c s e) ≡ signed c s (seen e)
seen_sign c sign.BootUp e = refl
seen_sign c sign.Stopped e = stage_beat c sign.Stopped Stopped e.booted e.result e.once e.stage
seen_sign c sign.Operational e = stage_beat c sign.Operational Operational e.booted e.result e.once e.stage
seen_sign c sign.PreOperational e = stage_beat c sign.PreOperational PreOperational e.booted e.result e.once e.stage

-- no check leads back to the first
abbrev pub Later : Next → Type 0
Later (next.Ask Kind) = ⊥
Later (next.Ask Vendor) = Unit {0}
Later (next.Ask Product) = Unit {0}
Later (next.Ask Revision) = Unit {0}
Later (next.Ask Serial) = Unit {0}
Later (next.Ask (Set i)) = Unit {0}
Later next.ListenState = Unit {0}
Later next.ListenControl = Unit {0}
Later next.Pass = Unit {0}

either : (b : Bool) (x y : Next) → Later x → Later y → Later (cond b x y)
either true x y p q = p
either false x y p q = q

module _ (c : SlaveLines) where
  later_control : Later (from_control c)
  later_control = either (eqb c.hb 0) next.Pass next.ListenControl tt tt

  later_set : (i : ℕ) → Later (from_set c i)
  later_set i = either (ltb i (length c.sets)) (next.Ask (Set i)) (from_control c) tt later_control

  module _ (b : Bool) where
    later_state : Later (from_state c b)
    later_state = either (c.keep && not b) next.ListenState (from_set c 0) tt (later_set 0)

    later_serial : Later (from_serial c b)
    later_serial = either (eqb c.serial 0) (from_state c b) (next.Ask Serial) later_state tt

    later_revision : Later (from_revision c b)
    later_revision = either (eqb c.revision 0) (from_serial c b) (next.Ask Revision) later_serial tt

    later_product : Later (from_product c b)
    later_product = either (eqb c.product 0) (from_revision c b) (next.Ask Product) later_revision tt

    later_vendor : Later (from_vendor c b)
    later_vendor = either (eqb c.vendor 0) (from_product c b) (next.Ask Vendor) later_product tt

    pub later : (k : Check) → Later (following c b k)
    later Kind = later_vendor
    later Vendor = later_product
    later Product = later_revision
    later Revision = later_serial
    later Serial = later_state
    later (Set i) = later_set (i + 1)

seen_onward : (c : SlaveLines) (n : Next) (e : Entry) → Later n → seen (gone_on c n e) ≡ onward c n (seen e)
seen_onward c (next.Ask Kind) e h = absurd h
seen_onward c (next.Ask Vendor) e h = refl
seen_onward c (next.Ask Product) e h = refl
seen_onward c (next.Ask Revision) e h = refl
seen_onward c (next.Ask Serial) e h = refl
seen_onward c (next.Ask (Set i)) e h = refl
seen_onward c next.ListenState e h = refl
seen_onward c next.ListenControl e h = refl
seen_onward c next.Pass e h = refl

seen_decided : (c : SlaveLines) (k : Check) (v : Result (Unit {0}) Letter) (e : Entry) → seen (decided c k v e).entry ≡ judged_by c k v (seen e)
seen_decided c k (Ok u) e = seen_onward c (following c e.booted k) e (later c e.booted k)
seen_decided c k (Err l) e = refl

-- an answer that fits the open request
pub seen_reply : (c : SlaveLines) (k : Check) (left : ℕ) (r : Reply) (e : Entry) → seen (on_reply c r (Asked k left) e).entry ≡ judged_by c k (verdict_of c k r) (seen e)
seen_reply c k left r e = seen_decided c k (verdict_of c k r) e

pub seen_passed : (x : Stage) → is_passed x ≡ has_passed (try_of x)
seen_passed (AwaitBoot n) = refl
seen_passed (Ask Kind) = refl
seen_passed (Ask Vendor) = refl
seen_passed (Ask Product) = refl
seen_passed (Ask Revision) = refl
seen_passed (Ask Serial) = refl
seen_passed (Ask (Set i)) = refl
seen_passed (Asked k n) = refl
seen_passed (ListenState n) = refl
seen_passed (ListenControl n r) = refl
seen_passed (Passed r s n) = refl
seen_passed (Retry n) = refl
seen_passed (ResetDue k) = refl

-- the record clears whom the master does
pub seen_cleared : (c : SlaveLines) (e : Entry) → is_cleared c e ≡ clears c (seen e)
seen_cleared c e = ap (λ p. cond c.mandatory p e.once) (seen_passed e.stage)
