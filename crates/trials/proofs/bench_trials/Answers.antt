use Rattle.std.proofs.Common.{◌≡◌, Bool, true, false, cond, ◌&&◌, eqb, refl}
use Rattle.frames.specs.Contents.{content_of}
use Rattle.trials.proofs.bench_trials.Goals as goal

-- without a pause nothing is held back
open_now : {X : Type 0} (b : Bool) (x y : X) → cond (b && false) x y ≡ y
open_now true x y = refl
open_now false x y = refl

pub returns : goal.returns
returns c = record {
  met_after_99 = refl;
  open_after_99 = refl;
  missed_at_100 = refl;
  zero_reads = refl;
  zeros_refused = refl;
  last_reads = refl;
  next_refused = refl;
  gaps = (refl, refl, refl, refl);
  answers = (refl, refl);
  fitting_used = refl;
  other_unused = refl;
  go_with_none = refl;
  go_without_optional = refl;
  optional_missed = refl;
  no_go_without_mandatory = refl;
  resets_125 = refl;
  first_to_2 = refl;
  ring_of_one = λ a b. let command : Bool = eqb (content_of a).id 0 in (refl, refl, refl, refl, open_now command _ _, open_now command _ _, refl);
}
