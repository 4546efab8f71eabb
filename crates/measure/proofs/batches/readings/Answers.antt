use Rattle.std.proofs.Common.{◌≡◌, ℕ, cond, is_ok, ap, ◌∙◌, arith}
use Rattle.sheet.specs.Format.{reading}
use Rattle.measure.proofs.Counting.{none_yet}
use Rattle.measure.proofs.batches.readings.Goals as goal

pub loop-init : goal.loop-init
loop-init c = none_yet (is_ok (reading c.args.text.now))

pub returns : goal.returns
returns c =
    let all : c.loop.counter ≡ c.args.count = omega arith in
    c.loop.invariant ∙ ap (λ (n : ℕ). cond (is_ok (reading c.args.text.now)) n 0) all
