use Rattle.std.proofs.Common.{◌≡◌, cond, is_ok}
use Rattle.sheet.specs.Format.{reading}
use Rattle.measure.proofs.batches.readings.Given as goal

abbrev pub invariant-loop : goal.invariant-loop
invariant-loop l = l.read ≡ cond (is_ok (reading l.text)) l.counter 0
