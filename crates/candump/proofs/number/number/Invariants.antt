use Rattle.std.proofs.Common.{◌≡◌, ◌^◌, ◌<◌, drop}
use Rattle.candump.specs.Logs.{number_on}
use Rattle.candump.proofs.number.number.Given as goal

-- the digits so far are worth n, and the others follow
abbrev pub invariant-loop-b : goal.invariant-loop-b
invariant-loop-b l = (number_on l.radix l.n (drop l.b-index l.digits) ≡ number_on l.radix 0 l.digits) × (l.n < l.radix ^ l.b-index)
