use Rattle.std.proofs.Common.{◌≡◌, ◌+◌, ◌*◌, ◌≤◌, length}
use Rattle.sheet.specs.Few.{few_items}
use Rattle.candump.specs.Logs.{pairs_in}
use Rattle.candump.proofs.Pairs.{onto}
use Rattle.candump.proofs.reader.frame_with.Given as goal

-- the bytes so far and those that the rest says are those of the text, and there is room for them
abbrev pub invariant-loop-rest : goal.invariant-loop-rest
invariant-loop-rest l =
    (onto (few_items l.bytes) (pairs_in l.rest) ≡ pairs_in l.text)
    × (length l.rest + length (few_items l.bytes) * 2 ≤ 16)

abbrev pub decreases-loop-rest : goal.decreases-loop-rest
decreases-loop-rest l = length l.rest
