-- What every queue keeps. Assumes nothing.
use Rattle.std.proofs.Common.{◌≡◌, ◌≤◌, length, arith}
use Rattle.frames.specs.declared.queue.Queue.{Queue}
use Rattle.frames.specs.Waiting.{waiting, most}
use Rattle.frames.proofs.Rings.{length_turned}

-- as many wait as it counts
pub length_waiting : {T : Type 0} (q : Queue T) → length (waiting q) ≡ q.len
length_waiting q = length_turned q.slots.now q.head q.len (omega (arith, q.head_ok)) q.len_ok

-- at least one element can wait
pub queue_some : {T : Type 0} (q : Queue T) → 1 ≤ most q
queue_some q = omega (arith, q.head_ok)

-- and no more wait than can
pub queue_within : {T : Type 0} (q : Queue T) → length (waiting q) ≤ most q
queue_within q = omega (arith, length_waiting q, q.len_ok)
