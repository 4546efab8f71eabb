use Rattle.std.specs.Prelude.{◌≡◌, ℕ, ◌<◌, ◌≤◌, List, [], length, Ok, Err, Result}
use Rattle.frames.specs.Lists.{turned}
use Rattle.frames.specs.declared.refusal.Refusal.{Refusal}
use Rattle.frames.specs.declared.refusal.Refusal.TheVariants.{Memory}
use Rattle.frames.specs.declared.queue.Queue.{Queue}

-- What waits in a queue, first to last.
abbrev pub waiting : {T : Type 0} → Queue T → List T
waiting q = turned q.slots.now q.head q.len

-- How many can wait in it.
abbrev pub most : {T : Type 0} → Queue T → ℕ
most q = length q.slots.now

-- In memory of n places a queue begins empty and can hold n, where n is 1 to 64; other memory is refused.
abbrev pub Begun : {T : Type 0} → ℕ → Result (Queue T) Refusal → Type 0
Begun n (Ok q) = (1 ≤ n) × (n ≤ 64) × (waiting q ≡ []) × (most q ≡ n)
Begun n (Err e) = (e ≡ Memory) × (1 ≤ n → 64 < n)
