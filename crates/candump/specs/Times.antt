-- Time stamps and ticks. Stamps are in microseconds.
use Rattle.std.specs.Prelude.{◌≡◌, ℕ, ◌+◌, ◌-◌, ◌*◌, ◌/◌, ◌<◌, ◌≤◌, cond, ◌||◌, Ok, Err, Result, nat_lt}
use Rattle.candump.specs.declared.clock.Slip.{Slip}
use Rattle.candump.specs.declared.clock.Slip.TheVariants.{Backwards, Gap}
use Rattle.candump.specs.declared.ticks.Ticks.{Ticks}

-- the whole milliseconds from the first stamp to a later one
abbrev pub elapsed : ℕ → ℕ → ℕ
elapsed first t = (t - first) / 1000

-- the ticks between two stamps: the milliseconds, counted from the first stamp, that end after the one and not after the other
abbrev pub ticks_between : ℕ → ℕ → ℕ → ℕ
ticks_between first s t = elapsed first t - elapsed first s

-- when the last millisecond that a stamp has seen ended
abbrev pub boundary : ℕ → ℕ → ℕ
boundary first t = first + elapsed first t * 1000

-- What a next stamp brings: none follows a later one, or one that is more than 24 hours back. Else the ticks are those between
-- the two, from the last end of a millisecond on, and they come up to the next stamp with less than a millisecond left.
abbrev pub Advance : ℕ → ℕ → ℕ → Result Ticks Slip → Type 0
Advance first s t (Ok n) =
    (s ≤ t) × (t - s ≤ 86400000000) × (n.since ≡ boundary first s) × (n.count ≡ ticks_between first s t) × (n.since + n.count * 1000 ≤ t) × (t < n.since + n.count * 1000 + 1000)
Advance first s t (Err Backwards) = t < s
Advance first s t (Err Gap) = 86400000000 < t - s

-- the latest stamp after a next one
abbrev pub latest_after : ℕ → ℕ → ℕ
latest_after s t = cond (nat_lt t s || nat_lt 86400000000 (t - s)) s t
