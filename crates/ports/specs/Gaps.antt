use Rattle.std.specs.Prelude.{◌≡◌, ℕ, ◌+◌, ◌/◌, ◌%◌, min}

-- The gap of an inhibit time: a tick has ten of its units of 100 µs, and a part of a tick counts as a whole one.
abbrev pub gap_ticks : ℕ → ℕ
gap_ticks inhibit = inhibit / 10 + min 1 (inhibit % 10)

-- Inhibit times of 0, 1, 10 and 11 give gaps of 0, 1, 1 and 2 ticks.
abbrev pub GapTrials : Type 0
GapTrials = (gap_ticks 0 ≡ 0) × (gap_ticks 1 ≡ 1) × (gap_ticks 10 ≡ 1) × (gap_ticks 11 ≡ 2)
