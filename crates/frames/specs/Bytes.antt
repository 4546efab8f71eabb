use Rattle.std.specs.Prelude.{ℕ, ◌+◌, ◌-◌, ◌*◌, List, [], ◌∷◌, ◌++◌, length, replicate}

-- Bytes, filled up with zeros to eight.
abbrev pub padded : List ℕ → List ℕ
padded xs = xs ++ replicate (8 - length xs) 0

-- The number that bytes carry, the lowest byte first.
abbrev pub number : List ℕ → ℕ
number [] = 0
number (b ∷ bs) = b + 256 * number bs
