use Rattle.std.specs.Prelude.{ℕ}
use Rattle.frames.specs.declared.refusal.Refusal.{Refusal}
use Rattle.frames.specs.declared.refusal.Refusal.TheVariants.{Memory, Malformed}

-- The numbers of the refusals: 9 for lent memory of no element or of more than 64, 11 for an identifier above 2047 or
-- more than 8 bytes.
abbrev pub number_of : Refusal → ℕ
number_of Memory = 9
number_of Malformed = 11
