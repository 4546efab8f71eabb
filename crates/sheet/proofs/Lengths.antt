-- What writing leaves of a list's length.
use Rattle.std.proofs.Common.{◌≡◌, ℕ, ◌+◌, List, [], ◌∷◌, length, set, refl, ◌∙◌, length-set}
use Rattle.sheet.specs.Writes.{over}

-- however long the text is, and wherever it is written
pub over_length : (o : List ℕ) (i : ℕ) (xs : List ℕ) → length (over o i xs) ≡ length o
over_length o i [] = refl
over_length o i (x ∷ xs) = over_length (set o i x) (i + 1) xs ∙ length-set o i x
