-- What `!=` on slices answers.
use Rattle.std.proofs.Common.{◌≡◌, ℕ, Bool, true, false, not, List, sym, ◌∙◌}
use Rattle.std.specs.Str.{bytes_eq}
use Rattle.std.proofs.lemmas.Slice.Eq.{bytes_eq-Decides}
use Rattle.std.proofs.lemmas.Bool.{not-true, not-false}
use Rattle.std.proofs.lemmas.Bool.Decides.{not_from_Decides}

-- where it says yes, the slices are not the same
pub differs : (xs ys : List ℕ) (r : Bool) → r ≡ not (bytes_eq xs ys) → r ≡ true → xs ≡ ys → ⊥
differs xs ys r e h s = not_from_Decides (bytes_eq xs ys) (bytes_eq-Decides xs ys) (not-true (bytes_eq xs ys) (sym e ∙ h)) s

-- and where it says no, they are
pub same : (xs ys : List ℕ) (r : Bool) → r ≡ not (bytes_eq xs ys) → r ≡ false → xs ≡ ys
same xs ys r e h = (bytes_eq-Decides xs ys).0 (not-false (bytes_eq xs ys) (sym e ∙ h))
