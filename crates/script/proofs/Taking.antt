-- A call of `next` on an iterator of which the items to come are known.
use Rattle.std.proofs.Common.{◌≡◌, List, [], ◌∷◌, Some, None, Option, sym, refl, ap}
use Rattle.std.specs.Iterator.{AlwaysYields}

module _ {S A B : Type 0} (steps : S → Option A → S → Type 0) (v : A → B) where
  -- it gives the first, and leaves the others
  pub took : (s t : S) (x : A) (ps : List B) → AlwaysYields steps v s ps → steps s (Some x) t → (qs : List B) × (ps ≡ v x ∷ qs) × AlwaysYields steps v t qs
  took s t x [] h k = absurd (h x t k)
  took s t x (p ∷ ps) h k = (ps, ap (λ q. q ∷ ps) (sym (h.1 x t k).0), (h.1 x t k).1)

  -- with none given there were none
  pub took_none : (s t : S) (ps : List B) → AlwaysYields steps v s ps → steps s None t → ps ≡ []
  took_none s t [] h k = refl
  took_none s t (p ∷ ps) h k = absurd (h.0 t k)
