-- How a text falls into parts at its commas.
use Rattle.std.proofs.Common.{◌≡◌, ℕ, Bool, true, false, cond, eqb, List, [], ◌∷◌, Some, None, Option, refl, ap, ◌∙◌, arith}
use Rattle.std.specs.List.{onto_first}
use Rattle.std.specs.Option.{option_map}
use Rattle.sheet.specs.Lines.{cut_at}
use Rattle.script.specs.Sessions.{parts}

-- the part before the first comma is the first, and the others are those after it
first_by : (c : ℕ) (cs : List ℕ) (f : Bool) (o : Option (List ℕ × List ℕ)) (r : List ℕ × List ℕ) → ((q : List ℕ × List ℕ) → Some q ≡ o → parts cs ≡ q.0 ∷ parts q.1) → Some r ≡ cond f (Some ([], cs)) (option_map (λ p. (c ∷ p.0, p.1)) o) → cond f ([] ∷ parts cs) (onto_first c (parts cs)) ≡ r.0 ∷ parts r.1
first_by c cs true o r ih e =
    let p : r.0 ≡ [] = cc in
    let q : r.1 ≡ cs = cc in
    cc
first_by c cs false None r ih e = absurd (let z : ◌≡◌ {A = ℕ} 0 1 = cc in omega arith)
first_by c cs false (Some q) r ih e =
    let p : r.0 ≡ c ∷ q.0 = cc in
    let s : r.1 ≡ q.1 = cc in
    ap (onto_first c) (ih q refl) ∙ cc

pub parts_first : (t : List ℕ) (r : List ℕ × List ℕ) → Some r ≡ cut_at 44 t → parts t ≡ r.0 ∷ parts r.1
parts_first [] r e = absurd (let z : ◌≡◌ {A = ℕ} 0 1 = cc in omega arith)
parts_first (c ∷ cs) r e = first_by c cs (eqb c 44) (cut_at 44 cs) r (parts_first cs) e

-- with no comma there is one part
only_by : (c : ℕ) (cs : List ℕ) (f : Bool) (o : Option (List ℕ × List ℕ)) → (None ≡ o → parts cs ≡ cs ∷ []) → None ≡ cond f (Some (let p : List ℕ × List ℕ = ([], cs) in p)) (option_map (λ p. (c ∷ p.0, p.1)) o) → cond f ([] ∷ parts cs) (onto_first c (parts cs)) ≡ (c ∷ cs) ∷ []
only_by c cs true o ih e = absurd (let z : ◌≡◌ {A = ℕ} 0 1 = cc in omega arith)
only_by c cs false None ih e = ap (onto_first c) (ih refl)
only_by c cs false (Some q) ih e = absurd (let z : ◌≡◌ {A = ℕ} 0 1 = cc in omega arith)

pub parts_only : (t : List ℕ) → None ≡ cut_at 44 t → parts t ≡ t ∷ []
parts_only [] e = refl
parts_only (c ∷ cs) e = only_by c cs (eqb c 44) (cut_at 44 cs) (parts_only cs) e
