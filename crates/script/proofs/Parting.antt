-- How a text falls into lines.
use Rattle.std.proofs.Common.{◌≡◌, ℕ, ◌<◌, Bool, true, false, cond, eqb, List, [], ◌∷◌, length, Some, None, Option, unwrap_or, refl, ap, arith}
use Rattle.std.specs.List.{onto_first}
use Rattle.std.specs.Option.{option_map}
use Rattle.sheet.specs.Lines.{cut_at}
use Rattle.script.specs.Sessions.{first_line, lines}

-- what comes after the cut is shorter
shorter_by : (c : ℕ) (cs : List ℕ) (f : Bool) (o : Option (List ℕ × List ℕ)) (r : List ℕ × List ℕ) → ((q : List ℕ × List ℕ) → Some q ≡ o → length q.1 < length cs) → Some r ≡ cond f (Some ([], cs)) (option_map (λ p. (c ∷ p.0, p.1)) o) → length r.1 < length (c ∷ cs)
shorter_by c cs true o r ih e = let s : r.1 ≡ cs = cc in omega (arith, ap length s)
shorter_by c cs false None r ih e = absurd (let z : ◌≡◌ {A = ℕ} 0 1 = cc in omega arith)
shorter_by c cs false (Some q) r ih e = let s : r.1 ≡ q.1 = cc in omega (arith, ap length s, ih q refl)

pub cut_shorter : (b : ℕ) (t : List ℕ) (r : List ℕ × List ℕ) → Some r ≡ cut_at b t → length r.1 < length t
cut_shorter b [] r e = absurd (let z : ◌≡◌ {A = ℕ} 0 1 = cc in omega arith)
cut_shorter b (c ∷ cs) r e = shorter_by c cs (eqb c b) (cut_at b cs) r (cut_shorter b cs) e

-- the first line of a text that is not empty is the first of its lines, and the others are those of the text after it
line_by : (c : ℕ) (cs : List ℕ) (f : Bool) (o : Option (List ℕ × List ℕ)) → o ≡ cut_at 10 cs → (0 < length cs → lines cs ≡ (unwrap_or o (let p : List ℕ × List ℕ = (cs, []) in p)).0 ∷ lines (unwrap_or o (let p : List ℕ × List ℕ = (cs, []) in p)).1) → (let r : List ℕ × List ℕ = unwrap_or (cond f (Some ([], cs)) (option_map (λ p. (c ∷ p.0, p.1)) o)) (c ∷ cs, []) in cond f ([] ∷ lines cs) (onto_first c (lines cs)) ≡ r.0 ∷ lines r.1)
line_by c cs true o e ih = refl
line_by c [] false None e ih = refl
line_by c [] false (Some q) e ih = absurd (let z : ◌≡◌ {A = ℕ} 0 1 = cc in omega arith)
line_by c (d ∷ ds) false None e ih = ap (onto_first c) (ih (omega arith))
line_by c (d ∷ ds) false (Some q) e ih = ap (onto_first c) (ih (omega arith))

pub line_first : (t : List ℕ) → 0 < length t → lines t ≡ (first_line t).0 ∷ lines (first_line t).1
line_first [] h = absurd (omega arith)
line_first (c ∷ cs) h = line_by c cs (eqb c 10) (cut_at 10 cs) refl (line_first cs)

shorter_than : (t : List ℕ) (o : Option (List ℕ × List ℕ)) → o ≡ cut_at 10 t → 0 < length t → length (unwrap_or o (let p : List ℕ × List ℕ = (t, []) in p)).1 < length t
shorter_than t None e some = some
shorter_than t (Some r) e some = cut_shorter 10 t r e

-- what comes after the first line of a text that is not empty is shorter
pub first_shorter : (t : List ℕ) → 0 < length t → length (first_line t).1 < length t
first_shorter t some = shorter_than t (cut_at 10 t) refl some
