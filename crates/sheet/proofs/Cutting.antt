-- How `cut_at` follows from places.
use Rattle.std.proofs.Common.{◌≡◌, ℕ, zero, suc, ◌+◌, ◌-◌, ◌<◌, Bool, true, false, cond, eqb, List, [], ◌∷◌, length, get_or, take, drop, Some, None, Option, sym, refl, ap, ◌∙◌, add-one, arith}
use Rattle.std.specs.Option.{MatchOption, option_map}
use Rattle.std.specs.List.{AllWithin, HoldsAt}
use Rattle.std.proofs.lemmas.Bool.{ne_eqb, eq-eqb, cond-true, cond-false}
use Rattle.std.proofs.lemmas.List.{take_rest}
use Rattle.sheet.specs.Lines.{cut_at}

cut_found_suc : (b : ℕ) (s : List ℕ) (i : ℕ) → i < length s → ((k : ℕ) → k < i → get_or s k 0 ≡ b → ⊥) → get_or s i 0 ≡ b → cut_at b s ≡ Some (take i s, drop (suc i) s)
cut_found_suc b [] i h n e = absurd (omega arith)
cut_found_suc b (c ∷ cs) zero h n e = cond-true _ _ _ (eq-eqb c b e)
cut_found_suc b (c ∷ cs) (suc i) h n e =
    cond-false _ _ _ (ne_eqb c b (n 0 (omega arith)))
    ∙ ap (option_map {U = List ℕ × List ℕ} (λ (q : List ℕ × List ℕ). (c ∷ q.0, q.1))) (cut_found_suc b cs i (omega arith) (λ k l. n (suc k) (omega arith)) e)

pub cut_found : (b : ℕ) (s : List ℕ) (i : ℕ) → i < length s → ((k : ℕ) → k < i → get_or s k 0 ≡ b → ⊥) → get_or s i 0 ≡ b → cut_at b s ≡ Some (take i s, drop (i + 1) s)
cut_found b s i h n e = cut_found_suc b s i h n e ∙ ap (λ k. Some (let p : List ℕ × List ℕ = (take i s, drop k s) in p)) (sym (add-one i))

pub cut_none : (b : ℕ) (s : List ℕ) → ((k : ℕ) → k < length s → get_or s k 0 ≡ b → ⊥) → cut_at b s ≡ None
cut_none b [] n = refl
cut_none b (c ∷ cs) n =
    cond-false _ _ _ (ne_eqb c b (n 0 (omega arith)))
    ∙ ap (option_map {U = List ℕ × List ℕ} (λ (q : List ℕ × List ℕ). (c ∷ q.0, q.1))) (cut_none b cs (λ k l. n (suc k) (omega arith)))

-- the parts of a text at its first b, if there is one
pub cut_first : (b : ℕ) (s : List ℕ) (r : Option ℕ) → MatchOption r (AllWithin (λ x. x ≡ b → ⊥) s 0 (length s)) (λ i. (i < length s) × HoldsAt (λ x. x ≡ b) s i × AllWithin (λ x. x ≡ b → ⊥) s 0 i) → option_map (λ i. (take i s, take (length s - (i + 1)) (drop (i + 1) s))) r ≡ cut_at b s
cut_first b s None h = sym (cut_none b s (λ k l. h k 0 (omega arith) l))
cut_first b s (Some i) h =
    let rest = take_rest s (i + 1) in
    let found = cut_found b s i h.0 (λ k l. h.2 k 0 (omega arith) l) (h.1 0) in
    cc

-- what comes after the cut is shorter
shorter_by : (c : ℕ) (cs : List ℕ) (f : Bool) (o : Option (List ℕ × List ℕ)) (r : List ℕ × List ℕ) → ((q : List ℕ × List ℕ) → Some q ≡ o → length q.1 < length cs) → Some r ≡ cond f (Some ([], cs)) (option_map (λ p. (c ∷ p.0, p.1)) o) → length r.1 < length (c ∷ cs)
shorter_by c cs true o r ih e = let s : r.1 ≡ cs = cc in omega (arith, ap length s)
shorter_by c cs false None r ih e = cc
shorter_by c cs false (Some q) r ih e = let s : r.1 ≡ q.1 = cc in omega (arith, ap length s, ih q refl)

pub cut_shorter : (b : ℕ) (t : List ℕ) (r : List ℕ × List ℕ) → Some r ≡ cut_at b t → length r.1 < length t
cut_shorter b [] r e = cc
cut_shorter b (c ∷ cs) r e = shorter_by c cs (eqb c b) (cut_at b cs) r (cut_shorter b cs) e
