-- The words of a line, as the library and the cuts give them.
use Rattle.std.proofs.Common.{◌≡◌, ℕ, true, cond, List, [], ◌∷◌, length, take, drop, eqb, Some, None, Option, ap, ◌∙◌, arith}
use Rattle.std.specs.Cmp.Lexicographic.{pointwise}
use Rattle.std.proofs.lemmas.Grind.{common_steps}
use Rattle.sheet.specs.Lines.{cut_at}
use Rattle.candump.specs.Logs.{Split, after_first, words_in}
use Rattle.script.specs.Sessions.{and_then}

-- what stands after a first byte
pub after_found : (b : ℕ) (s r : List ℕ) → pointwise eqb (take 1 s) (b ∷ []) ≡ true → r ≡ drop 1 s → Some r ≡ after_first b s
after_found b [] r e h = cc
after_found b (c ∷ cs) r e h = grind (arith, common_steps)

abbrev split : List ℕ × List ℕ → List ℕ × List ℕ → Option Split
split p q = cond (eqb (length q.0) 0) None (Some (record { stamp = p.0; interface = q.0; message = q.1 }))

-- all cuts are found
pub words_found : (t u v : List ℕ) (p q : List ℕ × List ℕ) → Some u ≡ after_first 40 t → Some p ≡ cut_at 41 u → Some v ≡ after_first 32 p.1 → Some q ≡ cut_at 32 v → cond (eqb (length q.0) 0) None (Some (let w : Split = record { stamp = p.0; interface = q.0; message = q.1 } in w)) ≡ words_in t
words_found t u v p q a b c d =
    ap (λ (o : Option (List ℕ × List ℕ)). and_then o (split p)) d
    ∙ ap (λ (o : Option (List ℕ)). and_then o (λ v. and_then (cut_at 32 v) (split p))) c
    ∙ ap (λ (o : Option (List ℕ × List ℕ)). and_then o (λ p. and_then (after_first 32 p.1) (λ v. and_then (cut_at 32 v) (split p)))) b
    ∙ ap (λ (o : Option (List ℕ)). and_then o (λ u. and_then (cut_at 41 u) (λ p. and_then (after_first 32 p.1) (λ v. and_then (cut_at 32 v) (split p))))) a
