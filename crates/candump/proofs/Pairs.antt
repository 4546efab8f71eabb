-- Bytes of two digits each, one after the other.
use Rattle.std.proofs.Common.{◌≡◌, ℕ, ◌+◌, ◌-◌, ◌*◌, ◌<◌, ◌≤◌, List, [], ◌∷◌, ◌++◌, length, get_or, take, drop, Some, None, Option, sym, refl, ap, ◌∙◌, append_assoc, arith, length-append, length-drop, length-take}
use Rattle.std.specs.Option.{option_map}
use Rattle.std.proofs.lemmas.List.{take_rest, take_all}
use Rattle.candump.specs.Logs.{number_in, pairs_in}
use Rattle.script.specs.Sessions.{and_then}

-- the bytes so far, and behind them those that are still to be read
abbrev pub onto : List ℕ → Option (List ℕ) → Option (List ℕ)
onto d o = option_map (λ bs. d ++ bs) o

abbrev pair_at : List ℕ → List ℕ
pair_at s = get_or s 0 0 ∷ get_or s 1 0 ∷ []

two_more : (s : List ℕ) → 2 ≤ length s → pairs_in s ≡ and_then (number_in 16 (pair_at s)) (λ b. option_map (λ bs. b ∷ bs) (pairs_in (drop 2 s)))
two_more [] h = absurd (omega arith)
two_more (c ∷ []) h = absurd (omega arith)
two_more (c ∷ d ∷ cs) h = refl

onto_more : (d : List ℕ) (b : ℕ) (o : Option (List ℕ)) → onto (d ++ b ∷ []) o ≡ onto d (option_map (λ bs. b ∷ bs) o)
onto_more d b None = refl
onto_more d b (Some bs) = ap (λ (x : List ℕ). Some x) (append_assoc d (b ∷ []) bs)

-- a byte is read
pub one_more : (d e : List ℕ) (b : ℕ) → length d < 8 → e ≡ take 8 (d ++ b ∷ []) → e ≡ d ++ b ∷ []
one_more d e b room h = h ∙ take_all 8 _ (simp length-append (omega arith))

-- and the others are still to be read
pub read_pair : (d e s : List ℕ) (b : ℕ) → 2 ≤ length s → e ≡ d ++ b ∷ [] → Some b ≡ number_in 16 (pair_at s) → onto e (pairs_in (take (length s - 2) (drop 2 s))) ≡ onto d (pairs_in s)
read_pair d e s b two h number =
    (λ i. onto (h i) (pairs_in (take_rest s 2 i)))
    ∙ onto_more d b (pairs_in (drop 2 s))
    ∙ ap (λ (o : Option ℕ). onto d (and_then o (λ b. option_map (λ bs. b ∷ bs) (pairs_in (drop 2 s))))) number
    ∙ ap (onto d) (sym (two_more s two))

-- and there is room for them
pub room_left : (d e s : List ℕ) (b : ℕ) → 2 ≤ length s → length s + length d * 2 ≤ 16 → e ≡ d ++ b ∷ [] → length (take (length s - 2) (drop 2 s)) + length e * 2 ≤ 16
room_left d e s b two room h =
    let longer : length e ≡ length d + 1 = ap (λ (x : List ℕ). length x) h ∙ simp length-append in
    simp (length-take, length-drop) (omega (arith, longer))
