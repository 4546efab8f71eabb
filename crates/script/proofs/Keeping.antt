-- Why at most nine bytes are kept, and which.
use Rattle.std.proofs.Common.{◌≡◌, ℕ, zero, suc, ◌≤◌, List, [], ◌∷◌, ◌++◌, length, take, Some, None, Option, sym, refl, ap, ◌∙◌, append_assoc, append-nil}
use Rattle.std.specs.Option.{option_map}
use Rattle.std.proofs.lemmas.List.{take_all}
use Rattle.script.specs.Sessions.{heard, and_then, number_in, byte_in, bytes_in, kept_in, frame_in}

-- bytes behind those that are kept change nothing
kept_once : (n : ℕ) (xs ys : List ℕ) → take n (take n xs ++ ys) ≡ take n (xs ++ ys)
kept_once zero xs ys = refl
kept_once (suc n) [] ys = refl
kept_once (suc n) (x ∷ xs) ys = ap (λ (r : List ℕ). x ∷ r) (kept_once n xs ys)

-- the bytes so far, and behind them those that are still to be read
abbrev pub keep : List ℕ → Option (List ℕ) → Option (List ℕ)
keep d o = option_map (λ bs. take 9 (d ++ bs)) o

kept_more : (d e : List ℕ) (b : ℕ) (o : Option (List ℕ)) → e ≡ take 9 (d ++ b ∷ []) → keep e o ≡ keep d (option_map (λ bs. b ∷ bs) o)
kept_more d e b None h = refl
kept_more d e b (Some bs) h =
    let grouped : (d ++ b ∷ []) ++ bs ≡ d ++ b ∷ bs = append_assoc d (b ∷ []) bs in
    let once : take 9 (e ++ bs) ≡ take 9 (d ++ b ∷ bs) = ap (λ (x : List ℕ). take 9 (x ++ bs)) h ∙ kept_once 9 (d ++ b ∷ []) bs ∙ ap (take 9) grouped in
    ap (λ (x : List ℕ). Some x) once

-- the byte of a part is read, and the others are still to be read
pub read_on : (d e p : List ℕ) (ps : List (List ℕ)) (b : ℕ) → Some b ≡ byte_in p → e ≡ take 9 (d ++ b ∷ []) → keep e (bytes_in ps) ≡ keep d (bytes_in (p ∷ ps))
read_on d e p ps b byte h =
    kept_more d e b (bytes_in ps) h ∙ ap (λ (o : Option ℕ). keep d (and_then o (λ b. option_map (λ bs. b ∷ bs) (bytes_in ps)))) byte

-- a part that is no byte ends the reading
pub read_no_more : (d p : List ℕ) (ps : List (List ℕ)) → None ≡ byte_in p → None ≡ keep d (bytes_in (p ∷ ps))
read_no_more d p ps byte = ap (λ (o : Option ℕ). keep d (and_then o (λ b. option_map (λ bs. b ∷ bs) (bytes_in ps)))) byte

-- all parts are read
pub read_all : (d : List ℕ) → length d ≤ 9 → Some d ≡ keep d (bytes_in [])
read_all d h = ap (λ (x : List ℕ). Some x) (sym (ap (take 9) (append-nil d) ∙ take_all 9 d h))

-- the first part is the identifier, and no bytes are read yet
pub frame_begun : (d p : List ℕ) (ps : List (List ℕ)) (n : ℕ) → Some n ≡ number_in p → d ≡ [] → option_map (λ bs. heard n bs) (keep d (bytes_in ps)) ≡ frame_in (p ∷ ps)
frame_begun d p ps n number empty =
    ap (λ (x : List ℕ). option_map (λ bs. heard n bs) (keep x (bytes_in ps))) empty
    ∙ ap (λ (o : Option ℕ). and_then o (λ id. option_map (λ bs. heard id bs) (kept_in ps))) number

pub frame_no_id : (p : List ℕ) (ps : List (List ℕ)) → None ≡ number_in p → None ≡ frame_in (p ∷ ps)
frame_no_id p ps number = ap (λ (o : Option ℕ). and_then o (λ id. option_map (λ bs. heard id bs) (kept_in ps))) number
