-- One turn of a handing over, and its two ends. Assumes nothing.
use Rattle.std.proofs.Common.{◌≡◌, ℕ, ◌<◌, Bool, true, false, cond, not, ◌&&◌, List, [], ◌∷◌, ◌++◌, length, Some, None, refl, ap, ◌∙◌, append_assoc, arith}
use Rattle.frames.specs.declared.frame.Frame.{Frame}
use Rattle.frames.specs.Lists.{accepts, added}
use Rattle.ports.specs.Meaning.{held as holds, pause_after, given, kept, paused}
use Rattle.ports.specs.Handing.{Handed, handed}

module _ (pause gap most : ℕ) (there : List Frame) where
  abbrev stays : List Frame → Handed
  stays fs = record { from = fs; pause = pause; to = there }

  -- a frame that is given goes over
  pub goes_on : (fs : List Frame) (f : Frame) → Some f ≡ given fs pause → accepts most there ≡ true
      → handed fs pause gap most there ≡ handed (kept fs pause) (paused fs pause gap) gap most (added most there f)
  goes_on [] f e a = absurd cc
  goes_on (x ∷ xs) f e a = turn (holds x pause) (accepts most there) e a
    where
      turn : (b a : Bool) → Some f ≡ cond b None (Some x) → a ≡ true
          → cond (a && not b) (handed xs (pause_after x pause gap) gap most (there ++ x ∷ [])) (stays (x ∷ xs))
          ≡ handed (cond b (x ∷ xs) xs) (cond b pause (pause_after x pause gap)) gap most (cond a (there ++ f ∷ []) there)
      turn true a e h = absurd cc
      turn false true e h = let same : x ≡ f = cc in ap (λ y. handed xs (pause_after x pause gap) gap most (there ++ y ∷ [])) same
      turn false false e h = absurd cc

  -- and is last there
  pub goes_in_order : (fs : List Frame) (f : Frame) → Some f ≡ given fs pause → accepts most there ≡ true → added most there f ++ kept fs pause ≡ there ++ fs
  goes_in_order [] f e a = absurd cc
  goes_in_order (x ∷ xs) f e a = turn (holds x pause) (accepts most there) e a
    where
      turn : (b a : Bool) → Some f ≡ cond b None (Some x) → a ≡ true
          → cond a (there ++ f ∷ []) there ++ cond b (x ∷ xs) xs ≡ there ++ x ∷ xs
      turn true a e h = absurd cc
      turn false true e h = let same : f ≡ x = cc in append_assoc there (f ∷ []) xs ∙ ap (λ y. there ++ y ∷ xs) same
      turn false false e h = absurd cc

  -- all stays where the second port is full
  pub full : (fs : List Frame) → accepts most there ≡ false → handed fs pause gap most there ≡ stays fs
  full [] e = refl
  full (x ∷ xs) e = rw e

-- what is handed over, from equal parts
pub like : (fs fs' : List Frame) (p p' g g' m m' : ℕ) (ts ts' : List Frame) → fs ≡ fs' → p ≡ p' → g ≡ g' → m ≡ m' → ts ≡ ts' → handed fs p g m ts ≡ handed fs' p' g' m' ts'
like fs fs' p p' g g' m m' ts ts' a b c d e = λ i. handed (a i) (b i) (c i) (d i) (e i)

-- one frame less waits
kept_fewer : (fs : List Frame) (pause : ℕ) (f : Frame) → Some f ≡ given fs pause → length (kept fs pause) < length fs
kept_fewer [] pause f e = absurd cc
kept_fewer (x ∷ xs) pause f e = turn (holds x pause) e
  where
    turn : (b : Bool) → Some f ≡ cond b None (Some x) → length (cond b (x ∷ xs) xs) < length (x ∷ xs)
    turn true e = absurd cc
    turn false e = omega arith

pub fewer : (fs later : List Frame) (pause : ℕ) (f : Frame) → Some f ≡ given fs pause → later ≡ kept fs pause → length later < length fs
fewer fs later pause f e rest = rw rest (kept_fewer fs pause f e)
