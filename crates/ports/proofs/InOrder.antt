-- What a handing over leaves, whatever the two ports hold. Assumes nothing.
use Rattle.std.proofs.Common.{◌≡◌, ℕ, Bool, true, false, cond, not, ◌&&◌, List, [], ◌∷◌, ◌++◌, Some, None, refl, ◌∙◌, append_assoc}
use Rattle.frames.specs.declared.frame.Frame.{Frame}
use Rattle.frames.specs.Lists.{accepts}
use Rattle.ports.specs.Meaning.{held as holds, pause_after, given, kept, paused}
use Rattle.ports.specs.Handing.{Handed, handed}

module _ (pause gap most : ℕ) (there : List Frame) where
  abbrev stays : List Frame → Handed
  stays fs = record { from = fs; pause = pause; to = there }

  -- none given: all stays
  pub held_back : (fs : List Frame) → None ≡ given fs pause
      → handed fs pause gap most there ≡ record { from = kept fs pause; pause = paused fs pause gap; to = there }
  held_back [] e = refl
  held_back (x ∷ xs) e = turn (accepts most there) (holds x pause) e
    where
      turn : (a b : Bool) → None ≡ cond b None (Some x)
          → cond (a && not b) (handed xs (pause_after x pause gap) gap most (there ++ x ∷ [])) (stays (x ∷ xs))
          ≡ record { from = cond b (x ∷ xs) xs; pause = cond b pause (pause_after x pause gap); to = there }
      turn true true e = refl
      turn false true e = refl
      turn a false e = absurd cc

-- what waits there and then here is what waited there and then here before
pub in_order : (fs : List Frame) (pause gap most : ℕ) (there : List Frame)
    → (handed fs pause gap most there).to ++ (handed fs pause gap most there).from ≡ there ++ fs
in_order [] pause gap most there = refl
in_order (f ∷ fs) pause gap most there =
    either (accepts most there && not (holds f pause))
    (in_order fs (pause_after f pause gap) gap most (there ++ f ∷ []) ∙ append_assoc there (f ∷ []) fs)
  where
    gone : Handed
    gone = handed fs (pause_after f pause gap) gap most (there ++ f ∷ [])

    here : Handed
    here = record { from = f ∷ fs; pause = pause; to = there }

    either : (b : Bool) → gone.to ++ gone.from ≡ there ++ f ∷ fs → (cond b gone here).to ++ (cond b gone here).from ≡ there ++ f ∷ fs
    either true e = e
    either false e = refl
