use Rattle.std.specs.Prelude.{ℕ, cond, not, ◌&&◌, List, [], ◌∷◌, ◌++◌}
use Rattle.frames.specs.declared.frame.Frame.{Frame}
use Rattle.frames.specs.Lists.{accepts}
use Rattle.ports.specs.Meaning.{held, pause_after}

-- What two ports hold after a handing over: what waits at the first and its pause, and what waits at the second.
pub record Handed : Type 0 where
  pub from : List Frame
  pub pause : ℕ
  pub to : List Frame

-- The first waiting frame goes over and comes last there, while the first port does not hold it back and the second
-- accepts it; then the next one. The first of them that cannot go ends it.
abbrev pub handed : List Frame → ℕ → ℕ → ℕ → List Frame → Handed
handed [] pause gap most there = record { from = []; pause = pause; to = there }
handed (f ∷ fs) pause gap most there =
    cond (accepts most there && not (held f pause))
    (handed fs (pause_after f pause gap) gap most (there ++ f ∷ []))
    (record { from = f ∷ fs; pause = pause; to = there })
