use Rattle.std.specs.Prelude.{◌≡◌, true, false, List, [], ◌∷◌, Some}
use Rattle.frames.specs.declared.frame.Frame.{Frame}
use Rattle.frames.specs.Lists.{accepts, added}
use Rattle.ports.specs.Meaning.{given, kept}

abbrev none : List Frame
none = []

-- With one place and no pause: a frame is put, the next one is declined and changes nothing, the first one is taken, and
-- then the next one is accepted.
abbrev pub OnePlace : Frame → Frame → Type 0
OnePlace a b =
    (accepts 1 none ≡ true)
    × (added 1 none a ≡ a ∷ none)
    × (accepts 1 (a ∷ none) ≡ false)
    × (added 1 (a ∷ none) b ≡ a ∷ none)
    × (given (a ∷ none) 0 ≡ Some a)
    × (kept (a ∷ none) 0 ≡ none)
    × (added 1 none b ≡ b ∷ none)
