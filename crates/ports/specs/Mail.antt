use Rattle.std.specs.Prelude.{ℕ, cond, List, [], ◌∷◌, ◌++◌, ◌==◌}
use Rattle.frames.specs.declared.frame.Frame.{Frame}
use Rattle.ports.specs.declared.mailbox.Mailbox.{Mailbox}
use Rattle.ports.specs.declared.mailbox.Slot.{Slot}

-- A slot's frame, if its turn is k.
abbrev pub in_turn : ℕ → Slot → List Frame
in_turn k s = cond (s.turn == k) (s.frame ∷ []) []

-- The frames whose turn is k.
abbrev pub at_turn : Slot → Slot → Slot → ℕ → List Frame
at_turn a b c k = in_turn k a ++ (in_turn k b ++ in_turn k c)

-- The frames with a turn, in the order of their turns.
abbrev pub ordered : Slot → Slot → Slot → List Frame
ordered a b c = at_turn a b c 1 ++ (at_turn a b c 2 ++ at_turn a b c 3)

-- What waits in a mailbox, first to last.
abbrev pub mail_waiting : Mailbox → List Frame
mail_waiting m = ordered m.a m.b m.c
