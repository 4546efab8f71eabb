-- How many wait in a mailbox. Assumes nothing.
use Rattle.std.specs.Prelude.{◌≡◌, ℕ, ◌≤◌, max, true, length, refl}
use Rattle.std.proofs.Common.{arith}
use Rattle.frames.specs.declared.frame.Frame.{Frame}
use Rattle.ports.specs.declared.mailbox.Mailbox.{Mailbox}
use Rattle.ports.specs.declared.mailbox.Slot.{Slot}
use Rattle.ports.specs.Turns.{fair}
use Rattle.ports.specs.Mail.{mail_waiting, ordered}
use Rattle.ports.specs.TurnCases.{by_turns}

abbrev pub slot : ℕ → Frame → Slot
slot t f = record { turn = t; frame = f }

-- as many as the highest turn
pub highest : (a b c : ℕ) → fair a b c ≡ true → (x y z : Frame) → max (max a b) c ≡ length (ordered (slot a x) (slot b y) (slot c z))
highest =
    by_turns (λ a b c. (x y z : Frame) → max (max a b) c ≡ length (ordered (slot a x) (slot b y) (slot c z)))
    (λ x y z. refl) (λ x y z. refl) (λ x y z. refl) (λ x y z. refl)
    (λ x y z. refl) (λ x y z. refl) (λ x y z. refl) (λ x y z. refl)
    (λ x y z. refl) (λ x y z. refl) (λ x y z. refl) (λ x y z. refl)
    (λ x y z. refl) (λ x y z. refl) (λ x y z. refl) (λ x y z. refl)

three : (a b c : ℕ) → fair a b c ≡ true → max (max a b) c ≤ 3
three =
    by_turns (λ a b c. max (max a b) c ≤ 3)
    (omega arith) (omega arith) (omega arith) (omega arith)
    (omega arith) (omega arith) (omega arith) (omega arith)
    (omega arith) (omega arith) (omega arith) (omega arith)
    (omega arith) (omega arith) (omega arith) (omega arith)

-- so never more than three
pub mail_within : (m : Mailbox) → length (mail_waiting m) ≤ 3
mail_within m =
    omega (arith, highest m.a.turn m.b.turn m.c.turn m.turns_ok m.a.frame m.b.frame m.c.frame, three m.a.turn m.b.turn m.c.turn m.turns_ok)
