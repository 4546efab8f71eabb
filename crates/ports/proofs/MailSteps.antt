-- What a put and a take make of a mailbox. Assumes nothing.
use Rattle.std.proofs.Common.{◌≡◌, ℕ, ◌+◌, ◌-◌, max, Bool, true, false, cond, ◌&&◌, List, [], ◌∷◌, Some, None, refl, ap}
use Rattle.frames.specs.declared.frame.Frame.{Frame}
use Rattle.frames.specs.Lists.{first_of, rest_of, added}
use Rattle.ports.specs.Turns.{fair}
use Rattle.ports.specs.Mail.{ordered}
use Rattle.ports.specs.MailLaws.{slot}
use Rattle.ports.specs.Meaning.{given, kept, paused, is_command}
use Rattle.ports.specs.TurnCases.{by_turns}

-- turns that are each one nearer are fair
pub nearer_fair : (a b c : ℕ) → fair a b c ≡ true → fair (a - 1) (b - 1) (c - 1) ≡ true
nearer_fair =
    by_turns (λ a b c. fair (a - 1) (b - 1) (c - 1) ≡ true)
    refl refl refl refl
    refl refl refl refl
    refl refl refl refl
    refl refl refl refl

-- and the first frame is gone
pub nearer_rest : (a b c : ℕ) → fair a b c ≡ true → (x y z : Frame)
    → ordered (slot (a - 1) x) (slot (b - 1) y) (slot (c - 1) z) ≡ rest_of (ordered (slot a x) (slot b y) (slot c z))
nearer_rest =
    by_turns (λ a b c. (x y z : Frame) → ordered (slot (a - 1) x) (slot (b - 1) y) (slot (c - 1) z) ≡ rest_of (ordered (slot a x) (slot b y) (slot c z)))
    (λ x y z. refl) (λ x y z. refl) (λ x y z. refl) (λ x y z. refl)
    (λ x y z. refl) (λ x y z. refl) (λ x y z. refl) (λ x y z. refl)
    (λ x y z. refl) (λ x y z. refl) (λ x y z. refl) (λ x y z. refl)
    (λ x y z. refl) (λ x y z. refl) (λ x y z. refl) (λ x y z. refl)

-- where the first two slots are taken, the third one gets the next turn
pub third_fair : (a b c : ℕ) → fair a b c ≡ true → (a ≡ 0 → ⊥) → (b ≡ 0 → ⊥) → (max (max a b) c ≡ 3 → ⊥)
    → fair a b (max (max a b) c + 1) ≡ true
third_fair =
    by_turns (λ a b c. (a ≡ 0 → ⊥) → (b ≡ 0 → ⊥) → (max (max a b) c ≡ 3 → ⊥) → fair a b (max (max a b) c + 1) ≡ true)
    (λ p q r. absurd (p refl)) (λ p q r. absurd (p refl)) (λ p q r. absurd (p refl)) (λ p q r. absurd (p refl))
    (λ p q r. absurd (p refl)) (λ p q r. absurd (q refl)) (λ p q r. absurd (q refl)) (λ p q r. refl)
    (λ p q r. absurd (r refl)) (λ p q r. absurd (r refl)) (λ p q r. absurd (q refl)) (λ p q r. refl)
    (λ p q r. absurd (r refl)) (λ p q r. absurd (r refl)) (λ p q r. absurd (r refl)) (λ p q r. absurd (r refl))

-- and its frame comes last
pub third_added : (a b c : ℕ) → fair a b c ≡ true → (a ≡ 0 → ⊥) → (b ≡ 0 → ⊥) → (max (max a b) c ≡ 3 → ⊥) → (x y z f : Frame)
    → ordered (slot a x) (slot b y) (slot (max (max a b) c + 1) f) ≡ added 3 (ordered (slot a x) (slot b y) (slot c z)) f
third_added =
    by_turns (λ a b c. (a ≡ 0 → ⊥) → (b ≡ 0 → ⊥) → (max (max a b) c ≡ 3 → ⊥) → (x y z f : Frame) → ordered (slot a x) (slot b y) (slot (max (max a b) c + 1) f) ≡ added 3 (ordered (slot a x) (slot b y) (slot c z)) f)
    (λ p q r x y z f. absurd (p refl)) (λ p q r x y z f. absurd (p refl)) (λ p q r x y z f. absurd (p refl)) (λ p q r x y z f. absurd (p refl))
    (λ p q r x y z f. absurd (p refl)) (λ p q r x y z f. absurd (q refl)) (λ p q r x y z f. absurd (q refl)) (λ p q r x y z f. refl)
    (λ p q r x y z f. absurd (r refl)) (λ p q r x y z f. absurd (r refl)) (λ p q r x y z f. absurd (q refl)) (λ p q r x y z f. refl)
    (λ p q r x y z f. absurd (r refl)) (λ p q r x y z f. absurd (r refl)) (λ p q r x y z f. absurd (r refl)) (λ p q r x y z f. absurd (r refl))

-- with no pause and no gap a take gives the first frame
and_false : (t : Bool) → (t && false) ≡ false
and_false true = refl
and_false false = refl

pub given_first : (fs : List Frame) → given fs 0 ≡ first_of fs
given_first [] = refl
given_first (f ∷ fs) = ap (λ t. cond t None (Some f)) (and_false (is_command f))

pub kept_rest : (fs : List Frame) → kept fs 0 ≡ rest_of fs
kept_rest [] = refl
kept_rest (f ∷ fs) = ap (λ t. cond t (f ∷ fs) fs) (and_false (is_command f))

pub paused_none : (fs : List Frame) → ◌≡◌ {A = ℕ} 0 (paused fs 0 0)
paused_none [] = refl
paused_none (f ∷ fs) = none (is_command f)
  where
    none : (t : Bool) → ◌≡◌ {A = ℕ} 0 (cond (t && false) 0 (cond t 0 0))
    none true = refl
    none false = refl
