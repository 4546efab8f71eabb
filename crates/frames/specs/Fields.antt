-- Frames are compared field by field, and that says whether they are the same value.
use Rattle.std.specs.Prelude.{◌≡◌, Bool, Decides, ◌==◌}
use Rattle.std.specs.Cmp.{IsEquivalence, and_equiv, on_equiv, nat_eq_equiv}
use Rattle.std.specs.Cmp.Lexicographic.{pointwise, lists_equiv}
use Rattle.std.specs.Ordering.{on, eq_of_both}
use Rattle.frames.specs.declared.frame.Frame.{Frame}

-- Identifier, length and all eight bytes are equal.
abbrev pub fields_agree : Frame → Frame → Bool
fields_agree = eq_of_both (on (λ (f : Frame). f.id) ◌==◌) (eq_of_both (on (λ (f : Frame). f.len) ◌==◌) (on (λ (f : Frame). f.bytes) (pointwise ◌==◌)))

pub fields_agree_equiv : IsEquivalence fields_agree
fields_agree_equiv = and_equiv (on_equiv (λ (f : Frame). f.id) nat_eq_equiv) (and_equiv (on_equiv (λ (f : Frame). f.len) nat_eq_equiv) (on_equiv (λ (f : Frame). f.bytes) (lists_equiv nat_eq_equiv)))

-- What is compared decides whether two frames are the same value, also where code under the bound `PartialEq` compares them.
abbrev pub FieldsDecide : Type 0
FieldsDecide = (f g : Frame) → Decides (fields_agree f g) (f ≡ g)
