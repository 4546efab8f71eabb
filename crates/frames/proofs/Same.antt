-- Frames of the same content are the same value. Assumes nothing.
use Rattle.std.specs.Prelude.{◌==◌}
use Rattle.std.proofs.Common.{◌≡◌, true, refl, subst, ℕ, ◌+◌, ◌-◌, ◌≤◌, min, List, length, take, sym, ap, ◌∙◌, arith, length-append, length-take}
use mathlib.Core.HLevel.{is_prop→PathP}
use mathlib.Core.List.{is_set}
use native.Mathlib.Nat.{ℕ_set}
use native.Mathlib.Bridge.{le_prop}
use lib.ListN.{length-replicate}
use Rattle.frames.specs.Bytes.{padded}
use Rattle.std.proofs.lemmas.Bool.{eqb-true}
use Rattle.std.proofs.lemmas.Bool.Decides.{Decides-eqb}
use Rattle.std.proofs.lemmas.Slice.Eq.{slice_eq-Decides}
use Rattle.std.specs.Cmp.{first_so, second_so}
use Rattle.std.specs.Cmp.Lexicographic.{pointwise}
use Rattle.frames.specs.Contents.{ContentDecides}
use Rattle.frames.specs.Fields.{fields_agree, fields_agree_equiv, FieldsDecide}
use Rattle.frames.specs.declared.frame.Frame.{Frame}

length_padded : (xs : List ℕ) → length (padded xs) ≡ length xs + (8 - length xs)
length_padded xs = simp (length-append, length-replicate)

-- as many bytes count as the length says
pub counted : (f : Frame) → length (take f.len f.bytes) ≡ f.len
counted f =
    let all : length f.bytes ≡ length (take f.len f.bytes) + (8 - length (take f.len f.bytes)) =
    ap length (sym f.rest_ok) ∙ length_padded (take f.len f.bytes) in
    let part : length (take f.len f.bytes) ≡ min f.len (length f.bytes) = length-take f.len f.bytes in
    omega (arith, f.len_ok)

-- frames with equal fields are the same value: what else a frame holds are proofs, and a fact has one proof at most
pub same_fields : (f g : Frame) → f.id ≡ g.id → f.len ≡ g.len → f.bytes ≡ g.bytes → f ≡ g
same_fields f g ids lens places = λ i. record {
  id = ids i;
  len = lens i;
  bytes = places i;
  id_ok = is_prop→PathP (λ j. ids j ≤ 2047) (λ j. le_prop) f.id_ok g.id_ok i;
  len_ok = is_prop→PathP (λ j. lens j ≤ 8) (λ j. le_prop) f.len_ok g.len_ok i;
  rest_ok = is_prop→PathP (λ j. padded (take (lens j) (places j)) ≡ places j) (λ j. is_set ℕ_set _ _) f.rest_ok g.rest_ok i;
}

pub same_value : ContentDecides
same_value f g e =
    let datas : take f.len f.bytes ≡ take g.len g.bytes = ap (λ c. c.bytes) e in
    same_fields f g (ap (λ c. c.id) e)
    (sym (counted f) ∙ ap length datas ∙ counted g)
    (sym f.rest_ok ∙ ap padded datas ∙ g.rest_ok)

-- the comparison of the fields decides it
pub fields_decide : FieldsDecide
fields_decide f g = (
  λ e.
      let rest = second_so (f.id == g.id) _ e in
      let places = slice_eq-Decides Decides-eqb f.bytes g.bytes (pointwise ◌==◌ f.bytes g.bytes) refl in
      same_fields f g (eqb-true f.id g.id (first_so (f.id == g.id) _ e)) (eqb-true f.len g.len (first_so (f.len == g.len) _ rest)) (places.0 (second_so (f.len == g.len) _ rest)),
  λ e. subst (λ h. fields_agree f h ≡ true) e (fields_agree_equiv.refl f),
)
