-- The two laws of the sheet's text.
use Rattle.std.proofs.Common.{◌≡◌, ℕ, ◌≤◌, Bool, true, false, cond, ◌&&◌, eqb, ltb, leb, List, [], ◌∷◌, ◌++◌, Ok, sym, refl, ap, ◌∙◌, ⊎_elim, append-nil, arith}
use Rattle.std.proofs.lemmas.Bool.{and_parts, leb-true, cases_Bool, cond-false}
use Rattle.std.proofs.lemmas.Bool.Decides.{nat_tests}
use Rattle.sheet.specs.declared.keys.Key.{Key}
use Rattle.sheet.specs.Lines.{bind}
use Rattle.sheet.specs.Codec.{passes}
use Rattle.sheet.specs.Format.{SheetLines, within, ranged, set_c, flag, Before, slave_c, after, header_c, sheet_c, text, good, ended, reading}
use Rattle.sheet.proofs.Codecs.{Lawful, ok_is, field_laws, both_laws, seen_laws, many_laws, many_length, counted_laws, bind_ok}

set_laws : Lawful set_c
set_laws =
    seen_laws _ _ _
    (both_laws _ _ (field_laws _ _) (λ _. both_laws _ _ (field_laws _ _) (λ _. both_laws _ _ (field_laws _ _) (λ z. field_laws _ _))))
    (λ _. refl) (λ _ _. refl)

pub within_is : (key : Key) (low high n : ℕ) → passes (within key low high n) ≡ true → (low ≤ n) × (n ≤ high)
within_is key low high n h =
    ⊎_elim
    (λ t. let p = and_parts _ _ t in (leb-true low n p.0, leb-true n high p.1))
    (λ f. let e : passes (within key low high n) ≡ false = ap passes (cond-false _ _ _ f) in let k = sym h ∙ e in cc)
    (cases_Bool (leb low n && leb n high))

bit_back : (key : Key) (n : ℕ) → passes (within key 0 1 n) ≡ true → cond (eqb n 1) 1 0 ≡ n
bit_back key n h = let r = within_is key 0 1 n h in grind (arith, nat_tests)

flag_laws : (key : Key) → Lawful (flag key)
flag_laws key =
    seen_laws (ranged key 0 1) (λ n. eqb n 1) (λ b. cond b 1 0) (field_laws key (within key 0 1)) both_bits (λ n h. bit_back key n (and_parts (ltb n 4294967296) _ h).1)
  where
    both_bits : (b : Bool) → eqb (cond b 1 0) 1 ≡ b
    both_bits true = refl
    both_bits false = refl

slave_laws : (b : Before) → Lawful (slave_c b)
slave_laws b =
    seen_laws _ _ _
    (both_laws _ _ (field_laws _ _) (λ _.
    both_laws _ _ (flag_laws _) (λ _.
    both_laws _ _ (flag_laws _) (λ k.
    both_laws _ _ (field_laws _ _) (λ _.
    both_laws _ _ (field_laws _ _) (λ _.
    both_laws _ _ (field_laws _ _) (λ _.
    both_laws _ _ (field_laws _ _) (λ _.
    both_laws _ _ (field_laws _ _) (λ _.
    both_laws _ _ (field_laws _ _) (λ _.
    counted_laws _ _ (field_laws _ _) (many_laws (λ _. set_c) (λ u _. u) (λ _. set_laws) (tt {0})) (many_length (λ _. set_c) (λ u _. u) (λ _. set_laws) (tt {0}))))))))))))
    (λ _. refl) (λ _ _. refl)

header_laws : Lawful header_c
header_laws =
    seen_laws _ _ _
    (both_laws _ _ (field_laws _ _) (λ _.
    both_laws _ _ (field_laws _ _) (λ _.
    both_laws _ _ (field_laws _ _) (λ _.
    both_laws _ _ (field_laws _ _) (λ _.
    both_laws _ _ (flag_laws _) (λ _.
    both_laws _ _ (flag_laws _) (λ _.
    flag_laws _)))))))
    (λ _. refl) (λ _ _. refl)

sheet_laws : Lawful sheet_c
sheet_laws =
    seen_laws _ _ _
    (both_laws _ _ header_laws (λ h. counted_laws _ _ (field_laws _ _) (many_laws slave_c after slave_laws (h.own, (0, 0))) (many_length slave_c after slave_laws (h.own, (0, 0)))))
    (λ _. refl) (λ _ _. refl)

-- every good sheet is read back from its text
pub reads_text : (s : SheetLines) → good s ≡ true → reading (text s) ≡ Ok s
reads_text s h =
    let x = sheet_laws.back s 1 [] h in
    ap reading (sym (append-nil (text s))) ∙ ap (λ r. bind r (λ x. ended x.1.0 x.1.1 x.0)) x.1

ended_is : (l : ℕ) (bs : List ℕ) (s u : SheetLines) → ended l bs s ≡ Ok u → (bs ≡ []) × (s ≡ u)
ended_is l [] s u h = (refl, ok_is s u h)
ended_is l (b ∷ bs) s u h = cc

-- what is read is a good sheet, and the text is its text
pub writes_reading : (t : List ℕ) (s : SheetLines) → reading t ≡ Ok s → (text s ≡ t) × (good s ≡ true)
writes_reading t s h =
    let a = bind_ok (sheet_c.read 1 t) _ _ h in
    let x = a.0 in
    let e = ended_is x.1.0 x.1.1 x.0 s a.2 in
    let v = sheet_laws.forth 1 t x.0 x.1.0 x.1.1 a.1 in
    (sym (v.0 ∙ (λ i. text (e.1 i) ++ e.0 i) ∙ append-nil (text s)), ap good (sym e.1) ∙ v.1)
