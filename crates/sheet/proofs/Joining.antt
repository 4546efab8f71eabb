-- A number from the digits before its last, and its last.
use Rattle.std.proofs.Common.{◌≡◌, ℕ, ◌+◌, ◌-◌, ◌*◌, ◌<◌, Bool, true, false, cond, not, ◌&&◌, eqb, ltb, List, [], ◌∷◌, ◌++◌, length, Ok, Err, Result, sym, refl, ap, ◌∙◌, ⊎_elim, arith}
use Rattle.std.proofs.Math.Bool.{and_assoc}
use Rattle.std.specs.Char.{is_ascii_digit}
use Rattle.std.specs.Str.{all_ascii_digits}
use Rattle.std.proofs.lemmas.Fmt.{length-decimal-le}
use Rattle.std.proofs.lemmas.Bool.{cases_Bool, lt-ltb, le-ltb, ltb-false, cond-true, cond-false, and_parts}
use Rattle.std.proofs.lemmas.Bool.Decides.{nat_tests}
use Rattle.sheet.specs.declared.faults.DigitsFault.{DigitsFault}
use Rattle.sheet.specs.Decimal.{value_on, numeral, fault_at, digit_of, number_of}
use Rattle.sheet.proofs.Numbers.{writes_back, value_push, value_ge, digit_range}

-- the number that the digits before the last and the last say together; a front that is 0 is a leading zero
abbrev pub joined_by : ℕ → Result ℕ DigitsFault → Result ℕ DigitsFault → Result ℕ DigitsFault
joined_by l (Ok n) (Ok d) = cond (ltb 0 n && ltb (n * 10 + d) 4294967296) (Ok (n * 10 + d)) (Err (fault_at l))
joined_by l (Ok n) (Err e) = Err e
joined_by l (Err e) r = Err e

digits_push : (xs : List ℕ) (c : ℕ) → all_ascii_digits (xs ++ c ∷ []) ≡ (all_ascii_digits xs && is_ascii_digit c)
digits_push [] c = elim (is_ascii_digit c) as (λ v. (v && true) ≡ v) [ true ↦ refl | false ↦ refl ]
digits_push (x ∷ xs) c = ap (λ b. is_ascii_digit x && b) (digits_push xs c) ∙ sym (and_assoc (is_ascii_digit x) (all_ascii_digits xs) (is_ascii_digit c))

not_zero : (f : ℕ) → is_ascii_digit f ≡ true → not (eqb f 48) ≡ true → 48 < f
not_zero f a n = let r = digit_range f a in grind (arith, nat_tests)

zero_is : (f : ℕ) → not (eqb f 48) ≡ false → f ≡ 48
zero_is f n = grind (arith, nat_tests)

core : (l : ℕ) (a d p n : Bool) (v w : ℕ) → (a ≡ true → n ≡ true → (p ≡ true) × (0 < v)) → (a ≡ true → n ≡ false → p ≡ true → v ≡ 0)
    → cond ((a && d) && (n && ltb (v * 10 + w) 4294967296)) (Ok (v * 10 + w)) (Err (fault_at l)) ≡ joined_by l (cond (a && (p && ltb v 4294967296)) (Ok v) (Err (fault_at l))) (cond d (Ok w) (Err (fault_at l)))
core l false d p n v w h z = refl
core l true false p n v w h z = elim (p && ltb v 4294967296) as (λ t. Err (fault_at l) ≡ joined_by l (cond t (Ok v) (Err (fault_at l))) (Err (fault_at l))) [ true ↦ refl | false ↦ refl ]
core l true true false true v w h z = let y = (h refl refl).0 in cc
core l true true true true v w h z =
    let k = (h refl refl).1 in
    let pos = lt-ltb 0 v k in
    ⊎_elim
    (λ t. rw t (rw pos refl))
    (λ f. let over = le-ltb (v * 10 + w) 4294967296 (omega (arith, ltb-false _ _ f)) in rw f (rw over refl))
    (cases_Bool (ltb v 4294967296))
core l true true false false v w h z = refl
core l true true true false v w h z = let k = z refl refl refl in rw k refl

-- a digit more behind a number that has one at least
pub number_push : (l : ℕ) (f : ℕ) (fs : List ℕ) (c : ℕ) → number_of l ((f ∷ fs) ++ c ∷ []) ≡ joined_by l (number_of l (f ∷ fs)) (digit_of l c)
number_push l f [] c =
    ap (λ b. cond (b && (not (eqb f 48) && ltb ((0 * 10 + (f - 48)) * 10 + (c - 48)) 4294967296)) (Ok ((0 * 10 + (f - 48)) * 10 + (c - 48))) (Err (fault_at l))) (digits_push (f ∷ []) c)
    ∙ core l (is_ascii_digit f && true) (is_ascii_digit c) true (not (eqb f 48)) (0 * 10 + (f - 48)) (c - 48)
    (λ a n. (refl, omega (arith, not_zero f (and_parts _ _ a).0 n)))
    (λ a n p. omega (arith, zero_is f n))
number_push l f (g ∷ gs) c =
    let xs : List ℕ = f ∷ g ∷ gs in
    (λ i. cond (digits_push xs c i && (not (eqb f 48) && ltb (value_push 0 xs c i) 4294967296)) (Ok (value_push 0 xs c i)) (Err (fault_at l)))
    ∙ core l (all_ascii_digits xs) (is_ascii_digit c) (not (eqb f 48)) (not (eqb f 48)) (value_on 0 xs) (c - 48)
    (λ a n. (n, omega (arith, not_zero f (and_parts _ _ a).0 n, value_ge (0 * 10 + (f - 48)) (g ∷ gs), value_ge ((0 * 10 + (f - 48)) * 10 + (g - 48)) gs)))
    (λ a n p. let y = sym p ∙ n in cc)

-- no number has more than ten digits
pub number_long : (l : ℕ) (bs : List ℕ) → 10 < length bs → Err (fault_at l) ≡ number_of l bs
number_long l bs h =
    ⊎_elim
    (λ t. let w = writes_back l bs (value_on 0 bs) (cond-true _ _ _ t) in absurd (omega (arith, ap length w.0, length-decimal-le 10 (value_on 0 bs) (omega arith) (omega (arith, w.1)) (omega arith))))
    (λ f. sym (cond-false _ _ _ f))
    (cases_Bool (numeral bs))
