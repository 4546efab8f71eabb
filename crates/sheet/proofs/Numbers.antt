-- The laws of decimal numbers.
use Rattle.std.proofs.Common.{◌≡◌, ℕ, ◌+◌, ◌-◌, ◌*◌, ◌<◌, ◌≤◌, true, false, ltb, List, [], ◌∷◌, ◌++◌, length, get_or, drop, Ok, Err, decimal, sym, refl, ap, ◌∙◌, ⊎_elim, arith, rules}
use Rattle.std.specs.Char.{is_ascii_digit}
use Rattle.std.specs.Str.{all_ascii_digits}
use Rattle.std.proofs.lemmas.Str.Parse.{IsNumeralModel, numerals_by_fold}
use Rattle.std.proofs.lemmas.Fmt.{decimal-digits_value, digits_value-decimal, digits_decimal, decimal_nonempty, first_decimal, decimal_digit}
use Rattle.std.proofs.lemmas.Bool.{cases_eq, cases_Bool, ne_eqb, eqb-false, lt-ltb, le-ltb, ltb-true, cond-true, cond-false, and_from, and_parts, and_right, not-true, not_from_false}
use Rattle.std.proofs.lemmas.List.{drop_more}
use Rattle.std.proofs.lemmas.Bool.Decides.{nat_tests}
use Rattle.sheet.specs.Decimal.{value_on, plain, numeral, fault_at, digit_of, number_of, NumberLaws}

pub own : IsNumeralModel (λ ds. all_ascii_digits ds ≡ true) (value_on 0)
own = numerals_by_fold _ (search rules) value_on (search rules)

plain_from : (ds : List ℕ) → 0 < length ds → (get_or ds 0 0 ≡ 48 → length ds ≡ 1) → plain ds ≡ true
plain_from [] h z = absurd (omega arith)
plain_from (c ∷ []) h z = refl
plain_from (c ∷ d ∷ cs) h z = not_from_false _ (ne_eqb c 48 (λ e. let k = z e in omega arith))

plain_to : (ds : List ℕ) → plain ds ≡ true → (0 < length ds) × (get_or ds 0 0 ≡ 48 → length ds ≡ 1)
plain_to [] e = cc
plain_to (c ∷ []) e = (omega arith, λ _. refl)
plain_to (c ∷ d ∷ cs) e = (omega arith, λ z. absurd (eqb-false c 48 (not-true _ e) z))

plain_decimal : (n : ℕ) → n < 4294967296 → plain (decimal n) ≡ true
plain_decimal n h =
    plain_from (decimal n) (decimal_nonempty n (omega arith)) (⊎_elim
    (λ z e. ap (λ k. length (decimal k)) z ∙ ap length (decimal_digit 0 (omega arith)))
    (λ z e. absurd (let p : 0 < n = omega arith in omega (arith, first_decimal n p (omega arith))))
    (cases_eq n 0))

-- a number that fits is read back from what is written of it
pub reads_back : (l n : ℕ) → n < 4294967296 → number_of l (decimal n) ≡ Ok n
reads_back l n h =
    let a = digits_decimal own n (omega arith) in
    let v = digits_value-decimal own n (omega arith) in
    let p = plain_decimal n h in
    let b : ltb (value_on 0 (decimal n)) 4294967296 ≡ true = lt-ltb _ _ (omega (arith, v)) in
    cond-true _ _ _ (and_from _ _ a (and_from _ _ p b)) ∙ ap (λ k. Ok k) v

-- what is read is written back
pub writes_back : (l : ℕ) (bs : List ℕ) (n : ℕ) → number_of l bs ≡ Ok n → (decimal n ≡ bs) × (n < 4294967296)
writes_back l bs n e =
    ⊎_elim
    (λ t.
    let ps = and_parts _ _ t in
    let qs = and_parts _ _ ps.1 in
    let lt = ltb-true _ _ qs.1 in
    let w = plain_to bs qs.0 in
    let k : value_on 0 bs ≡ n = let z = sym (cond-true _ _ _ t) ∙ e in cc in
    (ap decimal (sym k) ∙ decimal-digits_value own bs ps.0 w.0 w.1 (omega arith), omega (arith, k)))
    (λ f. let z = sym (cond-false _ _ _ f) ∙ e in cc)
    (cases_Bool (numeral bs))

pub value_push : (n : ℕ) (xs : List ℕ) (c : ℕ) → value_on n (xs ++ c ∷ []) ≡ value_on n xs * 10 + (c - 48)
value_push n [] c = refl
value_push n (x ∷ xs) c = value_push (n * 10 + (x - 48)) xs c

pub value_ge : (n : ℕ) (xs : List ℕ) → n ≤ value_on n xs
value_ge n [] = omega arith
value_ge n (x ∷ xs) = let h = value_ge (n * 10 + (x - 48)) xs in omega arith

pub digit_range : (c : ℕ) → is_ascii_digit c ≡ true → (48 ≤ c) × (c ≤ 57)
digit_range c e = grind (arith, nat_tests)

pub digit_is : (l c d : ℕ) → Ok d ≡ digit_of l c → d ≡ c - 48
digit_is l c d e = ⊎_elim (λ t. let z = e ∙ cond-true _ _ _ t in cc) (λ f. let z = e ∙ cond-false _ _ _ f in cc) (cases_Bool (is_ascii_digit c))

-- a number that runs over is refused whatever follows
pub number_over : (l : ℕ) (xs : List ℕ) (n i d : ℕ) → i < length xs → value_on 0 xs ≡ value_on n (drop i xs) → d ≡ get_or xs i 0 - 48 → 4294967296 ≤ n * 10 + d → Err (fault_at l) ≡ number_of l xs
number_over l xs n i d h v e o =
    let next : value_on n (drop i xs) ≡ value_on (n * 10 + (get_or xs i 0 - 48)) (drop (i + 1) xs) = ap (value_on n) (drop_more xs i 0 h) in
    let long = value_ge (n * 10 + (get_or xs i 0 - 48)) (drop (i + 1) xs) in
    let no : ltb (value_on 0 xs) 4294967296 ≡ false = le-ltb _ _ (omega (arith, v, next, long)) in
    sym (cond-false _ (Ok (value_on 0 xs)) _ (and_right (all_ascii_digits xs) _ (and_right (plain xs) _ no)))

pub number_is : (l : ℕ) (xs : List ℕ) (n : ℕ) → all_ascii_digits xs ≡ true → plain xs ≡ true → value_on 0 xs ≡ n → n < 4294967296 → Ok n ≡ number_of l xs
number_is l xs n a p v h =
    let fits : ltb (value_on 0 xs) 4294967296 ≡ true = lt-ltb _ _ (omega (arith, v)) in
    sym (cond-true _ (Ok (value_on 0 xs)) _ (and_from _ _ a (and_from _ _ p fits)) ∙ ap (λ k. Ok k) v)

pub number_laws : NumberLaws
number_laws = record {
  joins = value_push 0;
  reads = reads_back;
  only = λ l bs n h. (writes_back l bs n h).0;
  zero_reads = λ l. refl;
  zeros_refused = λ l. refl;
  last_reads = λ l. refl;
  next_refused = λ l. refl;
  refused_by = λ l. refl;
}
