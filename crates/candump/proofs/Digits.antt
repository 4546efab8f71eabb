-- Digits, one after the other.
use Rattle.std.proofs.Common.{◌≡◌, ℕ, ◌+◌, ◌*◌, ◌^◌, ◌<◌, ◌≤◌, true, cond, ltb, List, length, get_or, drop, Some, None, sym, ap, ◌∙◌, mul-le-mul_right, add-mul, one-mul, pow-suc, add-one, arith}
use native.Mathlib.Nat.{pow-le-pow_left, pow-le-pow_right}
use Rattle.std.specs.Char.{digit_value}
use Rattle.std.specs.Int.{is_in_range}
use Rattle.std.proofs.lemmas.List.{at_drop_more, at_drop_all}
use Rattle.std.proofs.lemmas.Bool.{lt-ltb, le-ltb, le-leb, and_from, cond-true, cond-false}
use Rattle.candump.specs.Logs.{number_on, number_in}

step : (r n : ℕ) (s : List ℕ) (i : ℕ) → i < length s → number_on r n (drop i s) ≡ cond (ltb (digit_value (get_or s i 0)) r) (number_on r (n * r + digit_value (get_or s i 0)) (drop (i + 1) s)) None
step r n s i h = at_drop_more (number_on r n) s i 0 h

-- one digit more is read
pub read_digit : (r n d : ℕ) (s : List ℕ) (i : ℕ) → i < length s → digit_value (get_or s i 0) < r → d ≡ digit_value (get_or s i 0) → number_on r (n * r + d) (drop (i + 1) s) ≡ number_on r n (drop i s)
read_digit r n d s i h lt e =
    ap (λ x. number_on r (n * r + x) (drop (i + 1) s)) e ∙ sym (step r n s i h ∙ cond-true _ _ _ (lt-ltb (digit_value (get_or s i 0)) r lt))

not_below : (a b : ℕ) → (a < b → ⊥) → b ≤ a
not_below a b h = omega (arith, h)

-- what is no digit ends the reading
pub read_no_digit : (r n : ℕ) (s : List ℕ) (i : ℕ) → i < length s → r ≤ digit_value (get_or s i 0) → number_on r n (drop i s) ≡ None
read_no_digit r n s i h ge = step r n s i h ∙ cond-false _ _ _ (le-ltb (digit_value (get_or s i 0)) r ge)

-- with each digit the number stays below one power more
pub below_power : (r n d i : ℕ) → n < r ^ i → d < r → n * r + d < r ^ (i + 1)
below_power r n d i h l =
    let more : (n + 1) * r ≤ r ^ i * r = mul-le-mul_right r (omega arith) in
    let parted : (n + 1) * r ≡ n * r + r = add-mul n 1 r ∙ ap (λ x. n * r + x) (one-mul r) in
    let power : r ^ (i + 1) ≡ r ^ i * r = ap (λ k. r ^ k) (add-one i) ∙ pow-suc r i in
    omega (arith, more, parted, power)

-- ten digits of a radix up to sixteen stay below 2^40
pub power_fits : (r i : ℕ) → r ≤ 16 → i ≤ 10 → r ^ i ≤ 1099511627776
power_fits r i h l =
    let wide : r ^ i ≤ 16 ^ i = pow-le-pow_left h i in
    let long : 16 ^ i ≤ 16 ^ 10 = pow-le-pow_right (omega arith) l in
    omega (arith, wide, long)

counted : (s : List ℕ) → 0 < length s → length s ≤ 10 → is_in_range 1 10 (length s) ≡ true
counted s some few = and_from _ _ (le-leb 1 (length s) some) (le-leb (length s) 10 few)

-- all digits are read
pub in_number : (r n : ℕ) (s : List ℕ) (i : ℕ) → 0 < length s → length s ≤ 10 → length s ≤ i → number_on r n (drop i s) ≡ number_on r 0 s → Some n ≡ number_in r s
in_number r n s i some few all inv =
    sym (at_drop_all (number_on r n) s i all) ∙ inv ∙ sym (cond-true _ _ _ (counted s some few))

pub no_number : (r n : ℕ) (s : List ℕ) (i : ℕ) → 0 < length s → length s ≤ 10 → i < length s → (digit_value (get_or s i 0) < r → ⊥) → number_on r n (drop i s) ≡ number_on r 0 s → None ≡ number_in r s
no_number r n s i some few inside wrong inv =
    let large : r ≤ digit_value (get_or s i 0) = not_below _ _ wrong in
    sym (read_no_digit r n s i inside large) ∙ inv ∙ sym (cond-true _ _ _ (counted s some few))
