use Rattle.std.proofs.Common.{◌≡◌, ◌+◌, ◌*◌, ◌^◌, ◌<◌, ◌≤◌, length, get_or, drop, IfSome, sym, refl, ap, ◌∙◌, subst, arith}
use native.Mathlib.Nat.{pow-zero}
use borrow.Author.Tests.{eqb-false}
use Rattle.std.specs.Char.{digit_value}
use Rattle.candump.specs.Logs.{number_on}
use Rattle.candump.proofs.Digits.{read_digit, below_power, power_fits, in_number, no_number}
use Rattle.candump.proofs.number.number.Goals as goal
use Rattle.candump.proofs.number.number.Goals.{In_ok-digit}

pub loop-b-init : goal.loop-b-init
loop-b-init c = (refl, omega (arith, pow-zero c.args.radix))

-- what the number becomes with the digit of this turn, and how far it can go
grown : (c : In_ok-digit) → (c.loop-b.n * c.args.radix + c.in_ok-digit.digit < c.args.radix ^ (c.loop-b.b-index + 1)) × (c.loop-b.n * c.args.radix + c.in_ok-digit.digit < 1099511627776)
grown c =
    let d = c.in_ok-digit.ensures.value in
    let power = below_power c.args.radix c.loop-b.n c.in_ok-digit.digit c.loop-b.b-index c.loop-b.invariant.1 (omega (arith, d.0, d.1)) in
    let fits = power_fits c.args.radix (c.loop-b.b-index + 1) c.requires.high (omega arith) in
    (power, omega (arith, power, fits))

pub returns-in_err-digit : goal.returns-in_err-digit
returns-in_err-digit c =
    let none = c.from_residual.ensures in
    let left = eqb-false (length c.args.digits.now) 0 (sym c.is_empty.ensures ∙ c.if-is_empty.false) in
    let some : 0 < length c.args.digits.now = omega (arith, left) in
    let wrong : digit_value (get_or c.args.digits.now c.loop-b.b-index 0) < c.args.radix → ⊥ = subst (λ x. digit_value x < c.args.radix → ⊥) c.from.ensures c.in_err-digit.ensures.value in
    record {
      value = none ∙ no_number c.args.radix c.loop-b.n c.args.digits.now c.loop-b.b-index some (omega arith) (omega arith) wrong c.loop-b.invariant.0;
      bound = subst (λ r. IfSome r (λ n. (length c.args.digits.now ≤ 10) × (n < c.args.radix ^ length c.args.digits.now))) (sym none) tt;
    }

pub overflow_mul-n : goal.overflow_mul-n
overflow_mul-n c =
    let g = grown (goal.at.overflow_mul-n c).In_ok-digit in
    let same : c.loop-b.n * c.from-in-loop-b.result ≡ c.loop-b.n * c.args.radix = ap (λ r. c.loop-b.n * r) c.from-in-loop-b.ensures in
    omega (arith, g.1, same)

pub overflow_add-n : goal.overflow_add-n
overflow_add-n c =
    let g = grown (goal.at.overflow_add-n c).In_ok-digit in
    let same : c.loop-b.n * c.from-in-loop-b.result ≡ c.loop-b.n * c.args.radix = ap (λ r. c.loop-b.n * r) c.from-in-loop-b.ensures in
    omega (arith, g.1, same, c.from-in-loop-b-2.ensures)

pub loop-b-preserved : goal.loop-b-preserved
loop-b-preserved c =
    let d = c.in_ok-digit.ensures.value in
    let g = grown (goal.at.loop-b-preserved c).In_ok-digit in
    let same : c.loop-b.n * c.from-in-loop-b.result ≡ c.loop-b.n * c.args.radix = ap (λ r. c.loop-b.n * r) c.from-in-loop-b.ensures in
    let sum : c.loop-b.n * c.from-in-loop-b.result + c.from-in-loop-b-2.result ≡ c.loop-b.n * c.args.radix + c.in_ok-digit.digit = omega (arith, same, c.from-in-loop-b-2.ensures) in
    let lt : digit_value (get_or c.args.digits.now c.loop-b.b-index 0) < c.args.radix = subst (λ x. digit_value x < c.args.radix) c.from.ensures d.0 in
    let is : c.in_ok-digit.digit ≡ digit_value (get_or c.args.digits.now c.loop-b.b-index 0) = d.1 ∙ ap digit_value c.from.ensures in (
      ap (λ m. number_on c.args.radix m (drop (c.loop-b.b-index + 1) c.args.digits.now)) sum
          ∙ read_digit c.args.radix c.loop-b.n c.in_ok-digit.digit c.args.digits.now c.loop-b.b-index (omega arith) lt is
          ∙ c.loop-b.invariant.0,
      omega (arith, g.0, sum),
    )

pub returns : goal.returns
returns c =
    let all : c.loop-b.b-index ≡ length c.args.digits.now = omega arith in
    let below : c.loop-b.n < c.args.radix ^ length c.args.digits.now = subst (λ k. c.loop-b.n < c.args.radix ^ k) all c.loop-b.invariant.1 in
    let left = eqb-false (length c.args.digits.now) 0 (sym c.is_empty.ensures ∙ c.if-is_empty.false) in
    let some : 0 < length c.args.digits.now = omega (arith, left) in
    record {
      value = in_number c.args.radix c.loop-b.n c.args.digits.now c.loop-b.b-index some (omega arith) (omega arith) c.loop-b.invariant.0;
      bound = (omega arith, below);
    }
