use Rattle.std.proofs.Common.{ap, ◌∙◌, arith}
use Rattle.std.proofs.lemmas.List.{drop_all}
use Rattle.std.proofs.lemmas.Result.{err_from_is_err_and}
use Rattle.std.specs.Str.{all_ascii_digits}
use Rattle.sheet.specs.Decimal.{value_on}
use Rattle.sheet.proofs.Joining.{number_long}
use Rattle.sheet.proofs.Numbers.{digit_is, number_over, number_is}
use Rattle.sheet.proofs.digits.number.Goals as goal

pub returns-then-digits-gt-MOST_DIGITS-clause-value : goal.returns-then-digits-gt-MOST_DIGITS-clause-value
returns-then-digits-gt-MOST_DIGITS-clause-value c = number_long _ _ c.if-digits-gt-MOST_DIGITS.true

pub returns-in_err-n-clause-value : goal.returns-in_err-n-clause-value
returns-in_err-n-clause-value c =
    let p = err_from_is_err_and c.from_residual-in_err-n.result c.from_residual-in_err-n.ensures.1 in
    let gone = rw c.in_err-n.was at c.ok_or.ensures.ok_part in
    let over = rw gone at c.joined.ensures in
    let fault = rw gone at c.ok_or.ensures.value in
    let refused = number_over c.args.line c.args.digits.now c.loop-b.n c.loop-b.b-index c.in_ok-d.d c.loop-b-test.true c.loop-b.invariant.value (digit_is _ _ _ c.in_ok-d.ensures) (omega (arith, over)) in
    cc (p.1, p.2, fault, c.in_err-n.was, refused)

pub returns-clause-value : goal.returns-clause-value
returns-clause-value c =
    let so = c.loop-b.invariant in
    let none = drop_all c.loop-b.b-index c.args.digits.now c.loop-b-test.false in
    number_is c.args.line c.args.digits.now c.loop-b.n (so.digits ∙ ap all_ascii_digits none) so.plain (so.value ∙ ap (value_on c.loop-b.n) none) so.fits
