use Rattle.std.proofs.Common.{◌≡◌, ◌<◌, true, drop}
use Rattle.std.specs.Str.{all_ascii_digits}
use Rattle.sheet.specs.Decimal.{value_on, plain}
use Rattle.sheet.proofs.digits.number.Given as goal

abbrev pub invariant-loop-b : goal.invariant-loop-b
invariant-loop-b l = record {
  fits : l.n < 4294967296;
  plain : plain l.digits ≡ true;
  digits : all_ascii_digits l.digits ≡ all_ascii_digits (drop l.b-index l.digits);
  value : value_on 0 l.digits ≡ value_on l.n (drop l.b-index l.digits);
}
