use Rattle.std.proofs.Common.{◌^◌, ◌<◌, arith}
use Rattle.std.proofs.Math.Nat.{one-le-pow}
use Rattle.sheet.proofs.cursor.Cursor.set.Goals as goal

pub invariant_of-result : goal.invariant_of-result
invariant_of-result c =
    let s = c.in_ok-size.ensures.bound in
    let v = c.in_ok-value.ensures.bound in
    let m = c.largest.ensures in
    let p : 0 < 256 ^ c.in_ok-size.field-0 = one-le-pow c.in_ok-size.field-0 256 (omega arith) in
    record { sized = (s.0, s.1); fits = omega (arith, p, m, v.1) }
