use Rattle.std.proofs.Common.{arith}
use Rattle.sheet.proofs.Cutting.{cut_shorter}
use Rattle.sheet.proofs.cursor.Cursor.number.Goals as goal

-- the line takes at least its end
pub invariant_of-self : goal.invariant_of-self
invariant_of-self c =
    let found = rw c.in_ok-whole.was at c.ok_or.ensures.ok_part in
    let shorter = cut_shorter 10 c.args.self.now.rest.now (c.in_ok-whole.whole.now, c.in_ok-whole.rest.now) (rw found at c.cut.ensures) in
    record { counted = omega (arith, shorter, c.args.self.now.counted) }
