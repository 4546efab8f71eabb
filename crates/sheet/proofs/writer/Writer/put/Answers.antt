use Rattle.std.proofs.Common.{sym, refl, arith}
use Rattle.std.proofs.lemmas.List.{set_past}
use Rattle.sheet.proofs.Writing.{step}
use Rattle.sheet.proofs.writer.Writer.put.Goals as goal
use Rattle.sheet.proofs.writer.Writer.put.Goals.{then-self, else-self}

pub loop-b-preserved : goal.loop-b-preserved
loop-b-preserved c =
    let so = c.loop-b.invariant in
    elim c.if-self.branch [
      | then-self w ↦ rw w.self-is (record { same = so.same; place = omega (arith, so.place); out = step _ _ _ _ _ _ c.loop-b-test.true refl so.out })
      | else-self w ↦ rw w.self-is (record { same = so.same; place = omega (arith, so.place); out = step _ _ _ _ _ _ c.loop-b-test.true (sym (set_past _ _ _ w.if-self.false)) so.out })
    ]
