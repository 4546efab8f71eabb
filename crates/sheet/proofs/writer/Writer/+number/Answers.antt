use Rattle.std.proofs.Common.{◌<◌, decimal, arith}
use Rattle.sheet.specs.Writes.{Adds}
use Rattle.sheet.proofs.Writing.{number_long, number_short, number_room}
use Rattle.sheet.proofs.writer.Writer.+number.Goals as goal
use Rattle.sheet.proofs.writer.Writer.+number.Goals.{then-n-ge10, else-n-ge10}

pub returns : goal.returns
returns t c =
    let n = c.args.n in
    let small : n < 4294967296 = omega arith in
    let added : Adds c.args.self.now (decimal n) c.put.new.self = elim c.if-n-ge10.branch [
      | then-n-ge10 w ↦ number_long _ _ _ n (omega arith) small w.number.ensures.adds (rw w.self-is at c.put.ensures)
      | else-n-ge10 w ↦ number_short _ _ n (omega arith) (rw w.self-is at c.put.ensures)
    ] in
    record { adds = added; bound = omega (arith, added.wrote.place, number_room n small) }
