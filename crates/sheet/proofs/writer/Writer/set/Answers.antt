use Rattle.sheet.specs.declared.keys.Key.TheVariants.{Index, Sub, Size}
use Rattle.sheet.proofs.Writing.{then, line_is}
use Rattle.sheet.proofs.writer.Writer.set.Goals as goal

pub returns-clause-adds : goal.returns-clause-adds
returns-clause-adds c =
    then (line_is Index c.from.ensures c.line.ensures.adds) (then (line_is Sub c.from-2.ensures c.line-2.ensures.adds) (then (line_is Size c.from-3.ensures c.line-3.ensures.adds) c.line-4.ensures.adds))
