use Rattle.std.proofs.Common.{◌∙◌}
use Rattle.sheet.proofs.Writing.{then, text_is}
use Rattle.sheet.proofs.writer.Writer.line.Goals as goal

pub returns-clause-adds : goal.returns-clause-adds
returns-clause-adds c = then (text_is (c.as_bytes.ensures.value ∙ c.name.ensures) c.put.ensures) (then c.put-2.ensures (then c.number.ensures.adds c.put-3.ensures))
