use Rattle.sheet.specs.Format.{text}
use Rattle.sheet.specs.Sheets.{lines_of}
use Rattle.sheet.proofs.Keeping.{lasting}
use Rattle.sheet.proofs.Writing.{write_long}
use Rattle.sheet.proofs.model.sheet.Sheet.write.Goals as goal

pub returns-then-out-needed-clause-lasting : goal.returns-then-out-needed-clause-lasting
returns-then-out-needed-clause-lasting c = lasting (lines_of c.args.self.now) c.args.self.now.kept

pub returns-clause-written : goal.returns-clause-written
returns-clause-written c = write_long c.args.out.now (text (lines_of c.args.self.now)) _ _ _ c.written-needed.result _ c.written-needed.ensures c.if-out-needed.false c.written.ensures

pub returns-clause-lasting : goal.returns-clause-lasting
returns-clause-lasting c = lasting (lines_of c.args.self.now) c.args.self.now.kept
