use Rattle.std.proofs.Common.{◌||◌, eqb, leb}
use Rattle.sheet.specs.declared.faults.Fault.TheVariants.{Order}
use Rattle.sheet.specs.declared.keys.Key.TheVariants.{Node}
use Rattle.sheet.specs.Cursors.{left, due}
use Rattle.sheet.proofs.Judging.{refused_first}
use Rattle.sheet.proofs.cursor.Cursor.node.Goals as goal

pub returns-in_err-node-clause-reads : goal.returns-in_err-node-clause-reads
returns-in_err-node-clause-reads c =
    refused_first Node 1 127 (λ n. eqb n c.args.before.own || leb n c.args.before.last) (λ l. Order l) (due c.args.self.now) _ (λ n. n) (left c.args.self.now) _ _ _ c.from_residual.ensures.1 c.in_err-node.ensures.reads
