use Rattle.std.proofs.Common.{◌+◌, ltb}
use Rattle.sheet.specs.declared.faults.Fault.TheVariants.{TooManySets}
use Rattle.sheet.specs.declared.keys.Key.TheVariants.{Sets}
use Rattle.sheet.specs.Cursors.{left, due}
use Rattle.sheet.proofs.Judging.{refused_first}
use Rattle.sheet.proofs.cursor.Cursor.count.Goals as goal

pub returns-in_err-n-clause-reads : goal.returns-in_err-n-clause-reads
returns-in_err-n-clause-reads c =
    refused_first Sets 0 32 (λ n. ltb 256 (c.args.before.sofar + n)) (λ l. TooManySets l) (due c.args.self.now) _ (λ n. n) (left c.args.self.now) _ _ _ c.from_residual.ensures.1 c.in_err-n.ensures.reads
