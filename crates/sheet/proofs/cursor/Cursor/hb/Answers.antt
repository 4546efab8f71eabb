use Rattle.std.proofs.Common.{◌&&◌, eqb}
use Rattle.sheet.specs.declared.faults.Fault.TheVariants.{Silent}
use Rattle.sheet.specs.declared.keys.Key.TheVariants.{Hb}
use Rattle.sheet.specs.Cursors.{left, due}
use Rattle.sheet.proofs.Judging.{refused_first}
use Rattle.sheet.proofs.cursor.Cursor.hb.Goals as goal

pub returns-in_err-hb-clause-reads : goal.returns-in_err-hb-clause-reads
returns-in_err-hb-clause-reads c =
    refused_first Hb 0 65535 (λ h. c.args.keep && eqb h 0) (λ l. Silent l) (due c.args.self.now) _ (λ n. n) (left c.args.self.now) _ _ _ c.from_residual.ensures.1 c.in_err-hb.ensures.reads
