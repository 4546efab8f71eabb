use Rattle.std.proofs.Common.{rules}
use Rattle.measure.proofs.measure_works.Goals as goal

pub returns : goal.returns
returns c = c.after_session.ensures c.args.count (λ m r n p. search rules)
