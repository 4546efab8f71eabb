use Rattle.std.proofs.Common.{◌∙◌, arith}
use Rattle.script.proofs.Playing.{once_more, at_last}
use Rattle.script.proofs.session.repeat.Goals as goal

pub loop-preserved : goal.loop-preserved
loop-preserved g c = λ kind does. once_more kind c.args.count c.loop.counter _ _ (omega arith) (rw c.in_ok-call.was at (does _ _ _ _ _ c.call.ensures)) ∙ c.loop.invariant kind does

pub returns : goal.returns
returns g c = λ kind does. at_last kind c.args.count c.loop.counter _ _ (omega arith) (c.loop.invariant kind does)
