use Rattle.std.proofs.Common.{sym, ◌∙◌, arith}
use Rattle.std.proofs.lemmas.Bool.{cond-true, cond-false}
use Rattle.master.specs.Views.{view}
use Rattle.master.proofs.Walking.{single_at}
use Rattle.master.proofs.network.Network.single_after.Goals as goal

pub returns-then-sweeps_to : goal.returns-then-sweeps_to
returns-then-sweeps_to c =
    let s = single_at (view c.args.self.now) c.loop-node.node (omega arith) in
    sym (s ∙ cond-true _ _ _ (sym c.sweeps_to.ensures ∙ c.if-sweeps_to.true)) ∙ c.loop-node.invariant

pub loop-node-preserved : goal.loop-node-preserved
loop-node-preserved c =
    let s = single_at (view c.args.self.now) c.loop-node.node (omega arith) in
    sym (s ∙ cond-false _ _ _ (sym c.sweeps_to.ensures ∙ c.if-sweeps_to.false)) ∙ c.loop-node.invariant
