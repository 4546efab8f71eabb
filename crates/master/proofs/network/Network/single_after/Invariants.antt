use Rattle.std.proofs.Common.{◌≡◌, ◌-◌}
use Rattle.master.specs.Network.{single_after}
use Rattle.master.specs.Views.{view}
use Rattle.master.proofs.network.Network.single_after.Given as goal

abbrev pub invariant-loop-node : goal.invariant-loop-node
invariant-loop-node l = single_after (view l.self) (127 - l.node) l.node ≡ single_after (view l.self) (127 - l.passed) l.passed
