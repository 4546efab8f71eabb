use Rattle.std.proofs.Common.{length}
use Rattle.portbench.proofs.bench.Given as goal

abbrev pub decreases-loop-frame : goal.decreases-loop-frame
decreases-loop-frame g l = length (g.B.Port.waiting l.bus)
