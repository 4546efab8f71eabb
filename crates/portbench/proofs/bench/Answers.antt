use Rattle.std.proofs.Common.{sym, ◌∙◌}
use Rattle.ports.proofs.HandedOver.{fewer}
use Rattle.portbench.proofs.bench.Goals as goal

pub loop-frame-smaller : goal.loop-frame-smaller
loop-frame-smaller g c = fewer _ _ (g.B.Port.pause c.loop-frame.bus) c.in-Some.frame (sym c.in-Some.is ∙ c.take.ensures.answer) c.take.ensures.list
