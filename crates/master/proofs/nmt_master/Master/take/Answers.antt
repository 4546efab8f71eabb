use Rattle.std.proofs.Common.{refl}
use Rattle.frames.proofs.Same.{same_value}
use Rattle.master.specs.Views.{view}
use Rattle.master.proofs.Calling.{took}
use Rattle.master.proofs.Kept.{kept}
use Rattle.master.proofs.nmt_master.Master.take.Goals as goal

pub returns : goal.returns
returns g c =
    let m = c.args.self.now in
    let e = c.take.ensures in
    let t = took (view m.net) (g.P.Port.waiting m.port) _ (g.P.Port.most m.port) _ (g.P.Port.gap m.port) _ (g.P.Port.pause m.port) _ (kept m.net) c.take.result e.answer e.list e.pauses e.most_same e.gap_same _ refl in
    record { answer = e.answer; content = t.answer; whole = same_value; state = t.state; law = t.law }
