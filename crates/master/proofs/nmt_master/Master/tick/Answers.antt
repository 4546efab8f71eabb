use Rattle.std.proofs.Common.{refl}
use Rattle.master.specs.Masters.{machine_by}
use Rattle.master.specs.Session.{Machine, pass}
use Rattle.master.specs.Views.{view}
use Rattle.master.proofs.Calling.{did, tick_leaves}
use Rattle.master.proofs.Kept.{kept}
use Rattle.master.proofs.nmt_master.Master.tick.Goals as goal

pub returns : goal.returns
returns g c =
    let m = c.args.self.now in
    let p = c.tick-2.ensures in
    let e = tick_leaves (view m.net) _ (g.P.Port.waiting m.port) _ _ _ _ _ _ _ c.tick.ensures p.list p.most_same p.gap_same p.pauses in
    let at : Machine = machine_by g.P.Port m in
    let t = did pass at _ (kept m.net) e at refl in
    record { state = t.state; law = t.law }
