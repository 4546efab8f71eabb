use Rattle.std.proofs.Common.{sym, refl, ap, ◌∙◌}
use Rattle.std.specs.Option.{option_map}
use Rattle.frames.specs.Contents.{content_of}
use Rattle.master.specs.Masters.{machine_by}
use Rattle.master.specs.Session.{Machine}
use Rattle.master.specs.Views.{view}
use Rattle.master.proofs.Calling.{work_halted, work_idle, work_full, work_put}
use Rattle.master.proofs.Kept.{kept}
use Rattle.master.proofs.nmt_master.Master.work.Goals as goal

pub returns-then-is_halted : goal.returns-then-is_halted
returns-then-is_halted g c =
    let m = c.args.self.now in
    let at : Machine = machine_by g.P.Port m in
    let w = work_halted at (kept m.net) (sym c.is_halted.ensures ∙ c.if-is_halted.true) at refl in
    record { answer = w.answer; state = w.state; law = w.law }

pub returns-in_default : goal.returns-in_default
returns-in_default g c =
    let m = c.args.self.now in
    let at : Machine = machine_by g.P.Port m in
    let w = work_idle at (kept m.net) (sym c.is_halted.ensures ∙ c.if-is_halted.false) c.plan-plan.result c.plan-plan.ensures
    (ap (option_map content_of) (sym c.in_default.is) ∙ c.frame_of.ensures) (view c.carry_out.new.self) c.carry_out.ensures at refl in
    record { answer = w.answer; state = w.state; law = w.law }

pub returns-then-not-put : goal.returns-then-not-put
returns-then-not-put g c =
    let m = c.args.self.now in
    let e = c.put.ensures in
    let w = work_full (view m.net) (g.P.Port.waiting m.port) _ (g.P.Port.most m.port) _ (g.P.Port.gap m.port) _ (g.P.Port.pause m.port) _ (kept m.net)
    (sym c.is_halted.ensures ∙ c.if-is_halted.false) c.plan-plan.result c.plan-plan.ensures c.in-Some.frame (ap (option_map content_of) (sym c.in-Some.is) ∙ c.frame_of.ensures)
    (sym e.answer ∙ c.if-not-put.true) e.list e.most_same e.gap_same e.pause_same _ refl in
    record { answer = w.answer; state = w.state; law = w.law }

pub returns : goal.returns
returns g c =
    let m = c.args.self.now in
    let e = c.put.ensures in
    let w = work_put (view m.net) (view c.carry_out-2.new.self) (g.P.Port.waiting m.port) _ (g.P.Port.most m.port) _ (g.P.Port.gap m.port) _ (g.P.Port.pause m.port) _ (kept m.net)
    (sym c.is_halted.ensures ∙ c.if-is_halted.false) c.plan-plan.result c.plan-plan.ensures c.in-Some.frame (ap (option_map content_of) (sym c.in-Some.is) ∙ c.frame_of.ensures)
    (sym e.answer ∙ c.if-not-put.false) e.list e.most_same e.gap_same e.pause_same c.carry_out-2.ensures _ refl in
    record { answer = w.answer; state = w.state; law = w.law }
