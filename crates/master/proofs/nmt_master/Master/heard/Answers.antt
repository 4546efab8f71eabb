use Rattle.std.proofs.Common.{Ok, refl, sym, subst}
use Rattle.master.specs.Masters.{port_by, machine_by}
use Rattle.master.specs.Session.{Machine}
use Rattle.master.specs.Views.{view}
use Rattle.master.proofs.Calling.{HeardAs, not_heard, heard_frame}
use Rattle.master.proofs.Kept.{kept}
use Rattle.master.proofs.nmt_master.Master.heard.Goals as goal

pub returns-in_default : goal.returns-in_default
returns-in_default g c =
    let m = c.args.self.now in
    let at : Machine = machine_by g.P.Port m in
    let h = not_heard c.args.id c.args.bytes.now at (kept m.net) c.in_default.ensures.1 at refl in
    record { answer = h.answer; state = h.state; law = h.law }

pub returns : goal.returns
returns g c =
    let m = c.args.self.now in
    let at : Machine = machine_by g.P.Port m in
    let made = c.in-Ok.ensures in
    let e = c.hear.ensures in
    let s = view c.hear.new.self.net in
    let h = subst (λ p. HeardAs c.args.id c.args.bytes.now at (Ok c.hear.result) (record { net = s; port = port_by g.P.Port p })) (sym e.port)
    (heard_frame c.in-Ok.frame c.args.id c.args.bytes.now at (kept m.net) made.0 made.1 made.2 c.hear.result s e.answer e.net at refl) in
    record { answer = h.answer; state = h.state; law = h.law }
