use Rattle.std.proofs.Common.{[], sym, subst}
use Rattle.sheet.specs.Sheets.{lines_of}
use Rattle.master.specs.FromPort.{LeadsFrom, fresh}
use Rattle.master.specs.Masters.{port_by}
use Rattle.master.specs.Session.{PortState}
use Rattle.master.proofs.nmt_master.Master.new.Goals as goal

pub returns-clause-law : goal.returns-clause-law
returns-clause-law g c =
    let p : PortState = port_by g.P.Port c.args.port in
    subst (λ s. LeadsFrom (lines_of c.args.sheet) p [] (record { net = s; port = p })) (sym c.new.ensures) fresh
