use Rattle.std.proofs.Common.{sym, subst}
use Rattle.master.specs.FromPort.{Tells}
use Rattle.master.specs.Masters.{machine_by}
use Rattle.master.specs.Session.{Machine}
use Rattle.master.proofs.Kept.{kept}
use Rattle.master.proofs.Standing.{tells}
use Rattle.master.proofs.nmt_master.Master.go.Goals as goal

pub returns-clause-law : goal.returns-clause-law
returns-clause-law g c =
    let m = c.args.self.now in
    let at : Machine = machine_by g.P.Port m in
    subst (Tells at) (sym c.go.ensures) (tells at (kept m.net))
