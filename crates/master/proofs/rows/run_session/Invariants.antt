use Rattle.master.specs.Masters.{machine_by}
use Rattle.master.proofs.Rowing.{Running}
use Rattle.master.proofs.rows.run_session.Given as goal

abbrev pub invariant-loop-exchange : goal.invariant-loop-exchange
invariant-loop-exchange g l = Running l.initial.exchange-items l.exchange-items l.exchange-index (machine_by g.P.Port l.initial.master) (machine_by g.P.Port l.master)
