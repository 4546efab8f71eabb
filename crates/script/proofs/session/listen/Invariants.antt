use Rattle.std.proofs.Common.{◌≡◌, length}
use Rattle.master.specs.Masters.{machine_by}
use Rattle.script.specs.Plays.{played}
use Rattle.script.proofs.session.listen.Given as goal

-- what the rest of the text makes of the master is what the whole text makes of it
abbrev pub invariant-loop-rest : goal.invariant-loop-rest
invariant-loop-rest g l = played l.rest (machine_by g.P.Port l.master) ≡ played l.session (machine_by g.P.Port l.initial.master)

abbrev pub decreases-loop-rest : goal.decreases-loop-rest
decreases-loop-rest g l = length l.rest
