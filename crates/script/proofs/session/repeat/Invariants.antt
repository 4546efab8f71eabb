use Rattle.std.proofs.Common.{◌≡◌, ◌-◌, OnOk}
use Rattle.master.specs.Masters.{machine_by}
use Rattle.master.specs.Session.{Machine}
use Rattle.script.specs.Plays.{times}
use Rattle.script.proofs.session.repeat.Given as goal

-- the calls that are left make of what there is now what all of them make of what was there first
abbrev pub invariant-loop : goal.invariant-loop
invariant-loop g l =
    (step : Machine → Machine)
    → ((f : _) (m : _) (r : _) (n : _) (h : _) → goal.F-step g f m r n h → OnOk r (machine_by g.P.Port n.now ≡ step (machine_by g.P.Port m.now)))
    → times step (l.count - l.counter) (machine_by g.P.Port l.master) ≡ times step l.count (machine_by g.P.Port l.initial.master)
