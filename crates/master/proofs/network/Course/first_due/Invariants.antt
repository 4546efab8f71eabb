use Rattle.std.proofs.Common.{◌≡◌, map, drop}
use Rattle.sheet.specs.Views.{slave_of}
use Rattle.master.specs.Network.{first_due}
use Rattle.master.proofs.network.Course.first_due.Given as goal

abbrev pub invariant-loop-c : goal.invariant-loop-c
invariant-loop-c l = first_due l.go l.self.table.entries (drop l.c-index (map slave_of l.slaves)) ≡ first_due l.go l.self.table.entries (map slave_of l.slaves)
