use Rattle.std.proofs.Common.{◌+◌, ◌*◌, ◌≤◌, map, take}
use Rattle.std.specs.List.{flat_map}
use Rattle.sheet.specs.Format.{set_c}
use Rattle.sheet.specs.Views.{set_of}
use Rattle.sheet.specs.Writes.{Adds}
use Rattle.sheet.proofs.writer.Writer.slave.Given as goal

abbrev pub invariant-loop-set : goal.invariant-loop-set
invariant-loop-set l = record {
  bound : l.self.len ≤ l.initial.self.len + 84 * l.set-index;
  adds : Adds l.initial.self (flat_map set_c.write (map set_of (take l.set-index l.sets))) l.self;
}
