use Rattle.std.proofs.Common.{◌+◌, ◌*◌, ◌≤◌, map, take}
use Rattle.std.specs.List.{flat_map}
use Rattle.sheet.specs.Format.{slave_text}
use Rattle.sheet.specs.Views.{slave_of}
use Rattle.sheet.specs.Writes.{Adds}
use Rattle.sheet.proofs.writer.Writer.sheet.Given as goal

abbrev pub invariant-loop-slave : goal.invariant-loop-slave
invariant-loop-slave l = record {
  bound : l.self.len ≤ l.initial.self.len + 3000 * l.slave-index;
  adds : Adds l.initial.self (flat_map slave_text (map slave_of (take l.slave-index l.slave-items))) l.self;
}
