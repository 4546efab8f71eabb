use Rattle.std.proofs.Common.{◌≡◌, ◌+◌, drop}
use Rattle.sheet.specs.Writes.{over}
use Rattle.sheet.proofs.writer.Writer.put.Given as goal

abbrev pub invariant-loop-b : goal.invariant-loop-b
invariant-loop-b l = record {
  same : l.self.out.ghost_name ≡ l.initial.self.out.ghost_name;
  place : l.self.len ≡ l.initial.self.len + l.b-index;
  out : over l.self.out.now l.self.len (drop l.b-index l.bytes) ≡ over l.initial.self.out.now l.initial.self.len l.bytes;
}
