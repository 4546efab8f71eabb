-- The program's values as the lines that they stand for.
use Rattle.std.specs.Prelude.{ℕ, Bool, List, map, vec_items, Vec}
use Rattle.std.specs.declared.alloc.Global.{Global}
use Rattle.sheet.specs.declared.before.Before.{Before}
use Rattle.sheet.specs.declared.few.Few.{Few}
use Rattle.sheet.specs.declared.model.set.Set.{Set}
use Rattle.sheet.specs.declared.model.slave.Slave.{Slave}
use Rattle.sheet.specs.Few.{few_items}
use Rattle.sheet.specs.Format.{SetLines, SlaveLines, SheetLines, Before as BeforeLines}

abbrev pub set_of : Set → SetLines
set_of s = record { index = s.index; sub = s.sub; size = s.size; value = s.value }

abbrev pub sets_of : Few Set 32 → List SetLines
sets_of s = map set_of (few_items s)

abbrev pub slave_of : Slave → SlaveLines
slave_of s = record { node = s.node; mandatory = s.mandatory; keep = s.keep; kind = s.kind; vendor = s.vendor; product = s.product; revision = s.revision; serial = s.serial; hb = s.hb; sets = sets_of s.sets }

abbrev pub slaves_of : Vec Slave Global → List SlaveLines
slaves_of v = map slave_of (vec_items v)

-- field by field, since a sheet's own ghost field cites it, and has no sheet to name
abbrev pub lines_from : ℕ → ℕ → ℕ → ℕ → Bool → Bool → Bool → Vec Slave Global → SheetLines
lines_from own wait boottime inhibit startall resetall stopall slaves = record { own = own; wait = wait; boottime = boottime; inhibit = inhibit; startall = startall; resetall = resetall; stopall = stopall; slaves = slaves_of slaves }

abbrev pub before_of : Before → BeforeLines
before_of b = (b.own, (b.last, b.sofar))
