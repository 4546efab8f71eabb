use Rattle.std.proofs.Common.{◌≡◌, drop}
use Rattle.sheet.specs.Sheets.{lines_of}
use Rattle.master.specs.Network.{with_entries}
use Rattle.master.specs.Table.{applied_all}
use Rattle.master.specs.Views.{state_of}
use Rattle.master.proofs.network.Course.apply_all.Given as goal

abbrev pub invariant-loop-c : goal.invariant-loop-c
invariant-loop-c l =
    (applied_all l.change (drop l.c-index (lines_of l.sheet).slaves) l.self.table.entries ≡ applied_all l.change (lines_of l.sheet).slaves l.initial.self.table.entries)
    × (state_of l.sheet l.self ≡ with_entries l.self.table.entries (state_of l.sheet l.initial.self))
