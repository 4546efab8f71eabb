use Rattle.std.proofs.Common.{◌≡◌, drop}
use Rattle.sheet.specs.Sheets.{lines_of}
use Rattle.master.specs.Network.{tick_from}
use Rattle.master.specs.Views.{state_of}
use Rattle.master.proofs.network.Course.tick.Given as goal

abbrev pub invariant-loop-c : goal.invariant-loop-c
invariant-loop-c l = tick_from (drop l.c-index (lines_of l.sheet).slaves) (state_of l.sheet l.self) ≡ tick_from (lines_of l.sheet).slaves (state_of l.sheet l.initial.self)
