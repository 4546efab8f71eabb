-- The sheet of a network keeps its rules.
use Rattle.sheet.proofs.Keeping.{keeps_to}
use Rattle.sheet.specs.Rules.{Keeps}
use Rattle.sheet.specs.Sheets.{lines_of}
use Rattle.master.specs.Views.{view}
use Rattle.master.specs.declared.network.Network.{Network}

pub kept : (n : Network) → Keeps (view n).lines
kept n = keeps_to (lines_of n.roll.sheet) n.roll.sheet.kept
