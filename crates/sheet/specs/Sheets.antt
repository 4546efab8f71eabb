-- The lines of a sheet, and what its public calls answer and leave.
use Rattle.std.specs.Prelude.{◌≡◌, ℕ, false, List, [], Ok, Err, Result}
use Rattle.sheet.specs.declared.faults.Fault.{Fault}
use Rattle.sheet.specs.declared.model.sheet.Sheet.{Sheet}
use Rattle.sheet.specs.declared.reader.Header.{Header}
use Rattle.sheet.specs.Format.{HeaderLines, SlaveLines, SheetLines, to_sheet, reading}
use Rattle.sheet.specs.Views.{lines_from}

-- the lines that a sheet stands for
abbrev pub lines_of : Sheet → SheetLines
lines_of s = lines_from s.own s.wait s.boottime s.inhibit s.startall s.resetall s.stopall s.slaves

abbrev pub header_of : Header → HeaderLines
header_of h = record { own = h.own; wait = h.wait; boottime = h.boottime; inhibit = h.inhibit; startall = h.startall; resetall = h.resetall; stopall = h.stopall }

-- own 1, wait 1000, and zeros
abbrev pub empty_lines : SheetLines
empty_lines = record { own = 1; wait = 1000; boottime = 0; inhibit = 0; startall = false; resetall = false; stopall = false; slaves = [] }

-- a reading of t answers r and leaves the lines s: those that t says, or the empty sheet's and the fault
abbrev pub Filled : List ℕ → SheetLines → Result (Unit {0}) Fault → Type 0
Filled t s (Ok u) = reading t ≡ Ok s
Filled t s (Err e) = (reading t ≡ Err e) × (s ≡ empty_lines)

-- the lines of a whole text: the header and the slaves ss, or the fault
abbrev pub Parsed : List ℕ → List SlaveLines → Result Header Fault → Type 0
Parsed t ss (Ok h) = reading t ≡ Ok (to_sheet (header_of h, ss))
Parsed t ss (Err e) = reading t ≡ Err e
