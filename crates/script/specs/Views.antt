-- What the types of a session stand for.
use Rattle.std.specs.Prelude.{ℕ, List}
use Rattle.script.specs.declared.lines.Line.{Line}
use Rattle.script.specs.declared.lines.Line.TheVariants.{Heard, Work, Take, Tick}
use Rattle.sheet.specs.Few.{few_items}
use Rattle.sheet.specs.declared.few.Few.{Few}
use Rattle.script.specs.Sessions.{Order, heard, works, takes, ticks}

abbrev pub bytes_of : Few ℕ 9 → List ℕ
bytes_of d = few_items d

abbrev pub line_of : Line → Order
line_of (Heard id d) = heard id (bytes_of d)
line_of (Work n) = works n
line_of (Take n) = takes n
line_of (Tick n) = ticks n
