-- What a cursor stands before, and what a reader does with it.
use Rattle.std.specs.Prelude.{ℕ, List, Result}
use Rattle.sheet.specs.declared.cursor.Cursor.{Cursor}
use Rattle.sheet.specs.declared.faults.Fault.{Fault}
use Rattle.sheet.specs.Codec.{Codec}
use Rattle.sheet.specs.Reads.{Reads}

-- the text from the cursor on, and the number of the line that is due
abbrev pub left : Cursor → List ℕ
left c = c.rest.now

abbrev pub due : Cursor → ℕ
due c = c.line

-- the cursor went from a to b, and r, seen as v, is what the format c reads there
abbrev pub ReadAs : {A X : Type 0} → (X → A) → Codec A → Cursor → Result X Fault → Cursor → Type 0
ReadAs v c a r b = Reads v (c.read (due a) (left a)) r (due b) (left b)
