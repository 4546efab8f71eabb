-- The refusal number, the line and the layer of a fault, by variant.
use Rattle.std.specs.Prelude.{ℕ, List, ◌++◌, codes}
use Rattle.sheet.specs.declared.faults.DigitsFault.{DigitsFault}
use Rattle.sheet.specs.declared.faults.LineFault.{LineFault}
use Rattle.sheet.specs.declared.faults.LineFault.TheVariants.{Digits, Shape}
use Rattle.sheet.specs.declared.faults.Fault.{Fault}
use Rattle.sheet.specs.declared.faults.Fault.TheVariants.{Line, Range, Order, Silent, TooManySets, After}
use Rattle.sheet.specs.declared.faults.Layer.{Layer}
use Rattle.sheet.specs.declared.faults.Layer.TheVariants.{Digits as DigitsLayer, Line as LineLayer, Sheet as SheetLayer}
use Rattle.sheet.specs.declared.faults.TooShort.{TooShort}
use Rattle.sheet.specs.Keys.{name_of}

-- 1 no number, 2 no line of the key that is due, 3 outside its range, 4 node own or not above the last,
-- 5 keep-alive without heartbeat, 6 more than 256 sets so far, 7 bytes after the last line
abbrev pub refusal_of : Fault → ℕ
refusal_of (Line (Digits d)) = 1
refusal_of (Line (Shape l k)) = 2
refusal_of (Range l k low high) = 3
refusal_of (Order l) = 4
refusal_of (Silent l) = 5
refusal_of (TooManySets l) = 6
refusal_of (After l) = 7

-- the line that a fault was found at
abbrev pub line_number_of : Fault → ℕ
line_number_of (Line (Digits d)) = d.line
line_number_of (Line (Shape l k)) = l
line_number_of (Range l k low high) = l
line_number_of (Order l) = l
line_number_of (Silent l) = l
line_number_of (TooManySets l) = l
line_number_of (After l) = l

-- refusal 1 is found among digits, 2 in a line, 3 to 7 in the sheet
abbrev pub layer_of : Fault → Layer
layer_of (Line (Digits d)) = DigitsLayer
layer_of (Line (Shape l k)) = LineLayer
layer_of (Range l k low high) = SheetLayer
layer_of (Order l) = SheetLayer
layer_of (Silent l) = SheetLayer
layer_of (TooManySets l) = SheetLayer
layer_of (After l) = SheetLayer

-- 8: the output is shorter than the text
abbrev pub short_refusal : TooShort → ℕ
short_refusal s = 8

-- what is printed of a value that is no number
abbrev pub digits_sentence : DigitsFault → List ℕ
digits_sentence d = codes "the value must be a decimal number up to 4294967295 without leading zeros"

-- what is printed of a line that is none, or not the one that is due
abbrev pub line_sentence : LineFault → List ℕ
line_sentence (Digits d) = digits_sentence d
line_sentence (Shape l k) = codes "'" ++ (name_of k ++ codes "=' with a number and a line end is due here")
