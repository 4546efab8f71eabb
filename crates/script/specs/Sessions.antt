-- What the text of a session says.
use Rattle.std.specs.Prelude.{ℕ, cond, List, [], ◌∷◌, take, Some, None, codes, Option, ◌==◌, nat_lt}
use Rattle.std.specs.List.{onto_first, slice_split}
use Rattle.std.specs.Option.{option_map, unwrap_or}
use Rattle.std.specs.Str.{bytes_eq}
use Rattle.sheet.specs.Decimal.{numeral, value_on}
use Rattle.sheet.specs.Lines.{cut_at}
use Rattle.script.specs.declared.lines.Key.{Key}
use Rattle.script.specs.declared.lines.Key.TheVariants.{Heard, Work, Take, Tick}

-- what a line asks for: a frame with its identifier and bytes is heard, or there are so many works, takes or ticks
pub data Order : Type 0 where
  heard : ℕ → List ℕ → Order
  works : ℕ → Order
  takes : ℕ → Order
  ticks : ℕ → Order

-- go on with what is there
abbrev pub and_then : {A B : Type 0} → Option A → (A → Option B) → Option B
and_then None f = None
and_then (Some a) f = f a

-- a decimal number by the rule of sheets
abbrev pub number_in : List ℕ → Option ℕ
number_in t = cond (numeral t) (Some (value_on 0 t)) None

-- a byte is a number up to 255
abbrev pub byte_in : List ℕ → Option ℕ
byte_in t = and_then (number_in t) (λ n. cond (nat_lt 255 n) None (Some n))

-- the parts between the commas, one more than there are commas
abbrev pub parts : List ℕ → List (List ℕ)
parts t = slice_split (λ c. c == 44) t

-- the bytes that parts say, if each of them says one
abbrev pub bytes_in : List (List ℕ) → Option (List ℕ)
bytes_in [] = Some []
bytes_in (p ∷ ps) = and_then (byte_in p) (λ b. option_map (λ bs. b ∷ bs) (bytes_in ps))

-- the same, of which nine are kept: no frame has more than eight bytes, so that nine stand for too many
abbrev pub kept_in : List (List ℕ) → Option (List ℕ)
kept_in ps = option_map (take 9) (bytes_in ps)

-- an identifier and then the bytes, however large it is and however many they are
abbrev pub frame_in : List (List ℕ) → Option Order
frame_in [] = None
frame_in (p ∷ ps) = and_then (number_in p) (λ id. option_map (λ bs. heard id bs) (kept_in ps))

abbrev pub key_in : List ℕ → Option Key
key_in t =
    cond (bytes_eq t (codes "heard")) (Some Heard)
    (cond (bytes_eq t (codes "work")) (Some Work)
    (cond (bytes_eq t (codes "take")) (Some Take)
    (cond (bytes_eq t (codes "tick")) (Some Tick) None)))

-- what a key asks for with its value: a frame, or a count
abbrev pub under_key : Key → List ℕ → Option Order
under_key Heard v = frame_in (parts v)
under_key Work v = option_map (λ n. works n) (number_in v)
under_key Take v = option_map (λ n. takes n) (number_in v)
under_key Tick v = option_map (λ n. ticks n) (number_in v)

-- what a line asks for: the key stands before the first '=', the value after it; a line that does not say all of
-- this asks for nothing
abbrev pub line_in : List ℕ → Option Order
line_in t = and_then (cut_at 61 t) (λ p. and_then (key_in p.0) (λ k. under_key k p.1))

-- a line ends before the first byte 10, and the last one at the end of the text
abbrev pub first_line : List ℕ → List ℕ × List ℕ
first_line t = unwrap_or (cut_at 10 t) (t, [])

-- the lines of a text, one after the other
abbrev pub lines : List ℕ → List (List ℕ)
lines [] = []
lines (c ∷ cs) = cond (c == 10) ([] ∷ lines cs) (onto_first c (lines cs))
