-- What a decimal number is, and what it is worth.
use Rattle.std.specs.Prelude.{◌≡◌, ℕ, ◌+◌, ◌-◌, ◌*◌, ◌<◌, Bool, true, false, cond, not, ◌&&◌, List, [], ◌∷◌, ◌++◌, Ok, Err, codes, decimal, Result, ◌==◌, nat_lt}
use Rattle.std.specs.Char.{is_ascii_digit}
use Rattle.std.specs.Str.{all_ascii_digits}
use Rattle.sheet.specs.declared.faults.DigitsFault.{DigitsFault}
use Rattle.sheet.specs.declared.faults.Fault.TheVariants.{Line}
use Rattle.sheet.specs.declared.faults.LineFault.TheVariants.{Digits}
use Rattle.sheet.specs.Faults.{refusal_of}

-- what digits are worth after a front that is worth n
abbrev pub value_on : ℕ → List ℕ → ℕ
value_on n [] = n
value_on n (c ∷ cs) = value_on (n * 10 + (c - 48)) cs

-- at least one byte, and a zero in front only where it is the whole number
abbrev pub plain : List ℕ → Bool
plain [] = false
plain (c ∷ []) = true
plain (c ∷ d ∷ cs) = not (c == 48)

-- digits alone, no leading zero, at most 4294967295
abbrev pub numeral : List ℕ → Bool
numeral bs = all_ascii_digits bs && (plain bs && nat_lt (value_on 0 bs) 4294967296)

abbrev pub fault_at : ℕ → DigitsFault
fault_at l = record { line = l }

abbrev pub digit_of : ℕ → ℕ → Result ℕ DigitsFault
digit_of l c = cond (is_ascii_digit c) (Ok (c - 48)) (Err (fault_at l))

-- the number that a value says, or the fault at its line
abbrev pub number_of : ℕ → List ℕ → Result ℕ DigitsFault
number_of l bs = cond (numeral bs) (Ok (value_on 0 bs)) (Err (fault_at l))

-- What a number is, in words of its own.
pub record NumberLaws : Type 0 where
  -- the digits before the last, times ten, plus the last
  pub joins : (ds : List ℕ) (d : ℕ) → value_on 0 (ds ++ d ∷ []) ≡ value_on 0 ds * 10 + (d - 48)
  -- each number up to 4294967295 is read from its decimal text, and from no other
  pub reads : (l n : ℕ) → n < 4294967296 → number_of l (decimal n) ≡ Ok n
  pub only : (l : ℕ) (bs : List ℕ) (n : ℕ) → number_of l bs ≡ Ok n → decimal n ≡ bs
  pub zero_reads : (l : ℕ) → number_of l (codes "0") ≡ Ok 0
  pub zeros_refused : (l : ℕ) → number_of l (codes "00") ≡ Err (fault_at l)
  pub last_reads : (l : ℕ) → number_of l (codes "4294967295") ≡ Ok 4294967295
  pub next_refused : (l : ℕ) → number_of l (codes "4294967296") ≡ Err (fault_at l)
  pub refused_by : (l : ℕ) → refusal_of (Line (Digits (fault_at l))) ≡ 1
