-- What a line of a log says: `(seconds.microseconds) interface id#bytes`.
use Rattle.std.specs.Prelude.{ℕ, ◌+◌, ◌-◌, ◌*◌, cond, ◌&&◌, List, [], ◌∷◌, length, take, Some, None, Option, ◌==◌, nat_lt, slice_index}
use Rattle.std.specs.Option.{option_map}
use Rattle.std.specs.Char.{digit_value}
use Rattle.std.specs.Int.{is_in_range}
use Rattle.frames.specs.Contents.{Content}
use Rattle.sheet.specs.Lines.{cut_at}
use Rattle.script.specs.Sessions.{and_then}

-- the words of a line
pub record Split : Type 0 where
  pub stamp : List ℕ
  pub interface : List ℕ
  pub message : List ℕ

-- a frame of a log: when, in microseconds, and what it says on the bus
pub record Seen : Type 0 where
  pub micros : ℕ
  pub content : Content

-- the number that digits say after a front that is worth n, if each is a digit below the radix; 'a' and 'A' are ten
abbrev pub number_on : ℕ → ℕ → List ℕ → Option ℕ
number_on radix n [] = Some n
number_on radix n (c ∷ cs) = cond (nat_lt (digit_value c) radix) (number_on radix (n * radix + digit_value c) cs) None

-- one to ten digits
abbrev pub number_in : ℕ → List ℕ → Option ℕ
number_in radix t = cond (is_in_range 1 10 (length t)) (number_on radix 0 t) None

-- seconds, a point, and six digits of microseconds
abbrev pub stamp_in : List ℕ → Option ℕ
stamp_in t =
    and_then (cut_at 46 t)
    (λ p. cond (length p.1 == 6) (and_then (number_in 10 p.0) (λ s. option_map (λ m. s * 1000000 + m) (number_in 10 p.1))) None)

-- a base identifier: three hexadecimal digits, at most 7FFh
abbrev pub identifier_in : List ℕ → Option ℕ
identifier_in t = cond (length t == 3) (and_then (number_in 16 t) (λ n. cond (nat_lt 2047 n) None (Some n))) None

-- each byte is two hexadecimal digits
abbrev pub pairs_in : List ℕ → Option (List ℕ)
pairs_in [] = Some []
pairs_in (c ∷ []) = None
pairs_in (c ∷ d ∷ cs) = and_then (number_in 16 (c ∷ d ∷ [])) (λ b. option_map (λ bs. b ∷ bs) (pairs_in cs))

-- at most eight bytes
abbrev pub bytes_in : List ℕ → Option (List ℕ)
bytes_in t = cond (nat_lt 16 (length t)) None (pairs_in t)

abbrev pub framed : ℕ → List ℕ → Option Content
framed i t = option_map (λ bs. record { id = i; bytes = bs }) (bytes_in t)

-- an identifier, '#' and bytes. What another kind of frame has here, a longer identifier, a second '#' or 'R', is neither.
abbrev pub content_in : List ℕ → Option Content
content_in t = and_then (cut_at 35 t) (λ p. and_then (identifier_in p.0) (λ i. framed i p.1))

-- what stands after a b that comes first
abbrev pub after_first : ℕ → List ℕ → Option (List ℕ)
after_first b [] = None
after_first b (c ∷ cs) = cond (c == b) (Some cs) None

-- the words: the time stamp in parentheses, a blank, the interface, which is not empty, a blank, and the frame
abbrev pub words_in : List ℕ → Option Split
words_in t =
    and_then (after_first 40 t)
    (λ u. and_then (cut_at 41 u)
    (λ p. and_then (after_first 32 p.1)
    (λ v. and_then (cut_at 32 v)
    (λ q. cond (length q.0 == 0) None (Some (record { stamp = p.0; interface = q.0; message = q.1 }))))))

-- a text without the b at its end, if it has one
abbrev pub without : ℕ → List ℕ → List ℕ
without b t = cond (nat_lt 0 (length t) && slice_index t (length t - 1) == b) (take (length t - 1) t) t

-- the frame that words say
abbrev pub seen_in : Split → Option Seen
seen_in w = and_then (stamp_in w.stamp) (λ s. option_map (λ c. record { micros = s; content = c }) (content_in w.message))

-- a line, with a carriage return at its end or none; a line that does not say all of this says no frame
abbrev pub line_in : List ℕ → Option Seen
line_in t = and_then (words_in (without 13 t)) seen_in

abbrev pub interface_in : List ℕ → Option (List ℕ)
interface_in t = option_map (λ w. w.interface) (words_in (without 13 t))
