-- A line: a key, '=', a number and the line end.
use Rattle.std.specs.Prelude.{ℕ, cond, List, [], ◌∷◌, ◌++◌, Some, None, Ok, Err, decimal, Option, Result, ◌==◌}
use Rattle.std.specs.Option.{option_map, ok_or}
use Rattle.std.specs.Str.{bytes_eq}
use Rattle.sheet.specs.declared.faults.LineFault.{LineFault}
use Rattle.sheet.specs.declared.faults.LineFault.TheVariants.{Digits, Shape}
use Rattle.sheet.specs.declared.keys.Key.{Key}
use Rattle.sheet.specs.Decimal.{number_of}
use Rattle.sheet.specs.Keys.{name_of}

-- what comes before the first b, and what after it
abbrev pub cut_at : ℕ → List ℕ → Option (List ℕ × List ℕ)
cut_at b [] = None
cut_at b (c ∷ cs) = cond (c == b) (Some ([], cs)) (option_map (λ p. (c ∷ p.0, p.1)) (cut_at b cs))

-- go on with a value, or keep the fault
abbrev pub bind : {A B E : Type 0} → Result A E → (A → Result B E) → Result B E
bind (Ok a) f = f a
bind (Err e) f = Err e

-- hand a fault up to the layer above
abbrev pub raised : {A E F : Type 0} → (E → F) → Result A E → Result A F
raised f (Ok a) = Ok a
raised f (Err e) = Err (f e)

-- the number of the line l, whose key is due, and the text after it; a line is tested for its end, its '=',
-- its key, and only then for its number
abbrev pub line_of : ℕ → Key → List ℕ → Result (ℕ × List ℕ) LineFault
line_of l due t =
    bind (ok_or (cut_at 10 t) (Shape l due))
    (λ p. bind (ok_or (cut_at 61 p.0) (Shape l due))
    (λ q. cond (bytes_eq q.0 (name_of due)) (bind (raised (λ e. Digits e) (number_of l q.1)) (λ n. Ok (n, p.1))) (Err (Shape l due))))

-- a line as it is written
abbrev pub line_text : Key → ℕ → List ℕ
line_text key n = name_of key ++ 61 ∷ (decimal n ++ 10 ∷ [])
