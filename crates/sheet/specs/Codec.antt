-- A format that is both read and written: fields, one after another, and repeated.
use Rattle.std.specs.Prelude.{ℕ, zero, suc, ◌+◌, Bool, true, false, ◌&&◌, List, [], ◌∷◌, ◌++◌, length, Some, None, Ok, Err, Option, Result, nat_lt}
use Rattle.sheet.specs.declared.faults.Fault.{Fault}
use Rattle.sheet.specs.declared.faults.Fault.TheVariants.{Line}
use Rattle.sheet.specs.declared.keys.Key.{Key}
use Rattle.sheet.specs.Lines.{bind, raised, line_of, line_text}

-- what is read from a text: the value, the next line's number, and the text that is left; or a fault
abbrev pub Reading : Type 0 → Type 0
Reading A = Result (A × (ℕ × List ℕ)) Fault

-- how values of A are written, which values may be written, and how one is read at a line of a text
pub record Codec (A : Type 0) : Type 0 where
  pub write : A → List ℕ
  pub good : A → Bool
  pub read : ℕ → List ℕ → Reading A

-- the fault, by its line, that a number is refused for, if any
abbrev pub Test : Type 0
Test = ℕ → Option (ℕ → Fault)

abbrev pub passes : Option (ℕ → Fault) → Bool
passes None = true
passes (Some f) = false

abbrev pub judged : Option (ℕ → Fault) → ℕ → ℕ → List ℕ → Reading ℕ
judged None l n rest = Ok (n, (l + 1, rest))
judged (Some f) l n rest = Err (f l)

abbrev pub read_field : Key → Test → ℕ → List ℕ → Reading ℕ
read_field key test l t = bind (raised (λ e. Line e) (line_of l key t)) (λ p. judged (test p.0) l p.0 p.1)

-- one line with a number that passes a test
abbrev pub field : Key → Test → Codec ℕ
field key test = record {
  write = line_text key;
  good = λ n. nat_lt n 4294967296 && passes (test n);
  read = read_field key test;
}

-- one after another, where the second may depend on the value of the first
abbrev pub both : {A B : Type 0} → Codec A → (A → Codec B) → Codec (A × B)
both c d = record {
  write = λ p. c.write p.0 ++ (d p.0).write p.1;
  good = λ p. c.good p.0 && (d p.0).good p.1;
  read = λ l t. bind (c.read l t) (λ x. bind ((d x.0).read x.1.0 x.1.1) (λ y. Ok ((x.0, y.0), y.1)));
}

-- the same text, for another type
abbrev pub seen : {A B : Type 0} → Codec A → (A → B) → (B → A) → Codec B
seen c to from = record {
  write = λ b. c.write (from b);
  good = λ b. c.good (from b);
  read = λ l t. bind (c.read l t) (λ x. Ok (to x.0, x.1));
}

-- n values in a row; s is what the ones before have left
module _ {S A : Type 0} (c : S → Codec A) (next : S → A → S) where
  abbrev pub write_all : S → List A → List ℕ
  write_all s [] = []
  write_all s (x ∷ xs) = (c s).write x ++ write_all (next s x) xs

  abbrev pub good_all : S → ℕ → List A → Bool
  good_all s zero [] = true
  good_all s zero (x ∷ xs) = false
  good_all s (suc n) [] = false
  good_all s (suc n) (x ∷ xs) = (c s).good x && good_all (next s x) n xs

  abbrev pub read_all : S → ℕ → ℕ → List ℕ → Reading (List A)
  read_all s zero l t = Ok ([], (l, t))
  read_all s (suc n) l t = bind ((c s).read l t) (λ x. bind (read_all (next s x.0) n x.1.0 x.1.1) (λ y. Ok (x.0 ∷ y.0, y.1)))

  abbrev pub many : S → ℕ → Codec (List A)
  many s n = record { write = write_all s; good = good_all s n; read = read_all s n }

-- a count, and then so many values
abbrev pub counted : {A : Type 0} → Codec ℕ → (ℕ → Codec (List A)) → Codec (List A)
counted c d = seen (both c d) (λ p. p.1) (λ xs. (length xs, xs))
