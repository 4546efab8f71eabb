-- What a writer leaves.
use Rattle.std.specs.Prelude.{◌≡◌, ℕ, ◌+◌, ◌<◌, ◌≤◌, List, [], ◌∷◌, ◌++◌, length, drop, Ok, Err, Result, slice_set}
use Rattle.sheet.specs.declared.faults.TooShort.{TooShort}
use Rattle.sheet.specs.declared.writer.Writer.{Writer}

-- o with xs written from place i on, as far as o goes
abbrev pub over : List ℕ → ℕ → List ℕ → List ℕ
over o i [] = o
over o i (x ∷ xs) = over (slice_set o i x) (i + 1) xs

-- from o and place i, xs was written; then o is p, and j the next place
pub record Wrote (o : List ℕ) (i : ℕ) (xs : List ℕ) (p : List ℕ) (j : ℕ) : Type 0 where
  pub out : p ≡ over o i xs
  pub place : j ≡ i + length xs

-- the writer a wrote xs, and is b
pub record Adds (a : Writer) (xs : List ℕ) (b : Writer) : Type 0 where
  pub same : b.out.ghost_name ≡ a.out.ghost_name
  pub wrote : Wrote a.out.now a.len xs b.out.now b.len

-- xs is written where o has room for it, and the bytes after it are as found; else o is as found, and
-- the answer says how much room is needed
abbrev pub Written : List ℕ → List ℕ → List ℕ → Result ℕ TooShort → Type 0
Written xs o p (Ok n) = (length xs ≤ length o) × (n ≡ length xs) × (p ≡ xs ++ drop (length xs) o)
Written xs o p (Err e) = (length o < length xs) × (e.needed ≡ length xs) × (p ≡ o)
