-- What a reader answers and where it then stands, held to a definition.
use Rattle.std.specs.Prelude.{◌≡◌, ℕ, ◌+◌, List, Ok, Err, Result}
use Rattle.sheet.specs.declared.faults.LineFault.{LineFault}
use Rattle.sheet.specs.declared.faults.Fault.{Fault}
use Rattle.sheet.specs.Codec.{Reading}

-- q is what the line l holds, r the answer, and then line m is due and t is left
abbrev pub Takes : ℕ → Result (ℕ × List ℕ) LineFault → Result ℕ LineFault → ℕ → List ℕ → Type 0
Takes l q (Ok n) m t = (q ≡ Ok (n, t)) × (m ≡ l + 1)
Takes l q (Err e) m t = q ≡ Err e

-- the same of a value that is read, seen as v; then line l is due
abbrev pub Reads : {A X : Type 0} → (X → A) → Reading A → Result X Fault → ℕ → List ℕ → Type 0
Reads v q (Ok x) l t = q ≡ Ok (v x, (l, t))
Reads v q (Err e) l t = q ≡ Err e
