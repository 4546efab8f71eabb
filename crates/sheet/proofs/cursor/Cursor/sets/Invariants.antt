use Rattle.std.proofs.Common.{◌≡◌, ◌-◌, length}
use Rattle.sheet.specs.Codec.{read_all}
use Rattle.sheet.specs.Cursors.{left, due}
use Rattle.sheet.specs.Few.{few_items}
use Rattle.sheet.specs.Format.{set_c}
use Rattle.sheet.specs.Views.{sets_of}
use Rattle.sheet.proofs.Loops.{Rest}
use Rattle.sheet.proofs.cursor.Cursor.sets.Given as goal

abbrev pub invariant-loop : goal.invariant-loop
invariant-loop l =
    (length (few_items l.sets) ≡ l.counter)
    × (read_all (λ (_ : Unit {0}). set_c) (λ u _. u) tt l.n (due l.initial.self) (left l.initial.self)
    ≡ Rest (λ (_ : Unit {0}). set_c) (λ u _. u) tt (l.n - l.counter) (due l.self) (left l.self) (sets_of l.sets))
