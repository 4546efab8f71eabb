use Rattle.std.proofs.Common.{◌≡◌, ◌-◌, vec_len, vec_capacity}
use Rattle.sheet.specs.Codec.{read_all}
use Rattle.sheet.specs.Cursors.{left, due}
use Rattle.sheet.specs.Format.{slave_c, after}
use Rattle.sheet.specs.Views.{slaves_of, before_of}
use Rattle.sheet.proofs.Loops.{Rest}
use Rattle.sheet.proofs.cursor.Cursor.slaves.Given as goal

abbrev pub invariant-loop : goal.invariant-loop
invariant-loop l =
    (vec_len l.slaves ≡ l.counter)
    × (vec_capacity l.slaves ≡ vec_capacity l.initial.slaves)
    × (read_all slave_c after (l.own, (0, 0)) l.n (due l.initial.self) (left l.initial.self)
    ≡ Rest slave_c after (before_of l.before) (l.n - l.counter) (due l.self) (left l.self) (slaves_of l.slaves))
