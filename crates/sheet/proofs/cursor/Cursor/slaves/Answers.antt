use Rattle.std.proofs.Common.{◌≡◌, ◌+◌, ◌-◌, map, vec_items, sym, ap, ◌∙◌, rules}
use Rattle.std.proofs.lemmas.List.{map_push, length-map}
use Rattle.sheet.specs.Cursors.{left, due}
use Rattle.sheet.specs.Few.{few_items}
use Rattle.sheet.specs.Format.{slave_c, after}
use Rattle.sheet.specs.Views.{set_of, slave_of, slaves_of, before_of}
use Rattle.sheet.proofs.Loops.{Rest, more, stop, reads_err}
use Rattle.sheet.proofs.cursor.Cursor.slaves.Goals as goal

pub returns-in_err-slave-clause-reads : goal.returns-in_err-slave-clause-reads
returns-in_err-slave-clause-reads c =
    reads_err (λ (_ : Unit {0}). slaves_of c.loop.slaves) _ _ _ _ _ c.from_residual.ensures.1
    (c.loop.invariant.2 ∙ stop slave_c after (before_of c.loop.before) c.args.n c.loop.counter _ _ _ _ c.loop-test.true c.in_err-slave.ensures.reads)

pub loop-preserved : goal.loop-preserved
loop-preserved c =
    let slave = c.in_ok-slave.slave in
    let seen = ap (map slave_of) c.push_reserved.ensures.items ∙ map_push slave_of (vec_items c.loop.slaves) slave in
    let long = length-map (few_items slave.sets) set_of in
    let next : after (before_of c.loop.before) (slave_of slave) ≡ before_of c.after-before.result = cc in (
      search rules,
      search rules,
      c.loop.invariant.2
          ∙ more slave_c after (before_of c.loop.before) c.args.n c.loop.counter _ _ _ (slave_of slave) _ _ c.loop-test.true c.in_ok-slave.ensures.reads
          ∙ (λ i. Rest slave_c after (next i) (c.args.n - (c.loop.counter + 1)) (due c.slave.new.self) (left c.slave.new.self) (sym seen i)),
    )
