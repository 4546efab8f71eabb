use Rattle.std.proofs.Common.{◌≡◌, ◌+◌, ◌-◌, [], ◌∷◌, ◌++◌, map, length, sym, ap, ◌∙◌, arith}
use Rattle.std.proofs.lemmas.List.{take_all, length_push, map_push}
use Rattle.sheet.specs.Cursors.{left, due}
use Rattle.sheet.specs.Few.{few_items}
use Rattle.sheet.specs.Format.{set_c}
use Rattle.sheet.specs.Views.{set_of, sets_of}
use Rattle.sheet.proofs.Loops.{Rest, start, more, stop, done, reads_err}
use Rattle.sheet.proofs.cursor.Cursor.sets.Goals as goal

pub loop-init : goal.loop-init
loop-init c = (
  ap length c.new-sets.ensures,
  sym (start (λ (_ : Unit {0}). set_c) (λ u _. u) tt c.args.n (due c.args.self.now) (left c.args.self.now))
      ∙ ap (λ xs. Rest (λ (_ : Unit {0}). set_c) (λ u _. u) tt (c.args.n - 0) (due c.args.self.now) (left c.args.self.now) (map set_of xs)) (sym c.new-sets.ensures),
)

pub returns-in_err-set-clause-reads : goal.returns-in_err-set-clause-reads
returns-in_err-set-clause-reads c =
    reads_err sets_of _ _ _ _ _ c.from_residual.ensures.1
    (c.loop.invariant.1 ∙ stop (λ (_ : Unit {0}). set_c) (λ u _. u) tt c.args.n c.loop.counter _ _ _ _ c.loop-test.true c.in_err-set.ensures)

pub loop-preserved : goal.loop-preserved
loop-preserved c =
    let n = c.args.n in
    let xs = few_items c.loop.sets in
    let x = c.in_ok-set.field-0 in
    let long = length_push xs x in
    let added : few_items c.push.new.self ≡ xs ++ x ∷ [] = c.push.ensures ∙ take_all 32 (xs ++ x ∷ []) (omega (arith, long, c.loop.invariant.0, c.loop-test.true, c.requires)) in (
      ap length added ∙ omega (arith, long, c.loop.invariant.0),
      c.loop.invariant.1
          ∙ more (λ (_ : Unit {0}). set_c) (λ u _. u) tt n c.loop.counter _ _ _ _ _ _ c.loop-test.true c.in_ok-set.ensures
          ∙ ap (Rest (λ (_ : Unit {0}). set_c) (λ u _. u) tt (n - (c.loop.counter + 1)) (due c.set.new.self) (left c.set.new.self)) (sym (ap (map set_of) added ∙ map_push set_of xs x)),
    )

pub returns-clause-len : goal.returns-clause-len
returns-clause-len c = omega (arith, c.loop.invariant.0, c.loop-test.false, c.loop.auto.counter-end)

pub returns-clause-reads : goal.returns-clause-reads
returns-clause-reads c = c.loop.invariant.1 ∙ done (λ (_ : Unit {0}). set_c) (λ u _. u) tt c.args.n c.loop.counter _ _ _ c.loop-test.false
