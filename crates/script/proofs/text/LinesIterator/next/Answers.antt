use Rattle.std.proofs.Common.{◌<◌, length, ◌∷◌, List, ℕ, sym, ap, ◌∙◌, arith, rules}
use borrow.Author.Tests.{eqb-false}
use Rattle.script.specs.Sessions.{lines}
use Rattle.script.proofs.Parting.{line_first}
use Rattle.script.proofs.text.LinesIterator.next.Goals as goal

-- the line that was cut off is the first, and the others are left
pub returns-clause-steps : goal.returns-clause-steps
returns-clause-steps c =
    let filled = eqb-false (length c.args.self.now.rest.now) 0 (sym c.is_empty.ensures ∙ c.if-is_empty.false) in
    let some : 0 < length c.args.self.now.rest.now = omega (arith, filled) in
    line_first c.args.self.now.rest.now some ∙ ap (λ (p : List ℕ × List ℕ). p.0 ∷ lines p.1) (sym c.next_line.ensures.value)

pub returns-clause-goes : goal.returns-clause-goes
returns-clause-goes c = let fewer = ap length (returns-clause-steps c) in search (rules, arith, fewer)
