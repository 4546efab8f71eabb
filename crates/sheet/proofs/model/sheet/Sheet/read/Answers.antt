use Rattle.std.proofs.Common.{arith}
use Rattle.sheet.proofs.Exactness.{exact, filled_good}
use Rattle.sheet.proofs.model.sheet.Sheet.read.Goals as goal

pub invariant_of-self : goal.invariant_of-self
invariant_of-self c =
    let said = c.read_or_empty-answer.ensures in
    record { room = omega (arith, said.room, c.args.self.now.room); listed = said.len; kept = filled_good c.args.text.now _ _ said.filled }

pub returns : goal.returns
returns c = let said = c.read_or_empty-answer.ensures.filled in record { filled = said; exact = exact c.args.text.now _ _ said }
