use Rattle.std.proofs.Common.{◌≡◌, sym, subst, rules}
use Rattle.std.specs.Bool.{Decides}
use Rattle.frames.specs.Fields.{fields_agree}
use Rattle.frames.proofs.Same.{fields_decide}
use Rattle.frames.proofs.frame.methods.FramePartialEq.eq.Goals as goal

pub returns-then-self-other-2-clause-same : goal.returns-then-self-other-2-clause-same
returns-then-self-other-2-clause-same c =
    let f = c.args.self.now in
    let g = c.args.other.now in
    let fields : c.eq.result ≡ fields_agree f g = search rules in
    subst (λ b. Decides b (f ≡ g)) (sym fields) (fields_decide f g)
