use Rattle.std.proofs.Common.{ℕ, List, ap, arith}
use Rattle.frames.specs.Contents.{Content}
use Rattle.frames.proofs.Pads.{filled, read_back}
use Rattle.frames.proofs.Same.{same_value}
use Rattle.frames.proofs.frame.Frame.new.Goals as goal

pub invariant_of-result : goal.invariant_of-result
invariant_of-result c = record { id_ok = omega arith; len_ok = omega arith; rest_ok = filled c.args.bytes.now _ c.copy_from_slice.ensures.after }

pub returns : goal.returns
returns c =
    let content : List ℕ → Content = λ bs. record { id = c.args.id; bytes = bs } in
    (omega arith, omega arith, ap content (read_back c.args.bytes.now _ c.copy_from_slice.ensures.after), λ g e. same_value g _ e)
