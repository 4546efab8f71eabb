use Rattle.std.proofs.Common.{◌≡◌, cond, length, eqb, Some, None, sym, ◌∙◌}
use Rattle.std.proofs.lemmas.Bool.{cond-true, cond-false}
use Rattle.candump.specs.Logs.{Split, words_in}
use Rattle.candump.proofs.Cuts.{after_found, words_found}
use Rattle.candump.proofs.reader.words.Goals as goal
use Rattle.candump.proofs.reader.words.Goals.{In_ok-interface}

found : (c : In_ok-interface) → cond (eqb (length c.in_ok-interface.interface.now) 0) None (Some (let w : Split = record { stamp = c.in_ok-stamp.stamp.now; interface = c.in_ok-interface.interface.now; message = c.in_ok-interface.message.now } in w)) ≡ words_in c.args.line.now
found c =
    let first = c.in_ok-strip_prefix.ensures.cases in
    let next = c.in_ok-strip_prefix-2.ensures.cases in
    words_found c.args.line.now _ _ _ _ (after_found 40 c.args.line.now _ first.0 first.1) c.in_ok-stamp.ensures (after_found 32 c.in_ok-stamp.rest.now _ next.0 next.1) c.in_ok-interface.ensures

pub returns-then-is_empty : goal.returns-then-is_empty
returns-then-is_empty c =
    sym (cond-true _ _ _ (sym c.is_empty.ensures ∙ c.if-is_empty.true)) ∙ found (goal.at.returns-then-is_empty c).In_ok-interface

pub returns : goal.returns
returns c = sym (cond-false _ _ _ (sym c.is_empty.ensures ∙ c.if-is_empty.false)) ∙ found (goal.at.returns c).In_ok-interface
