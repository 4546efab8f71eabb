use Rattle.std.proofs.Common.{◌<◌, Some, None, length, sym, refl, ap, ◌∙◌, arith}
use Rattle.std.proofs.lemmas.Bool.{eqb-false}
use Rattle.std.specs.Option.{option_map}
use Rattle.sheet.specs.Pairs.{pair_of}
use Rattle.script.specs.Views.{line_of}
use Rattle.script.proofs.Playing.{plays_on}
use Rattle.script.proofs.session.listen.Goals as goal

pub loop-rest-preserved-in_ok-carry_out : goal.loop-rest-preserved-in_ok-carry_out
loop-rest-preserved-in_ok-carry_out g c =
    let filled = eqb-false (length c.loop-rest.rest.now) 0 (sym c.is_empty.ensures ∙ c.loop-rest-test.true) in
    let some : 0 < length c.loop-rest.rest.now = omega (arith, filled) in
    plays_on c.loop-rest.rest.now (pair_of c.next_line.result) (Some (line_of c.in-Some.line)) _ _ some c.next_line.ensures.value (ap (option_map line_of) (sym c.in-Some.is) ∙ c.read_line.ensures) c.in_ok-carry_out.ensures ∙ c.loop-rest.invariant

pub loop-rest-preserved : goal.loop-rest-preserved
loop-rest-preserved g c =
    let filled = eqb-false (length c.loop-rest.rest.now) 0 (sym c.is_empty.ensures ∙ c.loop-rest-test.true) in
    let some : 0 < length c.loop-rest.rest.now = omega (arith, filled) in
    plays_on c.loop-rest.rest.now (pair_of c.next_line.result) None _ _ some c.next_line.ensures.value (ap (option_map line_of) (sym c.in_default.is) ∙ c.read_line.ensures) refl ∙ c.loop-rest.invariant
