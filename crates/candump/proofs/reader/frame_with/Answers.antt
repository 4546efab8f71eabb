use Rattle.std.proofs.Common.{◌≤◌, length, ◌∙◌, arith, rules}
use Rattle.sheet.specs.Few.{few_items}
use Rattle.candump.proofs.Pairs.{one_more, read_pair, room_left}
use Rattle.candump.proofs.reader.frame_with.Goals as goal

pub loop-rest-preserved : goal.loop-rest-preserved
loop-rest-preserved c =
    let s = c.loop-rest.rest.now in
    let two : 2 ≤ length s = search rules in
    let room = c.loop-rest.invariant.1 in
    let d = few_items c.loop-rest.bytes in
    let b = c.in_ok-number.field-0 in
    let more = one_more d _ b (omega (arith, room, two)) c.push.ensures in
    (read_pair d _ s b two more c.in_ok-number.ensures.value ∙ c.loop-rest.invariant.0, room_left d _ s b two room more)
