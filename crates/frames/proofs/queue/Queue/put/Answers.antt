use Rattle.std.proofs.Common.{◌≡◌, ◌<◌, [], ◌∷◌, ◌++◌, length, ◌∙◌, arith}
use Rattle.std.proofs.lemmas.Bool.{cond_below}
use Rattle.frames.specs.Waiting.{waiting, most}
use Rattle.frames.proofs.Rings.{more_turned}
use Rattle.frames.proofs.QueueLaws.{length_waiting}
use Rattle.frames.proofs.queue.Queue.put.Goals as goal

pub returns-clause-list : goal.returns-clause-list
returns-clause-list g c =
    let s = c.args.self.now in
    let len : length (waiting s) ≡ s.len = length_waiting s in
    let free : length (waiting s) < most s = omega arith in
    more_turned s.slots.now s.head s.len c.args.x (omega arith) (omega arith) c.place-last.result c.place-last.ensures.within c.place-last.ensures.round
    ∙ cond_below (length (waiting s)) (most s) (waiting s ++ c.args.x ∷ []) (waiting s) free
