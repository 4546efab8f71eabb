use Rattle.std.proofs.Common.{◌≡◌, true, false, length, sym, ◌∙◌, arith, rules}
use Rattle.std.proofs.lemmas.Bool.{lt-ltb, le-ltb}
use Rattle.frames.specs.Lists.{accepts}
use Rattle.ports.proofs.HandedOver.{goes_on, goes_in_order, full, fewer, like}
use Rattle.ports.proofs.hand_over.hand_over.Goals as goal

pub loop-from-smaller : goal.loop-from-smaller
loop-from-smaller g c = fewer _ _ (g.P.Port.pause c.loop-from.from) c.in-Some.frame (sym c.in-Some.is ∙ c.take.ensures.answer) c.take.ensures.list

pub loop-from-preserved : goal.loop-from-preserved
loop-from-preserved g c =
    let from = c.loop-from.from in
    let to = c.loop-from.to in
    let room : accepts (g.Q.Port.most to) (g.Q.Port.waiting to) ≡ true = lt-ltb (length (g.Q.Port.waiting to)) (g.Q.Port.most to) (omega arith) in
    let leaves = sym c.in-Some.is ∙ c.take.ensures.answer in
    let turn = goes_on (g.P.Port.pause from) (g.P.Port.gap from) (g.Q.Port.most to) (g.Q.Port.waiting to) (g.P.Port.waiting from) c.in-Some.frame leaves room in
    let order = goes_in_order (g.P.Port.pause from) (g.P.Port.gap from) (g.Q.Port.most to) (g.Q.Port.waiting to) (g.P.Port.waiting from) c.in-Some.frame leaves room in
    record {
      handed = like _ _ _ _ _ _ _ _ _ _ c.take.ensures.list c.take.ensures.pauses c.take.ensures.gap_same c.put.ensures.most_same c.put.ensures.list ∙ sym turn ∙ c.loop-from.invariant.handed;
      order = cc order;
      from_most = search rules;
      from_gap = search rules;
      to_pause = search rules;
      to_most = search rules;
      to_gap = search rules;
    }

pub returns-after-loop-from-clause-handed : goal.returns-after-loop-from-clause-handed
returns-after-loop-from-clause-handed g c =
    let from = c.loop-from.from in
    let to = c.loop-from.to in
    let none : accepts (g.Q.Port.most to) (g.Q.Port.waiting to) ≡ false = le-ltb (length (g.Q.Port.waiting to)) (g.Q.Port.most to) (omega arith) in
    sym (full (g.P.Port.pause from) (g.P.Port.gap from) (g.Q.Port.most to) (g.Q.Port.waiting to) (g.P.Port.waiting from) none) ∙ c.loop-from.invariant.handed
