use Rattle.std.proofs.Common.{sym, ap, ◌∙◌}
use Rattle.master.specs.Network.{tick_from, with_clock}
use Rattle.master.specs.Views.{state_of}
use Rattle.master.proofs.Ticking.{tick_more, tick_stop, ticked_by}
use Rattle.master.proofs.Walking.{rest_is, rest_none}
use Rattle.master.proofs.network.Course.tick.Goals as goal

pub returns-then-not-is_running-2 : goal.returns-then-not-is_running-2
returns-then-not-is_running-2 c =
    let s = state_of c.args.sheet.now c.args.self.now in
    let left = rest_is _ _ c.deref-c-items.ensures.value c.loop-c.c-index c.c-item.result c.loop-c-test.true c.c-item.is in
    ticked_by s _ (sym c.is_running.ensures ∙ c.if-not-is_running.false) (ap (λ k. with_clock k s) c.saturating_add-self.ensures) _
    (sym (tick_stop _ _ _ _ _ left c.advance.ensures (sym c.is_running-in-loop-c.ensures ∙ c.if-not-is_running-2.true)) ∙ c.loop-c.invariant)

pub loop-c-preserved : goal.loop-c-preserved
loop-c-preserved c =
    let left = rest_is _ _ c.deref-c-items.ensures.value c.loop-c.c-index c.c-item.result c.loop-c-test.true c.c-item.is in
    sym (tick_more _ _ _ _ _ left c.advance.ensures (sym c.is_running-in-loop-c.ensures ∙ c.if-not-is_running-2.false)) ∙ c.loop-c.invariant

pub returns : goal.returns
returns c =
    let s = state_of c.args.sheet.now c.args.self.now in
    let now = state_of c.args.sheet.now c.loop-c.self in
    ticked_by s _ (sym c.is_running.ensures ∙ c.if-not-is_running.false) (ap (λ k. with_clock k s) c.saturating_add-self.ensures) _
    (sym (ap (λ cs. tick_from cs now) (rest_none _ _ c.deref-c-items.ensures.value c.loop-c.c-index c.loop-c-test.false)) ∙ c.loop-c.invariant)
