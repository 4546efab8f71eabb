use Rattle.std.proofs.Common.{sym, ap, ◌∙◌, ◌+◌, drop}
use Rattle.sheet.specs.Sheets.{lines_of}
use Rattle.master.specs.Network.{with_entries}
use Rattle.master.specs.Table.{applied_all}
use Rattle.master.specs.Views.{state_of}
use Rattle.master.proofs.Walking.{rest_is, rest_none}
use Rattle.master.proofs.network.Course.apply_all.Goals as goal

pub loop-c-preserved : goal.loop-c-preserved
loop-c-preserved c =
    let t = c.loop-c.self.table.entries in
    let left = rest_is _ _ c.deref-c-items.ensures.value c.loop-c.c-index c.c-item.result c.loop-c-test.true c.c-item.is in (
      ap (applied_all c.args.change (drop (c.loop-c.c-index + 1) (lines_of c.args.sheet.now).slaves)) c.apply.ensures ∙ sym (ap (λ cs. applied_all c.args.change cs t) left) ∙ c.loop-c.invariant.0,
      ap (with_entries c.apply.new.self.entries) c.loop-c.invariant.1,
    )

pub returns : goal.returns
returns c =
    let t = c.loop-c.self.table.entries in
    c.loop-c.invariant.1
    ∙ ap (λ u. with_entries u (state_of c.args.sheet.now c.args.self.now))
    (sym (ap (λ cs. applied_all c.args.change cs t) (rest_none _ _ c.deref-c-items.ensures.value c.loop-c.c-index c.loop-c-test.false)) ∙ c.loop-c.invariant.0)
