use Rattle.std.proofs.Common.{map, sym, ap, ◌∙◌, is_some, true}
use Rattle.sheet.specs.Views.{slave_of}
use Rattle.master.specs.Network.{first_due}
use Rattle.master.specs.Views.{view}
use Rattle.master.proofs.Shortcuts.{nobody_due}
use Rattle.master.proofs.network.Network.next_due.Goals as goal

pub returns-in_err-first_due : goal.returns-in_err-first_due
returns-in_err-first_due c =
    let n = c.args.self.now in
    let all = ap (λ xs. first_due true n.course.table.entries (map slave_of xs)) c.as_slice-slaves.ensures.value in
    c.from_residual.ensures ∙ nobody_due (view n) (ap is_some (sym (c.first_due.ensures ∙ all) ∙ c.in_err-first_due.was))
