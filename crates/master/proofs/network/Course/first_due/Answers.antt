use Rattle.std.proofs.Common.{sym, refl, ap, ◌∙◌}
use Rattle.master.specs.Network.{first_due}
use Rattle.master.proofs.Walking.{due_is, rest_none}
use Rattle.master.proofs.network.Course.first_due.Goals as goal

pub returns-in-Some : goal.returns-in-Some
returns-in-Some c =
    sym (due_is c.args.go c.args.self.now.table.entries c.args.slaves.now c.loop-c.c-index c.c-item.result c.at.result c.loop-c-test.true c.c-item.is c.at.ensures (sym c.duty.ensures ∙ c.in-Some.is)) ∙ c.loop-c.invariant

pub loop-c-preserved : goal.loop-c-preserved
loop-c-preserved c =
    sym (due_is c.args.go c.args.self.now.table.entries c.args.slaves.now c.loop-c.c-index c.c-item.result c.at.result c.loop-c-test.true c.c-item.is c.at.ensures (sym c.duty.ensures ∙ c.in_default.is)) ∙ c.loop-c.invariant

pub returns : goal.returns
returns c = sym (ap (first_due c.args.go c.args.self.now.table.entries) (rest_none c.args.slaves.now _ refl c.loop-c.c-index c.loop-c-test.false)) ∙ c.loop-c.invariant
