use Rattle.std.proofs.Common.{◌≡◌, max, sym, refl, ◌∙◌, rules}
use Rattle.ports.specs.MailLaws.{highest}
use Rattle.ports.proofs.MailSteps.{third_fair, third_added}
use Rattle.ports.proofs.mailbox.methods.MailboxPort.put.Goals as goal

pub invariant_of-self-else-self-eq0-2 : goal.invariant_of-self-else-self-eq0-2
invariant_of-self-else-self-eq0-2 c =
    let m = c.args.self.now in
    let n : max (max m.a.turn m.b.turn) m.c.turn ≡ c.waits-n.result =
    highest m.a.turn m.b.turn m.c.turn m.turns_ok m.a.frame m.b.frame m.c.frame ∙ sym c.waits-n.ensures in
    record { turns_ok = rw n at (third_fair m.a.turn m.b.turn m.c.turn m.turns_ok c.if-self-eq0.false c.if-self-eq0-2.false (λ e. c.if-n-eq3.false (sym n ∙ e))) }

pub returns-else-self-eq0-2 : goal.returns-else-self-eq0-2
returns-else-self-eq0-2 c =
    let m = c.args.self.now in
    let n : max (max m.a.turn m.b.turn) m.c.turn ≡ c.waits-n.result =
    highest m.a.turn m.b.turn m.c.turn m.turns_ok m.a.frame m.b.frame m.c.frame ∙ sym c.waits-n.ensures in
    record {
      answer = search rules;
      list = rw n at (third_added m.a.turn m.b.turn m.c.turn m.turns_ok c.if-self-eq0.false c.if-self-eq0-2.false (λ e. c.if-n-eq3.false (sym n ∙ e)) m.a.frame m.b.frame m.c.frame c.args.frame);
      most_same = refl;
      gap_same = refl;
      pause_same = refl;
    }
