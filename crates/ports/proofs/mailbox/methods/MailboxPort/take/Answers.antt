use Rattle.std.proofs.Common.{sym, refl, ◌∙◌}
use Rattle.ports.specs.Mail.{mail_waiting}
use Rattle.ports.proofs.MailSteps.{nearer_fair, nearer_rest, given_first, kept_rest, paused_none}
use Rattle.ports.proofs.mailbox.methods.MailboxPort.take.Goals as goal

pub invariant_of-self : goal.invariant_of-self
invariant_of-self c =
    let m = c.args.self.now in
    record { turns_ok = rw (c.nearer-self.ensures.0, c.nearer-self-2.ensures.0, c.nearer-self-3.ensures.0) (nearer_fair m.a.turn m.b.turn m.c.turn m.turns_ok) }

pub returns : goal.returns
returns c =
    let m = c.args.self.now in
    let a = c.nearer-self.ensures in
    let b = c.nearer-self-2.ensures in
    let d = c.nearer-self-3.ensures in
    record {
      answer = c.first-first.ensures ∙ sym (given_first (mail_waiting m));
      list = simp (a.0, a.1, b.0, b.1, d.0, d.1) (nearer_rest m.a.turn m.b.turn m.c.turn m.turns_ok m.a.frame m.b.frame m.c.frame ∙ sym (kept_rest (mail_waiting m)));
      pauses = paused_none (mail_waiting m);
      most_same = refl;
      gap_same = refl;
    }
