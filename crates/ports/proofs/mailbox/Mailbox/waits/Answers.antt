use Rattle.std.proofs.Common.{arith}
use Rattle.ports.specs.MailLaws.{highest}
use Rattle.ports.proofs.mailbox.Mailbox.waits.Goals as goal

pub returns : goal.returns
returns c =
    let m = c.args.self.now in
    omega (arith, c.max.ensures, c.max-2.ensures, highest m.a.turn m.b.turn m.c.turn m.turns_ok m.a.frame m.b.frame m.c.frame)
