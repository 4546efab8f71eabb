use Rattle.std.proofs.Common.{sym, ap, ◌∙◌}
use Rattle.sheet.specs.Views.{slave_of}
use Rattle.master.specs.Step.{saying}
use Rattle.master.proofs.Signs.{beat}
use Rattle.master.proofs.types.Entry.on_sign.Goals as goal

pub returns-then-is_heartbeat : goal.returns-then-is_heartbeat
returns-then-is_heartbeat c =
    beat (slave_of c.args.c.now) c.args.sign c.args.self c.saying.result c.on_beat.result (sym c.is_heartbeat.ensures ∙ c.if-is_heartbeat.true)
    (c.saying.ensures ∙ ap (λ w. saying w c.args.self) c.from.ensures) c.on_beat.ensures
