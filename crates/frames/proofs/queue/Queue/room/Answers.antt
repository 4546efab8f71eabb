use Rattle.std.proofs.Common.{arith}
use Rattle.frames.proofs.QueueLaws.{length_waiting}
use Rattle.frames.proofs.queue.Queue.room.Goals as goal

pub returns : goal.returns
returns g c = omega (arith, length_waiting c.args.self.now, c.args.self.now.len_ok)
