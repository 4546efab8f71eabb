use Rattle.std.proofs.Common.{sym, refl, inl, inr, arith}
use Rattle.frames.proofs.Rings.{first_turned, rest_turned}
use Rattle.frames.proofs.queue.Queue.take.Goals as goal
use Rattle.frames.proofs.queue.Queue.take.Goals.{then-next-self, else-next-self}

pub returns : goal.returns
returns g c =
    let s = c.args.self.now in
    record {
      answer = sym (first_turned s.slots.now s.head s.len c.index-self-self.result s.head_ok (omega arith));
      list = rest_turned s.slots.now s.head s.len c.index-self-self.result s.head_ok (omega arith) s.len_ok c.if-next-self.self
          (elim c.if-next-self.branch [ then-next-self w ↦ omega (arith, w.self-is, s.head_ok) | else-next-self w ↦ omega (arith, w.self-is, s.head_ok) ])
          (elim c.if-next-self.branch [ then-next-self w ↦ inr (omega (arith, w.self-is)) | else-next-self w ↦ inl (omega (arith, w.self-is)) ]);
      same = refl;
    }
