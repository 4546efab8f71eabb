use Rattle.std.proofs.Common.{◌≡◌, ◌++◌, length}
use Rattle.ports.specs.Handing.{handed}
use Rattle.ports.proofs.hand_over.hand_over.Given as goal

abbrev pub invariant-loop-from : goal.invariant-loop-from
invariant-loop-from g l = record {
  handed : handed (g.P.Port.waiting l.from) (g.P.Port.pause l.from) (g.P.Port.gap l.from) (g.Q.Port.most l.to) (g.Q.Port.waiting l.to)
      ≡ handed (g.P.Port.waiting l.initial.from) (g.P.Port.pause l.initial.from) (g.P.Port.gap l.initial.from) (g.Q.Port.most l.initial.to) (g.Q.Port.waiting l.initial.to);
  order : g.Q.Port.waiting l.to ++ g.P.Port.waiting l.from ≡ g.Q.Port.waiting l.initial.to ++ g.P.Port.waiting l.initial.from;
  from_most : g.P.Port.most l.from ≡ g.P.Port.most l.initial.from;
  from_gap : g.P.Port.gap l.from ≡ g.P.Port.gap l.initial.from;
  to_pause : g.Q.Port.pause l.to ≡ g.Q.Port.pause l.initial.to;
  to_most : g.Q.Port.most l.to ≡ g.Q.Port.most l.initial.to;
  to_gap : g.Q.Port.gap l.to ≡ g.Q.Port.gap l.initial.to;
}

abbrev pub decreases-loop-from : goal.decreases-loop-from
decreases-loop-from g l = length (g.P.Port.waiting l.from)
