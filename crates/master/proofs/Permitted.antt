-- Wherever a frame stands in the record of a session as put, the record before it permits it.
use Rattle.std.proofs.Common.{◌≡◌, ℕ, ◌⊎◌, List, [], ◌∷◌, ◌++◌, Some, None, Option, sym, refl, ap, subst, inl, inr, ⊎_elim, append-nil, arith}
use Rattle.frames.specs.Contents.{Content}
use Rattle.frames.specs.Lists.{accepts}
use Rattle.frames.specs.declared.nmt.Command.TheVariants as command
use Rattle.sheet.specs.Format.{SheetLines}
use Rattle.sheet.specs.Rules.{SlavesKeep}
use Rattle.master.specs.Network.{State, nmt_to, planned, plan_content}
use Rattle.master.specs.Record.{Every, Event, heard, tick, put, MayPut}
use Rattle.master.specs.FromPort.{LeadsFrom, fresh, then}
use Rattle.master.specs.Session.{PortState, Machine, Call, hear, pass, work, take, Worked, placed, idle, refused, Step, placing, works_on, after, step_of, put_by, events, noted, record_of}
use Rattle.master.specs.Table.{entry_of}
use Rattle.master.specs.declared.types.Phase.TheVariants.{Running, StopDue}
use Rattle.master.proofs.Choosing.{choose}
use Rattle.master.proofs.Agreement.{Agrees, live, stopping, halted, state}
use Rattle.master.proofs.Fairness.{Fair, fair_step, fair_change, fair_fresh}
use Rattle.master.proofs.Lasting.{holds}
use Rattle.master.proofs.Leading.{agrees, record_more}
use Rattle.master.proofs.Origins.{origin}
use Rattle.master.proofs.Permitting.{may_put, other_no_reset, is_message, stop_no_start}

never_nil : {X : Type 0} (before after : List Event) (e : Event) → [] ≡ before ++ e ∷ after → X
never_nil [] after e h = let z : ◌≡◌ {A = ℕ} 0 1 = cc in absurd (omega arith)
never_nil (x ∷ xs) after e h = let z : ◌≡◌ {A = ℕ} 0 1 = cc in absurd (omega arith)

-- a place in a list with one more at its end: within the list, or that one
split_last : (h before after : List Event) (e x : Event) → h ++ x ∷ [] ≡ before ++ e ∷ after → ((rest : List Event) × (h ≡ before ++ e ∷ rest)) ⊎ ((before ≡ h) × (e ≡ x))
split_last [] [] after e x h = inr (refl, let y : e ≡ x = cc in y)
split_last [] (b ∷ bs) after e x h = let y : [] ≡ bs ++ e ∷ after = cc in never_nil bs after e y
split_last (y ∷ ys) [] after e x h = inl (ys, let z : y ≡ e = cc in ap (λ w. w ∷ ys) z)
split_last (y ∷ ys) (b ∷ bs) after e x h =
    let head : y ≡ b = cc in
    let tail : ys ++ x ∷ [] ≡ bs ++ e ∷ after = cc in
    ⊎_elim (λ p. inl (p.0, λ i. head i ∷ p.1 i)) (λ p. inr ((λ i. sym head i ∷ p.0 i), p.1)) (split_last ys bs after e x tail)

module _ (ls : SheetLines) (k : SlavesKeep ls.own 0 ls.slaves) where
  abbrev Puts : List Event → Worked → Type 0
  Puts h (placed f) = MayPut ls h f
  Puts h idle = Unit {0}
  Puts h (refused n) = Unit {0}

  may_stop : (h : List Event) → MayPut ls h (nmt_to command.Stop 0)
  may_stop h = record {
    start = λ x e c. stop_no_start 0 x (is_message command.Stop 0 x e) c;
    reset = λ x e c. other_no_reset command.Stop 0 x refl (is_message command.Stop 0 x e) c;
  }

  placing_may : (h : List Event) (s : State) (p : PortState) (o : Option Content) → ((f : Content) → o ≡ Some f → MayPut ls h f) → Puts h (placing o (record { net = s; port = p })).0
  placing_may h s p None f = tt
  placing_may h s p (Some x) f =
      let m : Machine = record { net = s; port = p } in
      choose (λ (z : Worked × Machine). Puts h z.0) (accepts p.most p.waiting) _ _ (f x refl) tt

  work_may : (h : List Event) (s : State) (p : PortState) → Agrees ls h s → Every (λ c. Fair c (entry_of s.entries c)) ls.slaves → Puts h (works_on (record { net = s; port = p })).0
  work_may h s p (live t w l b n long same) fair =
      let now : State = state ls t w l b n Running in
      placing_may h now p (plan_content ls.slaves (planned now)) (λ f e. may_put ls k h t w l b n same fair (planned now) f (origin now k) e)
  work_may h s p (stopping t w l b n i) fair = placing_may h (state ls t w l b n StopDue) p (Some (nmt_to command.Stop 0)) (λ f e. let is : nmt_to command.Stop 0 ≡ f = cc in subst (MayPut ls h) is (may_stop h))
  work_may h s p (halted t w l b n i) fair = tt

  abbrev Fine : List Event → Type 0
  Fine h = (before after : List Event) (f : Content) → h ≡ before ++ put f ∷ after → MayPut ls before f

  more : (h : List Event) (x : Event) → Fine h → ((f : Content) → put f ≡ x → MayPut ls h f) → Fine (h ++ x ∷ [])
  more h x d g before after f e =
      ⊎_elim (λ p. d before p.0 f p.1) (λ p. subst (λ z. MayPut ls z f) (sym p.0) (g f p.1)) (split_last h before after (put f) x e)

  same_fine : (h : List Event) → Fine h → Fine (h ++ [])
  same_fine h d = subst Fine (sym (append-nil h)) d

  put_fine : (h : List Event) (x : Worked) → Fine h → Puts h x → Fine (h ++ events (put_by x))
  put_fine h (placed g) d p = more h (put g) d (λ f e. let is : g ≡ f = cc in subst (MayPut ls h) is p)
  put_fine h idle d p = same_fine h d
  put_fine h (refused n) d p = same_fine h d

  call_fine : (h : List Event) (m : Machine) (c : Call) → Agrees ls h m.net → Every (λ c. Fair c (entry_of m.net.entries c)) ls.slaves → Fine h → Fine (h ++ noted (step_of c m))
  call_fine h m (hear g) a fair d = more h (heard g) d (λ f e. let z : ◌≡◌ {A = ℕ} 0 1 = cc in absurd (omega arith))
  call_fine h m pass a fair d = more h tick d (λ f e. let z : ◌≡◌ {A = ℕ} 0 1 = cc in absurd (omega arith))
  call_fine h m work a fair d = put_fine h (works_on m).0 d (work_may h m.net m.port a fair)
  call_fine h m take a fair d = same_fine h d

  -- of every row of calls
  pub permitted : {p : PortState} (tr : List Step) (m : Machine) → LeadsFrom ls p tr m → Fine (record_of tr)
  permitted tr m fresh = λ before after f x. never_nil before after (put f) x
  permitted tr m (then u v g c) =
      subst Fine (sym (record_more u (step_of c v)))
      (call_fine (record_of u) v c (agrees ls k u v g) (holds ls k Fair (λ c e i f. fair_step c e i f) fair_change fair_fresh u v g).each (permitted u v g))
