-- Entries and record agree after every row of calls, and so the master says Go exactly when the record clears all.
use Rattle.std.proofs.Common.{◌≡◌, ℕ, ◌-◌, Bool, true, false, cond, List, [], ◌∷◌, ◌++◌, length, get_or, replicate, Some, None, Option, sym, refl, ap, ◌∙◌, subst, ⊎_elim, append_assoc, append-nil, arith}
use lib.ListN.{length-replicate}
use Rattle.std.proofs.lemmas.List.{get_or_past, get_or-replicate}
use Rattle.std.proofs.lemmas.Bool.{cases_Bool, cases_lt, cond-true, cond-false}
use Rattle.frames.specs.Contents.{Content}
use Rattle.frames.specs.Nmt.{nmt_in}
use Rattle.frames.specs.declared.nmt.Command.TheVariants.{Stop}
use Rattle.frames.specs.Lists.{accepts}
use Rattle.sheet.specs.Format.{SlaveLines, SheetLines}
use Rattle.sheet.specs.Rules.{SlavesKeep}
use Rattle.master.specs.Network.{State, fresh_state, heard_by, ticked, planned, plan_content, carried_out, nmt_to}
use Rattle.master.specs.Record.{Event, heard, tick, put, unread}
use Rattle.master.specs.FromPort.{LeadsFrom, fresh, then}
use Rattle.master.specs.Session.{PortState, Machine, Call, hear, pass, work, take, Worked, Step, placing, works_on, after, step_of, put_by, events, noted, record_of}
use Rattle.master.specs.Step.{to}
use Rattle.master.specs.Table.{entry_of, change_by, applied_all}
use Rattle.master.specs.Table.{fresh as fresh_entry}
use Rattle.master.specs.declared.types.Change.TheVariants as change
use Rattle.master.specs.declared.types.Entry.{Entry}
use Rattle.master.specs.declared.types.Phase.TheVariants.{Running, StopDue, Halted}
use Rattle.master.specs.declared.types.Plan.TheVariants as plan
use Rattle.master.specs.declared.types.Check.TheVariants.{Kind}
use Rattle.master.specs.declared.types.ResetKind.TheVariants as reset
use Rattle.master.specs.declared.types.Stage.TheVariants.{Ask}
use Rattle.master.specs.declared.types.Sweep.TheVariants.{Begun}
use Rattle.master.proofs.Agreement.{Same, Agrees, live, stopping, halted, state, live_heard, still_idle}
use Rattle.master.proofs.Clocking.{live_ticked}
use Rattle.master.proofs.Origins.{origin}
use Rattle.master.proofs.Seeing.{seen}
use Rattle.master.proofs.Spread.{every_map, applied_long, spread_all}
use Rattle.master.proofs.Working.{live_put}

-- one step more in the record
pub record_more : (tr : List Step) (x : Step) → record_of (tr ++ x ∷ []) ≡ record_of tr ++ noted x
record_more [] x = append-nil (noted x)
record_more (y ∷ tr) x = ap (λ z. noted y ++ z) (record_more tr x) ∙ sym (append_assoc (noted y) (record_of tr) (noted x))

module _ (ls : SheetLines) (k : SlavesKeep ls.own 0 ls.slaves) where
  hear_agrees : (h : List Event) (s : State) (f : Content) → Agrees ls h s → Agrees ls (h ++ heard f ∷ []) (heard_by f s).1
  hear_agrees h s f (live t w l b n long same) = live_heard ls k h f t w l b n long same
  hear_agrees h s f (stopping t w l b n i) = stopping t w l b n (still_idle ls h (heard f) t ls.slaves tt i)
  hear_agrees h s f (halted t w l b n i) = halted t w l b n (still_idle ls h (heard f) t ls.slaves tt i)

  tick_agrees : (h : List Event) (s : State) → Agrees ls h s → Agrees ls (h ++ tick ∷ []) (ticked s)
  tick_agrees h s (live t w l b n long same) = live_ticked ls k h t w l b n long same
  tick_agrees h s (stopping t w l b n i) = stopping t w l b n (still_idle ls h tick t ls.slaves tt i)
  tick_agrees h s (halted t w l b n i) = halted t w l b n (still_idle ls h tick t ls.slaves tt i)

  -- a frame that is put, of a master that is not halted
  put_agrees : (h : List Event) (s : State) (f : Content) → (s.phase ≡ Halted → ⊥) → plan_content s.lines.slaves (planned s) ≡ Some f → Agrees ls h s → Agrees ls (h ++ put f ∷ []) (carried_out (planned s) s)
  put_agrees h s f q e (live t w l b n long same) = live_put ls k h t w l b n long same (planned (state ls t w l b n Running)) f (origin (state ls t w l b n Running) k) e
  put_agrees h s f q e (stopping t w l b n i) = let is : nmt_to Stop 0 ≡ f = cc in halted t w l b n (still_idle ls h (put f) t ls.slaves (ap nmt_in (sym is)) i)
  put_agrees h s f q e (halted t w l b n i) = absurd (q refl)

  over_agrees : (h : List Event) (s : State) → Agrees ls h s → Agrees ls (h ++ []) (carried_out plan.Nothing s)
  over_agrees h s (live t w l b n long same) = subst (λ z. Agrees ls z (carried_out plan.Nothing (state ls t w l b n Running))) (sym (append-nil h)) (live t None l b n long same)
  over_agrees h s (stopping t w l b n i) = subst (λ z. Agrees ls z (carried_out plan.Nothing (state ls t w l b n StopDue))) (sym (append-nil h)) (stopping t None l b n i)
  over_agrees h s (halted t w l b n i) = subst (λ z. Agrees ls z (carried_out plan.Nothing (state ls t w l b n Halted))) (sym (append-nil h)) (halted t None l b n i)

  same_agrees : (h : List Event) (s : State) → Agrees ls h s → Agrees ls (h ++ []) s
  same_agrees h s a = subst (λ z. Agrees ls z s) (sym (append-nil h)) a

  -- a work, by what it answers and leaves
  abbrev Works : List Event → Worked × Machine → Type 0
  Works h x = Agrees ls (h ++ events (put_by x.0)) x.1.net

  placing_agrees : (h : List Event) (s : State) (p : PortState) → (s.phase ≡ Halted → ⊥) → Agrees ls h s → (o : Option Content) → plan_content s.lines.slaves (planned s) ≡ o → Works h (placing o (record { net = s; port = p }))
  placing_agrees h s p q a None e = over_agrees h s a
  placing_agrees h s p q a (Some f) e =
      ⊎_elim
      (λ t. subst (Works h) (sym (cond-true _ _ _ t)) (put_agrees h s f q e a))
      (λ t. subst (Works h) (sym (cond-false _ _ _ t)) (same_agrees h s a))
      (cases_Bool (accepts p.most p.waiting))

  work_agrees : (h : List Event) (s : State) (p : PortState) → Agrees ls h s → Works h (works_on (record { net = s; port = p }))
  work_agrees h s p (live t w l b n long same) =
      let now : State = state ls t w l b n Running in
      placing_agrees h now p (λ e. let z : ◌≡◌ {A = ℕ} 0 1 = cc in omega arith) (live t w l b n long same) (plan_content ls.slaves (planned now)) refl
  work_agrees h s p (stopping t w l b n i) =
      let now : State = state ls t w l b n StopDue in
      placing_agrees h now p (λ e. let z : ◌≡◌ {A = ℕ} 0 1 = cc in omega arith) (stopping t w l b n i) (plan_content ls.slaves (planned now)) refl
  work_agrees h s p (halted t w l b n i) = same_agrees h (state ls t w l b n Halted) (halted t w l b n i)

  call_agrees : (h : List Event) (m : Machine) (c : Call) → Agrees ls h m.net → Agrees ls (h ++ noted (step_of c m)) (after c m).net
  call_agrees h m (hear f) a = hear_agrees h m.net f a
  call_agrees h m pass a = tick_agrees h m.net a
  call_agrees h m work a = work_agrees h m.net m.port a
  call_agrees h m take a = same_agrees h m.net a

  pub get_d_fresh : (n i : ℕ) → get_or (replicate n fresh_entry) i fresh_entry ≡ fresh_entry
  get_d_fresh n i = ⊎_elim (λ h. get_or-replicate n i fresh_entry fresh_entry h) (λ h. get_or_past (replicate n fresh_entry) i fresh_entry (omega (arith, length-replicate n fresh_entry))) (cases_lt i n)

  begin_seen : (d : SlaveLines) (e : Entry) → e ≡ fresh_entry → seen (change_by change.Begin d e) ≡ unread
  begin_seen d e x = subst (λ z. seen (change_by change.Begin d z) ≡ unread) (sym x) (choose d.keep)
    where
      choose : (b : Bool) → seen (cond b (to (Ask Kind) fresh_entry) fresh_entry) ≡ unread
      choose true = refl
      choose false = refl

  fresh_agrees : Agrees ls [] (fresh_state ls)
  fresh_agrees =
      let t : List Entry = replicate 127 fresh_entry in
      let long : length t ≡ 127 = length-replicate 127 fresh_entry in
      live (applied_all change.Begin ls.slaves t) (Some (Begun reset.Communication)) 0 false 0 (applied_long change.Begin ls.slaves t long)
      (every_map (λ d. entry_of (applied_all change.Begin ls.slaves t) d ≡ change_by change.Begin d (entry_of t d)) (Same ls [] (applied_all change.Begin ls.slaves t)) ls.slaves (λ d e. ap seen e ∙ begin_seen d (entry_of t d) (get_d_fresh 127 (d.node - 1))) (spread_all change.Begin ls.own 0 ls.slaves t k long))

  -- after every row of calls
  pub agrees : {p : PortState} (tr : List Step) (m : Machine) → LeadsFrom ls p tr m → Agrees ls (record_of tr) m.net
  agrees tr m fresh = fresh_agrees
  agrees tr m (then u v g c) = subst (λ z. Agrees ls z (after c v).net) (sym (record_more u (step_of c v))) (call_agrees (record_of u) v c (agrees u v g))
