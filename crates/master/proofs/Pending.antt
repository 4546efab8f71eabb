-- While a sweep is under way, a listed slave is not cleared and has no request open: so there is no Go.
use Rattle.std.proofs.Common.{◌≡◌, ℕ, ◌+◌, ◌-◌, ◌%◌, min, Bool, true, false, cond, ◌&&◌, eqb, ltb, ◌⊎◌, List, [], ◌∷◌, length, replicate, Some, None, count_by, Option, sym, refl, ap, ◌∙◌, subst, inl, inr, ⊎_elim, arith, Err, Ok, Result}
use lib.ListN.{length-replicate}
use Rattle.frames.specs.Contents.{Content}
use Rattle.frames.specs.Lists.{accepts}
use Rattle.frames.specs.declared.error_control.Sign.{Sign}
use Rattle.frames.specs.declared.error_control.Sign.TheVariants as sign
use Rattle.frames.specs.declared.sdo.Reply.{Reply}
use Rattle.sheet.specs.Format.{SlaveLines, SheetLines}
use Rattle.sheet.specs.Rules.{SlavesKeep}
use Rattle.master.specs.Checks.{runs, verdict_of}
use Rattle.master.specs.Network.{State, is_running, is_halted, slave_by, fresh_state, going, holds, brings, brought_by, tries_anew, step_in, tick_from, ticked, with_entries, with_clock, with_phase, with_sweep, input_at, taken_by, heard_at, heard_by, applied_to, change_for, carried_out, planned, plan_content, next_due, starts_all, serve_plan, duty_plan_from, sweep_plan, phase_plan}
use Rattle.master.specs.Record.{Every}
use Rattle.master.specs.FromPort.{LeadsFrom, fresh, then}
use Rattle.master.specs.Session.{PortState, Machine, Call, hear, pass, work, take, Worked, Step, placing, after}
use Rattle.master.specs.Step.{stepped, on_beat, on_sign, on_reply, on_tick, decided, to, is_passed, is_cleared}
use Rattle.master.specs.Table.{entry_of, changed, change_by, applied_all}
use Rattle.master.specs.Table.{fresh as fresh_entry}
use Rattle.master.specs.declared.types.Setback.{Setback}
use Rattle.master.specs.declared.types.Setback.TheVariants as setback
use Rattle.master.specs.declared.types.Change.{Change}
use Rattle.master.specs.declared.types.Change.TheVariants as change
use Rattle.master.specs.declared.types.Check.{Check}
use Rattle.master.specs.declared.types.Check.TheVariants.{Kind, Vendor, Product, Revision, Serial, Set}
use Rattle.master.specs.declared.types.Duty.{Duty}
use Rattle.master.specs.declared.types.Duty.TheVariants as duty
use Rattle.master.specs.declared.types.Entry.{Entry}
use Rattle.master.specs.declared.types.Input.{Input}
use Rattle.master.specs.declared.types.Input.TheVariants as input
use Rattle.master.specs.declared.types.Letter.{Letter}
use Rattle.master.specs.declared.types.Phase.{Phase}
use Rattle.master.specs.declared.types.Phase.TheVariants.{Running, StopDue, Halted}
use Rattle.master.specs.declared.types.Plan.{Plan}
use Rattle.master.specs.declared.types.Plan.TheVariants as plan
use Rattle.master.specs.declared.types.Quality.TheVariants as quality
use Rattle.master.specs.declared.types.ResetKind.TheVariants as reset
use Rattle.master.specs.declared.types.Stage.{Stage}
use Rattle.master.specs.declared.types.Stage.TheVariants.{AwaitBoot, Ask, Asked, ListenState, ListenControl, Passed, Retry, ResetDue}
use Rattle.master.specs.declared.types.Stepped.{Stepped}
use Rattle.master.specs.declared.types.Sweep.{Sweep}
use Rattle.master.specs.declared.types.Sweep.TheVariants.{Begun, Singles}
use Rattle.master.specs.declared.types.Word.{Word}
use Rattle.master.proofs.Choosing.{choose, no}
use Rattle.master.proofs.Agreement.{SomeOne, some_found}
use Rattle.master.proofs.Clocking.{some_zip}
use Rattle.master.proofs.Clearing.{not_full}
use Rattle.master.proofs.Leading.{get_d_fresh}
use Rattle.master.proofs.Origins.{Known, known}
use Rattle.master.proofs.Seeing.{made}
use Rattle.master.proofs.Spread.{every_map, has, entry_same, changed_long, changed_by, changed_by_long, spread, spread_all, applied_long}

-- stages from which only a request leads on
abbrev first_check : Check → Bool
first_check Kind = true
first_check Vendor = false
first_check Product = false
first_check Revision = false
first_check Serial = false
first_check (Set i) = false

abbrev pub idles : Stage → Bool
idles (AwaitBoot n) = true
idles (Ask k) = first_check k
idles (Asked k n) = false
idles (ListenState n) = false
idles (ListenControl n r) = false
idles (Passed r s n) = false
idles (Retry n) = true
idles (ResetDue k) = true

pub record Stuck (c : SlaveLines) (e : Entry) : Type 0 where
  pub stage : idles e.stage ≡ true
  pub uncl : (c.mandatory ≡ true) ⊎ (e.once ≡ false)

not_passed : (x : Stage) → idles x ≡ true → is_passed x ≡ false
not_passed (AwaitBoot n) e = refl
not_passed (Ask k) e = refl
not_passed (Asked k n) e = refl
not_passed (ListenState n) e = refl
not_passed (ListenControl n r) e = refl
not_passed (Passed r s n) e = no e
not_passed (Retry n) e = refl
not_passed (ResetDue k) e = refl

by_open : (b : Bool) (x y : Bool) → x ≡ false → (b ≡ true) ⊎ (y ≡ false) → cond b x y ≡ false
by_open true x y p q = p
by_open false x y p (inl e) = no e
by_open false x y p (inr e) = e

pub stuck_open : (c : SlaveLines) (e : Entry) → Stuck c e → is_cleared c e ≡ false
stuck_open c e s = by_open c.mandatory (is_passed e.stage) e.once (not_passed e.stage s.stage) s.uncl

-- what is heard and what ticks leave a stuck slave stuck
module _ (c : SlaveLines) (b : Bool) (l : Option Letter) (o : Bool) (uncl : (c.mandatory ≡ true) ⊎ (o ≡ false)) where
  abbrev Stays : Entry → Type 0
  Stays e = Stuck c e

  beat_stuck : (s : Sign) (w : Word) (x : Stage) → idles x ≡ true → Stuck c (on_beat c s x (made x w b l o))
  beat_stuck s w (AwaitBoot n) e = record { stage = refl; uncl = uncl }
  beat_stuck s w (Ask k) e = record { stage = e; uncl = uncl }
  beat_stuck s w (Asked k n) e = no e
  beat_stuck s w (ListenState n) e = no e
  beat_stuck s w (ListenControl n r) e = no e
  beat_stuck s w (Passed r t n) e = no e
  beat_stuck s w (Retry n) e = record { stage = refl; uncl = uncl }
  beat_stuck s w (ResetDue k) e = choose Stays (c.keep && runs s) _ _ (record { stage = refl; uncl = uncl }) (record { stage = refl; uncl = uncl })

  tick_stuck : (w : Word) (x : Stage) → idles x ≡ true → Stuck c (on_tick c x (made x w b l o)).entry
  tick_stuck w (AwaitBoot None) e = record { stage = refl; uncl = uncl }
  tick_stuck w (AwaitBoot (Some n)) e = choose (λ y. Stuck c (made y w b l o)) (ltb 1 n) (AwaitBoot (Some (n - 1))) (Ask Kind) (record { stage = refl; uncl = uncl }) (record { stage = refl; uncl = uncl })
  tick_stuck w (Ask k) e = record { stage = e; uncl = uncl }
  tick_stuck w (Asked k n) e = no e
  tick_stuck w (ListenState n) e = no e
  tick_stuck w (ListenControl n r) e = no e
  tick_stuck w (Passed r s n) e = no e
  tick_stuck w (Retry n) e = choose (λ y. Stuck c (made y w b l o)) (ltb 1 n) (Retry (n - 1)) (Ask Kind) (record { stage = refl; uncl = uncl }) (record { stage = refl; uncl = uncl })
  tick_stuck w (ResetDue k) e = record { stage = refl; uncl = uncl }

  reply_stuck : (r : Reply) (w : Word) (x : Stage) → idles x ≡ true → Stuck c (on_reply c r x (made x w b l o)).entry
  reply_stuck r w (AwaitBoot n) e = record { stage = refl; uncl = uncl }
  reply_stuck r w (Ask k) e = record { stage = e; uncl = uncl }
  reply_stuck r w (Asked k n) e = no e
  reply_stuck r w (ListenState n) e = no e
  reply_stuck r w (ListenControl n s) e = no e
  reply_stuck r w (Passed s t n) e = no e
  reply_stuck r w (Retry n) e = record { stage = refl; uncl = uncl }
  reply_stuck r w (ResetDue k) e = record { stage = refl; uncl = uncl }

sign_stuck : (c : SlaveLines) (s : Sign) (e : Entry) → Stuck c e → Stuck c (on_sign c s e)
sign_stuck c sign.BootUp e p = record { stage = refl; uncl = p.uncl }
sign_stuck c sign.Stopped e p = beat_stuck c e.booted e.result e.once p.uncl sign.Stopped _ e.stage p.stage
sign_stuck c sign.Operational e p = beat_stuck c e.booted e.result e.once p.uncl sign.Operational _ e.stage p.stage
sign_stuck c sign.PreOperational e p = beat_stuck c e.booted e.result e.once p.uncl sign.PreOperational _ e.stage p.stage

pub step_stuck : (c : SlaveLines) (e : Entry) (i : Input) → Stuck c e → Stuck c (stepped c e i).entry
step_stuck c e (input.Heard s) p = sign_stuck c s e p
step_stuck c e (input.Replied r) p = reply_stuck c e.booted e.result e.once p.uncl r e.word e.stage p.stage
step_stuck c e input.Tick p = tick_stuck c e.booted e.result e.once p.uncl e.word e.stage p.stage

-- a lost slave is stuck
pub lost_stuck : (c : SlaveLines) (e : Entry) (i : Input) → (stepped c e i).brought ≡ (Some setback.Lost) → c.mandatory ≡ true → Stuck c (stepped c e i).entry
lost_stuck c e i h m = record { stage = go c e i h; uncl = inl m }
  where
    tells : (b : Bool) (x y : Stepped) → (x.brought ≡ (Some setback.Lost) → idles x.entry.stage ≡ true) → (y.brought ≡ (Some setback.Lost) → idles y.entry.stage ≡ true) → (cond b x y).brought ≡ (Some setback.Lost) → idles (cond b x y).entry.stage ≡ true
    tells true x y p q e = p e
    tells false x y p q e = q e

    nope : {X : Type 0} (l : Letter) → Some (setback.Missed l) ≡ (Some setback.Lost) → X
    nope l e = let z : ◌≡◌ {A = ℕ} 0 1 = cc in absurd (omega arith)

    nil : {X : Type 0} → None ≡ (Some setback.Lost) → X
    nil e = let z : ◌≡◌ {A = ℕ} 0 1 = cc in absurd (omega arith)

    tick_passes : (c : SlaveLines) (x : Stage) (e : Entry) → (on_tick c x e).brought ≡ (Some setback.Lost) → idles (on_tick c x e).entry.stage ≡ true
    tick_passes c (AwaitBoot None) e h = nil h
    tick_passes c (AwaitBoot (Some n)) e h = nil h
    tick_passes c (Ask k) e h = nil h
    tick_passes c (Asked k n) e h = tells (ltb 1 n) _ _ nil (nope _) h
    tick_passes c (ListenState n) e h = tells (ltb 1 n) _ _ nil (nope _) h
    tick_passes c (ListenControl n r) e h = tells (ltb 1 n) _ _ nil (nope _) h
    tick_passes c (Passed r s n) e h = tells (eqb c.hb 0) _ _ nil (tells (ltb 1 n) _ _ nil (λ _. refl)) h
    tick_passes c (Retry n) e h = nil h
    tick_passes c (ResetDue k) e h = nil h

    on_decided : (c : SlaveLines) (k : Check) (v : Result (Unit {0}) Letter) (e : Entry) → (decided c k v e).brought ≡ (Some setback.Lost) → idles (decided c k v e).entry.stage ≡ true
    on_decided c k (Ok u) e h = nil h
    on_decided c k (Err l) e h = nope l h

    reply_is_heard : (c : SlaveLines) (r : Reply) (x : Stage) (e : Entry) → (on_reply c r x e).brought ≡ (Some setback.Lost) → idles (on_reply c r x e).entry.stage ≡ true
    reply_is_heard c r (AwaitBoot n) e h = nil h
    reply_is_heard c r (Ask k) e h = nil h
    reply_is_heard c r (Asked k n) e h = on_decided c k (verdict_of c k r) e h
    reply_is_heard c r (ListenState n) e h = nil h
    reply_is_heard c r (ListenControl n s) e h = nil h
    reply_is_heard c r (Passed s t n) e h = nil h
    reply_is_heard c r (Retry n) e h = nil h
    reply_is_heard c r (ResetDue k) e h = nil h

    go : (c : SlaveLines) (e : Entry) (i : Input) → (stepped c e i).brought ≡ (Some setback.Lost) → idles (stepped c e i).entry.stage ≡ true
    go c e (input.Heard s) h = nil h
    go c e (input.Replied r) h = reply_is_heard c r e.stage e h
    go c e input.Tick h = tick_passes c e.stage e h

module _ (ls : SheetLines) (k : SlavesKeep ls.own 0 ls.slaves) where
  -- no sweep is under way, or a slave is stuck, or none is listed
  abbrev Waits : List Entry → Option Sweep → Type 0
  Waits t w = (w ≡ None) ⊎ (SomeOne (λ c. Stuck c (entry_of t c)) ls.slaves ⊎ (ls.slaves ≡ []))

  pub record Ready (s : State) : Type 0 where
    pub lines : s.lines ≡ ls
    pub long : length s.entries ≡ 127
    pub waits : Waits s.entries s.sweep

  one : (g : SlaveLines → Entry → Entry) → ((c : SlaveLines) (e : Entry) → Stuck c e → Stuck c (g c e)) → (n : ℕ) (t : List Entry) → length t ≡ 127 → (o : Option SlaveLines) → slave_by n ls.slaves ≡ o → SomeOne (λ c. Stuck c (entry_of t c)) ls.slaves → SomeOne (λ c. Stuck c (entry_of (changed_by g t o) c)) ls.slaves
  one g f n t l o e h =
      some_zip (λ c. entry_of (changed_by g t o) c ≡ cond (eqb c.node n) (g c (entry_of t c)) (entry_of t c)) (λ c. Stuck c (entry_of t c)) (λ c. Stuck c (entry_of (changed_by g t o) c)) ls.slaves
      (λ c x p. subst (Stuck c) (sym x) (choose (Stuck c) (eqb c.node n) (g c (entry_of t c)) (entry_of t c) (f c (entry_of t c) p) p)) (spread g n ls.own ls.slaves k t l o e) h

  waits_one : (g : SlaveLines → Entry → Entry) → ((c : SlaveLines) (e : Entry) → Stuck c e → Stuck c (g c e)) → (n : ℕ) (t : List Entry) (w : Option Sweep) → length t ≡ 127 → (o : Option SlaveLines) → slave_by n ls.slaves ≡ o → Waits t w → Waits (changed_by g t o) w
  waits_one g f n t w l o e (inl x) = inl x
  waits_one g f n t w l o e (inr (inl x)) = inr (inl (one g f n t l o e x))
  waits_one g f n t w l o e (inr (inr x)) = inr (inr x)

  -- what a step brings, with a slave that is stuck if a sweep begins
  brought_ready : (b : Option Setback) (s : State) → Ready s → (b ≡ (Some setback.Lost) → SomeOne (λ c. Stuck c (entry_of s.entries c)) ls.slaves) → Ready (brought_by b s)
  brought_ready None s h f = h
  brought_ready (Some (setback.Missed l)) s h f = choose Ready (tries_anew l s) s (with_phase Halted s) h (record { lines = h.lines; long = h.long; waits = h.waits })
  brought_ready (Some setback.Lost) s h f =
      choose Ready s.lines.stopall (with_phase StopDue s) (cond s.lines.resetall (with_sweep (Some (Begun reset.Node)) s) s) (record { lines = h.lines; long = h.long; waits = h.waits })
      (choose Ready s.lines.resetall (with_sweep (Some (Begun reset.Node)) s) s (record { lines = h.lines; long = h.long; waits = inr (inl (f refl)) }) h)

  brings_ready : (m : Bool) (b : Option Setback) (s : State) → Ready s → (m ≡ true → b ≡ (Some setback.Lost) → SomeOne (λ c. Stuck c (entry_of s.entries c)) ls.slaves) → Ready (brings m b s)
  brings_ready true b s h f = brought_ready b s h (f refl)
  brings_ready false b s h f = h

  step_ready : (n : ℕ) (c : SlaveLines) (i : Input) (s : State) → slave_by n ls.slaves ≡ Some c → Ready s → Ready (step_in c i s)
  step_ready n c i s e h =
      let t : List Entry = s.entries in
      let x : Entry = (stepped c (entry_of t c) i).entry in
      let u : List Entry = changed t c x in
      let g = has n ls.own 0 ls.slaves c k e in
      brings_ready c.mandatory (stepped c (entry_of t c) i).brought (with_entries u s)
      (record { lines = h.lines; long = changed_long t c x h.long; waits = waits_one (λ c e. (stepped c e i).entry) (λ c e p. step_stuck c e i p) n t s.sweep h.long (Some c) e h.waits })
      (λ m b. some_found (λ d. Stuck d (entry_of u d)) n ls.slaves c e (subst (Stuck c) (sym (entry_same t c x h.long g.low g.high)) (lost_stuck c (entry_of t c) i b m)))

  tick_ready : (cs : List SlaveLines) → Every (Known ls.slaves) cs → (s : State) → Ready s → Ready (tick_from cs s)
  tick_ready [] w s h = h
  tick_ready (c ∷ cs) w s h =
      let v = step_ready c.node c input.Tick s w.0 h in
      choose Ready (is_running (step_in c input.Tick s).phase) (tick_from cs (step_in c input.Tick s)) (step_in c input.Tick s) (tick_ready cs w.1 (step_in c input.Tick s) v) v

  ticked_ready : (s : State) → Ready s → Ready (ticked s)
  ticked_ready s h =
      let v : State = with_clock (min (s.clock + 1) 4294967295) s in
      let w = subst (λ (z : SheetLines). Ready (tick_from z.slaves v)) (sym h.lines) (tick_ready ls.slaves (known ls.own 0 ls.slaves k) v (record { lines = h.lines; long = h.long; waits = h.waits })) in
      choose Ready (is_running s.phase) (tick_from s.lines.slaves v) s w h

  taken_ready : (n : ℕ) (c : SlaveLines) (s : State) (o : Option Input) → slave_by n ls.slaves ≡ Some c → Ready s → Ready (taken_by c o s).1
  taken_ready n c s None e h = h
  taken_ready n c s (Some i) e h = step_ready n c i s e h

  at_ready : (f : Content) (n : ℕ) (s : State) (o : Option SlaveLines) → slave_by n ls.slaves ≡ o → Ready s → Ready (heard_at f o s).1
  at_ready f n s None e h = h
  at_ready f n s (Some c) e h = taken_ready n c s (input_at s c f) e h

  heard_ready : (f : Content) (s : State) → Ready s → Ready (heard_by f s).1
  heard_ready f s h =
      choose (λ (z : Bool × State). Ready z.1) (is_running s.phase) (heard_at f (slave_by (f.id % 128) s.lines.slaves) s) (false, s)
      (at_ready f (f.id % 128) s (slave_by (f.id % 128) s.lines.slaves) (ap (λ (z : SheetLines). slave_by (f.id % 128) z.slaves) (sym h.lines)) h) h

  to_one : (g : Change) (o : Option SlaveLines) (t : List Entry) → changed_by (change_by g) t o ≡ applied_to g o t
  to_one g None t = refl
  to_one g (Some c) t = refl

  one_long : (g : Change) (o : Option SlaveLines) (t : List Entry) → length t ≡ 127 → length (applied_to g o t) ≡ 127
  one_long g o t l = subst (λ z. length z ≡ 127) (to_one g o t) (changed_by_long (change_by g) t o l)

  reset_stuck : (c : SlaveLines) (e : Entry) → Stuck c e → Stuck c (change_by change.Reset c e)
  reset_stuck c e p = record { stage = refl; uncl = p.uncl }

  -- a single reset comes of a sweep that is under way
  abbrev Swept : State → Plan → Type 0
  Swept s plan.Nothing = Unit {0}
  Swept s plan.Stop = Unit {0}
  Swept s (plan.ResetAll r) = Unit {0}
  Swept s (plan.ResetOne r n) = s.sweep ≡ None → ⊥
  Swept s (plan.Serve n d) = Unit {0}
  Swept s (plan.StartAll n) = Unit {0}

  while : (s : State) (p : Plan) → (s.sweep ≡ None → ⊥) → Swept s p
  while s plan.Nothing f = tt
  while s plan.Stop f = tt
  while s (plan.ResetAll r) f = tt
  while s (plan.ResetOne r n) f = f
  while s (plan.Serve n d) f = tt
  while s (plan.StartAll n) f = tt

  serve_swept : (s : State) (n : ℕ) (d : Duty) → Swept s (serve_plan s n d)
  serve_swept s n (duty.Reset r) = tt
  serve_swept s n (duty.Request q) = tt
  serve_swept s n duty.Start = choose (Swept s) (starts_all s) (plan.StartAll n) (plan.Serve n duty.Start) tt tt

  duty_swept : (s : State) (o : Option (ℕ × Duty)) → Swept s (duty_plan_from s o)
  duty_swept s None = tt
  duty_swept s (Some p) = serve_swept s p.0 p.1

  sweep_swept : (s : State) (w : Option Sweep) → s.sweep ≡ w → Swept s (sweep_plan s w)
  sweep_swept s None e = duty_swept s (next_due s)
  sweep_swept s (Some (Begun r)) e = while s (sweep_plan s (Some (Begun r))) (λ x. let y = sym e ∙ x in let z : ◌≡◌ {A = ℕ} 0 1 = cc in omega arith)
  sweep_swept s (Some (Singles r m)) e = while s (sweep_plan s (Some (Singles r m))) (λ x. let y = sym e ∙ x in let z : ◌≡◌ {A = ℕ} 0 1 = cc in omega arith)

  phase_swept : (s : State) (p : Phase) → Swept s (phase_plan s p)
  phase_swept s Running = sweep_swept s s.sweep refl
  phase_swept s StopDue = tt
  phase_swept s Halted = sweep_swept s s.sweep refl

  carried_ready : (p : Plan) (s : State) → Swept s p → Ready s → Ready (carried_out p s)
  carried_ready plan.Nothing s q h = record { lines = h.lines; long = h.long; waits = inl refl }
  carried_ready plan.Stop s q h = record { lines = h.lines; long = h.long; waits = h.waits }
  carried_ready (plan.ResetAll r) s q h = record { lines = h.lines; long = applied_long change.Reset s.lines.slaves s.entries h.long; waits = inl refl }
  carried_ready (plan.ResetOne r n) s q h =
      let o : Option SlaveLines = slave_by n s.lines.slaves in
      let e : slave_by n ls.slaves ≡ o = ap (λ (z : SheetLines). slave_by n z.slaves) (sym h.lines) in
      record {
        lines = h.lines;
        long = one_long change.Reset o s.entries h.long;
        waits = subst (λ z. Waits z (Some (Singles r n))) (to_one change.Reset o s.entries) (⊎_elim (λ x. absurd (q x)) (λ x. waits_one (change_by change.Reset) reset_stuck n s.entries (Some (Singles r n)) h.long o e (inr x)) h.waits);
      }
  carried_ready (plan.Serve n d) s q h = record { lines = h.lines; long = one_long (change_for s.lines.wait d) (slave_by n s.lines.slaves) s.entries h.long; waits = inl refl }
  carried_ready (plan.StartAll n) s q h = record { lines = h.lines; long = applied_long change.Start s.lines.slaves s.entries h.long; waits = inl refl }

  placing_ready : (o : Option Content) (m : Machine) → Ready m.net → Ready (placing o m).1.net
  placing_ready None m h = carried_ready plan.Nothing m.net tt h
  placing_ready (Some f) m h = choose (λ (z : Worked × Machine). Ready z.1.net) (accepts m.port.most m.port.waiting) _ _ (carried_ready (planned m.net) m.net (phase_swept m.net m.net.phase) h) h

  call_ready : (c : Call) (m : Machine) → Ready m.net → Ready (after c m).net
  call_ready (hear f) m h = heard_ready f m.net h
  call_ready pass m h = ticked_ready m.net h
  call_ready work m h = choose (λ (z : Worked × Machine). Ready z.1.net) (is_halted m.net.phase) _ _ h (placing_ready (plan_content m.net.lines.slaves (planned m.net)) m h)
  call_ready take m h = h

  begun_stuck : (c : SlaveLines) (e : Entry) → e ≡ fresh_entry → Stuck c (change_by change.Begin c e)
  begun_stuck c e x = subst (λ z. Stuck c (change_by change.Begin c z)) (sym x) (choose (Stuck c) c.keep (to (Ask Kind) fresh_entry) fresh_entry (record { stage = refl; uncl = inr refl }) (record { stage = refl; uncl = inr refl }))

  first_one : (P : SlaveLines → Type 0) (cs : List SlaveLines) → Every P cs → SomeOne P cs ⊎ (cs ≡ [])
  first_one P [] h = inr refl
  first_one P (c ∷ cs) h = inl (inl h.0)

  fresh_ready : Ready (fresh_state ls)
  fresh_ready =
      let t : List Entry = replicate 127 fresh_entry in
      let long : length t ≡ 127 = length-replicate 127 fresh_entry in
      let u : List Entry = applied_all change.Begin ls.slaves t in
      record {
        lines = refl;
        long = applied_long change.Begin ls.slaves t long;
        waits = inr (first_one (λ c. Stuck c (entry_of u c)) ls.slaves (every_map (λ c. entry_of u c ≡ change_by change.Begin c (entry_of t c)) (λ c. Stuck c (entry_of u c)) ls.slaves (λ c x. subst (Stuck c) (sym x) (begun_stuck c (entry_of t c) (get_d_fresh ls k 127 (c.node - 1)))) (spread_all change.Begin ls.own 0 ls.slaves t k long)));
      }

  pub ready : {p : PortState} (tr : List Step) (m : Machine) → LeadsFrom ls p tr m → Ready m.net
  ready tr m fresh = fresh_ready
  ready tr m (then u v g c) = call_ready c v (ready u v g)

  some_none : (P : SlaveLines → Type 0) (cs : List SlaveLines) (n : ℕ) (c : SlaveLines) → slave_by n cs ≡ Some c → cs ≡ [] → ⊥
  some_none P cs n c e x = let y = ap (slave_by n) (sym x) ∙ e in let z : ◌≡◌ {A = ℕ} 0 1 = cc in omega arith

  -- while Go and a slave is listed, no sweep is under way
  pub swept_out : (s : State) → Ready s → going s ≡ true → (n : ℕ) (c : SlaveLines) → slave_by n ls.slaves ≡ Some c → s.sweep ≡ None
  swept_out s h g n c e =
      ⊎_elim (λ x. x)
      (λ y. ⊎_elim
      (λ x.
      let closed : going s ≡ false = subst (λ (z : SheetLines). eqb (count_by (holds quality.Cleared s.entries s.last) z.slaves) (length z.slaves) ≡ false) (sym h.lines)
      (not_full (holds quality.Cleared s.entries s.last) ls.slaves (stuck_all ls.slaves x)) in
      absurd (let y = sym g ∙ closed in let z : ◌≡◌ {A = ℕ} 0 1 = cc in omega arith))
      (λ x. absurd (some_none (λ _. Unit {0}) ls.slaves n c e x)) y)
      h.waits
    where
      stuck_all : (cs : List SlaveLines) → SomeOne (λ c. Stuck c (entry_of s.entries c)) cs → SomeOne (λ c. is_cleared c (entry_of s.entries c) ≡ false) cs
      stuck_all [] x = absurd x
      stuck_all (d ∷ ds) (inl p) = inl (stuck_open d (entry_of s.entries d) p)
      stuck_all (d ∷ ds) (inr p) = inr (stuck_all ds p)
