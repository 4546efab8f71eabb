-- What every step and change of an entry keeps holds of every listed slave after every row of calls.
use Rattle.std.proofs.Common.{◌≡◌, ℕ, ◌+◌, ◌-◌, ◌%◌, min, Bool, true, false, cond, eqb, List, [], ◌∷◌, length, replicate, Some, None, Option, sym, refl, ap, ◌∙◌, subst}
use lib.ListN.{length-replicate}
use Rattle.frames.specs.Contents.{Content}
use Rattle.frames.specs.Lists.{accepts}
use Rattle.sheet.specs.Format.{SlaveLines, SheetLines}
use Rattle.sheet.specs.Rules.{SlavesKeep}
use Rattle.master.specs.Network.{State, is_running, is_halted, slave_by, fresh_state, brings, brought_by, tries_anew, step_in, tick_from, ticked, with_entries, with_clock, with_phase, with_sweep, input_at, taken_by, heard_at, heard_by, applied_to, change_for, carried_out, planned, plan_content}
use Rattle.master.specs.FromPort.{LeadsFrom, fresh, then}
use Rattle.master.specs.Session.{PortState, Machine, Call, hear, pass, work, take, Worked, Step, placing, after}
use Rattle.master.specs.Step.{stepped}
use Rattle.master.specs.Table.{entry_of, changed, change_by, applied_all}
use Rattle.master.specs.Table.{fresh as fresh_entry}
use Rattle.master.specs.declared.types.Setback.{Setback}
use Rattle.master.specs.declared.types.Setback.TheVariants as setback
use Rattle.master.specs.declared.types.Change.{Change}
use Rattle.master.specs.declared.types.Change.TheVariants as change
use Rattle.master.specs.declared.types.Entry.{Entry}
use Rattle.master.specs.declared.types.Input.{Input}
use Rattle.master.specs.declared.types.Input.TheVariants as input
use Rattle.master.specs.declared.types.Phase.TheVariants.{StopDue, Halted}
use Rattle.master.specs.declared.types.Plan.{Plan}
use Rattle.master.specs.declared.types.Plan.TheVariants as plan
use Rattle.master.specs.declared.types.ResetKind.TheVariants as reset
use Rattle.master.specs.declared.types.Sweep.TheVariants.{Begun}
use Rattle.master.proofs.Choosing.{choose}
use Rattle.master.proofs.Leading.{get_d_fresh}
use Rattle.master.proofs.Origins.{Known, known}
use Rattle.master.specs.Record.{Every}
use Rattle.master.proofs.Spread.{every_map, every_zip, changed_long, changed_by, changed_by_long, spread, spread_all, applied_long}

module _ (ls : SheetLines) (k : SlavesKeep ls.own 0 ls.slaves) (P : SlaveLines → Entry → Type 0)
    (steps : (c : SlaveLines) (e : Entry) (i : Input) → P c e → P c (stepped c e i).entry) (changes : (g : Change) (c : SlaveLines) (e : Entry) → P c e → P c (change_by g c e)) (first : (c : SlaveLines) → P c fresh_entry) where
  pub record Holds (s : State) : Type 0 where
    pub lines : s.lines ≡ ls
    pub long : length s.entries ≡ 127
    pub each : Every (λ c. P c (entry_of s.entries c)) ls.slaves

  -- one entry changes
  one : (g : SlaveLines → Entry → Entry) → ((c : SlaveLines) (e : Entry) → P c e → P c (g c e)) → (n : ℕ) (t : List Entry) → length t ≡ 127 → Every (λ c. P c (entry_of t c)) ls.slaves → (o : Option SlaveLines) → slave_by n ls.slaves ≡ o → Every (λ c. P c (entry_of (changed_by g t o) c)) ls.slaves
  one g f n t l h o e =
      every_zip (λ c. P c (entry_of t c)) (λ c. entry_of (changed_by g t o) c ≡ cond (eqb c.node n) (g c (entry_of t c)) (entry_of t c)) (λ c. P c (entry_of (changed_by g t o) c)) ls.slaves
      (λ c p x. subst (P c) (sym x) (choose (P c) (eqb c.node n) (g c (entry_of t c)) (entry_of t c) (f c (entry_of t c) p) p)) h (spread g n ls.own ls.slaves k t l o e)

  brought_holds : (b : Option Setback) (s : State) → Holds s → Holds (brought_by b s)
  brought_holds None s h = h
  brought_holds (Some (setback.Missed l)) s h = choose Holds (tries_anew l s) s (with_phase Halted s) h (record { lines = h.lines; long = h.long; each = h.each })
  brought_holds (Some setback.Lost) s h =
      choose Holds s.lines.stopall (with_phase StopDue s) (cond s.lines.resetall (with_sweep (Some (Begun reset.Node)) s) s) (record { lines = h.lines; long = h.long; each = h.each })
      (choose Holds s.lines.resetall (with_sweep (Some (Begun reset.Node)) s) s (record { lines = h.lines; long = h.long; each = h.each }) h)

  brings_holds : (m : Bool) (b : Option Setback) (s : State) → Holds s → Holds (brings m b s)
  brings_holds true b s h = brought_holds b s h
  brings_holds false b s h = h

  step_holds : (n : ℕ) (c : SlaveLines) (i : Input) (s : State) → slave_by n ls.slaves ≡ Some c → Holds s → Holds (step_in c i s)
  step_holds n c i s e h =
      let t : List Entry = s.entries in
      let u : List Entry = changed t c (stepped c (entry_of t c) i).entry in
      brings_holds c.mandatory (stepped c (entry_of t c) i).brought (with_entries u s)
      (record { lines = h.lines; long = changed_long t c (stepped c (entry_of t c) i).entry h.long; each = one (λ c e. (stepped c e i).entry) (λ c e p. steps c e i p) n t h.long h.each (Some c) e })

  tick_holds : (cs : List SlaveLines) → Every (Known ls.slaves) cs → (s : State) → Holds s → Holds (tick_from cs s)
  tick_holds [] w s h = h
  tick_holds (c ∷ cs) w s h =
      let v = step_holds c.node c input.Tick s w.0 h in
      choose Holds (is_running (step_in c input.Tick s).phase) (tick_from cs (step_in c input.Tick s)) (step_in c input.Tick s) (tick_holds cs w.1 (step_in c input.Tick s) v) v

  ticked_holds : (s : State) → Holds s → Holds (ticked s)
  ticked_holds s h =
      let v : State = with_clock (min (s.clock + 1) 4294967295) s in
      let w = subst (λ (z : SheetLines). Holds (tick_from z.slaves v)) (sym h.lines) (tick_holds ls.slaves (known ls.own 0 ls.slaves k) v (record { lines = h.lines; long = h.long; each = h.each })) in
      choose Holds (is_running s.phase) (tick_from s.lines.slaves v) s w h

  taken_holds : (n : ℕ) (c : SlaveLines) (s : State) (o : Option Input) → slave_by n ls.slaves ≡ Some c → Holds s → Holds (taken_by c o s).1
  taken_holds n c s None e h = h
  taken_holds n c s (Some i) e h = step_holds n c i s e h

  at_holds : (f : Content) (n : ℕ) (s : State) (o : Option SlaveLines) → slave_by n ls.slaves ≡ o → Holds s → Holds (heard_at f o s).1
  at_holds f n s None e h = h
  at_holds f n s (Some c) e h = taken_holds n c s (input_at s c f) e h

  heard_holds : (f : Content) (s : State) → Holds s → Holds (heard_by f s).1
  heard_holds f s h =
      choose (λ (z : Bool × State). Holds z.1) (is_running s.phase) (heard_at f (slave_by (f.id % 128) s.lines.slaves) s) (false, s)
      (at_holds f (f.id % 128) s (slave_by (f.id % 128) s.lines.slaves) (ap (λ (z : SheetLines). slave_by (f.id % 128) z.slaves) (sym h.lines)) h) h

  to_one : (g : Change) (o : Option SlaveLines) (t : List Entry) → changed_by (change_by g) t o ≡ applied_to g o t
  to_one g None t = refl
  to_one g (Some c) t = refl

  applied_one : (g : Change) (n : ℕ) (s : State) → Holds s → Holds (with_entries (applied_to g (slave_by n s.lines.slaves) s.entries) s)
  applied_one g n s h =
      let o : Option SlaveLines = slave_by n s.lines.slaves in
      let e : slave_by n ls.slaves ≡ o = ap (λ (z : SheetLines). slave_by n z.slaves) (sym h.lines) in
      record {
        lines = h.lines;
        long = subst (λ z. length z ≡ 127) (to_one g o s.entries) (changed_by_long (change_by g) s.entries o h.long);
        each = subst (λ z. Every (λ c. P c (entry_of z c)) ls.slaves) (to_one g o s.entries) (one (change_by g) (changes g) n s.entries h.long h.each o e);
      }

  applied_every : (g : Change) (s : State) → Holds s → Holds (with_entries (applied_all g s.lines.slaves s.entries) s)
  applied_every g s h =
      let u : List Entry = applied_all g ls.slaves s.entries in
      let there : Holds (with_entries u s) = record {
        lines = h.lines;
        long = applied_long g ls.slaves s.entries h.long;
        each = every_zip (λ c. P c (entry_of s.entries c)) (λ c. entry_of u c ≡ change_by g c (entry_of s.entries c)) (λ c. P c (entry_of u c)) ls.slaves (λ c p x. subst (P c) (sym x) (changes g c (entry_of s.entries c) p)) h.each (spread_all g ls.own 0 ls.slaves s.entries k h.long);
      } in
      subst (λ (z : SheetLines). Holds (with_entries (applied_all g z.slaves s.entries) s)) (sym h.lines) there

  -- the sweep, the node last served and the like are not of the entries
  moved : (s u : State) → s.lines ≡ u.lines → s.entries ≡ u.entries → Holds s → Holds u
  moved s u a b h = record { lines = sym a ∙ h.lines; long = ap length (sym b) ∙ h.long; each = subst (λ z. Every (λ c. P c (entry_of z c)) ls.slaves) b h.each }

  carried_holds : (p : Plan) (s : State) → Holds s → Holds (carried_out p s)
  carried_holds plan.Nothing s h = moved s (carried_out plan.Nothing s) refl refl h
  carried_holds plan.Stop s h = moved s (carried_out plan.Stop s) refl refl h
  carried_holds (plan.ResetAll r) s h = moved _ (carried_out (plan.ResetAll r) s) refl refl (applied_every change.Reset s h)
  carried_holds (plan.ResetOne r n) s h = moved _ (carried_out (plan.ResetOne r n) s) refl refl (applied_one change.Reset n s h)
  carried_holds (plan.Serve n d) s h = moved _ (carried_out (plan.Serve n d) s) refl refl (applied_one (change_for s.lines.wait d) n s h)
  carried_holds (plan.StartAll n) s h = moved _ (carried_out (plan.StartAll n) s) refl refl (applied_every change.Start s h)

  placing_holds : (o : Option Content) (m : Machine) → Holds m.net → Holds (placing o m).1.net
  placing_holds None m h = carried_holds plan.Nothing m.net h
  placing_holds (Some f) m h = choose (λ (z : Worked × Machine). Holds z.1.net) (accepts m.port.most m.port.waiting) _ _ (carried_holds (planned m.net) m.net h) h

  call_holds : (c : Call) (m : Machine) → Holds m.net → Holds (after c m).net
  call_holds (hear f) m h = heard_holds f m.net h
  call_holds pass m h = ticked_holds m.net h
  call_holds work m h = choose (λ (z : Worked × Machine). Holds z.1.net) (is_halted m.net.phase) _ _ h (placing_holds (plan_content m.net.lines.slaves (planned m.net)) m h)
  call_holds take m h = h

  fresh_holds : Holds (fresh_state ls)
  fresh_holds =
      let t : List Entry = replicate 127 fresh_entry in
      let long : length t ≡ 127 = length-replicate 127 fresh_entry in
      record {
        lines = refl;
        long = applied_long change.Begin ls.slaves t long;
        each = every_map (λ c. entry_of (applied_all change.Begin ls.slaves t) c ≡ change_by change.Begin c (entry_of t c)) (λ c. P c (entry_of (applied_all change.Begin ls.slaves t) c)) ls.slaves
            (λ c x. subst (P c) (sym x) (changes change.Begin c (entry_of t c) (subst (P c) (sym (get_d_fresh ls k 127 (c.node - 1))) (first c)))) (spread_all change.Begin ls.own 0 ls.slaves t k long);
      }

  pub holds : {p : PortState} (tr : List Step) (m : Machine) → LeadsFrom ls p tr m → Holds m.net
  holds tr m fresh = fresh_holds
  holds tr m (then u v g c) = call_holds c v (holds u v g)
