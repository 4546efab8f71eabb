-- A tick of all listed slaves, and that the record's tick does the same.
use Rattle.std.proofs.Common.{◌≡◌, ℕ, ◌+◌, ◌<◌, ◌≤◌, min, Bool, true, false, ◌⊎◌, List, [], ◌∷◌, ◌++◌, length, sym, refl, ap, ◌∙◌, subst, inl, inr, ⊎_elim, arith, Option}
use Rattle.std.proofs.lemmas.Bool.{cases_Bool, cond-true, cond-false}
use Rattle.sheet.specs.Format.{SlaveLines, SheetLines}
use Rattle.sheet.specs.Rules.{SlavesKeep}
use Rattle.master.specs.Network.{State, is_running, step_in, tick_from, ticked, with_entries}
use Rattle.master.specs.Record.{Event, tick, none, read, Reading}
use Rattle.master.specs.Step.{stepped}
use Rattle.master.specs.Table.{entry_of, changed}
use Rattle.master.specs.declared.types.Entry.{Entry}
use Rattle.master.specs.declared.types.Input.TheVariants as input
use Rattle.master.specs.declared.types.Phase.{Phase}
use Rattle.master.specs.declared.types.Phase.TheVariants.{Running, StopDue, Halted}
use Rattle.master.specs.declared.types.Sweep.{Sweep}
use Rattle.master.proofs.Agreement.{SomeOne, Same, Idle, Agrees, state, is_live, is_dead, Bad, left, ends, pushed}
use Rattle.master.proofs.Seeing.{seen, try_of, seen_tick}
use Rattle.master.specs.Record.{Every}
use Rattle.master.proofs.Spread.{every_zip, Ranged, ranged, entry_same, entry_other, changed_long}

-- the entry of a slave after its tick
abbrev Ticked : List Entry → List Entry → SlaveLines → Type 0
Ticked t u d = entry_of u d ≡ (stepped d (entry_of t d) input.Tick).entry

-- a slave whose tick stopped the master
abbrev Stops : List Entry → List Entry → SlaveLines → Type 0
Stops t u d = (d.mandatory ≡ true) × Ticked t u d × Bad (stepped d (entry_of t d) input.Tick).brought

record After (last : ℕ) (cs : List SlaveLines) (s u : State) : Type 0 where
  pub lines : u.lines ≡ s.lines
  pub long : length u.entries ≡ 127
  pub below : (d : SlaveLines) → 1 ≤ d.node → d.node ≤ last → entry_of u.entries d ≡ entry_of s.entries d
  pub either : ((u.phase ≡ Running) × Every (Ticked s.entries u.entries) cs) ⊎ ((is_running u.phase ≡ false) × SomeOne (Stops s.entries u.entries) cs)

run_of : (p : Phase) → is_running p ≡ true → p ≡ Running
run_of Running e = refl
run_of StopDue e = let z : ◌≡◌ {A = ℕ} 0 1 = cc in absurd (omega arith)
run_of Halted e = let z : ◌≡◌ {A = ℕ} 0 1 = cc in absurd (omega arith)

some_map : (P Q : SlaveLines → Type 0) (own last : ℕ) (cs : List SlaveLines) → ((c : SlaveLines) → Ranged own last c → P c → Q c) → Every (Ranged own last) cs → SomeOne P cs → SomeOne Q cs
some_map P Q own last [] f r k = absurd k
some_map P Q own last (c ∷ cs) f r (inl p) = inl (f c r.0 p)
some_map P Q own last (c ∷ cs) f r (inr p) = inr (some_map P Q own last cs f r.1 p)

all_ticked : (own last : ℕ) (cs : List SlaveLines) → SlavesKeep own last cs → (s : State) → s.phase ≡ Running → length s.entries ≡ 127 → After last cs s (tick_from cs s)
all_ticked own last [] k s r l = record { lines = refl; long = l; below = λ d a b. refl; either = inl (r, tt) }
all_ticked own last (c ∷ cs) k s r l =
    let t : List Entry = s.entries in
    let e : Entry = (stepped c (entry_of t c) input.Tick).entry in
    let v : State = step_in c input.Tick s in
    let q = left c.mandatory (stepped c (entry_of t c) input.Tick).brought (with_entries (changed t c e) s) r in
    let long : length v.entries ≡ 127 = ap length q.entries ∙ changed_long t c e l in
    let low : 1 ≤ c.node = k.0.node_low in
    let up : last < c.node = k.0.ascends in
    let here : entry_of v.entries c ≡ e = ap (λ z. entry_of z c) q.entries ∙ entry_same t c e l low k.0.node_high in
    let away : (d : SlaveLines) → 1 ≤ d.node → (d.node ≡ c.node → ⊥) → entry_of v.entries d ≡ entry_of t d = λ d a n. ap (λ z. entry_of z d) q.entries ∙ entry_other t c e d low a n in
    ⊎_elim
    (λ go.
    let a = all_ticked own c.node cs k.1 v (run_of v.phase go) long in
    let back : After last (c ∷ cs) s (tick_from cs v) = record {
      lines = a.lines ∙ q.lines;
      long = a.long;
      below = λ d x y. a.below d x (omega arith) ∙ away d x (λ z. omega arith);
      either =
          ⊎_elim
          (λ p. inl (
            p.0,
            (
              a.below c low (omega arith) ∙ here,
              every_zip (Ranged own c.node) (Ticked v.entries (tick_from cs v).entries) (Ticked t (tick_from cs v).entries) cs
                  (λ d z w. let over = z.above in w ∙ ap (λ x. (stepped d x input.Tick).entry) (away d (omega arith) (λ x. omega arith))) (ranged own c.node cs k.1) p.1,
            ),
          ))
          (λ p. inr (
            p.0,
            inr (some_map (Stops v.entries (tick_from cs v).entries) (Stops t (tick_from cs v).entries) own c.node cs
                (λ d z w. let over = z.above in let same = away d (omega arith) (λ x. omega arith) in (w.0, w.1 ∙ ap (λ x. (stepped d x input.Tick).entry) same, subst (λ x. Bad (stepped d x input.Tick).brought) same w.2)) (ranged own c.node cs k.1) p.1),
          ))
          a.either;
    } in
    subst (After last (c ∷ cs) s) (sym (cond-true _ _ _ go)) back)
    (λ no.
    let bad = ⊎_elim {C = (c.mandatory ≡ true) × (is_running v.phase ≡ false) × Bad (stepped c (entry_of t c) input.Tick).brought} (λ x. absurd (let y : true ≡ false = sym (ap is_running x) ∙ no in let z : ◌≡◌ {A = ℕ} 0 1 = cc in omega arith)) (λ x. x) q.phase in
    let back : After last (c ∷ cs) s v = record {
      lines = q.lines;
      long = long;
      below = λ d x y. away d x (λ z. omega arith);
      either = inr (no, inl (bad.0, here, bad.2));
    } in
    subst (After last (c ∷ cs) s) (sym (cond-false _ _ _ no)) back)
    (cases_Bool (is_running v.phase))

seen_ticked : (ls : SheetLines) (h : List Event) (t u : List Entry) (d : SlaveLines) → Ticked t u d → Same ls h t d → Same ls (h ++ tick ∷ []) u d
seen_ticked ls h t u d e k = ap seen e ∙ seen_tick d (entry_of t d) ∙ ap (λ r. read ls d r tick) k ∙ sym (pushed ls d h tick)

pub some_zip : (P Q R : SlaveLines → Type 0) (cs : List SlaveLines) → ((c : SlaveLines) → P c → Q c → R c) → Every P cs → SomeOne Q cs → SomeOne R cs
some_zip P Q R [] f h k = absurd k
some_zip P Q R (c ∷ cs) f h (inl p) = inl (f c h.0 p)
some_zip P Q R (c ∷ cs) f h (inr p) = inr (some_zip P Q R cs f h.1 p)

pub live_ticked : (ls : SheetLines) → SlavesKeep ls.own 0 ls.slaves → (h : List Event) (t : List Entry) (w : Option Sweep) (l : ℕ) (b : Bool) (n : ℕ) → length t ≡ 127 → Every (Same ls h t) ls.slaves → Agrees ls (h ++ tick ∷ []) (ticked (state ls t w l b n Running))
live_ticked ls k h t w l b n long same =
    let s : State = state ls t w l b (min (n + 1) 4294967295) Running in
    let u : State = tick_from ls.slaves s in
    let a = all_ticked ls.own 0 ls.slaves k s refl long in
    ⊎_elim
    (λ p. is_live ls (h ++ tick ∷ []) u a.lines p.0 a.long (every_zip (Ticked t u.entries) (Same ls h t) (Same ls (h ++ tick ∷ []) u.entries) ls.slaves (seen_ticked ls h t u.entries) p.1 same))
    (λ p.
    is_dead ls (h ++ tick ∷ []) u a.lines p.0
    (some_zip (Same ls h t) (Stops t u.entries) (Idle ls (h ++ tick ∷ []) u.entries) ls.slaves
    (λ d x y.
    let gone : try_of (entry_of u.entries d).stage ≡ none = ap (λ (e : Entry). try_of e.stage) y.1 ∙ ends d (entry_of t d) input.Tick y.2 in
    (y.0, gone, ap (λ (r : Reading). r.at) (sym (seen_ticked ls h t u.entries d y.1 x)) ∙ gone)) same p.1))
    a.either
