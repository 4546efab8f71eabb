-- While the master runs, each listed slave's entry reads as the record says. Once it has a stop due or is halted, one mandatory slave
-- has neither passed nor a try, in both.
use Rattle.std.proofs.Common.{◌≡◌, ℕ, ◌-◌, ◌%◌, ◌≤◌, Bool, true, false, cond, eqb, ltb, ◌⊎◌, List, [], ◌∷◌, ◌++◌, length, get_or, Some, None, Option, sym, refl, ap, ◌∙◌, subst, inl, inr, ⊎_elim, arith, Err, Ok, Result}
use Rattle.std.proofs.lemmas.List.Sums.{fold_push}
use Rattle.std.proofs.lemmas.Bool.{cases_eq, cases_Bool, cond-true, cond-false, eq-eqb, ne_eqb}
use Rattle.frames.specs.Contents.{Content}
use Rattle.frames.specs.declared.nmt.Command.TheVariants.{Stop}
use Rattle.frames.specs.declared.sdo.Reply.{Reply}
use Rattle.sheet.specs.Format.{SlaveLines, SheetLines}
use Rattle.sheet.specs.Rules.{SlavesKeep}
use Rattle.master.specs.Network.{State, is_running, slave_by, brings, brought_by, step_in, with_entries, with_phase, with_sweep, tries_anew, input_of, taken_by, heard_at, heard_by}
use Rattle.frames.specs.Nmt.{nmt_in, reaches}
use Rattle.frames.specs.Signs.{sign_in}
use Rattle.frames.specs.declared.error_control.Sign.{Sign}
use Rattle.frames.specs.declared.error_control.Sign.TheVariants as sign
use Rattle.master.specs.Record.{none, Reading, Event, heard, tick, put, read, reading, unread, signed, heard_from, put_to, commanded}
use Rattle.master.specs.Checks.{verdict_of}
use Rattle.master.specs.Step.{stepped, on_reply, on_tick, decided}
use Rattle.master.specs.Table.{fresh, entry_of, changed}
use Rattle.master.specs.declared.types.Letter.{Letter}
use Rattle.master.specs.declared.types.Setback.{Setback}
use Rattle.master.specs.declared.types.Setback.TheVariants as setback
use Rattle.master.specs.declared.types.Entry.{Entry}
use Rattle.master.specs.declared.types.Check.{Check}
use Rattle.master.specs.declared.types.Input.{Input}
use Rattle.master.specs.declared.types.Input.TheVariants as input
use Rattle.master.specs.declared.types.Phase.{Phase}
use Rattle.master.specs.declared.types.Phase.TheVariants.{Running, StopDue, Halted}
use Rattle.master.specs.declared.types.ResetKind.TheVariants as reset
use Rattle.master.specs.declared.types.Stage.{Stage}
use Rattle.master.specs.declared.types.Stage.TheVariants.{AwaitBoot, Ask, Asked, ListenState, ListenControl, Passed, Retry, ResetDue}
use Rattle.master.specs.declared.types.Stepped.{Stepped}
use Rattle.master.specs.declared.types.Sweep.{Sweep}
use Rattle.master.specs.declared.types.Sweep.TheVariants.{Begun}
use Rattle.master.specs.declared.types.Word.{Word}
use Rattle.master.proofs.Choosing.{choose}
use Rattle.master.proofs.Hearing.{inputted, hearing, hearing_seen, far_seen}
use Rattle.master.proofs.Seeing.{seen, try_of}
use Rattle.master.specs.Record.{Every}
use Rattle.master.proofs.Spread.{every_zip, Ranged, ranged, has, entry_same, entry_other, changed_long, changed_by, spread}

-- a listed slave of which something holds
abbrev pub SomeOne : (SlaveLines → Type 0) → List SlaveLines → Type 0
SomeOne P [] = ⊥
SomeOne P (c ∷ cs) = P c ⊎ SomeOne P cs

-- the entry of a slave reads as the record says
abbrev pub Same : SheetLines → List Event → List Entry → SlaveLines → Type 0
Same ls h t c = seen (entry_of t c) ≡ reading ls c h

-- a mandatory slave that neither side has a try of
abbrev pub Idle : SheetLines → List Event → List Entry → SlaveLines → Type 0
Idle ls h t c = (c.mandatory ≡ true) × (try_of (entry_of t c).stage ≡ none) × ((reading ls c h).at ≡ none)

abbrev pub state : SheetLines → List Entry → Option Sweep → ℕ → Bool → ℕ → Phase → State
state ls t w l b n p = record { lines = ls; entries = t; sweep = w; last = l; started = b; clock = n; phase = p }

pub data Agrees (ls : SheetLines) (h : List Event) : State → Type 0 where
  live : (t : List Entry) (w : Option Sweep) (l : ℕ) (b : Bool) (n : ℕ) → length t ≡ 127 → Every (Same ls h t) ls.slaves → Agrees ls h (state ls t w l b n Running)
  stopping : (t : List Entry) (w : Option Sweep) (l : ℕ) (b : Bool) (n : ℕ) → SomeOne (Idle ls h t) ls.slaves → Agrees ls h (state ls t w l b n StopDue)
  halted : (t : List Entry) (w : Option Sweep) (l : ℕ) (b : Bool) (n : ℕ) → SomeOne (Idle ls h t) ls.slaves → Agrees ls h (state ls t w l b n Halted)

pub is_live : (ls : SheetLines) (h : List Event) (s : State) → s.lines ≡ ls → s.phase ≡ Running → length s.entries ≡ 127 → Every (Same ls h s.entries) ls.slaves → Agrees ls h s
is_live ls h s e r l k =
    subst (λ p. Agrees ls h (state s.lines s.entries s.sweep s.last s.started s.clock p)) (sym r)
    (subst (λ m. Agrees ls h (state m s.entries s.sweep s.last s.started s.clock Running)) (sym e) (live s.entries s.sweep s.last s.started s.clock l k))

dead_by : (ls : SheetLines) (h : List Event) (t : List Entry) (w : Option Sweep) (l : ℕ) (b : Bool) (n : ℕ) (p : Phase) → is_running p ≡ false → SomeOne (Idle ls h t) ls.slaves → Agrees ls h (state ls t w l b n p)
dead_by ls h t w l b n Running e k = let z : ◌≡◌ {A = ℕ} 0 1 = cc in absurd (omega arith)
dead_by ls h t w l b n StopDue e k = stopping t w l b n k
dead_by ls h t w l b n Halted e k = halted t w l b n k

pub is_dead : (ls : SheetLines) (h : List Event) (s : State) → s.lines ≡ ls → is_running s.phase ≡ false → SomeOne (Idle ls h s.entries) ls.slaves → Agrees ls h s
is_dead ls h s e r k =
    subst (λ m. Agrees ls h (state m s.entries s.sweep s.last s.started s.clock s.phase)) (sym e) (dead_by ls h s.entries s.sweep s.last s.started s.clock s.phase r k)

pub pushed : (ls : SheetLines) (c : SlaveLines) (h : List Event) (x : Event) → reading ls c (h ++ x ∷ []) ≡ read ls c (reading ls c h) x
pushed ls c h x = fold_push (read ls c) unread h x

-- the entries after a frame of node n was heard
module _ (ls : SheetLines) (h : List Event) (f : Content) (t u : List Entry) where
  abbrev HeardAt : SlaveLines → Type 0
  HeardAt d = entry_of u d ≡ cond (eqb d.node (f.id % 128)) (hearing f d (entry_of t d)) (entry_of t d)

  one_heard : (d : SlaveLines) → d.node ≤ 127 → HeardAt d → Same ls h t d → Same ls (h ++ heard f ∷ []) u d
  one_heard d high e k =
      ⊎_elim
      (λ x. ap seen (e ∙ cond-true _ _ _ (eq-eqb d.node (f.id % 128) x)) ∙ hearing_seen ls d f (entry_of t d) ∙ ap (λ r. read ls d r (heard f)) k ∙ sym (pushed ls d h (heard f)))
      (λ x. ap seen (e ∙ cond-false _ _ _ (ne_eqb d.node (f.id % 128) x)) ∙ k ∙ sym (far_seen d f high (λ y. x (sym y)) ls (reading ls d h)) ∙ sym (pushed ls d h (heard f)))
      (cases_eq d.node (f.id % 128))

  pub all_heard : (own : ℕ) → Every (Ranged own 0) ls.slaves → Every HeardAt ls.slaves → Every (Same ls h t) ls.slaves → Every (Same ls (h ++ heard f ∷ []) u) ls.slaves
  all_heard own r e k =
      every_zip (λ d. (d.node ≤ 127) × HeardAt d) (Same ls h t) (Same ls (h ++ heard f ∷ []) u) ls.slaves (λ d p k. one_heard d p.0 p.1 k)
      (every_zip (Ranged own 0) HeardAt (λ d. (d.node ≤ 127) × HeardAt d) ls.slaves (λ d x y. (x.high, y)) r e) k

-- what a step brings, where the master runs
abbrev pub Bad : Option Setback → Type 0
Bad None = ⊥
Bad (Some (setback.Missed l)) = Unit {0}
Bad (Some setback.Lost) = Unit {0}

pub record Left (m : Bool) (b : Option Setback) (s u : State) : Type 0 where
  pub entries : u.entries ≡ s.entries
  pub lines : u.lines ≡ s.lines
  pub phase : (u.phase ≡ Running) ⊎ ((m ≡ true) × (is_running u.phase ≡ false) × Bad b)

left_by : (b : Option Setback) (s : State) → s.phase ≡ Running → Left true b s (brought_by b s)
left_by None s h = record { entries = refl; lines = refl; phase = inl h }
left_by (Some (setback.Missed l)) s h =
    choose (Left true (Some (setback.Missed l)) s) (tries_anew l s) s (with_phase Halted s) (record { entries = refl; lines = refl; phase = inl h }) (record { entries = refl; lines = refl; phase = inr (refl, refl, tt) })
left_by (Some setback.Lost) s h =
    choose (Left true (Some setback.Lost) s) s.lines.stopall (with_phase StopDue s) (cond s.lines.resetall (with_sweep (Some (Begun reset.Node)) s) s) (record { entries = refl; lines = refl; phase = inr (refl, refl, tt) })
    (choose (Left true (Some setback.Lost) s) s.lines.resetall (with_sweep (Some (Begun reset.Node)) s) s (record { entries = refl; lines = refl; phase = inl h }) (record { entries = refl; lines = refl; phase = inl h }))

pub left : (m : Bool) (b : Option Setback) (s : State) → s.phase ≡ Running → Left m b s (brings m b s)
left true b s h = left_by b s h
left false b s h = record { entries = refl; lines = refl; phase = inl h }

-- a step that brings something leaves no try
abbrev Ends : Stepped → Type 0
Ends x = Bad x.brought → try_of x.entry.stage ≡ none

module _ (c : SlaveLines) where
  ends_decided : (k : Check) (v : Result (Unit {0}) Letter) (e : Entry) → Ends (decided c k v e)
  ends_decided k (Ok u) e b = absurd b
  ends_decided k (Err l) e b = refl

  ends_reply : (r : Reply) (x : Stage) (e : Entry) → Ends (on_reply c r x e)
  ends_reply r (AwaitBoot n) e b = absurd b
  ends_reply r (Ask k) e b = absurd b
  ends_reply r (Asked k n) e b = ends_decided k (verdict_of c k r) e b
  ends_reply r (ListenState n) e b = absurd b
  ends_reply r (ListenControl n s) e b = absurd b
  ends_reply r (Passed s u n) e b = absurd b
  ends_reply r (Retry n) e b = absurd b
  ends_reply r (ResetDue k) e b = absurd b

  ends_tick : (x : Stage) (e : Entry) → Ends (on_tick c x e)
  ends_tick (AwaitBoot None) e = λ b. absurd b
  ends_tick (AwaitBoot (Some n)) e = λ b. absurd b
  ends_tick (Ask k) e = λ b. absurd b
  ends_tick (Asked k n) e = choose Ends (ltb 1 n) _ _ (λ b. absurd b) (λ b. refl)
  ends_tick (ListenState n) e = choose Ends (ltb 1 n) _ _ (λ b. absurd b) (λ b. refl)
  ends_tick (ListenControl n r) e = choose Ends (ltb 1 n) _ _ (λ b. absurd b) (λ b. refl)
  ends_tick (Passed r s n) e = choose Ends (eqb c.hb 0) _ _ (λ b. absurd b) (choose Ends (ltb 1 n) _ _ (λ b. absurd b) (λ b. refl))
  ends_tick (Retry n) e = λ b. absurd b
  ends_tick (ResetDue k) e = λ b. absurd b

  pub ends : (e : Entry) (i : Input) → Ends (stepped c e i)
  ends e (input.Heard s) b = absurd b
  ends e (input.Replied r) b = ends_reply r e.stage e b
  ends e input.Tick b = ends_tick e.stage e b

pub some_found : (P : SlaveLines → Type 0) (n : ℕ) (cs : List SlaveLines) (c : SlaveLines) → slave_by n cs ≡ Some c → P c → SomeOne P cs
some_found P n [] c e p = let z : ◌≡◌ {A = ℕ} 0 1 = cc in absurd (omega arith)
some_found P n (d ∷ ds) c e p =
    ⊎_elim (λ t. let same : c ≡ d = let y = sym (cond-true _ (Some d) (slave_by n ds) t) ∙ e in cc in inl (subst P same p)) (λ f. inr (some_found P n ds c (sym (cond-false _ (Some d) (slave_by n ds) f) ∙ e) p)) (cases_Bool (eqb d.node n))

pub every_found : (P : SlaveLines → Type 0) (n : ℕ) (cs : List SlaveLines) (c : SlaveLines) → slave_by n cs ≡ Some c → Every P cs → P c
every_found P n [] c e p = let z : ◌≡◌ {A = ℕ} 0 1 = cc in absurd (omega arith)
every_found P n (d ∷ ds) c e p =
    ⊎_elim (λ t. let same : d ≡ c = let y = sym (cond-true _ (Some d) (slave_by n ds) t) ∙ e in cc in subst P same p.0) (λ f. every_found P n ds c (sym (cond-false _ (Some d) (slave_by n ds) f) ∙ e) p.1) (cases_Bool (eqb d.node n))

-- an entry put back changes nothing
put_back : (t : List Entry) (c d : SlaveLines) → length t ≡ 127 → 1 ≤ c.node → c.node ≤ 127 → 1 ≤ d.node → entry_of (changed t c (entry_of t c)) d ≡ entry_of t d
put_back t c d l a b low =
    ⊎_elim
    (λ (x : d.node ≡ c.node).
    let here : entry_of (changed t c (entry_of t c)) c ≡ entry_of t c = entry_same t c (entry_of t c) l a b in
    ap (λ n. get_or (changed t c (entry_of t c)) (n - 1) fresh) x ∙ here ∙ ap (λ n. get_or t (n - 1) fresh) (sym x))
    (λ x. entry_other t c (entry_of t c) d a low x)
    (cases_eq d.node c.node)

-- a frame heard while the master runs
module _ (ls : SheetLines) (k : SlavesKeep ls.own 0 ls.slaves) (h : List Event) (f : Content) (t : List Entry) (w : Option Sweep) (l : ℕ) (b : Bool) (n : ℕ) (long : length t ≡ 127) (same : Every (Same ls h t) ls.slaves) where
  abbrev now : State
  now = state ls t w l b n Running

  abbrev m : ℕ
  m = f.id % 128

  after : (o : Option SlaveLines) → slave_by m ls.slaves ≡ o → (u : List Entry) → changed_by (hearing f) t o ≡ u → Every (Same ls (h ++ heard f ∷ []) u) ls.slaves
  after o e u x =
      all_heard ls h f t u ls.own (ranged ls.own 0 ls.slaves k)
      (subst (λ z. Every (λ d. entry_of z d ≡ cond (eqb d.node m) (hearing f d (entry_of t d)) (entry_of t d)) ls.slaves) x (spread (hearing f) m ls.own ls.slaves k t long o e)) same

  stepping : (c : SlaveLines) → slave_by m ls.slaves ≡ Some c → (i : Input) → input_of c (entry_of t c).stage f ≡ Some i → Agrees ls (h ++ heard f ∷ []) (step_in c i now)
  stepping c e i x =
      let u : List Entry = changed t c (stepped c (entry_of t c) i).entry in
      let is : changed_by (hearing f) t (Some c) ≡ u = ap (λ y. changed t c (inputted c y (entry_of t c))) x in
      let all = after (Some c) e u is in
      let q = left c.mandatory (stepped c (entry_of t c) i).brought (with_entries u now) refl in
      let v : State = step_in c i now in
      let there = subst (λ z. Every (Same ls (h ++ heard f ∷ []) z) ls.slaves) (sym q.entries) all in
      ⊎_elim
      (λ r. is_live ls (h ++ heard f ∷ []) v q.lines r (ap length q.entries ∙ changed_long t c (stepped c (entry_of t c) i).entry long) there)
      (λ p.
      let g = has m ls.own 0 ls.slaves c k e in
      let none_here : try_of (entry_of v.entries c).stage ≡ none = ap (λ z. try_of (entry_of z c).stage) q.entries ∙ ap (λ z. try_of z.stage) (entry_same t c (stepped c (entry_of t c) i).entry long g.low g.high) ∙ ends c (entry_of t c) i p.2 in
      let read_none : (reading ls c (h ++ heard f ∷ [])).at ≡ none = ap (λ z. z.at) (sym (every_found (Same ls (h ++ heard f ∷ []) v.entries) m ls.slaves c e there)) ∙ none_here in
      is_dead ls (h ++ heard f ∷ []) v q.lines p.1 (some_found (Idle ls (h ++ heard f ∷ []) v.entries) m ls.slaves c e (p.0, none_here, read_none)))
      q.phase

  taken : (c : SlaveLines) → slave_by m ls.slaves ≡ Some c → (i : Option Input) → input_of c (entry_of t c).stage f ≡ i → Agrees ls (h ++ heard f ∷ []) (taken_by c i now).1
  taken c e None x =
      let g = has m ls.own 0 ls.slaves c k e in
      let all = after (Some c) e (changed t c (entry_of t c)) (ap (λ y. changed t c (inputted c y (entry_of t c))) x) in
      live t w l b n long
      (every_zip (Ranged ls.own 0) (Same ls (h ++ heard f ∷ []) (changed t c (entry_of t c))) (Same ls (h ++ heard f ∷ []) t) ls.slaves
      (λ d r z. let low = r.above in ap seen (sym (put_back t c d long g.low g.high (omega arith))) ∙ z) (ranged ls.own 0 ls.slaves k) all)
  taken c e (Some i) x = stepping c e i x

  looked : (o : Option SlaveLines) → slave_by m ls.slaves ≡ o → Agrees ls (h ++ heard f ∷ []) (heard_at f o now).1
  looked None e = live t w l b n long (after None e t refl)
  looked (Some c) e = taken c e (input_of c (entry_of t c).stage f) refl

  pub live_heard : Agrees ls (h ++ heard f ∷ []) (heard_by f now).1
  live_heard = looked (slave_by m ls.slaves) refl

-- a slave without a try stays so, whatever is heard and however long it takes
abbrev untried : Bool → Word → Bool → Reading
untried b w o = record { at = none; booted = b; word = w; once = o }

untried_sign : (c : SlaveLines) (s : Sign) (b : Bool) (w : Word) (o : Bool) → (signed c s (untried b w o)).at ≡ none
untried_sign c sign.BootUp b w o = refl
untried_sign c sign.Stopped b w o = refl
untried_sign c sign.Operational b w o = refl
untried_sign c sign.PreOperational b w o = refl

untried_heard : (c : SlaveLines) (f : Content) (s : Option Sign) (b : Bool) (w : Word) (o : Bool) → (heard_from c f s (untried b w o)).at ≡ none
untried_heard c f None b w o = refl
untried_heard c f (Some s) b w o = untried_sign c s b w o

abbrev quiet_event : Event → Type 0
quiet_event (heard f) = Unit {0}
quiet_event tick = Unit {0}
quiet_event (put f) = nmt_in f ≡ Some (record { command = Stop; node = 0 })

pub still : (ls : SheetLines) (c : SlaveLines) (x : Event) (r : Reading) → r.at ≡ none → quiet_event x → (read ls c r x).at ≡ none
still ls c (heard f) r e q = subst (λ t. (read ls c (record { at = t; booted = r.booted; word = r.word; once = r.once }) (heard f)).at ≡ none) (sym e) (untried_heard c f (sign_in f c.node) r.booted r.word r.once)
still ls c tick r e q = subst (λ t. (read ls c (record { at = t; booted = r.booted; word = r.word; once = r.once }) tick).at ≡ none) (sym e) refl
still ls c (put f) r e q =
    ap (λ m. (put_to ls c f m r).at) q ∙ choose (λ (z : Reading). z.at ≡ none) (reaches (record { command = Stop; node = 0 }) c.node ls.own) (commanded Stop r) r e e

pub still_idle : (ls : SheetLines) (h : List Event) (x : Event) (t : List Entry) (cs : List SlaveLines) → quiet_event x → SomeOne (Idle ls h t) cs → SomeOne (Idle ls (h ++ x ∷ []) t) cs
still_idle ls h x t [] q k = absurd k
still_idle ls h x t (c ∷ cs) q (inl p) = inl (p.0, p.1, ap (λ (r : Reading). r.at) (pushed ls c h x) ∙ still ls c x (reading ls c h) p.2 q)
still_idle ls h x t (c ∷ cs) q (inr p) = inr (still_idle ls h x t cs q p)
