-- Nobody owed a start waits for ever.
use Rattle.std.proofs.Common.{◌≡◌, ℕ, ◌+◌, ◌%◌, ◌<◌, ◌≤◌, min, Bool, true, false, cond, ◌⊎◌, List, [], ◌∷◌, ◌++◌, length, Some, None, Option, sym, refl, ap, ◌∙◌, subst, inl, inr, ⊎_elim, append_assoc, append-nil, arith}
use Rattle.std.proofs.lemmas.List.Sums.{count_by-le-length}
use Rattle.std.proofs.lemmas.Bool.{cases_Bool, cases_lt, cond-true, cond-false}
use Rattle.frames.specs.Contents.{Content}
use Rattle.frames.specs.Lists.{accepts}
use Rattle.frames.specs.Nmt.{nmt_in}
use Rattle.sheet.specs.Format.{SlaveLines, SheetLines}
use Rattle.sheet.specs.Rules.{SlavesKeep}
use Rattle.master.specs.Network.{State, is_running, slave_by, going, brings, brought_by, tries_anew, step_in, tick_from, ticked, with_entries, with_clock, with_phase, with_sweep, input_at, taken_by, heard_at, heard_by, planned, plan_content, carried_out}
use Rattle.master.specs.Record.{Event, heard, tick, put, Reading, reading, all_cleared, has_passed, owes_start, is_owed}
use Rattle.master.specs.FromPort.{LeadsFrom, fresh, then}
use Rattle.master.specs.Session.{PortState, Machine, Call, hear, pass, work, take, Worked, placed, idle, refused, Step, hears, passes, works, takes, placing, after, step_of, noted, record_of, free_of, free_works, StartIn}
use Rattle.master.specs.Step.{stepped, duty_of}
use Rattle.master.specs.Table.{entry_of, changed}
use Rattle.master.specs.declared.types.Setback.{Setback}
use Rattle.master.specs.declared.types.Setback.TheVariants as setback
use Rattle.master.specs.declared.types.Duty.TheVariants as duty
use Rattle.master.specs.declared.types.Entry.{Entry}
use Rattle.master.specs.declared.types.Input.{Input}
use Rattle.master.specs.declared.types.Input.TheVariants as input
use Rattle.master.specs.declared.types.Phase.TheVariants.{Running, StopDue, Halted}
use Rattle.master.specs.declared.types.Plan.TheVariants as plan
use Rattle.master.specs.declared.types.ResetKind.TheVariants as reset
use Rattle.master.specs.declared.types.Sweep.TheVariants.{Begun}
use Rattle.master.proofs.Choosing.{choose}
use Rattle.master.proofs.Agreement.{Same, Agrees, live, stopping, halted, state, pushed, every_found}
use Rattle.master.proofs.Clearing.{go_law, dead_closed, count_none}
use Rattle.master.proofs.Freely.{away, Turned, turned}
use Rattle.master.proofs.Leading.{agrees, record_more}
use Rattle.master.proofs.Owing.{Other, owed_step, start_owed}
use Rattle.master.proofs.Pending.{Ready, ready, swept_out}
use Rattle.master.proofs.Seeing.{try_of}
use Rattle.master.proofs.Turning.{in_arc, arc_self}

-- what is heard and what ticks does not change who was served last
brought_last : (b : Option Setback) (s : State) → (brought_by b s).last ≡ s.last
brought_last None s = refl
brought_last (Some (setback.Missed l)) s = choose (λ (u : State). u.last ≡ s.last) (tries_anew l s) s (with_phase Halted s) refl refl
brought_last (Some setback.Lost) s = choose (λ (u : State). u.last ≡ s.last) s.lines.stopall (with_phase StopDue s) (cond s.lines.resetall (with_sweep (Some (Begun reset.Node)) s) s) refl (choose (λ (u : State). u.last ≡ s.last) s.lines.resetall (with_sweep (Some (Begun reset.Node)) s) s refl refl)

brings_last : (m : Bool) (b : Option Setback) (s : State) → (brings m b s).last ≡ s.last
brings_last true b s = brought_last b s
brings_last false b s = refl

step_last : (c : SlaveLines) (i : Input) (s : State) → (step_in c i s).last ≡ s.last
step_last c i s = brings_last c.mandatory (stepped c (entry_of s.entries c) i).brought (with_entries (changed s.entries c (stepped c (entry_of s.entries c) i).entry) s)

tick_last : (cs : List SlaveLines) (s : State) → (tick_from cs s).last ≡ s.last
tick_last [] s = refl
tick_last (c ∷ cs) s =
    choose (λ (u : State). u.last ≡ s.last) (is_running (step_in c input.Tick s).phase) (tick_from cs (step_in c input.Tick s)) (step_in c input.Tick s) (tick_last cs (step_in c input.Tick s) ∙ step_last c input.Tick s) (step_last c input.Tick s)

ticked_last : (s : State) → (ticked s).last ≡ s.last
ticked_last s = choose (λ (u : State). u.last ≡ s.last) (is_running s.phase) (tick_from s.lines.slaves (with_clock (min (s.clock + 1) 4294967295) s)) s (tick_last s.lines.slaves (with_clock (min (s.clock + 1) 4294967295) s)) refl

taken_last : (c : SlaveLines) (o : Option Input) (s : State) → (taken_by c o s).1.last ≡ s.last
taken_last c None s = refl
taken_last c (Some i) s = step_last c i s

at_last : (f : Content) (o : Option SlaveLines) (s : State) → (heard_at f o s).1.last ≡ s.last
at_last f None s = refl
at_last f (Some c) s = taken_last c (input_at s c f) s

heard_last : (f : Content) (s : State) → (heard_by f s).1.last ≡ s.last
heard_last f s = choose (λ (u : Bool × State). u.1.last ≡ s.last) (is_running s.phase) (heard_at f (slave_by (f.id % 128) s.lines.slaves) s) (false, s) (at_last f (slave_by (f.id % 128) s.lines.slaves) s) refl

module _ (ls : SheetLines) (k : SlavesKeep ls.own 0 ls.slaves) (c : SlaveLines) (e : ℕ) (is : slave_by e ls.slaves ≡ Some c) where
  owed_more : (h : List Event) (x : Event) → is_owed ls c h ≡ true → Other ls c x → has_passed (reading ls c (h ++ x ∷ [])).at ≡ true → is_owed ls c (h ++ x ∷ []) ≡ true
  owed_more h x o g p =
      let q = pushed ls c h x in
      ap (λ (r : Reading). owes_start r.at) q ∙ owed_step ls c (reading ls c h) x o g (ap (λ (r : Reading). has_passed r.at) (sym q) ∙ p)

  owed_same : (h : List Event) → is_owed ls c h ≡ true → is_owed ls c (h ++ []) ≡ true
  owed_same h o = ap (is_owed ls c) (append-nil h) ∙ o

  -- what a call does on the way
  pub record Onward (h : List Event) (s : State) (x : Step) (u : State) : Type 0 where
    pub nearer : away ls k c e is u.last + free_of x ≤ away ls k c e is s.last
    pub owed : has_passed (reading ls c (h ++ noted x)).at ≡ true → is_owed ls c (h ++ noted x) ≡ true

  abbrev Goes : List Event → State → Step → State → Type 0
  Goes h s x u = StartIn ls c (x ∷ []) ⊎ Onward h s x u

  stay : (h : List Event) (s : State) (x : Step) (u : State) → free_of x ≡ 0 → u.last ≡ s.last → (has_passed (reading ls c (h ++ noted x)).at ≡ true → is_owed ls c (h ++ noted x) ≡ true) → Onward h s x u
  stay h s x u f l o = let same = ap (away ls k c e is) l in record { nearer = omega (arith, f, same); owed = o }

  -- a work without room puts nothing
  no_room : (h : List Event) (m : Machine) (o : Option Content) → accepts m.port.most m.port.waiting ≡ false → is_owed ls c h ≡ true → Onward h m.net (works (accepts m.port.most m.port.waiting) (placing o m).0) (placing o m).1.net
  no_room h m None r w = stay h m.net (works (accepts m.port.most m.port.waiting) idle) (carried_out plan.Nothing m.net) (ap (λ b. cond b 1 0) r) refl (λ _. owed_same h w)
  no_room h m (Some f) r w =
      subst (λ (z : Worked × Machine). Onward h m.net (works (accepts m.port.most m.port.waiting) z.0) z.1.net) (sym (cond-false _ _ _ r))
      (stay h m.net (works (accepts m.port.most m.port.waiting) (refused 13)) m.net (ap (λ b. cond b 1 0) r) refl (λ _. owed_same h w))

  -- a work with room, while Go
  with_room : (h : List Event) (t : List Entry) (l : ℕ) (b : Bool) (n : ℕ) (p : PortState) → accepts p.most p.waiting ≡ true → is_owed ls c h ≡ true → Turned ls k c e is (state ls t None l b n Running)
      → (o : Option Content) → plan_content ls.slaves (planned (state ls t None l b n Running)) ≡ o
      → Goes h (state ls t None l b n Running) (works (accepts p.most p.waiting) (placing o (record { net = state ls t None l b n Running; port = p })).0) (placing o (record { net = state ls t None l b n Running; port = p })).1.net
  with_room h t l b n p r w q None x = absurd (let y = sym q.content ∙ x in let z : ◌≡◌ {A = ℕ} 0 1 = cc in omega arith)
  with_room h t l b n p r w q (Some f) x =
      let now : State = state ls t None l b n Running in
      let f_is : q.frame ≡ f = let y = sym q.content ∙ x in cc in
      let done : Worked × Machine = (placed f, record { net = carried_out (planned now) now; port = record { waiting = p.waiting ++ f ∷ []; most = p.most; gap = p.gap; pause = p.pause } }) in
      let step : works true (placed f) ≡ works (accepts p.most p.waiting) (placed f) = ap (λ z. works z (placed f)) (sym r) in
      let next : Goes h now (works (accepts p.most p.waiting) (placed f)) (carried_out (planned now) now) =
      ⊎_elim
      (λ y. inl (record {
        before = [];
        behind = [];
        frame = f;
        message = y.message;
        there = ap (λ z. z ∷ []) (sym step);
        reads = ap nmt_in (sym f_is) ∙ y.reads;
        start = y.start;
        reaching = y.reaching;
      }))
      (λ y. inr (record { nearer = let one : ◌≡◌ {A = ℕ} (cond (accepts p.most p.waiting) 1 0) 1 = ap (λ b. cond b 1 0) r in omega (arith, one, y.0); owed = λ z. owed_more h (put f) w (subst (λ v. Other ls c (put v)) f_is y.1) z }))
      q.outcome in
      subst (λ (z : Worked × Machine). Goes h now (works (accepts p.most p.waiting) z.0) z.1.net) (sym (cond-true _ done _ r)) next

  -- while Go the master runs, with no sweep under way
  work_goes : (h : List Event) (s : State) (p : PortState) → Agrees ls h s → Ready ls k s → going s ≡ true → is_owed ls c h ≡ true → Goes h s (step_of work (record { net = s; port = p })) (after work (record { net = s; port = p })).net
  work_goes h s p (live t w l b n long same) r g o =
      let over : w ≡ None = swept_out ls k (state ls t w l b n Running) r g e c is in
      subst (λ z. Goes h (state ls t z l b n Running) (step_of work (record { net = state ls t z l b n Running; port = p })) (after work (record { net = state ls t z l b n Running; port = p })).net) (sym over)
      (⊎_elim
      (λ y.
      let at : owes_start (try_of (entry_of t c).stage) ≡ true = ap (λ (x : Reading). owes_start x.at) (every_found (Same ls h t) e ls.slaves c is same) ∙ o in
      let due : duty_of (going (state ls t None l b n Running)) (entry_of t c).stage ≡ Some duty.Start = ap (λ z. duty_of z (entry_of t c).stage) g ∙ start_owed (entry_of t c).stage at in
      with_room h t l b n p y o (turned ls k c e is t l b n due) (plan_content ls.slaves (planned (state ls t None l b n Running))) refl)
      (λ y. inr (no_room h (record { net = state ls t None l b n Running; port = p }) (plan_content ls.slaves (planned (state ls t None l b n Running))) y o))
      (cases_Bool (accepts p.most p.waiting)))
  work_goes h s p (stopping t w l b n i) r g o = absurd (let y = sym g ∙ dead_closed ls h t l i in let z : ◌≡◌ {A = ℕ} 0 1 = cc in omega arith)
  work_goes h s p (halted t w l b n i) r g o = absurd (let y = sym g ∙ dead_closed ls h t l i in let z : ◌≡◌ {A = ℕ} 0 1 = cc in omega arith)

  call_goes : (h : List Event) (m : Machine) (x : Call) → Agrees ls h m.net → Ready ls k m.net → going m.net ≡ true → is_owed ls c h ≡ true → Goes h m.net (step_of x m) (after x m).net
  call_goes h m (hear f) a r g o = inr (stay h m.net (hears f) (heard_by f m.net).1 refl (heard_last f m.net) (λ p. owed_more h (heard f) o tt p))
  call_goes h m pass a r g o = inr (stay h m.net passes (ticked m.net) refl (ticked_last m.net) (λ p. owed_more h tick o tt p))
  call_goes h m work a r g o = work_goes h m.net m.port a r g o
  call_goes h m take a r g o = inr (stay h m.net (step_of take m) m.net refl refl (λ p. owed_same h o))

  -- a call after a trace
  step_goes : {p : PortState} (u : List Step) (v : Machine) → LeadsFrom ls p u v → (x : Call) → all_cleared ls (record_of u) ≡ true → is_owed ls c (record_of u) ≡ true → Goes (record_of u) v.net (step_of x v) (after x v).net
  step_goes u v g x all o = call_goes (record_of u) v x (agrees ls k u v g) (ready ls k u v g) (go_law ls k u v g ∙ all) o

-- lists of steps
snoc_inj : (u v : List Step) (x y : Step) → u ++ x ∷ [] ≡ v ++ y ∷ [] → (u ≡ v) × (x ≡ y)
snoc_inj [] [] x y h = (refl, let z : x ≡ y = cc in z)
snoc_inj [] (b ∷ []) x y h = absurd (let z : ◌≡◌ {A = ℕ} 0 1 = cc in omega arith)
snoc_inj [] (b ∷ d ∷ bs) x y h = absurd (let z : ◌≡◌ {A = ℕ} 0 1 = cc in omega arith)
snoc_inj (a ∷ []) [] x y h = absurd (let z : ◌≡◌ {A = ℕ} 0 1 = cc in omega arith)
snoc_inj (a ∷ d ∷ as1) [] x y h = absurd (let z : ◌≡◌ {A = ℕ} 0 1 = cc in omega arith)
snoc_inj (a ∷ u) (b ∷ v) x y h =
    let head : a ≡ b = cc in
    let tail : u ++ x ∷ [] ≡ v ++ y ∷ [] = cc in
    let r = snoc_inj u v x y tail in
    ((λ i. head i ∷ r.0 i), r.1)

-- a list seen from its end
data Back : List Step → Type 0 where
  nil : Back []
  snoc : (a : List Step) (x : Step) → Back a → Back (a ++ x ∷ [])

grow : (x : Step) (a : List Step) → Back a → Back (x ∷ a)
grow x a nil = snoc [] x nil
grow x a (snoc b y r) = snoc (x ∷ b) y (grow x b r)

back : (a : List Step) → Back a
back [] = nil
back (x ∷ a) = grow x a (back a)

no_snoc : {X : Type 0} (u : List Step) (x : Step) → [] ≡ u ++ x ∷ [] → X
no_snoc [] x h = absurd (let z : ◌≡◌ {A = ℕ} 0 1 = cc in omega arith)
no_snoc (a ∷ u) x h = absurd (let z : ◌≡◌ {A = ℕ} 0 1 = cc in omega arith)

free_more : (a : List Step) (x : Step) → free_works (a ++ x ∷ []) ≡ free_works a + free_of x
free_more [] x = let z : free_of x + 0 ≡ 0 + free_of x = omega arith in z
free_more (y ∷ a) x = let k = free_more a x in omega (arith, k)

-- the last step of a trace
pub record Last (ls : SheetLines) (p : PortState) (u : List Step) (x : Step) (m : Machine) : Type 0 where
  pub machine : Machine
  pub call : Call
  pub leads : LeadsFrom ls p u machine
  pub step : step_of call machine ≡ x
  pub ends : after call machine ≡ m

pub last_step : (ls : SheetLines) {p : PortState} (tr : List Step) (m : Machine) → LeadsFrom ls p tr m → (u : List Step) (x : Step) → tr ≡ u ++ x ∷ [] → Last ls p u x m
last_step ls tr m fresh u x h = no_snoc u x h
last_step ls {p} tr m (then a v g c) u x h =
    let r = snoc_inj a u (step_of c v) x h in
    record { machine = v; call = c; leads = subst (λ z. LeadsFrom ls p z v) r.0 g; step = r.1; ends = refl }

start_wide : (ls : SheetLines) (c : SlaveLines) (a b d : List Step) → StartIn ls c b → StartIn ls c (a ++ (b ++ d))
start_wide ls c a b d s = record {
  before = a ++ s.before;
  behind = s.behind ++ d;
  frame = s.frame;
  message = s.message;
  there = ap (λ z. a ++ (z ++ d)) s.there ∙ ap (λ z. a ++ z) (append_assoc s.before (works true (placed s.frame) ∷ s.behind) d) ∙ sym (append_assoc a s.before (works true (placed s.frame) ∷ (s.behind ++ d)));
  reads = s.reads;
  start = s.start;
  reaching = s.reaching;
}

module _ (ls : SheetLines) (k : SlavesKeep ls.own 0 ls.slaves) (c : SlaveLines) (e : ℕ) (is : slave_by e ls.slaves ≡ Some c) (pre : List Step) (owed : is_owed ls c (record_of pre) ≡ true) where
  -- all is cleared and the slave has passed at every point of a stretch
  abbrev Clear : List Step → Type 0
  Clear a = (a1 a2 : List Step) → a ≡ a1 ++ a2 → (all_cleared ls (record_of (pre ++ a1)) ≡ true) × (has_passed (reading ls c (record_of (pre ++ a1))).at ≡ true)

  abbrev Comes : List Step → Machine → Type 0
  Comes a m = StartIn ls c a ⊎ ((away ls k c e is m.net.last + free_works a ≤ length ls.slaves) × (is_owed ls c (record_of (pre ++ a)) ≡ true))

  comes : {p : PortState} (a : List Step) → Back a → Clear a → (m : Machine) → LeadsFrom ls p (pre ++ a) m → Comes a m
  comes a nil clear m g = let few = count_by-le-length (λ y. in_arc m.net.last e y.node) ls.slaves in inr (omega arith, ap (λ z. is_owed ls c (record_of z)) (append-nil pre) ∙ owed)
  comes z (snoc a x r) clear m g =
      let q = last_step ls (pre ++ (a ++ x ∷ [])) m g (pre ++ a) x (sym (append_assoc pre a (x ∷ []))) in
      let v : Machine = q.machine in
      let here : record_of (pre ++ (a ++ x ∷ [])) ≡ record_of (pre ++ a) ++ noted x = ap record_of (sym (append_assoc pre a (x ∷ []))) ∙ record_more (pre ++ a) x in
      let at = clear a (x ∷ []) refl in
      let end : has_passed (reading ls c (record_of (pre ++ a) ++ noted x)).at ≡ true = ap (λ h. has_passed (reading ls c h).at) (sym here) ∙ (clear (a ++ x ∷ []) [] (sym (append-nil (a ++ x ∷ [])))).1 in
      ⊎_elim
      (λ y. inl (start_wide ls c [] a (x ∷ []) y))
      (λ y.
      let near = y.0 in
      let go : Goes ls k c e is (record_of (pre ++ a)) v.net x m.net =
      subst (λ w. Goes ls k c e is (record_of (pre ++ a)) v.net w m.net) q.step
      (subst (λ (w : Machine). Goes ls k c e is (record_of (pre ++ a)) v.net (step_of q.call v) w.net) q.ends (step_goes ls k c e is (pre ++ a) v q.leads q.call at.0 y.1)) in
      ⊎_elim
      (λ w. inl (start_wide ls c a (x ∷ []) [] w))
      (λ w. let less = w.nearer in let more = free_more a x in inr (omega arith, ap (is_owed ls c) here ∙ w.owed end))
      go)
      (comes a r (λ a1 a2 h. clear a1 (a2 ++ x ∷ []) (ap (λ w. w ++ x ∷ []) h ∙ append_assoc a1 a2 (x ∷ []))) v q.leads)

-- the last work of a stretch that found a free place
record LastFree (seg : List Step) : Type 0 where
  pub front : List Step
  pub this : Step
  pub tail : List Step
  pub there : seg ≡ front ++ this ∷ tail
  pub free : free_of this ≡ 1
  pub none : free_works tail ≡ 0

free_one : (x : Step) → free_of x ≤ 1
free_one (hears f) = omega arith
free_one passes = omega arith
free_one (works true w) = omega arith
free_one (works false w) = omega arith
free_one (takes o) = omega arith

last_free : (seg : List Step) → 0 < free_works seg → LastFree seg
last_free [] h = absurd (omega arith)
last_free (x ∷ xs) h =
    let one = free_one x in
    ⊎_elim
    (λ y. let r = last_free xs y in record { front = x ∷ r.front; this = r.this; tail = r.tail; there = ap (λ z. x ∷ z) r.there; free = r.free; none = r.none })
    (λ y. record { front = []; this = x; tail = xs; there = refl; free = omega arith; none = omega arith })
    (cases_lt 0 (free_works xs))

free_append : (a b : List Step) → free_works (a ++ b) ≡ free_works a + free_works b
free_append [] b = let z : free_works b ≡ 0 + free_works b = omega arith in z
free_append (x ∷ a) b = let k = free_append a b in omega (arith, k)

-- every front of a trace leads somewhere
cut_leads : (ls : SheetLines) {p : PortState} (u q : List Step) → Back q → (m : Machine) → LeadsFrom ls p (u ++ q) m → (v : Machine) × LeadsFrom ls p u v
cut_leads ls {p} u q nil m g = (m, subst (λ z. LeadsFrom ls p z m) (append-nil u) g)
cut_leads ls u q (snoc a x r) m g =
    let l = last_step ls (u ++ (a ++ x ∷ [])) m g (u ++ a) x (sym (append_assoc u a (x ∷ []))) in
    cut_leads ls u a r l.machine l.leads

pub turn_law : (ls : SheetLines) → SlavesKeep ls.own 0 ls.slaves → {p : PortState} (tr : List Step) (m : Machine) → LeadsFrom ls p tr m → (pre seg post : List Step) (c : SlaveLines) → tr ≡ pre ++ (seg ++ post) → slave_by c.node ls.slaves ≡ Some c
    → is_owed ls c (record_of pre) ≡ true → free_works seg ≡ length ls.slaves
    → ((s1 s2 : List Step) → seg ≡ s1 ++ s2 → 0 < free_works s2 → (all_cleared ls (record_of (pre ++ s1)) ≡ true) × (has_passed (reading ls c (record_of (pre ++ s1))).at ≡ true))
    → StartIn ls c seg
turn_law ls k {p} tr m g pre seg post c whole is owed many clear =
    let e : ℕ = c.node in
    let some : 0 < length ls.slaves = listed_some ls.slaves e c is in
    let r = last_free seg (omega arith) in
    let a : List Step = r.front in
    let x : Step = r.this in
    let z : List Step = r.tail in
    let shape : tr ≡ (pre ++ (a ++ x ∷ [])) ++ (z ++ post) =
    whole ∙ ap (λ w. pre ++ (w ++ post)) r.there ∙ ap (λ w. pre ++ w) (append_assoc a (x ∷ z) post ∙ sym (append_assoc a (x ∷ []) (z ++ post))) ∙ sym (append_assoc pre (a ++ x ∷ []) (z ++ post)) in
    let u = cut_leads ls (pre ++ (a ++ x ∷ [])) (z ++ post) (back (z ++ post)) m (subst (λ w. LeadsFrom ls p w m) shape g) in
    let q = last_step ls (pre ++ (a ++ x ∷ [])) u.0 u.1 (pre ++ a) x (sym (append_assoc pre a (x ∷ []))) in
    let v : Machine = q.machine in
    let free = r.free in
    let count : free_works seg ≡ free_works a + (free_of x + free_works z) = ap free_works r.there ∙ free_append a (x ∷ z) in
    let none_left = r.none in
    let clear_a : Clear ls k c e is pre owed a = λ a1 a2 h. clear a1 (a2 ++ x ∷ z) (r.there ∙ ap (λ w. w ++ x ∷ z) h ∙ append_assoc a1 a2 (x ∷ z)) (omega (arith, free_append a2 (x ∷ z))) in
    ⊎_elim
    (λ y. subst (StartIn ls c) (sym r.there) (start_wide ls c [] a (x ∷ z) y))
    (λ y.
    let near = y.0 in
    let at = clear_a a [] (sym (append-nil a)) in
    let go : Goes ls k c e is (record_of (pre ++ a)) v.net x u.0.net =
    subst (λ w. Goes ls k c e is (record_of (pre ++ a)) v.net w u.0.net) q.step
    (subst (λ (w : Machine). Goes ls k c e is (record_of (pre ++ a)) v.net (step_of q.call v) w.net) q.ends (step_goes ls k c e is (pre ++ a) v q.leads q.call at.0 y.1)) in
    ⊎_elim
    (λ w. subst (StartIn ls c) (sym r.there) (start_wide ls c a (x ∷ []) z w))
    (λ w.
    let less = w.nearer in
    let zero : away ls k c e is u.0.net.last ≤ 0 = omega arith in
    let off = every_found (λ d. in_arc u.0.net.last e d.node ≡ false) e ls.slaves c is (count_none (λ d. in_arc u.0.net.last e d.node) ls.slaves zero) in
    absurd (let y2 = sym (arc_self u.0.net.last e) ∙ off in let b : ◌≡◌ {A = ℕ} 0 1 = cc in omega arith))
    go)
    (comes ls k c e is pre owed a (back a) clear_a v q.leads)
  where
    listed_some : (cs : List SlaveLines) (n : ℕ) (c : SlaveLines) → slave_by n cs ≡ Some c → 0 < length cs
    listed_some [] n c h = absurd (let b : ◌≡◌ {A = ℕ} 0 1 = cc in omega arith)
    listed_some (d ∷ ds) n c h = omega arith
