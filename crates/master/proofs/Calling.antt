-- What the public calls of a master owe, from what its parts ensure.
use Rattle.std.proofs.Common.{◌≡◌, ℕ, ◌-◌, ◌<◌, ◌≤◌, Bool, true, false, cond, ◌&&◌, ltb, leb, List, [], ◌∷◌, ◌++◌, map, length, Some, None, Ok, Err, Option, Result, sym, refl, ap, ◌∙◌, subst, ⊎_elim, append-nil, arith}
use mathlib.Core.List.{map-append}
use lib.ListN.{length-map}
use Rattle.std.specs.Option.{option_map}
use Rattle.std.proofs.lemmas.Bool.{cases_Bool, cond-true, cond-false, le-leb, leb-true, and_parts}
use Rattle.frames.specs.Contents.{Content, content_of}
use Rattle.frames.specs.Lists.{accepts, added}
use Rattle.frames.specs.declared.frame.Frame.{Frame}
use Rattle.ports.specs.Meaning.{given, kept, paused, is_command, held}
use Rattle.sheet.specs.Rules.{Keeps}
use Rattle.master.specs.Masters.{is_frame, content_by, use_of, hearing, hearing_steps, worked_by}
use Rattle.master.specs.Network.{State, heard_by, ticked, is_halted, planned, plan_content, carried_out, going}
use Rattle.master.specs.FromPort.{LeadsFrom, StandsFrom, Carries}
use Rattle.master.specs.Session.{PortState, Machine, with_net, Call, hear, pass, work, take, placed, idle, refused, hears, takes, leaves, placing, works_on, after, step_of}
use Rattle.master.specs.Session.{Worked as Outcome}
use Rattle.master.specs.declared.calls.Refusal.{Refusal}
use Rattle.master.specs.declared.calls.Refusal.TheVariants as refusal
use Rattle.master.specs.declared.calls.Use.{Use}
use Rattle.master.specs.declared.calls.Worked.{Worked}
use Rattle.master.specs.declared.types.Plan.{Plan}
use Rattle.master.specs.declared.types.Plan.TheVariants as plan
use Rattle.master.proofs.Standing.{carries, tells}

-- a machine by its parts
abbrev pub machine : State → List Frame → ℕ → ℕ → ℕ → Machine
machine s w m g p = record { net = s; port = record { waiting = map content_of w; most = m; gap = g; pause = p } }

-- the law of a call, at the machine that it leaves
pub lawful : (m n : Machine) → Keeps m.net.lines → (c : Call) → n ≡ after c m → Carries m (step_of c m ∷ []) n
lawful m n k c e = subst (Carries m (step_of c m ∷ [])) (sym e) (carries m k c)

-- what a call leaves, and its law
pub record Did (c : Call) (m n : Machine) : Type 0 where
  pub state : n ≡ after c m
  pub law : Carries m (step_of c m ∷ []) n

pub did : (c : Call) (m n : Machine) → Keeps m.net.lines → n ≡ after c m → (now : Machine) → m ≡ now → Did c now n
did c m n k e now is = subst (λ x. Did c x n) is (record { state = e; law = lawful m n k c e })

pub tick_leaves : (s u : State) (w v : List Frame) (m o g h p q : ℕ) → u ≡ ticked s → v ≡ w → o ≡ m → h ≡ g → q ≡ p - 1
    → machine u v o h q ≡ after pass (machine s w m g p)
tick_leaves s u w v m o g h p q a b d e f = λ i. machine (a i) (b i) (d i) (e i) (f i)

-- what a frame heard answers and leaves, and its law
pub record HeardAs (id : ℕ) (bs : List ℕ) (m : Machine) (r : Result Use Refusal) (n : Machine) : Type 0 where
  pub answer : r ≡ (hearing id bs m).0
  pub state : n ≡ (hearing id bs m).1
  pub law : Carries m (hearing_steps id bs) n

no_frame : (id : ℕ) (bs : List ℕ) → (id ≤ 2047 → 8 < length bs) → is_frame id bs ≡ false
no_frame id bs h =
    ⊎_elim
    (λ t.
    let p = and_parts (leb id 2047) (leb (length bs) 8) t in
    let few = leb-true (length bs) 8 p.1 in
    let many = h (leb-true id 2047 p.0) in
    absurd (omega arith))
    (λ f. f)
    (cases_Bool (is_frame id bs))

frame_fits : (id : ℕ) (bs : List ℕ) → id ≤ 2047 → length bs ≤ 8 → is_frame id bs ≡ true
frame_fits id bs a b = ap (λ x. x && leb (length bs) 8) (le-leb id 2047 a) ∙ le-leb (length bs) 8 b

-- no step more: the same trace leads there
stays : (m : Machine) → Keeps m.net.lines → Carries m [] m
stays m k ls p tr g = let e = sym (append-nil tr) in (subst (λ z. LeadsFrom ls p z m) e g, subst (λ z. StandsFrom ls p.waiting z m.port.waiting (going m.net)) e (tells m k ls p tr g))

pub not_heard : (id : ℕ) (bs : List ℕ) (m : Machine) → Keeps m.net.lines → (id ≤ 2047 → 8 < length bs) → (now : Machine) → m ≡ now → HeardAs id bs now (Err refusal.NoFrame) m
not_heard id bs m k h now is =
    let q = no_frame id bs h in
    subst (λ x. HeardAs id bs x (Err refusal.NoFrame) m) is (record {
      answer = sym (ap (λ (z : Result Use Refusal × Machine). z.0) (cond-false _ _ _ q));
      state = sym (ap (λ (z : Result Use Refusal × Machine). z.1) (cond-false _ _ _ q));
      law = subst (λ z. Carries m z m) (sym (cond-false _ _ _ q)) (stays m k);
    })

pub heard_frame : (f : Frame) (id : ℕ) (bs : List ℕ) (m : Machine) → Keeps m.net.lines → id ≤ 2047 → length bs ≤ 8 → content_of f ≡ content_by id bs
    → (u : Use) (s : State) → u ≡ use_of (heard_by (content_of f) m.net).0 → s ≡ (heard_by (content_of f) m.net).1 → (now : Machine) → m ≡ now → HeardAs id bs now (Ok u) (with_net s m)
heard_frame f id bs m k small few is u s v w now at =
    let q = frame_fits id bs small few in
    let n : Machine = with_net s m in
    let e : n ≡ after (hear (content_of f)) m = ap (λ z. with_net z m) w in
    subst (λ x. HeardAs id bs x (Ok u) n) at (record {
      answer = ap (λ (z : Use). Ok z) (v ∙ ap (λ x. use_of (heard_by x m.net).0) is) ∙ sym (ap (λ (z : Result Use Refusal × Machine). z.0) (cond-true _ _ _ q));
      state = e ∙ ap (λ x. with_net (heard_by x m.net).1 m) is ∙ sym (ap (λ (z : Result Use Refusal × Machine). z.1) (cond-true _ _ _ q));
      law = subst (λ z. Carries m z n) (ap (λ x. hears x ∷ []) is ∙ sym (cond-true _ _ _ q)) (lawful m n k (hear (content_of f)) e);
    })

-- what a work answers and leaves, and its law
pub record WorkedAs (m : Machine) (r : Result Worked Refusal) (n : Machine) : Type 0 where
  pub answer : r ≡ worked_by (works_on m).0
  pub state : n ≡ after work m
  pub law : Carries m (step_of work m ∷ []) n

-- by what it does and leaves
done : (m n : Machine) → Keeps m.net.lines → (o : Outcome) → works_on m ≡ (o, n) → WorkedAs m (worked_by o) n
done m n k o e =
    let left : n ≡ after work m = sym (ap (λ (z : Outcome × Machine). z.1) e) in
    record { answer = sym (ap (λ (z : Outcome × Machine). worked_by z.0) e); state = left; law = lawful m n k work left }

pub work_halted : (m : Machine) → Keeps m.net.lines → is_halted m.net.phase ≡ true → (now : Machine) → m ≡ now → WorkedAs now (Err refusal.Halted) now
work_halted m k h now is = subst (λ x. WorkedAs x (Err refusal.Halted) x) is (done m m k (refused 12) (cond-true _ _ _ h))

-- a work of a master that is not halted, by the frame of its plan
planned_as : (m : Machine) → is_halted m.net.phase ≡ false → (x : Plan) → x ≡ planned m.net → (o : Option Content) → o ≡ plan_content m.net.lines.slaves x → works_on m ≡ placing o m
planned_as m h x e o f = cond-false _ _ _ h ∙ ap (λ z. placing z m) (sym (f ∙ ap (plan_content m.net.lines.slaves) e))

pub work_idle : (m : Machine) → Keeps m.net.lines → is_halted m.net.phase ≡ false → (x : Plan) → x ≡ planned m.net → None ≡ plan_content m.net.lines.slaves x
    → (s : State) → s ≡ carried_out plan.Nothing m.net → (now : Machine) → m ≡ now → WorkedAs now (Ok Worked.NothingDue) (with_net s m)
work_idle m k h x e f s g now is = subst (λ x. WorkedAs x (Ok Worked.NothingDue) (with_net s m)) is (done m (with_net s m) k idle (planned_as m h x e None f ∙ (λ t. (idle, with_net (sym g t) m))))

room : (w : List Frame) (n : ℕ) → accepts n (map content_of w) ≡ accepts n w
room w n = ap (λ z. ltb z n) (length-map w content_of)

pub work_full : (s : State) (w v : List Frame) (n o g i p q : ℕ) → Keeps s.lines → is_halted s.phase ≡ false → (x : Plan) → x ≡ planned s → (f : Frame) → Some (content_of f) ≡ plan_content s.lines.slaves x
    → accepts n w ≡ false → v ≡ added n w f → o ≡ n → i ≡ g → q ≡ p → (now : Machine) → machine s w n g p ≡ now → WorkedAs now (Err refusal.NoRoom) (machine s v o i q)
work_full s w v n o g i p q k h x e f is b a c d j now at =
    let m : Machine = machine s w n g p in
    let list : v ≡ w = a ∙ cond-false _ _ _ b in
    subst (λ y. WorkedAs y (Err refusal.NoRoom) (machine s v o i q)) at (done m (machine s v o i q) k (refused 13)
    (planned_as m h x e (Some (content_of f)) is ∙ cond-false _ _ _ (room w n ∙ b) ∙ sym (λ t. (refused 13, machine s (list t) (c t) (d t) (j t)))))

pub work_put : (s u : State) (w v : List Frame) (n o g i p q : ℕ) → Keeps s.lines → is_halted s.phase ≡ false → (x : Plan) → x ≡ planned s → (f : Frame) → Some (content_of f) ≡ plan_content s.lines.slaves x
    → accepts n w ≡ true → v ≡ added n w f → o ≡ n → i ≡ g → q ≡ p → u ≡ carried_out x s → (now : Machine) → machine s w n g p ≡ now → WorkedAs now (Ok Worked.Put) (machine u v o i q)
work_put s u w v n o g i p q k h x e f is b a c d j l now at =
    let m : Machine = machine s w n g p in
    let list : map content_of v ≡ map content_of w ++ content_of f ∷ [] = ap (map content_of) (a ∙ cond-true _ _ _ b) ∙ map-append content_of w (f ∷ []) in
    let net : u ≡ carried_out (planned s) s = l ∙ ap (λ z. carried_out z s) e in
    subst (λ y. WorkedAs y (Ok Worked.Put) (machine u v o i q)) at (done m (machine u v o i q) k (placed (content_of f))
    (planned_as m h x e (Some (content_of f)) is ∙ cond-true _ _ _ (room w n ∙ b)
    ∙ sym (λ t. (placed (content_of f), record { net = net t; port = record { waiting = list t; most = c t; gap = d t; pause = j t } }))))

-- a take of frames is a take of their contents
leaving : (w : List Frame) (n g p : ℕ)
    → ◌≡◌ {A = Option Content × PortState} (leaves (map content_of w) (record { waiting = map content_of w; most = n; gap = g; pause = p }))
    (option_map content_of (given w p), record { waiting = map content_of (kept w p); most = n; gap = g; pause = paused w p g })
leaving [] n g p = refl
leaving (f ∷ w) n g p = by (held f p)
  where
    by : (b : Bool)
        → ◌≡◌ {A = Option Content × PortState} (cond b (None, record { waiting = map content_of (f ∷ w); most = n; gap = g; pause = p })
        (Some (content_of f), record { waiting = map content_of w; most = n; gap = g; pause = cond (is_command f) g p }))
        (option_map content_of (cond b None (Some f)), record { waiting = map content_of (cond b (f ∷ w) w); most = n; gap = g; pause = cond b p (cond (is_command f) g p) })
    by true = refl
    by false = refl

-- what a take leaves, and its law
pub record TookAs (m : Machine) (r : Option Frame) (n : Machine) : Type 0 where
  pub answer : option_map content_of r ≡ (leaves m.port.waiting m.port).0
  pub state : n ≡ after take m
  pub law : Carries m (takes (option_map content_of r) ∷ []) n

pub took : (s : State) (w v : List Frame) (n o g i p q : ℕ) → Keeps s.lines → (r : Option Frame) → r ≡ given w p → v ≡ kept w p → q ≡ paused w p g → o ≡ n → i ≡ g
    → (now : Machine) → machine s w n g p ≡ now → TookAs now r (machine s v o i q)
took s w v n o g i p q k r a b c d e now is =
    let m : Machine = machine s w n g p in
    let left : machine s v o i q ≡ after take m =
    (λ t. machine s (b t) (d t) (e t) (c t)) ∙ sym (ap (λ (z : Option Content × PortState). record { net = s; port = z.1 }) (leaving w n g p)) in
    let gave : (leaves m.port.waiting m.port).0 ≡ option_map content_of r = ap (λ (z : Option Content × PortState). z.0) (leaving w n g p) ∙ ap (option_map content_of) (sym a) in
    subst (λ x. TookAs x r (machine s v o i q)) is (record { answer = sym gave; state = left; law = subst (λ z. Carries m (z ∷ []) (machine s v o i q)) (ap (λ z. takes z) gave) (lawful m (machine s v o i q) k take left) })
