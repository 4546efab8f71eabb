-- Rows of calls: their loop, and the trace that their caller sees.
use Rattle.std.proofs.Common.{◌≡◌, ℕ, ◌+◌, ◌-◌, ◌<◌, ◌≤◌, Bool, cond, ◌&&◌, ltb, List, [], ◌∷◌, ◌++◌, map, length, get_or, take, drop, set, Some, None, Option, sym, refl, ap, ◌∙◌, subst, append_assoc, append-nil, arith, length-append}
use mathlib.Core.List.{map-append}
use lib.Seq.{map-set_same, drop-append_seam}
use Rattle.std.proofs.lemmas.List.{take_all, take_more_set, drop_all, at_drop_more, drop-set-lt}
use Rattle.frames.specs.Contents.{Content, content_of}
use Rattle.frames.specs.Lists.{accepts}
use Rattle.sheet.specs.Format.{SheetLines}
use Rattle.sheet.specs.Rules.{Keeps}
use Rattle.master.specs.Masters.{called, worked_by}
use Rattle.master.specs.Network.{is_halted, planned, plan_content, carried_out, going}
use Rattle.master.specs.Rows.{Shown, worked, took, call_of, shown_of, shown_at, shown_all, after_all, steps_all, steps_in, taken_in, trace_in, RowDetermined}
use Rattle.master.specs.FromPort.{fresh_machine, LeadsFrom, fresh, then, StandsFrom}
use Rattle.master.specs.Session.{take as take_first}
use Rattle.master.specs.Session.{PortState, Machine, with_port, enters, hear, pass, work, placed, idle, refused, Step, hears, passes, works, takes, is_command, leaves, placing, after, step_of, put_by, left, entered}
use Rattle.master.specs.Session.{Worked as Outcome}
use Rattle.master.specs.declared.calls.Call.{Call}
use Rattle.master.specs.declared.calls.Call.TheVariants as call
use Rattle.master.specs.declared.calls.Exchange.{Exchange}
use Rattle.master.proofs.Choosing.{choose}
use Rattle.master.proofs.Ordering.{ordered}
use Rattle.master.proofs.Standing.{laws_from_port}

-- what holds while a row is run: the calls are those of the row, and what is seen so far and what the rest will be seen to be are
-- what the row is seen to be, and leave what it leaves
pub record Running (row now : List Exchange) (i : ℕ) (m n : Machine) : Type 0 where
  pub calls : map call_of now ≡ map call_of row
  pub seen : map shown_of (take i now) ++ shown_all (map call_of (drop i now)) n ≡ shown_all (map call_of row) m
  pub ends : after_all (map call_of (drop i now)) n ≡ after_all (map call_of row) m

pub run_begins : (row : List Exchange) (m : Machine) → Running row row 0 m m
run_begins [] m = record { calls = refl; seen = refl; ends = refl }
run_begins (x ∷ xs) m = record { calls = refl; seen = refl; ends = refl }

-- one call more: y is the exchange at i with its answer
pub run_goes_on : (row now : List Exchange) (i : ℕ) (m n o : Machine) (d y : Exchange) → i < length now → y.call ≡ (get_or now i d).call → shown_of y ≡ shown_at (get_or now i d).call n → o ≡ after (called (get_or now i d).call) n
    → Running row now i m n → Running row (set now i y) (i + 1) m o
run_goes_on row now i m n o d y inside same seen left r =
    let x : Exchange = get_or now i d in
    let front : take (i + 1) (set now i y) ≡ take i now ++ y ∷ [] = take_more_set now i y inside in
    let rest : drop (i + 1) (set now i y) ≡ drop (i + 1) now = drop-set-lt (i + 1) now i y (omega arith) in
    let here : map call_of (drop i now) ≡ x.call ∷ map call_of (drop (i + 1) now) = at_drop_more (map call_of) now i d inside in
    let cs : List Call = map call_of (drop (i + 1) now) in
    record {
      calls = map-set_same call_of now i y d same ∙ r.calls;
      seen = (λ t. map shown_of (front t) ++ shown_all (map call_of (rest t)) (left t)) ∙ ap (λ z. z ++ shown_all cs (after (called x.call) n)) (map-append shown_of (take i now) (y ∷ []))
          ∙ append_assoc (map shown_of (take i now)) (shown_of y ∷ []) (shown_all cs (after (called x.call) n)) ∙ ap (λ z. map shown_of (take i now) ++ z ∷ shown_all cs (after (called x.call) n)) seen
          ∙ ap (λ z. map shown_of (take i now) ++ shown_all z n) (sym here) ∙ r.seen;
      ends = (λ t. after_all (map call_of (rest t)) (left t)) ∙ ap (λ z. after_all z n) (sym here) ∙ r.ends;
    }

-- the row is run
pub record Ran (row now : List Exchange) (m n : Machine) : Type 0 where
  pub calls : map call_of now ≡ map call_of row
  pub answers : map shown_of now ≡ shown_all (map call_of row) m
  pub state : n ≡ after_all (map call_of row) m

pub run_ends : (row now : List Exchange) (i : ℕ) (m n : Machine) → length now ≤ i → Running row now i m n → Ran row now m n
run_ends row now i m n past r =
    let front : take i now ≡ now = take_all i now past in
    let rest : drop i now ≡ [] = drop_all i now past in
    record {
      calls = r.calls;
      answers = sym ((λ t. map shown_of (front t) ++ shown_all (map call_of (rest t)) n) ∙ append-nil (map shown_of now)) ∙ r.seen;
      state = sym (ap (λ z. after_all (map call_of z) n) rest) ∙ r.ends;
    }

leads_all : (ls : SheetLines) (p : PortState) (cs : List Call) (tr : List Step) (m : Machine) → LeadsFrom ls p tr m → LeadsFrom ls p (tr ++ steps_all cs m) (after_all cs m)
leads_all ls p [] tr m g = subst (λ z. LeadsFrom ls p z m) (sym (append-nil tr)) g
leads_all ls p (c ∷ cs) tr m g =
    subst (λ z. LeadsFrom ls p z (after_all cs (after (called c) m))) (append_assoc tr (step_of (called c) m ∷ []) (steps_all cs (after (called c) m))) (leads_all ls p cs (tr ++ step_of (called c) m ∷ []) (after (called c) m) (then tr m g (called c)))

-- the steps that a row shows are its steps
abbrev Shows : List Call → Machine → Type 0
Shows cs m = steps_in m.port.most (length m.port.waiting) (shown_all cs m) (entered (steps_all cs m)) ≡ steps_all cs m

abbrev ShowsWork : List Call → Machine → Outcome × Machine → Type 0
ShowsWork cs m x =
    steps_in m.port.most (length m.port.waiting) (worked (worked_by x.0) ∷ shown_all cs x.1) (put_by x.0 ++ entered (steps_all cs x.1))
    ≡ works (accepts m.port.most m.port.waiting) x.0 ∷ steps_all cs x.1

abbrev ShowsTake : List Call → Machine → Option Content × PortState → Type 0
ShowsTake cs m z =
    steps_in m.port.most (length m.port.waiting) (took z.0 ∷ shown_all cs (with_port z.1 m)) (entered (steps_all cs (with_port z.1 m)))
    ≡ takes z.0 ∷ steps_all cs (with_port z.1 m)

shows_placing : (cs : List Call) → ((m : Machine) → Shows cs m) → (o : Option Content) (m : Machine) → ShowsWork cs m (placing o m)
shows_placing cs ih None m = let n : Machine = (placing None m).1 in ap (λ z. works (accepts m.port.most m.port.waiting) idle ∷ z) (ih n)
shows_placing cs ih (Some f) m =
    let room : Bool = accepts m.port.most m.port.waiting in
    let n : Machine = record { net = carried_out (planned m.net) m.net; port = enters f m.port } in
    let more : length m.port.waiting + 1 ≡ length (m.port.waiting ++ f ∷ []) = omega (arith, length-append m.port.waiting (f ∷ [])) in
    choose (ShowsWork cs m) room _ _
    (ap (λ z. works room (placed f) ∷ steps_in m.port.most z (shown_all cs n) (entered (steps_all cs n))) more ∙ ap (λ z. works room (placed f) ∷ z) (ih n))
    (ap (λ z. works room (refused 13) ∷ z) (ih m))

shows_take : (cs : List Call) → ((m : Machine) → Shows cs m) → (m : Machine) (fs : List Content) → m.port.waiting ≡ fs → ShowsTake cs m (leaves fs m.port)
shows_take cs ih m [] e = ap (λ z. takes None ∷ z) (ih m)
shows_take cs ih m (f ∷ fs) e =
    let p : PortState = record { waiting = fs; most = m.port.most; gap = m.port.gap; pause = cond (is_command f) m.port.gap m.port.pause } in
    let n : Machine = with_port p m in
    let less : length m.port.waiting - 1 ≡ length fs = omega (arith, ap length e) in
    choose (ShowsTake cs m) (is_command f && ltb 0 m.port.pause) _ _ (ap (λ z. takes None ∷ z) (ih m))
    (ap (λ z. takes (Some f) ∷ steps_in m.port.most z (shown_all cs n) (entered (steps_all cs n))) less ∙ ap (λ z. takes (Some f) ∷ z) (ih n))

shows : (cs : List Call) (m : Machine) → Shows cs m
shows [] m = refl
shows (call.Heard f ∷ cs) m = ap (λ z. hears (content_of f) ∷ z) (shows cs (after (hear (content_of f)) m))
shows (call.Tick ∷ cs) m = ap (λ z. passes ∷ z) (shows cs (after pass m))
shows (call.Work ∷ cs) m =
    choose (ShowsWork cs m) (is_halted m.net.phase) _ _ (ap (λ z. works (accepts m.port.most m.port.waiting) (refused 12) ∷ z) (shows cs m))
    (shows_placing cs (shows cs) (plan_content m.net.lines.slaves (planned m.net)) m)
shows (call.Take ∷ cs) m = shows_take cs (shows cs) m m.port.waiting refl

-- the frames that a row is seen to take are those that left
taken : (cs : List Call) (m : Machine) → taken_in (shown_all cs m) ≡ left (steps_all cs m)
taken [] m = refl
taken (call.Heard f ∷ cs) m = taken cs (after (hear (content_of f)) m)
taken (call.Tick ∷ cs) m = taken cs (after pass m)
taken (call.Work ∷ cs) m = taken cs (after work m)
taken (call.Take ∷ cs) m = by (leaves m.port.waiting m.port).0 (taken cs (after take_first m))
  where
    by : (o : Option Content) → taken_in (shown_all cs (after take_first m)) ≡ left (steps_all cs (after take_first m)) → taken_in (took o ∷ shown_all cs (after take_first m)) ≡ left (takes o ∷ steps_all cs (after take_first m))
    by None e = e
    by (Some f) e = ap (λ z. f ∷ z) e

pub determined : RowDetermined
determined ls keeps p cs =
    let m : Machine = fresh_machine ls p in
    let w : List Content = (after_all cs m).port.waiting in
    let all : left (steps_all cs m) ++ w ≡ p.waiting ++ entered (steps_all cs m) = ordered ls (steps_all cs m) (after_all cs m) (leads_all ls p cs [] m fresh) in
    ap (λ z. steps_in p.most (length p.waiting) (shown_all cs m) (drop (length p.waiting) z)) (ap (λ z. z ++ w) (taken cs m) ∙ all)
    ∙ ap (steps_in p.most (length p.waiting) (shown_all cs m)) (drop-append_seam p.waiting (entered (steps_all cs m)))
    ∙ shows cs m

-- the trace that a row shows is the trace of its calls
pub row_trace : (ls : SheetLines) → Keeps ls → (p : PortState) (cs : List Call) (xs : List Shown) (n : Machine) → xs ≡ shown_all cs (fresh_machine ls p) → n ≡ after_all cs (fresh_machine ls p)
    → trace_in p.most p.waiting xs n.port.waiting ≡ steps_all cs (fresh_machine ls p)
row_trace ls keeps p cs xs n e f = (λ t. trace_in p.most p.waiting (e t) (f t).port.waiting) ∙ determined ls keeps p cs

-- the laws stand of the trace that a row shows
pub row_stands : (ls : SheetLines) → Keeps ls → (p : PortState) (cs : List Call) (xs : List Shown) (n : Machine) (said : Bool) → xs ≡ shown_all cs (fresh_machine ls p) → n ≡ after_all cs (fresh_machine ls p) → said ≡ going n.net
    → StandsFrom ls p.waiting (trace_in p.most p.waiting xs n.port.waiting) n.port.waiting said
row_stands ls keeps p cs xs n said e f g =
    let m : Machine = fresh_machine ls p in
    let tr : List Step = trace_in p.most p.waiting xs n.port.waiting in
    let led : LeadsFrom ls p tr n = subst (λ t. LeadsFrom ls p t n) (sym (row_trace ls keeps p cs xs n e f)) (subst (LeadsFrom ls p (steps_all cs m)) (sym f) (leads_all ls p cs [] m fresh)) in
    subst (StandsFrom ls p.waiting tr n.port.waiting) (sym g) (laws_from_port ls keeps p tr n led)
