-- The frames that left, followed by those that wait, are those that waited at first, followed by those that entered.
use Rattle.std.proofs.Common.{◌≡◌, ◌&&◌, ltb, List, [], ◌∷◌, ◌++◌, Some, None, Option, sym, refl, ap, ◌∙◌, append_assoc, append-nil}
use Rattle.frames.specs.Contents.{Content}
use Rattle.frames.specs.Lists.{accepts}
use Rattle.sheet.specs.Format.{SheetLines}
use Rattle.master.specs.Network.{is_halted, planned, plan_content}
use Rattle.master.specs.FromPort.{LeadsFrom, fresh, then}
use Rattle.master.specs.Session.{PortState, Machine, Call, hear, pass, work, take, Worked, Step, takes, is_command, leaves, placing, after, step_of, put_by, taken_of, entered_of, left, entered}
use Rattle.master.proofs.Choosing.{choose}

left_more : (tr : List Step) (x : Step) → left (tr ++ x ∷ []) ≡ left tr ++ taken_of x
left_more [] x = append-nil (taken_of x)
left_more (y ∷ tr) x = ap (λ z. taken_of y ++ z) (left_more tr x) ∙ sym (append_assoc (taken_of y) (left tr) (taken_of x))

entered_more : (tr : List Step) (x : Step) → entered (tr ++ x ∷ []) ≡ entered tr ++ entered_of x
entered_more [] x = append-nil (entered_of x)
entered_more (y ∷ tr) x = ap (λ z. entered_of y ++ z) (entered_more tr x) ∙ sym (append_assoc (entered_of y) (entered tr) (entered_of x))

-- what a call takes from the list and adds to it
abbrev Moves : List Content → Step → List Content → Type 0
Moves before x now = taken_of x ++ now ≡ before ++ entered_of x

take_moves : (fs : List Content) (p : PortState) → p.waiting ≡ fs → Moves fs (takes (leaves fs p).0) (leaves fs p).1.waiting
take_moves [] p e = e
take_moves (f ∷ fs) p e =
    choose (λ (z : Option Content × PortState). Moves (f ∷ fs) (takes z.0) z.1.waiting) (is_command f && ltb 0 p.pause) _ _ (e ∙ sym (append-nil (f ∷ fs))) (sym (append-nil (f ∷ fs)))

abbrev Works : List Content → Worked × Machine → Type 0
Works before x = x.1.port.waiting ≡ before ++ put_by x.0

placing_moves : (o : Option Content) (m : Machine) → Works m.port.waiting (placing o m)
placing_moves None m = sym (append-nil m.port.waiting)
placing_moves (Some f) m = choose (Works m.port.waiting) (accepts m.port.most m.port.waiting) _ _ refl (sym (append-nil m.port.waiting))

call_moves : (c : Call) (m : Machine) → Moves m.port.waiting (step_of c m) (after c m).port.waiting
call_moves (hear f) m = sym (append-nil m.port.waiting)
call_moves pass m = sym (append-nil m.port.waiting)
call_moves work m = choose (Works m.port.waiting) (is_halted m.net.phase) _ _ (sym (append-nil m.port.waiting)) (placing_moves (plan_content m.net.lines.slaves (planned m.net)) m)
call_moves take m = take_moves m.port.waiting m.port refl

-- of every row of calls
pub ordered : (ls : SheetLines) {p : PortState} (tr : List Step) (m : Machine) → LeadsFrom ls p tr m → left tr ++ m.port.waiting ≡ p.waiting ++ entered tr
ordered ls {p} tr m fresh = sym (append-nil p.waiting)
ordered ls {p} tr m (then u v g c) =
    let x : Step = step_of c v in
    let w : List Content = (after c v).port.waiting in
    ap (λ z. z ++ w) (left_more u x) ∙ append_assoc (left u) (taken_of x) w ∙ ap (λ z. left u ++ z) (call_moves c v) ∙ sym (append_assoc (left u) v.port.waiting (entered_of x)) ∙ ap (λ z. z ++ entered_of x) (ordered ls u v g) ∙ append_assoc p.waiting (entered u) (entered_of x) ∙ ap (λ z. p.waiting ++ z) (sym (entered_more u x))
