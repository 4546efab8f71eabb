-- No call changes the sheet.
use Rattle.std.proofs.Common.{◌≡◌, ◌+◌, ◌%◌, min, Bool, false, List, [], ◌∷◌, Some, None, Option, refl, ◌∙◌}
use Rattle.frames.specs.Contents.{Content}
use Rattle.frames.specs.Lists.{accepts}
use Rattle.sheet.specs.Format.{SlaveLines, SheetLines}
use Rattle.master.specs.Network.{State, is_running, is_halted, slave_by, step_in, tick_from, ticked, with_clock, input_at, taken_by, heard_at, heard_by, planned, plan_content, carried_out}
use Rattle.master.specs.FromPort.{LeadsFrom, fresh, then}
use Rattle.master.specs.Session.{PortState, Machine, Call, hear, pass, work, take, Worked, Step, placing, after}
use Rattle.master.specs.declared.types.Input.{Input}
use Rattle.master.specs.declared.types.Input.TheVariants as input
use Rattle.master.specs.declared.types.Plan.{Plan}
use Rattle.master.specs.declared.types.Plan.TheVariants as plan
use Rattle.master.proofs.Choosing.{choose}
use Rattle.master.proofs.Ticking.{step_lines}

tick_lines : (cs : List SlaveLines) (s : State) → (tick_from cs s).lines ≡ s.lines
tick_lines [] s = refl
tick_lines (c ∷ cs) s =
    choose (λ (u : State). u.lines ≡ s.lines) (is_running (step_in c input.Tick s).phase) (tick_from cs (step_in c input.Tick s)) (step_in c input.Tick s) (tick_lines cs (step_in c input.Tick s) ∙ step_lines c input.Tick s) (step_lines c input.Tick s)

ticked_lines : (s : State) → (ticked s).lines ≡ s.lines
ticked_lines s =
    let v : State = with_clock (min (s.clock + 1) 4294967295) s in
    choose (λ (u : State). u.lines ≡ s.lines) (is_running s.phase) (tick_from s.lines.slaves v) s (tick_lines s.lines.slaves v) refl

taken_lines : (c : SlaveLines) (o : Option Input) (s : State) → (taken_by c o s).1.lines ≡ s.lines
taken_lines c None s = refl
taken_lines c (Some i) s = step_lines c i s

at_lines : (f : Content) (o : Option SlaveLines) (s : State) → (heard_at f o s).1.lines ≡ s.lines
at_lines f None s = refl
at_lines f (Some c) s = taken_lines c (input_at s c f) s

heard_lines : (f : Content) (s : State) → (heard_by f s).1.lines ≡ s.lines
heard_lines f s = choose (λ (u : Bool × State). u.1.lines ≡ s.lines) (is_running s.phase) (heard_at f (slave_by (f.id % 128) s.lines.slaves) s) (false, s) (at_lines f (slave_by (f.id % 128) s.lines.slaves) s) refl

carried_lines : (p : Plan) (s : State) → (carried_out p s).lines ≡ s.lines
carried_lines plan.Nothing s = refl
carried_lines plan.Stop s = refl
carried_lines (plan.ResetAll r) s = refl
carried_lines (plan.ResetOne r n) s = refl
carried_lines (plan.Serve n d) s = refl
carried_lines (plan.StartAll n) s = refl

abbrev Same : Machine → Worked × Machine → Type 0
Same m x = x.1.net.lines ≡ m.net.lines

placing_lines : (o : Option Content) (m : Machine) → Same m (placing o m)
placing_lines None m = refl
placing_lines (Some f) m = choose (Same m) (accepts m.port.most m.port.waiting) _ _ (carried_lines (planned m.net) m.net) refl

call_lines : (c : Call) (m : Machine) → (after c m).net.lines ≡ m.net.lines
call_lines (hear f) m = heard_lines f m.net
call_lines pass m = ticked_lines m.net
call_lines work m = choose (Same m) (is_halted m.net.phase) _ _ refl (placing_lines (plan_content m.net.lines.slaves (planned m.net)) m)
call_lines take m = refl

pub same_lines : (ls : SheetLines) (p : PortState) (tr : List Step) (m : Machine) → LeadsFrom ls p tr m → m.net.lines ≡ ls
same_lines ls p tr m fresh = refl
same_lines ls p tr m (then u v g c) = call_lines c v ∙ same_lines ls p u v g
