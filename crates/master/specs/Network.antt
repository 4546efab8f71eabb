-- The state of a master without its port, and what the calls make of it.
use Rattle.std.specs.Prelude.{ℕ, zero, suc, ◌+◌, ◌-◌, ◌%◌, min, Bool, true, false, cond, not, ◌&&◌, ◌||◌, List, [], ◌∷◌, length, take, drop, replicate, Some, None, count_by, Option, ◌==◌, nat_le, nat_lt}
use Rattle.std.specs.Option.{option_map}
use Rattle.frames.specs.Contents.{Content}
use Rattle.frames.specs.Nmt.{nmt_content}
use Rattle.frames.specs.Sdo.{request_content, reply_in}
use Rattle.frames.specs.Signs.{sign_in}
use Rattle.frames.specs.declared.error_control.Sign.{Sign}
use Rattle.frames.specs.declared.nmt.Command.{Command}
use Rattle.frames.specs.declared.nmt.Command.TheVariants as command
use Rattle.sheet.specs.Format.{SlaveLines, SheetLines}
use Rattle.master.specs.Checks.{request_of}
use Rattle.master.specs.Step.{stepped, is_passed, is_cleared, is_spared, duty_of}
use Rattle.master.specs.Table.{fresh, entry_of, changed, applied, applied_all}
use Rattle.master.specs.declared.types.Setback.{Setback}
use Rattle.master.specs.declared.types.Setback.TheVariants as setback
use Rattle.master.specs.declared.types.Change.{Change}
use Rattle.master.specs.declared.types.Change.TheVariants as change
use Rattle.master.specs.declared.types.Duty.{Duty}
use Rattle.master.specs.declared.types.Duty.TheVariants as duty
use Rattle.master.specs.declared.types.Entry.{Entry}
use Rattle.master.specs.declared.types.Input.{Input}
use Rattle.master.specs.declared.types.Input.TheVariants as input
use Rattle.master.specs.declared.types.Letter.{Letter}
use Rattle.master.specs.declared.types.Letter.TheVariants as letter
use Rattle.master.specs.declared.types.Phase.{Phase}
use Rattle.master.specs.declared.types.Phase.TheVariants.{Running, StopDue, Halted}
use Rattle.master.specs.declared.types.Plan.{Plan}
use Rattle.master.specs.declared.types.Plan.TheVariants as plan
use Rattle.master.specs.declared.types.Quality.{Quality}
use Rattle.master.specs.declared.types.Quality.TheVariants as quality
use Rattle.master.specs.declared.types.ResetKind.{ResetKind}
use Rattle.master.specs.declared.types.ResetKind.TheVariants as reset
use Rattle.master.specs.declared.types.Stage.{Stage}
use Rattle.master.specs.declared.types.Stage.TheVariants.{AwaitBoot, Ask, Asked, ListenState, ListenControl, Passed, Retry, ResetDue}
use Rattle.master.specs.declared.types.Sweep.{Sweep}
use Rattle.master.specs.declared.types.Sweep.TheVariants.{Begun, Singles}

-- What the master knows: the sheet's lines, the entries of all nodes, the sweep, the node that was served last, whether
-- a start was put, the ticks since the session began, and whether it runs, has a stop due or is halted.
pub record State : Type 0 where
  pub lines : SheetLines
  pub entries : List Entry
  pub sweep : Option Sweep
  pub last : ℕ
  pub started : Bool
  pub clock : ℕ
  pub phase : Phase

-- A fresh master: the keep-alive slaves begin at check 1, and a sweep 82h is begun.
abbrev pub fresh_state : SheetLines → State
fresh_state ls = record {
  lines = ls;
  entries = applied_all change.Begin ls.slaves (replicate 127 fresh);
  sweep = Some (Begun reset.Communication);
  last = 0;
  started = false;
  clock = 0;
  phase = Running;
}

abbrev pub is_running : Phase → Bool
is_running Running = true
is_running StopDue = false
is_running Halted = false

abbrev pub is_halted : Phase → Bool
is_halted Running = false
is_halted StopDue = false
is_halted Halted = true

-- the listed slave of a node
abbrev pub slave_by : ℕ → List SlaveLines → Option SlaveLines
slave_by n [] = None
slave_by n (c ∷ cs) = cond (c.node == n) (Some c) (slave_by n cs)

abbrev pub holds : Quality → List Entry → ℕ → SlaveLines → Bool
holds quality.Cleared t last c = is_cleared c (entry_of t c)
holds quality.Passed t last c = is_passed (entry_of t c).stage
holds quality.Spared t last c = is_spared c (entry_of t c)
holds quality.Served t last c = nat_le c.node last

-- how many of these slaves have a quality
abbrev pub count_in : Quality → List Entry → ℕ → List SlaveLines → ℕ
count_in q t last cs = count_by (holds q t last) cs

abbrev pub counted : Quality → State → ℕ
counted q s = count_in q s.entries s.last s.lines.slaves

-- Go: as many slaves are cleared as are listed.
abbrev pub going : State → Bool
going s = counted quality.Cleared s == length s.lines.slaves

abbrev pub letter_at : List Entry → Option SlaveLines → Option Letter
letter_at t None = Some letter.NotListed
letter_at t (Some c) = (entry_of t c).result

-- The result of a node: A if the sheet does not list it.
abbrev pub result_of : ℕ → State → Option Letter
result_of n s = letter_at s.entries (slave_by n s.lines.slaves)

abbrev pub with_entries : List Entry → State → State
with_entries t s = record { lines = s.lines; entries = t; sweep = s.sweep; last = s.last; started = s.started; clock = s.clock; phase = s.phase }

abbrev pub with_sweep : Option Sweep → State → State
with_sweep w s = record { lines = s.lines; entries = s.entries; sweep = w; last = s.last; started = s.started; clock = s.clock; phase = s.phase }

abbrev pub with_phase : Phase → State → State
with_phase p s = record { lines = s.lines; entries = s.entries; sweep = s.sweep; last = s.last; started = s.started; clock = s.clock; phase = p }

abbrev pub with_clock : ℕ → State → State
with_clock n s = record { lines = s.lines; entries = s.entries; sweep = s.sweep; last = s.last; started = s.started; clock = n; phase = s.phase }

abbrev pub is_no_answer : Letter → Bool
is_no_answer letter.NotListed = false
is_no_answer letter.NoAnswer = true
is_no_answer letter.OtherType = false
is_no_answer letter.OtherVendor = false
is_no_answer letter.NoHeartbeat = false
is_no_answer letter.NotSet = false
is_no_answer letter.NoControl = false
is_no_answer letter.FoundRunning = false
is_no_answer letter.OtherProduct = false
is_no_answer letter.OtherRevision = false
is_no_answer letter.OtherSerial = false
is_no_answer letter.Ready = false

-- A mandatory slave with B tries anew if boottime is 0 or not exceeded.
abbrev pub tries_anew : Letter → State → Bool
tries_anew l s = is_no_answer l && (s.lines.boottime == 0 || nat_le s.clock s.lines.boottime)

-- What a mandatory slave's step brings the whole: another missed check halts the master; its loss makes the stop due with
-- stopall, else begins a sweep 81h with resetall.
abbrev pub brought_by : Option Setback → State → State
brought_by None s = s
brought_by (Some (setback.Missed l)) s = cond (tries_anew l s) s (with_phase Halted s)
brought_by (Some setback.Lost) s = cond s.lines.stopall (with_phase StopDue s) (cond s.lines.resetall (with_sweep (Some (Begun reset.Node)) s) s)

-- An optional slave brings nothing.
abbrev pub brings : Bool → Option Setback → State → State
brings mandatory b s = cond mandatory (brought_by b s) s

-- a step of one slave, and what it brings
abbrev pub step_in : SlaveLines → Input → State → State
step_in c i s =
    brings c.mandatory (stepped c (entry_of s.entries c) i).brought
    (with_entries (changed s.entries c (stepped c (entry_of s.entries c) i).entry) s)

-- the slaves' ticks upward; those after one that brings a stop or a halt are untouched
abbrev pub tick_from : List SlaveLines → State → State
tick_from [] s = s
tick_from (c ∷ cs) s = cond (is_running (step_in c input.Tick s).phase) (tick_from cs (step_in c input.Tick s)) (step_in c input.Tick s)

-- A tick counts, up to 4294967295, and handles the slaves, unless a stop is due or the master is halted.
abbrev pub ticked : State → State
ticked s = cond (is_running s.phase) (tick_from s.lines.slaves (with_clock (min (s.clock + 1) 4294967295) s)) s

-- the answer that a frame is to the open request of a check, if it fits
abbrev pub answer_to : SlaveLines → Stage → Content → Option Input
answer_to c (AwaitBoot left) f = None
answer_to c (Ask k) f = None
answer_to c (Asked k left) f = option_map (λ r. input.Replied r) (reply_in (request_of c k) f)
answer_to c (ListenState left) f = None
answer_to c (ListenControl left running) f = None
answer_to c (Passed running started left) f = None
answer_to c (Retry left) f = None
answer_to c (ResetDue kind) f = None

abbrev pub sign_or : Option Sign → Option Input → Option Input
sign_or None i = i
sign_or (Some s) i = Some (input.Heard s)

-- what a frame is to a slave: a boot-up or heartbeat, or an answer that fits
abbrev pub input_of : SlaveLines → Stage → Content → Option Input
input_of c stage f = sign_or (sign_in f c.node) (answer_to c stage f)

abbrev pub input_at : State → SlaveLines → Content → Option Input
input_at s c f = input_of c (entry_of s.entries c).stage f

abbrev pub taken_by : SlaveLines → Option Input → State → Bool × State
taken_by c None s = (false, s)
taken_by c (Some i) s = (true, step_in c i s)

abbrev pub heard_at : Content → Option SlaveLines → State → Bool × State
heard_at f None s = (false, s)
heard_at f (Some c) s = taken_by c (input_at s c f) s

-- A frame heard: whether it was used, and the state then. It is used if it is a boot-up or heartbeat of a listed slave
-- or a fitting answer, unless a stop is due or the master is halted.
abbrev pub heard_by : Content → State → Bool × State
heard_by f s = cond (is_running s.phase) (heard_at f (slave_by (f.id % 128) s.lines.slaves) s) (false, s)

abbrev pub spared_at : List Entry → Option SlaveLines → Bool
spared_at t None = false
spared_at t (Some c) = is_spared c (entry_of t c)

-- whether a single reset goes to a node: it is neither own nor a spared slave's
abbrev pub sweeps_to : State → ℕ → Bool
sweeps_to s n = not (n == s.lines.own) && not (spared_at s.entries (slave_by n s.lines.slaves))

-- the first of the next k nodes after n that a single reset goes to
abbrev pub single_after : State → ℕ → ℕ → Option ℕ
single_after s zero n = None
single_after s (suc k) n = cond (sweeps_to s (n + 1)) (Some (n + 1)) (single_after s k (n + 1))

abbrev pub due_or : SlaveLines → Option Duty → Option (ℕ × Duty) → Option (ℕ × Duty)
due_or c None r = r
due_or c (Some d) r = Some (c.node, d)

-- the first slave of a list that is owed something, by its node, and what
abbrev pub first_due : Bool → List Entry → List SlaveLines → Option (ℕ × Duty)
first_due go t [] = None
first_due go t (c ∷ cs) = due_or c (duty_of go (entry_of t c).stage) (first_due go t cs)

abbrev pub or_else : {X : Type 0} → Option X → Option X → Option X
or_else None y = y
or_else (Some x) y = Some x

-- the next slave upward after the one last served, wrapping
abbrev pub next_due : State → Option (ℕ × Duty)
next_due s =
    or_else (first_due (going s) s.entries (drop (counted quality.Served s) s.lines.slaves))
    (first_due (going s) s.entries (take (counted quality.Served s) s.lines.slaves))

-- One start serves all if startall is 1, no start was put before, and all listed slaves have passed.
abbrev pub starts_all : State → Bool
starts_all s = s.lines.startall && (not s.started && counted quality.Passed s == length s.lines.slaves)

abbrev pub serve_plan : State → ℕ → Duty → Plan
serve_plan s n (duty.Reset kind) = plan.Serve n (duty.Reset kind)
serve_plan s n (duty.Request k) = plan.Serve n (duty.Request k)
serve_plan s n duty.Start = cond (starts_all s) (plan.StartAll n) (plan.Serve n duty.Start)

abbrev pub duty_plan_from : State → Option (ℕ × Duty) → Plan
duty_plan_from s None = plan.Nothing
duty_plan_from s (Some p) = serve_plan s p.0 p.1

abbrev pub duty_plan : State → Plan
duty_plan s = duty_plan_from s (next_due s)

abbrev pub single_or : ResetKind → Option ℕ → Plan → Plan
single_or c None p = p
single_or c (Some n) p = plan.ResetOne c n

-- single resets go on after the node n; with none left the duties come
abbrev pub single_plan : State → ResetKind → ℕ → Plan
single_plan s c n = single_or c (single_after s (127 - n) n) (duty_plan s)

abbrev pub sweep_plan : State → Option Sweep → Plan
sweep_plan s None = duty_plan s
sweep_plan s (Some (Begun c)) = cond (nat_lt 0 (counted quality.Spared s)) (single_plan s c 0) (plan.ResetAll c)
sweep_plan s (Some (Singles c n)) = single_plan s c n

-- A halted master's plan is never asked for: its works are refused.
abbrev pub phase_plan : State → Phase → Plan
phase_plan s Running = sweep_plan s s.sweep
phase_plan s StopDue = plan.Stop
phase_plan s Halted = sweep_plan s s.sweep

-- What a work puts: a due stop, else the sweep, else the next duty.
abbrev pub planned : State → Plan
planned s = phase_plan s s.phase

abbrev pub command_of : ResetKind → Command
command_of reset.Node = command.ResetNode
command_of reset.Communication = command.ResetCommunication

abbrev pub nmt_to : Command → ℕ → Content
nmt_to c n = nmt_content (record { command = c; node = n })

abbrev pub duty_content : List SlaveLines → ℕ → Duty → Option Content
duty_content cs n (duty.Reset k) = Some (nmt_to (command_of k) n)
duty_content cs n (duty.Request k) = option_map (λ c. request_content (request_of c k)) (slave_by n cs)
duty_content cs n duty.Start = Some (nmt_to command.Start n)

-- the frame that a plan puts
abbrev pub plan_content : List SlaveLines → Plan → Option Content
plan_content cs plan.Nothing = None
plan_content cs plan.Stop = Some (nmt_to command.Stop 0)
plan_content cs (plan.ResetAll k) = Some (nmt_to (command_of k) 0)
plan_content cs (plan.ResetOne k n) = Some (nmt_to (command_of k) n)
plan_content cs (plan.Serve n d) = duty_content cs n d
plan_content cs (plan.StartAll n) = Some (nmt_to command.Start 0)

abbrev pub applied_to : Change → Option SlaveLines → List Entry → List Entry
applied_to g None t = t
applied_to g (Some c) t = applied g t c

-- what a duty does to its slave's entry
abbrev pub change_for : ℕ → Duty → Change
change_for wait (duty.Reset kind) = change.Reset
change_for wait (duty.Request k) = change.Request wait
change_for wait duty.Start = change.Start

abbrev pub is_start : Duty → Bool
is_start (duty.Reset kind) = false
is_start (duty.Request k) = false
is_start duty.Start = true

-- the slave of node n is served: the sweep is over, and n is the node last served
abbrev pub served : ℕ → Bool → State → State
served n start s = record { lines = s.lines; entries = s.entries; sweep = None; last = n; started = s.started || start; clock = s.clock; phase = s.phase }

-- What the state is once a plan's frame is put. The stop halts; a reset to node 0 ends the sweep at once, and a single one
-- moves it on; a duty ends it, for it came since no node was left. So does a work that finds nothing due.
abbrev pub carried_out : Plan → State → State
carried_out plan.Nothing s = with_sweep None s
carried_out plan.Stop s = with_phase Halted s
carried_out (plan.ResetAll c) s = with_sweep None (with_entries (applied_all change.Reset s.lines.slaves s.entries) s)
carried_out (plan.ResetOne c n) s = with_sweep (Some (Singles c n)) (with_entries (applied_to change.Reset (slave_by n s.lines.slaves) s.entries) s)
carried_out (plan.Serve n d) s = served n (is_start d) (with_entries (applied_to (change_for s.lines.wait d) (slave_by n s.lines.slaves) s.entries) s)
carried_out (plan.StartAll n) s = served n true (with_entries (applied_all change.Start s.lines.slaves s.entries) s)
