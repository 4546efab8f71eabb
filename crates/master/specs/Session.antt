-- Rows of calls on a fresh master and its empty port, as plain values.
use Rattle.std.specs.Prelude.{◌≡◌, ℕ, ◌+◌, ◌-◌, Bool, true, cond, ◌&&◌, List, [], ◌∷◌, ◌++◌, Some, None, Option, ◌==◌, nat_lt}
use Rattle.frames.specs.Contents.{Content}
use Rattle.frames.specs.Lists.{accepts}
use Rattle.frames.specs.Nmt.{nmt_in, reaches}
use Rattle.frames.specs.declared.nmt.Command.TheVariants as command
use Rattle.frames.specs.declared.nmt.NmtMessage.{NmtMessage}
use Rattle.sheet.specs.Format.{SlaveLines, SheetLines}
use Rattle.master.specs.Network.{State, fresh_state, is_halted, heard_by, ticked, planned, plan_content, carried_out}
use Rattle.master.specs.Record.{Event, heard, tick, put}
use Rattle.master.specs.declared.types.Plan.TheVariants as plan

-- A port by its meaning: what waits, the most, the gap and the pause.
pub record PortState : Type 0 where
  pub waiting : List Content
  pub most : ℕ
  pub gap : ℕ
  pub pause : ℕ

-- a master with its port
pub record Machine : Type 0 where
  pub net : State
  pub port : PortState

abbrev pub with_net : State → Machine → Machine
with_net s m = record { net = s; port = m.port }

abbrev pub with_port : PortState → Machine → Machine
with_port p m = record { net = m.net; port = p }

-- a frame comes at the end of the list
abbrev pub enters : Content → PortState → PortState
enters f p = record { waiting = p.waiting ++ f ∷ []; most = p.most; gap = p.gap; pause = p.pause }

-- a tick: a pause above 0 is one less
abbrev pub pauses : PortState → PortState
pauses p = record { waiting = p.waiting; most = p.most; gap = p.gap; pause = p.pause - 1 }

abbrev pub is_command : Content → Bool
is_command f = f.id == 0

-- the first frame leaves, unless it is a command and the pause lasts; a command that leaves sets the pause to the gap
abbrev pub leaves : List Content → PortState → Option Content × PortState
leaves [] p = (None, p)
leaves (f ∷ fs) p =
    cond (is_command f && nat_lt 0 p.pause) (None, p)
    (Some f, record { waiting = fs; most = p.most; gap = p.gap; pause = cond (is_command f) p.gap p.pause })

pub data Call : Type 0 where
  hear : Content → Call
  pass : Call
  work : Call
  take : Call

-- What a work answers: the frame that it put; nothing is due; or its refusal, 12 for a halted master and 13 for no room.
pub data Worked : Type 0 where
  placed : Content → Worked
  idle : Worked
  refused : ℕ → Worked

-- A due frame is put if fewer wait than can, and its plan is carried out; else the work is refused and nothing changes. With nothing
-- due, a sweep that has no node left is over.
abbrev pub placing : Option Content → Machine → Worked × Machine
placing None m = (idle, with_net (carried_out plan.Nothing m.net) m)
placing (Some f) m =
    cond (accepts m.port.most m.port.waiting)
    (placed f, record { net = carried_out (planned m.net) m.net; port = enters f m.port })
    (refused 13, m)

-- One frame at most is put in the port's list. A refused work changes nothing.
abbrev pub works_on : Machine → Worked × Machine
works_on m = cond (is_halted m.net.phase) (refused 12, m) (placing (plan_content m.net.lines.slaves (planned m.net)) m)

-- A call with what it gave; of a work also whether it found a free place.
pub data Step : Type 0 where
  hears : Content → Step
  passes : Step
  works : Bool → Worked → Step
  takes : Option Content → Step

-- What a call leaves. A tick ticks the slaves and the port; a take is the port's alone.
abbrev pub after : Call → Machine → Machine
after (hear f) m = with_net (heard_by f m.net).1 m
after pass m = record { net = ticked m.net; port = pauses m.port }
after work m = (works_on m).1
after take m = with_port (leaves m.port.waiting m.port).1 m

-- what a call adds to the trace
abbrev pub step_of : Call → Machine → Step
step_of (hear f) m = hears f
step_of pass m = passes
step_of work m = works (accepts m.port.most m.port.waiting) (works_on m).0
step_of take m = takes (leaves m.port.waiting m.port).0

abbrev pub put_by : Worked → List Content
put_by (placed f) = f ∷ []
put_by idle = []
put_by (refused n) = []

abbrev pub events : List Content → List Event
events [] = []
events (f ∷ fs) = put f ∷ events fs

-- what a step adds to the bus record
abbrev pub noted : Step → List Event
noted (hears f) = heard f ∷ []
noted passes = tick ∷ []
noted (works room w) = events (put_by w)
noted (takes o) = []

-- the bus record that a trace determines
abbrev pub record_of : List Step → List Event
record_of [] = []
record_of (x ∷ xs) = noted x ++ record_of xs

-- A trace leads a fresh master and its empty port to a machine.
pub data Leads (ls : SheetLines) : List Step → Machine → Type 0 where
  fresh : (p : PortState) → p.waiting ≡ [] → Leads ls [] (record { net = fresh_state ls; port = p })
  then : (tr : List Step) (m : Machine) → Leads ls tr m → (c : Call) → Leads ls (tr ++ step_of c m ∷ []) (after c m)

abbrev pub taken_of : Step → List Content
taken_of (hears f) = []
taken_of passes = []
taken_of (works room w) = []
taken_of (takes None) = []
taken_of (takes (Some f)) = f ∷ []

abbrev pub entered_of : Step → List Content
entered_of (hears f) = []
entered_of passes = []
entered_of (works room w) = put_by w
entered_of (takes o) = []

-- the frames that left, and those that entered, in their order
abbrev pub left : List Step → List Content
left [] = []
left (x ∷ xs) = taken_of x ++ left xs

abbrev pub entered : List Step → List Content
entered [] = []
entered (x ∷ xs) = entered_of x ++ entered xs

-- a work that found a free place counts one
abbrev pub free_of : Step → ℕ
free_of (hears f) = 0
free_of passes = 0
free_of (works room w) = cond room 1 0
free_of (takes o) = 0

abbrev pub free_works : List Step → ℕ
free_works [] = 0
free_works (x ∷ xs) = free_of x + free_works xs

-- a work among these steps puts a start that names or covers the slave
pub record StartIn (ls : SheetLines) (c : SlaveLines) (seg : List Step) : Type 0 where
  pub before : List Step
  pub behind : List Step
  pub frame : Content
  pub message : NmtMessage
  pub there : seg ≡ before ++ works true (placed frame) ∷ behind
  pub reads : nmt_in frame ≡ Some message
  pub start : message.command ≡ command.Start
  pub reaching : reaches message c.node ls.own ≡ true
