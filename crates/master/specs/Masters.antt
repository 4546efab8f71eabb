-- A master and its port as the machine that they stand for, and what its public calls answer and leave.
use Rattle.std.specs.Prelude.{ℕ, Bool, true, false, cond, ◌&&◌, List, [], ◌∷◌, map, length, Ok, Err, Option, Result, ◌==◌, nat_le}
use Rattle.frames.specs.Contents.{Content, content_of}
use Rattle.ports.specs.declared.port.Port.{Ghosts}
use Rattle.sheet.specs.Sheets.{lines_of}
use Rattle.sheet.specs.declared.model.sheet.Sheet.{Sheet}
use Rattle.master.specs.FromPort.{fresh_machine}
use Rattle.master.specs.Network.{State, heard_by, result_of}
use Rattle.master.specs.Session.{PortState, Machine, with_net, Call, hear, pass, work, take, placed, idle, refused, Step, hears}
use Rattle.master.specs.Session.{Worked as Outcome}
use Rattle.master.specs.Views.{view}
use Rattle.master.specs.declared.calls.Call.{Call as Made}
use Rattle.master.specs.declared.calls.Call.TheVariants as call
use Rattle.master.specs.declared.calls.Refusal.{Refusal}
use Rattle.master.specs.declared.calls.Refusal.TheVariants as refusal
use Rattle.master.specs.declared.calls.Use.{Use}
use Rattle.master.specs.declared.calls.Use.TheVariants.{Used, Unused}
use Rattle.master.specs.declared.calls.Worked.{Worked}
use Rattle.master.specs.declared.calls.Worked.TheVariants.{Put, NothingDue}
use Rattle.master.specs.declared.nmt_master.Master.{Master}
use Rattle.master.specs.declared.types.Letter.{Letter}

-- A port by its four parts: what waits in it, how many can, the gap and the pause. Frames stand by their contents.
abbrev pub port_by : {P : Type 0} → Ghosts P → P → PortState
port_by is p = record { waiting = map content_of (is.waiting p); most = is.most p; gap = is.gap p; pause = is.pause p }

-- A master with its port as a plain value. The hints of where a slave stands on the sheet are no part of it.
abbrev pub machine_by : {P : Type 0} → Ghosts P → Master P → Machine
machine_by is m = record { net = view m.net; port = port_by is m.port }

-- A fresh master of a sheet and a port, whatever waits in it.
abbrev pub begun : {P : Type 0} → Ghosts P → Sheet → P → Machine
begun is s p = fresh_machine (lines_of s) (port_by is p)

-- A frame has an identifier up to 2047 and up to 8 bytes.
abbrev pub is_frame : ℕ → List ℕ → Bool
is_frame id bs = nat_le id 2047 && nat_le (length bs) 8

abbrev pub content_by : ℕ → List ℕ → Content
content_by id bs = record { id = id; bytes = bs }

abbrev pub use_of : Bool → Use
use_of true = Used
use_of false = Unused

-- What a frame heard answers and leaves: 11 and no change for what is no frame.
abbrev pub hearing : ℕ → List ℕ → Machine → Result Use Refusal × Machine
hearing id bs m =
    cond (is_frame id bs)
    (Ok (use_of (heard_by (content_by id bs) m.net).0), with_net (heard_by (content_by id bs) m.net).1 m)
    (Err refusal.NoFrame, m)

-- What it adds to the trace: nothing if it is refused.
abbrev pub hearing_steps : ℕ → List ℕ → List Step
hearing_steps id bs = cond (is_frame id bs) (hears (content_by id bs) ∷ []) []

-- a call that is made, as a session names it
abbrev pub called : Made → Call
called (call.Heard f) = hear (content_of f)
called call.Tick = pass
called call.Work = work
called call.Take = take

-- the refusal of a work that has this number, 12 or 13
abbrev pub refusal_by : ℕ → Refusal
refusal_by n = cond (n == 12) refusal.Halted refusal.NoRoom

-- what a work answers by what it does
abbrev pub worked_by : Outcome → Result Worked Refusal
worked_by (placed f) = Ok Put
worked_by idle = Ok NothingDue
worked_by (refused n) = Err (refusal_by n)

-- The result of a node; 10 for one that is 0 or above 127.
abbrev pub asked : ℕ → State → Result (Option Letter) Refusal
asked n s = cond (nat_le 1 n && nat_le n 127) (Ok (result_of n s)) (Err refusal.NoNode)
