-- Rows of calls: what the caller of a row sees, and the trace that this shows.
use Rattle.std.specs.Prelude.{◌≡◌, ℕ, ◌+◌, ◌-◌, List, [], ◌∷◌, ◌++◌, length, drop, Some, None, Ok, Err, Option, Result, nat_lt}
use Rattle.std.specs.Option.{option_map}
use Rattle.frames.specs.Contents.{Content, content_of}
use Rattle.sheet.specs.Format.{SheetLines}
use Rattle.sheet.specs.Rules.{Keeps}
use Rattle.master.specs.Calls.{number_of}
use Rattle.master.specs.Masters.{use_of, called, worked_by}
use Rattle.master.specs.Network.{heard_by}
use Rattle.master.specs.FromPort.{fresh_machine}
use Rattle.master.specs.Session.{PortState, Machine, placed, idle, refused, Step, hears, passes, works, takes, leaves, works_on, after, step_of}
use Rattle.master.specs.declared.calls.Answer.{Answer}
use Rattle.master.specs.declared.calls.Answer.TheVariants as answer
use Rattle.master.specs.declared.calls.Call.{Call}
use Rattle.master.specs.declared.calls.Call.TheVariants as call
use Rattle.master.specs.declared.calls.Exchange.{Exchange}
use Rattle.master.specs.declared.calls.Refusal.{Refusal}
use Rattle.master.specs.declared.calls.Use.{Use}
use Rattle.master.specs.declared.calls.Worked.{Worked}
use Rattle.master.specs.declared.calls.Worked.TheVariants.{Put, NothingDue}

-- A call with its answer, its frames by their contents. An answer that is another call's is stray.
pub data Shown : Type 0 where
  heard : Content → Use → Shown
  ticked : Shown
  worked : Result Worked Refusal → Shown
  took : Option Content → Shown
  stray : Shown

abbrev pub shown_heard : Content → Answer → Shown
shown_heard f (answer.Heard u) = heard f u
shown_heard f answer.Ticked = stray
shown_heard f (answer.Worked w) = stray
shown_heard f (answer.Took o) = stray

abbrev pub shown_tick : Answer → Shown
shown_tick (answer.Heard u) = stray
shown_tick answer.Ticked = ticked
shown_tick (answer.Worked w) = stray
shown_tick (answer.Took o) = stray

abbrev pub shown_work : Answer → Shown
shown_work (answer.Heard u) = stray
shown_work answer.Ticked = stray
shown_work (answer.Worked w) = worked w
shown_work (answer.Took o) = stray

abbrev pub shown_take : Answer → Shown
shown_take (answer.Heard u) = stray
shown_take answer.Ticked = stray
shown_take (answer.Worked w) = stray
shown_take (answer.Took o) = took (option_map content_of o)

abbrev pub shown_by : Call → Answer → Shown
shown_by (call.Heard f) a = shown_heard (content_of f) a
shown_by call.Tick a = shown_tick a
shown_by call.Work a = shown_work a
shown_by call.Take a = shown_take a

abbrev pub call_of : Exchange → Call
call_of x = x.call

abbrev pub shown_of : Exchange → Shown
shown_of x = shown_by x.call x.answer

-- what a call and its answer are at a machine
abbrev pub shown_at : Call → Machine → Shown
shown_at (call.Heard f) m = heard (content_of f) (use_of (heard_by (content_of f) m.net).0)
shown_at call.Tick m = ticked
shown_at call.Work m = worked (worked_by (works_on m).0)
shown_at call.Take m = took (leaves m.port.waiting m.port).0

-- what a row of calls is seen to be, from a machine on
abbrev pub shown_all : List Call → Machine → List Shown
shown_all [] m = []
shown_all (c ∷ cs) m = shown_at c m ∷ shown_all cs (after (called c) m)

-- the machine that a row of calls leaves
abbrev pub after_all : List Call → Machine → Machine
after_all [] m = m
after_all (c ∷ cs) m = after_all cs (after (called c) m)

-- the trace of a row of calls
abbrev pub steps_all : List Call → Machine → List Step
steps_all [] m = []
steps_all (c ∷ cs) m = step_of (called c) m ∷ steps_all cs (after (called c) m)

-- The steps that a row shows, by the most that can wait in the port, how many wait, and the frames that entered. A work found a
-- free place if fewer waited than can; one that put, put the next of these frames. With none left it would count as idle, and a stray
-- answer as nothing: neither arises in a row that was run (`RowDetermined`).
abbrev pub steps_in : ℕ → ℕ → List Shown → List Content → List Step
steps_in most n [] fs = []
steps_in most n (heard f u ∷ xs) fs = hears f ∷ steps_in most n xs fs
steps_in most n (ticked ∷ xs) fs = passes ∷ steps_in most n xs fs
steps_in most n (worked (Ok Put) ∷ xs) [] = works (nat_lt n most) idle ∷ steps_in most n xs []
steps_in most n (worked (Ok Put) ∷ xs) (f ∷ fs) = works (nat_lt n most) (placed f) ∷ steps_in most (n + 1) xs fs
steps_in most n (worked (Ok NothingDue) ∷ xs) fs = works (nat_lt n most) idle ∷ steps_in most n xs fs
steps_in most n (worked (Err r) ∷ xs) fs = works (nat_lt n most) (refused (number_of r)) ∷ steps_in most n xs fs
steps_in most n (took None ∷ xs) fs = takes None ∷ steps_in most n xs fs
steps_in most n (took (Some f) ∷ xs) fs = takes (Some f) ∷ steps_in most (n - 1) xs fs
steps_in most n (stray ∷ xs) fs = steps_in most n xs fs

abbrev pub taken_in : List Shown → List Content
taken_in [] = []
taken_in (heard f u ∷ xs) = taken_in xs
taken_in (ticked ∷ xs) = taken_in xs
taken_in (worked w ∷ xs) = taken_in xs
taken_in (took None ∷ xs) = taken_in xs
taken_in (took (Some f) ∷ xs) = f ∷ taken_in xs
taken_in (stray ∷ xs) = taken_in xs

-- The trace that a row shows: of the frames that left and those that wait, the ones that did not wait at first are those that
-- entered.
abbrev pub trace_in : ℕ → List Content → List Shown → List Content → List Step
trace_in most first xs waiting = steps_in most (length first) xs (drop (length first) (taken_in xs ++ waiting))

-- The trace, and with it the bus record, is a function of how many can wait in the port, the frames that waited at first, and what the
-- caller of a row sees: the calls, their answers, the frames taken among them, and the frames that wait in the end.
abbrev pub RowDetermined : Type 0
RowDetermined = (ls : SheetLines) → Keeps ls → (p : PortState) (cs : List Call)
    → trace_in p.most p.waiting (shown_all cs (fresh_machine ls p)) (after_all cs (fresh_machine ls p)).port.waiting ≡ steps_all cs (fresh_machine ls p)
