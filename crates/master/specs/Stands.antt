-- The laws of a session, in the subject's words: over the trace, the bus record that it determines, the port's list and the sheet.
use Rattle.std.specs.Prelude.{◌≡◌, ℕ, ◌<◌, Bool, true, List, [], ◌∷◌, ◌++◌, length, Some, Option}
use Rattle.frames.specs.Contents.{Content}
use Rattle.frames.specs.Nmt.{nmt_in}
use Rattle.frames.specs.declared.nmt.Command.TheVariants as command
use Rattle.frames.specs.declared.nmt.NmtMessage.{NmtMessage}
use Rattle.sheet.specs.Format.{SlaveLines, SheetLines}
use Rattle.sheet.specs.Rules.{Keeps}
use Rattle.master.specs.Network.{slave_by, going}
use Rattle.master.specs.Record.{Event, heard, tick, put, reading, all_cleared, has_passed, is_owed, is_reset, MayStart, MayReset}
use Rattle.master.specs.Session.{Machine, Worked, placed, idle, refused, Step, hears, passes, works, takes, record_of, left, entered, free_works, StartIn, Leads}

pub record Stands (ls : SheetLines) (tr : List Step) (waiting : List Content) (said : Bool) : Type 0 where
  -- The master says Go exactly when the number of listed slaves equals the number of them that the record clears.
  pub go : said ≡ all_cleared ls (record_of tr)
  -- Wherever a start is put, all are cleared by the record before it, and every slave that it names or covers has passed.
  pub starts : (before behind : List Event) (f : Content) (m : NmtMessage) → record_of tr ≡ before ++ put f ∷ behind → nmt_in f ≡ Some m → m.command ≡ command.Start → MayStart ls before m
  -- Wherever a reset is put, no keep-alive slave that it names or covers has silence or Operational as its last word.
  pub resets : (before behind : List Event) (f : Content) (m : NmtMessage) → record_of tr ≡ before ++ put f ∷ behind → nmt_in f ≡ Some m → is_reset m.command ≡ true → MayReset ls before m
  -- The frames that left, followed by those that wait, are those that entered.
  pub order : left tr ++ waiting ≡ entered tr
  -- A listed slave that is owed its start gets it in as many works that find a free place as there are slaves, if up to the last of
  -- them all stay cleared and the slave stays passed.
  pub turn : (pre seg post : List Step) (c : SlaveLines) → tr ≡ pre ++ (seg ++ post) → slave_by c.node ls.slaves ≡ Some c → is_owed ls c (record_of pre) ≡ true → free_works seg ≡ length ls.slaves
      → ((s1 s2 : List Step) → seg ≡ s1 ++ s2 → 0 < free_works s2 → (all_cleared ls (record_of (pre ++ s1)) ≡ true) × (has_passed (reading ls c (record_of (pre ++ s1))).at ≡ true))
      → StartIn ls c seg

-- What the caller sees of a step: of a work that put, not which frame.
pub data Said : Type 0 where
  put_one : Said
  nothing : Said
  refused_by : ℕ → Said

pub data Seen : Type 0 where
  heard_it : Content → Seen
  ticked_on : Seen
  worked : Bool → Said → Seen
  took : Option Content → Seen

abbrev pub said_of : Worked → Said
said_of (placed f) = put_one
said_of idle = nothing
said_of (refused n) = refused_by n

abbrev pub seen_of : Step → Seen
seen_of (hears f) = heard_it f
seen_of passes = ticked_on
seen_of (works room w) = worked room (said_of w)
seen_of (takes o) = took o

abbrev pub seen_all : List Step → List Seen
seen_all [] = []
seen_all (x ∷ xs) = seen_of x ∷ seen_all xs

-- the record made up again from what was seen: each work that put, put the next of these frames
abbrev pub record_from : List Seen → List Content → List Event
record_from [] fs = []
record_from (heard_it f ∷ xs) fs = heard f ∷ record_from xs fs
record_from (ticked_on ∷ xs) fs = tick ∷ record_from xs fs
record_from (worked room put_one ∷ xs) [] = record_from xs []
record_from (worked room put_one ∷ xs) (f ∷ fs) = put f ∷ record_from xs fs
record_from (worked room nothing ∷ xs) fs = record_from xs fs
record_from (worked room (refused_by n) ∷ xs) fs = record_from xs fs
record_from (took o ∷ xs) fs = record_from xs fs

-- The record is a function of what the caller sees: the calls, their answers, the frames taken, and the frames waiting.
abbrev pub Determined : List Step → List Content → Type 0
Determined tr waiting = record_of tr ≡ record_from (seen_all tr) (left tr ++ waiting)

-- After every row of calls, for every sheet and every port meaning.
abbrev pub SessionLaws : Type 0
SessionLaws = (ls : SheetLines) → Keeps ls → (tr : List Step) (m : Machine) → Leads ls tr m → Stands ls tr m.port.waiting (going m.net) × Determined tr m.port.waiting
