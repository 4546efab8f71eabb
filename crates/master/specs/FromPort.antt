-- Sessions of a master whose port may hold frames already when it is made, and what each call of a master owes them.
use Rattle.std.specs.Prelude.{◌≡◌, ◌<◌, Bool, true, List, [], ◌∷◌, ◌++◌, length, Some}
use Rattle.frames.specs.Contents.{Content}
use Rattle.frames.specs.Nmt.{nmt_in}
use Rattle.frames.specs.declared.nmt.Command.TheVariants as command
use Rattle.frames.specs.declared.nmt.NmtMessage.{NmtMessage}
use Rattle.sheet.specs.Format.{SlaveLines, SheetLines}
use Rattle.sheet.specs.Rules.{Keeps}
use Rattle.master.specs.Network.{fresh_state, slave_by, going}
use Rattle.master.specs.Record.{Event, put, reading, all_cleared, has_passed, is_owed, is_reset, MayStart, MayReset}
use Rattle.master.specs.Session.{PortState, Machine, Call, Step, after, step_of, record_of, left, entered, free_works, StartIn}

abbrev pub fresh_machine : SheetLines → PortState → Machine
fresh_machine ls p = record { net = fresh_state ls; port = p }

-- A trace leads a fresh master and the port that it was given to a machine.
pub data LeadsFrom (ls : SheetLines) (p : PortState) : List Step → Machine → Type 0 where
  fresh : LeadsFrom ls p [] (fresh_machine ls p)
  then : (tr : List Step) (m : Machine) → LeadsFrom ls p tr m → (c : Call) → LeadsFrom ls p (tr ++ step_of c m ∷ []) (after c m)

-- The laws of a master with the sheet's lines ls, whose port held the frames `first` when it was made: after the trace tr, with these
-- frames waiting, and this said of Go. Where it held none they are those of `Stands`.
pub record StandsFrom (ls : SheetLines) (first : List Content) (tr : List Step) (waiting : List Content) (said : Bool) : Type 0 where
  -- The master says Go exactly when the number of listed slaves equals the number of them that the record clears.
  pub go : said ≡ all_cleared ls (record_of tr)
  -- Wherever a start is put, all are cleared by the record before it, and every slave that it names or covers has passed.
  pub starts : (before behind : List Event) (f : Content) (m : NmtMessage) → record_of tr ≡ before ++ put f ∷ behind → nmt_in f ≡ Some m → m.command ≡ command.Start → MayStart ls before m
  -- Wherever a reset is put, no keep-alive slave that it names or covers has silence or Operational as its last word by
  -- the record before it.
  pub resets : (before behind : List Event) (f : Content) (m : NmtMessage) → record_of tr ≡ before ++ put f ∷ behind → nmt_in f ≡ Some m → is_reset m.command ≡ true → MayReset ls before m
  -- The frames that left, followed by those that wait, are those that waited at first, followed by those that entered.
  pub order : left tr ++ waiting ≡ first ++ entered tr
  -- A listed slave that is owed its start gets it in as many works that find a free place as there are slaves, if up to the last of
  -- them all stay cleared and the slave stays passed.
  pub turn : (pre seg post : List Step) (c : SlaveLines) → tr ≡ pre ++ (seg ++ post) → slave_by c.node ls.slaves ≡ Some c → is_owed ls c (record_of pre) ≡ true → free_works seg ≡ length ls.slaves
      → ((s1 s2 : List Step) → seg ≡ s1 ++ s2 → 0 < free_works s2 → (all_cleared ls (record_of (pre ++ s1)) ≡ true) × (has_passed (reading ls c (record_of (pre ++ s1))).at ≡ true))
      → StartIn ls c seg

-- For every sheet that keeps its rules and every port, whatever it held when the master was made: the laws stand of every trace that
-- leads a fresh master to a machine.
abbrev pub LawsFromPort : Type 0
LawsFromPort = (ls : SheetLines) → Keeps ls → (p : PortState) (tr : List Step) (m : Machine) → LeadsFrom ls p tr m → StandsFrom ls p.waiting tr m.port.waiting (going m.net)

-- What a call owes a session: whatever trace led a fresh master and its port to the machine m, with these steps it leads to the
-- machine n, and the laws stand of it.
abbrev pub Carries : Machine → List Step → Machine → Type 0
Carries m xs n = (ls : SheetLines) (p : PortState) (tr : List Step) → LeadsFrom ls p tr m → LeadsFrom ls p (tr ++ xs) n × StandsFrom ls p.waiting (tr ++ xs) n.port.waiting (going n.net)

-- What an answer to the question of Go owes a session: the laws stand, with what was said, of whatever trace led to the machine m.
abbrev pub Tells : Machine → Bool → Type 0
Tells m said = (ls : SheetLines) (p : PortState) (tr : List Step) → LeadsFrom ls p tr m → StandsFrom ls p.waiting tr m.port.waiting said
