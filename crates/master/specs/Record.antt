-- The bus record, and how it is read. The reading uses nothing of the master's entries; both sides share the check rules.
use Rattle.std.specs.Prelude.{◌≡◌, ℕ, ◌-◌, Bool, true, false, cond, not, ◌&&◌, List, [], ◌∷◌, length, Some, None, fold, count_by, Option, ◌==◌, nat_lt, Err, Ok, Result}
use Rattle.std.specs.Str.{bytes_eq}
use Rattle.frames.specs.Contents.{Content}
use Rattle.frames.specs.Nmt.{nmt_in, reaches}
use Rattle.frames.specs.Sdo.{request_content, reply_in}
use Rattle.frames.specs.Signs.{sign_in}
use Rattle.frames.specs.declared.error_control.Sign.{Sign}
use Rattle.frames.specs.declared.error_control.Sign.TheVariants as sign
use Rattle.frames.specs.declared.nmt.Command.{Command}
use Rattle.frames.specs.declared.nmt.Command.TheVariants as command
use Rattle.frames.specs.declared.nmt.NmtMessage.{NmtMessage}
use Rattle.frames.specs.declared.sdo.Reply.{Reply}
use Rattle.sheet.specs.Format.{SlaveLines, SheetLines}
use Rattle.master.specs.Checks.{runs, request_of, verdict_of, following}
use Rattle.master.specs.declared.types.Letter.{Letter}
use Rattle.master.specs.declared.types.Check.{Check}
use Rattle.master.specs.declared.types.Check.TheVariants.{Kind}
use Rattle.master.specs.declared.types.Next.{Next}
use Rattle.master.specs.declared.types.Next.TheVariants as next
use Rattle.master.specs.declared.types.Word.{Word}
use Rattle.master.specs.declared.types.Word.TheVariants as word

-- Each frame heard, each tick, and each frame that a work put in the port's list.
pub data Event : Type 0 where
  heard : Content → Event
  tick : Event
  put : Content → Event

-- Where the record has a slave's try: none is under way; at a check whose request is still to come; at a check with its request
-- put and so many ticks left for the answer; listening at check 6 or 8 with so many ticks left; or passed, with whether it was
-- found running, whether a start was put since, and the ticks that are left for its next heartbeat.
pub data Try : Type 0 where
  none : Try
  to_ask : Check → Try
  asked : Check → ℕ → Try
  at_state : ℕ → Try
  at_control : ℕ → Bool → Try
  passed : Bool → Bool → ℕ → Try

-- What the record says of a slave: its try, whether its boot-up was heard since the last reset, its last word, and whether it ever
-- passed or missed a check.
pub record Reading : Type 0 where
  pub at : Try
  pub booted : Bool
  pub word : Word
  pub once : Bool

abbrev pub unread : Reading
unread = record { at = none; booted = false; word = word.Silence; once = false }

abbrev pub now_at : Try → Reading → Reading
now_at t r = record { at = t; booted = r.booted; word = r.word; once = r.once }

-- A check that is missed ends the try.
abbrev pub ended : Reading → Reading
ended r = record { at = none; booted = r.booted; word = r.word; once = true }

abbrev pub pass : SlaveLines → Bool → Reading → Reading
pass c running r = record { at = passed running false c.hb; booted = r.booted; word = r.word; once = true }

-- A check that is met leads to the next set or check that applies; past the last the slave has passed.
abbrev pub onward : SlaveLines → Next → Reading → Reading
onward c (next.Ask k) r = now_at (to_ask k) r
onward c next.ListenState r = now_at (at_state c.hb) r
onward c next.ListenControl r = now_at (at_control c.hb false) r
onward c next.Pass r = pass c false r

-- A heartbeat decides checks 6 and 8 and keeps a passed slave; a state that makes a reset due breaks the try.
abbrev pub beaten : SlaveLines → Sign → Try → Reading → Reading
beaten c s none r = r
beaten c s (to_ask k) r = r
beaten c s (asked k left) r = r
beaten c s (at_state left) r = now_at (cond (runs s) (at_control c.hb true) none) r
beaten c s (at_control left running) r = cond (running && not (runs s)) (now_at none r) (pass c running r)
beaten c s (passed running started left) r = now_at (passed running started c.hb) r

abbrev pub spoken : Word → Reading → Reading
spoken w r = record { at = r.at; booted = r.booted; word = w; once = r.once }

-- A boot-up breaks the try.
abbrev pub signed : SlaveLines → Sign → Reading → Reading
signed c sign.BootUp r = record { at = none; booted = true; word = word.BootUp; once = r.once }
signed c sign.Stopped r = beaten c sign.Stopped r.at (spoken word.Stopped r)
signed c sign.Operational r = beaten c sign.Operational r.at (spoken word.Operational r)
signed c sign.PreOperational r = beaten c sign.PreOperational r.at (spoken word.PreOperational r)

abbrev pub judged_by : SlaveLines → Check → Result (Unit {0}) Letter → Reading → Reading
judged_by c k (Ok u) r = onward c (following c r.booted k) r
judged_by c k (Err l) r = ended r

abbrev pub replied_by : SlaveLines → Check → Option Reply → Reading → Reading
replied_by c k None r = r
replied_by c k (Some a) r = judged_by c k (verdict_of c k a) r

-- The first fitting frame before the wait runs out decides a check.
abbrev pub answered : SlaveLines → Content → Try → Reading → Reading
answered c f none r = r
answered c f (to_ask k) r = r
answered c f (asked k left) r = replied_by c k (reply_in (request_of c k) f) r
answered c f (at_state left) r = r
answered c f (at_control left running) r = r
answered c f (passed running started left) r = r

abbrev pub heard_from : SlaveLines → Content → Option Sign → Reading → Reading
heard_from c f None r = answered c f r.at r
heard_from c f (Some s) r = signed c s r

-- The end of a wait decides a check too, and hb ticks without a heartbeat lose a passed slave.
abbrev pub waited : SlaveLines → Try → Reading → Reading
waited c none r = r
waited c (to_ask k) r = r
waited c (asked k left) r = cond (nat_lt 1 left) (now_at (asked k (left - 1)) r) (ended r)
waited c (at_state left) r = cond (nat_lt 1 left) (now_at (at_state (left - 1)) r) (ended r)
waited c (at_control left running) r = cond (nat_lt 1 left) (now_at (at_control (left - 1) running) r) (ended r)
waited c (passed running started left) r =
    cond (c.hb == 0) r
    (cond (nat_lt 1 left) (now_at (passed running started (left - 1)) r) (now_at none (spoken word.Loss r)))

abbrev pub started_at : Try → Reading → Reading
started_at none r = r
started_at (to_ask k) r = r
started_at (asked k left) r = r
started_at (at_state left) r = r
started_at (at_control left running) r = r
started_at (passed running started left) r = now_at (passed running true left) r

-- A reset that names or covers the slave breaks its try; a start is noted.
abbrev pub commanded : Command → Reading → Reading
commanded command.Start r = started_at r.at r
commanded command.Stop r = r
commanded command.ResetNode r = record { at = none; booted = false; word = word.Reset; once = r.once }
commanded command.ResetCommunication r = record { at = none; booted = false; word = word.Reset; once = r.once }

abbrev pub same_content : Content → Content → Bool
same_content f g = f.id == g.id && bytes_eq f.bytes g.bytes

abbrev pub asks_for : SlaveLines → Content → Check → Bool
asks_for c f k = same_content f (request_content (request_of c k))

-- The request that was to come begins its check's wait.
abbrev pub awaited : ℕ → SlaveLines → Content → Try → Reading → Reading
awaited wait c f none r = r
awaited wait c f (to_ask k) r = cond (asks_for c f k) (now_at (asked k wait) r) r
awaited wait c f (asked k left) r = r
awaited wait c f (at_state left) r = r
awaited wait c f (at_control left running) r = r
awaited wait c f (passed running started left) r = r

-- A read of 1000h:00 put to the slave begins a try at check 1.
abbrev pub request_read : ℕ → SlaveLines → Content → Reading → Reading
request_read wait c f r = cond (asks_for c f Kind) (now_at (asked Kind wait) r) (awaited wait c f r.at r)

-- An NMT command counts if it names or covers the slave; any other frame may be a request to it.
abbrev pub put_to : SheetLines → SlaveLines → Content → Option NmtMessage → Reading → Reading
put_to ls c f None r = request_read ls.wait c f r
put_to ls c f (Some m) r = cond (reaches m c.node ls.own) (commanded m.command r) r

-- one event more
abbrev pub read : SheetLines → SlaveLines → Reading → Event → Reading
read ls c r (heard f) = heard_from c f (sign_in f c.node) r
read ls c r tick = waited c r.at r
read ls c r (put f) = put_to ls c f (nmt_in f) r

-- what a record says of a slave
abbrev pub reading : SheetLines → SlaveLines → List Event → Reading
reading ls c h = fold (read ls c) unread h

abbrev pub has_passed : Try → Bool
has_passed none = false
has_passed (to_ask k) = false
has_passed (asked k left) = false
has_passed (at_state left) = false
has_passed (at_control left running) = false
has_passed (passed running started left) = true

-- The record clears a mandatory slave while it has passed, and an optional one from its first pass or first missed check on.
abbrev pub clears : SlaveLines → Reading → Bool
clears c r = cond c.mandatory (has_passed r.at) r.once

-- how many of the listed slaves the record clears
abbrev pub cleared : SheetLines → List Event → ℕ
cleared ls h = count_by (λ c. clears c (reading ls c h)) ls.slaves

-- the number of listed slaves equals the number of them that the record clears
abbrev pub all_cleared : SheetLines → List Event → Bool
all_cleared ls h = cleared ls h == length ls.slaves

-- passed, not found running, and no start put since
abbrev pub owes_start : Try → Bool
owes_start none = false
owes_start (to_ask k) = false
owes_start (asked k left) = false
owes_start (at_state left) = false
owes_start (at_control left running) = false
owes_start (passed running started left) = not running && not started

-- A passed slave is owed its start unless its try found it running or a start was put since the pass.
abbrev pub is_owed : SheetLines → SlaveLines → List Event → Bool
is_owed ls c h = owes_start (reading ls c h).at

-- After these last words a keep-alive slave may be running: nothing was heard or done since the session began, or Operational.
abbrev pub silent_or_running : Word → Bool
silent_or_running word.Silence = true
silent_or_running word.BootUp = false
silent_or_running word.Stopped = false
silent_or_running word.Operational = true
silent_or_running word.PreOperational = false
silent_or_running word.Reset = false
silent_or_running word.Loss = false

-- a fact of each of these slaves
abbrev pub Every : (SlaveLines → Type 0) → List SlaveLines → Type 0
Every P [] = Unit {0}
Every P (c ∷ cs) = P c × Every P cs

abbrev pub is_reset : Command → Bool
is_reset command.Start = false
is_reset command.Stop = false
is_reset command.ResetNode = true
is_reset command.ResetCommunication = true

-- A start may follow a record in which all are cleared and every slave that it reaches has passed.
pub record MayStart (ls : SheetLines) (before : List Event) (m : NmtMessage) : Type 0 where
  pub cleared : all_cleared ls before ≡ true
  pub passed : Every (λ c. reaches m c.node ls.own ≡ true → has_passed (reading ls c before).at ≡ true) ls.slaves

-- A reset may follow a record in which no keep-alive slave that it reaches has silence or Operational as its last word.
abbrev pub MayReset : SheetLines → List Event → NmtMessage → Type 0
MayReset ls before m = Every (λ c. reaches m c.node ls.own ≡ true → c.keep ≡ true → silent_or_running (reading ls c before).word ≡ false) ls.slaves

-- what a put frame asks of the record before it
pub record MayPut (ls : SheetLines) (before : List Event) (f : Content) : Type 0 where
  pub start : (m : NmtMessage) → nmt_in f ≡ Some m → m.command ≡ command.Start → MayStart ls before m
  pub reset : (m : NmtMessage) → nmt_in f ≡ Some m → is_reset m.command ≡ true → MayReset ls before m
