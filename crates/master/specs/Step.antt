-- What is heard, a tick, and what is put make of a slave's entry.
use Rattle.std.specs.Prelude.{ℕ, ◌-◌, Bool, true, false, cond, not, ◌&&◌, Some, None, Option, ◌==◌, nat_lt, Err, Ok, Result}
use Rattle.frames.specs.declared.error_control.Sign.{Sign}
use Rattle.frames.specs.declared.error_control.Sign.TheVariants as sign
use Rattle.frames.specs.declared.sdo.Reply.{Reply}
use Rattle.sheet.specs.Format.{SlaveLines}
use Rattle.master.specs.Checks.{runs, unanswered, verdict_of, following}
use Rattle.master.specs.declared.types.Setback.TheVariants as setback
use Rattle.master.specs.declared.types.Check.{Check}
use Rattle.master.specs.declared.types.Check.TheVariants.{Kind}
use Rattle.master.specs.declared.types.Duty.{Duty}
use Rattle.master.specs.declared.types.Duty.TheVariants as duty
use Rattle.master.specs.declared.types.Entry.{Entry}
use Rattle.master.specs.declared.types.Input.{Input}
use Rattle.master.specs.declared.types.Input.TheVariants as input
use Rattle.master.specs.declared.types.Letter.{Letter}
use Rattle.master.specs.declared.types.Letter.TheVariants as letter
use Rattle.master.specs.declared.types.Next.{Next}
use Rattle.master.specs.declared.types.Next.TheVariants as next
use Rattle.master.specs.declared.types.ResetKind.TheVariants as reset
use Rattle.master.specs.declared.types.Stage.{Stage}
use Rattle.master.specs.declared.types.Stage.TheVariants.{AwaitBoot, Ask, Asked, ListenState, ListenControl, Passed, Retry, ResetDue}
use Rattle.master.specs.declared.types.Stepped.{Stepped}
use Rattle.master.specs.declared.types.Word.{Word}
use Rattle.master.specs.declared.types.Word.TheVariants as word

-- the last word that a boot-up or heartbeat gives
abbrev pub word_of : Sign → Word
word_of sign.BootUp = word.BootUp
word_of sign.Stopped = word.Stopped
word_of sign.Operational = word.Operational
word_of sign.PreOperational = word.PreOperational

abbrev pub is_boot_up : Sign → Bool
is_boot_up sign.BootUp = true
is_boot_up sign.Stopped = false
is_boot_up sign.Operational = false
is_boot_up sign.PreOperational = false

abbrev pub to : Stage → Entry → Entry
to s e = record { stage = s; word = e.word; booted = e.booted; result = e.result; once = e.once }

abbrev pub saying : Word → Entry → Entry
saying w e = record { stage = e.stage; word = w; booted = e.booted; result = e.result; once = e.once }

abbrev pub quietly : Entry → Stepped
quietly e = record { entry = e; brought = None }

-- A missed check: the letter is the result, and the slave tries anew 1000 ticks later.
abbrev pub missed_by : Letter → Entry → Stepped
missed_by l e = record {
  entry = record { stage = Retry 1000; word = e.word; booted = e.booted; result = Some l; once = true };
  brought = Some (setback.Missed l);
}

-- A loss: the result is E, and a reset of the slave is due. (With stopall the stop comes first and the master halts, so that it is never put.)
abbrev pub lost_by : Entry → Stepped
lost_by e = record {
  entry = record { stage = ResetDue reset.Node; word = word.Loss; booted = e.booted; result = Some letter.NoHeartbeat; once = e.once };
  brought = Some setback.Lost;
}

-- A pass: L if the slave was found running, else OK. From then on it is lost at hb ticks without a heartbeat.
abbrev pub passed_by : SlaveLines → Bool → Entry → Entry
passed_by c running e =
    record { stage = Passed running false c.hb; word = e.word; booted = e.booted; result = Some (cond running letter.FoundRunning letter.Ready); once = true }

abbrev pub gone_on : SlaveLines → Next → Entry → Entry
gone_on c (next.Ask k) e = to (Ask k) e
gone_on c next.ListenState e = to (ListenState c.hb) e
gone_on c next.ListenControl e = to (ListenControl c.hb false) e
gone_on c next.Pass e = passed_by c false e

-- A boot-up sends the slave to check 1 at any stage.
abbrev pub booted_by : Entry → Entry
booted_by e = record { stage = Ask Kind; word = word.BootUp; booted = true; result = None; once = e.once }

-- A heartbeat is what checks 6 and 8 listen for; it keeps a passed slave; and 05h of a keep-alive slave withdraws a
-- reset that is due. At the other stages it is only the last word.
abbrev pub on_beat : SlaveLines → Sign → Stage → Entry → Entry
on_beat c s (AwaitBoot left) e = e
on_beat c s (Ask k) e = e
on_beat c s (Asked k left) e = e
on_beat c s (ListenState left) e = to (cond (runs s) (ListenControl c.hb true) (ResetDue reset.Communication)) e
on_beat c s (ListenControl left running) e = cond (running && not (runs s)) (to (ResetDue reset.Communication) e) (passed_by c running e)
on_beat c s (Passed running started left) e = to (Passed running started c.hb) e
on_beat c s (Retry left) e = e
on_beat c s (ResetDue kind) e = cond (c.keep && runs s) (to (Ask Kind) e) e

abbrev pub on_sign : SlaveLines → Sign → Entry → Entry
on_sign c sign.BootUp e = booted_by e
on_sign c sign.Stopped e = on_beat c sign.Stopped e.stage (saying word.Stopped e)
on_sign c sign.Operational e = on_beat c sign.Operational e.stage (saying word.Operational e)
on_sign c sign.PreOperational e = on_beat c sign.PreOperational e.stage (saying word.PreOperational e)

abbrev pub decided : SlaveLines → Check → Result (Unit {0}) Letter → Entry → Stepped
decided c k (Ok u) e = quietly (gone_on c (following c e.booted k) e)
decided c k (Err l) e = missed_by l e

-- An answer decides the check whose request is open.
abbrev pub on_reply : SlaveLines → Reply → Stage → Entry → Stepped
on_reply c r (AwaitBoot left) e = quietly e
on_reply c r (Ask k) e = quietly e
on_reply c r (Asked k left) e = decided c k (verdict_of c k r) e
on_reply c r (ListenState left) e = quietly e
on_reply c r (ListenControl left running) e = quietly e
on_reply c r (Passed running started left) e = quietly e
on_reply c r (Retry left) e = quietly e
on_reply c r (ResetDue kind) e = quietly e

-- A tick lowers a wait, and one that is at its last tick runs out.
abbrev pub on_tick : SlaveLines → Stage → Entry → Stepped
on_tick c (AwaitBoot None) e = quietly e
on_tick c (AwaitBoot (Some n)) e = quietly (to (cond (nat_lt 1 n) (AwaitBoot (Some (n - 1))) (Ask Kind)) e)
on_tick c (Ask k) e = quietly e
on_tick c (Asked k n) e = cond (nat_lt 1 n) (quietly (to (Asked k (n - 1)) e)) (missed_by (unanswered k) e)
on_tick c (ListenState n) e = cond (nat_lt 1 n) (quietly (to (ListenState (n - 1)) e)) (missed_by letter.NoHeartbeat e)
on_tick c (ListenControl n running) e = cond (nat_lt 1 n) (quietly (to (ListenControl (n - 1) running) e)) (missed_by letter.NoControl e)
on_tick c (Passed running started n) e =
    cond (c.hb == 0) (quietly e)
    (cond (nat_lt 1 n) (quietly (to (Passed running started (n - 1)) e)) (lost_by e))
on_tick c (Retry n) e = quietly (to (cond (nat_lt 1 n) (Retry (n - 1)) (Ask Kind)) e)
on_tick c (ResetDue kind) e = quietly e

-- The step of an entry: it looks at the slave's own lines and the one input alone.
abbrev pub stepped : SlaveLines → Entry → Input → Stepped
stepped c e (input.Heard s) = quietly (on_sign c s e)
stepped c e (input.Replied r) = on_reply c r e.stage e
stepped c e input.Tick = on_tick c e.stage e

-- A reset put that names or covers the slave: it waits for its boot-up, 1000 ticks at most.
abbrev pub reset_put : Entry → Entry
reset_put e = record { stage = AwaitBoot (Some 1000); word = word.Reset; booted = false; result = None; once = e.once }

abbrev pub requested : ℕ → Stage → Entry → Entry
requested wait (AwaitBoot left) e = e
requested wait (Ask k) e = to (Asked k wait) e
requested wait (Asked k left) e = e
requested wait (ListenState left) e = e
requested wait (ListenControl left running) e = e
requested wait (Passed running started left) e = e
requested wait (Retry left) e = e
requested wait (ResetDue kind) e = e

-- The request of its check is put: the sheet's wait begins.
abbrev pub request_put : ℕ → Entry → Entry
request_put wait e = requested wait e.stage e

abbrev pub started_from : Stage → Entry → Entry
started_from (AwaitBoot left) e = e
started_from (Ask k) e = e
started_from (Asked k left) e = e
started_from (ListenState left) e = e
started_from (ListenControl left running) e = e
started_from (Passed running started left) e = to (Passed running true left) e
started_from (Retry left) e = e
started_from (ResetDue kind) e = e

-- A start put that names or covers the slave: it is owed none until it passes anew.
abbrev pub start_put : Entry → Entry
start_put e = started_from e.stage e

abbrev pub is_passed : Stage → Bool
is_passed (AwaitBoot left) = false
is_passed (Ask k) = false
is_passed (Asked k left) = false
is_passed (ListenState left) = false
is_passed (ListenControl left running) = false
is_passed (Passed running started left) = true
is_passed (Retry left) = false
is_passed (ResetDue kind) = false

-- A mandatory slave is cleared while it has passed, an optional one from its first pass or first missed check on.
abbrev pub is_cleared : SlaveLines → Entry → Bool
is_cleared c e = cond c.mandatory (is_passed e.stage) e.once

-- After these last words a keep-alive slave may be running: nothing was heard or done since the session began, or Operational.
abbrev pub may_run : Word → Bool
may_run word.Silence = true
may_run word.BootUp = false
may_run word.Stopped = false
may_run word.Operational = true
may_run word.PreOperational = false
may_run word.Reset = false
may_run word.Loss = false

-- A keep-alive slave that may be running is spared.
abbrev pub is_spared : SlaveLines → Entry → Bool
is_spared c e = c.keep && may_run e.word

abbrev pub start_due : Bool → Bool → Bool → Option Duty
start_due go running started = cond (go && (not running && not started)) (Some duty.Start) None

-- What a slave is owed: its due reset, its due request, or while Go its start, unless it was found running.
abbrev pub duty_of : Bool → Stage → Option Duty
duty_of go (AwaitBoot left) = None
duty_of go (Ask k) = Some (duty.Request k)
duty_of go (Asked k left) = None
duty_of go (ListenState left) = None
duty_of go (ListenControl left running) = None
duty_of go (Passed running started left) = start_due go running started
duty_of go (Retry left) = None
duty_of go (ResetDue kind) = Some (duty.Reset kind)
