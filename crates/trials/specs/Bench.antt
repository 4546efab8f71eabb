-- The bench trials. Masters are run on the definitions of the calls, with a port that holds up to 200 frames.
use Rattle.std.specs.Prelude.{◌≡◌, ℕ, zero, suc, Bool, true, false, List, [], ◌∷◌, replicate, Some, None, Ok, Err, codes, count_by, Option}
use Rattle.frames.specs.Contents.{Content}
use Rattle.frames.specs.Lists.{first_of}
use Rattle.frames.specs.Nmt.{nmt_in}
use Rattle.frames.specs.Trials.{TypeRead, type_answer}
use Rattle.frames.specs.declared.frame.Frame.{Frame}
use Rattle.frames.specs.declared.nmt.Command.TheVariants.{ResetCommunication}
use Rattle.frames.specs.declared.nmt.NmtMessage.{NmtMessage}
use Rattle.ports.specs.Gaps.{GapTrials}
use Rattle.ports.specs.Trials.{OnePlace}
use Rattle.sheet.specs.Decimal.{number_of, fault_at}
use Rattle.sheet.specs.Format.{SlaveLines, SheetLines}
use Rattle.sheet.specs.Sheets.{empty_lines}
use Rattle.master.specs.Network.{going, heard_by, nmt_to, result_of}
use Rattle.master.specs.Record.{is_reset}
use Rattle.master.specs.Rows.{steps_all}
use Rattle.master.specs.FromPort.{fresh_machine}
use Rattle.master.specs.Session.{PortState, Machine, pass, work, with_net, after, entered}
use Rattle.master.specs.declared.calls.Call.TheVariants as call
use Rattle.master.specs.declared.types.Letter.{Letter}
use Rattle.master.specs.declared.types.Letter.TheVariants.{NoAnswer, Ready}

abbrev slave : ℕ → Bool → Bool → ℕ → ℕ → SlaveLines
slave node mandatory keep kind hb = record { node = node; mandatory = mandatory; keep = keep; kind = kind; vendor = 0; product = 0; revision = 0; serial = 0; hb = hb; sets = [] }

-- own 1, a wait of 100 ticks, zeros, and one slave
abbrev lines : SlaveLines → SheetLines
lines c = record { own = 1; wait = 100; boottime = 0; inhibit = 0; startall = false; resetall = false; stopall = false; slaves = c ∷ [] }

abbrev port : PortState
port = record { waiting = []; most = 200; gap = 0; pause = 0 }

abbrev hears : Content → Machine → Machine
hears f m = with_net (heard_by f m.net).1 m

abbrev ticks : ℕ → Machine → Machine
ticks zero m = m
ticks (suc n) m = ticks n (after pass m)

abbrev boot_up : Content
boot_up = record { id = 0x705; bytes = 0 ∷ [] }

-- 1000h:00 is 402
abbrev right_answer : Content
right_answer = record { id = 0x585; bytes = 0x43 ∷ 0x00 ∷ 0x10 ∷ 0x00 ∷ 0x92 ∷ 0x01 ∷ 0x00 ∷ 0x00 ∷ [] }

-- node 5 of type 402 has booted, and the read of its device type is put
abbrev asked : Bool → Machine
asked mandatory = after work (hears boot_up (after work (fresh_machine (lines (slave 5 mandatory false 402 0)) port)))

abbrev result_at : ℕ → Machine → Option Letter
result_at n m = result_of n m.net

abbrev resets : Option NmtMessage → Bool
resets None = false
resets (Some m) = is_reset m.command

-- the frames that 126 works put, where a silent keep-alive slave has node 7
abbrev swept : List Content
swept = entered (steps_all (replicate 126 call.Work) (fresh_machine (lines (slave 7 true true 0 50)) port))

pub record BenchTrials : Type 0 where
  -- With a wait of 100 a right answer after 99 ticks is met, and the 100th tick gives B.
  pub met_after_99 : result_at 5 (hears right_answer (ticks 99 (asked true))) ≡ Some Ready
  pub open_after_99 : result_at 5 (ticks 99 (asked true)) ≡ None
  pub missed_at_100 : result_at 5 (ticks 100 (asked true)) ≡ Some NoAnswer
  -- "0" is 0, "00" is refused, 4294967295 is read, 4294967296 is refused.
  pub zero_reads : number_of 1 (codes "0") ≡ Ok 0
  pub zeros_refused : number_of 1 (codes "00") ≡ Err (fault_at 1)
  pub last_reads : number_of 1 (codes "4294967295") ≡ Ok 4294967295
  pub next_refused : number_of 1 (codes "4294967296") ≡ Err (fault_at 1)
  -- Inhibit times of 0, 1, 10 and 11 give gaps of 0, 1, 1 and 2 ticks.
  pub gaps : GapTrials
  -- 4Bh 00h 10h 00h 92h 01h 00h 00h answers 402 and is used; the same beginning with 42h does not fit and is unused.
  pub answers : TypeRead
  pub fitting_used : (heard_by (type_answer 0x4B) (asked true).net).0 ≡ true
  pub other_unused : (heard_by (type_answer 0x42) (asked true).net).0 ≡ false
  -- With no slaves it is Go from the start.
  pub go_with_none : going (fresh_machine empty_lines port).net ≡ true
  -- With one optional slave that has B it is Go; one with a mandatory slave is not.
  pub go_without_optional : going (ticks 100 (asked false)).net ≡ true
  pub optional_missed : result_at 5 (ticks 100 (asked false)) ≡ Some NoAnswer
  pub no_go_without_mandatory : going (ticks 100 (asked true)).net ≡ false
  -- With own 1 and a silent keep-alive slave at node 7, 125 resets go out, the first to node 2.
  pub resets_125 : count_by (λ f. resets (nmt_in f)) swept ≡ 125
  pub first_to_2 : first_of swept ≡ Some (nmt_to ResetCommunication 2)
  -- In a ring of one place: a put, a put that is declined, a take, and a put that is accepted.
  pub ring_of_one : (a b : Frame) → OnePlace a b
