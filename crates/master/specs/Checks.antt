-- The checks of a slave's try: what each asks, what an answer means, and which check follows.
use Rattle.std.specs.Prelude.{ℕ, ◌+◌, Bool, true, false, cond, not, ◌&&◌, length, ◌==◌, nat_lt, slice_index_or, Err, Ok, Result}
use Rattle.frames.specs.declared.error_control.Sign.{Sign}
use Rattle.frames.specs.declared.error_control.Sign.TheVariants as sign
use Rattle.frames.specs.declared.sdo.Access.TheVariants.{Read, Write}
use Rattle.frames.specs.declared.sdo.Reply.{Reply}
use Rattle.frames.specs.declared.sdo.Reply.TheVariants.{Abort, Written, Value}
use Rattle.frames.specs.declared.sdo.Request.{Request}
use Rattle.frames.specs.declared.sdo.Size.{Size}
use Rattle.frames.specs.declared.sdo.Size.TheVariants.{One, Two, Three, Four}
use Rattle.sheet.specs.Format.{SetLines, SlaveLines}
use Rattle.master.specs.declared.types.Check.{Check}
use Rattle.master.specs.declared.types.Check.TheVariants.{Kind, Vendor, Product, Revision, Serial, Set}
use Rattle.master.specs.declared.types.Letter.{Letter}
use Rattle.master.specs.declared.types.Letter.TheVariants as letter
use Rattle.master.specs.declared.types.Next.{Next}
use Rattle.master.specs.declared.types.Next.TheVariants as next

-- how many bytes a set writes
abbrev pub size_by : ℕ → Size
size_by n = cond (n == 1) One (cond (n == 2) Two (cond (n == 3) Three Four))

abbrev pub read_of : ℕ → ℕ → ℕ → Request
read_of node index sub = record { node = node; index = index; sub = sub; access = Read }

abbrev pub write_of : ℕ → SetLines → Request
write_of node s = record { node = node; index = s.index; sub = s.sub; access = Write (size_by s.size) s.value }

-- what stands for a set past the last; no try comes to it
abbrev pub no_set : SetLines
no_set = record { index = 0; sub = 0; size = 1; value = 0 }

-- The request of a check: the device type is 1000h:00, the identity 1018h:01 to :04, and the sets are written in
-- their order.
abbrev pub request_of : SlaveLines → Check → Request
request_of c Kind = read_of c.node 0x1000 0
request_of c Vendor = read_of c.node 0x1018 1
request_of c Product = read_of c.node 0x1018 2
request_of c Revision = read_of c.node 0x1018 3
request_of c Serial = read_of c.node 0x1018 4
request_of c (Set i) = write_of c.node (slice_index_or c.sets i no_set)

-- The letter of a check that no answer or an abort ends: B for the device type, D, M, N, O for the identity, J for a set.
abbrev pub unanswered : Check → Letter
unanswered Kind = letter.NoAnswer
unanswered Vendor = letter.OtherVendor
unanswered Product = letter.OtherProduct
unanswered Revision = letter.OtherRevision
unanswered Serial = letter.OtherSerial
unanswered (Set i) = letter.NotSet

abbrev pub same : ℕ → ℕ → Letter → Result (Unit {0}) Letter
same value wanted l = cond (value == wanted) (Ok tt) (Err l)

-- A value: the device type is met if the sheet has 0 or the same, else C; the identity only if it is the same.
abbrev pub valued : SlaveLines → Check → ℕ → Result (Unit {0}) Letter
valued c Kind v = cond (c.kind == 0) (Ok tt) (same v c.kind letter.OtherType)
valued c Vendor v = same v c.vendor letter.OtherVendor
valued c Product v = same v c.product letter.OtherProduct
valued c Revision v = same v c.revision letter.OtherRevision
valued c Serial v = same v c.serial letter.OtherSerial
valued c (Set i) v = Ok tt

-- What an answer that fits the request means.
abbrev pub verdict_of : SlaveLines → Check → Reply → Result (Unit {0}) Letter
verdict_of c k Abort = Err (unanswered k)
verdict_of c k Written = Ok tt
verdict_of c k (Value v) = valued c k v

-- Check 8 applies where the slave has a heartbeat; past it the slave has passed.
abbrev pub from_control : SlaveLines → Next
from_control c = cond (c.hb == 0) next.Pass next.ListenControl

-- Check 7 has one request for each set.
abbrev pub from_set : SlaveLines → ℕ → Next
from_set c i = cond (nat_lt i (length c.sets)) (next.Ask (Set i)) (from_control c)

-- Check 6 applies to a keep-alive slave whose boot-up was not heard.
abbrev pub from_state : SlaveLines → Bool → Next
from_state c booted = cond (c.keep && not booted) next.ListenState (from_set c 0)

-- Checks 2 to 5 apply where the sheet has another value than 0.
abbrev pub from_serial : SlaveLines → Bool → Next
from_serial c booted = cond (c.serial == 0) (from_state c booted) (next.Ask Serial)

abbrev pub from_revision : SlaveLines → Bool → Next
from_revision c booted = cond (c.revision == 0) (from_serial c booted) (next.Ask Revision)

abbrev pub from_product : SlaveLines → Bool → Next
from_product c booted = cond (c.product == 0) (from_revision c booted) (next.Ask Product)

abbrev pub from_vendor : SlaveLines → Bool → Next
from_vendor c booted = cond (c.vendor == 0) (from_product c booted) (next.Ask Vendor)

-- What follows a check that is met: the next set or check that applies.
abbrev pub following : SlaveLines → Bool → Check → Next
following c booted Kind = from_vendor c booted
following c booted Vendor = from_product c booted
following c booted Product = from_revision c booted
following c booted Revision = from_serial c booted
following c booted Serial = from_state c booted
following c booted (Set i) = from_set c (i + 1)

-- Checks 6 and 8 ask whether a heartbeat says Operational.
abbrev pub runs : Sign → Bool
runs sign.BootUp = false
runs sign.Stopped = false
runs sign.Operational = true
runs sign.PreOperational = false
