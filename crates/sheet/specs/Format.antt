-- The format of a sheet: its lines, in their order, with the range of each.
use Rattle.std.specs.Prelude.{ℕ, ◌+◌, ◌-◌, ◌^◌, Bool, cond, ◌&&◌, ◌||◌, List, [], ◌∷◌, length, Some, None, Ok, Err, Result, ◌==◌, nat_eq, nat_le, nat_lt}
use Rattle.sheet.specs.declared.faults.Fault.{Fault}
use Rattle.sheet.specs.declared.faults.Fault.TheVariants.{Range, Order, Silent, TooManySets, After}
use Rattle.sheet.specs.declared.keys.Key.{Key}
use Rattle.sheet.specs.declared.keys.Key.TheVariants.{Own, Wait, Boottime, Inhibit, Startall, Resetall, Stopall, Slaves, Node, Mandatory, Keep, Kind, Vendor, Product, Revision, Serial, Hb, Sets, Index, Sub, Size, Value}
use Rattle.sheet.specs.Lines.{bind}
use Rattle.sheet.specs.Codec.{Codec, Test, field, both, seen, many, counted}

-- the values of a set's lines
pub record SetLines : Type 0 where
  pub index : ℕ
  pub sub : ℕ
  pub size : ℕ
  pub value : ℕ

-- the values of a slave's lines
pub record SlaveLines : Type 0 where
  pub node : ℕ
  pub mandatory : Bool
  pub keep : Bool
  pub kind : ℕ
  pub vendor : ℕ
  pub product : ℕ
  pub revision : ℕ
  pub serial : ℕ
  pub hb : ℕ
  pub sets : List SetLines

-- the values of the lines before the slaves
pub record HeaderLines : Type 0 where
  pub own : ℕ
  pub wait : ℕ
  pub boottime : ℕ
  pub inhibit : ℕ
  pub startall : Bool
  pub resetall : Bool
  pub stopall : Bool

-- the values of all lines of a sheet
pub record SheetLines : Type 0 where
  pub own : ℕ
  pub wait : ℕ
  pub boottime : ℕ
  pub inhibit : ℕ
  pub startall : Bool
  pub resetall : Bool
  pub stopall : Bool
  pub slaves : List SlaveLines

-- low to high, both included, else refusal 3
abbrev pub within : Key → ℕ → ℕ → Test
within key low high n = cond (nat_le low n && nat_le n high) None (Some (λ l. Range l key low high))

-- a range first, then a test of its own
abbrev pub under : Key → ℕ → ℕ → (ℕ → Bool) → (ℕ → Fault) → Test
under key low high bad f n = cond (nat_le low n && nat_le n high) (cond (bad n) (Some f) None) (Some (λ l. Range l key low high))

abbrev pub ranged : Key → ℕ → ℕ → Codec ℕ
ranged key low high = field key (within key low high)

-- 0 or 1
abbrev pub flag : Key → Codec Bool
flag key = seen (ranged key 0 1) (λ n. nat_eq n 1) (λ b. cond b 1 0)

-- four bytes
abbrev pub word : Key → Codec ℕ
word key = ranged key 0 4294967295

-- a value is below 256 to the power of its size
abbrev pub set_c : Codec SetLines
set_c =
    seen (both (ranged Index 0 65535) (λ _. both (ranged Sub 0 255) (λ _. both (ranged Size 1 4) (λ z. ranged Value 0 (256 ^ z - 1)))))
    (λ p. record { index = p.0; sub = p.1.0; size = p.1.1.0; value = p.1.1.1 })
    (λ s. (s.index, (s.sub, (s.size, s.value))))

-- what a slave's lines depend on: own, the node of the slave before, and the sets so far
abbrev pub Before : Type 0
Before = ℕ × (ℕ × ℕ)

-- a node is other than own and above the last, else refusal 4
abbrev pub node_c : ℕ → ℕ → Codec ℕ
node_c own last = field Node (under Node 1 127 (λ n. (n == own) || nat_le n last) (λ l. Order l))

-- a keep-alive slave has a heartbeat, else refusal 5
abbrev pub hb_c : Bool → Codec ℕ
hb_c keep = field Hb (under Hb 0 65535 (λ h. keep && h == 0) (λ l. Silent l))

-- a sheet has at most 256 sets, else refusal 6
abbrev pub sets_c : ℕ → Codec ℕ
sets_c sofar = field Sets (under Sets 0 32 (λ n. nat_lt 256 (sofar + n)) (λ l. TooManySets l))

-- a slave's lines, and after them those of its sets
abbrev pub slave_c : Before → Codec SlaveLines
slave_c b =
    seen
    (both (node_c b.0 b.1.0) (λ _.
    both (flag Mandatory) (λ _.
    both (flag Keep) (λ k.
    both (word Kind) (λ _.
    both (word Vendor) (λ _.
    both (word Product) (λ _.
    both (word Revision) (λ _.
    both (word Serial) (λ _.
    both (hb_c k) (λ _.
    counted (sets_c b.1.1) (many (λ _. set_c) (λ u _. u) (tt {0}))))))))))))
    (λ p. record { node = p.0; mandatory = p.1.0; keep = p.1.1.0; kind = p.1.1.1.0; vendor = p.1.1.1.1.0; product = p.1.1.1.1.1.0; revision = p.1.1.1.1.1.1.0; serial = p.1.1.1.1.1.1.1.0; hb = p.1.1.1.1.1.1.1.1.0; sets = p.1.1.1.1.1.1.1.1.1 })
    (λ s. (s.node, (s.mandatory, (s.keep, (s.kind, (s.vendor, (s.product, (s.revision, (s.serial, (s.hb, s.sets))))))))))

abbrev pub after : Before → SlaveLines → Before
after b s = (b.0, (s.node, b.1.1 + length s.sets))

abbrev pub header_c : Codec HeaderLines
header_c =
    seen
    (both (ranged Own 1 127) (λ _.
    both (ranged Wait 1 60000) (λ _.
    both (word Boottime) (λ _.
    both (ranged Inhibit 0 65535) (λ _.
    both (flag Startall) (λ _.
    both (flag Resetall) (λ _.
    flag Stopall)))))))
    (λ p. record { own = p.0; wait = p.1.0; boottime = p.1.1.0; inhibit = p.1.1.1.0; startall = p.1.1.1.1.0; resetall = p.1.1.1.1.1.0; stopall = p.1.1.1.1.1.1 })
    (λ s. (s.own, (s.wait, (s.boottime, (s.inhibit, (s.startall, (s.resetall, s.stopall)))))))

abbrev pub count_c : Codec ℕ
count_c = ranged Slaves 0 126

-- how many slaves, and then each of them
abbrev pub slaves_c : HeaderLines → Codec (List SlaveLines)
slaves_c h = counted count_c (many slave_c after (h.own, (0, 0)))

abbrev pub to_sheet : HeaderLines × List SlaveLines → SheetLines
to_sheet p = record { own = p.0.own; wait = p.0.wait; boottime = p.0.boottime; inhibit = p.0.inhibit; startall = p.0.startall; resetall = p.0.resetall; stopall = p.0.stopall; slaves = p.1 }

abbrev pub of_sheet : SheetLines → HeaderLines × List SlaveLines
of_sheet s = (record { own = s.own; wait = s.wait; boottime = s.boottime; inhibit = s.inhibit; startall = s.startall; resetall = s.resetall; stopall = s.stopall }, s.slaves)

abbrev pub sheet_c : Codec SheetLines
sheet_c = seen (both header_c slaves_c) to_sheet of_sheet

-- a slave's text does not depend on what came before it
abbrev pub slave_text : SlaveLines → List ℕ
slave_text s = (slave_c (0, (0, 0))).write s

-- the text of a sheet with these lines
abbrev pub text : SheetLines → List ℕ
text s = sheet_c.write s

-- whether lines are a sheet's
abbrev pub good : SheetLines → Bool
good s = sheet_c.good s

-- bytes after the last line are refusal 7, which comes last
abbrev pub ended : ℕ → List ℕ → SheetLines → Result SheetLines Fault
ended l [] s = Ok s
ended l (b ∷ bs) s = Err (After l)

-- the reading of a text: the lines of a sheet, or the first fault
abbrev pub reading : List ℕ → Result SheetLines Fault
reading t = bind (sheet_c.read 1 t) (λ x. ended x.1.0 x.1.1 x.0)
