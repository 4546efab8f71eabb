-- The rules of a sheet in the subject's words, and the laws of reading and writing that rest on them.
use Rattle.std.specs.Prelude.{◌≡◌, ℕ, ◌+◌, ◌^◌, ◌<◌, ◌≤◌, true, false, List, [], ◌∷◌, length, is_ok, Ok, Result, ◌≢◌}
use Rattle.sheet.specs.declared.faults.Fault.{Fault}
use Rattle.sheet.specs.Format.{SetLines, SlaveLines, SheetLines, text, reading}

-- A set writes 1 to 4 bytes, and its value fits them.
pub record SetKeeps (s : SetLines) : Type 0 where
  pub index : s.index ≤ 65535
  pub sub : s.sub ≤ 255
  pub size_low : 1 ≤ s.size
  pub size_high : s.size ≤ 4
  pub value : s.value < 256 ^ s.size

abbrev pub SetsKeep : List SetLines → Type 0
SetsKeep [] = Unit {0}
SetsKeep (s ∷ ss) = SetKeeps s × SetsKeep ss

-- A slave after one with the node `last`, on a sheet whose own node is `own`.
pub record SlaveKeeps (own last : ℕ) (s : SlaveLines) : Type 0 where
  pub node_low : 1 ≤ s.node
  pub node_high : s.node ≤ 127
  pub ascends : last < s.node
  pub other : s.node ≡ own → ⊥
  pub kind : s.kind ≤ 4294967295
  pub vendor : s.vendor ≤ 4294967295
  pub product : s.product ≤ 4294967295
  pub revision : s.revision ≤ 4294967295
  pub serial : s.serial ≤ 4294967295
  pub hb : s.hb ≤ 65535
  pub alive : s.keep ≡ true → 0 < s.hb
  pub few : length s.sets ≤ 32
  pub sets : SetsKeep s.sets

-- each slave keeps its rules, the nodes ascending from `last` on
abbrev pub SlavesKeep : ℕ → ℕ → List SlaveLines → Type 0
SlavesKeep own last [] = Unit {0}
SlavesKeep own last (s ∷ ss) = SlaveKeeps own last s × SlavesKeep own s.node ss

-- how many sets there are in all
abbrev pub total : List SlaveLines → ℕ
total [] = 0
total (s ∷ ss) = length s.sets + total ss

-- The rules of a sheet.
pub record Keeps (s : SheetLines) : Type 0 where
  pub own_low : 1 ≤ s.own
  pub own_high : s.own ≤ 127
  pub wait_low : 1 ≤ s.wait
  pub wait_high : s.wait ≤ 60000
  pub boottime : s.boottime ≤ 4294967295
  pub inhibit : s.inhibit ≤ 65535
  pub listed : length s.slaves ≤ 126
  pub slaves : SlavesKeep s.own 0 s.slaves
  pub sets : total s.slaves ≤ 256

-- A reading of the text t that answers r and leaves the lines s.
pub record Exact (t : List ℕ) (s : SheetLines) (r : Result (Unit {0}) Fault) : Type 0 where
  -- what is left keeps the rules, whatever was read
  pub keeps : Keeps s
  -- a text that is read is the text of what it leaves
  pub back : is_ok r ≡ true → text s ≡ t
  -- all lines that keep the rules are read from their text
  pub takes : (x : SheetLines) → Keeps x → text x ≡ t → (is_ok r ≡ true) × (s ≡ x)
  -- it refuses exactly where no lines that keep the rules have that text
  pub refuses : is_ok r ≡ false → (x : SheetLines) → Keeps x → text x ≢ t
  pub alone : ((x : SheetLines) → Keeps x → text x ≢ t) → is_ok r ≡ false

-- The text of the lines s is read as s again, and they keep the rules.
pub record Lasting (s : SheetLines) : Type 0 where
  pub keeps : Keeps s
  pub back : reading (text s) ≡ Ok s
