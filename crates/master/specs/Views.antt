-- The master's values as the state that they stand for.
use Rattle.std.specs.Prelude.{false, List, [], Option}
use Rattle.std.specs.Borrow.{Bor}
use Rattle.std.specs.Option.{option_map}
use Rattle.sheet.specs.Format.{SlaveLines}
use Rattle.sheet.specs.Sheets.{lines_of}
use Rattle.sheet.specs.Views.{slave_of}
use Rattle.sheet.specs.declared.model.sheet.Sheet.{Sheet}
use Rattle.sheet.specs.declared.model.slave.Slave.{Slave}
use Rattle.master.specs.Network.{State}
use Rattle.master.specs.declared.network.Course.{Course}
use Rattle.master.specs.declared.network.Network.{Network}

-- a sheet, and what has become of its slaves
abbrev pub state_of : Sheet → Course → State
state_of s c = record { lines = lines_of s; entries = c.table.entries; sweep = c.sweep; last = c.last; started = c.started; clock = c.clock; phase = c.phase }

abbrev pub view : Network → State
view n = state_of n.roll.sheet n.course

-- the listed slaves
abbrev pub listed : Network → List SlaveLines
listed n = (lines_of n.roll.sheet).slaves

-- what stands for a slave past the last
abbrev pub blank : SlaveLines
blank = record { node = 0; mandatory = false; keep = false; kind = 0; vendor = 0; product = 0; revision = 0; serial = 0; hb = 0; sets = [] }

-- a slave that is lent, if one is
abbrev pub slave_seen : Option (Bor Slave) → Option SlaveLines
slave_seen o = option_map (λ r. slave_of r.now) o
