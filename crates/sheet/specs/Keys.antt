-- The keys of a sheet's lines.
use Rattle.std.specs.Prelude.{ℕ, List, codes}
use Rattle.sheet.specs.declared.keys.Key.{Key}
use Rattle.sheet.specs.declared.keys.Key.TheVariants.{Own, Wait, Boottime, Inhibit, Startall, Resetall, Stopall, Slaves, Node, Mandatory, Keep, Kind, Vendor, Product, Revision, Serial, Hb, Sets, Index, Sub, Size, Value}

-- what stands before the '=' of a line with this key
abbrev pub name_of : Key → List ℕ
name_of Own = codes "own"
name_of Wait = codes "wait"
name_of Boottime = codes "boottime"
name_of Inhibit = codes "inhibit"
name_of Startall = codes "startall"
name_of Resetall = codes "resetall"
name_of Stopall = codes "stopall"
name_of Slaves = codes "slaves"
name_of Node = codes "node"
name_of Mandatory = codes "mandatory"
name_of Keep = codes "keep"
name_of Kind = codes "type"
name_of Vendor = codes "vendor"
name_of Product = codes "product"
name_of Revision = codes "revision"
name_of Serial = codes "serial"
name_of Hb = codes "hb"
name_of Sets = codes "sets"
name_of Index = codes "index"
name_of Sub = codes "sub"
name_of Size = codes "size"
name_of Value = codes "value"
