-- The table of entries, one for each node from 1 to 127, read and changed by slave.
use Rattle.std.specs.Prelude.{◌≡◌, ◌-◌, Bool, true, false, cond, List, [], ◌∷◌, None, slice_index_or, slice_set}
use Rattle.sheet.specs.Format.{SlaveLines}
use Rattle.master.specs.declared.types.Change.{Change}
use Rattle.master.specs.declared.types.Change.TheVariants.{Begin, Reset, Request, Start}
use Rattle.master.specs.declared.types.Check.TheVariants.{Kind}
use Rattle.master.specs.declared.types.Entry.{Entry}
use Rattle.master.specs.declared.types.Input.{Input}
use Rattle.master.specs.declared.types.Stage.TheVariants.{AwaitBoot, Ask}
use Rattle.master.specs.declared.types.Word.TheVariants.{Silence}
use Rattle.master.specs.Step.{to, stepped, reset_put, request_put, start_put}

-- every node at first: it waits for its boot-up without limit, and nothing was heard of it
abbrev pub fresh : Entry
fresh = record { stage = AwaitBoot None; word = Silence; booted = false; result = None; once = false }

abbrev pub entry_of : List Entry → SlaveLines → Entry
entry_of t c = slice_index_or t (c.node - 1) fresh

-- one entry is changed, the others stay
abbrev pub changed : List Entry → SlaveLines → Entry → List Entry
changed t c e = slice_set t (c.node - 1) e

-- A short way of a step: either it is not taken, and nothing changes, or the step brings nothing and is done.
abbrev pub Shortened : SlaveLines → Input → List Entry → Bool → List Entry → Type 0
Shortened c i t false u = u ≡ t
Shortened c i t true u = ((stepped c (entry_of t c) i).brought ≡ None) × (u ≡ changed t c (stepped c (entry_of t c) i).entry)

-- A change of an entry besides its steps; a keep-alive slave begins at check 1.
abbrev pub change_by : Change → SlaveLines → Entry → Entry
change_by Begin c e = cond c.keep (to (Ask Kind) e) e
change_by Reset c e = reset_put e
change_by (Request wait) c e = request_put wait e
change_by Start c e = start_put e

-- one entry changes, the others stay
abbrev pub applied : Change → List Entry → SlaveLines → List Entry
applied g t c = changed t c (change_by g c (entry_of t c))

-- the entries of these slaves change, one after the other
abbrev pub applied_all : Change → List SlaveLines → List Entry → List Entry
applied_all g [] t = t
applied_all g (c ∷ cs) t = applied_all g cs (applied g t c)
