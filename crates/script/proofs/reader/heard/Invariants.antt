use Rattle.std.proofs.Common.{◌≡◌, ℕ, List}
use Rattle.std.specs.Iterator.{AlwaysYields}
use Rattle.std.specs.Option.{option_map}
use Rattle.sheet.specs.Few.{few_items}
use Rattle.script.specs.Sessions.{heard, bytes_in, frame_in, parts}
use Rattle.script.proofs.Keeping.{keep}
use Rattle.script.proofs.reader.heard.Given as goal

-- the bytes so far and those that the parts to come say are those of the frame
abbrev pub invariant-loop-part : goal.invariant-loop-part
invariant-loop-part l =
    (ps : List (List ℕ))
    × AlwaysYields (goal.iterator-loop-part).next_gives (λ x. x.now) l.part-iterator ps
    × (option_map (λ bs. heard l.id bs) (keep (few_items l.«data») (bytes_in ps)) ≡ frame_in (parts l.fn.value))
