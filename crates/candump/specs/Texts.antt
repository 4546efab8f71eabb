-- What is printed for a time stamp that cannot follow.
use Rattle.std.specs.Prelude.{ℕ, List, codes}
use Rattle.candump.specs.declared.clock.Slip.{Slip}
use Rattle.candump.specs.declared.clock.Slip.TheVariants.{Backwards, Gap}

abbrev pub slip_text : Slip → List ℕ
slip_text Backwards = codes "time runs backwards"
slip_text Gap = codes "more than 24 hours have gone by since the frame before"
