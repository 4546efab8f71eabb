-- Lines, and what they say.
use Rattle.std.specs.Prelude.{◌≡◌, [], ◌∷◌, ◌++◌, Some, None, codes, Option}
use Rattle.candump.specs.Logs.{Seen, line_in}

abbrev boot_up : Option Seen
boot_up = Some (record { micros = 1436509052249713; content = record { id = 0x705; bytes = 0x00 ∷ [] } })

pub record LineTrials : Type 0 where
  pub frame : line_in (codes "(1436509052.249713) can0 705#00") ≡ boot_up
  pub carriage_return : line_in (codes "(1436509052.249713) can0 705#00" ++ 13 ∷ []) ≡ boot_up
  pub half_byte : line_in (codes "(0000000001.000009) vcan1 58a#aAb") ≡ None
  pub no_bytes : line_in (codes "(1.000009) vcan1 7fF#") ≡ Some (record { micros = 1000009; content = record { id = 0x7FF; bytes = [] } })
  pub capitals : line_in (codes "(01.000009) can0 58A#aB0c") ≡ Some (record { micros = 1000009; content = record { id = 0x58A; bytes = 0xAB ∷ 0x0C ∷ [] } })
  pub large : line_in (codes "(1.000009) can0 800#00") ≡ None
  pub extended : line_in (codes "(1.000009) can0 00000705#00") ≡ None
  pub remote : line_in (codes "(1.000009) can0 705#R") ≡ None
  pub flexible : line_in (codes "(1.000009) can0 705##100") ≡ None
  pub nine_bytes : line_in (codes "(1.000009) can0 705#112233445566778899") ≡ None
  pub short_fraction : line_in (codes "(1.00009) can0 705#00") ≡ None
  pub no_interface : line_in (codes "(1.000009)  705#00") ≡ None
  pub comment : line_in (codes "# a comment") ≡ None
  pub empty : line_in [] ≡ None
