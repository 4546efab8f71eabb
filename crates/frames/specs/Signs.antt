use Rattle.std.specs.Prelude.{ℕ, ◌+◌, cond, List, [], ◌∷◌, Some, None, Option, ◌==◌}
use Rattle.frames.specs.declared.error_control.Sign.{Sign}
use Rattle.frames.specs.declared.error_control.Sign.TheVariants.{BootUp, Stopped, Operational, PreOperational}
use Rattle.frames.specs.Contents.{Content}

-- The byte of error control: 00h is a boot-up; 04h, 05h and 7Fh are the heartbeats of the three states.
abbrev pub sign_by : ℕ → Option Sign
sign_by c =
    cond (c == 0x00) (Some BootUp)
    (cond (c == 0x04) (Some Stopped)
    (cond (c == 0x05) (Some Operational)
    (cond (c == 0x7F) (Some PreOperational) None)))

abbrev in_bytes : List ℕ → Option Sign
in_bytes [] = None
in_bytes (c ∷ []) = sign_by c
in_bytes (c ∷ x ∷ xs) = None

-- What a frame says of a node: nothing unless it has the identifier 700h + node, one byte, and a byte of error control.
abbrev pub sign_in : Content → ℕ → Option Sign
sign_in c node = cond (c.id == 0x700 + node) (in_bytes c.bytes) None
