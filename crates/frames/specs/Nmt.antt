use Rattle.std.specs.Prelude.{ℕ, Bool, cond, not, ◌&&◌, ◌||◌, List, [], ◌∷◌, Some, None, Option, ◌==◌}
use Rattle.frames.specs.declared.nmt.Command.{Command}
use Rattle.frames.specs.declared.nmt.Command.TheVariants.{Start, Stop, ResetNode, ResetCommunication}
use Rattle.frames.specs.declared.nmt.NmtMessage.{NmtMessage}
use Rattle.frames.specs.Contents.{Content}

-- The command byte: 01h start, 02h stop, 81h reset node, 82h reset communication.
abbrev pub code_of : Command → ℕ
code_of Start = 0x01
code_of Stop = 0x02
code_of ResetNode = 0x81
code_of ResetCommunication = 0x82

abbrev pub command_by : ℕ → Option Command
command_by c =
    cond (c == 0x01) (Some Start)
    (cond (c == 0x02) (Some Stop)
    (cond (c == 0x81) (Some ResetNode)
    (cond (c == 0x82) (Some ResetCommunication) None)))

-- An NMT command has the identifier 0 and two bytes: the command, then the node.
abbrev pub nmt_content : NmtMessage → Content
nmt_content m = record { id = 0; bytes = code_of m.command ∷ m.node ∷ [] }

abbrev to : ℕ → Option Command → Option NmtMessage
to n None = None
to n (Some c) = Some (record { command = c; node = n })

abbrev in_bytes : List ℕ → Option NmtMessage
in_bytes [] = None
in_bytes (c ∷ []) = None
in_bytes (c ∷ n ∷ []) = to n (command_by c)
in_bytes (c ∷ n ∷ x ∷ xs) = None

-- What a frame commands: nothing unless it has the identifier 0, two bytes and a known command.
abbrev pub nmt_in : Content → Option NmtMessage
nmt_in c = cond (c.id == 0) (in_bytes c.bytes) None

-- A command reaches the device that it names. With node 0 it covers every device but the master. No device has the
-- node 0.
abbrev pub reaches : NmtMessage → ℕ → ℕ → Bool
reaches m node master = not (node == 0) && (m.node == node || (m.node == 0 && not (node == master)))
