-- What is printed of a command, a frame and a refusal.
use Rattle.std.specs.Prelude.{ℕ, cond, List, ◌++◌, flat_map, codes, ◌==◌}
use Rattle.std.specs.Fmt.{decimal}
use Rattle.frames.specs.declared.nmt.Command.{Command}
use Rattle.frames.specs.declared.nmt.Command.TheVariants.{Start, Stop, ResetNode, ResetCommunication}
use Rattle.frames.specs.declared.nmt.NmtMessage.{NmtMessage}
use Rattle.frames.specs.declared.refusal.Refusal.{Refusal}
use Rattle.frames.specs.declared.refusal.Refusal.TheVariants.{Memory, Malformed}
use Rattle.frames.specs.Contents.{Content}

abbrev pub command_text : Command → List ℕ
command_text Start = codes "start"
command_text Stop = codes "stop"
command_text ResetNode = codes "reset node"
command_text ResetCommunication = codes "reset communication"

-- The command, and the node to which it goes. With node 0 it goes to all.
abbrev pub nmt_text : NmtMessage → List ℕ
nmt_text m =
    codes "NMT " ++ command_text m.command
    ++ cond (m.node == 0) (codes " to all") (codes " to node " ++ decimal m.node)

-- A byte behind a comma.
abbrev pub byte_text : ℕ → List ℕ
byte_text b = codes "," ++ decimal b

-- The identifier and the bytes that count, in decimal, with a comma before each byte.
abbrev pub frame_text : Content → List ℕ
frame_text c = decimal c.id ++ flat_map byte_text c.bytes

abbrev pub refusal_text : Refusal → List ℕ
refusal_text Memory = codes "the queue's memory has no place or more than 64"
refusal_text Malformed = codes "the identifier is above 2047, or there are more than 8 bytes"

abbrev pub unknown_text : ℕ → List ℕ
unknown_text code = codes "no known code: " ++ decimal code
