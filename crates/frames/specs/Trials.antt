use Rattle.std.specs.Prelude.{◌≡◌, ℕ, [], ◌∷◌, Some, None, Option}
use Rattle.frames.specs.declared.sdo.Access.TheVariants.{Read}
use Rattle.frames.specs.declared.sdo.Request.{Request}
use Rattle.frames.specs.declared.sdo.Reply.{Reply}
use Rattle.frames.specs.declared.sdo.Reply.TheVariants.{Value}
use Rattle.frames.specs.Contents.{Content}
use Rattle.frames.specs.Sdo.{reply_in}

-- The read of the device type of node 5, and the answer that begins with the given byte.
abbrev type_request : Request
type_request = record { node = 5; index = 0x1000; sub = 0; access = Read }

abbrev pub type_answer : ℕ → Content
type_answer first =
    record {
      id = 0x585;
      bytes = first ∷ 0x00 ∷ 0x10 ∷ 0x00 ∷ 0x92 ∷ 0x01 ∷ 0x00 ∷ 0x00 ∷ [];
    }

abbrev pub type_reply : ℕ → Option Reply
type_reply first = reply_in type_request (type_answer first)

-- Begun with 4Bh the answer is 402; begun with 42h it does not fit.
abbrev pub TypeRead : Type 0
TypeRead = (type_reply 0x4B ≡ Some (Value 402)) × (type_reply 0x42 ≡ None)
