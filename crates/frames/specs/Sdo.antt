use Rattle.std.specs.Prelude.{ℕ, ◌+◌, ◌*◌, ◌/◌, ◌%◌, cond, ◌&&◌, List, [], ◌∷◌, length, take, Some, None, Option, ◌==◌}
use Rattle.frames.specs.declared.sdo.Size.{Size}
use Rattle.frames.specs.declared.sdo.Size.TheVariants.{One, Two, Three, Four}
use Rattle.frames.specs.declared.sdo.Access.{Access}
use Rattle.frames.specs.declared.sdo.Access.TheVariants.{Read, Write}
use Rattle.frames.specs.declared.sdo.Request.{Request}
use Rattle.frames.specs.declared.sdo.Reply.{Reply}
use Rattle.frames.specs.declared.sdo.Reply.TheVariants.{Abort, Written, Value}
use Rattle.frames.specs.Bytes.{number}
use Rattle.frames.specs.Contents.{Content}

-- The first byte of a write of 1, 2, 3 or 4 bytes.
abbrev pub write_code : Size → ℕ
write_code One = 0x2F
write_code Two = 0x2B
write_code Three = 0x27
write_code Four = 0x23

-- The value of a write: its lowest bytes, the lowest first, filled up with zeros to four.
abbrev pub value_bytes : Size → ℕ → List ℕ
value_bytes One v = v % 256 ∷ 0 ∷ 0 ∷ 0 ∷ []
value_bytes Two v = v % 256 ∷ v / 256 % 256 ∷ 0 ∷ 0 ∷ []
value_bytes Three v = v % 256 ∷ v / 256 % 256 ∷ v / 65536 % 256 ∷ 0 ∷ []
value_bytes Four v = v % 256 ∷ v / 256 % 256 ∷ v / 65536 % 256 ∷ v / 16777216 % 256 ∷ []

-- A read begins with 40h and carries four zeros, a write begins with its own first byte and carries its value.
abbrev pub access_code : Access → ℕ
access_code Read = 0x40
access_code (Write size v) = write_code size

abbrev pub access_bytes : Access → List ℕ
access_bytes Read = 0 ∷ 0 ∷ 0 ∷ 0 ∷ []
access_bytes (Write size v) = value_bytes size v

-- A request to a node has the identifier 600h + node and eight bytes: the first byte, the index with its lower byte
-- first, the sub-index, and four bytes of value.
abbrev pub request_content : Request → Content
request_content q =
    record {
      id = 0x600 + q.node;
      bytes = access_code q.access ∷ q.index % 256 ∷ q.index / 256 % 256 ∷ q.sub ∷ access_bytes q.access;
    }

-- The value that an answer to a read carries: 4Fh, 4Bh, 47h and 43h carry 1, 2, 3 and 4 of the four bytes that follow
-- the leading ones. No other first byte carries one.
abbrev pub value_in : ℕ → List ℕ → Option ℕ
value_in c rest =
    cond (length rest == 4)
    (cond (c == 0x4F) (Some (number (take 1 rest)))
    (cond (c == 0x4B) (Some (number (take 2 rest)))
    (cond (c == 0x47) (Some (number (take 3 rest)))
    (cond (c == 0x43) (Some (number (take 4 rest))) None))))
    None

abbrev to_reply : Option ℕ → Option Reply
to_reply None = None
to_reply (Some v) = Some (Value v)

-- What an answer says: 80h is an abort of either access, 60h confirms a write, and a read wants a value.
abbrev pub said_to : Access → ℕ → List ℕ → Option Reply
said_to Read c rest = cond (c == 0x80) (Some Abort) (to_reply (value_in c rest))
said_to (Write size v) c rest = cond (c == 0x80) (Some Abort) (cond (c == 0x60) (Some Written) None)

abbrev pub reply_bytes : Request → List ℕ → Option Reply
reply_bytes q [] = None
reply_bytes q (c ∷ []) = None
reply_bytes q (c ∷ l ∷ []) = None
reply_bytes q (c ∷ l ∷ h ∷ []) = None
reply_bytes q (c ∷ l ∷ h ∷ s ∷ rest) =
    cond (l + 256 * h == q.index && s == q.sub) (said_to q.access c rest) None

-- What a frame says in answer to a request: nothing unless it has the identifier 580h + node and eight bytes, its index
-- and sub-index are those of the request, and its first byte fits.
abbrev pub reply_in : Request → Content → Option Reply
reply_in q c = cond (c.id == 0x580 + q.node && length c.bytes == 8) (reply_bytes q c.bytes) None
