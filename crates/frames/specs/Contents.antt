use Rattle.std.specs.Prelude.{◌≡◌, ℕ, ◌<◌, ◌≤◌, List, length, take, Ok, Err, Result}
use Rattle.frames.specs.declared.refusal.Refusal.{Refusal}
use Rattle.frames.specs.declared.refusal.Refusal.TheVariants.{Malformed}
use Rattle.frames.specs.declared.frame.Frame.{Frame}

-- What a frame says on the bus: its identifier and its bytes. Their number is the frame's length.
pub record Content : Type 0 where
  pub id : ℕ
  pub bytes : List ℕ

abbrev pub content_of : Frame → Content
content_of f = record { id = f.id; bytes = take f.len f.bytes }

-- A frame is made exactly of an identifier up to 2047 and up to 8 bytes, and it is the only one with that content;
-- anything else is refused as malformed.
abbrev pub Made : ℕ → List ℕ → Result Frame Refusal → Type 0
Made id bs (Ok f) = (id ≤ 2047) × (length bs ≤ 8) × (content_of f ≡ record { id = id; bytes = bs }) × ((g : Frame) → content_of g ≡ content_of f → g ≡ f)
Made id bs (Err e) = (e ≡ Malformed) × (id ≤ 2047 → 8 < length bs)

-- Frames of the same content are the same value.
abbrev pub ContentDecides : Type 0
ContentDecides = (f g : Frame) → content_of f ≡ content_of g → f ≡ g
