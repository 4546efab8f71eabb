use Rattle.std.specs.Prelude.{ℕ, Bool, cond, ◌&&◌, List, [], ◌∷◌, Some, None, Option, ◌==◌, nat_lt}
use Rattle.frames.specs.declared.frame.Frame.{Frame}
use Rattle.frames.specs.Contents.{content_of}

-- For a port, an NMT command is any frame with the identifier 0.
abbrev pub is_command : Frame → Bool
is_command f = (content_of f).id == 0

-- A command is held back while a pause lasts.
abbrev pub held : Frame → ℕ → Bool
held f pause = is_command f && nat_lt 0 pause

-- A frame that leaves sets the pause to the gap if it is a command, and no other frame touches the pause.
abbrev pub pause_after : Frame → ℕ → ℕ → ℕ
pause_after f pause gap = cond (is_command f) gap pause

-- What a take answers: the first frame, unless it is held back.
abbrev pub given : List Frame → ℕ → Option Frame
given [] pause = None
given (f ∷ fs) pause = cond (held f pause) None (Some f)

-- What waits after a take.
abbrev pub kept : List Frame → ℕ → List Frame
kept [] pause = []
kept (f ∷ fs) pause = cond (held f pause) (f ∷ fs) fs

-- The pause after a take.
abbrev pub paused : List Frame → ℕ → ℕ → ℕ
paused [] pause gap = pause
paused (f ∷ fs) pause gap = cond (held f pause) pause (pause_after f pause gap)
