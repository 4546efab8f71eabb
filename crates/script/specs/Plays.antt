-- What a session's text makes of a master and its port, by the definitions of the master's calls.
use Rattle.std.specs.Prelude.{◌≡◌, ℕ, zero, suc, cond, List, length, Some, None, Option, ◌==◌}
use Rattle.std.specs.List.{filter_map, fold}
use Rattle.master.specs.Masters.{hearing}
use Rattle.master.specs.Session.{Machine, Call, pass, work, take, after}
use Rattle.script.specs.Sessions.{Order, heard, works, takes, ticks, line_in, first_line, lines}

-- a step, so many times
abbrev pub times : {A : Type 0} → (A → A) → ℕ → A → A
times f zero a = a
times f (suc n) a = times f n (f a)

-- a call, so many times
abbrev pub repeated : Call → ℕ → Machine → Machine
repeated c n m = times (after c) n m

-- what a line asks for is done; a frame that is refused changes nothing
abbrev pub done : Order → Machine → Machine
done (heard id bs) m = (hearing id bs m).1
done (works n) m = repeated work n m
done (takes n) m = repeated take n m
done (ticks n) m = repeated pass n m

-- the lines of a text one after the other; a line that asks for nothing is skipped
abbrev pub played : List ℕ → Machine → Machine
played t m = fold (λ m o. done o m) m (filter_map line_in (lines t))

-- a line that asks for nothing is skipped
abbrev pub done_line : Option Order → Machine → Machine
done_line None m = m
done_line (Some o) m = done o m

-- the lines of a text one after the other, at most k of them
abbrev pub played_within : ℕ → List ℕ → Machine → Machine
played_within zero t m = m
played_within (suc k) t m = cond (length t == 0) m (played_within k (first_line t).1 (done_line (line_in (first_line t).0) m))

-- It is the same whether a text is cut into its lines first or played a line at a time. No text has more lines than bytes.
abbrev pub LineByLine : Type 0
LineByLine = (t : List ℕ) (m : Machine) → played t m ≡ played_within (length t) t m
