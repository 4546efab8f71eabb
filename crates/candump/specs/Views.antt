-- What the types of a log stand for.
use Rattle.std.specs.Prelude.{ℕ, List}
use Rattle.std.specs.Borrow.{Bor}
use Rattle.frames.specs.Contents.{content_of}
use Rattle.candump.specs.declared.entry.Entry.{Entry}
use Rattle.candump.specs.declared.entry.Words.{Words}
use Rattle.candump.specs.Logs.{Split, Seen}

-- slices, by what they hold
abbrev pub held : Bor (List ℕ) → List ℕ
held r = r.now

abbrev pub words_of : Words → Split
words_of w = record { stamp = w.stamp.now; interface = w.interface.now; message = w.message.now }

abbrev pub entry_of : Entry → Seen
entry_of e = record { micros = e.micros; content = content_of e.frame }
