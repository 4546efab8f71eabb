-- The numbers and sentences of the master's refusals, and the letters of its results.
use Rattle.std.specs.Prelude.{ℕ, List, codes}
use Rattle.master.specs.declared.calls.Refusal.{Refusal}
use Rattle.master.specs.declared.calls.Refusal.TheVariants.{NoNode, NoFrame, Halted, NoRoom}
use Rattle.master.specs.declared.types.Letter.{Letter}
use Rattle.master.specs.declared.types.Letter.TheVariants as letter

-- 10 for a node that is 0 or above 127, 11 for an identifier above 2047 or more than 8 bytes, 12 for a work of a halted
-- master, 13 where something is due and the port has no room.
abbrev pub number_of : Refusal → ℕ
number_of NoNode = 10
number_of NoFrame = 11
number_of Halted = 12
number_of NoRoom = 13

-- Each refusal in words for the fitter.
abbrev pub sentence_of : Refusal → List ℕ
sentence_of NoNode = codes "a node is from 1 to 127"
sentence_of NoFrame = codes "no frame: the identifier is above 2047, or there are more than 8 bytes"
sentence_of Halted = codes "the master is halted"
sentence_of NoRoom = codes "something is due, and the port is full"

-- The letter of each result; OK for a slave that passed.
abbrev pub letters_of : Letter → List ℕ
letters_of letter.NotListed = codes "A"
letters_of letter.NoAnswer = codes "B"
letters_of letter.OtherType = codes "C"
letters_of letter.OtherVendor = codes "D"
letters_of letter.NoHeartbeat = codes "E"
letters_of letter.NotSet = codes "J"
letters_of letter.NoControl = codes "K"
letters_of letter.FoundRunning = codes "L"
letters_of letter.OtherProduct = codes "M"
letters_of letter.OtherRevision = codes "N"
letters_of letter.OtherSerial = codes "O"
letters_of letter.Ready = codes "OK"
