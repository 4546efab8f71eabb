use Rattle.std.proofs.Common.{take, ◌++◌, flat_map}
use Rattle.std.specs.Fmt.{HasWritten, IsPlainFormatter, decimal}
use Rattle.frames.specs.Texts.{byte_text}
use Rattle.frames.proofs.frame.methods.FrameDisplay.fmt.Given as goal

abbrev pub invariant-loop-byte : goal.invariant-loop-byte
invariant-loop-byte g l =
    IsPlainFormatter l.fn.f → HasWritten g.W.Write.write_str_gives l.fn.f (decimal l.self.id ++ flat_map byte_text (take l.byte-index l.byte-items)) l.f
