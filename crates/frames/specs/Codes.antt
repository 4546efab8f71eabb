-- Bytes that stand for something, or for nothing known.
use Rattle.std.specs.Prelude.{◌≡◌, ℕ, Option, Result, IfErr}
use Rattle.std.specs.Result.{result_ok}
use Rattle.frames.specs.declared.unknown_code.UnknownCode.{UnknownCode}

-- What a byte stands for by a table, or the byte itself where it stands for nothing.
abbrev pub DecodesBy : {X : Type 0} → (ℕ → Option X) → ℕ → Result X UnknownCode → Type 0
DecodesBy by code r = (result_ok r ≡ by code) × IfErr r (λ e. e.0 ≡ code)
