-- What is heard of a slave, but for its boot-up.
use Rattle.std.proofs.Common.{◌≡◌, true, false, not, ap, refl, ◌∙◌}
use Rattle.frames.specs.declared.error_control.Sign.{Sign}
use Rattle.frames.specs.declared.error_control.Sign.TheVariants as sign
use Rattle.sheet.specs.Format.{SlaveLines}
use Rattle.master.specs.Step.{word_of, is_boot_up, saying, on_beat, on_sign}
use Rattle.master.specs.declared.types.Entry.{Entry}

-- a heartbeat is the last word first, and then what a heartbeat is at the stage
beat_is : (c : SlaveLines) (s : Sign) (e : Entry) → not (is_boot_up s) ≡ true → on_beat c s e.stage (saying (word_of s) e) ≡ on_sign c s e
beat_is c sign.BootUp e h = absurd (no h)
  where
    no : false ≡ true → ⊥
    no x = cc
beat_is c sign.Stopped e h = refl
beat_is c sign.Operational e h = refl
beat_is c sign.PreOperational e h = refl

pub beat : (c : SlaveLines) (s : Sign) (e n o : Entry) → not (is_boot_up s) ≡ true → n ≡ saying (word_of s) e → o ≡ on_beat c s n.stage n → o ≡ on_sign c s e
beat c s e n o h at f = f ∙ ap (λ (x : Entry). on_beat c s x.stage x) at ∙ beat_is c s e h
