-- Counts of answers that are all yes or all no.
use Rattle.std.proofs.Common.{◌≡◌, ℕ, Bool, true, false, cond, refl}

pub none_yet : (b : Bool) → ◌≡◌ {A = ℕ} 0 (cond b 0 0)
none_yet true = refl
none_yet false = refl
