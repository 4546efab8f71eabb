-- What holds of both sides of a choice holds of the choice.
use Rattle.std.proofs.Common.{◌≡◌, ℕ, Bool, true, false, cond, arith}

pub choose : {X : Type 0} (P : X → Type 0) (b : Bool) (x y : X) → P x → P y → P (cond b x y)
choose P true x y p q = p
choose P false x y p q = q

-- false is not true
pub no : {X : Type 0} → false ≡ true → X
no e = let z : ◌≡◌ {A = ℕ} 0 1 = cc in absurd (omega arith)
