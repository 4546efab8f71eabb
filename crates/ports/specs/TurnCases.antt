-- The sixteen ways in which three slots can have turns. Assumes nothing.
use Rattle.std.specs.Prelude.{◌≡◌, ℕ, zero, suc, Bool, true, false, ◌&&◌, leb, nat_le, refl}
use Rattle.std.proofs.Common.{arith}
use Rattle.std.proofs.lemmas.Bool.{leb-true, false≢true}
use Rattle.ports.specs.Turns.{fair}

and_left : (x y : Bool) → (x && y) ≡ true → x ≡ true
and_left true y h = refl
and_left false y h = h

and_right : (x y : Bool) → (x && y) ≡ true → y ≡ true
and_right true y h = h
and_right false y h = absurd (false≢true h)

-- a fact of a number up to 3, by its four cases
up_to_3 : (P : ℕ → Type 0) → P 0 → P 1 → P 2 → P 3 → (n : ℕ) → nat_le n 3 ≡ true → P n
up_to_3 P p q r s zero h = p
up_to_3 P p q r s (suc zero) h = q
up_to_3 P p q r s (suc (suc zero)) h = r
up_to_3 P p q r s (suc (suc (suc zero))) h = s
up_to_3 P p q r s (suc (suc (suc (suc n)))) h = absurd (omega (arith, leb-true (suc (suc (suc (suc n)))) 3 h))

-- turns that are not fair
no : {X : Type 0} → false ≡ true → X
no e = absurd (false≢true e)

-- a fact of three numbers that are fair turns, by the sixteen cases
module _ (P : ℕ → ℕ → ℕ → Type 0) (p000 : P 0 0 0) (p001 : P 0 0 1) (p010 : P 0 1 0) (p012 : P 0 1 2) (p021 : P 0 2 1) (p100 : P 1 0 0) (p102 : P 1 0 2) (p120 : P 1 2 0) (p123 : P 1 2 3) (p132 : P 1 3 2) (p201 : P 2 0 1) (p210 : P 2 1 0) (p213 : P 2 1 3) (p231 : P 2 3 1) (p312 : P 3 1 2) (p321 : P 3 2 1) where
  Case : ℕ → ℕ → ℕ → Type 0
  Case a b c = fair a b c ≡ true → P a b c

  pub by_turns : (a b c : ℕ) → fair a b c ≡ true → P a b c
  unfolding Case
  by_turns a b c h =
      let a≤3 : leb a 3 ≡ true = and_left (nat_le a 3) _ h in
      let h' = and_right (nat_le a 3) _ h in
      let b≤3 : leb b 3 ≡ true = and_left (nat_le b 3) _ h' in
      let c≤3 : leb c 3 ≡ true = and_left (nat_le c 3) _ (and_right (nat_le b 3) _ h') in
      up_to_3 (λ a. Case a b c)
      (up_to_3 (λ b. Case 0 b c)
      (up_to_3 (λ c. Case 0 0 c) (λ _. p000) (λ _. p001) no no c c≤3)
      (up_to_3 (λ c. Case 0 1 c) (λ _. p010) no (λ _. p012) no c c≤3)
      (up_to_3 (λ c. Case 0 2 c) no (λ _. p021) no no c c≤3)
      (up_to_3 (λ c. Case 0 3 c) no no no no c c≤3)
      b b≤3)
      (up_to_3 (λ b. Case 1 b c)
      (up_to_3 (λ c. Case 1 0 c) (λ _. p100) no (λ _. p102) no c c≤3)
      (up_to_3 (λ c. Case 1 1 c) no no no no c c≤3)
      (up_to_3 (λ c. Case 1 2 c) (λ _. p120) no no (λ _. p123) c c≤3)
      (up_to_3 (λ c. Case 1 3 c) no no (λ _. p132) no c c≤3)
      b b≤3)
      (up_to_3 (λ b. Case 2 b c)
      (up_to_3 (λ c. Case 2 0 c) no (λ _. p201) no no c c≤3)
      (up_to_3 (λ c. Case 2 1 c) (λ _. p210) no no (λ _. p213) c c≤3)
      (up_to_3 (λ c. Case 2 2 c) no no no no c c≤3)
      (up_to_3 (λ c. Case 2 3 c) no (λ _. p231) no no c c≤3)
      b b≤3)
      (up_to_3 (λ b. Case 3 b c)
      (up_to_3 (λ c. Case 3 0 c) no no no no c c≤3)
      (up_to_3 (λ c. Case 3 1 c) no no (λ _. p312) no c c≤3)
      (up_to_3 (λ c. Case 3 2 c) no (λ _. p321) no no c c≤3)
      (up_to_3 (λ c. Case 3 3 c) no no no no c c≤3)
      b b≤3)
      a a≤3 h
