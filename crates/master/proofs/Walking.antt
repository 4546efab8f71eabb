-- Loops over the listed slaves.
use Rattle.std.proofs.Common.{◌≡◌, ℕ, ◌+◌, ◌-◌, ◌<◌, ◌≤◌, suc, Bool, cond, List, [], ◌∷◌, map, length, get_or, drop, Some, Option, sym, ap, ◌∙◌, subst, arith}
use Rattle.std.proofs.lemmas.List.{at_drop_more, at_drop_all, get_or-map, length-map}
use Rattle.sheet.specs.Views.{slave_of}
use Rattle.sheet.specs.declared.model.slave.Slave.{Slave}
use Rattle.master.specs.Network.{State, first_due, due_or, sweeps_to, single_after}
use Rattle.master.specs.Step.{duty_of}
use Rattle.master.specs.Table.{entry_of}
use Rattle.master.specs.Views.{blank}
use Rattle.master.specs.declared.types.Duty.{Duty}
use Rattle.master.specs.declared.types.Entry.{Entry}

begins : (xs : List Slave) (i : ℕ) (x : Slave) → i < length xs → x ≡ get_or xs i x → drop i (map slave_of xs) ≡ slave_of x ∷ drop (i + 1) (map slave_of xs)
begins xs i x h e =
    at_drop_more (λ cs. cs) (map slave_of xs) i blank (omega (arith, length-map xs slave_of))
    ∙ ap (λ c. c ∷ drop (i + 1) (map slave_of xs)) (sym (ap slave_of e ∙ sym (get_or-map slave_of xs i x blank h)))

ends : (xs : List Slave) (i : ℕ) → length xs ≤ i → drop i (map slave_of xs) ≡ []
ends xs i h = at_drop_all (λ cs. cs) (map slave_of xs) i (omega (arith, length-map xs slave_of))

-- a loop over ys, which are the slaves xs: what is left of them begins with the one at hand, and past the last nothing is left
module _ (ys xs : List Slave) (same : ys ≡ xs) (i : ℕ) where
  pub rest_is : (x : Slave) → i < length ys → x ≡ get_or ys i x → drop i (map slave_of xs) ≡ slave_of x ∷ drop (i + 1) (map slave_of xs)
  rest_is x h e = subst (λ zs. drop i (map slave_of zs) ≡ slave_of x ∷ drop (i + 1) (map slave_of zs)) same (begins ys i x h e)

  pub rest_none : length ys ≤ i → drop i (map slave_of xs) ≡ []
  rest_none h = subst (λ zs. drop i (map slave_of zs) ≡ []) same (ends ys i h)

-- a search for what is due: at the slave x with the entry e
pub due_is : (go : Bool) (t : List Entry) (xs : List Slave) (i : ℕ) (x : Slave) (e : Entry) → i < length xs → x ≡ get_or xs i x → e ≡ entry_of t (slave_of x) → {o : Option Duty} → duty_of go e.stage ≡ o
    → first_due go t (drop i (map slave_of xs)) ≡ due_or (slave_of x) o (first_due go t (drop (i + 1) (map slave_of xs)))
due_is go t xs i x e h is at is_due =
    ap (first_due go t) (begins xs i x h is) ∙ ap (λ y. due_or (slave_of x) y (first_due go t (drop (i + 1) (map slave_of xs)))) (ap (λ (y : Entry). duty_of go y.stage) (sym at) ∙ is_due)

-- a search for the next node of a sweep
pub single_at : (s : State) (n : ℕ) → n < 127 → single_after s (127 - n) n ≡ cond (sweeps_to s (n + 1)) (Some (n + 1)) (single_after s (127 - (n + 1)) (n + 1))
single_at s n h = let e : 127 - n ≡ suc (127 - (n + 1)) = omega arith in ap (λ k. single_after s k n) e
