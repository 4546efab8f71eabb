-- A binary search for the slave of a node.
use Rattle.std.proofs.Common.{◌≡◌, ℕ, zero, suc, ◌<◌, List, [], ◌∷◌, map, length, get_or, Some, None, Ok, Err, Result, sym, refl, ap, ◌∙◌, ⊎_elim, subst, arith}
use Rattle.std.specs.List.Sorted.{IsBinarySearchResult, IsNonDecreasingBy}
use Rattle.std.specs.Ordering.{nat_cmp, ordering_index}
use Rattle.std.proofs.lemmas.Bool.{cond-false, ne_eqb, cases_lt}
use Rattle.std.proofs.lemmas.Bool.Decides.{nat_tests}
use Rattle.std.proofs.lemmas.Cmp.{ranked}
use Rattle.std.proofs.lemmas.List.{get_or-map, length-map}
use Rattle.sheet.specs.Format.{SlaveLines}
use Rattle.sheet.specs.Rules.{SlavesKeep}
use Rattle.sheet.specs.Views.{slave_of}
use Rattle.sheet.specs.declared.model.slave.Slave.{Slave}
use Rattle.master.specs.Network.{slave_by}
use Rattle.master.specs.Views.{blank}
use Rattle.master.proofs.Shortcuts.{every_at, hinted}
use Rattle.master.proofs.Spread.{Ranged, ranged}

-- the nodes of the listed slaves ascend
ascend : (own last : ℕ) (cs : List SlaveLines) → SlavesKeep own last cs → (i j : ℕ) → i < j → j < length cs → (get_or cs i blank).node < (get_or cs j blank).node
ascend own last [] k i j h e = absurd (omega arith)
ascend own last (c ∷ cs) k i zero h e = absurd (omega arith)
ascend own last (c ∷ cs) k zero (suc j) h e = let r = every_at (Ranged own c.node) cs j (omega arith) (ranged own c.node cs k.1) in r.above
ascend own last (c ∷ cs) k (suc i) (suc j) h e = ascend own c.node cs k.1 i j (omega arith) (omega arith)

not_listed : (n : ℕ) (cs : List SlaveLines) → ((i : ℕ) → i < length cs → (get_or cs i blank).node ≡ n → ⊥) → slave_by n cs ≡ None
not_listed n [] f = refl
not_listed n (c ∷ cs) f = cond-false _ _ _ (ne_eqb c.node n (f 0 (omega arith))) ∙ not_listed n cs (λ i h. f (suc i) (omega arith))

some_of : (xs : List Slave) (i : ℕ) → i < length xs → Slave
some_of [] i h = absurd (omega arith)
some_of (x ∷ xs) i h = x

module _ (own : ℕ) (xs : List Slave) (k : SlavesKeep own 0 (map slave_of xs)) (n : ℕ) where
  node_at : (i : ℕ) (d : Slave) → i < length xs → (get_or xs i d).node ≡ (get_or (map slave_of xs) i blank).node
  node_at i d h = ap (λ (c : SlaveLines). c.node) (sym (get_or-map slave_of xs i d blank h))

  rises : IsNonDecreasingBy (λ (s : Slave). ordering_index (nat_cmp s.node n)) xs
  rises i j d le h =
      let up : i < j → (get_or xs i d).node < (get_or xs j d).node =
      λ lt. let a = node_at i d (omega arith) in let b = node_at j d h in let z = ascend own 0 (map slave_of xs) k i j lt (omega (arith, length-map xs slave_of)) in omega arith in
      grind (arith, nat_tests, up, λ (same : i ≡ j). ap (λ m. (get_or xs m d).node) same)

  -- where it finds nothing, the nodes before the place are smaller and those from it on are greater
  absent_by : (at : ℕ) → IsBinarySearchResult (λ (s : Slave). nat_cmp s.node n) xs (Err at) → None ≡ slave_by n (map slave_of xs)
  absent_by at r = sym (not_listed n (map slave_of xs) (λ i h e.
      let inside : i < length xs = omega (arith, length-map xs slave_of) in
      let d : Slave = some_of xs i inside in
      let at_d = node_at i d inside in
      ⊎_elim
      (λ below. let z = ranked _ n _ (sym ((r rises).0 i d (omega arith) below)) in omega arith)
      (λ above. let z = ranked _ n _ (sym ((r rises).1 i d above inside)) in omega arith)
      (cases_lt i at)))

  -- a place whose slave has the node is the node's
  stands_by : (at : ℕ) (x : Slave) → at < length xs → x ≡ get_or xs at x → x.node ≡ n → Some (slave_of x) ≡ slave_by n (map slave_of xs)
  stands_by at x h e node =
      let here : slave_of x ≡ get_or (map slave_of xs) at blank = ap slave_of e ∙ sym (get_or-map slave_of xs at x blank h) in
      ap (λ c. Some c) here ∙ hinted own (map slave_of xs) k at n (slave_of x) (omega (arith, length-map xs slave_of)) here node

  pub stands : (ys : List Slave) → ys ≡ xs → (at : ℕ) (x : Slave) → at < length ys → x ≡ get_or ys at x → x.node ≡ n → Some (slave_of x) ≡ slave_by n (map slave_of xs)
  stands ys same at x h e node = stands_by at x (omega (arith, ap length same)) (e ∙ ap (λ zs. get_or zs at x) same) node

  -- where it finds a place, the slave there has the node
  present_by : (at : ℕ) (x : Slave) → at < length xs → x ≡ get_or xs at x → IsBinarySearchResult (λ (s : Slave). nat_cmp s.node n) xs (Ok at) → Some (slave_of x) ≡ slave_by n (map slave_of xs)
  present_by at x h e r = stands_by at x h e (ap (λ (s : Slave). s.node) e ∙ ranked _ n _ (sym (r x)))

  -- the same, of a search in a slice ys that holds the slaves xs
  module _ (ys : List Slave) (same : ys ≡ xs) (r : Result ℕ ℕ) (found : IsBinarySearchResult (λ (s : Slave). nat_cmp s.node n) ys r) where
    in_xs : IsBinarySearchResult (λ (s : Slave). nat_cmp s.node n) xs r
    in_xs = subst (λ z. IsBinarySearchResult (λ (s : Slave). nat_cmp s.node n) z r) same found

    pub absent : (at : ℕ) → r ≡ Err at → None ≡ slave_by n (map slave_of xs)
    absent at is = absent_by at (subst (IsBinarySearchResult (λ (s : Slave). nat_cmp s.node n) xs) is in_xs)

    pub present : (at : ℕ) (x : Slave) → r ≡ Ok at → at < length xs → x ≡ get_or xs at x → Some (slave_of x) ≡ slave_by n (map slave_of xs)
    present at x is h e = present_by at x h e (subst (IsBinarySearchResult (λ (s : Slave). nat_cmp s.node n) xs) is in_xs)
