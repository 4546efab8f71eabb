-- Whose turn it is: the slaves after the one last served, around to a slave that is owed something.
use Rattle.std.proofs.Common.{◌≡◌, ℕ, zero, suc, ◌+◌, ◌<◌, ◌≤◌, Bool, true, false, cond, ◌&&◌, ◌||◌, ltb, leb, ◌⊎◌, List, [], ◌∷◌, take, drop, Some, None, count_by, Option, sym, refl, ap, ◌∙◌, subst, inl, inr, ⊎_elim, arith}
use Rattle.std.proofs.lemmas.Bool.{cases_Bool, cases_lt, lt-ltb, le-ltb, le-leb, lt-leb}
use Rattle.std.proofs.lemmas.Bool.Decides.{nat_tests}
use Rattle.sheet.specs.Format.{SlaveLines}
use Rattle.sheet.specs.Rules.{SlavesKeep}
use Rattle.master.specs.Network.{State, slave_by, counted, going, first_due, due_or, next_due, or_else}
use Rattle.master.specs.Record.{Every}
use Rattle.master.specs.Step.{duty_of}
use Rattle.master.specs.Table.{entry_of}
use Rattle.master.specs.declared.types.Duty.{Duty}
use Rattle.master.specs.declared.types.Entry.{Entry}
use Rattle.master.specs.declared.types.Quality.TheVariants as quality
use Rattle.master.proofs.Agreement.{SomeOne, some_found}
use Rattle.master.proofs.Clearing.{count_cons}
use Rattle.master.proofs.Origins.{every_take}
use Rattle.master.proofs.Spread.{every_map, Ranged, ranged}

-- the nodes after l, around to e
abbrev pub in_arc : ℕ → ℕ → ℕ → Bool
in_arc l e n = cond (ltb l e) (ltb l n && leb n e) (ltb l n || leb n e)

pub arc_up : (l e n : ℕ) → l < n → n ≤ e → in_arc l e n ≡ true
arc_up l e n a b = let x = lt-ltb l e (omega arith) in let y = lt-ltb l n a in let z = le-leb n e b in grind (arith, nat_tests)

pub arc_over : (l e n : ℕ) → e ≤ l → (l < n) ⊎ (n ≤ e) → in_arc l e n ≡ true
arc_over l e n a (inl b) = let x = le-ltb l e a in let y = lt-ltb l n b in grind (arith, nat_tests)
arc_over l e n a (inr b) = let x = le-ltb l e a in let z = le-leb n e b in grind (arith, nat_tests)

arc_is : (l e n : ℕ) → in_arc l e n ≡ true → ((l < n) × (n ≤ e)) ⊎ ((e ≤ l) × ((l < n) ⊎ (n ≤ e)))
arc_is l e n h =
    ⊎_elim
    (λ a. ⊎_elim (λ b. ⊎_elim (λ d. let x = lt-ltb l e a in let y = lt-leb n e d in absurd (no (grind (arith, nat_tests)))) (λ d. inl (b, d)) (cases_lt e n)) (λ b. let x = lt-ltb l e a in let y = le-ltb l n b in absurd (no (grind (arith, nat_tests)))) (cases_lt l n))
    (λ a. inr (a, ⊎_elim (λ b. inl b) (λ b. ⊎_elim (λ d. let x = le-ltb l e a in let y = le-ltb l n b in let z = lt-leb n e d in absurd (no (grind (arith, nat_tests)))) (λ d. inr d) (cases_lt e n)) (cases_lt l n)))
    (cases_lt l e)
  where
    no : ◌≡◌ {A = ℕ} 0 1 → ⊥
    no x = omega arith

pub arc_self : (l e : ℕ) → in_arc l e e ≡ true
arc_self l e = ⊎_elim (λ a. arc_up l e e a (omega arith)) (λ a. arc_over l e e a (inr (omega arith))) (cases_lt l e)

-- from a node on the way the rest of the way is shorter
arc_in : (l e x : ℕ) → ((l < x) × (x ≤ e)) ⊎ ((e ≤ l) × ((l < x) ⊎ (x ≤ e))) → in_arc l e x ≡ true
arc_in l e x (inl p) = arc_up l e x p.0 p.1
arc_in l e x (inr p) = arc_over l e x p.0 p.1

pub arc_mono : (l e n x : ℕ) → in_arc l e n ≡ true → (n ≡ e → ⊥) → in_arc n e x ≡ true → in_arc l e x ≡ true
arc_mono l e n x a d b = arc_in l e x (go (arc_is l e n a) (arc_is n e x b))
  where
    go : ((l < n) × (n ≤ e)) ⊎ ((e ≤ l) × ((l < n) ⊎ (n ≤ e))) → ((n < x) × (x ≤ e)) ⊎ ((e ≤ n) × ((n < x) ⊎ (x ≤ e))) → ((l < x) × (x ≤ e)) ⊎ ((e ≤ l) × ((l < x) ⊎ (x ≤ e)))
    go (inl p) (inl q) = let p0 = p.0 in let q0 = q.0 in inl (omega arith, q.1)
    go (inl p) (inr q) = let p1 = p.1 in let q0 = q.0 in absurd (d (omega arith))
    go (inr p) (inl q) = inr (p.0, inr q.1)
    go (inr (p, inl r)) (inr (q, inl u)) = inr (p, inl (omega arith))
    go (inr (p, inl r)) (inr (q, inr u)) = inr (p, inr u)
    go (inr (p, inr r)) (inr (q, u)) = absurd (d (omega arith))

pub arc_out : (e n : ℕ) → (n ≡ e → ⊥) → in_arc n e n ≡ false
arc_out e n d =
    ⊎_elim (λ h. h) (λ h. absurd (go (arc_is n e n h))) (flip (cases_Bool (in_arc n e n)))
  where
    go : ((n < n) × (n ≤ e)) ⊎ ((e ≤ n) × ((n < n) ⊎ (n ≤ e))) → ⊥
    go (inl p) = let p0 = p.0 in omega arith
    go (inr (p, inl r)) = omega arith
    go (inr (p, inr r)) = d (omega arith)

    flip : (in_arc n e n ≡ true) ⊎ (in_arc n e n ≡ false) → (in_arc n e n ≡ false) ⊎ (in_arc n e n ≡ true)
    flip (inl x) = inr x
    flip (inr x) = inl x

one_less : (a b : Bool) (x y : ℕ) → (a ≡ true → b ≡ true) → x < y → cond a 1 0 + x < cond b 1 0 + y
one_less true true x y f h = omega arith
one_less true false x y f h = absurd (let z = f refl in let w : ◌≡◌ {A = ℕ} 0 1 = cc in omega arith)
one_less false true x y f h = omega arith
one_less false false x y f h = omega arith

one_same : (a b : Bool) (x y : ℕ) → (a ≡ true → b ≡ true) → x ≤ y → cond a 1 0 + x ≤ cond b 1 0 + y
one_same true true x y f h = omega arith
one_same true false x y f h = absurd (let z = f refl in let w : ◌≡◌ {A = ℕ} 0 1 = cc in omega arith)
one_same false true x y f h = omega arith
one_same false false x y f h = omega arith

module _ (p q : SlaveLines → Bool) where
  count_mono : (cs : List SlaveLines) → Every (λ c. q c ≡ true → p c ≡ true) cs → count_by q cs ≤ count_by p cs
  count_mono [] h = omega arith
  count_mono (c ∷ cs) h = let k = one_same (q c) (p c) (count_by q cs) (count_by p cs) h.0 (count_mono cs h.1) in omega (arith, count_cons q c cs, count_cons p c cs)

  pub count_strict : (cs : List SlaveLines) → Every (λ c. q c ≡ true → p c ≡ true) cs → SomeOne (λ c. (p c ≡ true) × (q c ≡ false)) cs → count_by q cs < count_by p cs
  count_strict [] h k = absurd k
  count_strict (c ∷ cs) h (inl e) =
      let m = count_mono cs h.1 in
      let x : ◌≡◌ {A = ℕ} (cond (p c) 1 0) 1 = ap (λ b. cond b 1 0) e.0 in
      let y : ◌≡◌ {A = ℕ} (cond (q c) 1 0) 0 = ap (λ b. cond b 1 0) e.1 in
      omega (arith, x, y, count_cons q c cs, count_cons p c cs)
  count_strict (c ∷ cs) h (inr e) = let k = one_less (q c) (p c) (count_by q cs) (count_by p cs) h.0 (count_strict cs h.1 e) in omega (arith, count_cons q c cs, count_cons p c cs)

-- lists whose nodes ascend
abbrev Asc : List SlaveLines → Type 0
Asc [] = Unit {0}
Asc (c ∷ cs) = Every (λ d. c.node < d.node) cs × Asc cs

asc : (own last : ℕ) (cs : List SlaveLines) → SlavesKeep own last cs → Asc cs
asc own last [] k = tt
asc own last (c ∷ cs) k = (every_map (Ranged own c.node) (λ d. c.node < d.node) cs (λ d r. r.above) (ranged own c.node cs k.1), asc own c.node cs k.1)

asc_take : (n : ℕ) (cs : List SlaveLines) → Asc cs → Asc (take n cs)
asc_take zero [] h = tt
asc_take zero (c ∷ cs) h = tt
asc_take (suc n) [] h = tt
asc_take (suc n) (c ∷ cs) h = (every_take (λ d. c.node < d.node) n cs h.0, asc_take n cs h.1)

asc_drop : (n : ℕ) (cs : List SlaveLines) → Asc cs → Asc (drop n cs)
asc_drop zero [] h = tt
asc_drop zero (c ∷ cs) h = h
asc_drop (suc n) [] h = tt
asc_drop (suc n) (c ∷ cs) h = asc_drop n cs h.1

abbrev In : SlaveLines → List SlaveLines → Type 0
In c cs = SomeOne (λ d. d ≡ c) cs

in_split : (c : SlaveLines) (n : ℕ) (cs : List SlaveLines) → In c cs → In c (take n cs) ⊎ In c (drop n cs)
in_split c n [] k = absurd k
in_split c zero (d ∷ ds) k = inr k
in_split c (suc n) (d ∷ ds) (inl e) = inl (inl e)
in_split c (suc n) (d ∷ ds) (inr k) = ⊎_elim (λ x. inl (inr x)) (λ x. inr x) (in_split c n ds k)

every_in : (P : SlaveLines → Type 0) (c : SlaveLines) (cs : List SlaveLines) → Every P cs → In c cs → P c
every_in P c [] h k = absurd k
every_in P c (d ∷ ds) h (inl e) = subst P e h.0
every_in P c (d ∷ ds) h (inr k) = every_in P c ds h.1 k

-- those served so far come first
module _ (last : ℕ) where
  abbrev up_to : SlaveLines → Bool
  up_to c = leb c.node last

  none_up : (cs : List SlaveLines) → Every (λ d. last < d.node) cs → count_by up_to cs ≡ 0
  none_up [] h = refl
  none_up (c ∷ cs) h =
      let x : ◌≡◌ {A = ℕ} (cond (up_to c) 1 0) 0 = ap (λ b. cond b 1 0) (lt-leb c.node last h.0) in
      let y = none_up cs h.1 in
      omega (arith, x, y, count_cons up_to c cs)

  -- the front is served, and the rest comes after
  pub cut : (cs : List SlaveLines) → Asc cs → (k : ℕ) → k ≡ count_by up_to cs → Every (λ d. d.node ≤ last) (take k cs) × Every (λ d. last < d.node) (drop k cs)
  cut [] a zero e = (tt, tt)
  cut [] a (suc k) e = absurd (let z : suc k ≡ 0 = e in omega arith)
  cut (c ∷ cs) a zero e =
      ⊎_elim
      (λ h. let x : ◌≡◌ {A = ℕ} (cond (up_to c) 1 0) 1 = ap (λ b. cond b 1 0) (le-leb c.node last h) in absurd (omega (arith, x, e, count_cons up_to c cs)))
      (λ h. (tt, (h, every_map (λ d. c.node < d.node) (λ d. last < d.node) cs (λ d y. omega arith) a.0)))
      (up_or c.node)
    where
      up_or : (n : ℕ) → (n ≤ last) ⊎ (last < n)
      up_or n = ⊎_elim (λ x. inr x) (λ x. inl x) (cases_lt last n)
  cut (c ∷ cs) a (suc k) e =
      ⊎_elim
      (λ h.
      let x : ◌≡◌ {A = ℕ} (cond (up_to c) 1 0) 1 = ap (λ b. cond b 1 0) (le-leb c.node last h) in
      let r = cut cs a.1 k (omega (arith, x, e, count_cons up_to c cs)) in
      ((h, r.0), r.1))
      (λ h.
      let x = none_up (c ∷ cs) (h, every_map (λ d. c.node < d.node) (λ d. last < d.node) cs (λ d y. omega arith) a.0) in
      absurd (omega (arith, x, e)))
      (up_or c.node)
    where
      up_or : (n : ℕ) → (n ≤ last) ⊎ (last < n)
      up_or n = ⊎_elim (λ x. inr x) (λ x. inl x) (cases_lt last n)

-- the first that is owed something
module _ (go : Bool) (t : List Entry) where
  first_at : (y : SlaveLines) (o : Option Duty) (r : Option (ℕ × Duty)) (q : ℕ × Duty) → due_or y o r ≡ Some q → (y.node ≡ q.0) ⊎ (r ≡ Some q)
  first_at y None r q e = inr e
  first_at y (Some d) r q e = let x : ◌≡◌ {A = ℕ × Duty} (y.node, d) q = cc in inl (ap (λ (z : ℕ × Duty). z.0) x)

  pub first_in : (xs : List SlaveLines) (q : ℕ × Duty) → first_due go t xs ≡ Some q → SomeOne (λ x. x.node ≡ q.0) xs
  first_in [] q e = absurd (let z : ◌≡◌ {A = ℕ} 0 1 = cc in omega arith)
  first_in (y ∷ ys) q e = ⊎_elim (λ x. inl x) (λ x. inr (first_in ys q x)) (first_at y (duty_of go (entry_of t y).stage) (first_due go t ys) q e)

  pub record First (e : ℕ) (xs : List SlaveLines) : Type 0 where
    pub due : ℕ × Duty
    pub found : first_due go t xs ≡ Some due
    pub before : due.0 ≤ e

  first_by : (y : SlaveLines) (ys : List SlaveLines) (e : ℕ) (o : Option Duty) → duty_of go (entry_of t y).stage ≡ o → y.node ≤ e → (duty_of go (entry_of t y).stage ≡ None → First e ys) → First e (y ∷ ys)
  first_by y ys e (Some d) x l f = record { due = (y.node, d); found = ap (λ z. due_or y z (first_due go t ys)) x; before = l }
  first_by y ys e None x l f = let r = f x in record { due = r.due; found = ap (λ z. due_or y z (first_due go t ys)) x ∙ r.found; before = r.before }

  pub first_before : (c : SlaveLines) (d : Duty) → duty_of go (entry_of t c).stage ≡ Some d → (xs : List SlaveLines) → Asc xs → In c xs → First c.node xs
  first_before c d h [] a k = absurd k
  first_before c d h (y ∷ ys) a (inl e) =
      first_by y ys c.node (duty_of go (entry_of t y).stage) refl (let n = ap (λ (z : SlaveLines). z.node) e in omega arith)
      (λ x. absurd (let w = sym (ap (λ z. duty_of go (entry_of t z).stage) e) ∙ x in let v = sym h ∙ w in let z : ◌≡◌ {A = ℕ} 0 1 = cc in omega arith))
  first_before c d h (y ∷ ys) a (inr k) =
      first_by y ys c.node (duty_of go (entry_of t y).stage) refl (let n = every_in (λ z. y.node < z.node) c ys a.0 k in omega arith) (λ _. first_before c d h ys a.1 k)

some_every : (P Q : SlaveLines → Type 0) (R : Type 0) (cs : List SlaveLines) → ((c : SlaveLines) → P c → Q c → R) → Every P cs → SomeOne Q cs → R
some_every P Q R [] f h k = absurd k
some_every P Q R (c ∷ cs) f h (inl p) = f c h.0 p
some_every P Q R (c ∷ cs) f h (inr p) = some_every P Q R cs f h.1 p

-- While a slave is owed something, the next that is served stands on the way to it.
module _ (s : State) (k : SlavesKeep s.lines.own 0 s.lines.slaves) (c : SlaveLines) (e : ℕ) (is : slave_by e s.lines.slaves ≡ Some c) (node : c.node ≡ e) (d : Duty) (due : duty_of (going s) (entry_of s.entries c).stage ≡ Some d) where
  pub record Chosen : Type 0 where
    pub next : ℕ × Duty
    pub found : next_due s ≡ Some next
    pub way : in_arc s.last e next.0 ≡ true

  abbrev cs : List SlaveLines
  cs = s.lines.slaves

  abbrev n : ℕ
  n = counted quality.Served s

  chosen_by : (o : Option (ℕ × Duty)) → first_due (going s) s.entries (drop n cs) ≡ o → Every (λ x. x.node ≤ s.last) (take n cs) → Every (λ x. s.last < x.node) (drop n cs) → In c (take n cs) ⊎ In c (drop n cs) → Chosen
  chosen_by o x low high (inr k2) =
      let f = first_before (going s) s.entries c d due (drop n cs) (asc_drop n cs (asc s.lines.own 0 cs k)) k2 in
      let b = f.before in
      record {
        next = f.due;
        found = ap (λ z. or_else z (first_due (going s) s.entries (take n cs))) f.found;
        way = arc_up s.last e f.due.0 (some_every (λ x. s.last < x.node) (λ x. x.node ≡ f.due.0) (s.last < f.due.0) (drop n cs) (λ y p q. omega arith) high (first_in (going s) s.entries (drop n cs) f.due f.found)) (omega (arith, b, node));
      }
  chosen_by (Some q) x low high (inl k1) =
      let under : c.node ≤ s.last = every_in (λ x. x.node ≤ s.last) c (take n cs) low k1 in
      record {
        next = q;
        found = ap (λ z. or_else z (first_due (going s) s.entries (take n cs))) x;
        way = arc_over s.last e q.0 (omega (arith, node)) (inl (some_every (λ x. s.last < x.node) (λ x. x.node ≡ q.0) (s.last < q.0) (drop n cs) (λ y p r. omega arith) high (first_in (going s) s.entries (drop n cs) q x)));
      }
  chosen_by None x low high (inl k1) =
      let under : c.node ≤ s.last = every_in (λ x. x.node ≤ s.last) c (take n cs) low k1 in
      let f = first_before (going s) s.entries c d due (take n cs) (asc_take n cs (asc s.lines.own 0 cs k)) k1 in
      let b = f.before in
      record {
        next = f.due;
        found = ap (λ z. or_else z (first_due (going s) s.entries (take n cs))) x ∙ f.found;
        way = arc_over s.last e f.due.0 (omega (arith, node)) (inr (omega (arith, b, node)));
      }

  pub chosen : Chosen
  chosen =
      let r = cut s.last cs (asc s.lines.own 0 cs k) n refl in
      chosen_by (first_due (going s) s.entries (drop n cs)) refl r.0 r.1 (in_split c n cs (some_found (λ x. x ≡ c) e cs c is refl))
