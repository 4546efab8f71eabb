-- What a change of the table leaves at each listed slave.
use Rattle.std.proofs.Common.{◌≡◌, ℕ, ◌-◌, ◌<◌, ◌≤◌, cond, eqb, ◌≢◌, List, [], ◌∷◌, length, Some, None, Option, sym, refl, ap, ◌∙◌, subst, ⊎_elim, arith, length-set, get_or-set_other, get_or-set_same}
use Rattle.std.proofs.lemmas.Bool.{cases_eq, cases_Bool, cond-true, cond-false, eq-eqb, ne_eqb, eqb-true}
use Rattle.sheet.specs.Format.{SlaveLines}
use Rattle.sheet.specs.Rules.{SlavesKeep}
use Rattle.master.specs.declared.types.Change.{Change}
use Rattle.master.specs.declared.types.Entry.{Entry}
use Rattle.master.specs.Network.{slave_by}
use Rattle.master.specs.Record.{Every}
use Rattle.master.specs.Table.{fresh, entry_of, changed, change_by, applied, applied_all}

pub every_map : (P Q : SlaveLines → Type 0) (cs : List SlaveLines) → ((c : SlaveLines) → P c → Q c) → Every P cs → Every Q cs
every_map P Q [] f h = tt
every_map P Q (c ∷ cs) f h = (f c h.0, every_map P Q cs f h.1)

pub every_zip : (P Q R : SlaveLines → Type 0) (cs : List SlaveLines) → ((c : SlaveLines) → P c → Q c → R c) → Every P cs → Every Q cs → Every R cs
every_zip P Q R [] f h k = tt
every_zip P Q R (c ∷ cs) f h k = (f c h.0 k.0, every_zip P Q R cs f h.1 k.1)

-- the node of a listed slave, above `last`
pub record Ranged (own last : ℕ) (c : SlaveLines) : Type 0 where
  pub above : last < c.node
  pub high : c.node ≤ 127
  pub other : c.node ≡ own → ⊥

pub ranged : (own last : ℕ) (cs : List SlaveLines) → SlavesKeep own last cs → Every (Ranged own last) cs
ranged own last [] k = tt
ranged own last (c ∷ cs) k = (
  record { above = k.0.ascends; high = k.0.node_high; other = k.0.other },
  every_map (Ranged own c.node) (Ranged own last) cs (λ d r. let a = r.above in let b = k.0.ascends in record { above = omega arith; high = r.high; other = r.other }) (ranged own c.node cs k.1),
)

-- a slave is found by its node
pub found : (n own last : ℕ) (cs : List SlaveLines) → SlavesKeep own last cs → Every (λ d. d.node ≡ n → slave_by n cs ≡ Some d) cs
found n own last [] k = tt
found n own last (c ∷ cs) k = (
  λ e. cond-true _ _ _ (eq-eqb c.node n e),
  every_zip (Ranged own c.node) (λ d. d.node ≡ n → slave_by n cs ≡ Some d) (λ d. d.node ≡ n → slave_by n (c ∷ cs) ≡ Some d) cs
      (λ d r f e. let a = r.above in cond-false _ _ _ (ne_eqb c.node n (λ x. omega arith)) ∙ f e) (ranged own c.node cs k.1) (found n own c.node cs k.1),
)

-- who is found has the node, and is listed
pub record Has (own n : ℕ) (c : SlaveLines) : Type 0 where
  pub node : c.node ≡ n
  pub low : 1 ≤ c.node
  pub high : c.node ≤ 127
  pub other : c.node ≡ own → ⊥

pub has : (n own last : ℕ) (cs : List SlaveLines) (c : SlaveLines) → SlavesKeep own last cs → slave_by n cs ≡ Some c → Has own n c
has n own last [] c k e = let z : ◌≡◌ {A = ℕ} 0 1 = cc in absurd (omega arith)
has n own last (d ∷ ds) c k e =
    ⊎_elim
    (λ t.
    let same : d ≡ c = let y = sym (cond-true _ (Some d) (slave_by n ds) t) ∙ e in cc in
    subst (Has own n) same (record { node = eqb-true d.node n t; low = k.0.node_low; high = k.0.node_high; other = k.0.other }))
    (λ f. has n own d.node ds c k.1 (sym (cond-false _ (Some d) (slave_by n ds) f) ∙ e))
    (cases_Bool (eqb d.node n))

module _ (t : List Entry) (c : SlaveLines) (e : Entry) where
  pub entry_same : length t ≡ 127 → 1 ≤ c.node → c.node ≤ 127 → entry_of (changed t c e) c ≡ e
  entry_same l a b = get_or-set_same t (c.node - 1) e fresh (omega arith)

  pub entry_other : (d : SlaveLines) → 1 ≤ c.node → 1 ≤ d.node → (d.node ≡ c.node → ⊥) → entry_of (changed t c e) d ≡ entry_of t d
  entry_other d a b n = let ne : d.node - 1 ≢ c.node - 1 = λ x. n (omega arith) in get_or-set_other t (c.node - 1) (d.node - 1) e fresh ne

  pub changed_long : length t ≡ 127 → length (changed t c e) ≡ 127
  changed_long l = length-set t (c.node - 1) e ∙ l

-- the slave of node n changes by g, the others stay
abbrev pub changed_by : (SlaveLines → Entry → Entry) → List Entry → Option SlaveLines → List Entry
changed_by g t None = t
changed_by g t (Some c) = changed t c (g c (entry_of t c))

module _ (g : SlaveLines → Entry → Entry) (n own : ℕ) (cs : List SlaveLines) (k : SlavesKeep own 0 cs) (t : List Entry) (long : length t ≡ 127) where
  at_one : (o : Option SlaveLines) → slave_by n cs ≡ o → (d : SlaveLines) → Ranged own 0 d → (d.node ≡ n → slave_by n cs ≡ Some d) → entry_of (changed_by g t o) d ≡ cond (eqb d.node n) (g d (entry_of t d)) (entry_of t d)
  at_one None e d r f = sym (cond-false _ _ _ (ne_eqb d.node n (λ x. let y = sym (f x) ∙ e in let z : ◌≡◌ {A = ℕ} 0 1 = cc in omega arith)))
  at_one (Some c) e d r f =
      let h = has n own 0 cs c k e in
      ⊎_elim
      (λ x.
      let same : d ≡ c = let y = sym (f x) ∙ e in cc in
      subst (λ z. entry_of (changed t c (g c (entry_of t c))) z ≡ cond (eqb z.node n) (g z (entry_of t z)) (entry_of t z)) (sym same)
      (entry_same t c (g c (entry_of t c)) long h.low h.high ∙ sym (cond-true _ _ _ (eq-eqb c.node n h.node))))
      (λ x. entry_other t c (g c (entry_of t c)) d h.low (let a = r.above in omega arith) (λ y. x (y ∙ h.node)) ∙ sym (cond-false _ _ _ (ne_eqb d.node n x)))
      (cases_eq d.node n)

  pub spread : (o : Option SlaveLines) → slave_by n cs ≡ o → Every (λ d. entry_of (changed_by g t o) d ≡ cond (eqb d.node n) (g d (entry_of t d)) (entry_of t d)) cs
  spread o e = every_zip (Ranged own 0) (λ d. d.node ≡ n → slave_by n cs ≡ Some d) (λ d. entry_of (changed_by g t o) d ≡ cond (eqb d.node n) (g d (entry_of t d)) (entry_of t d)) cs (at_one o e) (ranged own 0 cs k) (found n own 0 cs k)

pub changed_by_long : (g : SlaveLines → Entry → Entry) (t : List Entry) (o : Option SlaveLines) → length t ≡ 127 → length (changed_by g t o) ≡ 127
changed_by_long g t None l = l
changed_by_long g t (Some c) l = changed_long t c (g c (entry_of t c)) l

-- all listed slaves change
applied_below : (g : Change) (own last : ℕ) (cs : List SlaveLines) (t : List Entry) → SlavesKeep own last cs → (d : SlaveLines) → 1 ≤ d.node → d.node ≤ last → entry_of (applied_all g cs t) d ≡ entry_of t d
applied_below g own last [] t k d a b = refl
applied_below g own last (c ∷ cs) t k d a b =
    let up = k.0.ascends in
    applied_below g own c.node cs (applied g t c) k.1 d a (omega arith) ∙ entry_other t c (change_by g c (entry_of t c)) d k.0.node_low a (λ x. omega arith)

pub applied_long : (g : Change) (cs : List SlaveLines) (t : List Entry) → length t ≡ 127 → length (applied_all g cs t) ≡ 127
applied_long g [] t l = l
applied_long g (c ∷ cs) t l = applied_long g cs (applied g t c) (changed_long t c (change_by g c (entry_of t c)) l)

pub spread_all : (g : Change) (own last : ℕ) (cs : List SlaveLines) (t : List Entry) → SlavesKeep own last cs → length t ≡ 127 → Every (λ d. entry_of (applied_all g cs t) d ≡ change_by g d (entry_of t d)) cs
spread_all g own last [] t k l = tt
spread_all g own last (c ∷ cs) t k l =
    let u = change_by g c (entry_of t c) in (
      applied_below g own c.node cs (applied g t c) k.1 c k.0.node_low (omega arith) ∙ entry_same t c u l k.0.node_low k.0.node_high,
      every_zip (Ranged own c.node) (λ d. entry_of (applied_all g cs (applied g t c)) d ≡ change_by g d (entry_of (applied g t c) d)) (λ d. entry_of (applied_all g cs (applied g t c)) d ≡ change_by g d (entry_of t d)) cs
          (λ d r e. let a = r.above in let low = k.0.node_low in e ∙ ap (change_by g d) (entry_other t c u d low (omega arith) (λ x. omega arith)))
          (ranged own c.node cs k.1) (spread_all g own c.node cs (applied g t c) k.1 (changed_long t c u l)),
    )
