-- The master says Go exactly when the number of listed slaves equals the number of them that the record clears.
use Rattle.std.proofs.Common.{◌≡◌, ℕ, ◌+◌, ◌<◌, ◌≤◌, Bool, true, false, cond, eqb, List, [], ◌∷◌, length, count_by, sym, refl, ap, ◌∙◌, inl, inr, arith}
use Rattle.std.proofs.lemmas.List.Sums.{count_by-le-length, sum_by-cons}
use Rattle.std.proofs.lemmas.Bool.{ne_eqb}
use Rattle.sheet.specs.Format.{SlaveLines, SheetLines}
use Rattle.sheet.specs.Rules.{SlavesKeep}
use Rattle.master.specs.Network.{State, going, holds}
use Rattle.master.specs.Record.{Event, reading, clears, has_passed, all_cleared}
use Rattle.master.specs.FromPort.{LeadsFrom}
use Rattle.master.specs.Session.{PortState, Machine, Step, record_of}
use Rattle.master.specs.Step.{is_cleared}
use Rattle.master.specs.Table.{entry_of}
use Rattle.master.specs.declared.types.Entry.{Entry}
use Rattle.master.specs.declared.types.Quality.TheVariants as quality
use Rattle.master.proofs.Agreement.{SomeOne, Same, Idle, Agrees, live, stopping, halted}
use Rattle.master.proofs.Leading.{agrees}
use Rattle.master.proofs.Seeing.{seen_cleared, seen_passed}
use Rattle.master.specs.Record.{Every}
use Rattle.master.proofs.Spread.{every_map}

pub count_cons : (p : SlaveLines → Bool) (c : SlaveLines) (cs : List SlaveLines) → count_by p (c ∷ cs) ≡ cond (p c) 1 0 + count_by p cs
count_cons p c cs = sum_by-cons (λ x. cond (p x) 1 0) c cs

pub count_same : (p q : SlaveLines → Bool) (cs : List SlaveLines) → Every (λ c. p c ≡ q c) cs → count_by p cs ≡ count_by q cs
count_same p q [] h = refl
count_same p q (c ∷ cs) h = count_cons p c cs ∙ (λ i. cond (h.0 i) 1 0 + count_same p q cs h.1 i) ∙ sym (count_cons q c cs)

less_one : (b : Bool) (x n : ℕ) → x < n → cond b 1 0 + x < 1 + n
less_one true x n h = omega arith
less_one false x n h = omega arith

pub count_less : (p : SlaveLines → Bool) (cs : List SlaveLines) → SomeOne (λ c. p c ≡ false) cs → count_by p cs < length cs
count_less p [] h = absurd h
count_less p (c ∷ cs) (inl e) = let k = count_by-le-length p cs in let z : ◌≡◌ {A = ℕ} (cond (p c) 1 0) 0 = ap (λ b. cond b 1 0) e in omega (arith, z, count_cons p c cs)
count_less p (c ∷ cs) (inr h) = let k = less_one (p c) (count_by p cs) (length cs) (count_less p cs h) in omega (arith, count_cons p c cs)

-- all pass that are counted in full
one_all : (b : Bool) (x n : ℕ) → cond b 1 0 + x ≡ 1 + n → x ≤ n → (b ≡ true) × (x ≡ n)
one_all true x n e l = (refl, omega arith)
one_all false x n e l = absurd (omega arith)

pub count_all : (p : SlaveLines → Bool) (cs : List SlaveLines) → count_by p cs ≡ length cs → Every (λ c. p c ≡ true) cs
count_all p [] e = tt
count_all p (c ∷ cs) e = let k = one_all (p c) (count_by p cs) (length cs) (omega (arith, e, count_cons p c cs)) (count_by-le-length p cs) in (k.0, count_all p cs k.1)

one_none : (b : Bool) (x : ℕ) → cond b 1 0 + x ≤ 0 → (b ≡ false) × (x ≤ 0)
one_none true x l = absurd (omega arith)
one_none false x l = (refl, omega arith)

pub count_none : (p : SlaveLines → Bool) (cs : List SlaveLines) → count_by p cs ≤ 0 → Every (λ c. p c ≡ false) cs
count_none p [] l = tt
count_none p (c ∷ cs) l = let k = one_none (p c) (count_by p cs) (omega (arith, l, count_cons p c cs)) in (k.0, count_none p cs k.1)

pub not_full : (p : SlaveLines → Bool) (cs : List SlaveLines) → SomeOne (λ c. p c ≡ false) cs → eqb (count_by p cs) (length cs) ≡ false
not_full p cs h = let k = count_less p cs h in ne_eqb (count_by p cs) (length cs) (λ e. omega arith)

some_map : (P Q : SlaveLines → Type 0) (cs : List SlaveLines) → ((c : SlaveLines) → P c → Q c) → SomeOne P cs → SomeOne Q cs
some_map P Q [] f k = absurd k
some_map P Q (c ∷ cs) f (inl p) = inl (f c p)
some_map P Q (c ∷ cs) f (inr p) = inr (some_map P Q cs f p)

module _ (ls : SheetLines) (h : List Event) (t : List Entry) (l : ℕ) where
  pub live_go : Every (Same ls h t) ls.slaves → eqb (count_by (holds quality.Cleared t l) ls.slaves) (length ls.slaves) ≡ all_cleared ls h
  live_go same =
      ap (λ n. eqb n (length ls.slaves))
      (count_same (holds quality.Cleared t l) (λ c. clears c (reading ls c h)) ls.slaves (every_map (Same ls h t) (λ c. is_cleared c (entry_of t c) ≡ clears c (reading ls c h)) ls.slaves (λ c e. seen_cleared c (entry_of t c) ∙ ap (clears c) e) same))

  pub dead_closed : SomeOne (Idle ls h t) ls.slaves → eqb (count_by (holds quality.Cleared t l) ls.slaves) (length ls.slaves) ≡ false
  dead_closed i =
      not_full (holds quality.Cleared t l) ls.slaves (some_map (Idle ls h t) (λ c. is_cleared c (entry_of t c) ≡ false) ls.slaves (λ c x. (λ j. cond (x.0 j) ((seen_passed (entry_of t c).stage ∙ ap has_passed x.1) j) (entry_of t c).once)) i)

  dead_go : SomeOne (Idle ls h t) ls.slaves → eqb (count_by (holds quality.Cleared t l) ls.slaves) (length ls.slaves) ≡ all_cleared ls h
  dead_go i =
      dead_closed i
      ∙ sym (not_full (λ c. clears c (reading ls c h)) ls.slaves (some_map (Idle ls h t) (λ c. clears c (reading ls c h) ≡ false) ls.slaves (λ c x. (λ j. cond (x.0 j) (ap has_passed x.2 j) (reading ls c h).once)) i))

go_by : (ls : SheetLines) (h : List Event) (s : State) → Agrees ls h s → going s ≡ all_cleared ls h
go_by ls h s (live t w l b n long same) = live_go ls h t l same
go_by ls h s (stopping t w l b n i) = dead_go ls h t l i
go_by ls h s (halted t w l b n i) = dead_go ls h t l i

-- after every row of calls
pub go_law : (ls : SheetLines) → SlavesKeep ls.own 0 ls.slaves → {p : PortState} (tr : List Step) (m : Machine) → LeadsFrom ls p tr m → going m.net ≡ all_cleared ls (record_of tr)
go_law ls k tr m g = go_by ls (record_of tr) m.net (agrees ls k tr m g)
