-- Why the code's short ways lead where the long ones do.
use Rattle.std.proofs.Common.{◌≡◌, ℕ, zero, suc, ◌<◌, Bool, true, false, List, [], ◌∷◌, length, get_or, take, drop, is_some, Some, None, Option, sym, refl, ap, ◌∙◌, arith}
use Rattle.sheet.specs.Format.{SlaveLines}
use Rattle.sheet.specs.Rules.{SlavesKeep}
use Rattle.master.specs.Network.{State, slave_by, counted, going, first_due, due_or, next_due, or_else}
use Rattle.master.specs.Record.{Every}
use Rattle.master.specs.Step.{duty_of}
use Rattle.master.specs.Table.{entry_of}
use Rattle.master.specs.Views.{blank}
use Rattle.master.specs.declared.types.Duty.{Duty}
use Rattle.master.specs.declared.types.Entry.{Entry}
use Rattle.master.specs.declared.types.Quality.TheVariants as quality
use Rattle.master.specs.declared.types.Stage.{Stage}
use Rattle.master.specs.declared.types.Stage.TheVariants.{AwaitBoot, Ask, Asked, ListenState, ListenControl, Passed, Retry, ResetDue}
use Rattle.master.proofs.Origins.{known, every_take, every_drop}

pub every_at : (P : SlaveLines → Type 0) (cs : List SlaveLines) (i : ℕ) → i < length cs → Every P cs → P (get_or cs i blank)
every_at P [] i h e = absurd (omega arith)
every_at P (c ∷ cs) zero h e = e.0
every_at P (c ∷ cs) (suc i) h e = every_at P cs i (omega arith) e.1

-- A place where the slave has the node is the node's: no two slaves have one node.
pub hinted : (own : ℕ) (cs : List SlaveLines) → SlavesKeep own 0 cs → (i n : ℕ) (x : SlaveLines) → i < length cs → x ≡ get_or cs i blank → x.node ≡ n → Some (get_or cs i blank) ≡ slave_by n cs
hinted own cs k i n x inside is at =
    sym (every_at (λ d. slave_by d.node cs ≡ Some d) cs i inside (known own 0 cs k)) ∙ ap (λ m. slave_by m cs) (ap (λ (d : SlaveLines). d.node) (sym is) ∙ at)

-- what is not due while Go is never due
less_due : (go : Bool) (x : Stage) → duty_of true x ≡ None → duty_of go x ≡ None
less_due go (AwaitBoot left) h = refl
less_due go (Ask k) h = absurd (let z : ◌≡◌ {A = ℕ} 0 1 = cc in omega arith)
less_due go (Asked k left) h = refl
less_due go (ListenState left) h = refl
less_due go (ListenControl left running) h = refl
less_due true (Passed running started left) h = h
less_due false (Passed running started left) h = refl
less_due go (Retry left) h = refl
less_due go (ResetDue kind) h = absurd (let z : ◌≡◌ {A = ℕ} 0 1 = cc in omega arith)

abbrev OwedNothing : List Entry → SlaveLines → Type 0
OwedNothing t c = duty_of true (entry_of t c).stage ≡ None

nothing : (t : List Entry) (cs : List SlaveLines) → is_some (first_due true t cs) ≡ false → Every (OwedNothing t) cs
nothing t [] h = tt
nothing t (c ∷ cs) h = by (duty_of true (entry_of t c).stage) refl h (nothing t cs)
  where
    by : (o : Option Duty) → duty_of true (entry_of t c).stage ≡ o → is_some (due_or c o (first_due true t cs)) ≡ false → (is_some (first_due true t cs) ≡ false → Every (OwedNothing t) cs) → Every (OwedNothing t) (c ∷ cs)
    by None e g rest = (e, rest g)
    by (Some d) e g rest = absurd (let z : ◌≡◌ {A = ℕ} 0 1 = cc in omega arith)

none_due : (go : Bool) (t : List Entry) (cs : List SlaveLines) → Every (OwedNothing t) cs → first_due go t cs ≡ None
none_due go t [] h = refl
none_due go t (c ∷ cs) h = ap (λ o. due_or c o (first_due go t cs)) (less_due go (entry_of t c).stage h.0) ∙ none_due go t cs h.1

-- nobody is owed anything
pub nobody_due : (s : State) → is_some (first_due true s.entries s.lines.slaves) ≡ false → None ≡ next_due s
nobody_due s h =
    let k : ℕ = counted quality.Served s in
    let cs : List SlaveLines = s.lines.slaves in
    let all = nothing s.entries cs h in
    sym (ap (λ o. or_else o (first_due (going s) s.entries (take k cs))) (none_due (going s) s.entries (drop k cs) (every_drop (OwedNothing s.entries) k cs all)) ∙ none_due (going s) s.entries (take k cs) (every_take (OwedNothing s.entries) k cs all))
