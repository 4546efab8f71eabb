-- Where a plan comes from: what held when it was made.
use Rattle.std.proofs.Common.{◌≡◌, ℕ, zero, suc, ◌+◌, ◌-◌, ◌≤◌, true, ltb, List, [], ◌∷◌, take, drop, Some, None, Option, sym, refl, ap, ◌∙◌, subst, ⊎_elim, arith}
use Rattle.std.proofs.lemmas.Bool.{cases_Bool, cond-true, cond-false, ltb-false}
use Rattle.sheet.specs.Format.{SlaveLines}
use Rattle.sheet.specs.Rules.{SlavesKeep}
use Rattle.master.specs.Network.{State, slave_by, counted, going, sweeps_to, single_after, first_due, due_or, next_due, or_else, starts_all, serve_plan, duty_plan_from, duty_plan, single_or, single_plan, sweep_plan, phase_plan, planned}
use Rattle.master.specs.Step.{duty_of}
use Rattle.master.specs.Table.{entry_of}
use Rattle.master.specs.declared.types.Duty.{Duty}
use Rattle.master.specs.declared.types.Duty.TheVariants as duty
use Rattle.master.specs.declared.types.Phase.{Phase}
use Rattle.master.specs.declared.types.Phase.TheVariants.{Running, StopDue, Halted}
use Rattle.master.specs.declared.types.Plan.{Plan}
use Rattle.master.specs.declared.types.Plan.TheVariants as plan
use Rattle.master.specs.declared.types.Quality.TheVariants as quality
use Rattle.master.specs.declared.types.ResetKind.{ResetKind}
use Rattle.master.specs.declared.types.Sweep.{Sweep}
use Rattle.master.specs.declared.types.Sweep.TheVariants.{Begun, Singles}
use Rattle.master.specs.Record.{Every}
use Rattle.master.proofs.Spread.{found}

-- a listed slave of node n that is owed d
pub record Owed (s : State) (n : ℕ) (d : Duty) : Type 0 where
  pub slave : SlaveLines
  pub listed : slave_by n s.lines.slaves ≡ Some slave
  pub due : duty_of (going s) (entry_of s.entries slave).stage ≡ Some d

abbrev pub Origin : State → Plan → Type 0
Origin s plan.Nothing = Unit {0}
Origin s plan.Stop = s.phase ≡ StopDue
Origin s (plan.ResetAll k) = counted quality.Spared s ≤ 0
Origin s (plan.ResetOne k n) = (1 ≤ n) × (sweeps_to s n ≡ true)
Origin s (plan.Serve n d) = Owed s n d
Origin s (plan.StartAll n) = Owed s n duty.Start × (starts_all s ≡ true)

abbrev pub Known : List SlaveLines → SlaveLines → Type 0
Known cs d = slave_by d.node cs ≡ Some d

pub known : (own last : ℕ) (cs : List SlaveLines) → SlavesKeep own last cs → Every (Known cs) cs
known own last cs k = go cs (λ n. found n own last cs k)
  where
    go : (xs : List SlaveLines) → ((n : ℕ) → Every (λ d. d.node ≡ n → slave_by n cs ≡ Some d) xs) → Every (Known cs) xs
    go [] f = tt
    go (x ∷ xs) f = ((f x.node).0 refl, go xs (λ n. (f n).1))

pub every_take : (P : SlaveLines → Type 0) (n : ℕ) (cs : List SlaveLines) → Every P cs → Every P (take n cs)
every_take P zero [] h = tt
every_take P zero (c ∷ cs) h = tt
every_take P (suc n) [] h = tt
every_take P (suc n) (c ∷ cs) h = (h.0, every_take P n cs h.1)

pub every_drop : (P : SlaveLines → Type 0) (n : ℕ) (cs : List SlaveLines) → Every P cs → Every P (drop n cs)
every_drop P zero [] h = tt
every_drop P zero (c ∷ cs) h = h
every_drop P (suc n) [] h = tt
every_drop P (suc n) (c ∷ cs) h = every_drop P n cs h.1

module _ (s : State) (k : SlavesKeep s.lines.own 0 s.lines.slaves) where
  due_here : (c : SlaveLines) → Known s.lines.slaves c → (o : Option Duty) → duty_of (going s) (entry_of s.entries c).stage ≡ o → (r : Option (ℕ × Duty)) → ((p : ℕ × Duty) → r ≡ Some p → Owed s p.0 p.1)
      → (p : ℕ × Duty) → due_or c o r ≡ Some p → Owed s p.0 p.1
  due_here c h None e r f p x = f p x
  due_here c h (Some d) e r f p x =
      let pair : ◌≡◌ {A = ℕ × Duty} (c.node, d) p = cc in
      subst (λ (q : ℕ × Duty). Owed s q.0 q.1) pair (record { slave = c; listed = h; due = e })

  due_in : (cs : List SlaveLines) → Every (Known s.lines.slaves) cs → (p : ℕ × Duty) → first_due (going s) s.entries cs ≡ Some p → Owed s p.0 p.1
  due_in [] h p x = let z : ◌≡◌ {A = ℕ} 0 1 = cc in absurd (omega arith)
  due_in (c ∷ cs) h p x = due_here c h.0 (duty_of (going s) (entry_of s.entries c).stage) refl (first_due (going s) s.entries cs) (due_in cs h.1) p x

  due_else : (a b : Option (ℕ × Duty)) → ((p : ℕ × Duty) → a ≡ Some p → Owed s p.0 p.1) → ((p : ℕ × Duty) → b ≡ Some p → Owed s p.0 p.1) → (p : ℕ × Duty) → or_else a b ≡ Some p → Owed s p.0 p.1
  due_else None b f g p x = g p x
  due_else (Some q) b f g p x = f p x

  pub due_next : (p : ℕ × Duty) → next_due s ≡ Some p → Owed s p.0 p.1
  due_next =
      let all = known s.lines.own 0 s.lines.slaves k in
      let n = counted quality.Served s in
      due_else (first_due (going s) s.entries (drop n s.lines.slaves)) (first_due (going s) s.entries (take n s.lines.slaves))
      (due_in (drop n s.lines.slaves) (every_drop (Known s.lines.slaves) n s.lines.slaves all)) (due_in (take n s.lines.slaves) (every_take (Known s.lines.slaves) n s.lines.slaves all))

  serves : (n : ℕ) (d : Duty) → Owed s n d → Origin s (serve_plan s n d)
  serves n (duty.Reset r) o = o
  serves n (duty.Request c) o = o
  serves n duty.Start o =
      ⊎_elim (λ t. subst (Origin s) (sym (cond-true _ (plan.StartAll n) (plan.Serve n duty.Start) t)) (o, t)) (λ f. subst (Origin s) (sym (cond-false _ (plan.StartAll n) (plan.Serve n duty.Start) f)) o) (cases_Bool (starts_all s))

  duties : (o : Option (ℕ × Duty)) → next_due s ≡ o → Origin s (duty_plan_from s o)
  duties None e = tt
  duties (Some p) e = serves p.0 p.1 (due_next p e)

  pub duty_origin : Origin s (duty_plan s)
  duty_origin = duties (next_due s) refl

  single : (n m : ℕ) (o : Option ℕ) → single_after s n m ≡ o → (r : ResetKind) → Origin s (single_or r o (duty_plan s))
  single n m None e r = duty_origin
  single zero m (Some x) e r = let z : ◌≡◌ {A = ℕ} 0 1 = cc in absurd (omega arith)
  single (suc n) m (Some x) e r =
      ⊎_elim
      (λ t. let is : m + 1 ≡ x = let y = sym (cond-true _ (Some (m + 1)) (single_after s n (m + 1)) t) ∙ e in cc in (omega (arith, is), ap (sweeps_to s) (sym is) ∙ t))
      (λ f. single n (m + 1) (Some x) (sym (cond-false _ (Some (m + 1)) (single_after s n (m + 1)) f) ∙ e) r)
      (cases_Bool (sweeps_to s (m + 1)))

  single_origin : (r : ResetKind) (m : ℕ) → Origin s (single_plan s r m)
  single_origin r m = single (127 - m) m (single_after s (127 - m) m) refl r

  sweep_origin : (w : Option Sweep) → Origin s (sweep_plan s w)
  sweep_origin None = duty_origin
  sweep_origin (Some (Begun r)) =
      ⊎_elim
      (λ t. subst (Origin s) (sym (cond-true _ (single_plan s r 0) (plan.ResetAll r) t)) (single_origin r 0))
      (λ f. subst (Origin s) (sym (cond-false _ (single_plan s r 0) (plan.ResetAll r) f)) (ltb-false 0 (counted quality.Spared s) f))
      (cases_Bool (ltb 0 (counted quality.Spared s)))
  sweep_origin (Some (Singles r m)) = single_origin r m

  phase_origin : (p : Phase) → s.phase ≡ p → Origin s (phase_plan s p)
  phase_origin Running e = sweep_origin s.sweep
  phase_origin StopDue e = e
  phase_origin Halted e = sweep_origin s.sweep

  -- what held when a plan was made
  pub origin : Origin s (planned s)
  origin = phase_origin s.phase refl
