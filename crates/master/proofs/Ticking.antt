-- The loop that ticks the slaves, step by step.
use Rattle.std.proofs.Common.{◌≡◌, ◌+◌, min, Bool, true, false, cond, List, ◌∷◌, sym, refl, ap, ◌∙◌, None, Option, Some}
use Rattle.std.proofs.lemmas.Bool.{cond-true, cond-false}
use Rattle.sheet.specs.Format.{SlaveLines}
use Rattle.master.specs.declared.types.Setback.{Setback}
use Rattle.master.specs.declared.types.Setback.TheVariants as setback
use Rattle.master.specs.declared.types.Input.{Input}
use Rattle.master.specs.declared.types.Input.TheVariants as input
use Rattle.master.specs.Network.{State, is_running, brings, brought_by, step_in, tick_from, ticked, with_entries, with_clock, tries_anew}
use Rattle.master.specs.Step.{stepped}
use Rattle.master.specs.Table.{entry_of, changed}

either : {X : Type 0} (b : Bool) (P : X → Type 0) (x y : X) → P x → P y → P (cond b x y)
either true P x y p q = p
either false P x y p q = q

brought_lines : (b : Option Setback) (s : State) → (brought_by b s).lines ≡ s.lines
brought_lines None s = refl
brought_lines (Some (setback.Missed l)) s = either (tries_anew l s) (λ (u : State). u.lines ≡ s.lines) _ _ refl refl
brought_lines (Some setback.Lost) s = either s.lines.stopall (λ (u : State). u.lines ≡ s.lines) _ _ refl (either s.lines.resetall (λ (u : State). u.lines ≡ s.lines) _ _ refl refl)

brings_lines : (m : Bool) (b : Option Setback) (s : State) → (brings m b s).lines ≡ s.lines
brings_lines true b s = brought_lines b s
brings_lines false b s = refl

-- a step leaves the sheet's lines
pub step_lines : (c : SlaveLines) (i : Input) (s : State) → (step_in c i s).lines ≡ s.lines
step_lines c i s =
    brings_lines c.mandatory (stepped c (entry_of s.entries c) i).brought (with_entries (changed s.entries c (stepped c (entry_of s.entries c) i).entry) s)

module _ (cs ds : List SlaveLines) (c : SlaveLines) (s u : State) (left : cs ≡ c ∷ ds) (step : u ≡ step_in c input.Tick s) where
  tick_at : tick_from cs s ≡ cond (is_running u.phase) (tick_from ds u) u
  tick_at = ap (λ z. tick_from z s) left ∙ ap (λ x. cond (is_running x.phase) (tick_from ds x) x) (sym step)

  pub tick_more : is_running u.phase ≡ true → tick_from cs s ≡ tick_from ds u
  tick_more r = tick_at ∙ cond-true _ _ _ r

  pub tick_stop : is_running u.phase ≡ false → tick_from cs s ≡ u
  tick_stop r = tick_at ∙ cond-false _ _ _ r

-- the whole tick, from what the loop has come to
module _ (s w : State) (run : is_running s.phase ≡ true) (e : w ≡ with_clock (min (s.clock + 1) 4294967295) s) where
  pub ticked_by : (u : State) → u ≡ tick_from s.lines.slaves w → u ≡ ticked s
  ticked_by u k = k ∙ ap (tick_from s.lines.slaves) e ∙ sym (cond-true _ _ _ run)
