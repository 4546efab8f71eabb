-- A line whose number passes a range first, and then a test of its own.
use Rattle.std.proofs.Common.{◌≡◌, ℕ, Bool, true, false, cond, ◌&&◌, leb, List, Some, None, Ok, Err, Option, Result, IsErrAnd}
use Rattle.sheet.specs.declared.faults.Fault.{Fault}
use Rattle.sheet.specs.declared.faults.Fault.TheVariants.{Line, Range}
use Rattle.sheet.specs.declared.faults.LineFault.{LineFault}
use Rattle.sheet.specs.declared.keys.Key.{Key}
use Rattle.sheet.specs.Lines.{bind, raised, line_of}
use Rattle.sheet.specs.Codec.{judged, read_field}
use Rattle.sheet.specs.Reads.{Reads}
use Rattle.sheet.specs.Format.{within, under}
use Rattle.sheet.proofs.Loops.{reads_err}

refused : (b : Bool) (o : Option (ℕ → Fault)) (g : ℕ → Fault) (l n : ℕ) (t : List ℕ) (e : Fault) → judged (cond b None (Some g)) l n t ≡ Err e → judged (cond b o (Some g)) l n t ≡ Err e
refused true o g l n t e h = cc
refused false o g l n t e h = h

module _ (key : Key) (low high : ℕ) (bad : ℕ → Bool) (f : ℕ → Fault) (l : ℕ) (e : Fault) where
  from_line : (q : Result (ℕ × List ℕ) LineFault) → bind (raised (λ x. Line x) q) (λ p. judged (within key low high p.0) l p.0 p.1) ≡ Err e → bind (raised (λ x. Line x) q) (λ p. judged (under key low high bad f p.0) l p.0 p.1) ≡ Err e
  from_line (Ok p) h = refused (leb low p.0 && leb p.0 high) (cond (bad p.0) (Some f) None) (λ l. Range l key low high) l p.0 p.1 e h
  from_line (Err x) h = h

  -- what the range refuses is refused whatever the test says
  pub under_stops : (t : List ℕ) → read_field key (within key low high) l t ≡ Err e → read_field key (under key low high bad f) l t ≡ Err e
  under_stops t h = from_line (line_of l key t) h

  -- so it is what a reader answers
  pub refused_first : {X : Type 0} (v : X → ℕ) (t : List ℕ) (r : Result X Fault) (m : ℕ) (u : List ℕ) → IsErrAnd r (λ x. x ≡ e) → read_field key (within key low high) l t ≡ Err e → Reads v (read_field key (under key low high bad f) l t) r m u
  refused_first v t r m u h k = reads_err v _ r e m u h (under_stops t k)
