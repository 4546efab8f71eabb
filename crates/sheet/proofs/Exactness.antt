-- What a reading promises in the subject's words, from its value.
use Rattle.std.proofs.Common.{◌≡◌, ℕ, true, List, Ok, Err, Result, sym, refl, ap, ◌∙◌, subst}
use Rattle.sheet.specs.declared.faults.Fault.{Fault}
use Rattle.sheet.specs.Format.{SheetLines, text, good, reading}
use Rattle.sheet.specs.Rules.{Keeps, Exact}
use Rattle.sheet.specs.Sheets.{empty_lines, Filled}
use Rattle.sheet.proofs.Codecs.{ok_is}
use Rattle.sheet.proofs.Keeping.{keeps_to, keeps_from}
use Rattle.sheet.proofs.RoundTrip.{reads_text, writes_reading}

-- lines that keep the rules are what their text reads as
read_as : (t : List ℕ) (x : SheetLines) → Keeps x → text x ≡ t → reading t ≡ Ok x
read_as t x k e = ap reading (sym e) ∙ reads_text x (keeps_from x k)

never : (t : List ℕ) (e : Fault) → reading t ≡ Err e → (x : SheetLines) → Keeps x → text x ≡ t → ⊥
never t e h x k w = let r = read_as t x k w in cc

pub exact : (t : List ℕ) (s : SheetLines) (r : Result (Unit {0}) Fault) → Filled t s r → Exact t s r
exact t s (Ok u) h =
    let w = writes_reading t s h in
    let k = keeps_to s w.1 in
    record {
      keeps = k;
      back = λ _. w.0;
      takes = λ x kx e. (refl, ok_is s x (sym h ∙ read_as t x kx e));
      refuses = λ f x kx e. cc;
      alone = λ none. absurd (none s k w.0);
    }
exact t s (Err f) h = record {
  keeps = subst Keeps (sym h.1) (keeps_to empty_lines refl);
  back = λ e. cc;
  takes = λ x k e. absurd (never t f h.0 x k e);
  refuses = λ _. never t f h.0;
  alone = λ _. refl;
}

-- what a reading leaves is a sheet's
pub filled_good : (t : List ℕ) (s : SheetLines) (r : Result (Unit {0}) Fault) → Filled t s r → good s ≡ true
filled_good t s (Ok u) h = (writes_reading t s h).1
filled_good t s (Err f) h = ap good h.1
