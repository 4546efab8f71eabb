-- The steps of the loops that play a session.
use Rattle.std.proofs.Common.{◌≡◌, ℕ, zero, suc, ◌+◌, ◌-◌, ◌<◌, ◌≤◌, List, [], ◌∷◌, length, Some, None, Option, sym, refl, ap, ◌∙◌, arith}
use Rattle.std.proofs.lemmas.Bool.{cond-false, ne_eqb}
use Rattle.master.specs.Session.{Machine}
use Rattle.std.specs.List.{filter_map, fold, cons_option}
use Rattle.script.specs.Plays.{times, done, played, done_line, played_within, LineByLine}
use Rattle.script.specs.Sessions.{Order, line_in, first_line, lines}
use Rattle.script.proofs.Parting.{first_shorter, line_first}

-- one step more
pub once_more : {A : Type 0} (f : A → A) (n i : ℕ) (m o : A) → i < n → o ≡ f m → times f (n - (i + 1)) o ≡ times f (n - i) m
once_more f n i m o h e =
    let k : suc (n - (i + 1)) ≡ n - i = omega arith in
    ap (times f (n - (i + 1))) e ∙ ap (λ z. times f z m) k

-- the last step
pub at_last : {A : Type 0} (f : A → A) (n i : ℕ) (m o : A) → n ≤ i → times f (n - i) m ≡ o → m ≡ o
at_last f n i m o h e = let k : 0 ≡ n - i = omega arith in ap (λ z. times f z m) k ∙ e

-- the orders of these lines, one after the other
abbrev pub done_lines : List (List ℕ) → Machine → Machine
done_lines ts m = fold (λ m o. done o m) m (filter_map line_in ts)

skipping : (o : Option Order) (os : List Order) (m : Machine) → fold (λ m o. done o m) (done_line o m) os ≡ fold (λ m o. done o m) m (cons_option o os)
skipping None os m = refl
skipping (Some o) os m = refl

-- the line that was read is done, or skipped
pub plays_on : (t : List ℕ) (r : List ℕ × List ℕ) (q : Option Order) (m o : Machine) → 0 < length t → r ≡ first_line t → q ≡ line_in r.0 → o ≡ done_line q m → played r.1 o ≡ played t m
plays_on t r q m o some e f g =
    ap (played r.1) (g ∙ ap (λ x. done_line x m) f)
    ∙ skipping (line_in r.0) (filter_map line_in (lines r.1)) m
    ∙ ap (λ ts. done_lines ts m) (ap (λ (z : List ℕ × List ℕ). z.0 ∷ lines z.1) e ∙ sym (line_first t some))

within : (k : ℕ) (t : List ℕ) (m : Machine) → length t ≤ k → played_within k t m ≡ played t m
within zero [] m h = refl
within zero (c ∷ cs) m h = absurd (omega arith)
within (suc k) [] m h = refl
within (suc k) (c ∷ cs) m h =
    let t : List ℕ = c ∷ cs in
    let some : 0 < length t = omega arith in
    let r : List ℕ × List ℕ = first_line t in
    let less = first_shorter t some in
    cond-false _ _ _ (ne_eqb (length t) 0 (λ e. omega arith))
    ∙ within k r.1 (done_line (line_in r.0) m) (omega arith)
    ∙ plays_on t r (line_in r.0) m (done_line (line_in r.0) m) some refl refl refl

pub line_by_line : LineByLine
line_by_line t m = sym (within (length t) t m (omega arith))
