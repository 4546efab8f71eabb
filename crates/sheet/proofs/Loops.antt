-- A loop that reads n values, step by step.
use Rattle.std.proofs.Common.{◌≡◌, ℕ, suc, ◌+◌, ◌-◌, ◌<◌, ◌≤◌, List, [], ◌∷◌, ◌++◌, Ok, Err, Result, IsErrAnd, sym, refl, ap, ◌∙◌, subst, append_assoc, append-nil, arith}
use Rattle.std.proofs.lemmas.Result.{err_from_is_err_and}
use Rattle.sheet.specs.declared.faults.Fault.{Fault}
use Rattle.sheet.specs.Lines.{bind}
use Rattle.sheet.specs.Reads.{Reads}
use Rattle.sheet.specs.Codec.{Codec, Reading, read_all}

bind_bind : {A B C E : Type 0} (q : Result A E) (f : A → Result B E) (g : B → Result C E) → bind (bind q f) g ≡ bind q (λ a. bind (f a) g)
bind_bind (Ok a) f g = refl
bind_bind (Err e) f g = refl

pub bind_nil : {A : Type 0} (q : Reading (List A)) → bind q (λ y. Ok (let p : List A × (ℕ × List ℕ) = ([] ++ y.0, y.1) in p)) ≡ q
bind_nil (Ok a) = refl
bind_nil (Err e) = refl

module _ {S A : Type 0} (c : S → Codec A) (next : S → A → S) where
  abbrev put : List A → List A × (ℕ × List ℕ) → Reading (List A)
  put acc y = Ok (acc ++ y.0, y.1)

  abbrev go_on : S → ℕ → A × (ℕ × List ℕ) → Reading (List A)
  go_on s k x = bind (read_all c next (next s x.0) k x.1.0 x.1.1) (λ y. Ok (x.0 ∷ y.0, y.1))

  -- what the whole reading is, where acc is read already and k values are to come
  abbrev pub Rest : S → ℕ → ℕ → List ℕ → List A → Reading (List A)
  Rest s k l t acc = bind (read_all c next s k l t) (put acc)

  rest_suc : (s : S) (k l : ℕ) (t : List ℕ) (acc : List A) (x : A) (m : ℕ) (u : List ℕ) → (c s).read l t ≡ Ok (x, (m, u)) → Rest s (suc k) l t acc ≡ Rest (next s x) k m u (acc ++ x ∷ [])
  rest_suc s k l t acc x m u e =
      ap (λ q. bind (bind q (go_on s k)) (put acc)) e
      ∙ bind_bind (read_all c next (next s x) k m u) (λ y. Ok (x ∷ y.0, y.1)) (put acc)
      ∙ (λ i. bind (read_all c next (next s x) k m u) (λ y. Ok (sym (append_assoc acc (x ∷ []) y.0) i, y.1)))

  rest_stop : (s : S) (k l : ℕ) (t : List ℕ) (acc : List A) (e : Fault) → (c s).read l t ≡ Err e → Rest s (suc k) l t acc ≡ Err e
  rest_stop s k l t acc e h = ap (λ q. bind (bind q (go_on s k)) (put acc)) h

  pub start : (s : S) (n l : ℕ) (t : List ℕ) → Rest s (n - 0) l t [] ≡ read_all c next s n l t
  start s n l t = let e : n - 0 ≡ n = omega arith in ap (λ k. Rest s k l t []) e ∙ bind_nil (read_all c next s n l t)

  pub more : (s : S) (n i l : ℕ) (t : List ℕ) (acc : List A) (x : A) (m : ℕ) (u : List ℕ) → i < n → (c s).read l t ≡ Ok (x, (m, u)) → Rest s (n - i) l t acc ≡ Rest (next s x) (n - (i + 1)) m u (acc ++ x ∷ [])
  more s n i l t acc x m u h e = let k : n - i ≡ suc (n - (i + 1)) = omega arith in ap (λ k. Rest s k l t acc) k ∙ rest_suc s (n - (i + 1)) l t acc x m u e

  pub stop : (s : S) (n i l : ℕ) (t : List ℕ) (acc : List A) (e : Fault) → i < n → (c s).read l t ≡ Err e → Rest s (n - i) l t acc ≡ Err e
  stop s n i l t acc e h r = let k : n - i ≡ suc (n - (i + 1)) = omega arith in ap (λ k. Rest s k l t acc) k ∙ rest_stop s (n - (i + 1)) l t acc e r

  pub done : (s : S) (n i l : ℕ) (t : List ℕ) (acc : List A) → n ≤ i → Rest s (n - i) l t acc ≡ Ok (acc, (l, t))
  done s n i l t acc h = let k : n - i ≡ 0 = omega arith in ap (λ k. Rest s k l t acc) k ∙ (λ j. Ok (append-nil acc j, (l, t)))

-- a fault that was met is what a reader answers
pub reads_err : {A X : Type 0} (v : X → A) (q : Reading A) (r : Result X Fault) (e : Fault) (l : ℕ) (t : List ℕ) → IsErrAnd r (λ x. x ≡ e) → q ≡ Err e → Reads v q r l t
reads_err v q r e l t h k = let p = err_from_is_err_and r h in subst (λ x. Reads v q x l t) (sym (p.1 ∙ ap (λ e. Err e) p.2)) k
