-- What is written is read back, and what is read is written back: of a line, and of each way to join.
use Rattle.std.proofs.Common.{◌≡◌, ℕ, zero, suc, ◌+◌, ◌<◌, Bool, true, cond, not, ◌&&◌, eqb, ltb, List, [], ◌∷◌, ◌++◌, length, Some, None, Ok, Err, decimal, Option, Result, sym, refl, ap, ◌∙◌, subst, ⊎_elim, append_assoc, arith}
use Rattle.std.specs.Option.{option_map, ok_or}
use Rattle.std.specs.Char.{is_ascii_digit}
use Rattle.std.specs.Str.{all_ascii_digits, bytes_eq}
use Rattle.std.proofs.lemmas.Fmt.{digits_decimal}
use Rattle.std.proofs.lemmas.Slice.Eq.{bytes_eq-Decides}
use Rattle.std.proofs.lemmas.Bool.{cases_Bool, ne_eqb, eq-eqb, eqb-true, lt-ltb, ltb-true, cond-true, cond-false, and_from, and_parts, not_from_false, not-true}
use Rattle.sheet.specs.declared.faults.Fault.{Fault}
use Rattle.sheet.specs.declared.faults.Fault.TheVariants.{Line}
use Rattle.sheet.specs.declared.faults.LineFault.{LineFault}
use Rattle.sheet.specs.declared.faults.LineFault.TheVariants.{Digits, Shape}
use Rattle.sheet.specs.declared.keys.Key.{Key}
use Rattle.sheet.specs.declared.keys.Key.TheVariants.{Own, Wait, Boottime, Inhibit, Startall, Resetall, Stopall, Slaves, Node, Mandatory, Keep, Kind, Vendor, Product, Revision, Serial, Hb, Sets, Index, Sub, Size, Value}
use Rattle.sheet.specs.Decimal.{number_of}
use Rattle.sheet.specs.Keys.{name_of}
use Rattle.sheet.specs.Lines.{cut_at, bind, raised, line_of, line_text}
use Rattle.sheet.specs.Codec.{Codec, Test, passes, judged, field, both, seen, write_all, good_all, read_all, many, counted}
use Rattle.sheet.proofs.Numbers.{own, reads_back, writes_back, digit_range}

pub bind_ok : {A B E : Type 0} (r : Result A E) (f : A → Result B E) (b : B) → bind r f ≡ Ok b → (a : A) × (r ≡ Ok a) × (f a ≡ Ok b)
bind_ok (Ok a) f b e = (a, refl, e)
bind_ok (Err x) f b e = cc

ok_or_ok : {A E : Type 0} (o : Option A) (e : E) (a : A) → ok_or o e ≡ Ok a → o ≡ Some a
ok_or_ok None e a h = cc
ok_or_ok (Some x) e a h = cc

raised_ok : {A E F : Type 0} (f : E → F) (r : Result A E) (a : A) → raised f r ≡ Ok a → r ≡ Ok a
raised_ok f (Ok x) a h = cc
raised_ok f (Err x) a h = cc

abbrev pub free : ℕ → List ℕ → Bool
free b [] = true
free b (c ∷ cs) = not (eqb c b) && free b cs

free_append : (b : ℕ) (xs ys : List ℕ) → free b xs ≡ true → free b ys ≡ true → free b (xs ++ ys) ≡ true
free_append b [] ys h k = k
free_append b (x ∷ xs) ys h k = let p = and_parts _ _ h in and_from _ _ p.0 (free_append b xs ys p.1 k)

free_digits : (ds : List ℕ) → all_ascii_digits ds ≡ true → free 10 ds ≡ true
free_digits [] h = refl
free_digits (d ∷ ds) h =
    let p = and_parts (is_ascii_digit d) (all_ascii_digits ds) h in
    and_from _ _ (not_from_false _ (ne_eqb d 10 (λ e. omega (arith, digit_range d p.0)))) (free_digits ds p.1)

pub cut_join : (b : ℕ) (xs ys : List ℕ) → free b xs ≡ true → cut_at b (xs ++ b ∷ ys) ≡ Some (xs, ys)
cut_join b [] ys h = cond-true _ _ _ (eq-eqb b b refl)
cut_join b (x ∷ xs) ys h =
    let p = and_parts _ _ h in
    cond-false _ _ _ (not-true _ p.0) ∙ ap (option_map {U = List ℕ × List ℕ} (λ (q : List ℕ × List ℕ). (x ∷ q.0, q.1))) (cut_join b xs ys p.1)

pub ok_is : {A E : Type 0} (a b : A) → ◌≡◌ {A = Result A E} (Ok a) (Ok b) → a ≡ b
ok_is a b h = cc

some_is : {A : Type 0} (a b : A) → Some a ≡ Some b → a ≡ b
some_is a b h = cc

pub ok_pair : {A B E : Type 0} (a c : A) (b d : B) → ◌≡◌ {A = Result (A × B) E} (Ok (a, b)) (Ok (c, d)) → (a ≡ c) × (b ≡ d)
ok_pair {A} {B} a c b d h = let e = ok_is {A = A × B} (a, b) (c, d) h in (ap (λ (p : A × B). p.0) e, ap (λ (p : A × B). p.1) e)

some_pair : {A B : Type 0} (a c : A) (b d : B) → ◌≡◌ {A = Option (A × B)} (Some (a, b)) (Some (c, d)) → (a ≡ c) × (b ≡ d)
some_pair {A} {B} a c b d h = let e = some_is {A = A × B} (a, b) (c, d) h in (ap (λ (p : A × B). p.0) e, ap (λ (p : A × B). p.1) e)

mapped_is : (b c : ℕ) (cs xs ys : List ℕ) (o : Option (List ℕ × List ℕ)) → ((us vs : List ℕ) → o ≡ Some (us, vs) → cs ≡ us ++ b ∷ vs) → option_map {U = List ℕ × List ℕ} (λ (q : List ℕ × List ℕ). (c ∷ q.0, q.1)) o ≡ Some (xs, ys) → c ∷ cs ≡ xs ++ b ∷ ys
mapped_is b c cs xs ys None i k = cc
mapped_is b c cs xs ys (Some q) i k =
    let e = some_pair (c ∷ q.0) xs q.1 ys k in
    ap (λ zs. c ∷ zs) (i q.0 q.1 refl) ∙ (λ j. e.0 j ++ b ∷ e.1 j)

pub cut_is : (b : ℕ) (t xs ys : List ℕ) → cut_at b t ≡ Some (xs, ys) → t ≡ xs ++ b ∷ ys
cut_is b [] xs ys h = cc
cut_is b (c ∷ cs) xs ys h =
    ⊎_elim
    (λ t. let k = some_pair [] xs cs ys (sym (cond-true _ _ _ t) ∙ h) in (λ i. eqb-true c b t i ∷ k.1 i) ∙ ap (λ zs. zs ++ b ∷ ys) k.0)
    (λ f. mapped_is b c cs xs ys (cut_at b cs) (cut_is b cs) (sym (cond-false _ _ _ f) ∙ h))
    (cases_Bool (eqb c b))

-- no key has a line end or an '=' in it
pub key_free : (key : Key) → (free 10 (name_of key) ≡ true) × (free 61 (name_of key) ≡ true)
key_free Own = (refl, refl)
key_free Wait = (refl, refl)
key_free Boottime = (refl, refl)
key_free Inhibit = (refl, refl)
key_free Startall = (refl, refl)
key_free Resetall = (refl, refl)
key_free Stopall = (refl, refl)
key_free Slaves = (refl, refl)
key_free Node = (refl, refl)
key_free Mandatory = (refl, refl)
key_free Keep = (refl, refl)
key_free Kind = (refl, refl)
key_free Vendor = (refl, refl)
key_free Product = (refl, refl)
key_free Revision = (refl, refl)
key_free Serial = (refl, refl)
key_free Hb = (refl, refl)
key_free Sets = (refl, refl)
key_free Index = (refl, refl)
key_free Sub = (refl, refl)
key_free Size = (refl, refl)
key_free Value = (refl, refl)

-- a line from its key and value on
abbrev pub keyed : ℕ → Key → List ℕ → List ℕ × List ℕ → Result (ℕ × List ℕ) LineFault
keyed l due rest q = cond (bytes_eq q.0 (name_of due)) (bind (raised (λ e. Digits e) (number_of l q.1)) (λ n. Ok (n, rest))) (Err (Shape l due))

pub line_back : (key : Key) (l n : ℕ) (rest : List ℕ) → n < 4294967296 → line_of l key (line_text key n ++ rest) ≡ Ok (n, rest)
line_back key l n rest h =
    let name : List ℕ = name_of key in
    let whole : line_text key n ++ rest ≡ (name ++ 61 ∷ decimal n) ++ 10 ∷ rest = simp append_assoc in
    let one = cut_join 10 (name ++ 61 ∷ decimal n) rest (free_append 10 name (61 ∷ decimal n) (key_free key).0 (free_digits (decimal n) (digits_decimal own n (omega arith)))) in
    let two = cut_join 61 name (decimal n) (key_free key).1 in
    ap (line_of l key) whole
    ∙ ap (λ o. bind (ok_or o (Shape l key)) (λ p. bind (ok_or (cut_at 61 p.0) (Shape l key)) (keyed l key p.1))) one
    ∙ ap (λ o. bind (ok_or o (Shape l key)) (keyed l key rest)) two
    ∙ cond-true _ _ _ ((bytes_eq-Decides name name).1 refl)
    ∙ ap (λ r. bind (raised (λ e. Digits e) r) (λ n. Ok (n, rest))) (reads_back l n h)

pub line_forth : (key : Key) (l : ℕ) (t : List ℕ) (n : ℕ) (rest : List ℕ) → line_of l key t ≡ Ok (n, rest) → (t ≡ line_text key n ++ rest) × (n < 4294967296)
line_forth key l t n rest h =
    let a = bind_ok _ _ _ h in
    let p = a.0 in
    let e1 = cut_is 10 t p.0 p.1 (ok_or_ok _ _ _ a.1) in
    let b = bind_ok _ _ _ a.2 in
    let q = b.0 in
    let e2 = cut_is 61 p.0 q.0 q.1 (ok_or_ok _ _ _ b.1) in
    ⊎_elim
    (λ s.
    let k = (bytes_eq-Decides q.0 (name_of key)).0 s in
    let d = bind_ok _ _ _ (sym (cond-true _ _ _ s) ∙ b.2) in
    let w = writes_back l q.1 d.0 (raised_ok _ _ _ d.1) in
    let z = ok_pair d.0 n p.1 rest d.2 in
    let same : d.0 ≡ n = z.0 in
    let tail : p.1 ≡ rest = z.1 in
    let ds : q.1 ≡ decimal n = sym w.0 ∙ ap decimal same in
    (e1 ∙ (λ i. e2 i ++ 10 ∷ tail i) ∙ (λ i. (k i ++ 61 ∷ ds i) ++ 10 ∷ rest) ∙ simp append_assoc, omega (arith, same, w.1)))
    (λ s. let z = sym (cond-false _ _ _ s) ∙ b.2 in cc)
    (cases_Bool (bytes_eq q.0 (name_of key)))

-- what is written is read back, and what is read is good and was written so
pub record Lawful {A : Type 0} (c : Codec A) : Type 0 where
  pub back : (a : A) (l : ℕ) (rest : List ℕ) → c.good a ≡ true → (m : ℕ) × (c.read l (c.write a ++ rest) ≡ Ok (a, (m, rest)))
  pub forth : (l : ℕ) (t : List ℕ) (a : A) (m : ℕ) (rest : List ℕ) → c.read l t ≡ Ok (a, (m, rest)) → (t ≡ c.write a ++ rest) × (c.good a ≡ true)

ok_triple : {A B C E : Type 0} (a d : A) (b e : B) (c f : C) → ◌≡◌ {A = Result (A × (B × C)) E} (Ok (a, (b, c))) (Ok (d, (e, f))) → (a ≡ d) × (b ≡ e) × (c ≡ f)
ok_triple {A} {B} {C} a d b e c f h =
    let w = ok_is {A = A × (B × C)} (a, (b, c)) (d, (e, f)) h in
    (ap (λ (p : A × (B × C)). p.0) w, ap (λ (p : A × (B × C)). p.1.0) w, ap (λ (p : A × (B × C)). p.1.1) w)

judged_back : (o : Option (ℕ → Fault)) (l n : ℕ) (rest : List ℕ) → passes o ≡ true → judged o l n rest ≡ Ok (n, (l + 1, rest))
judged_back None l n rest h = refl
judged_back (Some f) l n rest h = cc

judged_forth : (o : Option (ℕ → Fault)) (l n : ℕ) (rest : List ℕ) (a m : ℕ) (r : List ℕ) → judged o l n rest ≡ Ok (a, (m, r)) → (passes o ≡ true) × (n ≡ a) × (rest ≡ r)
judged_forth None l n rest a m r h = let e = ok_triple n a (l + 1) m rest r h in (refl, e.0, e.2)
judged_forth (Some f) l n rest a m r h = cc

pub field_laws : (key : Key) (test : Test) → Lawful (field key test)
field_laws key test = record {
  back = λ n l rest h.
      let p = and_parts (ltb n 4294967296) _ h in
      (l + 1, ap (λ r. bind (raised (λ e. Line e) r) (λ p. judged (test p.0) l p.0 p.1)) (line_back key l n rest (ltb-true _ _ p.0)) ∙ judged_back (test n) l n rest p.1);
  forth = λ l t n m rest h.
      let a = bind_ok _ _ _ h in
      let x = a.0 in
      let w = line_forth key l t x.0 x.1 (raised_ok _ _ _ a.1) in
      let j = judged_forth (test x.0) l x.0 x.1 n m rest a.2 in
      (w.0 ∙ (λ i. line_text key (j.1 i) ++ j.2 i), and_from _ _ (lt-ltb n _ (omega (arith, w.1, j.1))) (subst (λ k. passes (test k) ≡ true) j.1 j.0));
}

pub both_laws : {A B : Type 0} (c : Codec A) (d : A → Codec B) → Lawful c → ((a : A) → Lawful (d a)) → Lawful (both c d)
both_laws c d k m = record {
  back = λ p l rest h.
      let g = and_parts (c.good p.0) _ h in
      let x = k.back p.0 l ((d p.0).write p.1 ++ rest) g.0 in
      let y = (m p.0).back p.1 x.0 rest g.1 in (
        y.0,
        ap ((both c d).read l) (append_assoc (c.write p.0) ((d p.0).write p.1) rest)
            ∙ ap (λ r. bind r (λ x. bind ((d x.0).read x.1.0 x.1.1) (λ y. Ok ((x.0, y.0), y.1)))) x.1
            ∙ ap (λ r. bind r (λ y. Ok ((p.0, y.0), y.1))) y.1,
      );
  forth = λ l t p n rest h.
      let a = bind_ok (c.read l t) _ _ h in
      let x = a.0 in
      let b = bind_ok ((d x.0).read x.1.0 x.1.1) _ _ a.2 in
      let y = b.0 in
      let e = ok_triple (x.0, y.0) p y.1.0 n y.1.1 rest b.2 in
      let v = k.forth l t x.0 x.1.0 x.1.1 a.1 in
      let w = (m x.0).forth x.1.0 x.1.1 y.0 y.1.0 y.1.1 b.1 in (
        v.0 ∙ ap (λ z. c.write x.0 ++ z) w.0 ∙ sym (append_assoc (c.write x.0) ((d x.0).write y.0) y.1.1) ∙ (λ i. (both c d).write (e.0 i) ++ e.2 i),
        subst (λ z. (both c d).good z ≡ true) e.0 (and_from _ _ v.1 w.1),
      );
}

pub seen_laws : {A B : Type 0} (c : Codec A) (to : A → B) (from : B → A) → Lawful c → ((b : B) → to (from b) ≡ b) → ((a : A) → c.good a ≡ true → from (to a) ≡ a) → Lawful (seen c to from)
seen_laws c to from k same again = record {
  back = λ b l rest h.
      let x = k.back (from b) l rest h in
      (x.0, ap (λ r. bind r (λ x. Ok (to x.0, x.1))) x.1 ∙ ap (λ z. Ok (z, (x.0, rest))) (same b));
  forth = λ l t b n rest h.
      let a = bind_ok (c.read l t) _ _ h in
      let x = a.0 in
      let e = ok_triple (to x.0) b x.1.0 n x.1.1 rest a.2 in
      let v = k.forth l t x.0 x.1.0 x.1.1 a.1 in
      let u = sym (again x.0 v.1) ∙ ap from e.0 in
      (v.0 ∙ (λ i. c.write (u i) ++ e.2 i), subst (λ z. c.good z ≡ true) u v.1);
}

module _ {S A : Type 0} (c : S → Codec A) (next : S → A → S) (k : (s : S) → Lawful (c s)) where
  all_back : (s : S) (n : ℕ) (xs : List A) (l : ℕ) (rest : List ℕ) → good_all c next s n xs ≡ true → (m : ℕ) × (read_all c next s n l (write_all c next s xs ++ rest) ≡ Ok (xs, (m, rest)))
  all_back s zero [] l rest h = (l, refl)
  all_back s zero (x ∷ xs) l rest h = cc
  all_back s (suc n) [] l rest h = cc
  all_back s (suc n) (x ∷ xs) l rest h =
      let g = and_parts ((c s).good x) _ h in
      let v = (k s).back x l (write_all c next (next s x) xs ++ rest) g.0 in
      let w = all_back (next s x) n xs v.0 rest g.1 in (
        w.0,
        ap (read_all c next s (suc n) l) (append_assoc ((c s).write x) (write_all c next (next s x) xs) rest)
            ∙ ap (λ r. bind r (λ x. bind (read_all c next (next s x.0) n x.1.0 x.1.1) (λ y. Ok (x.0 ∷ y.0, y.1)))) v.1
            ∙ ap (λ r. bind r (λ y. Ok (x ∷ y.0, y.1))) w.1,
      )

  all_forth : (s : S) (n l : ℕ) (t : List ℕ) (xs : List A) (m : ℕ) (rest : List ℕ) → read_all c next s n l t ≡ Ok (xs, (m, rest)) → (t ≡ write_all c next s xs ++ rest) × (good_all c next s n xs ≡ true)
  all_forth s zero l t xs m rest h =
      let e = ok_triple [] xs l m t rest h in
      (e.2 ∙ ap (λ z. write_all c next s z ++ rest) e.0, ap (good_all c next s zero) (sym e.0))
  all_forth s (suc n) l t xs m rest h =
      let a = bind_ok ((c s).read l t) _ _ h in
      let x = a.0 in
      let b = bind_ok (read_all c next (next s x.0) n x.1.0 x.1.1) _ _ a.2 in
      let y = b.0 in
      let e = ok_triple (x.0 ∷ y.0) xs y.1.0 m y.1.1 rest b.2 in
      let v = (k s).forth l t x.0 x.1.0 x.1.1 a.1 in
      let w = all_forth (next s x.0) n x.1.0 x.1.1 y.0 y.1.0 y.1.1 b.1 in (
        v.0 ∙ ap (λ z. (c s).write x.0 ++ z) w.0 ∙ sym (append_assoc ((c s).write x.0) _ y.1.1) ∙ (λ i. write_all c next s (e.0 i) ++ e.2 i),
        subst (λ z. good_all c next s (suc n) z ≡ true) e.0 (and_from _ _ v.1 w.1),
      )

  pub many_laws : (s : S) (n : ℕ) → Lawful (many c next s n)
  many_laws s n = record { back = all_back s n; forth = all_forth s n }

  -- what is good has its count
  pub many_length : (s : S) (n : ℕ) (xs : List A) → good_all c next s n xs ≡ true → n ≡ length xs
  many_length s zero [] h = refl
  many_length s zero (x ∷ xs) h = cc
  many_length s (suc n) [] h = cc
  many_length s (suc n) (x ∷ xs) h = ap suc (many_length (next s x) n xs (and_parts ((c s).good x) _ h).1)

pub counted_laws : {A : Type 0} (c : Codec ℕ) (d : ℕ → Codec (List A)) → Lawful c → ((n : ℕ) → Lawful (d n)) → ((n : ℕ) (xs : List A) → (d n).good xs ≡ true → n ≡ length xs) → Lawful (counted c d)
counted_laws {A} c d k m long =
    seen_laws (both c d) (λ p. p.1) (λ xs. (length xs, xs)) (both_laws c d k m) (λ _. refl)
    (λ p h. let w = long p.0 p.1 (and_parts (c.good p.0) _ h).1 in ap {B = ℕ × List A} (λ n. (n, p.1)) (sym w))
