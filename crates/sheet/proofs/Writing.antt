-- The laws of writing one after another.
use Rattle.std.proofs.Common.{◌≡◌, ℕ, ◌+◌, ◌/◌, ◌%◌, ◌<◌, ◌≤◌, List, [], ◌∷◌, ◌++◌, map, length, get_or, take, drop, set, decimal, sym, refl, ap, ◌∙◌, subst, append_assoc, add-zero, arith, length-append}
use Rattle.std.proofs.lemmas.Fmt.{decimal_step, decimal_digit, length-decimal-le}
use Rattle.std.proofs.lemmas.List.{set_at, drop_more, length_push, map_more, flat_map_more, take_all}
use Rattle.std.specs.List.{flat_map}
use Rattle.sheet.specs.declared.keys.Key.{Key}
use Rattle.sheet.specs.Codec.{write_all}
use Rattle.sheet.specs.Format.{SetLines, SlaveLines, Before, set_c, slave_c, after, slave_text}
use Rattle.sheet.specs.Lines.{line_text}
use Rattle.sheet.specs.Writes.{over, Wrote, Adds}
use Rattle.sheet.specs.declared.writer.Writer.{Writer}

over_append : (o : List ℕ) (i : ℕ) (xs ys : List ℕ) → over o i (xs ++ ys) ≡ over (over o i xs) (i + length xs) ys
over_append o i [] ys = ap (λ k. over o k ys) (sym (add-zero i))
over_append o i (x ∷ xs) ys = over_append (set o i x) (i + 1) xs ys ∙ (let e : i + 1 + length xs ≡ i + length (x ∷ xs) = omega arith in ap (λ k. over (over (set o i x) (i + 1) xs) k ys) e)

-- one text after another
pub then : {a m b : Writer} {xs ys : List ℕ} → Adds a xs m → Adds m ys b → Adds a (xs ++ ys) b
then {a} {m} {b} {xs} {ys} p q = record {
  same = q.same ∙ p.same;
  wrote = record {
    out = q.wrote.out ∙ (λ t. over (p.wrote.out t) (p.wrote.place t) ys) ∙ sym (over_append a.out.now a.len xs ys);
    place = q.wrote.place ∙ ap (λ n. n + length ys) p.wrote.place ∙ (let e : a.len + length xs + length ys ≡ a.len + length (xs ++ ys) = omega (arith, length-append xs ys) in e);
  };
}

pub text_is : {a b : Writer} {xs ys : List ℕ} → xs ≡ ys → Adds a xs b → Adds a ys b
text_is {a} {b} e p = subst (λ xs. Adds a xs b) e p

pub line_is : {a b : Writer} (key : Key) {n m : ℕ} → n ≡ m → Adds a (line_text key n) b → Adds a (line_text key m) b
line_is {a} {b} key e p = text_is (ap (line_text key) e) p

-- f is before the place, and o from it on
over_front : (f o xs : List ℕ) → length xs ≤ length o → over (f ++ o) (length f) xs ≡ f ++ (xs ++ drop (length xs) o)
over_front f o [] h = refl
over_front f [] (x ∷ xs) h = absurd (omega arith)
over_front f (y ∷ o) (x ∷ xs) h =
    (λ t. over (set_at f y o x (length f) refl t) (sym (length_push f x) t) xs)
    ∙ ap (λ l. over l (length (f ++ x ∷ [])) xs) (sym (append_assoc f (x ∷ []) o))
    ∙ over_front (f ++ x ∷ []) o xs (omega arith)
    ∙ append_assoc f (x ∷ []) (xs ++ drop (length xs) o)

pub over_whole : (o xs : List ℕ) → length xs ≤ length o → over o 0 xs ≡ xs ++ drop (length xs) o
over_whole o xs h = over_front [] o xs h

pub step : (o q bytes : List ℕ) (i p : ℕ) (goal : List ℕ) → i < length bytes → q ≡ set o p (get_or bytes i 0) → over o p (drop i bytes) ≡ goal → over q (p + 1) (drop (i + 1) bytes) ≡ goal
step o q bytes i p goal h e k = ap (λ z. over z (p + 1) (drop (i + 1) bytes)) e ∙ sym (ap (over o p) (drop_more bytes i 0 h)) ∙ k

pub number_long : (a m b : Writer) (n : ℕ) → 10 ≤ n → n < 4294967296 → Adds a (decimal (n / 10)) m → Adds m ((48 + n % 10) ∷ []) b → Adds a (decimal n) b
number_long a m b n h l p q = text_is (sym (decimal_step n h (omega arith))) (then p q)

pub number_short : (a b : Writer) (n : ℕ) → n < 10 → Adds a ((48 + n % 10) ∷ []) b → Adds a (decimal n) b
number_short a b n h p = let same : n % 10 ≡ n = omega arith in text_is (ap (λ k. (48 + k) ∷ []) same ∙ sym (decimal_digit n h)) p

pub number_room : (n : ℕ) → n < 4294967296 → length (decimal n) ≤ 10
number_room n h = length-decimal-le 10 n (omega arith) (omega arith) (omega arith)

-- a loop that writes the items of a list
pub one_more : {X Y : Type 0} (f : Y → List ℕ) (v : X → Y) (a m b : Writer) (xs : List X) (i : ℕ) (x : X) → i < length xs → x ≡ get_or xs i x → Adds a (flat_map f (map v (take i xs))) m → Adds m (f (v x)) b → Adds a (flat_map f (map v (take (i + 1) xs))) b
one_more f v a m b xs i x h is p q =
    let e : map v (take (i + 1) xs) ≡ map v (take i xs) ++ v x ∷ [] = map_more v xs i x h ∙ ap (λ z. map v (take i xs) ++ v z ∷ []) (sym is) in
    text_is (flat_map_more f [] (map v (take i xs)) (v x) ∙ ap (flat_map f) (sym e)) (then p q)

pub all_done : {X Y : Type 0} (f : Y → List ℕ) (v : X → Y) (a b : Writer) (xs : List X) (i : ℕ) → length xs ≤ i → Adds a (flat_map f (map v (take i xs))) b → Adds a (flat_map f (map v xs)) b
all_done f v a b xs i h p = text_is (ap (λ ys. flat_map f (map v ys)) (take_all i xs h)) p

pub sets_text : (xs : List SetLines) → write_all (λ (_ : Unit {0}). set_c) (λ u _. u) tt xs ≡ flat_map set_c.write xs
sets_text [] = refl
sets_text (x ∷ xs) = ap (λ ys. set_c.write x ++ ys) (sets_text xs)

pub slaves_text : (b : Before) (xs : List SlaveLines) → write_all slave_c after b xs ≡ flat_map slave_text xs
slaves_text b [] = refl
slaves_text b (x ∷ xs) = ap (λ ys. slave_text x ++ ys) (slaves_text (after b x) xs)

-- a text that fits
pub write_long : (o xs z p q : List ℕ) (n m : ℕ) → Wrote z 0 xs p n → n ≤ length o → Wrote o 0 xs q m → (length xs ≤ length o) × (m ≡ length xs) × (q ≡ xs ++ drop (length xs) o)
write_long o xs z p q n m w h v = (omega (arith, w.place), omega (arith, v.place), v.out ∙ over_whole o xs (omega (arith, w.place)))
