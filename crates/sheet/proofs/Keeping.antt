-- The rules of a sheet, from the test that the format makes and back.
use Rattle.std.proofs.Common.{◌≡◌, ℕ, zero, suc, ◌+◌, ◌-◌, ◌^◌, ◌<◌, ◌≤◌, Bool, true, false, cond, ◌&&◌, ◌||◌, eqb, ltb, leb, List, [], ◌∷◌, length, Some, None, sym, refl, ap, ◌∙◌, ⊎_elim, arith}
use Rattle.std.proofs.Math.Nat.{one-le-pow, pow-le-pow_right}
use Rattle.std.proofs.lemmas.Bool.{and_parts, and_from, or_parts, leb-true, leb-false, le-leb, lt-leb, lt-ltb, le-ltb, ltb-false, eqb-false, ne_eqb, cases_Bool, cond-true, cond-false}
use Rattle.sheet.specs.declared.faults.Fault.{Fault}
use Rattle.sheet.specs.declared.faults.Fault.TheVariants.{Range, Order, Silent, TooManySets}
use Rattle.sheet.specs.declared.keys.Key.{Key}
use Rattle.sheet.specs.declared.keys.Key.TheVariants.{Own, Wait, Boottime, Inhibit, Startall, Resetall, Stopall, Slaves, Node, Mandatory, Keep, Kind, Vendor, Product, Revision, Serial, Hb, Sets, Index, Sub, Size, Value}
use Rattle.sheet.specs.Codec.{passes, good_all}
use Rattle.sheet.specs.Format.{SetLines, SlaveLines, SheetLines, under, ranged, set_c, flag, word, node_c, hb_c, sets_c, slave_c, after, header_c, count_c, of_sheet, good}
use Rattle.sheet.specs.Rules.{SetKeeps, SetsKeep, SlaveKeeps, SlavesKeep, total, Keeps, Lasting}
use Rattle.sheet.proofs.RoundTrip.{within_is, reads_text}

-- a line of a range
module _ (key : Key) (low high n : ℕ) where
  pub ranged_to : (ranged key low high).good n ≡ true → (low ≤ n) × (n ≤ high)
  ranged_to h = within_is key low high n (and_parts (ltb n 4294967296) _ h).1

  pub ranged_from : low ≤ n → n ≤ high → high < 4294967296 → (ranged key low high).good n ≡ true
  ranged_from l h w = and_from _ _ (lt-ltb n 4294967296 (omega arith)) (ap passes (cond-true _ None (Some (λ l. Range l key low high)) (and_from _ _ (le-leb low n l) (le-leb n high h))))

flag_from : (key : Key) (b : Bool) → (flag key).good b ≡ true
flag_from key true = refl
flag_from key false = refl

-- a line of a range and a test
module _ (key : Key) (low high : ℕ) (bad : ℕ → Bool) (f : ℕ → Fault) (n : ℕ) where
  under_to : passes (under key low high bad f n) ≡ true → (low ≤ n) × (n ≤ high) × (bad n ≡ false)
  under_to h =
      ⊎_elim
      (λ t.
      let p = and_parts _ _ t in
      let k = sym (ap passes (cond-true _ _ _ t)) ∙ h in
      (leb-true low n p.0, leb-true n high p.1, ⊎_elim (λ b. let z = sym (ap passes (cond-true _ _ _ b)) ∙ k in cc) (λ b. b) (cases_Bool (bad n))))
      (λ t. let z = sym (ap passes (cond-false _ _ _ t)) ∙ h in cc)
      (cases_Bool (leb low n && leb n high))

  under_from : low ≤ n → n ≤ high → bad n ≡ false → passes (under key low high bad f n) ≡ true
  under_from l h b =
      ap passes (cond-true _ (cond (bad n) (Some f) None) (Some (λ l. Range l key low high)) (and_from _ _ (le-leb low n l) (le-leb n high h)) ∙ cond-false (bad n) (Some f) None b)

set_to : (s : SetLines) → set_c.good s ≡ true → SetKeeps s
set_to s h =
    let a = and_parts ((ranged Index 0 65535).good s.index) _ h in
    let b = and_parts ((ranged Sub 0 255).good s.sub) _ a.1 in
    let d = and_parts ((ranged Size 1 4).good s.size) _ b.1 in
    let size = ranged_to Size 1 4 s.size d.0 in
    let value = ranged_to Value 0 (256 ^ s.size - 1) s.value d.1 in
    let p : 0 < 256 ^ s.size = one-le-pow s.size 256 (omega arith) in
    record {
      index = (ranged_to Index 0 65535 s.index a.0).1;
      sub = (ranged_to Sub 0 255 s.sub b.0).1;
      size_low = size.0;
      size_high = size.1;
      value = omega (arith, p, value.1);
    }

set_from : (s : SetLines) → SetKeeps s → set_c.good s ≡ true
set_from s k =
    let most : 256 ^ s.size ≤ 256 ^ 4 = pow-le-pow_right {n = 256} (omega arith) k.size_high in
    let p : 0 < 256 ^ s.size = one-le-pow s.size 256 (omega arith) in
    let index = k.index in
    let sub = k.sub in
    let low = k.size_low in
    let high = k.size_high in
    let value = k.value in
    and_from _ _ (ranged_from Index 0 65535 s.index (omega arith) index (omega arith))
    (and_from _ _ (ranged_from Sub 0 255 s.sub (omega arith) sub (omega arith))
    (and_from _ _ (ranged_from Size 1 4 s.size low high (omega arith))
    (ranged_from Value 0 (256 ^ s.size - 1) s.value (omega arith) (omega arith) (omega arith))))

sets_to : (n : ℕ) (ss : List SetLines) → good_all (λ (_ : Unit {0}). set_c) (λ u _. u) tt n ss ≡ true → SetsKeep ss
sets_to n [] h = tt
sets_to zero (s ∷ ss) h = cc
sets_to (suc n) (s ∷ ss) h = let p = and_parts (set_c.good s) _ h in (set_to s p.0, sets_to n ss p.1)

sets_from : (ss : List SetLines) → SetsKeep ss → good_all (λ (_ : Unit {0}). set_c) (λ u _. u) tt (length ss) ss ≡ true
sets_from [] k = refl
sets_from (s ∷ ss) k = and_from _ _ (set_from s k.0) (sets_from ss k.1)

-- a slave, and that the sets so far and its own are few
pub record Placed (own last sofar : ℕ) (s : SlaveLines) : Type 0 where
  pub keeps : SlaveKeeps own last s
  pub room : sofar + length s.sets ≤ 256

slave_to : (own last sofar : ℕ) (s : SlaveLines) → (slave_c (own, (last, sofar))).good s ≡ true → Placed own last sofar s
slave_to own last sofar s h =
    let p0 = and_parts ((node_c own last).good s.node) _ h in
    let p1 = and_parts ((flag Mandatory).good s.mandatory) _ p0.1 in
    let p2 = and_parts ((flag Keep).good s.keep) _ p1.1 in
    let p3 = and_parts ((word Kind).good s.kind) _ p2.1 in
    let p4 = and_parts ((word Vendor).good s.vendor) _ p3.1 in
    let p5 = and_parts ((word Product).good s.product) _ p4.1 in
    let p6 = and_parts ((word Revision).good s.revision) _ p5.1 in
    let p7 = and_parts ((word Serial).good s.serial) _ p6.1 in
    let p8 = and_parts ((hb_c s.keep).good s.hb) _ p7.1 in
    let p9 = and_parts ((sets_c sofar).good (length s.sets)) _ p8.1 in
    let node = under_to Node 1 127 (λ n. eqb n own || leb n last) (λ l. Order l) s.node (and_parts (ltb s.node 4294967296) _ p0.0).1 in
    let apart = or_parts (eqb s.node own) (leb s.node last) node.2 in
    let hb = under_to Hb 0 65535 (λ v. s.keep && eqb v 0) (λ l. Silent l) s.hb (and_parts (ltb s.hb 4294967296) _ p8.0).1 in
    let sets = under_to Sets 0 32 (λ n. ltb 256 (sofar + n)) (λ l. TooManySets l) (length s.sets) (and_parts (ltb (length s.sets) 4294967296) _ p9.0).1 in
    record {
      keeps = record {
        node_low = node.0;
        node_high = node.1;
        ascends = leb-false _ _ apart.1;
        other = eqb-false _ _ apart.0;
        kind = (ranged_to Kind 0 4294967295 s.kind p3.0).1;
        vendor = (ranged_to Vendor 0 4294967295 s.vendor p4.0).1;
        product = (ranged_to Product 0 4294967295 s.product p5.0).1;
        revision = (ranged_to Revision 0 4294967295 s.revision p6.0).1;
        serial = (ranged_to Serial 0 4294967295 s.serial p7.0).1;
        hb = hb.1;
        alive = λ k. let z : eqb s.hb 0 ≡ false = sym (ap (λ b. b && eqb s.hb 0) k) ∙ hb.2 in let ne = eqb-false _ _ z in omega (arith, ne);
        few = sets.1;
        sets = sets_to (length s.sets) s.sets p9.1;
      };
      room = ltb-false _ _ sets.2;
    }

silent_not : (keep : Bool) (hb : ℕ) → (keep ≡ true → 0 < hb) → (keep && eqb hb 0) ≡ false
silent_not true hb h = let p = h refl in ne_eqb hb 0 (λ e. omega arith)
silent_not false hb h = refl

slave_from : (own last sofar : ℕ) (s : SlaveLines) → Placed own last sofar s → (slave_c (own, (last, sofar))).good s ≡ true
slave_from own last sofar s p =
    let k = p.keeps in
    let high = k.node_high in
    let hb = k.hb in
    let few = k.few in
    let apart : (eqb s.node own || leb s.node last) ≡ false = rw (ne_eqb s.node own k.other) (lt-leb s.node last k.ascends) in
    and_from _ _ (and_from _ _ (lt-ltb s.node 4294967296 (omega arith)) (under_from Node 1 127 (λ n. eqb n own || leb n last) (λ l. Order l) s.node k.node_low high apart))
    (and_from _ _ (flag_from Mandatory s.mandatory)
    (and_from _ _ (flag_from Keep s.keep)
    (and_from _ _ (ranged_from Kind 0 4294967295 s.kind (omega arith) k.kind (omega arith))
    (and_from _ _ (ranged_from Vendor 0 4294967295 s.vendor (omega arith) k.vendor (omega arith))
    (and_from _ _ (ranged_from Product 0 4294967295 s.product (omega arith) k.product (omega arith))
    (and_from _ _ (ranged_from Revision 0 4294967295 s.revision (omega arith) k.revision (omega arith))
    (and_from _ _ (ranged_from Serial 0 4294967295 s.serial (omega arith) k.serial (omega arith))
    (and_from _ _ (and_from _ _ (lt-ltb s.hb 4294967296 (omega arith)) (under_from Hb 0 65535 (λ v. s.keep && eqb v 0) (λ l. Silent l) s.hb (omega arith) hb (silent_not s.keep s.hb k.alive)))
    (and_from _ _ (and_from _ _ (lt-ltb (length s.sets) 4294967296 (omega arith)) (under_from Sets 0 32 (λ n. ltb 256 (sofar + n)) (λ l. TooManySets l) (length s.sets) (omega arith) few (le-ltb 256 (sofar + length s.sets) p.room)))
    (sets_from s.sets k.sets))))))))))

slaves_to : (own last sofar n : ℕ) (ss : List SlaveLines) → good_all slave_c after (own, (last, sofar)) n ss ≡ true → sofar ≤ 256 → SlavesKeep own last ss × (sofar + total ss ≤ 256)
slaves_to own last sofar n [] h k = (tt, omega arith)
slaves_to own last sofar zero (s ∷ ss) h k = cc
slaves_to own last sofar (suc n) (s ∷ ss) h k =
    let g = and_parts ((slave_c (own, (last, sofar))).good s) _ h in
    let p = slave_to own last sofar s g.0 in
    let r = slaves_to own s.node (sofar + length s.sets) n ss g.1 p.room in
    ((p.keeps, r.0), omega (arith, r.1))

slaves_from : (own last sofar : ℕ) (ss : List SlaveLines) → SlavesKeep own last ss → sofar + total ss ≤ 256 → good_all slave_c after (own, (last, sofar)) (length ss) ss ≡ true
slaves_from own last sofar [] k h = refl
slaves_from own last sofar (s ∷ ss) k h =
    and_from _ _ (slave_from own last sofar s (record { keeps = k.0; room = omega arith })) (slaves_from own s.node (sofar + length s.sets) ss k.1 (omega arith))

-- every sheet keeps the rules
pub keeps_to : (s : SheetLines) → good s ≡ true → Keeps s
keeps_to s h =
    let hs = and_parts (header_c.good (of_sheet s).0) _ h in
    let p0 = and_parts ((ranged Own 1 127).good s.own) _ hs.0 in
    let p1 = and_parts ((ranged Wait 1 60000).good s.wait) _ p0.1 in
    let p2 = and_parts ((word Boottime).good s.boottime) _ p1.1 in
    let p3 = and_parts ((ranged Inhibit 0 65535).good s.inhibit) _ p2.1 in
    let n = and_parts (count_c.good (length s.slaves)) _ hs.1 in
    let own = ranged_to Own 1 127 s.own p0.0 in
    let wait = ranged_to Wait 1 60000 s.wait p1.0 in
    let k = slaves_to s.own 0 0 (length s.slaves) s.slaves n.1 (omega arith) in
    record {
      own_low = own.0;
      own_high = own.1;
      wait_low = wait.0;
      wait_high = wait.1;
      boottime = (ranged_to Boottime 0 4294967295 s.boottime p2.0).1;
      inhibit = (ranged_to Inhibit 0 65535 s.inhibit p3.0).1;
      listed = (ranged_to Slaves 0 126 (length s.slaves) n.0).1;
      slaves = k.0;
      sets = omega (arith, k.1);
    }

-- all lines that keep the rules are a sheet's
pub keeps_from : (s : SheetLines) → Keeps s → good s ≡ true
keeps_from s k =
    and_from _ _
    (and_from _ _ (ranged_from Own 1 127 s.own k.own_low k.own_high (omega arith))
    (and_from _ _ (ranged_from Wait 1 60000 s.wait k.wait_low k.wait_high (omega arith))
    (and_from _ _ (ranged_from Boottime 0 4294967295 s.boottime (omega arith) k.boottime (omega arith))
    (and_from _ _ (ranged_from Inhibit 0 65535 s.inhibit (omega arith) k.inhibit (omega arith))
    (and_from _ _ (flag_from Startall s.startall)
    (and_from _ _ (flag_from Resetall s.resetall) (flag_from Stopall s.stopall)))))))
    (and_from _ _ (ranged_from Slaves 0 126 (length s.slaves) (omega arith) k.listed (omega arith)) (let few = k.sets in slaves_from s.own 0 0 s.slaves k.slaves (omega arith)))

pub lasting : (s : SheetLines) → good s ≡ true → Lasting s
lasting s h = record { keeps = keeps_to s h; back = reads_text s h }
