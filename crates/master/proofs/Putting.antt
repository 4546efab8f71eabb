-- A frame put: the entries change as the record reads it.
use Rattle.std.proofs.Common.{◌≡◌, ℕ, ◌+◌, ◌/◌, ◌%◌, ◌≤◌, Bool, true, false, cond, eqb, List, [], ◌∷◌, ◌++◌, length, get_or, Some, None, Option, sym, refl, ap, ◌∙◌, subst, ⊎_elim, arith}
use Rattle.std.specs.Str.{bytes_eq}
use Rattle.std.proofs.lemmas.Slice.Eq.{bytes_eq-Decides}
use Rattle.std.proofs.lemmas.Bool.{cases_eq, cond-true, cond-false, eq-eqb, ne_eqb, and_left, and_right, and_from}
use Rattle.std.proofs.lemmas.Bool.Decides.{nat_tests}
use Rattle.frames.specs.Contents.{Content}
use Rattle.frames.specs.Nmt.{nmt_in, reaches}
use Rattle.frames.specs.Sdo.{request_content, write_code, access_bytes}
use Rattle.frames.specs.declared.nmt.Command.{Command}
use Rattle.frames.specs.declared.nmt.Command.TheVariants as command
use Rattle.frames.specs.declared.sdo.Request.{Request}
use Rattle.frames.specs.declared.sdo.Size.{Size}
use Rattle.frames.specs.declared.sdo.Size.TheVariants.{One, Two, Three, Four}
use Rattle.sheet.specs.Format.{SlaveLines, SheetLines}
use Rattle.sheet.specs.Rules.{SlavesKeep}
use Rattle.master.specs.Checks.{size_by, request_of, no_set}
use Rattle.master.specs.Network.{slave_by, applied_to, command_of, nmt_to}
use Rattle.master.specs.Record.{Try, none, to_ask, asked, at_state, at_control, passed, Reading, Event, put, read, reading, started_at, commanded, same_content, asks_for, awaited, request_read, put_to}
use Rattle.master.specs.Step.{reset_put, start_put, started_from}
use Rattle.master.specs.Table.{entry_of, change_by, applied_all}
use Rattle.master.specs.declared.types.Change.{Change}
use Rattle.master.specs.declared.types.Check.{Check}
use Rattle.master.specs.declared.types.Check.TheVariants.{Kind, Vendor, Product, Revision, Serial, Set}
use Rattle.master.specs.declared.types.Entry.{Entry}
use Rattle.master.specs.declared.types.Letter.{Letter}
use Rattle.master.specs.declared.types.ResetKind.{ResetKind}
use Rattle.master.specs.declared.types.ResetKind.TheVariants as reset
use Rattle.master.specs.declared.types.Stage.{Stage}
use Rattle.master.specs.declared.types.Stage.TheVariants.{AwaitBoot, Ask, Asked, ListenState, ListenControl, Passed, Retry, ResetDue}
use Rattle.master.specs.declared.types.Word.{Word}
use Rattle.master.proofs.Agreement.{Same, pushed}
use Rattle.master.proofs.Seeing.{seen, made, try_of, to_ask_of}
use Rattle.master.specs.Record.{Every}
use Rattle.master.proofs.Spread.{every_zip, Ranged, ranged, found, changed_by, spread, spread_all}

-- an NMT command is read back as what it is
pub nmt_back : (c : Command) (n : ℕ) → nmt_in (nmt_to c n) ≡ Some (record { command = c; node = n })
nmt_back command.Start n = refl
nmt_back command.Stop n = refl
nmt_back command.ResetNode n = refl
nmt_back command.ResetCommunication n = refl

pub read_nmt : (ls : SheetLines) (d : SlaveLines) (c : Command) (n : ℕ) (r : Reading) → read ls d r (put (nmt_to c n)) ≡ cond (reaches (record { command = c; node = n }) d.node ls.own) (commanded c r) r
read_nmt ls d c n r = ap (λ m. put_to ls d (nmt_to c n) m r) (nmt_back c n)

-- node 0 reaches every listed slave, another node the slave that has it
pub reach_all : (c : Command) (m own : ℕ) → 1 ≤ m → (m ≡ own → ⊥) → reaches (record { command = c; node = 0 }) m own ≡ true
reach_all c m own a b = let x = ne_eqb m own b in let y : eqb m 0 ≡ false = ne_eqb m 0 (λ e. omega arith) in grind (arith, nat_tests)

pub reach_one : (c : Command) (n m own : ℕ) → 1 ≤ n → 1 ≤ m → reaches (record { command = c; node = n }) m own ≡ eqb m n
reach_one c n m own a b =
    let y : eqb m 0 ≡ false = ne_eqb m 0 (λ e. omega arith) in
    let z : eqb n 0 ≡ false = ne_eqb n 0 (λ e. omega arith) in
    ⊎_elim (λ e. grind (arith, nat_tests)) (λ e. grind (arith, nat_tests)) (cases_eq m n)

pub seen_reset : (k : ResetKind) (e : Entry) → seen (reset_put e) ≡ commanded (command_of k) (seen e)
seen_reset reset.Node e = refl
seen_reset reset.Communication e = refl

module _ (w : Word) (b : Bool) (l : Option Letter) (o : Bool) where
  start_stage : (x : Stage) → seen (started_from x (made x w b l o)) ≡ started_at (try_of x) (seen (made x w b l o))
  start_stage (AwaitBoot n) = refl
  start_stage (Ask Kind) = refl
  start_stage (Ask Vendor) = refl
  start_stage (Ask Product) = refl
  start_stage (Ask Revision) = refl
  start_stage (Ask Serial) = refl
  start_stage (Ask (Set i)) = refl
  start_stage (Asked k n) = refl
  start_stage (ListenState n) = refl
  start_stage (ListenControl n r) = refl
  start_stage (Passed r s n) = refl
  start_stage (Retry n) = refl
  start_stage (ResetDue k) = refl

pub seen_start : (e : Entry) → seen (start_put e) ≡ commanded command.Start (seen e)
seen_start e = start_stage e.word e.booted e.result e.once e.stage

-- a request is told from every other
same_self : (f : Content) → same_content f f ≡ true
same_self f = and_from _ _ (eq-eqb f.id f.id refl) ((bytes_eq-Decides f.bytes f.bytes).1 refl)

write_other : (z : Size) (xs ys : List ℕ) → bytes_eq (write_code z ∷ xs) (0x40 ∷ ys) ≡ false
write_other One xs ys = refl
write_other Two xs ys = refl
write_other Three xs ys = refl
write_other Four xs ys = refl

-- the bytes of a request after the first
abbrev rest : Request → List ℕ
rest q = q.index % 256 ∷ q.index / 256 % 256 ∷ q.sub ∷ access_bytes q.access

not_first : (c : SlaveLines) (k : Check) → to_ask_of k ≡ to_ask k → asks_for c (request_content (request_of c k)) Kind ≡ false
not_first c Kind e = let z : ◌≡◌ {A = ℕ} 0 1 = cc in absurd (omega arith)
not_first c Vendor e = and_right (eqb (0x600 + c.node) (0x600 + c.node)) _ refl
not_first c Product e = and_right (eqb (0x600 + c.node) (0x600 + c.node)) _ refl
not_first c Revision e = and_right (eqb (0x600 + c.node) (0x600 + c.node)) _ refl
not_first c Serial e = and_right (eqb (0x600 + c.node) (0x600 + c.node)) _ refl
not_first c (Set i) e = and_right (eqb (0x600 + c.node) (0x600 + c.node)) _ (write_other (size_by (get_or c.sets i no_set).size) (rest (request_of c (Set i))) (rest (request_of c Kind)))

pub no_command : (q : Request) → nmt_in (request_content q) ≡ None
no_command q = cond-false _ _ _ (ne_eqb (0x600 + q.node) 0 (λ e. omega arith))

-- the request of the check that the slave is at
module _ (ls : SheetLines) (c : SlaveLines) (b : Bool) (w : Word) (o : Bool) where
  abbrev at_try : Try → Reading
  at_try t = record { at = t; booted = b; word = w; once = o }

  later_put : (k : Check) → to_ask_of k ≡ to_ask k → request_read ls.wait c (request_content (request_of c k)) (at_try (to_ask k)) ≡ at_try (asked k ls.wait)
  later_put k e = cond-false _ _ _ (not_first c k e) ∙ cond-true _ _ _ (same_self (request_content (request_of c k)))

  own_put : (k : Check) → request_read ls.wait c (request_content (request_of c k)) (at_try (to_ask_of k)) ≡ at_try (asked k ls.wait)
  own_put Kind = cond-true _ _ _ (same_self (request_content (request_of c Kind)))
  own_put Vendor = later_put Vendor refl
  own_put Product = later_put Product refl
  own_put Revision = later_put Revision refl
  own_put Serial = later_put Serial refl
  own_put (Set i) = later_put (Set i) refl

  pub read_own : (k : Check) → read ls c (at_try (to_ask_of k)) (put (request_content (request_of c k))) ≡ at_try (asked k ls.wait)
  read_own k = ap (λ m. put_to ls c (request_content (request_of c k)) m (at_try (to_ask_of k))) (no_command (request_of c k)) ∙ own_put k

-- another slave's request
module _ (ls : SheetLines) (d : SlaveLines) (q : Request) (far : d.node ≡ q.node → ⊥) where
  not_mine : (m : ℕ) → m ≡ d.node → (x : List ℕ) → same_content (request_content q) (record { id = 0x600 + m; bytes = x }) ≡ false
  not_mine m e x = and_left (eqb (0x600 + q.node) (0x600 + m)) _ (ne_eqb (0x600 + q.node) (0x600 + m) (λ y. far (omega arith)))

  not_asked : (k : Check) → asks_for d (request_content q) k ≡ false
  not_asked Kind = not_mine d.node refl (request_content (request_of d Kind)).bytes
  not_asked Vendor = not_mine d.node refl (request_content (request_of d Vendor)).bytes
  not_asked Product = not_mine d.node refl (request_content (request_of d Product)).bytes
  not_asked Revision = not_mine d.node refl (request_content (request_of d Revision)).bytes
  not_asked Serial = not_mine d.node refl (request_content (request_of d Serial)).bytes
  not_asked (Set i) = not_mine d.node refl (request_content (request_of d (Set i))).bytes

  not_awaited : (t : Try) (r : Reading) → awaited ls.wait d (request_content q) t r ≡ r
  not_awaited none r = refl
  not_awaited (to_ask k) r = cond-false _ _ _ (not_asked k)
  not_awaited (asked k n) r = refl
  not_awaited (at_state n) r = refl
  not_awaited (at_control n s) r = refl
  not_awaited (passed s u n) r = refl

  pub read_other : (r : Reading) → read ls d r (put (request_content q)) ≡ r
  read_other r = ap (λ m. put_to ls d (request_content q) m r) (no_command q) ∙ cond-false _ _ _ (not_asked Kind) ∙ not_awaited r.at r

-- a frame put that concerns one node
module _ (ls : SheetLines) (k : SlavesKeep ls.own 0 ls.slaves) (h : List Event) (t : List Entry) (long : length t ≡ 127) (same : Every (Same ls h t) ls.slaves) (g : Change) (f : Content) (n : ℕ)
    (hit : (d : SlaveLines) → slave_by n ls.slaves ≡ Some d → Ranged ls.own 0 d → seen (change_by g d (entry_of t d)) ≡ read ls d (seen (entry_of t d)) (put f))
    (miss : (d : SlaveLines) → Ranged ls.own 0 d → (d.node ≡ n → ⊥) → (r : Reading) → read ls d r (put f) ≡ r) where
  abbrev PutAt : List Entry → SlaveLines → Type 0
  PutAt u d = entry_of u d ≡ cond (eqb d.node n) (change_by g d (entry_of t d)) (entry_of t d)

  one_put : (u : List Entry) (d : SlaveLines) → Ranged ls.own 0 d → (d.node ≡ n → slave_by n ls.slaves ≡ Some d) → PutAt u d → Same ls h t d → Same ls (h ++ put f ∷ []) u d
  one_put u d r x e s =
      ⊎_elim
      (λ y. ap seen (e ∙ cond-true _ _ _ (eq-eqb d.node n y)) ∙ hit d (x y) r ∙ ap (λ z. read ls d z (put f)) s ∙ sym (pushed ls d h (put f)))
      (λ y. ap seen (e ∙ cond-false _ _ _ (ne_eqb d.node n y)) ∙ s ∙ sym (miss d r y (reading ls d h)) ∙ sym (pushed ls d h (put f)))
      (cases_eq d.node n)

  to_changed : (o : Option SlaveLines) → changed_by (change_by g) t o ≡ applied_to g o t
  to_changed None = refl
  to_changed (Some c) = refl

  pub put_one : Every (Same ls (h ++ put f ∷ []) (applied_to g (slave_by n ls.slaves) t)) ls.slaves
  put_one =
      let u : List Entry = applied_to g (slave_by n ls.slaves) t in
      let e = subst (λ z. Every (PutAt z) ls.slaves) (to_changed (slave_by n ls.slaves)) (spread (change_by g) n ls.own ls.slaves k t long (slave_by n ls.slaves) refl) in
      every_zip (λ d. Ranged ls.own 0 d × (d.node ≡ n → slave_by n ls.slaves ≡ Some d)) (λ d. PutAt u d × Same ls h t d) (Same ls (h ++ put f ∷ []) u) ls.slaves (λ d x y. one_put u d x.0 x.1 y.0 y.1)
      (every_zip (Ranged ls.own 0) (λ d. d.node ≡ n → slave_by n ls.slaves ≡ Some d) (λ d. Ranged ls.own 0 d × (d.node ≡ n → slave_by n ls.slaves ≡ Some d)) ls.slaves (λ d x y. (x, y)) (ranged ls.own 0 ls.slaves k) (found n ls.own 0 ls.slaves k))
      (every_zip (PutAt u) (Same ls h t) (λ d. PutAt u d × Same ls h t d) ls.slaves (λ d x y. (x, y)) e same)

-- a frame put that concerns all listed slaves
module _ (ls : SheetLines) (k : SlavesKeep ls.own 0 ls.slaves) (h : List Event) (t : List Entry) (long : length t ≡ 127) (same : Every (Same ls h t) ls.slaves) (g : Change) (f : Content)
    (hit : (d : SlaveLines) → Ranged ls.own 0 d → seen (change_by g d (entry_of t d)) ≡ read ls d (seen (entry_of t d)) (put f)) where
  pub put_all : Every (Same ls (h ++ put f ∷ []) (applied_all g ls.slaves t)) ls.slaves
  put_all =
      let u : List Entry = applied_all g ls.slaves t in
      every_zip (λ d. Ranged ls.own 0 d × (entry_of u d ≡ change_by g d (entry_of t d))) (Same ls h t) (Same ls (h ++ put f ∷ []) u) ls.slaves
      (λ d x s. ap seen x.1 ∙ hit d x.0 ∙ ap (λ z. read ls d z (put f)) s ∙ sym (pushed ls d h (put f)))
      (every_zip (Ranged ls.own 0) (λ d. entry_of u d ≡ change_by g d (entry_of t d)) (λ d. Ranged ls.own 0 d × (entry_of u d ≡ change_by g d (entry_of t d))) ls.slaves (λ d x y. (x, y)) (ranged ls.own 0 ls.slaves k) (spread_all g ls.own 0 ls.slaves t k long))
      same
