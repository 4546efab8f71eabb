-- A frame heard, on one entry: it reads as the record does.
use Rattle.std.proofs.Common.{◌≡◌, ℕ, ◌+◌, ◌%◌, ◌≤◌, Bool, eqb, Some, None, Option, refl, ap, ◌∙◌, arith}
use Rattle.std.specs.Option.{option_map}
use Rattle.std.proofs.lemmas.Bool.{cond-false, ne_eqb, and_left}
use Rattle.frames.specs.Contents.{Content}
use Rattle.frames.specs.Sdo.{reply_in}
use Rattle.frames.specs.Signs.{sign_in}
use Rattle.frames.specs.declared.error_control.Sign.{Sign}
use Rattle.frames.specs.declared.sdo.Reply.{Reply}
use Rattle.frames.specs.declared.sdo.Request.{Request}
use Rattle.sheet.specs.Format.{SlaveLines, SheetLines}
use Rattle.master.specs.Checks.{request_of}
use Rattle.master.specs.Network.{answer_to, sign_or, input_of}
use Rattle.master.specs.Record.{Try, Reading, heard, answered, heard_from, replied_by, read, none, to_ask, asked, at_state, at_control, passed}
use Rattle.master.specs.Step.{stepped}
use Rattle.master.specs.declared.types.Check.{Check}
use Rattle.master.specs.declared.types.Check.TheVariants.{Kind, Vendor, Product, Revision, Serial, Set}
use Rattle.master.specs.declared.types.Entry.{Entry}
use Rattle.master.specs.declared.types.Input.{Input}
use Rattle.master.specs.declared.types.Input.TheVariants as input
use Rattle.master.specs.declared.types.Letter.{Letter}
use Rattle.master.specs.declared.types.Stage.{Stage}
use Rattle.master.specs.declared.types.Stage.TheVariants.{AwaitBoot, Ask, Asked, ListenState, ListenControl, Passed, Retry, ResetDue}
use Rattle.master.specs.declared.types.Word.{Word}
use Rattle.master.proofs.Seeing.{seen, made, try_of, to_ask_of, seen_sign, seen_reply}

-- what an input makes of an entry
abbrev pub inputted : SlaveLines → Option Input → Entry → Entry
inputted c None e = e
inputted c (Some i) e = (stepped c e i).entry

-- what a frame makes of its slave's entry
abbrev pub hearing : Content → SlaveLines → Entry → Entry
hearing f c e = inputted c (input_of c e.stage f) e

module _ (c : SlaveLines) (f : Content) (w : Word) (b : Bool) (l : Option Letter) (o : Bool) where
  answer_seen : (k : Check) (left : ℕ) (r : Option Reply) → seen (inputted c (option_map (λ r. input.Replied r) r) (made (Asked k left) w b l o)) ≡ replied_by c k r (seen (made (Asked k left) w b l o))
  answer_seen k left None = refl
  answer_seen k left (Some r) = seen_reply c k left r (made (Asked k left) w b l o)

  ask_seen : (k : Check) → seen (made (Ask k) w b l o) ≡ answered c f (to_ask_of k) (seen (made (Ask k) w b l o))
  ask_seen Kind = refl
  ask_seen Vendor = refl
  ask_seen Product = refl
  ask_seen Revision = refl
  ask_seen Serial = refl
  ask_seen (Set i) = refl

  stage_seen : (x : Stage) → seen (inputted c (answer_to c x f) (made x w b l o)) ≡ answered c f (try_of x) (seen (made x w b l o))
  stage_seen (AwaitBoot n) = refl
  stage_seen (Ask k) = ask_seen k
  stage_seen (Asked k n) = answer_seen k n (reply_in (request_of c k) f)
  stage_seen (ListenState n) = refl
  stage_seen (ListenControl n r) = refl
  stage_seen (Passed r s n) = refl
  stage_seen (Retry n) = refl
  stage_seen (ResetDue k) = refl

  sign_seen : (x : Stage) (s : Option Sign) → seen (inputted c (sign_or s (answer_to c x f)) (made x w b l o)) ≡ heard_from c f s (seen (made x w b l o))
  sign_seen x None = stage_seen x
  sign_seen x (Some s) = seen_sign c s (made x w b l o)

pub hearing_seen : (ls : SheetLines) (c : SlaveLines) (f : Content) (e : Entry) → seen (hearing f c e) ≡ read ls c (seen e) (heard f)
hearing_seen ls c f e = sign_seen c f e.word e.booted e.result e.once e.stage (sign_in f c.node)

-- a frame of another node is nothing to a slave
module _ (c : SlaveLines) (f : Content) (high : c.node ≤ 127) (far : f.id % 128 ≡ c.node → ⊥) where
  no_sign : sign_in f c.node ≡ None
  no_sign = cond-false _ _ _ (ne_eqb f.id (0x700 + c.node) (λ e. far (omega arith)))

  no_answer : (q : Request) → q.node ≡ c.node → reply_in q f ≡ None
  no_answer q e = cond-false _ _ _ (and_left (eqb f.id (0x580 + q.node)) _ (ne_eqb f.id (0x580 + q.node) (λ x. far (omega arith))))

  request_node : (k : Check) → (request_of c k).node ≡ c.node
  request_node Kind = refl
  request_node Vendor = refl
  request_node Product = refl
  request_node Revision = refl
  request_node Serial = refl
  request_node (Set i) = refl

  far_answer : (t : Try) (r : Reading) → answered c f t r ≡ r
  far_answer none r = refl
  far_answer (to_ask k) r = refl
  far_answer (asked k n) r = ap (λ o. replied_by c k o r) (no_answer (request_of c k) (request_node k))
  far_answer (at_state n) r = refl
  far_answer (at_control n s) r = refl
  far_answer (passed s u n) r = refl

  pub far_seen : (ls : SheetLines) (r : Reading) → read ls c r (heard f) ≡ r
  far_seen ls r = ap (λ s. heard_from c f s r) no_sign ∙ far_answer r.at r
