use Rattle.std.proofs.Common.{rules, tests, ◌≡◌, ℕ, ◌≤◌, List, ◌∷◌, length, eqb, sym, ap, ◌∙◌, arith, length-take}
use Rattle.std.specs.Iterator.{AlwaysYields}
use Rattle.std.specs.Option.{option_map}
use Rattle.std.proofs.lemmas.Iterator.Splits.{YieldsList-from_slice_split}
use Rattle.sheet.specs.Few.{few_items}
use Rattle.script.specs.Sessions.{heard, bytes_in, frame_in, parts}
use Rattle.script.specs.Views.{line_of}
use Rattle.script.proofs.Keeping.{keep, read_on, read_no_more, read_all, frame_begun, frame_no_id}
use Rattle.script.proofs.Taking.{took, took_none}
use Rattle.script.proofs.reader.heard.Given as given
use Rattle.script.proofs.reader.heard.Goals as goal
use Rattle.script.proofs.reader.heard.Goals.{In_ok-next, In-Some}

-- the identifier's part is the first, and the others are still to come
first : (c : In_ok-next) → (qs : List (List ℕ)) × (parts c.args.value.now ≡ c.in_ok-next.field-0.now ∷ qs) × AlwaysYields (given.iterator-loop-part).next_gives (λ x. x.now) c.next.new.self qs
first c = took (given.iterator-loop-part).next_gives (λ x. x.now) c.split-parts.result c.next.new.self c.in_ok-next.field-0 (parts c.args.value.now) (YieldsList-from_slice_split _ (λ b. eqb b 44) c.args.value.now c.split-parts.ensures.rest c.split-parts.ensures.done c.split-parts.ensures.closure (λ x b q k. search (rules, tests))).runs c.in_ok-next.ensures.steps

-- the part of this turn is the first of those that were to come
here : (c : In-Some) → (qs : List (List ℕ)) × (c.loop-part.invariant.0 ≡ c.in-Some.part.now ∷ qs) × AlwaysYields (given.iterator-loop-part).next_gives (λ x. x.now) c.next-in-loop-part.new.self qs
here c = took (given.iterator-loop-part).next_gives (λ x. x.now) c.loop-part.part-iterator c.next-in-loop-part.new.self c.in-Some.part c.loop-part.invariant.0 c.loop-part.invariant.1 c.in-Some.ensures.steps

pub returns-in_err-id : goal.returns-in_err-id
returns-in_err-id c =
    let f = first (goal.at.returns-in_err-id c).In_ok-next in
    ap (option_map line_of) c.from_residual-in_err-id.ensures ∙ frame_no_id c.in_ok-next.field-0.now f.0 c.in_err-id.ensures ∙ ap frame_in (sym f.1)

pub loop-part-init : goal.loop-part-init
loop-part-init c =
    let f = first (goal.at.loop-part-init c).In_ok-next in
    (f.0, rw c.into_iter-part-iterator.ensures.into_iter_gives f.2, frame_begun _ c.in_ok-next.field-0.now f.0 c.in_ok-id.id c.in_ok-id.ensures c.new-data.ensures ∙ ap frame_in (sym f.1))

pub returns-in_err-byte : goal.returns-in_err-byte
returns-in_err-byte c =
    let h = here (goal.at.returns-in_err-byte c).In-Some in
    let d = few_items c.loop-part.«data» in
    ap (option_map line_of) c.from_residual-in_err-byte.ensures
    ∙ ap (option_map (λ bs. heard c.in_ok-id.id bs)) (read_no_more d c.in-Some.part.now h.0 c.in_err-byte.ensures ∙ ap (λ (ps : List (List ℕ)). keep d (bytes_in ps)) (sym h.1))
    ∙ c.loop-part.invariant.2

pub loop-part-preserved : goal.loop-part-preserved
loop-part-preserved c =
    let h = here (goal.at.loop-part-preserved c).In-Some in
    let d = few_items c.loop-part.«data» in (
      h.0,
      h.2,
      ap (option_map (λ bs. heard c.in_ok-id.id bs)) (read_on d _ c.in-Some.part.now h.0 _ c.in_ok-byte.ensures c.push.ensures ∙ ap (λ (ps : List (List ℕ)). keep d (bytes_in ps)) (sym h.1))
          ∙ c.loop-part.invariant.2,
    )

pub returns : goal.returns
returns c =
    let d = few_items c.loop-part.«data» in
    let few : length d ≤ 9 = simp length-take (omega (arith, c.loop-part.«data».within)) in
    let none = took_none (given.iterator-loop-part).next_gives (λ x. x.now) c.loop-part.part-iterator c.next-in-loop-part.new.self c.loop-part.invariant.0 c.loop-part.invariant.1 c.in-None.ensures.steps in
    ap (option_map (λ bs. heard c.in_ok-id.id bs)) (read_all d few ∙ ap (λ (ps : List (List ℕ)). keep d (bytes_in ps)) (sym none)) ∙ c.loop-part.invariant.2
