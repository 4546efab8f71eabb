use Rattle.std.proofs.Common.{rules}
use Rattle.std.proofs.lemmas.List.Sorted.{answers_always}
use Rattle.sheet.proofs.Keeping.{keeps_to}
use Rattle.sheet.specs.Sheets.{lines_of}
use Rattle.sheet.specs.declared.model.slave.Slave.{Slave}
use Rattle.master.proofs.Searching.{absent, present}
use Rattle.master.proofs.network.search.Goals as goal

pub returns-in-Ok : goal.returns-in-Ok
returns-in-Ok c =
    let s = c.args.sheet.now in
    let facts = c.binary_search_by_key.ensures in
    let found = facts.position (λ (x : Slave). x.node) (answers_always _ _ _ (λ f a r g called. search rules)) in
    present s.own s.slaves.items (keeps_to (lines_of s) s.kept).slaves c.args.node c.deref.result.now c.deref.ensures.value c.binary_search_by_key.result found c.in-Ok.place c.index.result.now c.in-Ok.is
    (search rules) c.index.ensures

pub returns-in-Err : goal.returns-in-Err
returns-in-Err c =
    let s = c.args.sheet.now in
    let facts = c.binary_search_by_key.ensures in
    let found = facts.position (λ (x : Slave). x.node) (answers_always _ _ _ (λ f a r g called. search rules)) in
    absent s.own s.slaves.items (keeps_to (lines_of s) s.kept).slaves c.args.node c.deref.result.now c.deref.ensures.value c.binary_search_by_key.result found c.in-Err.field-0 c.in-Err.is
