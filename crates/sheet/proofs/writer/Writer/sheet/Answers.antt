use Rattle.std.proofs.Common.{◌≡◌, map, length, vec_items, sym, ap, ◌∙◌, arith}
use Rattle.std.proofs.lemmas.List.{length-map}
use Rattle.std.specs.List.{flat_map}
use Rattle.sheet.specs.declared.keys.Key.TheVariants.{Own, Wait, Inhibit, Slaves}
use Rattle.sheet.specs.Format.{slave_text}
use Rattle.sheet.specs.Views.{slave_of, slaves_of}
use Rattle.sheet.proofs.Writing.{then, line_is, text_is, one_more, all_done, slaves_text}
use Rattle.sheet.proofs.writer.Writer.sheet.Goals as goal

pub loop-slave-preserved : goal.loop-slave-preserved
loop-slave-preserved c =
    let so = c.loop-slave.invariant in
    record {
      bound = omega (arith, so.bound, c.slave.ensures.bound);
      adds = one_more slave_text slave_of _ _ _ c.deref-slave-items.result.now c.loop-slave.slave-index c.slave-item.result c.loop-slave-test.true c.slave-item.is so.adds c.slave.ensures.adds;
    }

pub returns : goal.returns
returns c =
    let slaves = c.args.sheet.now.slaves in
    let long : c.len.result ≡ length (slaves_of slaves) = c.len.ensures ∙ slaves.ok.0 ∙ sym (length-map (vec_items slaves) slave_of) in
    let rest = all_done slave_text slave_of _ _ c.deref-slave-items.result.now c.loop-slave.slave-index c.loop-slave-test.false c.loop-slave.invariant.adds in
    then
    (then (line_is Own c.from.ensures c.line.ensures.adds)
    (then (line_is Wait c.from-2.ensures c.line-2.ensures.adds)
    (then c.line-3.ensures.adds
    (then (line_is Inhibit c.from-3.ensures c.line-4.ensures.adds)
    (then c.flag.ensures.adds (then c.flag-2.ensures.adds c.flag-3.ensures.adds))))))
    (then (line_is Slaves long c.line-5.ensures.adds) (text_is (ap (λ l. flat_map slave_text (map slave_of l)) c.deref-slave-items.ensures.value ∙ sym (slaves_text _ (slaves_of slaves))) rest))
