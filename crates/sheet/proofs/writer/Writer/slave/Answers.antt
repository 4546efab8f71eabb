use Rattle.std.proofs.Common.{◌≡◌, map, length, sym, ap, ◌∙◌, arith}
use Rattle.std.proofs.lemmas.List.{length-map}
use Rattle.std.specs.List.{flat_map}
use Rattle.sheet.specs.declared.keys.Key.TheVariants.{Node, Hb, Sets}
use Rattle.sheet.specs.Format.{set_c}
use Rattle.sheet.specs.Views.{set_of, sets_of}
use Rattle.sheet.proofs.Writing.{then, line_is, text_is, one_more, all_done, sets_text}
use Rattle.sheet.proofs.writer.Writer.slave.Goals as goal

pub loop-set-preserved : goal.loop-set-preserved
loop-set-preserved c =
    let so = c.loop-set.invariant in
    record {
      bound = omega (arith, so.bound, c.set.ensures.bound);
      adds = one_more set_c.write set_of _ _ _ c.as_slice-sets.result.now c.loop-set.set-index c.set-item.result c.loop-set-test.true c.set-item.is so.adds c.set.ensures.adds;
    }

pub returns-clause-adds : goal.returns-clause-adds
returns-clause-adds c =
    let same = c.as_slice-sets.ensures.items in
    let sets = sets_of c.args.slave.now.sets in
    let long : length c.as_slice-sets.result.now ≡ length sets = ap length same ∙ sym (length-map _ set_of) in
    let rest = all_done set_c.write set_of _ _ c.as_slice-sets.result.now c.loop-set.set-index c.loop-set-test.false c.loop-set.invariant.adds in
    then (line_is Node c.from.ensures c.line.ensures.adds)
    (then c.flag.ensures.adds (then c.flag-2.ensures.adds
    (then c.line-2.ensures.adds (then c.line-3.ensures.adds (then c.line-4.ensures.adds (then c.line-5.ensures.adds (then c.line-6.ensures.adds
    (then (line_is Hb c.from-2.ensures c.line-7.ensures.adds)
    (then (line_is Sets long c.line-8.ensures.adds) (text_is (ap (λ l. flat_map set_c.write (map set_of l)) same ∙ sym (sets_text sets)) rest))))))))))
