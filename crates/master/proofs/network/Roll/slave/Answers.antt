use Rattle.std.proofs.Common.{rules}
use Rattle.sheet.proofs.Keeping.{keeps_to}
use Rattle.sheet.specs.Sheets.{lines_of}
use Rattle.master.proofs.Searching.{stands}
use Rattle.master.proofs.network.Roll.slave.Goals as goal

pub returns-in-Some : goal.returns-in-Some
returns-in-Some c =
    let s = c.args.self.now.sheet in
    let e = c.in-Some.ensures.lookup in
    stands s.own s.slaves.items (keeps_to (lines_of s) s.kept).slaves c.args.node c.deref.result.now c.deref.ensures.value c.from-hint.result c.in-Some.c.now (search rules) e.1 c.if-c-node.true
