use Rattle.std.proofs.Common.{◌≤◌, refl, map, subst, length, arith}
use Rattle.sheet.proofs.Keeping.{keeps_to}
use Rattle.sheet.specs.Format.{SheetLines}
use Rattle.sheet.specs.Sheets.{lines_of}
use Rattle.master.specs.Masters.{port_by, machine_by}
use Rattle.master.specs.Rows.{call_of, shown_of}
use Rattle.master.specs.FromPort.{fresh_machine}
use Rattle.master.specs.Session.{PortState, Machine}
use Rattle.master.proofs.Rowing.{Running, run_begins, run_goes_on, run_ends, row_trace, row_stands}
use Rattle.master.proofs.rows.run_session.Goals as goal

pub loop-exchange-init : goal.loop-exchange-init
loop-exchange-init g c = run_begins c.args.row.now (machine_by g.P.Port c.new-master.result)

pub loop-exchange-preserved : goal.loop-exchange-preserved
loop-exchange-preserved g c =
    let now = c.loop-exchange.exchange-items in
    let at = c.loop-exchange.exchange-index in
    run_goes_on c.args.row.now now at _ (machine_by g.P.Port c.loop-exchange.master) _ c.exchange-item.result _ (omega arith) refl c.answer-exchange.ensures.seen c.answer-exchange.ensures.state c.loop-exchange.invariant

pub returns : goal.returns
returns g c =
    let row = c.args.row.now in
    let now = c.loop-exchange.exchange-items in
    let ls : SheetLines = lines_of c.args.sheet in
    let p : PortState = port_by g.P.Port c.args.port in
    let n : Machine = machine_by g.P.Port c.loop-exchange.master in
    let past : length now ≤ c.loop-exchange.exchange-index = omega arith in
    let r = run_ends row now c.loop-exchange.exchange-index (fresh_machine ls p) n past (subst (λ m. Running row now c.loop-exchange.exchange-index m n) c.new-master.ensures.state c.loop-exchange.invariant) in
    record {
      calls = r.calls;
      answers = r.answers;
      state = r.state;
      trace = row_trace ls (keeps_to ls c.args.sheet.kept) p (map call_of row) (map shown_of now) n r.answers r.state;
      stands = row_stands ls (keeps_to ls c.args.sheet.kept) p (map call_of row) (map shown_of now) n c.go-go.result r.answers r.state c.go-go.ensures.answer;
    }
