-- Why each step of a `demo` stops it, and what it comes to.
use Rattle.std.proofs.lemmas.Result.{err_from_is_err_and}
use Rattle.command_line.specs.Values.{demo_of}
use Rattle.sql_text.specs.Tree.{query_of}
use Rattle.daq_cli.proofs.Causes.{rows_few, rows_shown, text_shown}
use Rattle.daq_cli.proofs.DemoCauses.{demo_done, demo_question, demo_rows, demo_text}
use Rattle.daq_cli.proofs.Results.{if_err, on_ok}
use Rattle.daq_cli.proofs.commands.demo.carry_out.Goals as goal

pub returns-in_err-query-clause-refused : goal.returns-in_err-query-clause-refused
returns-in_err-query-clause-refused g c =
    let asked = demo_of c.args.asked.now in
    let p = err_from_is_err_and c.from_residual.result c.from_residual.ensures.1 in
    rw p.1 (demo_text asked (g.K.Sink.state c.args.out.now) p.0
    (text_shown asked.sql c.read_query.result c.in_err-query.field-0.0 p.0 c.in_err-query.was c.read_query.ensures.too_long c.in_err-query.ensures.refused p.2))

pub returns-in_err-table-clause-refused : goal.returns-in_err-table-clause-refused
returns-in_err-table-clause-refused g c =
    let asked = demo_of c.args.asked.now in
    let p = err_from_is_err_and c.from_residual-in_err-table.result c.from_residual-in_err-table.ensures.1 in
    rw p.1 (demo_rows asked (g.K.Sink.state c.args.out.now) (query_of c.in_ok-query.query) c.in_ok-query.ensures.query p.0
    (rows_shown asked.rows c.make.result c.in_err-table.field-0.0 p.0 c.in_err-table.was c.make.ensures.many p.2))

pub answer-requires-clause-texts : goal.answer-requires-clause-texts
answer-requires-clause-texts g c = c.heads_have_texts.ensures c.args.asked.now.seed c.args.asked.now.rows c.in_ok-table.table c.in_ok-table.ensures.table

pub returns-clause-done : goal.returns-clause-done
returns-clause-done g c =
    let asked = demo_of c.args.asked.now in
    on_ok _ _ c.answer.result _ _
    (demo_done asked (g.K.Sink.state c.args.out.now) (query_of c.in_ok-query.query) c.in_ok-query.ensures.query c.in_ok-table.table
    (record { few = rows_few asked.rows c.make.result c.in_ok-table.table c.in_ok-table.was c.make.ensures.many; is_table = c.in_ok-table.ensures.table }) (g.K.Sink.state c.answer.new.out)) c.answer.ensures.done

pub returns-clause-refused : goal.returns-clause-refused
returns-clause-refused g c =
    let asked = demo_of c.args.asked.now in
    if_err _ _ c.answer.result _ _
    (demo_question asked (g.K.Sink.state c.args.out.now) (query_of c.in_ok-query.query) c.in_ok-query.ensures.query c.in_ok-table.table
    (record { few = rows_few asked.rows c.make.result c.in_ok-table.table c.in_ok-table.was c.make.ensures.many; is_table = c.in_ok-table.ensures.table }) (g.K.Sink.state c.answer.new.out)) c.answer.ensures.refused
