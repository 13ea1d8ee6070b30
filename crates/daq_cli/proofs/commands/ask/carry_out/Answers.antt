-- Why each step of an `ask` stops it, and what it comes to.
use Rattle.std.proofs.Common.{sym, subst}
use Rattle.std.proofs.lemmas.Result.{err_from_is_err_and}
use Rattle.command_line.specs.Values.{ask_of}
use Rattle.sql_text.specs.Tree.{query_of}
use Rattle.daq_cli.specs.Inputs.{InputCause, limits}
use Rattle.daq_cli.proofs.AskCauses.{ask_done, ask_input, ask_question, ask_text}
use Rattle.daq_cli.proofs.Causes.{text_shown}
use Rattle.daq_cli.proofs.Results.{if_err, on_ok}
use Rattle.daq_cli.proofs.commands.ask.carry_out.Goals as goal

pub returns-in_err-query-clause-refused : goal.returns-in_err-query-clause-refused
returns-in_err-query-clause-refused g c =
    let asked = ask_of c.args.asked.now in
    let p = err_from_is_err_and c.from_residual.result c.from_residual.ensures.1 in
    rw p.1 (ask_text asked (g.K.Sink.state c.args.out.now) (g.S.Source.state c.args.input.now) p.0
    (text_shown asked.sql c.read_query.result c.in_err-query.field-0.0 p.0 c.in_err-query.was c.read_query.ensures.too_long c.in_err-query.ensures.refused p.2))

pub returns-in_err-table-clause-refused : goal.returns-in_err-table-clause-refused
returns-in_err-table-clause-refused g c =
    let asked = ask_of c.args.asked.now in
    let p = err_from_is_err_and c.from_residual-in_err-table.result c.from_residual-in_err-table.ensures.1 in
    rw p.1 (ask_input asked (g.K.Sink.state c.args.out.now) (query_of c.in_ok-query.query) c.in_ok-query.ensures.query (g.S.Source.state c.args.input.now) (g.S.Source.state c.read_table.new.input) p.0
    (subst (InputCause asked.schema (g.S.Source.state c.args.input.now) (g.S.Source.state c.read_table.new.input)) (sym p.2) c.in_err-table.ensures.refused))

pub answer-requires-clause-texts : goal.answer-requires-clause-texts
answer-requires-clause-texts g c =
    let read = c.in_ok-table.ensures.read in
    let (columns, declared, is_table) = read.accepted in
    c.heads_have_texts.ensures read.bytes columns limits c.in_ok-table.table is_table.is_table

pub returns-clause-done : goal.returns-clause-done
returns-clause-done g c =
    let asked = ask_of c.args.asked.now in
    on_ok _ _ c.answer.result _ _
    (ask_done asked (g.K.Sink.state c.args.out.now) (query_of c.in_ok-query.query) c.in_ok-query.ensures.query
    (g.S.Source.state c.args.input.now) (g.S.Source.state c.read_table.new.input) c.in_ok-table.table c.in_ok-table.ensures.read (g.K.Sink.state c.answer.new.out)) c.answer.ensures.done

pub returns-clause-refused : goal.returns-clause-refused
returns-clause-refused g c =
    let asked = ask_of c.args.asked.now in
    if_err _ _ c.answer.result _ _
    (ask_question asked (g.K.Sink.state c.args.out.now) (query_of c.in_ok-query.query) c.in_ok-query.ensures.query
    (g.S.Source.state c.args.input.now) (g.S.Source.state c.read_table.new.input) c.in_ok-table.table c.in_ok-table.ensures.read (g.K.Sink.state c.answer.new.out)) c.answer.ensures.refused
