-- Why each step of a `query` stops it, and what it comes to.
use Rattle.std.proofs.lemmas.Result.{err_from_is_err_and}
use Rattle.command_line.specs.Values.{query_of}
use Rattle.sql_text.specs.Tree as sql
use Rattle.daq_cli.proofs.Causes.{text_shown}
use Rattle.daq_cli.proofs.QueryCauses.{query_file, query_text}
use Rattle.daq_cli.proofs.commands.query.carry_out.Goals as goal

pub returns-in_err-query-clause-refused : goal.returns-in_err-query-clause-refused
returns-in_err-query-clause-refused g c =
    let asked = query_of c.args.asked.now in
    let p = err_from_is_err_and c.from_residual.result c.from_residual.ensures.1 in
    rw p.1 (query_text asked (g.K.Sink.state c.args.out.now) (g.P.Store.state c.args.planes.now) p.0
    (text_shown asked.sql c.read_query.result c.in_err-query.field-0.0 p.0 c.in_err-query.was c.read_query.ensures.too_long c.in_err-query.ensures.refused p.2))

pub returns-in_err-file-clause-refused : goal.returns-in_err-file-clause-refused
returns-in_err-file-clause-refused g c =
    let asked = query_of c.args.asked.now in
    let p = err_from_is_err_and c.from_residual-in_err-file.result c.from_residual-in_err-file.ensures.1 in
    rw p.1 (query_file asked (g.K.Sink.state c.args.out.now) (sql.query_of c.in_ok-query.query) c.in_ok-query.ensures.query (g.P.Store.state c.args.planes.now) (g.P.Store.state c.open.new.store)
    c.in_err-file.field-0.0 p.0 c.in_err-file.ensures.refused p.2)

pub returns-clause-done : goal.returns-clause-done
returns-clause-done g c =
    c.answer_file.ensures.done (g.P.Store.state c.args.planes.now)
    (record { is_text = c.in_ok-query.ensures.query; opens = c.in_ok-file.ensures.opened; same = c.in_ok-file.ensures.same })

pub returns-clause-refused : goal.returns-clause-refused
returns-clause-refused g c =
    c.answer_file.ensures.refused (g.P.Store.state c.args.planes.now)
    (record { is_text = c.in_ok-query.ensures.query; opens = c.in_ok-file.ensures.opened; same = c.in_ok-file.ensures.same })
