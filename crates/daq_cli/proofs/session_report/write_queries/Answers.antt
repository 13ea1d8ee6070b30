-- The number of the queries, and then their printed forms.
use Rattle.std.proofs.Common.{◌++◌, ℕ, length, map, subst, sym}
use Rattle.std.proofs.lemmas.List.{length-map}
use Rattle.std.specs.Prelude.{string_bytes}
use Rattle.outer_world.proofs.Writes.{writes_both, writes_cut}
use Rattle.outer_world.specs.Whole.{Writes}
use Rattle.daq_cli.specs.SessionReport.{count_line, numbered, numbered_line}
use Rattle.daq_cli.proofs.session_report.write_queries.Goals as goal

pub returns-in_err-write_count : goal.returns-in_err-write_count
returns-in_err-write_count g c =
    let sqls = c.args.sqls.now in
    subst (λ (n : ℕ). Writes c.from_residual.result (g.K.Sink.state c.args.out.now) (g.K.Sink.state c.write_count.new.out) (count_line n ++ numbered numbered_line 1 (map string_bytes sqls)))
    (sym (length-map sqls string_bytes)) (writes_cut _ c.from_residual.result _ _ (count_line (length sqls)) _ c.from_residual.ensures.0 c.in_err-write_count.ensures)

pub returns : goal.returns
returns g c =
    let sqls = c.args.sqls.now in
    subst (λ (n : ℕ). Writes c.write_printed.result (g.K.Sink.state c.args.out.now) (g.K.Sink.state c.write_printed.new.out) (count_line n ++ numbered numbered_line 1 (map string_bytes sqls)))
    (sym (length-map sqls string_bytes)) (writes_both _ _ _ _ _ (count_line (length sqls)) _ c.in_ok-write_count.ensures c.write_printed.ensures)
