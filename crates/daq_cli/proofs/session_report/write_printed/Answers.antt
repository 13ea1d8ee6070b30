-- The lines are written in order.
use Rattle.std.proofs.Common.{Err, List, Ok, ◌+◌, ℕ, arith, map, subst}
use Rattle.std.specs.Prelude.{string_bytes}
use Rattle.outer_world.specs.declared.device.Failed.{Failed}
use Rattle.outer_world.specs.Whole.{Writes}
use Rattle.daq_cli.specs.SessionReport.{numbered_line}
use Rattle.daq_cli.proofs.Numbered.{text_after, text_cut, text_there}
use Rattle.daq_cli.proofs.session_report.write_printed.Goals as goal

pub returns-in_err-write_query : goal.returns-in_err-write_query
returns-in_err-write_query g c =
    let sqls = c.args.sqls.now in
    let sql = c.index-sqls-at.result in
    let there = text_there string_bytes sqls c.loop-at.at sql (omega arith) c.index-sqls-at.is in
    let line : Writes {T = Unit {0}} {E = Failed} (Err c.in_err-write_query.field-0.0) (g.K.Sink.state c.loop-at.out) (g.K.Sink.state c.write_query.new.out) (numbered_line (c.loop-at.at + 1) (string_bytes sql)) =
    subst (λ (t : List ℕ). Writes {T = Unit {0}} {E = Failed} (Err c.in_err-write_query.field-0.0) (g.K.Sink.state c.loop-at.out) (g.K.Sink.state c.write_query.new.out) (numbered_line (c.loop-at.at + 1) t)) c.as_str.ensures.value c.in_err-write_query.ensures in
    text_cut numbered_line _ _ c.from_residual.result (map string_bytes sqls) c.loop-at.at (string_bytes sql) _ _ _ there c.loop-at.invariant c.from_residual.ensures.0 line

pub loop-at-preserved : goal.loop-at-preserved
loop-at-preserved g c =
    let sqls = c.args.sqls.now in
    let sql = c.index-sqls-at.result in
    let there = text_there string_bytes sqls c.loop-at.at sql (omega arith) c.index-sqls-at.is in
    let line : Writes {T = Unit {0}} {E = Failed} (Ok c.in_ok-write_query.field-0) (g.K.Sink.state c.loop-at.out) (g.K.Sink.state c.write_query.new.out) (numbered_line (c.loop-at.at + 1) (string_bytes sql)) =
    subst (λ (t : List ℕ). Writes {T = Unit {0}} {E = Failed} (Ok c.in_ok-write_query.field-0) (g.K.Sink.state c.loop-at.out) (g.K.Sink.state c.write_query.new.out) (numbered_line (c.loop-at.at + 1) t)) c.as_str.ensures.value c.in_ok-write_query.ensures in
    text_after numbered_line _ _ _ (map string_bytes sqls) c.loop-at.at (string_bytes sql) _ _ _ there c.loop-at.invariant line
