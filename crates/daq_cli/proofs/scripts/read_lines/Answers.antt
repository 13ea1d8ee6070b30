use Rattle.std.proofs.Common.{◌∙◌, ◌+◌, IsUtf8, [], ◌∷◌, ap, map, subst, sym}
use Rattle.std.proofs.lemmas.List.{map-append}
use Rattle.std.proofs.lemmas.List.Elements.{All-push}
use Rattle.std.proofs.lemmas.Result.{err_from_is_err_and}
use Rattle.std.specs.List.{All}
use Rattle.session_script.specs.Lines.{line_of}
use Rattle.sql_print.specs.Printed.{printed}
use Rattle.sql_text.specs.Tree.{query_of}
use Rattle.daq_cli.specs.ScriptValues.{scripted_of}
use Rattle.daq_cli.specs.Scripts.{line_step}
use Rattle.daq_cli.specs.declared.scripts.Scripted.{Scripted}
use Rattle.daq_cli.proofs.Steps.{IsLeft, none_left, one_less_at, one_stops_at}
use Rattle.daq_cli.proofs.scripts.read_lines.Goals as goal

abbrev IsPrintable : Scripted → Type 0
IsPrintable one = IsUtf8 (printed (query_of one.tree))

pub loop-line-preserved : goal.loop-line-preserved
loop-line-preserved c =
    let lines = c.args.lines.now in
    let i = c.loop-line.line-index in
    let queries = c.loop-line.queries.items in
    let one = c.in_ok-read_line.field-0 in
    record {
      left = subst (IsLeft line_step line_of lines (i + 1)) (sym (ap (map scripted_of) c.in_ok-push.ensures.items ∙ map-append scripted_of queries (one ∷ [])))
          (one_less_at line_step line_of lines i (map scripted_of queries) c.loop-line.invariant.left _ c.loop-line-test.true (scripted_of one) c.in_ok-read_line.ensures.query);
      printable = subst (All IsPrintable) (sym c.in_ok-push.ensures.items) (All-push IsPrintable queries one c.loop-line.invariant.printable c.in_ok-read_line.ensures.printable);
    }

pub returns-in_err-read_line-clause-refused : goal.returns-in_err-read_line-clause-refused
returns-in_err-read_line-clause-refused c =
    let p = err_from_is_err_and c.from_residual-in_err-read_line.result c.from_residual-in_err-read_line.ensures.1 in
    rw (p.1, p.2) (one_stops_at line_step line_of c.args.lines.now c.loop-line.line-index (map scripted_of c.loop-line.queries.items) c.loop-line.invariant.left
    _ c.loop-line-test.true c.in_err-read_line.field-0.0 c.in_err-read_line.ensures.refused)

pub returns-clause-queries : goal.returns-clause-queries
returns-clause-queries c =
    none_left line_step line_of c.args.lines.now c.loop-line.line-index (map scripted_of c.loop-line.queries.items) c.loop-line.invariant.left c.loop-line-test.false
