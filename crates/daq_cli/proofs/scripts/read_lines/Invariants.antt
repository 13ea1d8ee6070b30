-- The lines so far are queries.
use Rattle.std.proofs.Common.{IsUtf8, map}
use Rattle.std.specs.List.{All}
use Rattle.session_script.specs.Lines.{line_of}
use Rattle.sql_print.specs.Printed.{printed}
use Rattle.sql_text.specs.Tree.{query_of}
use Rattle.daq_cli.specs.ScriptValues.{scripted_of}
use Rattle.daq_cli.specs.Scripts.{line_step}
use Rattle.daq_cli.proofs.Steps.{IsLeft}
use Rattle.daq_cli.proofs.scripts.read_lines.Given as goal

abbrev pub invariant-loop-line : goal.invariant-loop-line
invariant-loop-line l = record {
  left : IsLeft line_step line_of l.lines l.line-index (map scripted_of l.queries.items);
  printable : All (λ one. IsUtf8 (printed (query_of one.tree))) l.queries.items;
}
