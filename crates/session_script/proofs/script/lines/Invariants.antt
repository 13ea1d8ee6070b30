use Rattle.std.proofs.Common.{◌≡◌, ◌+◌, ◌++◌, length, map, drop}
use Rattle.session_script.specs.Lines.{line_of, lines_from, queries_of, texts_of}
use Rattle.session_script.proofs.script.lines.Given as goal

abbrev pub invariant-lines : goal.invariant-lines
invariant-lines l = record {
  count : l.line ≡ length l.yielded;
  left : map line_of l.queries.items ++ lines_from (length l.yielded + 1) (drop (length l.yielded) (texts_of l.script)) ≡ queries_of l.script;
}
