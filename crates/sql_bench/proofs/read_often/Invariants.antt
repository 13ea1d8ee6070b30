-- As many were read as the counter allows, and only if the text is a query.
use Rattle.std.proofs.Common.{◌≤◌}
use Rattle.sql_text.specs.Tree.{Query}
use Rattle.sql_text.specs.Answer.{IsText}
use Rattle.sql_bench.proofs.read_often.Given as goal

abbrev pub invariant-loop : goal.invariant-loop
invariant-loop l = record {
  few : l.read ≤ l.counter;
  queries : 1 ≤ l.read → (q : Query) × IsText l.text q;
}
