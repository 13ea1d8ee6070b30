-- A cut of the text left completes the cut of the whole.
use Rattle.std.proofs.Common.{◌-◌, ◌≤◌, length}
use Rattle.sql_tokens.specs.Lexeme.{views}
use Rattle.sql_tokens.proofs.Cutting.{Completes}
use Rattle.sql_tokens.proofs.cut.tokens.Given as goal

abbrev pub invariant-loop-at : goal.invariant-loop-at
invariant-loop-at l = record {
  completes : Completes l.text l.at (views l.out.items);
  within : l.at ≤ length l.text;
}

abbrev pub decreases-loop-at : goal.decreases-loop-at
decreases-loop-at l = length l.text - l.at
