-- Where each end of what is shown is the answer in some world of a run, it is so in some world of the reading.
use Rattle.std.proofs.Common.{◌≤◌, ℕ, Option, length}
use Rattle.command_line.specs.Commands.{Options}
use Rattle.daq_table.specs.declared.table_head.Head.{Head}
use Rattle.sql_headline.proofs.Tight.{IsReached, IsSpanReached}
use Rattle.sql_headline.specs.Spans.{Span, shares, values}
use Rattle.sql_meaning.specs.Conditions.{Row}
use Rattle.sql_meaning.specs.Values.{Value}
use Rattle.sql_headline.proofs.Begun.{Laws}
use Rattle.sql_text.specs.Tree as tree
use Rattle.sql_text.specs.Tree.{Item}
use Rattle.table_rounds.specs.Rounds.{Planes}
use Rattle.run_headline.specs.Answers.{IsTightSpan, Occurs}
use Rattle.run_headline.proofs.Ran as rounds
use Rattle.run_headline.proofs.Ran.{IsRan}

module _ (law : Laws) (q : tree.Query) (head : Head) (bits : Planes) (options : Options) (ran : IsRan q head bits options) (round : ℕ) (h : round ≤ length ran.reads)
    (item : Item) (one : Row) where
  occurs : (v : Option Value) → IsReached (rounds.run law q head bits options ran) round item one v → Occurs (rounds.reading law q head bits options ran) round item one v
  occurs v at = record { world = at.world; is_world = rounds.world_back law q head bits options ran round h at.world at.is_world; is = at.is }

  pub tight : (span : Span) → IsSpanReached (rounds.run law q head bits options ran) round item one span → IsTightSpan (rounds.reading law q head bits options ran) round item one span
  tight (shares averages) ends = tt
  tight (values interval) ends = record {
    low = λ some. occurs interval.low (ends.low some);
    high = λ some. occurs interval.high (ends.high some);
    null = λ possible. occurs _ (ends.null possible);
  }
