-- The blocks of a query that was answered hold what it asks for.
use Rattle.command_line.specs.Commands.{Options}
use Rattle.daq_table.specs.declared.table_head.Head.{Head}
use Rattle.sql_headline.proofs.Begun.{Laws}
use Rattle.sql_text.specs.Tree as tree
use Rattle.table_rounds.specs.Rounds.{Planes}
use Rattle.run_headline.specs.Asked.{wanted_by}
use Rattle.run_headline.specs.Told.{IsTold}
use Rattle.run_headline.proofs.Groups as groups
use Rattle.run_headline.proofs.Ran.{IsRan, block, reading}
use Rattle.run_headline.proofs.Rankings as rankings
use Rattle.run_headline.proofs.Totals as totals

pub told : (law : Laws) (q : tree.Query) (head : Head) (bits : Planes) (options : Options) (ran : IsRan q head bits options) → IsTold (reading law q head bits options ran) (wanted_by options) (block law q head bits options ran)
told law q head bits options ran = record {
  totals = λ plain. totals.told law q head bits options ran plain;
  groups = λ names grouped. groups.told law q head bits options ran names grouped;
  first = λ key down limit ordered. rankings.told law q head bits options ran key down limit ordered;
}
