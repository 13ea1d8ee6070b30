-- What holds as the rows of a block are gathered: the lines of those so far stand there, and there is room for the rest.
use Rattle.std.proofs.Common.{◌≡◌, ◌≤◌, ◌*◌, length}
use Rattle.daq_report.specs.Rankings.{rows_text}
use Rattle.daq_report.proofs.rankings.gather_rows.Given as goal

abbrev pub invariant-loop-place : goal.invariant-loop-place
invariant-loop-place l = record {
  text : l.lines ≡ rows_text l.head l.engine l.key l.list (64 * l.block) l.place;
  few : length l.lines ≤ 1536 * l.place;
}
