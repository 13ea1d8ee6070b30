-- What holds as the blocks are written: those of the queries so far are.
use Rattle.std.proofs.Common.{◌≡◌, ℕ, ◌≤◌, List, Ok, length, take}
use Rattle.outer_world.specs.declared.device.Failed.{Failed}
use Rattle.outer_world.specs.Whole.{Writes}
use Rattle.query_model.specs.Queries.{Query}
use Rattle.table_rounds.specs.Steps.{IsAfter, places_read}
use Rattle.table_rounds.specs.Rounds.{Planes, column_read}
use Rattle.daq_cli.specs.SessionReport.{block_at, numbered}
use Rattle.daq_cli.proofs.session_report.write_step.Given as goal

abbrev pub invariant-loop-query : goal.invariant-loop-query
invariant-loop-query g l = record {
  text : (queries : List Query) (bits : Planes) (reads : List ℕ) → IsAfter l.plan queries l.head bits reads l.session → l.last ≡ column_read reads (length reads) →
      Writes {T = Unit {0}} {E = Failed} (Ok tt) (g.K.Sink.state l.initial.out) (g.K.Sink.state l.out) (numbered (block_at l.head l.plan bits (places_read queries reads) (length reads)) 1 (take l.query queries));
  later : (g.K.Sink.state l.initial.out).faults ≤ (g.K.Sink.state l.out).faults;
}
