use Rattle.std.proofs.Common.{◌≡◌, map, take}
use Rattle.std.specs.List.{sum}
use Rattle.daq_table.specs.Tables.{ends_at, planes}
use Rattle.query_model.specs.Answers.{groups_of}
use Rattle.round_engine.proofs.cell_room.most_cells.Given as goal

abbrev pub invariant-loop-column : goal.invariant-loop-column
invariant-loop-column l = l.digits ≡ sum (map (λ c. planes (ends_at l.columns.frame c)) (take l.column-index (groups_of l.query.shape)))
