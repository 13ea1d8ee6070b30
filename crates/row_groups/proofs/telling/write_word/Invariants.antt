use Rattle.std.proofs.Common.{◌≡◌, ◌/◌, ◌^◌, ◌≤◌, length}
use Rattle.row_groups.proofs.Told.{IsWrittenBelow}
use Rattle.row_groups.proofs.telling.write_word.Given as goal

abbrev pub invariant-loop-rest : goal.invariant-loop-rest
invariant-loop-rest l = record {
  within : l.at ≤ length l.fn.cells;
  rest : l.rest ≡ l.word / 2 ^ l.at;
  below : IsWrittenBelow l.fn.cells l.cells l.word l.number l.at;
}

abbrev pub decreases-loop-rest : goal.decreases-loop-rest
decreases-loop-rest l = l.rest
