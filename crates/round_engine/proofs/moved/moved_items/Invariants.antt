use Rattle.std.proofs.Common.{◌≡◌, ℕ, ◌<◌, length, slice_get, Some}
use Rattle.query_model.specs.Queries.{Aggregate}
use Rattle.round_engine.specs.Moves.{is_marked, is_moved}
use Rattle.round_engine.proofs.moved.moved_items.Given as goal

abbrev pub invariant-loop-i : goal.invariant-loop-i
invariant-loop-i l = record {
  count : length l.moved ≡ 16;
  done : (j : ℕ) (item : Aggregate) → j < l.i → slice_get l.query.items j ≡ Some item → is_marked l.moved j ≡ is_moved l.query l.column item;
}
