use Rattle.std.proofs.Common.{◌≡◌, ℕ, ◌<◌, ◌&&◌, not, length, slice_get, Some}
use Rattle.query_model.specs.Queries.{Aggregate}
use Rattle.round_engine.specs.CountedSums.{is_untold, told_at}
use Rattle.round_engine.specs.Selected.{is_by_masks}
use Rattle.round_engine.specs.Moves.{is_marked}
use Rattle.round_engine.proofs.totals.added_items.Given as goal

abbrev pub invariant-loop-i : goal.invariant-loop-i
invariant-loop-i l = record {
  count : length l.added ≡ 16;
  done : (j : ℕ) (item : Aggregate) → j < l.i → slice_get l.query.items j ≡ Some item → is_marked l.added j ≡ (is_marked l.marks j && (not (is_by_masks l.columns.frame item) && is_untold (told_at l.told j)));
}
