use Rattle.std.proofs.Common.{◌≡◌, length}
use Rattle.std.specs.Prelude.{IfSome}
use Rattle.product_sums.specs.KeptProducts.{IsKeptProduct}
use Rattle.round_engine.specs.CountedSums.{AreTold}
use Rattle.round_engine.specs.Engines.{stage_of}
use Rattle.round_engine.specs.Selected.{HasRows}
use Rattle.round_engine.proofs.Walks.{Walks}
use Rattle.round_engine.proofs.counted_sums.told_sums.Given as goal

abbrev pub invariant-loop-i : goal.invariant-loop-i
invariant-loop-i l = record {
  room : HasRows l.columns.frame.rows l.selection;
  count : length l.told ≡ 16;
  told : AreTold (stage_of l.query l.columns) l.told;
  kept : Walks (λ i item product. IfSome product (IsKeptProduct l.columns item.arg)) (λ i item product. IfSome product (IsKeptProduct l.columns item.arg)) l.query.items l.kept l.i;
}
