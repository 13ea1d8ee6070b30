-- Averages over shards in another order, and over one shard.
use Rattle.std.proofs.Common.{◌≡◌, ℕ, List, [], ◌∷◌, map, sym, ap, ◌∙◌, subst, inl, inr, Option}
use Rattle.query_model.specs.Bounds.{AverageBound}
use Rattle.shard_bounds.specs.Averages.{AreDivisible, combined_average}
use Rattle.shard_bounds.proofs.AverageOrders.{one_average_is_all, order_of_averages_is_free}
use Rattle.shard_bounds.proofs.Orders.{map-reordered}
use Rattle.shard_groups.specs.declared.cells.Cell.{Cell}
use Rattle.shard_groups.specs.declared.keys.Span.{Span}
use Rattle.shard_groups.specs.Groups.{average_at, average_share, average_share_by, cells_within, only}
use Rattle.shard_groups.specs.Laws.{AreAllDivisible, AreCellAverages, AveragesAreOne, IsCellAverage, IsCellOf}
use Rattle.shard_groups.proofs.AverageLines.{kept_divide, share_divides}
use Rattle.shard_groups.proofs.One.{alone, only_own}

all_divide : (item : ℕ) (line : List Span) (shards : List (List Cell)) → AreAllDivisible item shards → AreDivisible (map (average_share item line) shards)
all_divide item line [] d = tt
all_divide item line (cells ∷ shards) d = (share_divides item line (cells_within line cells) (kept_divide item line cells d.0), all_divide item line shards d.1)

average_of_cell : (item : ℕ) (cell : Cell) (cells : List Cell) → AreCellAverages item cells → IsCellOf cell cells → IsCellAverage (average_at item cell)
average_of_cell item cell [] are one = absurd one
average_of_cell item cell (other ∷ cells) are (inl e) = subst (λ (c : Cell). IsCellAverage (average_at item c)) (sym e) are.0
average_of_cell item cell (other ∷ cells) are (inr one) = average_of_cell item cell cells are.1 one

pub averages_are_one : AveragesAreOne
averages_are_one = record {
  order = λ item shards others line d r.
      order_of_averages_is_free (map (average_share item line) shards) (map (average_share item line) others) (all_divide item line shards d)
      (map-reordered (average_share item line) shards others r);
  single = λ item cells cell some apart are one.
      let found = ap (only cell.keys) (alone cell cells some apart one) ∙ only_own cell in
      let shared : average_share item cell.keys cells ≡ average_at item cell = ap (λ (o : Option Cell). average_share_by item o (cells_within cell.keys cells)) found in
      let is = average_of_cell item cell cells are one in
      ap (λ (b : AverageBound). combined_average (b ∷ [])) shared
      ∙ one_average_is_all (average_at item cell) is.divisible (λ e. (ap (λ (b : AverageBound). b.lo) (is.none e), ap (λ (b : AverageBound). b.hi) (is.none e)));
}
