-- The least and the greatest sum, as ends of one sum, and what rows add to each.
use Rattle.std.specs.Prelude.{ℤ, Bool, List, Option}
use Rattle.aggregates.specs.declared.ends.End.{End}
use Rattle.aggregates.specs.declared.ends.End.TheVariants.{Low, High}
use Rattle.aggregates.specs.Widening as widening
use Rattle.known_column.specs.Columns.{KnownColumn}
use Rattle.query_model.specs.Answers.{answer}
use Rattle.query_model.specs.declared.query.ItemKind.TheVariants.{Max, Min}
use Rattle.query_model.specs.Bounds.{Pair, greatest_sum, high_of_least, high_share, highs, least_sum, low_of_greatest, low_share, lows}
use Rattle.round_engine.specs.declared.selection.Selection.{Selection}

-- what a row adds to this end of the sum
abbrev pub share_at : End → Pair → ℤ
share_at Low p = low_share p
share_at High p = high_share p

-- this end of the sum
abbrev pub sum_at : End → List Pair → ℤ
sum_at Low ps = least_sum ps
sum_at High ps = greatest_sum ps

-- the numbers of the pairs at this end
abbrev pub ends_of : End → List Pair → List ℤ
ends_of Low ps = lows ps
ends_of High ps = highs ps

-- that of the numbers which lies furthest out
abbrev pub outermost : End → List ℤ → Option ℤ
outermost Low ns = answer Min ns
outermost High ns = answer Max ns

-- and furthest in
abbrev pub innermost : End → List ℤ → Option ℤ
innermost Low ns = answer Max ns
innermost High ns = answer Min ns

-- the end of an extreme that lies inward: the low end of the greatest value, the high end of the least
abbrev pub inner_end : End → List Pair → ℤ
inner_end Low ps = low_of_greatest ps
inner_end High ps = high_of_least ps

-- the rows that need not count and widen the sum at this end
abbrev pub widening_rows : End → KnownColumn → Selection → List Bool
widening_rows end column selection = widening.widening_rows end column selection.may selection.must
