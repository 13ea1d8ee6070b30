-- What is kept of a list of pairs. The bound of the list can be told from it, and it can be told of the list with one pair more.
use Rattle.std.specs.Prelude.{ℕ, ◌<◌, ◌==◌, if◌then◌else◌, ℤ, pos}
use Rattle.std.specs.Prelude.{◌≤ℤ◌, Bool, List, [], ◌∷◌, ◌++◌, length, map}
use Rattle.std.specs.declared.option.Option.{Option}
use Rattle.std.specs.declared.option.Option.TheVariants.{None}
use Rattle.interval_calc.specs.declared.Interval as code
use Rattle.query_model.specs.declared.query.ItemKind.{ItemKind}
use Rattle.query_model.specs.declared.query.ItemKind.TheVariants.{Count, Sum, Min, Max, Avg}
use Rattle.query_model.specs.Answers.{total, answer}
use Rattle.query_model.specs.Bounds.{Pair, certain_count, lows, highs, certain_lows, certain_highs, low_share, high_share}
use Rattle.query_model.specs.Laws.{SumsFit}
use Rattle.query_model.specs.Validity.{IsSumKind}
use Rattle.aggregates.specs.declared.tally.Tally.{Tally}

-- a row that counts for certain or perhaps, with the span of its value
abbrev pub pair_with : Bool → code.Interval → Pair
pair_with certain span = record { certain = certain; low = span.lo; high = span.hi }

-- no span of these pairs is empty
abbrev pub AreOrdered : List Pair → Type 0
AreOrdered [] = Unit {0}
AreOrdered (p ∷ ps) = (p.low ≤ℤ p.high) × AreOrdered ps

-- a sum is kept for sums and averages alone, since that of other items may not fit
abbrev pub if_summed : ItemKind → ℤ → ℤ
if_summed Count sum = pos 0
if_summed Sum sum = sum
if_summed Min sum = pos 0
if_summed Max sum = pos 0
if_summed Avg sum = sum

-- ends are kept for least and greatest values, and for a sum while no row counts for certain: then alone may it be the value of one row
abbrev pub if_ended : ItemKind → ℕ → Option ℤ → Option ℤ
if_ended Count certain end = None
if_ended Sum certain end = if certain == 0 then end else None
if_ended Min certain end = end
if_ended Max certain end = end
if_ended Avg certain end = if certain == 0 then end else None

-- those of certain rows for least and greatest values alone
abbrev pub if_extreme : ItemKind → Option ℤ → Option ℤ
if_extreme Count end = None
if_extreme Sum end = None
if_extreme Min end = end
if_extreme Max end = end
if_extreme Avg end = None

-- what is kept of a list of pairs
abbrev pub tally_of : ItemKind → List Pair → Tally
tally_of kind ps = record {
  certain = certain_count ps;
  all = length ps;
  least_low = if_ended kind (certain_count ps) (answer Min (lows ps));
  greatest_high = if_ended kind (certain_count ps) (answer Max (highs ps));
  least_certain_high = if_extreme kind (answer Min (certain_highs ps));
  greatest_certain_low = if_extreme kind (answer Max (certain_lows ps));
  low_sum = if_summed kind (total (map low_share ps));
  high_sum = if_summed kind (total (map high_share ps));
}

-- the list may get this pair too: it is not full, and where values are added up, the sums of all spans, each widened to hold 0, fit
pub record MayGet (kind : ItemKind) (ps : List Pair) (p : Pair) : Type 0 where
  pub few : length ps < 16777216
  pub fits : IsSumKind kind → SumsFit (ps ++ p ∷ [])
