-- Passes over the rows of an average, as one of its ends sees them.
use Rattle.std.specs.Prelude.{ℕ, ◌+◌, ◌<◌, ◌≤◌, max, ℤ, pos, ◌+ℤ◌, ◌*ℤ◌}
use Rattle.std.specs.Prelude.{◌≡◌, nat_abs, int_lt, Bool, true, false, cond, not, ◌&&◌, ◌||◌}
use Rattle.std.specs.Prelude.{List, [], ◌∷◌, length, slice_index_or, FitsSigned, IfSome, ◌^◌}
use Rattle.std.specs.declared.option.Option.{Option}
use Rattle.std.specs.declared.option.Option.TheVariants.{Some, None}
use Rattle.std.specs.Int.{int_max, int_min, w128}
use Rattle.std.specs.List.{filter, filter_map, range_with_len}
use Rattle.std.specs.Option.{option_map}
use Rattle.interval_calc.specs.Intervals.{Interval}
use Rattle.interval_calc.specs.declared.Fraction.{Fraction}
use Rattle.query_model.specs.declared.bounds.Truth.{Truth}
use Rattle.query_model.specs.declared.bounds.Truth.TheVariants.{False, Unknown, True}
use Rattle.query_model.specs.declared.query.Shape.TheVariants.{Plain}
use Rattle.query_model.specs.Queries.{Aggregate}
use Rattle.query_model.specs.Answers.{every_row, total}
use Rattle.query_model.specs.Bounds.{Pair, highs, pair_of}
use Rattle.query_model.specs.Knowledge.{IsKnowledge, ranges_of}
use Rattle.query_model.specs.Truths.{span_of}
use Rattle.query_model.specs.Validity.{FitsAverage, declared_ranges}
use Rattle.round_engine.specs.Stages.{Stage}
use Rattle.avg_exact.specs.declared.passes.End.{End}
use Rattle.avg_exact.specs.declared.passes.End.TheVariants.{Low, High}
use Rattle.avg_exact.specs.declared.passes.RowValue.{RowValue}
use Rattle.avg_exact.specs.declared.passes.Tally.{Tally}
use Rattle.avg_exact.specs.declared.search.Choice as code
use Rattle.avg_exact.specs.ExactAverages.{Choice, Cut, negated, negative}

-- ---- the rows

abbrev pub item_at : Stage → ℕ → Aggregate
item_at stage item = slice_index_or stage.query.items item every_row

-- the item is an average in a query without groups, and what is computed of it fits
pub record IsAveraged (stage : Stage) (item : ℕ) : Type 0 where
  pub plain : stage.query.shape ≡ Plain
  pub is_item : item < length stage.query.items
  pub knowledge : IsKnowledge stage.frame stage.known
  pub few : stage.frame.rows ≤ 16777216
  pub fits : FitsAverage stage.frame.rows (span_of (item_at stage item).arg (declared_ranges stage.frame))

-- no value is further from 0
abbrev pub size_at : Stage → ℕ → ℕ
size_at stage item =
    let span = span_of (item_at stage item).arg (declared_ranges stage.frame) in
    max (nat_abs span.low) (nat_abs span.high)

-- from the low end all values are negated
abbrev pub seen : End → Pair → Pair
seen High p = p
seen Low p = negated p

-- the value of a span at an end
abbrev pub end_value : End → Interval → ℤ
end_value Low span = negative span.low
end_value High span = span.high

abbrev pub seen_at : Stage → ℕ → End → ℕ → Option Pair
seen_at stage item end r = option_map (seen end) (pair_of stage.query (item_at stage item) [] (ranges_of stage.frame stage.known r))

-- so many rows from one on, and all rows
abbrev pub rows_from : Stage → ℕ → End → ℕ → ℕ → List Pair
rows_from stage item end a n = filter_map (seen_at stage item end) (range_with_len a n)

abbrev pub all_rows : Stage → ℕ → End → List Pair
all_rows stage item end = rows_from stage item end 0 stage.frame.rows

-- whether a row surely gives a value, if it may
abbrev pub certainty_of : Truth → Option Bool
certainty_of False = None
certainty_of Unknown = Some false
certainty_of True = Some true

-- what a pass needs of a row
abbrev pub value_of : Pair → RowValue
value_of p = record { certain = p.certain; value = p.high }

-- ---- tallies

-- an uncertain row above a fraction is taken; without one, none is
abbrev pub takes_value : Option Fraction → RowValue → Bool
takes_value None row = false
takes_value (Some f) row = not row.certain && int_lt f.num (row.value *ℤ pos f.den)

abbrev pub is_taken : Option Fraction → Pair → Bool
is_taken over p = takes_value over (value_of p)

abbrev pub is_counted : Option Fraction → Pair → Bool
is_counted over p = p.certain || is_taken over p

-- what is computed of a row fits
abbrev pub FitsProduct : Option Fraction → RowValue → Type 0
FitsProduct None row = Unit {0}
FitsProduct (Some f) row = FitsSigned w128 (row.value *ℤ pos f.den)

abbrev pub FitsRow : Option Fraction → Option RowValue → Tally → Type 0
FitsRow over None tally = Unit {0}
FitsRow over (Some row) tally =
    FitsProduct over row × FitsSigned w128 (tally.sum +ℤ row.value) × (tally.rows < 16777216) × (tally.taken < 16777216)

-- a tally with one more row
abbrev pub with_row : Option Fraction → Option RowValue → Tally → Tally
with_row over None tally = tally
with_row over (Some row) tally =
    let taken = takes_value over row in
    let counted = row.certain || taken in
    record { sum = tally.sum +ℤ cond counted row.value (pos 0); rows = tally.rows + cond counted 1 0; taken = tally.taken + cond taken 1 0 }

abbrev pub tally_of : Option Fraction → List Pair → Tally
tally_of over ps = record {
  sum = total (highs (filter (is_counted over) ps));
  rows = length (filter (is_counted over) ps);
  taken = length (filter (is_taken over) ps);
}

-- of two numbers that may be there, the lesser
abbrev pub least_of : Cut → Cut → Cut
least_of None b = b
least_of (Some x) None = Some x
least_of (Some x) (Some y) = Some (int_min x y)

-- the value of a row that is taken
abbrev pub taken_value : Fraction → Option RowValue → Cut
taken_value over None = None
taken_value over (Some row) = cond (takes_value (Some over) row) (Some row.value) None

-- the least high of the uncertain rows above a fraction
abbrev pub least_taken : Fraction → List Pair → Cut
least_taken over [] = None
least_taken over (p ∷ ps) = least_of (taken_value over (Some (value_of p))) (least_taken over ps)

abbrev pub greatest_of : Cut → Cut → Cut
greatest_of None b = b
greatest_of (Some x) None = Some x
greatest_of (Some x) (Some y) = Some (int_max x y)

-- whether a row may give a value and need not
abbrev pub is_uncertain : Option RowValue → Bool
is_uncertain None = false
is_uncertain (Some row) = not row.certain

abbrev pub uncertain_count : List Pair → ℕ
uncertain_count ps = length (filter (λ p. not p.certain) ps)

-- the greatest high
abbrev pub greatest_high : List Pair → Cut
greatest_high [] = None
greatest_high (p ∷ ps) = greatest_of (Some p.high) (greatest_high ps)

-- what a choice of the code stands for
abbrev pub choice_shown : code.Choice → Choice
choice_shown c = record { cut = c.cut; sum = c.sum; rows = c.rows; taken = c.taken }

-- it counts a row, and its numbers can be negated
pub record CanTurn (c : code.Choice) : Type 0 where
  pub some : 1 ≤ c.rows
  pub sum : nat_abs c.sum < 2 ^ 127
  pub cut : IfSome c.cut (λ v. nat_abs v < 2 ^ 127)
