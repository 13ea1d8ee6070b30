-- Counts of the rows that pass, and which items they tell.
use Rattle.std.specs.Prelude.{◌≡◌, ◌≢◌, ℕ, ◌<◌, Bool, true, false, not, ◌&&◌, List, length, if◌then◌else◌}
use Rattle.std.specs.List.{AllByRecursion}
use Rattle.daq_table.specs.Tables.{Frame}
use Rattle.interval_calc.specs.Intervals.{Interval}
use Rattle.known_column.specs.KnownTables.{KnownTable}
use Rattle.query_model.specs.declared.bounds.Nullity.TheVariants.{Never, Possibly}
use Rattle.query_model.specs.declared.query.ItemKind.{ItemKind}
use Rattle.query_model.specs.declared.query.ItemKind.TheVariants.{Count, Sum, Min, Max, Avg}
use Rattle.query_model.specs.Bounds.{Pair, certain_count}
use Rattle.query_model.specs.Knowledge.{ranges_of}
use Rattle.query_model.specs.Queries.{Aggregate, Term}
use Rattle.query_model.specs.Truths.{Range, may_be_null, null_of, span_of}
use Rattle.query_model.specs.Validity.{declared_ranges}
use Rattle.row_values.specs.ShortSpans.{interval_of}
use Rattle.round_engine.specs.declared.unread_values.UnreadValues.{UnreadValues}

abbrev pub is_count : ItemKind → Bool
is_count Count = true
is_count Sum = false
is_count Min = false
is_count Max = false
is_count Avg = false

-- the item counts, and its argument may not be null
abbrev pub is_counted : Frame → Aggregate → Bool
is_counted frame item = is_count item.kind && not (may_be_null (null_of item.arg (declared_ranges frame)))

-- no more is known of an expression at one row than at another
abbrev pub AreAlike : KnownTable → Term → Type 0
AreAlike columns term =
    let ranges = ranges_of columns.frame columns.known in
    (r q : ℕ) → r < columns.frame.rows → q < columns.frame.rows →
    (null_of term (ranges r) ≡ null_of term (ranges q)) × (span_of term (ranges r) ≡ span_of term (ranges q))

-- the range of each value of an item that counts of rows tell
abbrev pub range_of_unread : UnreadValues → Range
range_of_unread values = record { null = if values.nullable then Possibly else Never; numbers = interval_of values.span }

-- no more is known of any value of the item than that it is one of this range. A count does not look at the numbers
pub record IsToldByCounts (columns : KnownTable) (item : Aggregate) (range : Range) : Type 0 where
  pub null : (row : ℕ) → row < columns.frame.rows → null_of item.arg (ranges_of columns.frame columns.known row) ≡ range.null
  pub numbers : item.kind ≢ Count → (row : ℕ) → row < columns.frame.rows →
      span_of item.arg (ranges_of columns.frame columns.known row) ≡ range.numbers

-- as many values as rows may count; where values may be null none is certain, else as many as rows surely count
pub record AreValuesOf (nullable : Bool) (values rows : List Pair) : Type 0 where
  pub all : length values ≡ length rows
  pub certain : certain_count values ≡ (if nullable then 0 else certain_count rows)

-- each of these values is known to lie in this span
abbrev pub HaveSpan : Interval → List Pair → Type 0
HaveSpan span ps = AllByRecursion (λ p. (p.low ≡ span.low) × (p.high ≡ span.high)) ps
