-- The standings of rows by masks of a condition and what is known of a sort key.
use Rattle.std.specs.Prelude.{◌≡◌, ℕ, ◌<◌, nat_lt, nat_le, nat_eq, Bool, true, false, not, ◌&&◌}
use Rattle.std.specs.Prelude.{◌||◌, List, [], ◌∷◌, length, map, IsTrue, slice_index_or, if◌then◌else◌}
use Rattle.std.specs.List.{filter, range_with_len}
use Rattle.daq_table.specs.Tables.{Frame}
use Rattle.query_model.specs.declared.bounds.Standing.{Standing}
use Rattle.query_model.specs.declared.bounds.Standing.TheVariants.{Certain, Possible, Excluded}
use Rattle.query_model.specs.Queries.{Condition}
use Rattle.query_model.specs.Knowledge.{Knowledge, ranges_of}
use Rattle.query_model.specs.Ranking.{Order, comes_before, first_end, last_end, standing_of, truth_at}
use Rattle.query_model.specs.Truths.{Range, is_false, is_true}
use Rattle.known_column.specs.Columns.{KnownColumn, range_at, rows_of_column}
use Rattle.topk_bounds.specs.declared.search.Search.{Search}
use Rattle.topk_bounds.specs.declared.rivals.Rivals.{Rivals}
use Rattle.topk_bounds.specs.declared.rivals.Rivals.TheVariants.{Must, May}

-- what is asked for, and what is known of each row: whether its condition surely holds, whether it may hold, and its sort key
pub record Judged : Type 0 where
  pub limit : ℕ
  pub down : Bool
  pub must : List Bool
  pub may : List Bool
  pub key : KnownColumn

abbrev pub is_in : List Bool → ℕ → Bool
is_in rows r = slice_index_or rows r false

-- how many rows of so many pass a test
abbrev pub count_rows : ℕ → (ℕ → Bool) → ℕ
count_rows rows test = length (filter test (range_with_len 0 rows))

-- row y comes before row x: it must where its last value comes before the first of x, and it may where its first value
-- comes before the last of x
abbrev pub comes : Rivals → Bool → Range → ℕ → Range → ℕ → Bool
comes Must down other y range x = comes_before down (last_end down other) y (first_end down range) x
comes May down other y range x = comes_before down (first_end down other) y (last_end down range) x

-- how many other rows that count come before row x
abbrev pub rivals_of : Rivals → Bool → KnownColumn → List Bool → ℕ → ℕ
rivals_of rivals down key counted x =
    count_rows (rows_of_column key) (λ y. not (nat_eq y x) && is_in counted y && comes rivals down (range_at key y) y (range_at key x) x)

-- what is known of whether row x is among the first
abbrev pub standing_by : Judged → ℕ → Standing
standing_by judged x =
    if not (is_in judged.may x) || nat_le judged.limit (rivals_of Must judged.down judged.key judged.must x)
    then Excluded
    else (if is_in judged.must x && nat_lt (rivals_of May judged.down judged.key judged.may x) judged.limit
    then Certain else Possible)

abbrev pub standings_by : Judged → List Standing
standings_by judged = map (standing_by judged) (range_with_len 0 (rows_of_column judged.key))

-- ---- what is kept

-- what is asked for, the standing of each row at the last judgement, and how far the rows that surely pass and those that may were sought
pub record Kept : Type 0 where
  pub limit : ℕ
  pub down : Bool
  pub standings : List Standing
  pub must : Search
  pub may : Search

-- among the first rows on every table that agrees
abbrev pub is_certain : Standing → Bool
is_certain Certain = true
is_certain Possible = false
is_certain Excluded = false

-- among them on some, as far as is known
abbrev pub is_possible : Standing → Bool
is_possible Certain = false
is_possible Possible = true
is_possible Excluded = false

-- the standing of a row that is marked as certain, as possible or not at all
abbrev pub standing_in : Bool → Bool → Standing
standing_in certain possible = if certain then Certain else (if possible then Possible else Excluded)

-- no row is marked twice
abbrev pub AreApart : List Bool → List Bool → Type 0
AreApart [] [] = Unit {0}
AreApart (c ∷ cs) (p ∷ ps) = IsTrue (not (c && p)) × AreApart cs ps
AreApart [] (p ∷ ps) = ⊥
AreApart (c ∷ cs) [] = ⊥

-- ---- laws

-- this is known of a table
pub record IsJudged (pred : Condition) (order : Order) (frame : Frame) (known : Knowledge) (judged : Judged) : Type 0 where
  pub limit : judged.limit ≡ order.limit
  pub down : judged.down ≡ order.down
  pub rows : rows_of_column judged.key ≡ frame.rows
  pub must : (r : ℕ) → r < frame.rows → is_in judged.must r ≡ is_true (truth_at pred frame known r)
  pub may : (r : ℕ) → r < frame.rows → is_in judged.may r ≡ not (is_false (truth_at pred frame known r))
  pub ranges : (r : ℕ) → r < frame.rows → range_at judged.key r ≡ ranges_of frame known r order.key

-- the standings are those of the definition
abbrev pub StandingsStand : Type 0
StandingsStand =
    (pred : Condition) (order : Order) (frame : Frame) (known : Knowledge) (judged : Judged) (x : ℕ) →
    IsJudged pred order frame known judged → x < frame.rows →
    standing_by judged x ≡ standing_of pred order frame known x
