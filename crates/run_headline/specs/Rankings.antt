-- The report of rows in an order: in each round a block of rows, and what it says of the first rows of each world.
use Rattle.std.specs.Prelude.{◌≡◌, ◌≢◌, ℕ, ◌+◌, ◌<◌, ◌≤◌, nat_abs, Bool, IsFalse, IsTrue, List, [], ◌++◌, codes, count_by}
use Rattle.std.specs.Prelude.{decimal, if◌then◌else◌}
use Rattle.std.specs.List.{flat_map, range_with_len}
use Rattle.daq_report.specs.Rankings.{is_untold, lists_possible, untold_line}
use Rattle.daq_table.specs.Tables.{Cells}
use Rattle.plane_schedule.specs.declared.policy.Listing.{Listing}
use Rattle.query_model.specs.Ranking.{StandingKept}
use Rattle.query_model.specs.declared.bounds.Standing.{Standing}
use Rattle.query_model.specs.declared.bounds.Standing.TheVariants.{Certain, Excluded, Possible}
use Rattle.sql_headline.specs.Intervals.{Encloses, Interval, IsAlone, LiesInside, Shows}
use Rattle.sql_meaning.specs.Orders.{Order, is_among_first}
use Rattle.sql_meaning.specs.Rows.{row_at}
use Rattle.sql_text.specs.Tree.{Name}
use Rattle.sql_text.specs.declared.tree.Num.{Num}
use Rattle.topk_bounds.specs.Standings.{is_certain, is_possible}
use Rattle.run_headline.specs.Printed.{line_of_round}
use Rattle.run_headline.specs.Readings.{IsAllRead, IsWorld, Reading, last_round}

-- what a block says of a row: whether it is among the first, and where its value in the column of ORDER BY lies
pub record Place : Type 0 where
  pub standing : Standing
  pub key : Interval

-- ---- its text

-- the row, counted from 1, whether it is among the first, and its value
abbrev pub row_line : List ℕ → ℕ → List ℕ → List ℕ
row_line standing row text = (codes "row " ++ (decimal (row + 1) ++ standing)) ++ (text ++ codes "\n")

-- a row that is certain has a line, and one that is possible has where such rows are listed
abbrev pub line_for : Bool → ℕ → List ℕ → Standing → List ℕ
line_for list row text Certain = row_line (codes " certain ") row text
line_for list row text Possible = if list then row_line (codes " possible ") row text else []
line_for list row text Excluded = []

-- how many rows, of so many, are certain, and how many possible
abbrev pub certain_count : ℕ → (ℕ → Standing) → ℕ
certain_count rows standings = count_by (λ row. is_certain (standings row)) (range_with_len 0 rows)

abbrev pub possible_count : ℕ → (ℕ → Standing) → ℕ
possible_count rows standings = count_by (λ row. is_possible (standings row)) (range_with_len 0 rows)

-- how many rows are asked for, and these counts
abbrev pub counts_line : Num → ℕ → (ℕ → Standing) → List ℕ
counts_line limit rows standings =
    codes "top " ++ (decimal (nat_abs limit.units)
    ++ (codes " certain " ++ (decimal (certain_count rows standings)
    ++ (codes " possible " ++ (decimal (possible_count rows standings) ++ codes "\n")))))

-- the counts and the lines of the rows; with `--part`, where too many would have one, the line alone that tells of none
abbrev pub rows_told : Listing → Num → ℕ → (ℕ → List ℕ) → (ℕ → Standing) → List ℕ
rows_told listing limit rows texts standings =
    if is_untold listing (certain_count rows standings + possible_count rows standings) then untold_line (nat_abs limit.units)
    else (counts_line limit rows standings
    ++ flat_map (λ row. line_for (lists_possible listing) row (texts row) (standings row)) (range_with_len 0 rows))

-- the block has the line of its round, and what is told of the rows
pub record HasRows (reading : Reading) (listing : Listing) (limit : Num) (round : ℕ) (places : ℕ → Place) (block : List ℕ) : Type 0 where
  pub texts : ℕ → List ℕ
  pub shown : (row : ℕ) → Shows (places row).key (texts row)
  pub is : block ≡ line_of_round reading round ++ rows_told listing limit reading.head.rows texts (λ row. (places row).standing)

-- ---- what it says

-- the row is among the first, as the query is written
abbrev pub is_first : Reading → Name → Bool → Num → Cells → ℕ → Bool
is_first reading key down limit world row =
    let order : Order = record { pred = reading.text.pred; key = key; down = down; limit = limit } in
    is_among_first order (row_at reading.head world) reading.head.rows row

-- what each round says of the rows is so
pub record HoldsRows (reading : Reading) (key : Name) (down : Bool) (limit : Num) (places : ℕ → ℕ → Place) : Type 0 where
  -- a row that is certain is among the first in each world, and one that is excluded in none
  pub certain : (round row : ℕ) → row < reading.head.rows → (places round row).standing ≡ Certain →
      (world : Cells) → IsWorld reading round world → IsTrue (is_first reading key down limit world row)
  pub excluded : (round row : ℕ) → row < reading.head.rows → (places round row).standing ≡ Excluded →
      (world : Cells) → IsWorld reading round world → IsFalse (is_first reading key down limit world row)
  -- it stays so
  pub stays : (round row : ℕ) → round < last_round reading → row < reading.head.rows →
      StandingKept (places round row).standing (places (round + 1) row).standing
  -- its value lies where it is shown, in each world
  pub lies : (round row : ℕ) → row < reading.head.rows → (world : Cells) → IsWorld reading round world →
      Encloses (places round row).key (row_at reading.head world row key.name)
  -- and inside where it lay before
  pub narrows : (round row : ℕ) → round < last_round reading → row < reading.head.rows →
      LiesInside (places round row).key (places (round + 1) row).key
  -- with all planes read it is that value alone, and no row is possible and no more
  pub alone : (round row : ℕ) → row < reading.head.rows → IsAllRead reading round → (world : Cells) →
      IsWorld reading round world → IsAlone (places round row).key (row_at reading.head world row key.name)
  pub exact : (round row : ℕ) → round ≤ last_round reading → row < reading.head.rows → IsAllRead reading round →
      (places round row).standing ≢ Possible

-- these are the blocks of a query with ORDER BY: their lines hold the first rows
pub record HoldsRanking (reading : Reading) (listing : Listing) (key : Name) (down : Bool) (limit : Num) (block : ℕ → List ℕ) : Type 0 where
  pub places : ℕ → ℕ → Place
  pub shown : (round : ℕ) → HasRows reading listing limit round (places round) (block round)
  pub holds : HoldsRows reading key down limit places
