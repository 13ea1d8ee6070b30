-- The lines of a ranking: how many rows are among the first for certain and how many perhaps, and these rows.
use Rattle.std.specs.Prelude.{◌≡◌, ℕ, ◌+◌, ◌≤◌, ◌<◌, nat_lt, Bool, true, false}
use Rattle.std.specs.Prelude.{List, [], ◌++◌, codes, count_by, decimal, if◌then◌else◌}
use Rattle.std.specs.List.{flat_map, range_with_len}
use Rattle.daq_table.specs.Tables.{rows_of}
use Rattle.daq_table.specs.declared.table_head.Head.{Head}
use Rattle.plane_schedule.specs.Plans.{few_rows}
use Rattle.plane_schedule.specs.declared.policy.Listing.{Listing}
use Rattle.plane_schedule.specs.declared.policy.Listing.TheVariants as l
use Rattle.query_model.specs.Knowledge.{ranges_of}
use Rattle.query_model.specs.Ranking.{standing_under}
use Rattle.query_model.specs.Truths.{Range}
use Rattle.query_model.specs.declared.bounds.Bound.{Bound}
use Rattle.query_model.specs.declared.bounds.Standing.{Standing}
use Rattle.query_model.specs.declared.bounds.Standing.TheVariants.{Certain, Possible, Excluded}
use Rattle.query_model.specs.declared.query.Face.TheVariants.{OfColumn}
use Rattle.round_engine.specs.Stages.{Stage}
use Rattle.topk_bounds.specs.Standings.{is_certain, is_possible}
use Rattle.daq_report.specs.Intervals.{bound_text}

-- what is known of whether a row is among the first
abbrev pub standing_at : Stage → ℕ → Standing
standing_at stage r = standing_under stage.query stage.frame stage.known r

-- how many rows are among the first for certain, and how many perhaps
abbrev pub certain_count : Stage → ℕ
certain_count stage = count_by (λ r. is_certain (standing_at stage r)) (rows_of stage.frame)

abbrev pub possible_count : Stage → ℕ
possible_count stage = count_by (λ r. is_possible (standing_at stage r)) (rows_of stage.frame)

-- how many rows are asked for, and these numbers
abbrev pub top_line : Stage → ℕ → List ℕ
top_line stage limit =
    codes "top " ++ (decimal limit
    ++ (codes " certain " ++ (decimal (certain_count stage)
    ++ (codes " possible " ++ (decimal (possible_count stage) ++ codes "\n")))))

-- how many are asked for alone
abbrev pub untold_line : ℕ → List ℕ
untold_line limit = codes "top " ++ (decimal limit ++ codes " certain 0\n")

-- where a value lies, if it is not null, as a bound
abbrev pub bound_of_range : Range → Bound
bound_of_range range = record { null = range.null; lo = range.numbers.low; hi = range.numbers.high }

-- the row, counted from 1, and its standing
abbrev pub row_start : List ℕ → ℕ → List ℕ
row_start standing r = codes "row " ++ (decimal (r + 1) ++ standing)

-- and where its sort key lies
abbrev pub row_line : Head → Stage → ℕ → List ℕ → ℕ → List ℕ
row_line head stage key standing r =
    row_start standing r
    ++ (bound_text head stage.query (OfColumn key) (bound_of_range (ranges_of stage.frame stage.known r key)) ++ codes "\n")

-- a certain row is shown, and a possible one where the list of them is asked for
abbrev pub row_text : Head → Stage → ℕ → Bool → ℕ → Standing → List ℕ
row_text head stage key list r Certain = row_line head stage key (codes " certain ") r
row_text head stage key list r Possible = if list then row_line head stage key (codes " possible ") r else []
row_text head stage key list r Excluded = []

-- so many rows from one on, in order
abbrev pub rows_text : Head → Stage → ℕ → Bool → ℕ → ℕ → List ℕ
rows_text head stage key list first count =
    flat_map (λ r. row_text head stage key list r (standing_at stage r)) (range_with_len first count)

-- the numbers of rows, and the rows
abbrev pub told_text : Head → Stage → ℕ → ℕ → Bool → List ℕ
told_text head stage key limit list = top_line stage limit ++ rows_text head stage key list 0 stage.frame.rows

-- possible rows are listed too
abbrev pub lists_possible : Listing → Bool
lists_possible l.Certain = false
lists_possible l.All = true
lists_possible l.Few = true

-- of so many rows nothing is told, where few are listed
abbrev pub is_untold : Listing → ℕ → Bool
is_untold l.Certain count = false
is_untold l.All count = false
is_untold l.Few count = nat_lt few_rows count

abbrev pub ranking_text : Head → Stage → ℕ → ℕ → Listing → List ℕ
ranking_text head stage key limit listing =
    if is_untold listing (certain_count stage + possible_count stage) then untold_line limit
    else told_text head stage key limit (lists_possible listing)

-- ---- what need not be looked at

abbrev pub is_shown : Bool → Standing → Bool
is_shown list Certain = true
is_shown list Possible = list
is_shown list Excluded = false

-- none of so many rows from one on is shown
abbrev pub AreHidden : Stage → Bool → ℕ → ℕ → Type 0
AreHidden stage list first count = (r : ℕ) → first ≤ r → r < first + count → is_shown list (standing_at stage r) ≡ false
