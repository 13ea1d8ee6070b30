-- Rows in the order of an end of their keys.
use Rattle.std.specs.Prelude.{ℕ, Bool, List, map}
use Rattle.std.specs.Borrow.{Bor}
use Rattle.std.specs.List.{count_by, filter}
use Rattle.std.specs.List.Sorted.{IsPermutation, IsSortedBy}
use Rattle.part_rows.specs.declared.ranked.RankedRows.{RankedRows}
use Rattle.part_rows.specs.declared.row.End.{End}
use Rattle.part_rows.specs.declared.row.End.TheVariants.{First, Last}
use Rattle.part_rows.specs.declared.row.PartRow.{PartRow}
use Rattle.part_rows.specs.Marks.{Mark, comes_before, mark_at}

abbrev pub rows_behind : List (Bor PartRow) → List PartRow
rows_behind rows = map (λ row. row.now) rows

-- how many rows come before a mark, by that end of their keys
abbrev pub rows_ahead : Bool → End → Mark → List PartRow → ℕ
rows_ahead down end mark rows = count_by (λ other. comes_before down (mark_at down end other) mark) rows

-- none comes before the one ahead of it, by that end of their keys
abbrev pub AreRankedBy : Bool → End → List (Bor PartRow) → Type 0
AreRankedBy down end rows = IsSortedBy (λ a b. comes_before down (mark_at down end a.now) (mark_at down end b.now)) rows

-- the rows by their first keys, and the certain ones by their last
pub record AreRanked (down : Bool) (ranked : RankedRows) : Type 0 where
  pub all : IsPermutation ranked.rows.now (rows_behind ranked.by_first.items)
  pub by_first : AreRankedBy down First ranked.by_first.items
  pub certain : IsPermutation (filter (λ row. row.certain) ranked.rows.now) (rows_behind ranked.certain.items)
  pub by_last : AreRankedBy down Last ranked.certain.items
