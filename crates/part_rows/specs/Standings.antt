-- What is known of whether a listed row is among the first of all parts.
use Rattle.std.specs.Prelude.{ℕ, ◌-◌, nat_lt, nat_le, Bool, ◌&&◌, List, map, if◌then◌else◌}
use Rattle.std.specs.List.{count_by}
use Rattle.query_model.specs.declared.bounds.Standing.{Standing}
use Rattle.query_model.specs.declared.bounds.Standing.TheVariants.{Certain, Possible, Excluded}
use Rattle.part_rows.specs.declared.row.End.TheVariants.{First, Last}
use Rattle.query_kinds.specs.declared.rows.FirstRows.{FirstRows}
use Rattle.part_rows.specs.declared.row.PartRow.{PartRow}
use Rattle.part_rows.specs.Marks.{comes_before, mark_at}

-- a row may come before another where its first key comes before the last of that one
abbrev pub may_precede : Bool → PartRow → PartRow → Bool
may_precede down other row = comes_before down (mark_at down First other) (mark_at down Last row)

-- it must where it is certain, and its last key comes before the first of that one
abbrev pub must_precede : Bool → PartRow → PartRow → Bool
must_precede down other row = other.certain && comes_before down (mark_at down Last other) (mark_at down First row)

-- how many rows must come before a row
abbrev pub leaders : Bool → List PartRow → PartRow → ℕ
leaders down rows row = count_by (λ other. must_precede down other row) rows

-- how many other rows may: a row with more than one key counts before itself, and is taken out
abbrev pub rivals : Bool → List PartRow → PartRow → ℕ
rivals down rows row = count_by (λ other. may_precede down other row) rows - (if may_precede down row row then 1 else 0)

abbrev pub standing : FirstRows → List PartRow → PartRow → Standing
standing asked rows row =
    if nat_le asked.limit (leaders asked.down rows row) then Excluded
    else (if row.certain && nat_lt (rivals asked.down rows row) asked.limit then Certain else Possible)

abbrev pub standings : FirstRows → List PartRow → List Standing
standings asked rows = map (standing asked rows) rows
