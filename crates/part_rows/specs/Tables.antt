-- What the report of a part lists where the part is a table of which something is known; and the reports of several parts.
use Rattle.std.specs.Prelude.{◌≡◌, ℕ, ◌+◌, ◌-◌, ◌<◌, ℤ, pos, Bool, true, false}
use Rattle.std.specs.Prelude.{not, List, [], ◌++◌, length, map, slice_index_or, IsTrue, if◌then◌else◌}
use Rattle.std.specs.declared.option.Option.TheVariants.{Some, None}
use Rattle.std.specs.Cmp.Lexicographic.{slice_cmp}
use Rattle.std.specs.List.{filter}
use Rattle.std.specs.List.Sorted.{IsStrictlySortedBy}
use Rattle.std.specs.Option.{option_map}
use Rattle.std.specs.Ordering.{int_cmp, nat_cmp}
use Rattle.daq_table.specs.Tables.{Cells, Frame, ends_at, row_of, rows_of}
use Rattle.query_model.specs.declared.bounds.Standing.{Standing}
use Rattle.query_model.specs.declared.bounds.Standing.TheVariants.{Certain, Possible, Excluded}
use Rattle.query_model.specs.Groups.{IsKeyPart}
use Rattle.query_model.specs.Knowledge.{CanTake, IsAllRead, IsCompletion, IsKnowledge, Knowledge, ranges_of, taken}
use Rattle.query_model.specs.Meaning.{holds}
use Rattle.query_model.specs.Queries.{Condition}
use Rattle.query_model.specs.Ranking.{Order, standing_of}
use Rattle.query_model.specs.Truths.{Range, may_be_null, may_be_number}
use Rattle.shard_groups.specs.declared.keys.KeyValue.{KeyValue}
use Rattle.shard_groups.specs.declared.keys.KeyValue.TheVariants.{Number, Text}
use Rattle.shard_groups.specs.declared.keys.Span.{Span}
use Rattle.query_kinds.specs.declared.rows.FirstRows.{FirstRows}
use Rattle.part_rows.specs.declared.row.PartRow.{PartRow}
use Rattle.part_rows.specs.declared.row.RowName.{RowName}
use Rattle.part_rows.specs.Laws.{AreLater, IsExact}
use Rattle.part_rows.specs.Marks.{Mark, value_cmp}
use Rattle.part_rows.specs.Worlds.{AreNamedOnce, IsIn, IsWorld, World, names_of}

-- ---- the report of a table

-- a table that is a part: its place among the parts, what is asked of it, and the values that the numbers of its sort key stand for
pub record Part : Type 0 where
  pub place : ℕ
  pub value : ℤ → KeyValue
  pub pred : Condition
  pub order : Order
  pub frame : Frame

abbrev pub asked_of : Part → FirstRows
asked_of part = record { limit = part.order.limit; down = part.order.down }

-- rows count from 1
abbrev pub name_of : Part → ℕ → RowName
name_of part r = record { part = part.place; tag = []; number = r + 1 }

abbrev pub is_certain : Standing → Bool
is_certain Certain = true
is_certain Possible = false
is_certain Excluded = false

abbrev pub is_excluded : Standing → Bool
is_excluded Certain = false
is_excluded Possible = false
is_excluded Excluded = true

abbrev pub standing_in : Part → Knowledge → ℕ → Standing
standing_in part known r = standing_of part.pred part.order part.frame known r

-- the values of a range
abbrev pub span_of : (ℤ → KeyValue) → Range → Span
span_of value range =
    record {
      null = may_be_null range.null;
      ends = if may_be_number range.null
          then Some (record { low = value range.numbers.low; high = value range.numbers.high })
          else None;
    }

abbrev pub listed : Part → Knowledge → ℕ → PartRow
listed part known r =
    record {
      name = name_of part r;
      certain = is_certain (standing_in part known r);
      key = span_of part.value (ranges_of part.frame known r part.order.key);
    }

-- each row that is not excluded
abbrev pub report : Part → Knowledge → List PartRow
report part known = map (listed part known) (filter (λ r. not (is_excluded (standing_in part known r))) (rows_of part.frame))

abbrev pub mark_in : Part → Cells → ℕ → Mark
mark_in part cells r = record { key = option_map part.value (row_of part.frame cells r part.order.key); name = name_of part r }

-- the rows that pass
abbrev pub passing : Part → Cells → World
passing part cells = map (mark_in part cells) (filter (λ r. holds part.pred (row_of part.frame cells r)) (rows_of part.frame))

-- ---- laws

-- what is listed holds of these rows
pub record Holds (asked : FirstRows) (rows : List PartRow) (world : World) : Type 0 where
  pub named : AreNamedOnce (names_of rows)
  pub is_world : IsWorld asked rows world

-- the sort key may have the number: its column may hold it
abbrev pub IsKeyNumber : Part → ℤ → Type 0
IsKeyNumber part number = IsKeyPart (ends_at part.frame part.order.key) (Some number)

-- the sort key is a column, and its numbers are ordered as their values are
pub record IsKeyed (part : Part) : Type 0 where
  pub column : part.order.key < length part.frame.columns
  pub ordered : (a b : ℤ) → IsKeyNumber part a → IsKeyNumber part b → value_cmp (part.value a) (part.value b) ≡ int_cmp a b

-- the values of the sort key are its numbers, as those of a column of numbers or dates are
abbrev pub HasNumbers : Part → Type 0
HasNumbers part = (number : ℤ) → part.value number ≡ Number number

-- they are texts that rise, and its numbers are their places, as in a column of texts
pub record HasTexts (part : Part) (texts : List (List ℕ)) : Type 0 where
  pub rising : IsStrictlySortedBy (slice_cmp nat_cmp) texts
  pub base : (ends_at part.frame part.order.key).base ≡ pos 0
  pub top : (ends_at part.frame part.order.key).top ≡ pos (length texts - 1)
  pub value : (place : ℕ) → part.value (pos place) ≡ Text (slice_index_or texts place [])

-- so each column can be the sort key
pub record CanBeKeyed (part : Part) : Type 0 where
  pub numbers : HasNumbers part → IsKeyed part
  pub texts : (texts : List (List ℕ)) → HasTexts part texts → IsKeyed part

abbrev pub ColumnsCanBeKeyed : Type 0
ColumnsCanBeKeyed = (part : Part) → part.order.key < length part.frame.columns → CanBeKeyed part

-- the report of a table holds of each of its completions
abbrev pub ReportsHold : Type 0
ReportsHold =
    (part : Part) (known : Knowledge) (cells : Cells) → IsKeyed part → IsKnowledge part.frame known →
    IsCompletion part.frame known cells → Holds (asked_of part) (report part known) (passing part cells)

-- all are of parts of which the test holds
pub record AreOfParts (own : ℕ → Bool) (rows : List PartRow) (world : World) : Type 0 where
  pub rows_are : (row : PartRow) → IsIn row rows → IsTrue (own row.name.part)
  pub marks_are : (mark : Mark) → IsIn mark world → IsTrue (own mark.name.part)

-- the reports of some parts and of others hold together
abbrev pub ReportsJoin : Type 0
ReportsJoin =
    (asked : FirstRows) (own : ℕ → Bool) (rows others : List PartRow) (world rest : World) →
    AreOfParts own rows world → AreOfParts (λ part. not (own part)) others rest →
    Holds asked rows world → Holds asked others rest → Holds asked (rows ++ others) (world ++ rest)

-- the report with one more plane of the table is a later one, as is the same again
pub record ReportNests (part : Part) (known : Knowledge) : Type 0 where
  pub stays : AreLater part.order.down (report part known) (report part known)
  pub plane : (c : ℕ) (bits : List Bool) → CanTake part.frame known c bits →
      AreLater part.order.down (report part known) (report part (taken known c bits))

abbrev pub ReportsNest : Type 0
ReportsNest = (part : Part) (known : Knowledge) → IsKeyed part → IsKnowledge part.frame known → ReportNests part known

-- later reports of some parts and of others are later ones together
abbrev pub LaterReportsJoin : Type 0
LaterReportsJoin =
    (down : Bool) (olds rows other_olds others : List PartRow) →
    AreLater down olds rows → AreLater down other_olds others → AreLater down (olds ++ other_olds) (rows ++ others)

-- with all planes read each listed row is certain, and has one key
abbrev pub ReportsBecomeExact : Type 0
ReportsBecomeExact =
    (part : Part) (known : Knowledge) → IsKeyed part → IsKnowledge part.frame known → IsAllRead part.frame known →
    (row : PartRow) → IsIn row (report part known) → IsExact part.order.down row
