-- What is judged of several parts as the report of one part of a larger table.
use Rattle.std.specs.Prelude.{◌≡◌, ℕ, not, List, ◌++◌, map}
use Rattle.std.specs.List.{filter}
use Rattle.query_kinds.specs.declared.rows.FirstRows.{FirstRows}
use Rattle.part_rows.specs.declared.row.PartRow.{PartRow}
use Rattle.part_rows.specs.declared.row.RowName.{RowName}
use Rattle.part_rows.specs.Laws.{AreLater}
use Rattle.part_rows.specs.Marks.{name_cmp}
use Rattle.part_rows.specs.Standings.{standing}
use Rattle.part_rows.specs.Tables.{Holds, is_certain, is_excluded}
use Rattle.part_rows.specs.Worlds.{AreNamedOnce, IsIn, World, names_in, names_of}

-- other names for these, all of one part, in the same order
pub record AreOfOnePart (rename : RowName → RowName) (part : ℕ) (names : List RowName) : Type 0 where
  pub part_is : (name : RowName) → (rename name).part ≡ part
  pub ordered : (a b : RowName) → IsIn a names → IsIn b names → name_cmp (rename a) (rename b) ≡ name_cmp a b

-- what is told of a row
abbrev pub told_row : (RowName → RowName) → FirstRows → List PartRow → PartRow → PartRow
told_row rename asked rows row = record { name = rename row.name; certain = is_certain (standing asked rows row); key = row.key }

-- each row that is not excluded
abbrev pub told_rows : (RowName → RowName) → FirstRows → List PartRow → List PartRow
told_rows rename asked rows = map (told_row rename asked rows) (filter (λ row. not (is_excluded (standing asked rows row))) rows)

abbrev pub renamed : (RowName → RowName) → World → World
renamed rename world = map (λ mark. record { key = mark.key; name = rename mark.name }) world

-- the report of several parts holds, as that of one part, where their reports hold
abbrev pub ToldRowsHold : Type 0
ToldRowsHold =
    (rename : RowName → RowName) (part : ℕ) (asked : FirstRows) (rows : List PartRow) (world : World) →
    AreOfOnePart rename part (names_of rows ++ names_in world) → Holds asked rows world →
    Holds asked (told_rows rename asked rows) (renamed rename world)

-- with later reports of the parts what is told of them is a later report
abbrev pub ToldRowsNest : Type 0
ToldRowsNest =
    (rename : RowName → RowName) (asked : FirstRows) (olds rows : List PartRow) →
    AreNamedOnce (names_of olds) → AreNamedOnce (names_of rows) → AreLater asked.down olds rows →
    AreLater asked.down (told_rows rename asked olds) (told_rows rename asked rows)
