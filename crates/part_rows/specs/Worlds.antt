-- What the reports of parts say of a table: the worlds in which they hold.
use Rattle.std.specs.Prelude.{◌≡◌, ◌⊎◌, ◌<◌, nat_eq, ◌&&◌, List, [], ◌∷◌, IsTrue, map}
use Rattle.std.specs.List.{count_by}
use Rattle.shard_groups.specs.Keys.{allows}
use Rattle.query_kinds.specs.declared.rows.FirstRows.{FirstRows}
use Rattle.part_rows.specs.declared.row.PartRow.{PartRow}
use Rattle.part_rows.specs.declared.row.RowName.{RowName}
use Rattle.part_rows.specs.Marks.{Mark, comes_before}

-- a world: the rows of all parts that pass the condition, with their keys
abbrev pub World : Type 0
World = List Mark

abbrev pub IsIn : {X : Type 0} → X → List X → Type 0
IsIn x [] = ⊥
IsIn x (y ∷ ys) = (x ≡ y) ⊎ IsIn x ys

-- no two have one name
abbrev pub AreNamedOnce : List RowName → Type 0
AreNamedOnce [] = Unit {0}
AreNamedOnce (name ∷ names) = ¬ IsIn name names × AreNamedOnce names

abbrev pub names_of : List PartRow → List RowName
names_of rows = map (λ row. row.name) rows

abbrev pub names_in : World → List RowName
names_in world = map (λ mark. mark.name) world

-- fewer than so many rows come before it
abbrev pub IsFirst : FirstRows → World → Mark → Type 0
IsFirst asked world x = count_by (λ y. comes_before asked.down y x) world < asked.limit

-- fewer than so many rows of its part do
abbrev pub IsFirstOfPart : FirstRows → World → Mark → Type 0
IsFirstOfPart asked world x = count_by (λ y. nat_eq y.name.part x.name.part && comes_before asked.down y x) world < asked.limit

-- a row of the world with that name, which is among the first of its part
pub record HasMark (asked : FirstRows) (world : World) (name : RowName) : Type 0 where
  pub mark : Mark
  pub is : IsIn mark world
  pub named : mark.name ≡ name
  pub first : IsFirstOfPart asked world mark

-- a listed row with that name
pub record IsListed (rows : List PartRow) (name : RowName) : Type 0 where
  pub row : PartRow
  pub is : IsIn row rows
  pub named : row.name ≡ name

-- the reports hold in a world: a certain row is among the first of its part, each of these is listed, and keys are as told
pub record IsWorld (asked : FirstRows) (rows : List PartRow) (world : World) : Type 0 where
  pub named : AreNamedOnce (names_in world)
  pub certain : (row : PartRow) → IsIn row rows → IsTrue row.certain → HasMark asked world row.name
  pub listed : (mark : Mark) → IsIn mark world → IsFirstOfPart asked world mark → IsListed rows mark.name
  pub keys : (row : PartRow) (mark : Mark) → IsIn row rows → IsIn mark world → mark.name ≡ row.name →
      IsTrue (allows row.key mark.key)
