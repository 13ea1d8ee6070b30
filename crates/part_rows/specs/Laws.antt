-- What holds of the standings of listed rows, as statements. A public function has each as its contract.
use Rattle.std.specs.Prelude.{◌≡◌, ◌≢◌, Bool, List, IsTrue}
use Rattle.std.specs.declared.option.Option.{Option}
use Rattle.std.specs.List.Sorted.{IsPermutation}
use Rattle.query_model.specs.declared.bounds.Standing.TheVariants.{Certain, Possible, Excluded}
use Rattle.query_model.specs.Ranking.{StandingKept}
use Rattle.shard_groups.specs.declared.keys.KeyValue.{KeyValue}
use Rattle.shard_groups.specs.Keys.{allows}
use Rattle.part_rows.specs.declared.row.End.{End}
use Rattle.part_rows.specs.declared.row.End.TheVariants.{First, Last}
use Rattle.query_kinds.specs.declared.rows.FirstRows.{FirstRows}
use Rattle.part_rows.specs.declared.row.PartRow.{PartRow}
use Rattle.part_rows.specs.Marks.{Mark, key_at, mark_at}
use Rattle.part_rows.specs.Standings.{standing}
use Rattle.part_rows.specs.Worlds.{AreNamedOnce, IsFirst, IsIn, IsListed, IsWorld, World, names_of}

-- ---- right

-- a row of the world with that name that is among the first
pub record HasFirst (asked : FirstRows) (world : World) (row : PartRow) : Type 0 where
  pub mark : Mark
  pub is : IsIn mark world
  pub named : mark.name ≡ row.name
  pub first : IsFirst asked world mark

-- in each world in which the reports hold a certain row is among the first of all parts, and an excluded one and one that no report
-- lists are not
pub record AreRight (asked : FirstRows) (rows : List PartRow) (world : World) : Type 0 where
  pub certain : (row : PartRow) → IsIn row rows → standing asked rows row ≡ Certain → HasFirst asked world row
  pub excluded : (row : PartRow) (mark : Mark) → IsIn row rows → IsIn mark world → mark.name ≡ row.name →
      standing asked rows row ≡ Excluded → ¬ IsFirst asked world mark
  pub unlisted : (mark : Mark) → IsIn mark world → ¬ IsListed rows mark.name → ¬ IsFirst asked world mark

abbrev pub StandingsAreRight : Type 0
StandingsAreRight =
    (asked : FirstRows) (rows : List PartRow) (world : World) →
    AreNamedOnce (names_of rows) → IsWorld asked rows world → AreRight asked rows world

-- ---- nested

-- what is known later of a row: it allows both its ends, and no key that was not allowed before
pub record IsNarrower (down : Bool) (old row : PartRow) : Type 0 where
  pub named : row.name ≡ old.name
  pub ends : (end : End) → IsTrue (allows row.key (key_at down end row.key))
  pub within : (key : Option KeyValue) → IsTrue (allows row.key key) → IsTrue (allows old.key key)
  pub certain : IsTrue old.certain → IsTrue row.certain

pub record WasListed (down : Bool) (olds : List PartRow) (row : PartRow) : Type 0 where
  pub old : PartRow
  pub is : IsIn old olds
  pub narrower : IsNarrower down old row

-- later reports: what they list was listed, and less is open; certain rows are still listed
pub record AreLater (down : Bool) (olds rows : List PartRow) : Type 0 where
  pub listed : (row : PartRow) → IsIn row rows → WasListed down olds row
  pub kept : (old : PartRow) → IsIn old olds → IsTrue old.certain → IsListed rows old.name

-- the row is still listed, and certain
pub record StaysCertain (asked : FirstRows) (rows : List PartRow) (old : PartRow) : Type 0 where
  pub row : PartRow
  pub is : IsIn row rows
  pub named : row.name ≡ old.name
  pub certain : standing asked rows row ≡ Certain

-- with later reports certain rows stay certain, and what is still listed of excluded rows stays excluded
pub record AreNested (asked : FirstRows) (olds rows : List PartRow) : Type 0 where
  pub certain : (old : PartRow) → IsIn old olds → standing asked olds old ≡ Certain → StaysCertain asked rows old
  pub kept : (old row : PartRow) → IsIn old olds → IsIn row rows → row.name ≡ old.name →
      StandingKept (standing asked olds old) (standing asked rows row)

abbrev pub StandingsNest : Type 0
StandingsNest =
    (asked : FirstRows) (olds rows : List PartRow) →
    AreNamedOnce (names_of olds) → AreNamedOnce (names_of rows) → AreLater asked.down olds rows → AreNested asked olds rows

-- ---- exact

-- it is certain, and has one key
pub record IsExact (down : Bool) (row : PartRow) : Type 0 where
  pub certain : IsTrue row.certain
  pub one_key : mark_at down First row ≡ mark_at down Last row

-- a certain row with that name
pub record IsTold (asked : FirstRows) (rows : List PartRow) (mark : Mark) : Type 0 where
  pub row : PartRow
  pub is : IsIn row rows
  pub named : row.name ≡ mark.name
  pub certain : standing asked rows row ≡ Certain

-- no row is left open, and each row that is among the first of all parts is told
pub record AreExact (asked : FirstRows) (rows : List PartRow) : Type 0 where
  pub closed : (row : PartRow) → IsIn row rows → standing asked rows row ≢ Possible
  pub told : (world : World) (mark : Mark) → AreNamedOnce (names_of rows) → IsWorld asked rows world → IsIn mark world →
      IsFirst asked world mark → IsTold asked rows mark

abbrev pub StandingsBecomeExact : Type 0
StandingsBecomeExact =
    (asked : FirstRows) (rows : List PartRow) →
    ((row : PartRow) → IsIn row rows → IsExact asked.down row) → AreExact asked rows

-- ---- order

-- the order in which rows are listed makes no difference
abbrev pub OrderIsFree : Type 0
OrderIsFree =
    (asked : FirstRows) (rows others : List PartRow) (row : PartRow) →
    IsPermutation rows others → standing asked rows row ≡ standing asked others row
