-- The first of some rows in the order of a column, sought plane by plane.
use Rattle.std.specs.Prelude.{◌≡◌, ℕ, ◌<◌, ◌≤◌, Bool, List, length, count_by, IsTrue, ◌⊎◌}
use Rattle.known_column.specs.Columns.{KnownColumn, read_further, rows_of_column}
use Rattle.topk_bounds.specs.declared.search.Search.{Search}
use Rattle.topk_bounds.specs.Cuts.{HaveRows, IsCut, place_in}
use Rattle.topk_bounds.specs.Standings.{Kept, is_in, standings_by}

-- the masks have so many rows, and the counted ones of the level are counted
pub record IsKept (rows : ℕ) (search : Search) : Type 0 where
  pub masks : HaveRows rows search.cut
  pub there : search.share.there ≡ count_by (λ b. b) search.cut.counted

-- fewer rows are counted than are wanted: all rows are found
pub record IsWhole (counted among : List Bool) (limit : ℕ) (search : Search) : Type 0 where
  pub few : count_by (λ b. b) counted < limit
  pub told : search.share.there < search.share.wanted
  pub level : search.cut.level ≡ among

-- of the rows of `among` those are sought that fewer counted rows come before. By the planes that were followed they are parted, or found
abbrev pub IsSearch : Bool → KnownColumn → List Bool → List Bool → ℕ → Search → Type 0
IsSearch down key counted among limit search =
    IsWhole counted among limit search ⊎ IsCut counted among limit (place_in down key search.read) search.cut search.share

-- all planes that were read are followed
pub record HasSearched (down : Bool) (key : KnownColumn) (counted among : List Bool) (limit : ℕ) (search : Search) : Type 0 where
  pub read : search.read ≡ key.known.read
  pub searches : IsSearch down key counted among limit search

-- so it is for some rows
pub record HasSearchedSome (key : KnownColumn) (search : Search) : Type 0 where
  pub down : Bool
  pub counted : List Bool
  pub among : List Bool
  pub limit : ℕ
  pub rows : length among ≡ rows_of_column key
  pub searched : HasSearched down key counted among limit search

-- ---- both searches of a judgement

-- of rows that surely pass and of those that may, by the first planes of the sort key
pub record AreSearching (kept : Kept) (key : KnownColumn) : Type 0 where
  pub must : List Bool
  pub may : List Bool
  pub must_rows : length must ≡ rows_of_column key
  pub may_rows : length may ≡ rows_of_column key
  pub within : (r : ℕ) → IsTrue (is_in must r) → IsTrue (is_in may r)
  pub must_read : kept.must.read ≤ key.known.read
  pub may_read : kept.may.read ≤ key.known.read
  pub must_searches : IsSearch kept.down key must may kept.limit kept.must
  pub may_searches : IsSearch kept.down key may must kept.limit kept.may

-- the standings are those of these rows and of what is known of the key, and all its planes are followed
pub record HasJudged (kept : Kept) (must may : List Bool) (key : KnownColumn) : Type 0 where
  pub standings : kept.standings ≡ standings_by (record { limit = kept.limit; down = kept.down; must = must; may = may; key = key })
  pub must_searched : HasSearched kept.down key must may kept.limit kept.must
  pub may_searched : HasSearched kept.down key may must kept.limit kept.may

-- after one more plane of the key both searches can go on
abbrev pub SearchesGoOn : Type 0
SearchesGoOn =
    (kept : Kept) (must may : List Bool) (key : KnownColumn) (bits : List Bool) → HasJudged kept must may key →
    length must ≡ rows_of_column key → length may ≡ rows_of_column key → length bits ≡ rows_of_column key →
    ((r : ℕ) → IsTrue (is_in must r) → IsTrue (is_in may r)) →
    (going : AreSearching kept (read_further key bits)) × (going.must ≡ must) × (going.may ≡ may)
