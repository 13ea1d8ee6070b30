-- The laws of combined reports by groups, as statements. A public function with an empty body has each as its contract.
use Rattle.std.specs.Prelude.{◌≡◌, ◌≢◌, ◌⊎◌, ℕ, ◌+◌, ◌<◌, ℤ, pos, ◌≤ℤ◌}
use Rattle.std.specs.Prelude.{Bool, false, not, ◌&&◌, List, [], ◌∷◌, if◌then◌else◌, IsTrue, IsFalse}
use Rattle.std.specs.declared.option.Option.{Option}
use Rattle.std.specs.declared.option.Option.TheVariants.{Some, None}
use Rattle.std.specs.List.{list_all, list_any}
use Rattle.std.specs.Option.{is_some}
use Rattle.query_model.specs.declared.bounds.Bound.{Bound}
use Rattle.query_model.specs.declared.bounds.Nullity.TheVariants.{Never, Always}
use Rattle.query_model.specs.declared.query.ItemKind.{ItemKind}
use Rattle.query_model.specs.declared.query.ItemKind.TheVariants.{Count, Sum, Min, Max, Avg}
use Rattle.query_model.specs.Answers.{answer, average}
use Rattle.query_model.specs.Bounds.{Admits, IsNested, AverageBound, IsNestedAverage}
use Rattle.shard_bounds.specs.Combined as answers
use Rattle.shard_bounds.specs.Combined.{answer_over, IsBoundOf, Reordered}
use Rattle.shard_bounds.specs.Laws.{IsNestedReport, Tells}
use Rattle.shard_bounds.specs.Averages.{IsDivisible, ReportsAverage, TellsAverage, no_average}
use Rattle.shard_groups.specs.declared.cells.Cell.{Cell}
use Rattle.shard_groups.specs.declared.keys.Ends.{Ends}
use Rattle.shard_groups.specs.declared.keys.Span.{Span}
use Rattle.shard_groups.specs.Groups.{all_keys, bound_at, bound_over, is_present, keys_in, average_at, average_over}
use Rattle.shard_groups.specs.Keys.{Key, at_most, holds, is_within, meets}
use Rattle.shard_groups.specs.Lines.{AreApart, AreLines, AreCovered}

abbrev pub IsOneOf : List Span → List (List Span) → Type 0
IsOneOf line [] = ⊥
IsOneOf line (other ∷ others) = (line ≡ other) ⊎ IsOneOf line others

-- ---- contains

-- each cell that has the key admits the answer over these values
abbrev pub AreAdmittedAt : ItemKind → ℕ → Key → List Cell → List ℤ → Type 0
AreAdmittedAt kind item key [] values = Unit {0}
AreAdmittedAt kind item key (cell ∷ cells) values =
    (IsTrue (holds cell.keys key) → Admits (bound_at item cell) (answer kind values)) × AreAdmittedAt kind item key cells values

abbrev pub has_cell : Key → List Cell → Bool
has_cell key cells = list_any (λ cell. holds cell.keys key) cells

-- the report of a shard is certain of the key, to which the shard's rows give these values: a key without a cell has none
pub record IsCertainAt (kind : ItemKind) (item : ℕ) (key : Key) (cells : List Cell) (values : List ℤ) : Type 0 where
  pub admits : AreAdmittedAt kind item key cells values
  pub missing : IsFalse (has_cell key cells) → values ≡ []

abbrev pub AreCertainAt : ItemKind → ℕ → Key → List (List Cell) → List (List ℤ) → Type 0
AreCertainAt kind item key [] [] = Unit {0}
AreCertainAt kind item key [] (values ∷ tables) = ⊥
AreCertainAt kind item key (cells ∷ shards) [] = ⊥
AreCertainAt kind item key (cells ∷ shards) (values ∷ tables) =
    IsCertainAt kind item key cells values × AreCertainAt kind item key shards tables

-- a line that has the key contains its answer over the rows of all shards
abbrev pub LinesContain : Type 0
LinesContain =
    (kind : ItemKind) (item : ℕ) (key : Key) (shards : List (List Cell)) (tables : List (List ℤ))
    (lines : List (List Span)) (line : List Span) →
    kind ≢ Avg → AreLines (all_keys shards) lines → IsOneOf line lines → IsTrue (holds line key) →
    AreCertainAt kind item key shards tables → Admits (bound_over kind item line shards) (answer_over kind tables)

-- ---- which keys are in the result

-- so many rows of a shard count for a key: some for each cell that has it and is present
abbrev pub ArePresentAt : Key → List Cell → ℕ → Type 0
ArePresentAt key [] rows = Unit {0}
ArePresentAt key (cell ∷ cells) rows = (IsTrue cell.present → IsTrue (holds cell.keys key) → 0 < rows) × ArePresentAt key cells rows

-- the report of a shard is right about that: a key without a cell has no row
pub record IsCounted (key : Key) (cells : List Cell) (rows : ℕ) : Type 0 where
  pub present : ArePresentAt key cells rows
  pub missing : IsFalse (has_cell key cells) → rows ≡ 0

abbrev pub AreCounted : Key → List (List Cell) → List ℕ → Type 0
AreCounted key [] [] = Unit {0}
AreCounted key [] (rows ∷ counts) = ⊥
AreCounted key (cells ∷ shards) [] = ⊥
AreCounted key (cells ∷ shards) (rows ∷ counts) = IsCounted key cells rows × AreCounted key shards counts

abbrev pub all_rows : List ℕ → ℕ
all_rows [] = 0
all_rows (rows ∷ counts) = rows + all_rows counts

-- some line has the key
abbrev pub IsInLine : Key → List (List Span) → Type 0
IsInLine key lines = (line : List Span) × IsOneOf line lines × IsTrue (holds line key)

-- a key of the whole result is in a line, none is in two lines, and each key of a present line is in the result
pub record AreKeysTold (key : Key) (shards : List (List Cell)) (counts : List ℕ) (lines : List (List Span)) : Type 0 where
  pub found : 0 < all_rows counts → IsInLine key lines
  pub alone : (line other : List Span) → IsOneOf line lines → IsOneOf other lines →
      IsTrue (holds line key) → IsTrue (holds other key) → line ≡ other
  pub present : (line : List Span) → IsOneOf line lines → IsTrue (holds line key) → IsTrue (is_present line shards) → 0 < all_rows counts

abbrev pub LinesTellKeys : Type 0
LinesTellKeys =
    (key : Key) (shards : List (List Cell)) (counts : List ℕ) (lines : List (List Span)) →
    AreLines (all_keys shards) lines → AreCounted key shards counts → AreKeysTold key shards counts lines

-- ---- exact

-- null and no value, or one value and no null
abbrev pub is_one_value : Option Ends → Bool
is_one_value None = false
is_one_value (Some ends) = at_most ends.low ends.high && at_most ends.high ends.low

abbrev pub is_one_part : Span → Bool
is_one_part span = if span.null then not (is_some span.ends) else is_one_value span.ends

-- these are one key
abbrev pub is_one_key : List Span → Bool
is_one_key spans = list_all is_one_part spans

abbrev pub AreOneKeys : List (List Span) → Type 0
AreOneKeys [] = Unit {0}
AreOneKeys (cell ∷ cells) = IsTrue (is_one_key cell) × AreOneKeys cells

-- each cell that has the key says the answer over these values
abbrev pub AreToldAt : ItemKind → ℕ → Key → List Cell → List ℤ → Type 0
AreToldAt kind item key [] values = Unit {0}
AreToldAt kind item key (cell ∷ cells) values =
    (IsTrue (holds cell.keys key) → Tells (bound_at item cell) (answer kind values)) × AreToldAt kind item key cells values

-- the report of a shard is exact at the key: each cell has one key, no two the same, and that of the key says the answer
pub record IsToldAt (kind : ItemKind) (item : ℕ) (key : Key) (cells : List Cell) (values : List ℤ) : Type 0 where
  pub one_keys : AreOneKeys (keys_in cells)
  pub apart : AreApart (keys_in cells)
  pub told : AreToldAt kind item key cells values
  pub missing : IsFalse (has_cell key cells) → values ≡ []

abbrev pub AreAllToldAt : ItemKind → ℕ → Key → List (List Cell) → List (List ℤ) → Type 0
AreAllToldAt kind item key [] [] = Unit {0}
AreAllToldAt kind item key [] (values ∷ tables) = ⊥
AreAllToldAt kind item key (cells ∷ shards) [] = ⊥
AreAllToldAt kind item key (cells ∷ shards) (values ∷ tables) =
    IsToldAt kind item key cells values × AreAllToldAt kind item key shards tables

-- where each shard's report is exact, a line that has the key says its answer over the rows of all shards
abbrev pub LinesTell : Type 0
LinesTell =
    (kind : ItemKind) (item : ℕ) (key : Key) (shards : List (List Cell)) (tables : List (List ℤ))
    (lines : List (List Span)) (line : List Span) →
    kind ≢ Avg → AreLines (all_keys shards) lines → IsOneOf line lines → IsTrue (holds line key) →
    AreAllToldAt kind item key shards tables → Tells (bound_over kind item line shards) (answer_over kind tables)

-- ---- nested

-- a bound as a report gives it of an item; a number of rows is not below 0
pub record IsCellBound (kind : ItemKind) (bound : Bound) : Type 0 where
  pub is_bound : IsBoundOf kind bound
  pub counts : kind ≡ Count → pos 0 ≤ℤ bound.lo

-- each has a key: it meets itself
abbrev pub AreSome : List Cell → Type 0
AreSome [] = Unit {0}
AreSome (cell ∷ cells) = IsTrue (meets cell.keys cell.keys) × AreSome cells

abbrev pub AreCellBounds : ItemKind → ℕ → List Cell → Type 0
AreCellBounds kind item [] = Unit {0}
AreCellBounds kind item (cell ∷ cells) = IsCellBound kind (bound_at item cell) × AreCellBounds kind item cells

-- each cell has a key, no two have one in common, and each has a bound
pub record AreCells (kind : ItemKind) (item : ℕ) (cells : List Cell) : Type 0 where
  pub some : AreSome cells
  pub apart : AreApart (keys_in cells)
  pub bounds : AreCellBounds kind item cells

-- the bound does not say for certain that there is an answer, or a row
abbrev pub IsUncertain : ItemKind → Bound → Type 0
IsUncertain Count bound = bound.lo ≡ pos 0
IsUncertain Sum bound = bound.null ≢ Never
IsUncertain Min bound = bound.null ≢ Never
IsUncertain Max bound = bound.null ≢ Never
IsUncertain Avg bound = bound.null ≢ Never

-- the cell lies within one of these, and so does its bound
abbrev pub IsFrom : ℕ → Cell → List Cell → Type 0
IsFrom item cell [] = ⊥
IsFrom item cell (old ∷ olds) =
    (IsTrue (is_within cell.keys old.keys) × IsNested (bound_at item old) (bound_at item cell)) ⊎ IsFrom item cell olds

abbrev pub AreFrom : ℕ → List Cell → List Cell → Type 0
AreFrom item olds [] = Unit {0}
AreFrom item olds (cell ∷ cells) = IsFrom item cell olds × AreFrom item olds cells

-- one of these has all keys of the cell, and a bound within the cell's
abbrev pub HasAgain : ℕ → Cell → List Cell → Type 0
HasAgain item old [] = ⊥
HasAgain item old (cell ∷ cells) =
    (IsTrue (is_within old.keys cell.keys) × IsNested (bound_at item old) (bound_at item cell)) ⊎ HasAgain item old cells

abbrev pub AreKept : ItemKind → ℕ → List Cell → List Cell → Type 0
AreKept kind item [] cells = Unit {0}
AreKept kind item (old ∷ olds) cells = (IsUncertain kind (bound_at item old) ⊎ HasAgain item old cells) × AreKept kind item olds cells

-- a later report of a shard: its cells and bounds lie within those before, and a cell that was certain of an answer is there again.
-- So it is with the cells of a table: only one of one key is certain, and no plane parts it
pub record IsLater (kind : ItemKind) (item : ℕ) (olds cells : List Cell) : Type 0 where
  pub before : AreCells kind item olds
  pub now : AreCells kind item cells
  pub from : AreFrom item olds cells
  pub kept : AreKept kind item olds cells

abbrev pub AreLater : ItemKind → ℕ → List (List Cell) → List (List Cell) → Type 0
AreLater kind item [] [] = Unit {0}
AreLater kind item [] (cells ∷ shards) = ⊥
AreLater kind item (olds ∷ before) [] = ⊥
AreLater kind item (olds ∷ before) (cells ∷ shards) = IsLater kind item olds cells × AreLater kind item before shards

-- with later reports of the shards, the line of a key and its bound lie within those before
pub record IsNestedLine (kind : ItemKind) (item : ℕ) (before shards : List (List Cell)) (old line : List Span) : Type 0 where
  pub keys : IsTrue (is_within line old)
  pub bound : IsNested (bound_over kind item old before) (bound_over kind item line shards)

abbrev pub LinesNest : Type 0
LinesNest =
    (kind : ItemKind) (item : ℕ) (key : Key) (before shards : List (List Cell))
    (olds lines : List (List Span)) (old line : List Span) →
    kind ≢ Avg → AreLines (all_keys before) olds → AreLines (all_keys shards) lines → AreLater kind item before shards →
    IsOneOf old olds → IsOneOf line lines → IsTrue (holds old key) → IsTrue (holds line key) →
    IsNestedLine kind item before shards old line

-- ---- any order, and one shard

-- whatever the order of the shards, they have the same lines, and each says the same
pub record AreSameLines (kind : ItemKind) (item : ℕ) (shards others : List (List Cell)) (lines : List (List Span)) : Type 0 where
  pub same : AreLines (all_keys shards) lines → AreLines (all_keys others) lines
  pub bound : (line : List Span) → bound_over kind item line shards ≡ bound_over kind item line others
  pub present : (line : List Span) → is_present line shards ≡ is_present line others

abbrev pub OrderIsFree : Type 0
OrderIsFree =
    (kind : ItemKind) (item : ℕ) (shards others : List (List Cell)) (lines : List (List Span)) →
    Reordered shards others → AreSameLines kind item shards others lines

-- and some cells have no other lines: each of these lies within one of those
abbrev pub LinesAreOne : Type 0
LinesAreOne = (cells lines others : List (List Span)) → AreLines cells lines → AreLines cells others → AreCovered lines others

abbrev pub IsCellOf : Cell → List Cell → Type 0
IsCellOf cell [] = ⊥
IsCellOf cell (other ∷ others) = (cell ≡ other) ⊎ IsCellOf cell others

-- the lines of one shard are its cells, and each says what its cell says
pub record IsOwnLine (kind : ItemKind) (item : ℕ) (cells : List Cell) (cell : Cell) : Type 0 where
  pub bound : bound_over kind item cell.keys (cells ∷ []) ≡ bound_at item cell
  pub present : is_present cell.keys (cells ∷ []) ≡ cell.present

pub record AreOwnLines (kind : ItemKind) (item : ℕ) (cells : List Cell) : Type 0 where
  pub lines : AreLines (all_keys (cells ∷ [])) (keys_in cells)
  pub each : (cell : Cell) → IsCellOf cell cells → IsOwnLine kind item cells cell

abbrev pub OneShardIsAll : Type 0
OneShardIsAll = (kind : ItemKind) (item : ℕ) (cells : List Cell) → kind ≢ Avg → AreCells kind item cells → AreOwnLines kind item cells

-- ---- averages

-- each cell that has the key reports the average over these values
abbrev pub AreReportedAt : ℕ → Key → List Cell → List ℤ → Type 0
AreReportedAt item key [] values = Unit {0}
AreReportedAt item key (cell ∷ cells) values =
    (IsTrue (holds cell.keys key) → ReportsAverage (average_at item cell) (average values)) × AreReportedAt item key cells values

abbrev pub AreCellsDivisible : ℕ → List Cell → Type 0
AreCellsDivisible item [] = Unit {0}
AreCellsDivisible item (cell ∷ cells) = IsDivisible (average_at item cell) × AreCellsDivisible item cells

-- the report of a shard is certain of the average at the key: one fraction alone is the sum of the values over their number
pub record IsAverageCertainAt (item : ℕ) (key : Key) (cells : List Cell) (values : List ℤ) : Type 0 where
  pub divisible : AreCellsDivisible item cells
  pub reports : AreReportedAt item key cells values
  pub missing : IsFalse (has_cell key cells) → values ≡ []

abbrev pub AreAveragesCertainAt : ℕ → Key → List (List Cell) → List (List ℤ) → Type 0
AreAveragesCertainAt item key [] [] = Unit {0}
AreAveragesCertainAt item key [] (values ∷ tables) = ⊥
AreAveragesCertainAt item key (cells ∷ shards) [] = ⊥
AreAveragesCertainAt item key (cells ∷ shards) (values ∷ tables) =
    IsAverageCertainAt item key cells values × AreAveragesCertainAt item key shards tables

-- a line that has the key is again such a report of its average over the rows of all shards
abbrev pub LinesReportAverages : Type 0
LinesReportAverages =
    (item : ℕ) (key : Key) (shards : List (List Cell)) (tables : List (List ℤ))
    (lines : List (List Span)) (line : List Span) →
    AreLines (all_keys shards) lines → IsOneOf line lines → IsTrue (holds line key) →
    AreAveragesCertainAt item key shards tables → ReportsAverage (average_over item line shards) (answers.average_over tables)

-- each cell that has the key says the sum and the number of these values
abbrev pub AreAveragesToldAt : ℕ → Key → List Cell → List ℤ → Type 0
AreAveragesToldAt item key [] values = Unit {0}
AreAveragesToldAt item key (cell ∷ cells) values =
    (IsTrue (holds cell.keys key) → TellsAverage (average_at item cell) (average values)) × AreAveragesToldAt item key cells values

pub record IsAverageToldAt (item : ℕ) (key : Key) (cells : List Cell) (values : List ℤ) : Type 0 where
  pub one_keys : AreOneKeys (keys_in cells)
  pub apart : AreApart (keys_in cells)
  pub told : AreAveragesToldAt item key cells values
  pub missing : IsFalse (has_cell key cells) → values ≡ []

abbrev pub AreAllAveragesToldAt : ℕ → Key → List (List Cell) → List (List ℤ) → Type 0
AreAllAveragesToldAt item key [] [] = Unit {0}
AreAllAveragesToldAt item key [] (values ∷ tables) = ⊥
AreAllAveragesToldAt item key (cells ∷ shards) [] = ⊥
AreAllAveragesToldAt item key (cells ∷ shards) (values ∷ tables) =
    IsAverageToldAt item key cells values × AreAllAveragesToldAt item key shards tables

-- where each shard's report is exact, the line of the key says the sum and the number of its values in all shards
abbrev pub LinesTellAverages : Type 0
LinesTellAverages =
    (item : ℕ) (key : Key) (shards : List (List Cell)) (tables : List (List ℤ))
    (lines : List (List Span)) (line : List Span) →
    AreLines (all_keys shards) lines → IsOneOf line lines → IsTrue (holds line key) →
    AreAllAveragesToldAt item key shards tables → TellsAverage (average_over item line shards) (answers.average_over tables)

-- no denominator is 0, and where there is no average both ends are 0
pub record IsCellAverage (bound : AverageBound) : Type 0 where
  pub divisible : IsDivisible bound
  pub none : bound.null ≡ Always → bound ≡ no_average

abbrev pub AreCellAverages : ℕ → List Cell → Type 0
AreCellAverages item [] = Unit {0}
AreCellAverages item (cell ∷ cells) = IsCellAverage (average_at item cell) × AreCellAverages item cells

-- the cell lies within one of these, and so does its average
abbrev pub IsAverageFrom : ℕ → Cell → List Cell → Type 0
IsAverageFrom item cell [] = ⊥
IsAverageFrom item cell (old ∷ olds) =
    (IsTrue (is_within cell.keys old.keys) × IsNestedAverage (average_at item old) (average_at item cell)) ⊎ IsAverageFrom item cell olds

abbrev pub AreAveragesFrom : ℕ → List Cell → List Cell → Type 0
AreAveragesFrom item olds [] = Unit {0}
AreAveragesFrom item olds (cell ∷ cells) = IsAverageFrom item cell olds × AreAveragesFrom item olds cells

-- one of these has all keys of the cell, and a report of its average within the cell's
abbrev pub HasAverageAgain : ℕ → Cell → List Cell → Type 0
HasAverageAgain item old [] = ⊥
HasAverageAgain item old (cell ∷ cells) =
    (IsTrue (is_within old.keys cell.keys) × IsNestedReport (average_at item old) (average_at item cell)) ⊎ HasAverageAgain item old cells

abbrev pub AreAveragesKept : ℕ → List Cell → List Cell → Type 0
AreAveragesKept item [] cells = Unit {0}
AreAveragesKept item (old ∷ olds) cells =
    ((average_at item old).null ≢ Never ⊎ HasAverageAgain item old cells) × AreAveragesKept item olds cells

-- a later report of a shard: its cells and averages lie within those before, and a cell that was certain of an average is there again
pub record IsLaterAverage (item : ℕ) (olds cells : List Cell) : Type 0 where
  pub before : AreCellAverages item olds
  pub now : AreCellAverages item cells
  pub some : AreSome cells
  pub apart : AreApart (keys_in cells)
  pub from : AreAveragesFrom item olds cells
  pub kept : AreAveragesKept item olds cells

abbrev pub AreLaterAverages : ℕ → List (List Cell) → List (List Cell) → Type 0
AreLaterAverages item [] [] = Unit {0}
AreLaterAverages item [] (cells ∷ shards) = ⊥
AreLaterAverages item (olds ∷ before) [] = ⊥
AreLaterAverages item (olds ∷ before) (cells ∷ shards) = IsLaterAverage item olds cells × AreLaterAverages item before shards

pub record IsNestedAverageLine (item : ℕ) (before shards : List (List Cell)) (old line : List Span) : Type 0 where
  pub keys : IsTrue (is_within line old)
  pub average : IsNestedAverage (average_over item old before) (average_over item line shards)

-- with later reports of the shards, the line of a key and its average lie within those before
abbrev pub LinesNestAverages : Type 0
LinesNestAverages =
    (item : ℕ) (key : Key) (before shards : List (List Cell))
    (olds lines : List (List Span)) (old line : List Span) →
    AreLines (all_keys before) olds → AreLines (all_keys shards) lines → AreLaterAverages item before shards →
    IsOneOf old olds → IsOneOf line lines → IsTrue (holds old key) → IsTrue (holds line key) →
    IsNestedAverageLine item before shards old line

abbrev pub AreAllDivisible : ℕ → List (List Cell) → Type 0
AreAllDivisible item [] = Unit {0}
AreAllDivisible item (cells ∷ shards) = AreCellsDivisible item cells × AreAllDivisible item shards

pub record AveragesAreOne : Type 0 where
  -- in another order of the shards a line says the same average: each lies within the other
  pub order : (item : ℕ) (shards others : List (List Cell)) (line : List Span) → AreAllDivisible item shards → Reordered shards others →
      IsNestedAverage (average_over item line shards) (average_over item line others)
      × IsNestedAverage (average_over item line others) (average_over item line shards)
  -- and that over one shard is what its cell says
  pub single : (item : ℕ) (cells : List Cell) (cell : Cell) → AreSome cells → AreApart (keys_in cells) → AreCellAverages item cells →
      IsCellOf cell cells → average_over item cell.keys (cells ∷ []) ≡ average_at item cell
