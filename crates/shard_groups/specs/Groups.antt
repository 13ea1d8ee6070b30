-- What a combined report says of the keys of a line, from the shards' reports. A shard's report is its cells.
use Rattle.std.specs.Prelude.{◌≡◌, ℕ, ◌+◌, ◌<◌, pos, Bool, false, List}
use Rattle.std.specs.Prelude.{[], ◌∷◌, drop, length, map, slice_get, slice_index_or, if◌then◌else◌}
use Rattle.std.specs.declared.option.Option.{Option}
use Rattle.std.specs.declared.option.Option.TheVariants.{Some, None}
use Rattle.std.specs.Int.{int_max, int_min}
use Rattle.std.specs.List.{All, filter, flat_map, list_any}
use Rattle.query_model.specs.declared.bounds.Bound.{Bound}
use Rattle.query_model.specs.declared.bounds.Nullity.{Nullity}
use Rattle.query_model.specs.declared.bounds.Nullity.TheVariants.{Never, Possibly, Always}
use Rattle.query_model.specs.declared.query.ItemKind.{ItemKind}
use Rattle.query_model.specs.declared.query.ItemKind.TheVariants.{Count, Sum, Min, Max, Avg}
use Rattle.shard_bounds.specs.Combined.{combined, FitsBound}
use Rattle.shard_bounds.specs.Averages.{FitsAverage, combined_average, hull_of_averages, no_average}
use Rattle.query_model.specs.Bounds.{AverageBound, fractions_of}
use Rattle.shard_groups.specs.declared.cells.Cell.{Cell}
use Rattle.shard_groups.specs.declared.cells.ItemBound.{ItemBound}
use Rattle.shard_groups.specs.declared.cells.ItemBound.TheVariants as code
use Rattle.shard_groups.specs.declared.fault.GroupFault.{GroupFault}
use Rattle.shard_groups.specs.declared.fault.GroupFault.TheVariants.{NoMemory, TooWide}
use Rattle.shard_groups.specs.declared.keys.Span.{Span}
use Rattle.shard_groups.specs.Firsts.{IsFirstNot, IsFirstNotIn}
use Rattle.shard_groups.specs.Keys.{is_within}
use Rattle.shard_groups.specs.Lines.{AreLines, IsAscending}

-- the keys of all cells of all shards
abbrev pub keys_in : List Cell → List (List Span)
keys_in cells = map (λ cell. cell.keys) cells

abbrev pub all_keys : List (List Cell) → List (List Span)
all_keys shards = flat_map keys_in shards

-- ---- a shard

-- where no row counts, the number of rows is 0, and any other answer is NULL
abbrev pub no_rows : ItemKind → Bound
no_rows Count = record { null = Never; lo = pos 0; hi = pos 0 }
no_rows Sum = record { null = Always; lo = pos 0; hi = pos 0 }
no_rows Min = record { null = Always; lo = pos 0; hi = pos 0 }
no_rows Max = record { null = Always; lo = pos 0; hi = pos 0 }
no_rows Avg = record { null = Always; lo = pos 0; hi = pos 0 }

-- what is said of an item: a bound, or that of an average
pub data Said : Type 0 where
  Value : Bound → Said
  Average : AverageBound → Said

-- the average that a cell states is that of two fractions
abbrev pub said_of : ItemBound → Said
said_of (code.Value bound) = Value bound
said_of (code.Average bound) = Average (fractions_of bound)

abbrev pub value_by : Option ItemBound → Bound
value_by None = no_rows Sum
value_by (Some (code.Value bound)) = bound
value_by (Some (code.Average bound)) = no_rows Sum

-- what a cell says of an item
abbrev pub bound_at : ℕ → Cell → Bound
bound_at item cell = value_by (slice_get cell.items item)

abbrev pub average_by : Option ItemBound → AverageBound
average_by None = no_average
average_by (Some (code.Value bound)) = no_average
average_by (Some (code.Average bound)) = fractions_of bound

-- what a cell says of an average
abbrev pub average_at : ℕ → Cell → AverageBound
average_at item cell = average_by (slice_get cell.items item)

abbrev pub cells_within : List Span → List Cell → List Cell
cells_within line cells = filter (λ cell. is_within cell.keys line) cells

-- a bound beside others, of which each may be the one that tells the answer, or none
abbrev pub beside : Bound → Bound → Bound
beside a b = record { null = Possibly; lo = int_min a.lo b.lo; hi = int_max a.hi b.hi }

abbrev pub alone : Bound → Bound
alone a = record { null = Possibly; lo = a.lo; hi = a.hi }

abbrev pub wider_by : Nullity → Nullity → Bound → Bound → Bound
wider_by Always v a b = b
wider_by Never Always a b = alone a
wider_by Never Never a b = beside a b
wider_by Never Possibly a b = beside a b
wider_by Possibly Always a b = alone a
wider_by Possibly Never a b = beside a b
wider_by Possibly Possibly a b = beside a b

abbrev pub wider : ItemKind → Bound → Bound → Bound
wider Count a b = record { null = Never; lo = b.lo; hi = int_max a.hi b.hi }
wider Sum a b = wider_by a.null b.null a b
wider Min a b = wider_by a.null b.null a b
wider Max a b = wider_by a.null b.null a b
wider Avg a b = wider_by a.null b.null a b

-- each of some bounds may tell the answer, or none: so many rows as one of them says at most, and else an interval from the least low
-- to the greatest high, or NULL
abbrev pub uncertain : ItemKind → List Bound → Bound
uncertain kind [] = no_rows kind
uncertain kind (bound ∷ bounds) = wider kind bound (uncertain kind bounds)

-- the first cell within the line is at that place
pub record IsFirstWithin (line : List Span) (cells : List Cell) (at : ℕ) : Type 0 where
  pub there : at < length cells
  pub first : (any : Cell) → cells_within line cells ≡ slice_index_or cells at any ∷ cells_within line (drop (at + 1) cells)

-- the cell, if it is the only one and has all keys of the line
abbrev pub only : List Span → List Cell → Option Cell
only line [] = None
only line (cell ∷ []) = if is_within line cell.keys then Some cell else None
only line (cell ∷ next ∷ cells) = None

abbrev pub share_by : ItemKind → ℕ → Option Cell → List Cell → Bound
share_by kind item (Some cell) cells = bound_at item cell
share_by kind item None cells = uncertain kind (map (bound_at item) cells)

-- the bound of a shard for each key of the line: a cell that has just these keys tells it, others do not tell which of them has the key
abbrev pub share : ItemKind → ℕ → List Span → List Cell → Bound
share kind item line cells = share_by kind item (only line (cells_within line cells)) (cells_within line cells)

abbrev pub shares : ItemKind → ℕ → List Span → List (List Cell) → List Bound
shares kind item line shards = map (share kind item line) shards

abbrev pub is_present_by : Option Cell → Bool
is_present_by None = false
is_present_by (Some cell) = cell.present

abbrev pub is_present_in : List Span → List Cell → Bool
is_present_in line cells = is_present_by (only line (cells_within line cells))

-- ---- all shards

-- the bound over all shards for each key of the line
abbrev pub bound_over : ItemKind → ℕ → List Span → List (List Cell) → Bound
bound_over kind item line shards = combined kind (shares kind item line shards)

-- a key is in the result for certain where it is in that of some shard, which has a cell for this key alone
abbrev pub is_present : List Span → List (List Cell) → Bool
is_present line shards = list_any (is_present_in line) shards

-- ---- averages

abbrev pub loose_word : Nullity → Nullity
loose_word Never = Possibly
loose_word Possibly = Possibly
loose_word Always = Always

-- the same average, or none
abbrev pub loosened : AverageBound → AverageBound
loosened bound = record { null = loose_word bound.null; lo = bound.lo; hi = bound.hi }

-- each of some bounds may tell the average, or none
abbrev pub uncertain_average : List AverageBound → AverageBound
uncertain_average bounds = hull_of_averages (map loosened bounds)

abbrev pub average_share_by : ℕ → Option Cell → List Cell → AverageBound
average_share_by item (Some cell) cells = average_at item cell
average_share_by item None cells = uncertain_average (map (average_at item) cells)

-- the bound that a shard gives of the average for each key of the line
abbrev pub average_share : ℕ → List Span → List Cell → AverageBound
average_share item line cells = average_share_by item (only line (cells_within line cells)) (cells_within line cells)

-- the bound of the average over all shards for each key of the line
abbrev pub average_over : ℕ → List Span → List (List Cell) → AverageBound
average_over item line shards = combined_average (map (average_share item line) shards)

-- ---- the combined report

-- what is said of an item over all shards
abbrev pub said_over : ItemKind → ℕ → List Span → List (List Cell) → Said
said_over Count item line shards = Value (bound_over Count item line shards)
said_over Sum item line shards = Value (bound_over Sum item line shards)
said_over Min item line shards = Value (bound_over Min item line shards)
said_over Max item line shards = Value (bound_over Max item line shards)
said_over Avg item line shards = Average (average_over item line shards)

-- item by item, from one on
abbrev pub said_from : ℕ → List ItemKind → List Span → List (List Cell) → List Said
said_from item [] line shards = []
said_from item (kind ∷ kinds) line shards = said_over kind item line shards ∷ said_from (item + 1) kinds line shards

-- what is said of the keys of a line
pub record IsLineOver (kinds : List ItemKind) (shards : List (List Cell)) (cell : Cell) : Type 0 where
  pub present : cell.present ≡ is_present cell.keys shards
  pub items : map said_of cell.items ≡ said_from 0 kinds cell.keys shards

abbrev pub AreLinesOver : List ItemKind → List (List Cell) → List Cell → Type 0
AreLinesOver kinds shards [] = Unit {0}
AreLinesOver kinds shards (cell ∷ cells) = IsLineOver kinds shards cell × AreLinesOver kinds shards cells

-- the cells of a combined report: the lines of the cells of all shards, in order, and what each says
pub record IsCombined (kinds : List ItemKind) (shards : List (List Cell)) (cells : List Cell) : Type 0 where
  pub lines : AreLines (all_keys shards) (keys_in cells)
  pub ascending : IsAscending (keys_in cells)
  pub each : AreLinesOver kinds shards cells

-- the ends are numbers of the code
abbrev pub FitsSaid : Said → Type 0
FitsSaid (Value bound) = FitsBound bound
FitsSaid (Average bound) = FitsAverage bound

-- what the lines of the combined report say of the items, line by line
pub record AreSaid (kinds : List ItemKind) (shards : List (List Cell)) (said : List (List Said)) : Type 0 where
  pub lines : List (List Span)
  pub are_lines : AreLines (all_keys shards) lines
  pub ascending : IsAscending lines
  pub is : said ≡ map (λ line. said_from 0 kinds line shards) lines

-- all of it is told by numbers of the code
abbrev pub AllFit : List ItemKind → List (List Cell) → Type 0
AllFit kinds shards = (said : List (List Said)) × AreSaid kinds shards said × All (All FitsSaid) said

-- in the first line of which an end leaves 128 bits, or a number of values 64, it is the first such item
abbrev pub IsTooWide : List ItemKind → List (List Cell) → ℕ → Type 0
IsTooWide kinds shards item = (said : List (List Said)) × AreSaid kinds shards said × IsFirstNotIn FitsSaid said item

abbrev pub IsGroupFault : GroupFault → List ItemKind → List (List Cell) → Type 0
IsGroupFault (TooWide item) kinds shards = IsTooWide kinds shards item
IsGroupFault NoMemory kinds shards = Unit {0}

-- the same, of one line

abbrev pub IsLineFault : GroupFault → List ItemKind → List Span → List (List Cell) → Type 0
IsLineFault (TooWide item) kinds line shards = IsFirstNot FitsSaid (said_from 0 kinds line shards) item
IsLineFault NoMemory kinds line shards = Unit {0}

-- and of one item

abbrev pub IsItemFault : GroupFault → ℕ → Said → Type 0
IsItemFault (TooWide place) item said = (place ≡ item) × ¬ FitsSaid said
IsItemFault NoMemory item said = Unit {0}
