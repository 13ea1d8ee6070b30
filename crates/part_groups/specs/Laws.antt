-- What holds of the report by groups over all parts, as statements. A public function, which only
-- names the laws on which it rests, has each as its contract.
use Rattle.std.specs.Prelude.{◌≡◌, ◌≢◌, ◌⊎◌, ℕ, ◌<◌, ℤ, List, [], ◌∷◌, IsTrue, IsFalse, Bool, length, map, slice_get}
use Rattle.std.specs.List.{list_any}
use Rattle.std.specs.declared.option.Option.{Option}
use Rattle.std.specs.declared.option.Option.TheVariants.{Some, None}
use Rattle.query_model.specs.declared.bounds.Bound.{Bound}
use Rattle.query_model.specs.declared.query.ItemKind.{ItemKind}
use Rattle.query_model.specs.declared.query.ItemKind.TheVariants.{Sum, Avg}
use Rattle.query_model.specs.Answers.{answer, average}
use Rattle.query_model.specs.Bounds.{Admits, AverageBound, IsNested, IsNestedAverage}
use Rattle.report_text.specs.Groups.{IsShownGroup}
use Rattle.shard_bounds.specs.Averages.{ReportsAverage, TellsAverage, no_average}
use Rattle.shard_bounds.specs.Combined as answers
use Rattle.shard_bounds.specs.Combined.{answer_over}
use Rattle.shard_bounds.specs.Laws.{Tells}
use Rattle.shard_groups.specs.declared.keys.Span.{Span}
use Rattle.shard_groups.specs.Groups.{Average, Said, Value, no_rows}
use Rattle.shard_groups.specs.Keys.{Key, holds}
use Rattle.shard_groups.specs.Laws.{AreLater, AreLaterAverages, AreOneKeys, all_rows}
use Rattle.shard_groups.specs.Lines.{AreApart}
use Rattle.part_groups.specs.Cells.{keys_of, said_by}
use Rattle.part_groups.specs.Combined.{IsCombinedReport}
use Rattle.part_groups.specs.Whole.{cells_by}
use Rattle.part_groups.specs.declared.group.Group.{Group}

-- ---- groups of reports

-- a group that a report of a query with so many group columns shows
pub record IsOf (count : ℕ) (group : Group) : Type 0 where
  pub shown : IsShownGroup group.line
  pub columns : length group.line.keys ≡ count

abbrev pub AreOf : ℕ → List Group → Type 0
AreOf count [] = Unit {0}
AreOf count (group ∷ groups) = IsOf count group × AreOf count groups

abbrev pub AreAllOf : ℕ → List (List Group) → Type 0
AreAllOf count [] = Unit {0}
AreAllOf count (groups ∷ parts) = AreOf count groups × AreAllOf count parts

abbrev pub IsGroupOf : Group → List Group → Type 0
IsGroupOf group [] = ⊥
IsGroupOf group (other ∷ others) = (group ≡ other) ⊎ IsGroupOf group others

-- the keys that a group shows
abbrev pub keys_by : Group → List Span
keys_by group = keys_of group.line.keys

abbrev pub bound_by : Option Said → Bound
bound_by None = no_rows Sum
bound_by (Some (Value bound)) = bound
bound_by (Some (Average bound)) = no_rows Sum

-- what a group says of an item
abbrev pub bound_in : ℕ → Group → Bound
bound_in item group = bound_by (slice_get (map said_by group.answers) item)

abbrev pub has_key : Key → List Group → Bool
has_key key groups = list_any (λ group. holds (keys_by group) key) groups

-- ---- contains

-- each group that has the key admits the answer over these values
abbrev pub AreAdmittedIn : ItemKind → ℕ → Key → List Group → List ℤ → Type 0
AreAdmittedIn kind item key [] values = Unit {0}
AreAdmittedIn kind item key (group ∷ groups) values =
    (IsTrue (holds (keys_by group) key) → Admits (bound_in item group) (answer kind values)) × AreAdmittedIn kind item key groups values

-- the report of a part is certain of the key, to which the part's rows give these values: a key without a group has none
pub record IsCertainIn (kind : ItemKind) (item : ℕ) (key : Key) (groups : List Group) (values : List ℤ) : Type 0 where
  pub admits : AreAdmittedIn kind item key groups values
  pub missing : IsFalse (has_key key groups) → values ≡ []

abbrev pub AreCertainIn : ItemKind → ℕ → Key → List (List Group) → List (List ℤ) → Type 0
AreCertainIn kind item key [] [] = Unit {0}
AreCertainIn kind item key [] (values ∷ tables) = ⊥
AreCertainIn kind item key (groups ∷ parts) [] = ⊥
AreCertainIn kind item key (groups ∷ parts) (values ∷ tables) =
    IsCertainIn kind item key groups values × AreCertainIn kind item key parts tables

-- a group of the combined report that has the key contains its answer over the rows of all parts
abbrev pub GroupsContain : Type 0
GroupsContain =
    (count : ℕ) (kinds : List ItemKind) (parts : List (List Group)) (groups : List Group) (kind : ItemKind) (item : ℕ) (key : Key)
    (tables : List (List ℤ)) (group : Group) →
    AreAllOf count parts → IsCombinedReport count kinds parts groups → slice_get kinds item ≡ Some kind → kind ≢ Avg →
    AreCertainIn kind item key parts tables → IsGroupOf group groups → IsTrue (holds (keys_by group) key) →
    Admits (bound_in item group) (answer_over kind tables)

-- ---- which keys are in the result

-- so many rows of a part count for a key: some for each group that has it and is present
abbrev pub ArePresentIn : Key → List Group → ℕ → Type 0
ArePresentIn key [] rows = Unit {0}
ArePresentIn key (group ∷ groups) rows =
    (IsTrue group.line.present → IsTrue (holds (keys_by group) key) → 0 < rows) × ArePresentIn key groups rows

-- the report of a part is right about that: a key without a group has no row
pub record IsCountedIn (key : Key) (groups : List Group) (rows : ℕ) : Type 0 where
  pub present : ArePresentIn key groups rows
  pub missing : IsFalse (has_key key groups) → rows ≡ 0

abbrev pub AreCountedIn : Key → List (List Group) → List ℕ → Type 0
AreCountedIn key [] [] = Unit {0}
AreCountedIn key [] (rows ∷ counts) = ⊥
AreCountedIn key (groups ∷ parts) [] = ⊥
AreCountedIn key (groups ∷ parts) (rows ∷ counts) = IsCountedIn key groups rows × AreCountedIn key parts counts

-- some group has the key
pub record HasKey (key : Key) (groups : List Group) : Type 0 where
  pub group : Group
  pub is : IsGroupOf group groups
  pub has : IsTrue (holds (keys_by group) key)

-- a key of the whole result is in a group, none is in two groups, and each key of a present group is in the result
pub record AreKeysShown (key : Key) (counts : List ℕ) (groups : List Group) : Type 0 where
  pub found : 0 < all_rows counts → HasKey key groups
  pub alone : (group other : Group) → IsGroupOf group groups → IsGroupOf other groups → IsTrue (holds (keys_by group) key) →
      IsTrue (holds (keys_by other) key) → group ≡ other
  pub present : (group : Group) → IsGroupOf group groups → IsTrue (holds (keys_by group) key) → IsTrue group.line.present →
      0 < all_rows counts

abbrev pub GroupsTellKeys : Type 0
GroupsTellKeys =
    (count : ℕ) (kinds : List ItemKind) (parts : List (List Group)) (groups : List Group) (key : Key) (counts : List ℕ) →
    AreAllOf count parts → IsCombinedReport count kinds parts groups → AreCountedIn key parts counts → AreKeysShown key counts groups

-- ---- exact

-- each group that has the key says the answer over these values
abbrev pub AreToldIn : ItemKind → ℕ → Key → List Group → List ℤ → Type 0
AreToldIn kind item key [] values = Unit {0}
AreToldIn kind item key (group ∷ groups) values =
    (IsTrue (holds (keys_by group) key) → Tells (bound_in item group) (answer kind values)) × AreToldIn kind item key groups values

-- the report of a part is exact at the key: each group has one key, no two the same, and that of the key says the answer
pub record IsToldIn (kind : ItemKind) (item : ℕ) (key : Key) (groups : List Group) (values : List ℤ) : Type 0 where
  pub one_keys : AreOneKeys (map keys_by groups)
  pub apart : AreApart (map keys_by groups)
  pub told : AreToldIn kind item key groups values
  pub missing : IsFalse (has_key key groups) → values ≡ []

abbrev pub AreAllToldIn : ItemKind → ℕ → Key → List (List Group) → List (List ℤ) → Type 0
AreAllToldIn kind item key [] [] = Unit {0}
AreAllToldIn kind item key [] (values ∷ tables) = ⊥
AreAllToldIn kind item key (groups ∷ parts) [] = ⊥
AreAllToldIn kind item key (groups ∷ parts) (values ∷ tables) =
    IsToldIn kind item key groups values × AreAllToldIn kind item key parts tables

-- where each part's report is exact, a group of the combined report that has the key says its answer over the rows of all parts
abbrev pub GroupsTell : Type 0
GroupsTell =
    (count : ℕ) (kinds : List ItemKind) (parts : List (List Group)) (groups : List Group) (kind : ItemKind) (item : ℕ) (key : Key)
    (tables : List (List ℤ)) (group : Group) →
    AreAllOf count parts → IsCombinedReport count kinds parts groups → slice_get kinds item ≡ Some kind → kind ≢ Avg →
    AreAllToldIn kind item key parts tables → IsGroupOf group groups → IsTrue (holds (keys_by group) key) →
    Tells (bound_in item group) (answer_over kind tables)

-- ---- nested

-- the keys of a group, and its bound, lie within those of another
pub record IsNestedGroup (item : ℕ) (old group : Group) : Type 0 where
  pub keys : (key : Key) → IsTrue (holds (keys_by group) key) → IsTrue (holds (keys_by old) key)
  pub bound : IsNested (bound_in item old) (bound_in item group)

-- with later reports of the parts the group of a key and its bound lie within those before
abbrev pub GroupsNest : Type 0
GroupsNest =
    (count : ℕ) (kinds : List ItemKind) (before parts : List (List Group)) (olds groups : List Group) (kind : ItemKind) (item : ℕ)
    (key : Key) (old group : Group) →
    AreAllOf count before → AreAllOf count parts → IsCombinedReport count kinds before olds → IsCombinedReport count kinds parts groups →
    slice_get kinds item ≡ Some kind → kind ≢ Avg → AreLater kind item (cells_by before) (cells_by parts) → IsGroupOf old olds →
    IsGroupOf group groups → IsTrue (holds (keys_by old) key) → IsTrue (holds (keys_by group) key) → IsNestedGroup item old group

-- ---- averages

abbrev pub average_by : Option Said → AverageBound
average_by None = no_average
average_by (Some (Value bound)) = no_average
average_by (Some (Average bound)) = bound

-- what a group says of an average
abbrev pub average_in : ℕ → Group → AverageBound
average_in item group = average_by (slice_get (map said_by group.answers) item)

-- each group that has the key reports the average over these values
abbrev pub AreReportedIn : ℕ → Key → List Group → List ℤ → Type 0
AreReportedIn item key [] values = Unit {0}
AreReportedIn item key (group ∷ groups) values =
    (IsTrue (holds (keys_by group) key) → ReportsAverage (average_in item group) (average values)) × AreReportedIn item key groups values

-- the report of a part is certain of the average at the key: one fraction alone is the sum of the values over their number
pub record IsAverageCertainIn (item : ℕ) (key : Key) (groups : List Group) (values : List ℤ) : Type 0 where
  pub reports : AreReportedIn item key groups values
  pub missing : IsFalse (has_key key groups) → values ≡ []

abbrev pub AreAveragesCertainIn : ℕ → Key → List (List Group) → List (List ℤ) → Type 0
AreAveragesCertainIn item key [] [] = Unit {0}
AreAveragesCertainIn item key [] (values ∷ tables) = ⊥
AreAveragesCertainIn item key (groups ∷ parts) [] = ⊥
AreAveragesCertainIn item key (groups ∷ parts) (values ∷ tables) =
    IsAverageCertainIn item key groups values × AreAveragesCertainIn item key parts tables

-- a group of the combined report that has the key is again such a report of its average over the rows of all parts
abbrev pub GroupsReportAverages : Type 0
GroupsReportAverages =
    (count : ℕ) (kinds : List ItemKind) (parts : List (List Group)) (groups : List Group) (item : ℕ) (key : Key) (tables : List (List ℤ))
    (group : Group) →
    AreAllOf count parts → IsCombinedReport count kinds parts groups → slice_get kinds item ≡ Some Avg →
    AreAveragesCertainIn item key parts tables → IsGroupOf group groups → IsTrue (holds (keys_by group) key) →
    ReportsAverage (average_in item group) (answers.average_over tables)

-- each group that has the key says the sum and the number of these values
abbrev pub AreAveragesToldIn : ℕ → Key → List Group → List ℤ → Type 0
AreAveragesToldIn item key [] values = Unit {0}
AreAveragesToldIn item key (group ∷ groups) values =
    (IsTrue (holds (keys_by group) key) → TellsAverage (average_in item group) (average values)) × AreAveragesToldIn item key groups values

pub record IsAverageToldIn (item : ℕ) (key : Key) (groups : List Group) (values : List ℤ) : Type 0 where
  pub one_keys : AreOneKeys (map keys_by groups)
  pub apart : AreApart (map keys_by groups)
  pub told : AreAveragesToldIn item key groups values
  pub missing : IsFalse (has_key key groups) → values ≡ []

abbrev pub AreAllAveragesToldIn : ℕ → Key → List (List Group) → List (List ℤ) → Type 0
AreAllAveragesToldIn item key [] [] = Unit {0}
AreAllAveragesToldIn item key [] (values ∷ tables) = ⊥
AreAllAveragesToldIn item key (groups ∷ parts) [] = ⊥
AreAllAveragesToldIn item key (groups ∷ parts) (values ∷ tables) =
    IsAverageToldIn item key groups values × AreAllAveragesToldIn item key parts tables

-- where each part's report is exact, a group of the combined report that has the key says the sum and the number of its values in all
abbrev pub GroupsTellAverages : Type 0
GroupsTellAverages =
    (count : ℕ) (kinds : List ItemKind) (parts : List (List Group)) (groups : List Group) (item : ℕ) (key : Key) (tables : List (List ℤ))
    (group : Group) →
    AreAllOf count parts → IsCombinedReport count kinds parts groups → slice_get kinds item ≡ Some Avg →
    AreAllAveragesToldIn item key parts tables → IsGroupOf group groups → IsTrue (holds (keys_by group) key) →
    TellsAverage (average_in item group) (answers.average_over tables)

-- the keys of a group, and its average, lie within those of another
pub record IsNestedAverageGroup (item : ℕ) (old group : Group) : Type 0 where
  pub keys : (key : Key) → IsTrue (holds (keys_by group) key) → IsTrue (holds (keys_by old) key)
  pub average : IsNestedAverage (average_in item old) (average_in item group)

-- with later reports of the parts the group of a key and its average lie within those before
abbrev pub GroupsNestAverages : Type 0
GroupsNestAverages =
    (count : ℕ) (kinds : List ItemKind) (before parts : List (List Group)) (olds groups : List Group) (item : ℕ) (key : Key)
    (old group : Group) →
    AreAllOf count before → AreAllOf count parts → IsCombinedReport count kinds before olds → IsCombinedReport count kinds parts groups →
    slice_get kinds item ≡ Some Avg → AreLaterAverages item (cells_by before) (cells_by parts) → IsGroupOf old olds →
    IsGroupOf group groups → IsTrue (holds (keys_by old) key) → IsTrue (holds (keys_by group) key) → IsNestedAverageGroup item old group

-- ---- a combined report as a part

-- its groups have a key for each group column, so that it may be a part of another
abbrev pub GroupsHaveColumns : Type 0
GroupsHaveColumns =
    (count : ℕ) (kinds : List ItemKind) (parts : List (List Group)) (groups : List Group) (group : Group) →
    IsCombinedReport count kinds parts groups → IsGroupOf group groups → length group.line.keys ≡ count
