-- What a combined report by groups says of a table that is cut into parts: of each key, over the rows of all parts together.
use Rattle.std.specs.Prelude.{◌≡◌, ◌≢◌, ◌⊎◌, ℕ, ◌+◌, ◌<◌, ◌≤◌, ℤ, List, [], ◌∷◌, IsTrue, false, length, map, slice_get, slice_index_or}
use Rattle.std.specs.List.{All}
use Rattle.std.specs.declared.option.Option.TheVariants.{None, Some}
use Rattle.narrow_averages.specs.Beside.{can_double, is_counted}
use Rattle.query_kinds.specs.declared.beside.Beside.{Beside}
use Rattle.query_model.specs.Bounds.{Admits, AdmitsAverage, IsNestedAverage}
use Rattle.query_model.specs.declared.query.ItemKind.{ItemKind}
use Rattle.query_model.specs.declared.query.ItemKind.TheVariants.{Avg, Count, Sum}
use Rattle.shard_bounds.specs.Averages.{ReportsAverage, TellsAverage}
use Rattle.shard_bounds.specs.Combined as shards
use Rattle.shard_bounds.specs.Laws.{Tells}
use Rattle.shard_groups.specs.Keys.{Key, holds}
use Rattle.shard_groups.specs.Laws.{IsLater, IsLaterAverage}
use Rattle.shard_groups.specs.declared.cells.Cell.{Cell}
use Rattle.part_groups.specs.Laws.{AreAllAveragesToldIn, AreAllToldIn, AreAveragesCertainIn, AreCertainIn, AreCountedIn, AreKeysShown}
use Rattle.part_groups.specs.Laws.{IsGroupOf, IsNestedAverageGroup, IsNestedGroup, average_in, bound_in, keys_by}
use Rattle.part_groups.specs.Forms.{AreWrittenAlike}
use Rattle.part_groups.specs.TextLaws.{AreAllTextsToldIn, AreTextsCertainIn, IsLaterText, IsNestedTextGroup, text_in}
use Rattle.part_groups.specs.Texts.{extreme_of}
use Rattle.part_groups.specs.Whole.{cell_by, groups_over}
use Rattle.part_groups.specs.declared.group.Group.{Group}
use Rattle.report_parts.specs.Beside.{group_beside, told_at}
use Rattle.report_parts.specs.Blocks.{groups_of, no_block}
use Rattle.report_parts.specs.Combined.{AreAlike, may_answer}
use Rattle.report_parts.specs.Course.{Task, Tell}
use Rattle.report_parts.specs.Faults.{IsBlockFault}
use Rattle.report_parts.specs.Reports.{block_over}
use Rattle.report_parts.specs.Rounds.{all_groups_in}
use Rattle.report_parts.specs.Told.{Told}
use Rattle.report_parts.specs.declared.fault.BlockFault.{BlockFault}
use Rattle.report_parts.specs.declared.fault.BlockFault.TheVariants.{NoMemory}
use Rattle.report_parts.specs.declared.shape.Shape.{Shape}
use Rattle.text_extremes.specs.Bounds as texts
use Rattle.text_extremes.specs.Laws as texts_of_all
use Rattle.text_extremes.specs.declared.extreme.Extreme.{Extreme}

-- ---- what is printed

-- the groups that are printed in a round
abbrev pub printed_groups : ℕ → Shape → List Told → List Group
printed_groups round shape parts = groups_of (block_over round shape parts)

-- the groups of the round by what the parts say of each item alone; those that are printed are these, with their averages narrowed
abbrev pub groups_alone : ℕ → Shape → List Told → List Group
groups_alone round shape parts = groups_over shape.columns shape.kinds (all_groups_in round parts)

-- in that round the parts write each column, and each item, in one form
abbrev pub AreAlikeIn : ℕ → Shape → List Told → Type 0
AreAlikeIn round shape parts = AreWrittenAlike shape.columns shape.kinds (all_groups_in round parts)

-- or the block of the round has a fault, for which it is not printed
abbrev pub HasFaultIn : ℕ → Shape → List Told → Type 0
HasFaultIn round shape parts = (why : BlockFault) × (why ≢ NoMemory) × IsBlockFault why round shape parts

-- this group is printed in a round in which the parts write so, and has the key
pub record IsGroupIn (round : ℕ) (shape : Shape) (parts : List Told) (key : Key) (group : Group) : Type 0 where
  pub alike : AreAlikeIn round shape parts
  pub printed : IsGroupOf group (printed_groups round shape parts)
  pub has : IsTrue (holds (keys_by group) key)

-- ---- what the parts say, block by block

-- the groups that a block tells
abbrev pub groups_at : ℕ → Told → List Group
groups_at block told = groups_of (slice_index_or told.blocks block no_block)

-- there is a block, and each stands so to itself and to each before it
pub record DoBlocksNest (IsBehind : List Group → List Group → Type 0) (told : Told) : Type 0 where
  pub some : 0 < length told.blocks
  pub nests : (block next : ℕ) → block ≤ next → next < length told.blocks → IsBehind (groups_at block told) (groups_at next told)

-- so it is of each part
abbrev pub DoGroupsNest : (List Group → List Group → Type 0) → List Told → Type 0
DoGroupsNest IsBehind [] = Unit {0}
DoGroupsNest IsBehind (part ∷ parts) = DoBlocksNest IsBehind part × DoGroupsNest IsBehind parts

-- so it is of the cells that the groups tell
abbrev pub DoAllNest : (List Cell → List Cell → Type 0) → List Told → Type 0
DoAllNest IsBehind parts = DoGroupsNest (λ olds groups. IsBehind (map cell_by olds) (map cell_by groups)) parts

-- ---- what is certain of a key

-- where what each part says of the key in the round is certain of the part's rows, the group that has it contains its answer over the rows
-- of all parts together; it lies within that of the round before, where the parts' blocks do; and where each part says the key's answer, it
-- is the answer
pub record IsCertainOfKey (round item : ℕ) (kind : ItemKind) (key : Key) (shape : Shape) (parts : List Told) (tables : List (List ℤ))
    : Type 0 where
  pub contains : AreCertainIn kind item key (all_groups_in round parts) tables →
      (group : Group) → IsGroupIn round shape parts key group → Admits (bound_in item group) (shards.answer_over kind tables)
  pub nests : DoAllNest (IsLater kind item) parts →
      (group next : Group) → IsGroupIn round shape parts key group → IsGroupIn (round + 1) shape parts key next →
      IsNestedGroup item group next
  pub exact : AreAllToldIn kind item key (all_groups_in round parts) tables →
      (group : Group) → IsGroupIn round shape parts key group → Tells (bound_in item group) (shards.answer_over kind tables)

-- so it is of an average beside which nothing stands
pub record IsCertainOfAverage (round item : ℕ) (key : Key) (shape : Shape) (parts : List Told) (tables : List (List ℤ)) : Type 0 where
  pub reports : AreAveragesCertainIn item key (all_groups_in round parts) tables →
      (group : Group) → IsGroupIn round shape parts key group → ReportsAverage (average_in item group) (shards.average_over tables)
  pub nests : DoAllNest (IsLaterAverage item) parts →
      (group next : Group) → IsGroupIn round shape parts key group → IsGroupIn (round + 1) shape parts key next →
      IsNestedAverageGroup item group next
  pub exact : AreAllAveragesToldIn item key (all_groups_in round parts) tables →
      (group : Group) → IsGroupIn round shape parts key group → TellsAverage (average_in item group) (shards.average_over tables)

-- a group says that there is no answer to the item, or none but a text
abbrev pub HasNoOther : ℕ → Group → Type 0
HasNoOther item group = may_answer (told_at item group.answers) ≡ false

abbrev pub HaveNoOther : ℕ → List (List Group) → Type 0
HaveNoOther item parts = All (λ groups. All (HasNoOther item) groups) parts

-- so it is of the least or the greatest text in the round; and where no part says a number or a day, none is printed
pub record IsCertainOfText (round item : ℕ) (extreme : Extreme) (key : Key) (shape : Shape) (parts : List Told)
    (tables : List (List (List ℕ))) : Type 0 where
  pub contains : AreTextsCertainIn extreme item key (all_groups_in round parts) tables →
      (group : Group) → IsGroupIn round shape parts key group → texts.Admits (text_in item group) (texts_of_all.answer_over extreme tables)
  pub no_other : HaveNoOther item (all_groups_in round parts) →
      (group : Group) → IsGroupIn round shape parts key group → HasNoOther item group
  pub nests : DoGroupsNest (IsLaterText item) parts →
      (group next : Group) → IsGroupIn round shape parts key group → IsGroupIn (round + 1) shape parts key next →
      IsNestedTextGroup item group next
  pub exact : AreAllTextsToldIn extreme item key (all_groups_in round parts) tables →
      (group : Group) → IsGroupIn round shape parts key group → texts.Tells (text_in item group) (texts_of_all.answer_over extreme tables)

-- ---- an average beside which the sum and the number of its values are asked

-- what each part says of these three at the key in the round is certain of the part's rows
pub record AreCertainBesideIn (round item : ℕ) (beside : Beside) (key : Key) (parts : List Told) (tables : List (List ℤ)) : Type 0 where
  pub sums : AreCertainIn Sum beside.sum key (all_groups_in round parts) tables
  pub counts : AreCertainIn Count beside.count key (all_groups_in round parts) tables
  pub averages : AreAveragesCertainIn item key (all_groups_in round parts) tables

-- and each block of a part lies within those before
pub record DoAllNestBeside (item : ℕ) (beside : Beside) (parts : List Told) : Type 0 where
  pub sums : DoAllNest (IsLater Sum beside.sum) parts
  pub counts : DoAllNest (IsLater Count beside.count) parts
  pub averages : DoAllNest (IsLaterAverage item) parts

-- the group writes its sum as it writes those of its average
abbrev pub IsSumAlike : ℕ → Beside → Group → Type 0
IsSumAlike item beside group = AreAlike (told_at item group.answers ∷ told_at beside.sum group.answers ∷ [])

-- twice the sum and twice the number of its high end have room
abbrev pub HasRoom : ℕ → Group → Type 0
HasRoom item group = IsTrue (can_double (average_in item group).hi)

-- so many values of the key are counted in 64 bits
abbrev pub IsCounted : Beside → Group → Type 0
IsCounted beside group = IsTrue (is_counted (bound_in beside.count group))

-- where these three are certain, the group that has the key contains its average over the rows of all parts together; one fraction alone
-- is again their sum over the number of their values; it lies within that of the round before, where the parts' blocks do, and within what
-- the parts' averages give alone; and where each part says the key's sum and its number of values, it says those of all
pub record IsCertainOfBeside (round item : ℕ) (beside : Beside) (key : Key) (shape : Shape) (parts : List Told) (tables : List (List ℤ))
    : Type 0 where
  pub contains : AreCertainBesideIn round item beside key parts tables →
      (group : Group) → IsGroupIn round shape parts key group → AdmitsAverage (average_in item group) (shards.average_over tables)
  pub reports : AreCertainBesideIn round item beside key parts tables →
      (group : Group) → IsGroupIn round shape parts key group → HasRoom item group →
      ReportsAverage (average_in item group) (shards.average_over tables)
  pub nests : DoAllNestBeside item beside parts → AreCertainBesideIn (round + 1) item beside key parts tables →
      (group next : Group) → IsGroupIn round shape parts key group → IsGroupIn (round + 1) shape parts key next →
      IsSumAlike item beside group → IsSumAlike item beside next → IsNestedAverageGroup item group next
  pub narrow : AreCertainBesideIn round item beside key parts tables → AreAlikeIn round shape parts →
      (alone : Group) → IsGroupOf alone (groups_alone round shape parts) → IsTrue (holds (keys_by alone) key) →
      IsNestedAverage (average_in item alone) (average_in item (group_beside shape.besides alone))
  pub exact : AreCertainBesideIn round item beside key parts tables → AreAllToldIn Sum beside.sum key (all_groups_in round parts) tables →
      AreAllToldIn Count beside.count key (all_groups_in round parts) tables →
      (group : Group) → IsGroupIn round shape parts key group → IsSumAlike item beside group → IsCounted beside group →
      TellsAverage (average_in item group) (shards.average_over tables)

-- in each round the parts write alike, or its block has a fault. Where they do, what is printed of groups is certain of all rows together,
-- where what the parts say is of their own: a key of the whole result is in one group, a key of a present group is in the result, and its
-- answers are certain
pub record AreGroupsCertain (shape : Shape) (parts : List Told) : Type 0 where
  pub forms : (round : ℕ) → AreAlikeIn round shape parts ⊎ HasFaultIn round shape parts
  pub keys : (key : Key) (counts : List ℕ) (round : ℕ) → AreAlikeIn round shape parts →
      AreCountedIn key (all_groups_in round parts) counts → AreKeysShown key counts (printed_groups round shape parts)
  pub items : (item : ℕ) (kind : ItemKind) (key : Key) (tables : List (List ℤ)) (round : ℕ) → kind ≢ Avg →
      slice_get shape.kinds item ≡ Some kind → IsCertainOfKey round item kind key shape parts tables
  pub texts : (item : ℕ) (kind : ItemKind) (extreme : Extreme) (key : Key) (tables : List (List (List ℕ))) (round : ℕ) →
      slice_get shape.kinds item ≡ Some kind → extreme_of kind ≡ Some extreme → IsCertainOfText round item extreme key shape parts tables
  pub averages : (item : ℕ) (key : Key) (tables : List (List ℤ)) (round : ℕ) → slice_get shape.kinds item ≡ Some Avg →
      slice_index_or shape.besides item None ≡ None → IsCertainOfAverage round item key shape parts tables
  pub besides : (item : ℕ) (beside : Beside) (key : Key) (tables : List (List ℤ)) (round : ℕ) → slice_get shape.kinds item ≡ Some Avg →
      slice_index_or shape.besides item None ≡ Some beside → slice_get shape.kinds beside.sum ≡ Some Sum →
      slice_get shape.kinds beside.count ≡ Some Count → IsCertainOfBeside round item beside key shape parts tables

-- the headline for parts: of groups, behind whatever lines
abbrev pub CombinedGroupsAreCertain : Type 0
CombinedGroupsAreCertain =
    (task : Task) (lines : List (List ℕ)) (parts : List Told) → Tell task [] lines parts → 0 < task.shape.columns →
    AreGroupsCertain task.shape parts
