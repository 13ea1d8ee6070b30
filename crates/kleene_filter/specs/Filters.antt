-- What is known of a condition at each row.
use Rattle.std.specs.Prelude.{◌≡◌, ◌≢◌, ℕ, ◌+◌, ◌*◌, ◌≤◌, ◌<◌, ◌==◌, Bool}
use Rattle.std.specs.Prelude.{true, false, List, [], ◌∷◌, length, map, slice_index_or, IsTrue}
use Rattle.std.specs.List.{count_by, list_any}
use Rattle.daq_table.specs.Tables.{rows_of}
use Rattle.query_model.specs.Queries.{Condition}
use Rattle.query_model.specs.declared.bounds.Truth.{Truth}
use Rattle.query_model.specs.declared.bounds.Truth.TheVariants.{False, Unknown, True}
use Rattle.query_model.specs.declared.bounds.Truths.{Truths}
use Rattle.query_model.specs.Knowledge.{CanTake, known_at, ranges_of}
use Rattle.query_model.specs.Truths.{truth_of, truths_of}
use Rattle.plane_kernels.specs.Rows.{digit_at}
use Rattle.known_column.specs.Columns.{count_in_block}
use Rattle.known_column.specs.KnownTables.{IsKnownTable, KnownTable, read_column}
use Rattle.kleene_filter.specs.declared.masks.AtomMasks.{AtomMasks}
use Rattle.kleene_filter.specs.declared.truth_masks.KeptTruths.{KeptTruths}
use Rattle.kleene_filter.specs.Masks.{atoms_of, AreMasksOf}

abbrev pub is_certain : Truth → Bool
is_certain False = false
is_certain Unknown = false
is_certain True = true

abbrev pub is_possible : Truth → Bool
is_possible False = false
is_possible Unknown = true
is_possible True = true

abbrev pub is_unknown : Truth → Bool
is_unknown False = false
is_unknown Unknown = true
is_unknown True = false

-- the number stands in the list
abbrev pub stands_in : List ℕ → ℕ → Bool
stands_in numbers n = list_any (λ m. m == n) numbers

-- the truths that the condition may have at a row
abbrev pub truths_at : Condition → KnownTable → ℕ → Truths
truths_at pred table row = truths_of pred (ranges_of table.frame table.known row)

-- what is known of the condition at a row, and at each row
abbrev pub truth_at : Condition → KnownTable → ℕ → Truth
truth_at pred table row = truth_of pred (ranges_of table.frame table.known row)

abbrev pub truths_under : Condition → KnownTable → List Truth
truths_under pred table = map (truth_at pred table) (rows_of table.frame)

-- nothing is read of any column
abbrev pub AreUnread : KnownTable → Type 0
AreUnread table = (c : ℕ) → c < length table.frame.columns → (known_at table.known c).read ≡ 0

-- what a filter keeps: the truth of its condition at each row, and masks of its atoms
pub record Judgement : Type 0 where
  pub truths : List Truth
  pub masks : List AtomMasks

-- the filter is that of the condition over columns of which this is known
pub record StandsFor (filter : Judgement) (pred : Condition) (table : KnownTable) : Type 0 where
  pub truths : filter.truths ≡ truths_under pred table
  pub count : length filter.masks ≡ length (atoms_of pred)
  pub masks : AreMasksOf filter.masks 0 (atoms_of pred) table
  pub known : IsKnownTable table

-- the columns are those from which these bits were read as the next plane of one, and the filter was that of the condition before
pub record StoodBefore (filter : Judgement) (pred : Condition) (table : KnownTable) (column : ℕ) (bits : List Bool) : Type 0 where
  pub before : KnownTable
  pub stood : StandsFor filter pred before
  pub could : CanTake before.frame before.known column bits
  pub taken : table ≡ read_column before column bits

-- each row of the first mask is one of the second, which has as many rows
abbrev pub AreNested : List Bool → List Bool → Type 0
AreNested [] [] = Unit {0}
AreNested [] (n ∷ ns) = ⊥
AreNested (m ∷ ms) [] = ⊥
AreNested (m ∷ ms) (n ∷ ns) = (IsTrue m → IsTrue n) × AreNested ms ns

-- there is a bit for each block of 512 rows, and where it is 0, of all blocks or of all but one, both masks have the same rows
pub record AreSettled (must may undecided : List Bool) : Type 0 where
  pub room : length must ≤ 512 * length undecided
  pub tight : 512 * length undecided < length must + 512
  pub same : (block j : ℕ) → j < 512 → slice_index_or undecided block false ≡ false →
      slice_index_or must (512 * block + j) false ≡ slice_index_or may (512 * block + j) false

pub record AreSettledBeside (one : ℕ) (must may undecided : List Bool) : Type 0 where
  pub room : length must ≤ 512 * length undecided
  pub tight : 512 * length undecided < length must + 512
  pub is : slice_index_or undecided one false ≡ true
  pub same : (block j : ℕ) → j < 512 → block ≢ one → slice_index_or undecided block false ≡ false →
      slice_index_or must (512 * block + j) false ≡ slice_index_or may (512 * block + j) false

-- what is kept beside the masks: the blocks that may not be decided, and how many rows each mask has
pub record AreKept (truths : KeptTruths) : Type 0 where
  pub settled : AreSettled truths.masks.must truths.masks.may truths.undecided
  pub certain : truths.certain ≡ count_by (λ b. b) truths.masks.must
  pub possible : truths.possible ≡ count_by (λ b. b) truths.masks.may

-- and the masks are those of truths
pub record AreSound (truths : KeptTruths) : Type 0 where
  pub nested : AreNested truths.masks.must truths.masks.may
  pub kept : AreKept truths

-- the bits of a row are those of what is known of the condition there
pub record HasBits (pred : Condition) (table : KnownTable) (row : ℕ) (must may : List Bool) : Type 0 where
  pub certain : slice_index_or must row false ≡ is_certain (truth_at pred table row)
  pub possible : slice_index_or may row false ≡ is_possible (truth_at pred table row)

-- from the first row on, bits that are the same are right
abbrev pub AreRightWhereSame : Condition → KnownTable → ℕ → List Bool → List Bool → Type 0
AreRightWhereSame pred table first must may =
    (row : ℕ) → first ≤ row → row < table.frame.rows →
    slice_index_or must row false ≡ slice_index_or may row false → HasBits pred table row must may

-- the bits of a block's rows are what a test says of the condition there, and the others are as they were
pub record IsJudged (test : Truth → Bool) (pred : Condition) (table : KnownTable) (block : ℕ) (old new : List Bool) : Type 0 where
  pub rows : length new ≡ length old
  pub before : (k : ℕ) → k < 64 * block → slice_index_or new k false ≡ slice_index_or old k false
  pub behind : (k : ℕ) → 64 * block + 64 ≤ k → slice_index_or new k false ≡ slice_index_or old k false
  pub here : (r : ℕ) → r < count_in_block block table.frame.rows →
      slice_index_or new (64 * block + r) false ≡ test (truth_at pred table (64 * block + r))

-- the bits of the rows from one to another are what a test says of the condition there, and the others are as they were
pub record AreJudged (test : Truth → Bool) (pred : Condition) (table : KnownTable) (from to : ℕ) (old new : List Bool) : Type 0 where
  pub rows : length new ≡ length old
  pub before : (k : ℕ) → k < from → slice_index_or new k false ≡ slice_index_or old k false
  pub behind : (k : ℕ) → to ≤ k → slice_index_or new k false ≡ slice_index_or old k false
  pub here : (k : ℕ) → from ≤ k → k < to → k < table.frame.rows → slice_index_or new k false ≡ test (truth_at pred table k)

-- the bits of a block's rows are those of the word, and the others are as they were
pub record IsWritten (block word : ℕ) (old new : List Bool) : Type 0 where
  pub rows : length new ≡ length old
  pub before : (k : ℕ) → k < 64 * block → slice_index_or new k false ≡ slice_index_or old k false
  pub behind : (k : ℕ) → 64 * block + 64 ≤ k → slice_index_or new k false ≡ slice_index_or old k false
  pub here : (r : ℕ) → r < count_in_block block (length old) → slice_index_or new (64 * block + r) false ≡ digit_at r word
