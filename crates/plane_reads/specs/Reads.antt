-- The word of a list of reads: names of columns of a query, parted by commas. An empty word is one empty name.
use Rattle.std.specs.Prelude.{◌≡◌, ℕ, ◌<◌, ◌≤◌, ◌==◌, List, [], length, map, slice_index, slice_index_or, count_by}
use Rattle.std.specs.declared.result.Result.{Result}
use Rattle.std.specs.declared.result.Result.TheVariants.{Ok, Err}
use Rattle.std.specs.List.{slice_split}
use Rattle.daq_table.specs.Tables.{ends_at, frame_of, planes}
use Rattle.daq_table.specs.declared.table_head.Head.{Head}
use Rattle.plane_schedule.specs.Plans.{IsReadableList}
use Rattle.query_model.specs.Projection.{projected_frame}
use Rattle.query_model.specs.Validity.{IsValid}
use Rattle.query_model.specs.Queries.{Query}
use Rattle.plane_reads.specs.declared.fault.ReadsFault.{ReadsFault}
use Rattle.plane_reads.specs.declared.fault.ReadsFault.TheVariants.{UnknownName, PastEnd, NoMemory}

abbrev pub names_of : List ℕ → List (List ℕ)
names_of word = slice_split (λ c. c == 44) word

abbrev pub name_at : List ℕ → ℕ → List ℕ
name_at word place = slice_index_or (names_of word) place []

-- a column of the query has this name
pub record IsNamed (query : Query) (head : Head) (c : ℕ) (name : List ℕ) : Type 0 where
  pub in_query : c < length query.columns
  pub same : slice_index_or (map (λ column. column.name) head.columns) (slice_index query.columns c) [] ≡ name

-- the first names of the word are those of these columns, of which none stands there more often than it has planes
pub record AreFirstReads (word : List ℕ) (query : Query) (head : Head) (columns : List ℕ) : Type 0 where
  pub within : length columns ≤ length (names_of word)
  pub named : (i : ℕ) → i < length columns → IsNamed query head (slice_index columns i) (name_at word i)
  pub readable : IsReadableList columns (projected_frame query (frame_of head))

-- all names are
pub record AreAllReads (word : List ℕ) (query : Query) (head : Head) (columns : List ℕ) : Type 0 where
  pub first : AreFirstReads word query head columns
  pub all : length columns ≡ length (names_of word)

-- up to this place they are, and the name there is no column of the query
pub record IsUnknownName (word : List ℕ) (query : Query) (head : Head) (place : ℕ) : Type 0 where
  pub before : List ℕ
  pub first : AreFirstReads word query head before
  pub place_is : place ≡ length before
  pub within : place < length (names_of word)
  pub unknown : (c : ℕ) → ¬ IsNamed query head c (name_at word place)

-- up to this place they are, and all planes of the column that is named there were read
pub record IsPastEnd (word : List ℕ) (query : Query) (head : Head) (place : ℕ) : Type 0 where
  pub before : List ℕ
  pub first : AreFirstReads word query head before
  pub place_is : place ≡ length before
  pub within : place < length (names_of word)
  pub column : ℕ
  pub named : IsNamed query head column (name_at word place)
  pub ended : count_by (λ d. d == column) before ≡ planes (ends_at (projected_frame query (frame_of head)) column)

-- what a fault shows
abbrev pub Refuses : List ℕ → Query → Head → ReadsFault → Type 0
Refuses word query head (UnknownName place) = IsUnknownName word query head place
Refuses word query head (PastEnd place) = IsPastEnd word query head place
Refuses word query head NoMemory = Unit {0}

-- the answer that the word has, whatever memory there is
abbrev pub IsAnswer : List ℕ → Query → Head → Result (List ℕ) ReadsFault → Type 0
IsAnswer word query head (Ok columns) = AreAllReads word query head columns
IsAnswer word query head (Err (UnknownName place)) = IsUnknownName word query head place
IsAnswer word query head (Err (PastEnd place)) = IsPastEnd word query head place
IsAnswer word query head (Err NoMemory) = ⊥

-- ---- laws, each the contract of a function that does nothing

-- each word has an answer, and one alone
abbrev pub WordsHaveAnswers : Type 0
WordsHaveAnswers =
    (word : List ℕ) (query : Query) (head : Head) → IsValid head query →
    (answer : Result (List ℕ) ReadsFault) × IsAnswer word query head answer

abbrev pub AnswersAreOne : Type 0
AnswersAreOne =
    (word : List ℕ) (query : Query) (head : Head) (a b : Result (List ℕ) ReadsFault) → IsValid head query →
    IsAnswer word query head a → IsAnswer word query head b → a ≡ b
