-- What a combined report says of a table that is cut into parts, where each part's report is certain of its own rows.
use Rattle.std.specs.Prelude.{◌≡◌, ◌≢◌, ℕ, ◌+◌, ◌<◌, ℤ, is_some, true, IsTrue, List, [], ◌∷◌, length, map, slice_get, slice_index_or}
use Rattle.std.specs.declared.option.Option.{Option}
use Rattle.std.specs.declared.option.Option.TheVariants.{None, Some}
use Rattle.narrow_averages.specs.Beside.{can_double, is_counted}
use Rattle.query_kinds.specs.declared.beside.Beside.{Beside}
use Rattle.query_model.specs.Answers.{answer, average}
use Rattle.query_model.specs.Bounds.{Admits, AdmitsAverage, IsNested, IsNestedAverage}
use Rattle.query_model.specs.declared.query.ItemKind.{ItemKind}
use Rattle.query_model.specs.declared.query.ItemKind.TheVariants.{Avg, Count, Sum}
use Rattle.report_text.specs.declared.answers.Answer.{Answer}
use Rattle.shard_bounds.specs.Averages.{ReportsAverage, TellsAverage, average_from, combined_average, hull_of_averages, meet_of_two}
use Rattle.shard_bounds.specs.Combined as shards
use Rattle.shard_bounds.specs.Combined.{IsBoundOf}
use Rattle.shard_bounds.specs.Laws.{AreAveragesTold, AreTold, IsNestedReport, Tells}
use Rattle.report_parts.specs.Blocks.{entries_of, no_block}
use Rattle.report_parts.specs.Combined.{AreAlike, answer_over, average_of, bound_of, exact_over}
use Rattle.report_parts.specs.Entries.{entry_at, or_no_answer}
use Rattle.report_parts.specs.Reports.{block_over}
use Rattle.report_parts.specs.Rounds.{answers_in, extras_in}
use Rattle.report_parts.specs.Told.{Told}
use Rattle.report_parts.specs.declared.entry.Entry.{Entry}
use Rattle.report_parts.specs.declared.shape.Shape.{Shape}

-- what a block says of an item, and what its line behind tells
abbrev pub answer_at : ℕ → ℕ → Told → Answer
answer_at block item told = (entry_at item (entries_of (slice_index_or told.blocks block no_block))).answer

abbrev pub extra_at : ℕ → ℕ → Told → Option Answer
extra_at block item told = (entry_at item (entries_of (slice_index_or told.blocks block no_block))).extra

-- so it is of each part with its own values
abbrev pub OfEach : (Told → List ℤ → Type 0) → List Told → List (List ℤ) → Type 0
OfEach Is [] [] = Unit {0}
OfEach Is [] (values ∷ tables) = ⊥
OfEach Is (part ∷ parts) [] = ⊥
OfEach Is (part ∷ parts) (values ∷ tables) = Is part values × OfEach Is parts tables

-- ---- of each item but an average

-- so many blocks are certain of the answer to these values: there is one, each contains the answer and says it in the way of a report, and
-- each lies within the one before
pub record AreCertainBlocks (kind : ItemKind) (count : ℕ) (says : ℕ → Answer) (values : List ℤ) : Type 0 where
  pub some : 0 < count
  pub contains : (block : ℕ) → block < count → Admits (bound_of (says block)) (answer kind values)
  pub is_bound : (block : ℕ) → block < count → IsBoundOf kind (bound_of (says block))
  pub nests : (block : ℕ) → block + 1 < count → IsNested (bound_of (says block)) (bound_of (says (block + 1)))

-- the report of a part is certain of the item, to which the part's rows give these values
abbrev pub IsCertainOf : ℕ → ItemKind → Told → List ℤ → Type 0
IsCertainOf item kind told values = AreCertainBlocks kind (length told.blocks) (λ block. answer_at block item told) values

abbrev pub AreCertainOf : ℕ → ItemKind → List Told → List (List ℤ) → Type 0
AreCertainOf item kind parts tables = OfEach (IsCertainOf item kind) parts tables

-- what is said over all parts contains the answer on the rows of all together, what is said next lies within it, and where each part says
-- its answer, it is the answer
pub record IsCertainOver (kind : ItemKind) (answers nexts : List Answer) (tables : List (List ℤ)) : Type 0 where
  pub contains : Admits (bound_of (answer_over kind answers)) (shards.answer_over kind tables)
  pub nests : IsNested (bound_of (answer_over kind answers)) (bound_of (answer_over kind nexts))
  pub exact : AreTold kind (map bound_of answers) tables → Tells (bound_of (answer_over kind answers)) (shards.answer_over kind tables)

-- the query is of totals
pub record IsOfTotals (shape : Shape) : Type 0 where
  pub no_groups : shape.columns ≡ 0
  pub no_rows : shape.rows ≡ None

-- what is printed of its items in a round
abbrev pub printed_in : ℕ → Shape → List Told → List Entry
printed_in round shape parts = entries_of (block_over round shape parts)

-- what is printed of the item in a round, beside the next round's
pub record IsCertainIn (round item : ℕ) (kind : ItemKind) (shape : Shape) (parts : List Told) (tables : List (List ℤ)) : Type 0 where
  pub entry : Entry
  pub printed : slice_get (printed_in round shape parts) item ≡ Some entry
  pub is : entry.answer ≡ answer_over kind (answers_in round item parts)
  pub certain : IsCertainOver kind (answers_in round item parts) (answers_in (round + 1) item parts) tables

-- the headline for parts: of each item but an average
abbrev pub CombinedIsCertain : Type 0
CombinedIsCertain =
    (item : ℕ) (kind : ItemKind) (shape : Shape) (parts : List Told) (tables : List (List ℤ)) (round : ℕ) → IsOfTotals shape →
    kind ≢ Avg → slice_get shape.kinds item ≡ Some kind → AreCertainOf item kind parts tables →
    IsCertainIn round item kind shape parts tables

-- ---- its clipped bound, in the line behind

-- each block has that line, and is certain by it
pub record IsClippedOf (item : ℕ) (kind : ItemKind) (told : Told) (values : List ℤ) : Type 0 where
  pub shown : (block : ℕ) → block < length told.blocks → is_some (extra_at block item told) ≡ true
  pub certain : AreCertainBlocks kind (length told.blocks) (λ block. or_no_answer (extra_at block item told)) values

abbrev pub AreClippedOf : ℕ → ItemKind → List Told → List (List ℤ) → Type 0
AreClippedOf item kind parts tables = OfEach (IsClippedOf item kind) parts tables

-- the line is printed, and what it says is certain
pub record IsClippedIn (round item : ℕ) (kind : ItemKind) (shape : Shape) (parts : List Told) (tables : List (List ℤ)) : Type 0 where
  pub entry : Entry
  pub printed : slice_get (printed_in round shape parts) item ≡ Some entry
  pub is : entry.extra ≡ Some (answer_over kind (extras_in round item parts))
  pub certain : IsCertainOver kind (extras_in round item parts) (extras_in (round + 1) item parts) tables

abbrev pub CombinedClipsAreCertain : Type 0
CombinedClipsAreCertain =
    (item : ℕ) (kind : ItemKind) (shape : Shape) (parts : List Told) (tables : List (List ℤ)) (round : ℕ) → IsOfTotals shape →
    kind ≢ Avg → slice_get shape.kinds item ≡ Some kind → AreClippedOf item kind parts tables →
    IsClippedIn round item kind shape parts tables

-- ---- averages

-- each block contains the average, and one fraction alone is the sum over the number of the values
pub record IsCertainAverage (item : ℕ) (told : Told) (values : List ℤ) : Type 0 where
  pub some : 0 < length told.blocks
  pub reports : (block : ℕ) → block < length told.blocks → ReportsAverage (average_of (answer_at block item told)) (average values)

abbrev pub AreCertainAverages : ℕ → List Told → List (List ℤ) → Type 0
AreCertainAverages item parts tables = OfEach (IsCertainAverage item) parts tables

-- each block's bound lies within the one before, and one fraction alone stays as it is
abbrev pub AverageNests : ℕ → Told → Type 0
AverageNests item told =
    (block : ℕ) → block + 1 < length told.blocks →
    IsNestedReport (average_of (answer_at block item told)) (average_of (answer_at (block + 1) item told))

abbrev pub DoAveragesNest : ℕ → List Told → Type 0
DoAveragesNest item [] = Unit {0}
DoAveragesNest item (part ∷ parts) = AverageNests item part × DoAveragesNest item parts

-- where nothing stands beside it, what is printed shows a bound that contains the average over the rows of all parts
-- together, and one fraction alone is again their sum over the number of their values; the next round's lies within it, where those of the
-- parts do; and where each part says its sum and its number of values in the round, it says those of all
pub record IsAverageIn (round item : ℕ) (shape : Shape) (parts : List Told) (tables : List (List ℤ)) : Type 0 where
  pub entry : Entry
  pub printed : slice_get (printed_in round shape parts) item ≡ Some entry
  pub is : entry.answer ≡ answer_over Avg (answers_in round item parts)
  pub reports : ReportsAverage (combined_average (map average_of (answers_in round item parts))) (shards.average_over tables)
  pub nests : DoAveragesNest item parts →
      IsNestedAverage (combined_average (map average_of (answers_in round item parts)))
      (combined_average (map average_of (answers_in (round + 1) item parts)))
  pub exact : AreAveragesTold (map average_of (answers_in round item parts)) tables →
      TellsAverage (combined_average (map average_of (answers_in round item parts))) (shards.average_over tables)

abbrev pub CombinedAveragesAreCertain : Type 0
CombinedAveragesAreCertain =
    (item : ℕ) (shape : Shape) (parts : List Told) (tables : List (List ℤ)) (round : ℕ) → IsOfTotals shape →
    slice_get shape.kinds item ≡ Some Avg → slice_index_or shape.besides item None ≡ None → AreCertainAverages item parts tables →
    IsAverageIn round item shape parts tables

-- ---- averages beside which the sum and the number of their values are asked

-- these stand there; each part is certain of them, and the sum is written as the average's sums are
pub record AreCertainBeside (item : ℕ) (beside : Beside) (kinds : List ItemKind) (parts : List Told) (tables : List (List ℤ))
    : Type 0 where
  pub sum_there : slice_get kinds beside.sum ≡ Some Sum
  pub count_there : slice_get kinds beside.count ≡ Some Count
  pub sums : AreCertainOf beside.sum Sum parts tables
  pub counts : AreCertainOf beside.count Count parts tables
  pub alike : (round : ℕ) →
      AreAlike (answer_over Avg (answers_in round item parts) ∷ answer_over Sum (answers_in round beside.sum parts) ∷ [])

-- twice the sum and twice the number of the high end have room
abbrev pub HasRoomIn : ℕ → ℕ → Beside → List Told → Type 0
HasRoomIn round item beside parts =
    IsTrue (can_double (meet_of_two
    (average_from (bound_of (answer_over Sum (answers_in round beside.sum parts)))
    (bound_of (answer_over Count (answers_in round beside.count parts))))
    (average_of (answer_over Avg (answers_in round item parts)))).hi)

-- so many values are counted in 64 bits
abbrev pub IsCountedIn : ℕ → Beside → List Told → Type 0
IsCountedIn round beside parts = IsTrue (is_counted (bound_of (answer_over Count (answers_in round beside.count parts))))

-- what is printed contains the average over the rows of all parts together, the next round's lies within it where those of the parts do,
-- and it lies within the bound that the parts' averages give; one fraction alone is again their sum over the number of their values;
-- where each part says its sum and its number of values, it says those of all
pub record IsBesideIn (round item : ℕ) (beside : Beside) (shape : Shape) (parts : List Told) (tables : List (List ℤ)) : Type 0 where
  pub entry : Entry
  pub next : Entry
  pub printed : slice_get (printed_in round shape parts) item ≡ Some entry
  pub printed_next : slice_get (printed_in (round + 1) shape parts) item ≡ Some next
  pub contains : AdmitsAverage (average_of entry.answer) (shards.average_over tables)
  pub reports : HasRoomIn round item beside parts → ReportsAverage (average_of entry.answer) (shards.average_over tables)
  pub nests : DoAveragesNest item parts → IsNestedAverage (average_of entry.answer) (average_of next.answer)
  pub narrow : IsNestedAverage (combined_average (map average_of (answers_in round item parts))) (average_of entry.answer)
  pub exact : IsCountedIn round beside parts → AreTold Sum (map bound_of (answers_in round beside.sum parts)) tables →
      AreTold Count (map bound_of (answers_in round beside.count parts)) tables →
      TellsAverage (average_of entry.answer) (shards.average_over tables)

abbrev pub CombinedBesidesAreCertain : Type 0
CombinedBesidesAreCertain =
    (item : ℕ) (beside : Beside) (shape : Shape) (parts : List Told) (tables : List (List ℤ)) (round : ℕ) → IsOfTotals shape →
    slice_get shape.kinds item ≡ Some Avg → slice_index_or shape.besides item None ≡ Some beside → AreCertainAverages item parts tables →
    AreCertainBeside item beside shape.kinds parts tables → IsBesideIn round item beside shape parts tables

-- ---- the exact ends of an average, in the line behind

-- each block has that line, which contains the average and lies within that of the block before
pub record IsExactOf (item : ℕ) (told : Told) (values : List ℤ) : Type 0 where
  pub some : 0 < length told.blocks
  pub shown : (block : ℕ) → block < length told.blocks → is_some (extra_at block item told) ≡ true
  pub contains : (block : ℕ) → block < length told.blocks →
      AdmitsAverage (average_of (or_no_answer (extra_at block item told))) (average values)
  pub nests : (block : ℕ) → block + 1 < length told.blocks →
      IsNestedAverage (average_of (or_no_answer (extra_at block item told))) (average_of (or_no_answer (extra_at (block + 1) item told)))

abbrev pub AreExactOf : ℕ → List Told → List (List ℤ) → Type 0
AreExactOf item parts tables = OfEach (IsExactOf item) parts tables

-- the line is printed: from the least to the greatest of the parts' averages lies the average over the rows of all parts together, and the
-- next round's line lies within it
pub record IsExactIn (round item : ℕ) (shape : Shape) (parts : List Told) (tables : List (List ℤ)) : Type 0 where
  pub entry : Entry
  pub printed : slice_get (printed_in round shape parts) item ≡ Some entry
  pub is : entry.extra ≡ Some (exact_over (extras_in round item parts))
  pub contains : AdmitsAverage (hull_of_averages (map average_of (extras_in round item parts))) (shards.average_over tables)
  pub nests : IsNestedAverage (hull_of_averages (map average_of (extras_in round item parts)))
      (hull_of_averages (map average_of (extras_in (round + 1) item parts)))

abbrev pub CombinedExactAveragesAreCertain : Type 0
CombinedExactAveragesAreCertain =
    (item : ℕ) (shape : Shape) (parts : List Told) (tables : List (List ℤ)) (round : ℕ) → IsOfTotals shape →
    slice_get shape.kinds item ≡ Some Avg → AreExactOf item parts tables → IsExactIn round item shape parts tables
