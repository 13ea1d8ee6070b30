-- What an engine stands for: a query, what is declared of its columns, and what is known of them. Nothing else decides what it answers.
use Rattle.std.specs.Prelude.{◌≡◌, ℕ, ◌+◌, ◌<◌, ◌≤◌, Bool, List, [], IsTrue, length, map, slice_index}
use Rattle.std.specs.List.{AllByRecursion, sum}
use Rattle.daq_table.specs.declared.table_head.Head.{Head}
use Rattle.daq_table.specs.Tables.{Frame, ends_at, frame_of, planes}
use Rattle.query_model.specs.Queries.{Aggregate, Query}
use Rattle.query_model.specs.declared.query.Shape.{Shape}
use Rattle.query_model.specs.declared.query.Shape.TheVariants.{Plain, Grouped, Top}
use Rattle.query_model.specs.Knowledge.{IsKnowledge, IsLegal, Knowledge, known_at, longer, start, taken}
use Rattle.query_model.specs.Meaning.{PredReadsBelow, ReadsBelow}
use Rattle.query_model.specs.Projection.{projected_frame}
use Rattle.query_model.specs.Validity.{FaceOf, FitsItem, no_repeats}

-- a query, the rows and the ends of its columns, and what is known of these
pub record Stage : Type 0 where
  pub query : Query
  pub frame : Frame
  pub known : Knowledge

-- nothing is read
abbrev pub opened : Query → Head → Stage
opened query head =
    record { query = query; frame = projected_frame query (frame_of head); known = start (projected_frame query (frame_of head)) }

-- after the next plane of a column, with these bits
abbrev pub stepped : Stage → ℕ → List Bool → Stage
stepped stage c bits = record { query = stage.query; frame = stage.frame; known = taken stage.known c bits }

-- a plane of the column is unread
pub record HasPlane (stage : Stage) (c : ℕ) : Type 0 where
  pub column : c < length stage.frame.columns
  pub unread : (known_at stage.known c).read < planes (ends_at stage.frame c)

-- with these bits as the column's next plane, the row's prefix stays that of some cell
abbrev pub StaysLegal : Stage → ℕ → List Bool → ℕ → Type 0
StaysLegal stage c bits row =
    IsLegal (ends_at stage.frame c) ((known_at stage.known c).read + 1) (slice_index (longer (known_at stage.known c).prefixes bits) row)

-- the row is the first whose prefix would be that of no cell
pub record IsFirstOver (stage : Stage) (c : ℕ) (bits : List Bool) (row : ℕ) : Type 0 where
  pub in_range : row < stage.frame.rows
  pub over : ¬ StaysLegal stage c bits row
  pub first : (r : ℕ) → r < row → StaysLegal stage c bits r

-- what an engine keeps of the validity of its query, for which it needs no head: numbers of columns are in range, and values and sums fit
pub record IsOpenItem (frame : Frame) (item : Aggregate) : Type 0 where
  pub columns : ReadsBelow (length frame.columns) item.arg
  pub face : FaceOf item.kind item.arg item.face
  pub fits : FitsItem frame item

-- the rows are grouped
abbrev pub IsGrouped : Shape → Type 0
IsGrouped Plain = ⊥
IsGrouped (Grouped columns) = Unit {0}
IsGrouped (Top key down limit) = ⊥

-- of the shape: group columns are different columns of few planes, a sort key is a column, and rows in an order have no items
abbrev pub IsOpenShape : Frame → Query → Shape → Type 0
IsOpenShape frame query Plain = Unit {0}
IsOpenShape frame query (Grouped columns) =
    AllByRecursion (λ c. c < length frame.columns) columns × IsTrue (no_repeats columns)
    × (sum (map (λ c. planes (ends_at frame c)) columns) ≤ 16)
IsOpenShape frame query (Top key down limit) = (key < length frame.columns) × (1 ≤ limit) × (limit ≤ 1000) × (query.items ≡ [])

pub record IsOpenQuery (query : Query) (frame : Frame) : Type 0 where
  pub columns : length frame.columns ≡ length query.columns
  pub few_columns : length query.columns ≤ 16
  pub few_items : length query.items ≤ 16
  pub few_rows : frame.rows ≤ 16777216
  pub condition : PredReadsBelow (length frame.columns) query.pred
  pub shape : IsOpenShape frame query query.shape
  pub items : AllByRecursion (IsOpenItem frame) query.items

-- the query is open over its columns, and for each row of each column some cell's prefix is known
pub record IsOpenStage (stage : Stage) : Type 0 where
  pub open_query : IsOpenQuery stage.query stage.frame
  pub knowledge : IsKnowledge stage.frame stage.known
