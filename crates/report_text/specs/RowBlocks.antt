-- What the lines of a block of first rows have told so far, and which line comes next.
use Rattle.std.specs.Prelude.{◌≡◌, ◌⊎◌, ℕ, ◌<◌, ◌-◌, nat_lt, Bool, true, false, ◌&&◌, ◌||◌, not}
use Rattle.std.specs.Prelude.{List, [], ◌∷◌, ◌++◌, count_by, length, slice_get}
use Rattle.std.specs.declared.option.Option.{Option}
use Rattle.std.specs.declared.option.Option.TheVariants.{Some, None}
use Rattle.std.specs.Cmp.Lexicographic.{slice_cmp}
use Rattle.std.specs.Ordering.{is_eq, is_lt, nat_cmp}
use Rattle.report_text.specs.Rows.{IsShownRow, IsTopLine, row_line, skip_line, top_line}
use Rattle.report_text.specs.declared.row_blocks.RowsTop.{RowsTop}
use Rattle.report_text.specs.declared.row_blocks.RowsTop.TheVariants.{Counts, Skipped}
use Rattle.report_text.specs.declared.rows.RowLine.{RowLine}
use Rattle.report_text.specs.declared.rows.RowName.{RowName}
use Rattle.report_text.specs.declared.rows.TopLine.{TopLine}

-- what the line before the rows says, once it is read, and the rows
pub record RowsTold : Type 0 where
  pub top : Option RowsTop
  pub rows : List RowLine

abbrev pub no_rows : RowsTold
no_rows = record { top = None; rows = [] }

abbrev pub told_rows : RowsTop → List RowLine → RowsTold
told_rows top rows = record { top = Some top; rows = rows }

abbrev pub with_top : RowsTold → RowsTop → RowsTold
with_top told top = record { top = Some top; rows = told.rows }

abbrev pub with_row : RowsTold → RowLine → RowsTold
with_row told row = record { top = told.top; rows = told.rows ++ row ∷ [] }

-- the line before the rows
abbrev pub first_line : RowsTop → List ℕ
first_line (Counts top) = top_line top
first_line (Skipped limit) = skip_line limit

-- a report shows it
abbrev pub IsFirstLine : RowsTop → Type 0
IsFirstLine (Counts top) = IsTopLine top
IsFirstLine (Skipped limit) = Unit {0}

-- ---- the order of rows

-- a row of one table has no tag, as if it were empty
abbrev pub tag_bytes : Option (List ℕ) → List ℕ
tag_bytes None = []
tag_bytes (Some tag) = tag

-- by tags, and of one tag by numbers
abbrev pub comes_before : RowName → RowName → Bool
comes_before a b =
    is_lt (slice_cmp nat_cmp (tag_bytes a.tag) (tag_bytes b.tag))
    || (is_eq (slice_cmp nat_cmp (tag_bytes a.tag) (tag_bytes b.tag)) && nat_lt a.number b.number)

-- ---- the next line

-- how many rows there are, where so many are asked for
pub record IsNextTop (limit : ℕ) (told : RowsTold) (line : List ℕ) (top : TopLine) : Type 0 where
  pub first : told.top ≡ None
  pub is_top : IsTopLine top
  pub asked : top.limit ≡ limit
  pub is_line : top_line top ≡ line

-- of so many rows that are asked for none is judged, and none is listed
pub record IsSkip (limit : ℕ) (told : RowsTold) (line : List ℕ) : Type 0 where
  pub first : told.top ≡ None
  pub is_line : skip_line limit ≡ line

abbrev pub certain_rows : List RowLine → ℕ
certain_rows rows = count_by (λ row. row.certain) rows

abbrev pub possible_rows : List RowLine → ℕ
possible_rows rows = count_by (λ row. not row.certain) rows

-- the number of such rows is not reached yet
abbrev pub is_lacking : Option RowsTop → List RowLine → Bool → Bool
is_lacking None rows certain = false
is_lacking (Some (Skipped limit)) rows certain = false
is_lacking (Some (Counts top)) rows true = nat_lt (certain_rows rows) top.certain
is_lacking (Some (Counts top)) rows false = nat_lt (possible_rows rows) top.possible

-- the row comes behind the last of the others
abbrev pub is_behind : Option RowLine → RowName → Bool
is_behind None name = true
is_behind (Some last) name = comes_before last.name name

abbrev pub last_row : List RowLine → Option RowLine
last_row rows = slice_get rows (length rows - 1)

-- the next row, behind all others, and one of as many as there are
pub record IsNextRow (told : RowsTold) (line : List ℕ) (row : RowLine) : Type 0 where
  pub lacking : is_lacking told.top told.rows row.certain ≡ true
  pub is_shown : IsShownRow row
  pub is_line : row_line row ≡ line
  pub behind : is_behind (last_row told.rows) row.name ≡ true

-- the line tells how many rows there are, or the next of them, or that none is judged
abbrev pub TakesRows : ℕ → RowsTold → List ℕ → RowsTold → Type 0
TakesRows limit told line next =
    ((top : TopLine) × IsNextTop limit told line top × (next ≡ with_top told (Counts top)))
    ⊎ (((row : RowLine) × IsNextRow told line row × (next ≡ with_row told row))
    ⊎ (IsSkip limit told line × (next ≡ with_top told (Skipped limit))))

-- ---- the end of the block

-- none is judged, or there are as many rows as their numbers say
abbrev pub IsWholeBy : Option RowsTop → List RowLine → Type 0
IsWholeBy None rows = ⊥
IsWholeBy (Some (Skipped limit)) rows = Unit {0}
IsWholeBy (Some (Counts top)) rows = (certain_rows rows ≡ top.certain) × (possible_rows rows ≡ top.possible)

abbrev pub IsWhole : RowsTold → Type 0
IsWhole told = IsWholeBy told.top told.rows

-- there are possible rows, and none is listed
pub record LacksPossible (told : RowsTold) : Type 0 where
  pub top : TopLine
  pub is_told : told.top ≡ Some (Counts top)
  pub certain : certain_rows told.rows ≡ top.certain
  pub possible : 0 < top.possible
  pub none : possible_rows told.rows ≡ 0
