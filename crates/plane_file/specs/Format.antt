-- A file of planes, byte by byte: a header, the head of each column, and the planes of the columns. Numbers are little endian.
use Rattle.std.specs.Prelude.{◌≡◌, ℕ, ◌+◌, ◌*◌, ◌≤◌, ◌==◌, nat_le, ℤ, pos, neg_ℤ, int_le, Bool, true, cond}
use Rattle.std.specs.Prelude.{not, ◌&&◌, ◌||◌, List, [], ◌∷◌, ◌++◌, length, codes, slice_get, Some, FitsSigned, IsTrue}
use Rattle.std.specs.Int.{w32, w64, cast_unsigned, to_le_bytes}
use Rattle.std.specs.List.{flat_map, list_all, list_any, range_with_len, sum_by}
use Rattle.std.specs.Str.{is_utf8}
use Rattle.daq_table.specs.Schemas.{fits_scale, is_schema_name}
use Rattle.daq_table.specs.Tables.{Cells, Contents, Frame, IsTable, ends_at, ends_of, frame_of, planes, width}
use Rattle.daq_table.specs.declared.head.ColumnHead.{ColumnHead}
use Rattle.daq_table.specs.declared.head.Kind.{Kind}
use Rattle.daq_table.specs.declared.head.Kind.TheVariants.{Int, Dec, Date, Text}
use Rattle.daq_table.specs.declared.table_head.Head.{Head}
use Rattle.plane_kernels.specs.Bytes.{bytes_of_rows, word_count}
use Rattle.query_model.specs.Knowledge.{plane_of}

-- ---- heads

-- the number of a kind
abbrev pub kind_number : Kind → ℕ
kind_number Int = 0
kind_number (Dec scale) = 1
kind_number Date = 2
kind_number Text = 3

-- a column's kind, and 128 more where it is nullable
abbrev pub kind_byte : ColumnHead → ℕ
kind_byte column = kind_number column.kind + cond column.nullable 128 0

-- the decimals of a kind
abbrev pub scale_byte : Kind → ℕ
scale_byte Int = 0
scale_byte (Dec scale) = scale
scale_byte Date = 0
scale_byte Text = 0

-- a number with its sign, in two's complement
abbrev pub signed_bytes : ℤ → List ℕ
signed_bytes n = to_le_bytes w64 (cast_unsigned w64 n)

-- a text behind its length
abbrev pub counted : List ℕ → List ℕ
counted text = length text ∷ text

-- the first four bytes of the head of a column
abbrev pub first_bytes : ColumnHead → List ℕ
first_bytes column = kind_byte column ∷ scale_byte column.kind ∷ width (ends_of column) ∷ length column.name ∷ []

-- what stands before the name of a column: these four, base, top, and the number of its texts
abbrev pub numbers_bytes : ColumnHead → List ℕ
numbers_bytes column =
    first_bytes column
    ++ (signed_bytes column.base ++ (signed_bytes column.top ++ to_le_bytes w32 (length column.names)))

-- the head of a column: its numbers, its name, and its texts
abbrev pub column_bytes : ColumnHead → List ℕ
column_bytes column = numbers_bytes column ++ (column.name ++ flat_map counted column.names)

-- the heads of these columns, in order
abbrev pub heads_bytes : List ColumnHead → List ℕ
heads_bytes columns = flat_map column_bytes columns

-- the first 32 bytes: a mark, the version, and the numbers of columns, of rows, and of the bytes of all heads
abbrev pub header_bytes : ℕ → Head → List ℕ
header_bytes version head =
    codes "DAQPLANE" ++ (to_le_bytes w32 version ++ (to_le_bytes w32 (length head.columns)
    ++ (to_le_bytes w64 head.rows ++ to_le_bytes w64 (length (heads_bytes head.columns)))))

-- all that stands before the planes
abbrev pub head_bytes : ℕ → Head → List ℕ
head_bytes version head = header_bytes version head ++ heads_bytes head.columns

-- ---- planes

-- the bytes of a plane of so many rows: eight for each 64 rows
abbrev pub plane_size : ℕ → ℕ
plane_size rows = 8 * word_count rows

-- how many planes these columns have together
abbrev pub plane_count : List ColumnHead → ℕ
plane_count columns = sum_by (λ column. planes (ends_of column)) columns

-- the planes of a column, from the highest digit on
abbrev pub column_planes : Frame → Cells → ℕ → List ℕ
column_planes frame cells c = flat_map (λ j. bytes_of_rows (plane_of frame cells c j)) (range_with_len 0 (planes (ends_at frame c)))

-- the planes of all columns, column by column
abbrev pub planes_bytes : Contents → List ℕ
planes_bytes table = flat_map (column_planes (frame_of table.head) table.cells) (range_with_len 0 (length table.head.columns))

-- ---- the file

-- the file of a table
abbrev pub file : ℕ → Contents → List ℕ
file version table = head_bytes version table.head ++ planes_bytes table

-- the place of the first plane, and the size of the whole file
abbrev pub planes_at : Head → ℕ
planes_at head = 32 + length (heads_bytes head.columns)

abbrev pub file_size : Head → ℕ
file_size head = planes_at head + plane_size head.rows * plane_count head.columns

-- a number from that of 1 January 0000 to that of 31 December 9999
abbrev pub is_day : ℤ → Bool
is_day n = int_le (neg_ℤ (pos 719528)) n && int_le n (pos 2932896)

-- dates lie in the years 0000 to 9999
abbrev pub fits_days : Kind → ℤ → ℤ → Bool
fits_days Int base top = true
fits_days (Dec scale) base top = true
fits_days Date base top = is_day base && is_day top
fits_days Text base top = true

-- UTF-8 of at most 255 bytes
abbrev pub is_short_text : List ℕ → Bool
is_short_text text = nat_le (length text) 255 && is_utf8 text

-- the head of a column can be spelled
pub record CanBeSpelledColumn (column : ColumnHead) : Type 0 where
  pub named : IsTrue (is_schema_name column.name)
  pub scale : IsTrue (fits_scale column.kind)
  pub base : FitsSigned w64 column.base
  pub top : FitsSigned w64 column.top
  pub days : IsTrue (fits_days column.kind column.base column.top)
  pub few : length column.names ≤ 65536
  pub texts : IsTrue (list_all is_short_text column.names)

-- so can the head of each column
abbrev pub CanBeSpelledColumns : List ColumnHead → Type 0
CanBeSpelledColumns columns = (c : ℕ) (column : ColumnHead) → slice_get columns c ≡ Some column → CanBeSpelledColumn column

-- the head of a table can be spelled, and its cells are not too many
pub record CanBeSpelled (head : Head) : Type 0 where
  pub some : 1 ≤ length head.columns
  pub cells : head.rows * length head.columns ≤ 134217728
  pub each : CanBeSpelledColumns head.columns

-- version 1 has no nullable columns, and version 2 may have them
abbrev pub is_version : ℕ → Head → Bool
is_version version head = version == 2 || (version == 1 && not (list_any (λ column. column.nullable) head.columns))

-- these bytes are the file of the table in this version
pub record IsFileOf (bytes : List ℕ) (version : ℕ) (table : Contents) : Type 0 where
  pub is_table : IsTable (frame_of table.head) table.cells
  pub spelled : CanBeSpelled table.head
  pub known : IsTrue (is_version version table.head)
  pub same : bytes ≡ file version table
