-- Which fault the bytes of a file show: a table of checks, in the order of the format, and the first that fails.
-- No check asks that a column has the cells that its head allows: base and top need not occur, and a nullable column of
-- texts may be without names though cells of it are not null. These have the number 0, and their text is `-`.
use Rattle.std.specs.Prelude.{ℕ, zero, suc, ◌+◌, ◌*◌, ◌%◌, ◌==◌, nat_le, nat_lt, ℤ, pos, ◌-ℤ◌}
use Rattle.std.specs.Prelude.{nat_abs, int_le, int_lt, Bool, true, cond, not, ◌&&◌, ◌||◌, if◌then◌else◌, Option}
use Rattle.std.specs.Prelude.{Some, None, is_none, List, [], ◌∷◌, ◌++◌, length, map, take, drop, codes, slice_index}
use Rattle.std.specs.Cmp.Lexicographic.{slice_cmp}
use Rattle.std.specs.Int.{Width, w32, w64, cast_signed, from_le_bytes}
use Rattle.std.specs.List.{list_any}
use Rattle.std.specs.Ordering.{int_eq, is_lt, nat_cmp}
use Rattle.std.specs.Str.{bytes_eq, is_utf8}
use Rattle.daq_table.specs.Schemas.{fits_scale, is_schema_name}
use Rattle.daq_table.specs.Tables.{binary_digits}
use Rattle.daq_table.specs.declared.head.ColumnHead.{ColumnHead}
use Rattle.daq_table.specs.declared.head.Kind.{Kind}
use Rattle.daq_table.specs.declared.head.Kind.TheVariants.{Int, Dec, Date, Text}
use Rattle.plane_file.specs.Format.{is_day, plane_size, scale_byte}
use Rattle.plane_file.specs.declared.file_fault.FileFault.{FileFault}
use Rattle.plane_file.specs.declared.file_fault.FileFault.TheVariants.{BadMagic, UnknownVersion, BadHead, LimitPassed, WrongSize}

-- what must hold, and the fault of bytes where it does not
abbrev pub Check : Type 0
Check = Bool × FileFault

-- the fault of the first check that fails
abbrev pub first_fault : List Check → Option FileFault
first_fault [] = None
first_fault (check ∷ checks) = if check.0 then first_fault checks else Some check.1

-- ---- what stands at a place

unfoldable pub byte_at : List ℕ → ℕ → ℕ
byte_at bytes at = slice_index bytes at

-- a number of some width, its lowest byte first
unfoldable pub number_at : Width → List ℕ → ℕ → ℕ
number_at w bytes at = from_le_bytes w (drop at bytes)

-- eight bytes as a number with its sign
unfoldable pub signed_at : List ℕ → ℕ → ℤ
signed_at bytes at = cast_signed w64 (number_at w64 bytes at)

-- so many bytes
unfoldable pub part_at : List ℕ → ℕ → ℕ → List ℕ
part_at bytes at count = take count (drop at bytes)

-- so many bytes stand there
abbrev pub reaches : List ℕ → ℕ → ℕ → Bool
reaches bytes at count = nat_le (at + count) (length bytes)

-- ---- the header

abbrev pub version_in : List ℕ → ℕ
version_in bytes = number_at w32 bytes 8

abbrev pub columns_in : List ℕ → ℕ
columns_in bytes = number_at w32 bytes 12

abbrev pub rows_in : List ℕ → ℕ
rows_in bytes = number_at w64 bytes 16

-- the bytes of all heads of columns
abbrev pub heads_in : List ℕ → ℕ
heads_in bytes = number_at w64 bytes 24

abbrev pub header_checks : List ℕ → List Check
header_checks bytes =
    (bytes_eq (part_at bytes 0 8) (codes "DAQPLANE"), BadMagic)
    ∷ (version_in bytes == 1 || version_in bytes == 2, UnknownVersion (version_in bytes))
    ∷ (nat_lt 0 (columns_in bytes), BadHead 12)
    ∷ (nat_le (columns_in bytes) 64, LimitPassed 12)
    ∷ (nat_le (rows_in bytes) 16777216 && nat_le (rows_in bytes * columns_in bytes) 134217728, LimitPassed 16)
    ∷ (nat_le (heads_in bytes) 2147483648, LimitPassed 24)
    ∷ []

-- ---- the names of a dictionary

-- the name behind a length
abbrev pub name_at : List ℕ → ℕ → List ℕ
name_at bytes at = part_at bytes (at + 1) (byte_at bytes at)

-- the text comes after the name at a place, where there is one before it
abbrev pub is_next : List ℕ → Option ℕ → List ℕ → Bool
is_next bytes None text = true
is_next bytes (Some before) text = is_lt (slice_cmp nat_cmp (name_at bytes before) text)

-- a name stands at a place, and comes after the one before it
unfoldable pub is_name : List ℕ → Option ℕ → ℕ → Bool
is_name bytes before at =
    reaches bytes at 1 && reaches bytes (at + 1) (byte_at bytes at) && is_utf8 (name_at bytes at) && is_next bytes before (name_at bytes at)

-- so many names, from a place on; the name before the first stands at another, if at any
unfoldable pub names_checks : ℕ → List ℕ → Option ℕ → ℕ → List Check
names_checks zero bytes before at = []
names_checks (suc count) bytes before at =
    (is_name bytes before at, BadHead at) ∷ names_checks count bytes (Some at) (at + 1 + byte_at bytes at)

-- the names
unfoldable pub names_at : ℕ → List ℕ → ℕ → List (List ℕ)
names_at zero bytes at = []
names_at (suc count) bytes at = name_at bytes at ∷ names_at count bytes (at + 1 + byte_at bytes at)

-- the place behind them
unfoldable pub names_end : ℕ → List ℕ → ℕ → ℕ
names_end zero bytes at = at
names_end (suc count) bytes at = names_end count bytes (at + 1 + byte_at bytes at)

-- ---- the head of a column

-- in version 2 a nullable column has 128 more
abbrev pub is_kind_byte : ℕ → ℕ → Bool
is_kind_byte version byte = nat_lt byte 4 || (version == 2 && nat_le 128 byte && nat_lt byte 132)

-- the kind of that number, and with that many decimals where it has any
abbrev pub kind_from : ℕ → ℕ → Kind
kind_from number scale = if number == 0 then Int else (if number == 1 then Dec scale else (if number == 2 then Date else Text))

unfoldable pub kind_at : List ℕ → ℕ → Kind
kind_at bytes at = kind_from (byte_at bytes at % 128) (byte_at bytes (at + 1))

abbrev pub nullable_at : List ℕ → ℕ → Bool
nullable_at bytes at = nat_le 128 (byte_at bytes at)

abbrev pub width_at : List ℕ → ℕ → ℕ
width_at bytes at = byte_at bytes (at + 2)

abbrev pub base_at : List ℕ → ℕ → ℤ
base_at bytes at = signed_at bytes (at + 4)

abbrev pub top_at : List ℕ → ℕ → ℤ
top_at bytes at = signed_at bytes (at + 12)

-- the number of names of its dictionary
abbrev pub count_at : List ℕ → ℕ → ℕ
count_at bytes at = number_at w32 bytes (at + 20)

abbrev pub title_at : List ℕ → ℕ → List ℕ
title_at bytes at = part_at bytes (at + 24) (byte_at bytes (at + 3))

-- the place of its dictionary, and the place behind the head
abbrev pub dictionary_at : List ℕ → ℕ → ℕ
dictionary_at bytes at = at + 24 + byte_at bytes (at + 3)

abbrev pub column_end : List ℕ → ℕ → ℕ
column_end bytes at = names_end (count_at bytes at) bytes (dictionary_at bytes at)

-- the bound of a kind on a base alone, and on a top alone
abbrev pub fits_base : Kind → ℤ → Bool
fits_base Int base = true
fits_base (Dec scale) base = true
fits_base Date base = is_day base
fits_base Text base = int_le (pos 0) base

abbrev pub fits_top : Kind → ℤ → Bool
fits_top Int top = true
fits_top (Dec scale) top = true
fits_top Date top = is_day top
fits_top Text top = true

-- ranks lie below the number of names. Without names there is the one number 0, and the column must be free to have none
abbrev pub are_ranks_below : ℕ → ℤ → ℤ → Bool → Bool
are_ranks_below count base top empty =
    if count == 0 then int_eq base (pos 0) && int_eq top (pos 0) && empty else int_lt top (pos count)

-- a column of texts has as many names as its numbers need, and every other has none; told is whether it may be without
-- names: it is nullable, or there are no rows
abbrev pub fits_count : Kind → ℕ → ℤ → ℤ → Bool → Bool
fits_count Int count base top empty = count == 0
fits_count (Dec scale) count base top empty = count == 0
fits_count Date count base top empty = count == 0
fits_count Text count base top empty = are_ranks_below count base top empty

-- the name of a column differs from these
abbrev pub is_new : List (List ℕ) → List ℕ → Bool
is_new titles title = not (list_any (λ other. bytes_eq other title) titles)

-- the names of columns
abbrev pub titles_of : List ColumnHead → List (List ℕ)
titles_of columns = map (λ c. c.name) columns

unfoldable pub has_kind : List ℕ → ℕ → Bool
has_kind bytes at = reaches bytes at 1 && is_kind_byte (version_in bytes) (byte_at bytes at)

unfoldable pub has_scale : List ℕ → ℕ → Bool
has_scale bytes at = reaches bytes (at + 1) 1 && byte_at bytes (at + 1) == scale_byte (kind_at bytes at) && fits_scale (kind_at bytes at)

unfoldable pub has_title_length : List ℕ → ℕ → Bool
has_title_length bytes at = reaches bytes (at + 3) 1 && nat_le 1 (byte_at bytes (at + 3)) && nat_le (byte_at bytes (at + 3)) 64

unfoldable pub has_base : List ℕ → ℕ → Bool
has_base bytes at = reaches bytes (at + 4) 8 && fits_base (kind_at bytes at) (base_at bytes at)

unfoldable pub has_top : List ℕ → ℕ → Bool
has_top bytes at = reaches bytes (at + 12) 8 && int_le (base_at bytes at) (top_at bytes at) && fits_top (kind_at bytes at) (top_at bytes at)

unfoldable pub has_count : List ℕ → ℕ → Bool
has_count bytes at =
    fits_count (kind_at bytes at) (count_at bytes at) (base_at bytes at) (top_at bytes at) (nullable_at bytes at || rows_in bytes == 0)

unfoldable pub has_width : List ℕ → ℕ → Bool
has_width bytes at = width_at bytes at == binary_digits (nat_abs (top_at bytes at -ℤ base_at bytes at))

unfoldable pub has_title : List ℕ → List (List ℕ) → ℕ → Bool
has_title bytes titles at =
    reaches bytes (at + 24) (byte_at bytes (at + 3)) && is_schema_name (title_at bytes at) && is_new titles (title_at bytes at)

-- the fields of a column's head that begins at a place, behind columns of these names
abbrev pub fields_checks : List ℕ → List (List ℕ) → ℕ → List Check
fields_checks bytes titles at =
    (has_kind bytes at, BadHead at)
    ∷ (has_scale bytes at, BadHead (at + 1))
    ∷ (has_title_length bytes at, BadHead (at + 3))
    ∷ (has_base bytes at, BadHead (at + 4))
    ∷ (has_top bytes at, BadHead (at + 12))
    ∷ (reaches bytes (at + 20) 4, BadHead (at + 20))
    ∷ (nat_le (count_at bytes at) 65536, LimitPassed (at + 20))
    ∷ (has_count bytes at, BadHead (at + 20))
    ∷ (has_width bytes at, BadHead (at + 2))
    ∷ (has_title bytes titles at, BadHead (at + 24))
    ∷ []

-- the head of a column: its fields, and behind them the names of its dictionary
abbrev pub column_checks : List ℕ → List (List ℕ) → ℕ → List Check
column_checks bytes titles at = fields_checks bytes titles at ++ names_checks (count_at bytes at) bytes None (dictionary_at bytes at)

-- ---- all heads

-- so many heads, from that place on, behind columns of these names; nothing stands behind the last
unfoldable pub columns_checks : ℕ → List ℕ → List (List ℕ) → ℕ → List Check
columns_checks zero bytes titles at = (at == length bytes, BadHead at) ∷ []
columns_checks (suc count) bytes titles at =
    column_checks bytes titles at ++ columns_checks count bytes (titles ++ title_at bytes at ∷ []) (column_end bytes at)

-- the planes that they declare
unfoldable pub planes_in : ℕ → List ℕ → ℕ → ℕ
planes_in zero bytes at = 0
planes_in (suc count) bytes at = width_at bytes at + cond (nullable_at bytes at) 1 0 + planes_in count bytes (column_end bytes at)

-- the size of the file that begins with these bytes, which are all up to the first plane
abbrev pub size_declared : List ℕ → ℕ
size_declared front = length front + plane_size (rows_in front) * planes_in (columns_in front) front 32

-- what stands before the planes, in a file of that size
abbrev pub front_checks : List ℕ → ℕ → List Check
front_checks front size =
    columns_checks (columns_in front) front [] 32 ++ (size == size_declared front, WrongSize size (size_declared front)) ∷ []

-- ---- the file

-- the header and the heads of the columns
abbrev pub front_of : List ℕ → List ℕ
front_of bytes = part_at bytes 0 (32 + heads_in bytes)

-- all checks of a file, in order
abbrev pub file_checks : List ℕ → List Check
file_checks bytes =
    (nat_le 32 (length bytes), WrongSize (length bytes) 32)
    ∷ header_checks bytes
    ++ (nat_le (32 + heads_in bytes) (length bytes), WrongSize (length bytes) (32 + heads_in bytes))
    ∷ front_checks (front_of bytes) (length bytes)

-- the fault that the bytes show first; none where they begin with the head of a table, and have the size of its file
abbrev pub file_fault : List ℕ → Option FileFault
file_fault bytes = first_fault (file_checks bytes)

-- the checks of the header are passed, and the file has the size for the heads
abbrev pub has_header : List ℕ → Bool
has_header bytes = is_none (first_fault (header_checks bytes)) && nat_le (32 + heads_in bytes) (length bytes)

-- how many bytes may be read of a file that is refused: none where its size is below 32, all up to the first plane
-- where it has a header, and else the first 32
abbrev pub readable : List ℕ → ℕ
readable bytes = if nat_lt (length bytes) 32 then 0 else (if has_header bytes then 32 + heads_in bytes else 32)
