-- The fields of a column's head that passed their checks.
use Rattle.std.proofs.Common.{◌≡◌, ℕ, zero, suc, ◌+◌, ◌%◌, ◌≤◌, ◌<◌, ◌==◌, ℤ, pos, ◌≤ℤ◌, ◌-ℤ◌, nat_abs, int_le, int_lt, Bool, true, false, cond, not, ◌&&◌, ◌||◌, Option, Some, None, List, length, refl, ap, arith, add-zero, inl, inr, nat_le, nat_lt}
use Rattle.std.proofs.lemmas.Bool.{and_from, and_parts, eqb-true, le-leb, leb-true, lt-leb, ltb-true, ne_eqb, or_cases, or_left, or_right}
use Rattle.std.proofs.lemmas.Int.{ints}
use Rattle.std.specs.List.{list_all}
use Rattle.std.specs.Ordering.{int_eq}
use Rattle.daq_table.specs.ColumnFacts.{IsName, are_ranks, fits_names, is_empty}
use Rattle.daq_table.specs.HeadFacts.{fits_rows}
use Rattle.daq_table.specs.Schemas.{fits_scale, is_name_byte, is_schema_name}
use Rattle.daq_table.specs.Tables.{binary_digits}
use Rattle.daq_table.specs.declared.head.Kind.{Kind}
use Rattle.daq_table.specs.declared.head.Kind.TheVariants.{Int, Dec, Date, Text}
use Rattle.plane_file.proofs.DictionaryFacts.{length-names_at}
use Rattle.plane_file.specs.Checks.{are_ranks_below, base_at, byte_at, count_at, fields_checks, first_fault, fits_base, fits_count, fits_top, has_base, has_count, has_kind, has_scale, has_title, has_top, has_width, is_kind_byte, is_new, kind_at, kind_from, names_at, nullable_at, reaches, rows_in, title_at, top_at, version_in, width_at}
use Rattle.plane_file.specs.Format.{fits_days, is_day, kind_number, scale_byte}
use Rattle.plane_file.specs.declared.file_fault.FileFault.{FileFault}

-- what the checks of the fields say
pub record HasFields (bytes : List ℕ) (titles : List (List ℕ)) (at : ℕ) : Type 0 where
  pub kind : is_kind_byte (version_in bytes) (byte_at bytes at) ≡ true
  pub scale_is : byte_at bytes (at + 1) ≡ scale_byte (kind_at bytes at)
  pub scale : fits_scale (kind_at bytes at) ≡ true
  pub base : fits_base (kind_at bytes at) (base_at bytes at) ≡ true
  pub ordered : base_at bytes at ≤ℤ top_at bytes at
  pub top : fits_top (kind_at bytes at) (top_at bytes at) ≡ true
  pub few : count_at bytes at ≤ 65536
  pub count : fits_count (kind_at bytes at) (count_at bytes at) (base_at bytes at) (top_at bytes at) (nullable_at bytes at || rows_in bytes == 0) ≡ true
  pub width : width_at bytes at ≡ binary_digits (nat_abs (top_at bytes at -ℤ base_at bytes at))
  pub within : at + 24 + byte_at bytes (at + 3) ≤ length bytes
  pub title : is_schema_name (title_at bytes at) ≡ true
  pub new : is_new titles (title_at bytes at) ≡ true

tested : (holds : Bool) (rest : Option FileFault) (why : FileFault) → cond holds rest (Some why) ≡ None → (holds ≡ true) × (rest ≡ None)
tested true rest why e = (refl, e)
tested false rest why e = absurd cc

pub has_fields : (bytes : List ℕ) (titles : List (List ℕ)) (at : ℕ) → first_fault (fields_checks bytes titles at) ≡ None → HasFields bytes titles at
unfolding has_kind has_scale has_base has_top has_count has_width has_title
has_fields bytes titles at e =
    let a = tested _ _ _ e in
    let b = tested _ _ _ a.1 in
    let c = tested _ _ _ b.1 in
    let d = tested _ _ _ c.1 in
    let f = tested _ _ _ d.1 in
    let g = tested _ _ _ f.1 in
    let h = tested _ _ _ g.1 in
    let i = tested _ _ _ h.1 in
    let j = tested _ _ _ i.1 in
    let k = tested _ _ _ j.1 in
    let scale = and_parts (reaches bytes (at + 1) 1 && byte_at bytes (at + 1) == scale_byte (kind_at bytes at)) (fits_scale (kind_at bytes at)) b.0 in
    let top = and_parts (reaches bytes (at + 12) 8 && int_le (base_at bytes at) (top_at bytes at)) (fits_top (kind_at bytes at) (top_at bytes at)) f.0 in
    let ordered : int_le (base_at bytes at) (top_at bytes at) ≡ true = (and_parts (reaches bytes (at + 12) 8) (int_le (base_at bytes at) (top_at bytes at)) top.0).1 in
    let ends = reaches bytes (at + 24) (byte_at bytes (at + 3)) in
    let title = and_parts (ends && is_schema_name (title_at bytes at)) (is_new titles (title_at bytes at)) k.0 in
    let both = and_parts ends (is_schema_name (title_at bytes at)) title.0 in
    record {
      kind = (and_parts (reaches bytes at 1) (is_kind_byte (version_in bytes) (byte_at bytes at)) a.0).1;
      scale_is = eqb-true (byte_at bytes (at + 1)) (scale_byte (kind_at bytes at)) (and_parts (reaches bytes (at + 1) 1) (byte_at bytes (at + 1) == scale_byte (kind_at bytes at)) scale.0).1;
      scale = scale.1;
      base = (and_parts (reaches bytes (at + 4) 8) (fits_base (kind_at bytes at) (base_at bytes at)) d.0).1;
      ordered = omega (arith, ints, ordered);
      top = top.1;
      few = leb-true (count_at bytes at) 65536 h.0;
      count = i.0;
      width = eqb-true (width_at bytes at) (binary_digits (nat_abs (top_at bytes at -ℤ base_at bytes at))) j.0;
      within = leb-true (at + 24 + byte_at bytes (at + 3)) (length bytes) both.0;
      title = both.1;
      new = title.1;
    }

pub name_is : (name : List ℕ) → is_schema_name name ≡ true → IsName name
name_is name h =
    let lengths = (and_parts (nat_le 1 (length name) && nat_le (length name) 64) (list_all is_name_byte name) h).0 in
    let both = and_parts (nat_le 1 (length name)) (nat_le (length name) 64) lengths in
    record { some = leb-true 1 (length name) both.0; few = leb-true (length name) 64 both.1 }

empty_names : (count : ℕ) (bytes : List ℕ) (place : ℕ) → (count == 0) ≡ true → is_empty (names_at count bytes place) ≡ true
unfolding names_at
empty_names zero bytes place h = refl
empty_names (suc count) bytes place h = let e = eqb-true (suc count) 0 h in absurd (omega arith)

pub some_names : (count : ℕ) → (suc count == 0) ≡ false
some_names count = ne_eqb (suc count) 0 (λ e. absurd (omega arith))

ranks_are : (count : ℕ) (bytes : List ℕ) (place : ℕ) (base top : ℤ) (empty : Bool) → are_ranks_below count base top empty ≡ true → int_le (pos 0) base ≡ true → are_ranks base top (names_at count bytes place) ≡ true
unfolding names_at
ranks_are zero bytes place base top empty h low = (and_parts (int_eq base (pos 0) && int_eq top (pos 0)) empty h).0
ranks_are (suc count) bytes place base top empty h low =
    let below : int_lt top (pos (length (names_at (suc count) bytes place))) ≡ true = rw (length-names_at (suc count) bytes place) (rw (some_names count) at h) in
    and_from (int_le (pos 0) base) (int_lt top (pos (length (names_at (suc count) bytes place)))) low below

pub names_fit : (kind : Kind) (count : ℕ) (bytes : List ℕ) (place : ℕ) (base top : ℤ) (empty : Bool) → fits_count kind count base top empty ≡ true → fits_base kind base ≡ true
    → fits_names kind base top (names_at count bytes place) ≡ true
names_fit Int count bytes place base top empty h low = empty_names count bytes place h
names_fit (Dec scale) count bytes place base top empty h low = empty_names count bytes place h
names_fit Date count bytes place base top empty h low = empty_names count bytes place h
names_fit Text count bytes place base top empty h low = ranks_are count bytes place base top empty h low

no_rows : (count : ℕ) (bytes : List ℕ) (place : ℕ) (base top : ℤ) (nullable none : Bool) → are_ranks_below count base top (nullable || none) ≡ true → (not (is_empty (names_at count bytes place)) || nullable || none) ≡ true
unfolding names_at
no_rows zero bytes place base top nullable none h = (and_parts (int_eq base (pos 0) && int_eq top (pos 0)) (nullable || none) h).1
no_rows (suc count) bytes place base top nullable none h = refl

pub rows_fit : (kind : Kind) (rows count : ℕ) (bytes : List ℕ) (place : ℕ) (base top : ℤ) (nullable : Bool) → fits_count kind count base top (nullable || rows == 0) ≡ true
    → fits_rows rows kind nullable (names_at count bytes place) ≡ true
rows_fit Int rows count bytes place base top nullable h = refl
rows_fit (Dec scale) rows count bytes place base top nullable h = refl
rows_fit Date rows count bytes place base top nullable h = refl
rows_fit Text rows count bytes place base top nullable h = no_rows count bytes place base top nullable (rows == 0) h

pub days_fit : (kind : Kind) (base top : ℤ) → fits_base kind base ≡ true → fits_top kind top ≡ true → fits_days kind base top ≡ true
days_fit Int base top low high = refl
days_fit (Dec scale) base top low high = refl
days_fit Date base top low high = and_from (is_day base) (is_day top) low high
days_fit Text base top low high = refl

-- a kind by its number
small : (n scale : ℕ) → n < 4 → kind_number (kind_from n scale) ≡ n
small zero scale lt = refl
small (suc zero) scale lt = refl
small (suc (suc zero)) scale lt = refl
small (suc (suc (suc zero))) scale lt = refl
small (suc (suc (suc (suc n)))) scale lt = absurd (omega arith)

low_byte : (byte scale : ℕ) → byte < 4 → kind_number (kind_from (byte % 128) scale) + cond (nat_le 128 byte) 128 0 ≡ byte
low_byte byte scale lt =
    let same : byte % 128 ≡ byte = omega arith in
    let low : nat_le 128 byte ≡ false = lt-leb 128 byte (omega arith) in
    rw (same, low, add-zero) (small byte scale lt)

high_byte : (byte scale : ℕ) → 128 ≤ byte → byte < 132 → kind_number (kind_from (byte % 128) scale) + cond (nat_le 128 byte) 128 0 ≡ byte
high_byte byte scale le lt =
    let high : nat_le 128 byte ≡ true = le-leb 128 byte le in
    let number = small (byte % 128) scale (omega arith) in
    rw (high, number) (omega arith)

-- the byte of a kind tells its number, and whether the column is nullable
pub kind_spelled : (version byte scale : ℕ) → is_kind_byte version byte ≡ true → kind_number (kind_from (byte % 128) scale) + cond (nat_le 128 byte) 128 0 ≡ byte
kind_spelled version byte scale h =
    elim (or_cases (nat_lt byte 4) (version == 2 && nat_le 128 byte && nat_lt byte 132) h) [
      | inl low ↦ low_byte byte scale (ltb-true byte 4 low)
      | inr high ↦ (let below = and_parts (version == 2 && nat_le 128 byte) (nat_lt byte 132) high in
          high_byte byte scale (leb-true 128 byte (and_parts (version == 2) (nat_le 128 byte) below.0).1) (ltb-true byte 132 below.1))
    ]

-- in version 1 no column is nullable
pub version_fits : (version byte : ℕ) → is_kind_byte version byte ≡ true → (version == 2 || not (nat_le 128 byte)) ≡ true
version_fits version byte h =
    elim (or_cases (nat_lt byte 4) (version == 2 && nat_le 128 byte && nat_lt byte 132) h) [
      | inl low ↦ (let small : byte < 4 = ltb-true byte 4 low in let plain : nat_le 128 byte ≡ false = lt-leb 128 byte (omega arith) in or_right (version == 2) (not (nat_le 128 byte)) (ap not plain))
      | inr high ↦ or_left (version == 2) (not (nat_le 128 byte)) (and_parts (version == 2) (nat_le 128 byte) (and_parts (version == 2 && nat_le 128 byte) (nat_lt byte 132) high).0).0
    ]
