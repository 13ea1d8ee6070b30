-- The head of a column, read from where it is spelled.
use Rattle.std.proofs.Common.{◌≡◌, ℕ, ◌+◌, ◌%◌, ◌^◌, ◌≤◌, ◌<◌, ◌==◌, ℤ, pos, negsuc, ◌-ℤ◌, nat_abs, int_le, int_lt, Bool, true, false, cond, not, ◌&&◌, ◌||◌, None, List, [], ◌∷◌, ◌++◌, length, drop, refl, sym, ◌∙◌, arith, nat_le}
use Rattle.std.proofs.lemmas.Bool.{and_from, and_parts, eq-eqb, le-leb}
use Rattle.std.proofs.lemmas.Int.{ints}
use Rattle.std.specs.Int.{w32, to_le_bytes}
use Rattle.std.specs.List.{flat_map}
use Rattle.std.specs.Ordering.{int_eq}
use Rattle.daq_table.specs.ColumnFacts.{fits_names, is_empty}
use Rattle.daq_table.specs.HeadFacts.{fits_rows}
use Rattle.daq_table.specs.Tables.{binary_digits, ends_of, width}
use Rattle.daq_table.specs.declared.head.ColumnHead.{ColumnHead}
use Rattle.daq_table.specs.declared.head.Kind.{Kind}
use Rattle.daq_table.specs.declared.head.Kind.TheVariants.{Int, Dec, Date, Text}
use Rattle.plane_file.proofs.BackBytes.{behind, byte_back, number32_back, part_back, reaches_part, reaches_true, signed_spelled}
use Rattle.plane_file.proofs.ColumnFacts.{regroup}
use Rattle.plane_file.proofs.DictionaryFacts.{names_end_within}
use Rattle.plane_file.proofs.Faults.{first_fault-append_none}
use Rattle.plane_file.proofs.FieldFacts.{some_names}
use Rattle.plane_file.proofs.SpelledNames.{are_spelled, may_follow}
use Rattle.plane_file.specs.Checks.{base_at, byte_at, column_end, count_at, dictionary_at, fields_checks, first_fault, fits_base, fits_count, fits_top, has_base, has_count, has_kind, has_scale, has_title, has_title_length, has_top, has_width, is_kind_byte, is_new, kind_at, kind_from, names_checks, nullable_at, reaches, rows_in, title_at, top_at, version_in}
use Rattle.plane_file.specs.Format.{CanBeSpelledColumn, column_bytes, counted, fits_days, is_day, kind_byte, kind_number, scale_byte, signed_bytes}
use Rattle.plane_file.specs.Fronts.{IsColumnAt}

-- what stands in the fields of the head
record HasSpelled (bytes rest : List ℕ) (column : ColumnHead) (at : ℕ) : Type 0 where
  kind : byte_at bytes at ≡ kind_byte column
  scale : byte_at bytes (at + 1) ≡ scale_byte column.kind
  wide : byte_at bytes (at + 2) ≡ width (ends_of column)
  long : byte_at bytes (at + 3) ≡ length column.name
  base : base_at bytes at ≡ column.base
  top : top_at bytes at ≡ column.top
  count : count_at bytes at ≡ length column.names
  title : title_at bytes at ≡ column.name
  within : at + 24 + byte_at bytes (at + 3) ≤ length bytes
  names : drop (dictionary_at bytes at) bytes ≡ flat_map counted column.names ++ rest

has_spelled : (bytes rest : List ℕ) (column : ColumnHead) (at : ℕ) → CanBeSpelledColumn column → drop at bytes ≡ column_bytes column ++ rest → HasSpelled bytes rest column at
has_spelled bytes rest column at spelled e =
    let a = kind_byte column in
    let b = scale_byte column.kind in
    let c = width (ends_of column) in
    let d = length column.name in
    let dictionary = flat_map counted column.names ++ rest in
    let name = column.name ++ dictionary in
    let count = to_le_bytes w32 (length column.names) ++ name in
    let top = signed_bytes column.top ++ count in
    let base = signed_bytes column.base ++ top in
    let all : drop at bytes ≡ (a ∷ b ∷ c ∷ d ∷ []) ++ base = e ∙ regroup (a ∷ b ∷ c ∷ d ∷ []) (signed_bytes column.base) (signed_bytes column.top) (to_le_bytes w32 (length column.names)) column.name (flat_map counted column.names) rest in
    let second = behind bytes (a ∷ []) (b ∷ c ∷ d ∷ base) at 1 (at + 1) all refl refl in
    let third = behind bytes (a ∷ b ∷ []) (c ∷ d ∷ base) at 2 (at + 2) all refl refl in
    let fourth = behind bytes (a ∷ b ∷ c ∷ []) (d ∷ base) at 3 (at + 3) all refl refl in
    let fifth = behind bytes (a ∷ b ∷ c ∷ d ∷ []) base at 4 (at + 4) all refl refl in
    let sixth = behind bytes (signed_bytes column.base) top (at + 4) 8 (at + 12) fifth refl (omega arith) in
    let seventh = behind bytes (signed_bytes column.top) count (at + 12) 8 (at + 20) sixth refl (omega arith) in
    let eighth = behind bytes (to_le_bytes w32 (length column.names)) name (at + 20) 4 (at + 24) seventh refl (omega arith) in
    let long = byte_back bytes d base (at + 3) fourth in
    let few : length column.names < 2 ^ 32 = omega (arith, spelled.few) in
    let some : 1 ≤ length column.name = column.is_column.named.some in
    record {
      kind = byte_back bytes a (b ∷ c ∷ d ∷ base) at all;
      scale = byte_back bytes b (c ∷ d ∷ base) (at + 1) second;
      wide = byte_back bytes c (d ∷ base) (at + 2) third;
      long = long;
      base = signed_spelled bytes top (at + 4) column.base spelled.base fifth;
      top = signed_spelled bytes count (at + 12) column.top spelled.top sixth;
      count = number32_back bytes name (at + 20) (length column.names) few seventh;
      title = part_back bytes column.name dictionary (at + 24) (byte_at bytes (at + 3)) eighth (sym long);
      within = reaches_part bytes column.name dictionary (at + 24) (byte_at bytes (at + 3)) eighth (omega (arith, long)) (omega (arith, long, some));
      names = behind bytes column.name dictionary (at + 24) (length column.name) (dictionary_at bytes at) eighth refl (omega (arith, long));
    }

-- a kind out of its byte
kind_back : (kind : Kind) (nullable : Bool) → kind_from ((kind_number kind + cond nullable 128 0) % 128) (scale_byte kind) ≡ kind
kind_back Int true = refl
kind_back Int false = refl
kind_back (Dec scale) true = refl
kind_back (Dec scale) false = refl
kind_back Date true = refl
kind_back Date false = refl
kind_back Text true = refl
kind_back Text false = refl

nullable_back : (kind : Kind) (nullable : Bool) → nat_le 128 (kind_number kind + cond nullable 128 0) ≡ nullable
nullable_back Int true = refl
nullable_back Int false = refl
nullable_back (Dec scale) true = refl
nullable_back (Dec scale) false = refl
nullable_back Date true = refl
nullable_back Date false = refl
nullable_back Text true = refl
nullable_back Text false = refl

second_version : (two : Bool) → (two || false) ≡ true → (two && true && true) ≡ true
second_version true h = refl
second_version false h = absurd cc

byte_known : (version : ℕ) (kind : Kind) (nullable : Bool) → (version == 2 || not nullable) ≡ true → is_kind_byte version (kind_number kind + cond nullable 128 0) ≡ true
byte_known version Int true h = second_version (version == 2) h
byte_known version Int false h = refl
byte_known version (Dec scale) true h = second_version (version == 2) h
byte_known version (Dec scale) false h = refl
byte_known version Date true h = second_version (version == 2) h
byte_known version Date false h = refl
byte_known version Text true h = second_version (version == 2) h
byte_known version Text false h = refl

kind_there : (bytes rest : List ℕ) (column : ColumnHead) (at : ℕ) → HasSpelled bytes rest column at → kind_at bytes at ≡ column.kind
unfolding kind_at
kind_there bytes rest column at h = rw (h.kind, h.scale) (kind_back column.kind column.nullable)

nullable_there : (bytes rest : List ℕ) (column : ColumnHead) (at : ℕ) → HasSpelled bytes rest column at → nullable_at bytes at ≡ column.nullable
nullable_there bytes rest column at h = rw h.kind (nullable_back column.kind column.nullable)

-- what a field may have, out of what a head that can be spelled has
zero_low : (base : ℤ) → int_eq base (pos 0) ≡ true → int_le (pos 0) base ≡ true
zero_low (pos n) h = le-leb 0 n (omega arith)
zero_low (negsuc n) h = absurd cc

base_fits : (kind : Kind) (base top : ℤ) (names : List (List ℕ)) → fits_days kind base top ≡ true → fits_names kind base top names ≡ true → fits_base kind base ≡ true
base_fits Int base top names days fits = refl
base_fits (Dec scale) base top names days fits = refl
base_fits Date base top names days fits = (and_parts (is_day base) (is_day top) days).0
base_fits Text base top [] days fits = zero_low base (and_parts (int_eq base (pos 0)) (int_eq top (pos 0)) fits).0
base_fits Text base top (name ∷ names) days fits = (and_parts (int_le (pos 0) base) (int_lt top (pos (length (name ∷ names)))) fits).0

top_fits : (kind : Kind) (base top : ℤ) → fits_days kind base top ≡ true → fits_top kind top ≡ true
top_fits Int base top days = refl
top_fits (Dec scale) base top days = refl
top_fits Date base top days = (and_parts (is_day base) (is_day top) days).1
top_fits Text base top days = refl

none : (names : List (List ℕ)) → is_empty names ≡ true → (length names == 0) ≡ true
none [] h = refl
none (name ∷ names) h = absurd cc

count_fits : (kind : Kind) (rows : ℕ) (base top : ℤ) (names : List (List ℕ)) (nullable : Bool) → fits_names kind base top names ≡ true → fits_rows rows kind nullable names ≡ true
    → fits_count kind (length names) base top (nullable || rows == 0) ≡ true
count_fits Int rows base top names nullable fits all = none names fits
count_fits (Dec scale) rows base top names nullable fits all = none names fits
count_fits Date rows base top names nullable fits all = none names fits
count_fits Text rows base top [] nullable fits all = and_from (int_eq base (pos 0) && int_eq top (pos 0)) (nullable || rows == 0) fits all
count_fits Text rows base top (name ∷ names) nullable fits all =
    let below : int_lt top (pos (length (name ∷ names))) ≡ true = (and_parts (int_le (pos 0) base) (int_lt top (pos (length (name ∷ names)))) fits).1 in
    rw (some_names (length names)) below

-- what the file says of rows and version suits the column, and its name is new
pub record Suits (bytes : List ℕ) (titles : List (List ℕ)) (column : ColumnHead) : Type 0 where
  pub rows : fits_rows (rows_in bytes) column.kind column.nullable column.names ≡ true
  pub version : (version_in bytes == 2 || not column.nullable) ≡ true
  pub new : is_new titles column.name ≡ true

-- each check of a field
module _ (bytes rest : List ℕ) (titles : List (List ℕ)) (column : ColumnHead) (at : ℕ) (spelled : CanBeSpelledColumn column) (suits : Suits bytes titles column) (h : HasSpelled bytes rest column at) where
  there : (place count : ℕ) → place + count ≤ at + 24 → reaches bytes place count ≡ true
  there place count le = reaches_true bytes place count (omega (arith, le, h.within))

  kind_passes : has_kind bytes at ≡ true
  unfolding has_kind
  kind_passes = rw (there at 1 (omega arith), h.kind, byte_known (version_in bytes) column.kind column.nullable suits.version) refl

  scale_passes : has_scale bytes at ≡ true
  unfolding has_scale
  scale_passes = rw (there (at + 1) 1 (omega arith), kind_there bytes rest column at h, h.scale, eq-eqb (scale_byte column.kind) (scale_byte column.kind) refl, spelled.scale) refl

  title_length_passes : has_title_length bytes at ≡ true
  unfolding has_title_length
  title_length_passes =
      let named = column.is_column.named in
      rw (there (at + 3) 1 (omega arith), h.long, le-leb 1 (length column.name) named.some, le-leb (length column.name) 64 named.few) refl

  base_passes : has_base bytes at ≡ true
  unfolding has_base
  base_passes = rw (there (at + 4) 8 (omega arith), kind_there bytes rest column at h, h.base, base_fits column.kind column.base column.top column.names spelled.days column.is_column.fits) refl

  top_passes : has_top bytes at ≡ true
  unfolding has_top
  top_passes =
      let ordered = column.is_column.ordered in
      let test : int_le column.base column.top ≡ true = grind (arith, ints) in
      rw (there (at + 12) 8 (omega arith), kind_there bytes rest column at h, h.base, h.top, test, top_fits column.kind column.base column.top spelled.days) refl

  few_pass : nat_le (count_at bytes at) 65536 ≡ true
  few_pass = rw h.count (le-leb (length column.names) 65536 spelled.few)

  count_passes : has_count bytes at ≡ true
  unfolding has_count
  count_passes =
      rw (kind_there bytes rest column at h, nullable_there bytes rest column at h, h.base, h.top, h.count)
      (count_fits column.kind (rows_in bytes) column.base column.top column.names column.nullable column.is_column.fits suits.rows)

  width_passes : has_width bytes at ≡ true
  unfolding has_width
  width_passes = rw (h.base, h.top, h.wide) (eq-eqb (width (ends_of column)) (binary_digits (nat_abs (column.top -ℤ column.base))) refl)

  title_passes : has_title bytes titles at ≡ true
  unfolding has_title
  title_passes =
      let all : reaches bytes (at + 24) (byte_at bytes (at + 3)) ≡ true = reaches_true bytes (at + 24) (byte_at bytes (at + 3)) h.within in
      rw (all, h.title, spelled.named, suits.new) refl

  fields_pass : first_fault (fields_checks bytes titles at) ≡ None
  fields_pass =
      rw (kind_passes, scale_passes, title_length_passes, base_passes, top_passes, there (at + 20) 4 (omega arith), few_pass, count_passes, width_passes, title_passes) refl

-- the column stands where it is spelled, and what follows it is the rest
pub record Stands (bytes rest : List ℕ) (titles : List (List ℕ)) (column : ColumnHead) (at : ℕ) : Type 0 where
  pub is_at : IsColumnAt bytes titles at column (column_end bytes at)
  pub next : drop (column_end bytes at) bytes ≡ rest

pub stands : (bytes rest : List ℕ) (titles : List (List ℕ)) (column : ColumnHead) (at : ℕ) → CanBeSpelledColumn column → Suits bytes titles column → drop at bytes ≡ column_bytes column ++ rest
    → Stands bytes rest titles column at
stands bytes rest titles column at spelled suits e =
    let h = has_spelled bytes rest column at spelled e in
    let place = dictionary_at bytes at in
    let count = count_at bytes at in
    let names = are_spelled column.names bytes rest None place h.names spelled.texts column.is_column.ascending (first_may column.names) in
    let end : drop (column_end bytes at) bytes ≡ rest = rw h.count names.next in
    let passed : first_fault (names_checks count bytes None place) ≡ None = rw h.count names.passed in
    let within : column_end bytes at ≤ length bytes = names_end_within count bytes None place h.within passed in
    record {
      is_at = record {
        name = sym h.title;
        kind = sym (kind_there bytes rest column at h);
        nullable = sym (nullable_there bytes rest column at h);
        base = sym h.base;
        top = sym h.top;
        names = rw h.count (sym names.names_are);
        end_is = refl;
        within = within;
        passed = first_fault-append_none (fields_checks bytes titles at) (names_checks count bytes None place) (fields_pass bytes rest titles column at spelled suits h) ∙ passed;
      };
      next = end;
    }
  where
    first_may : (names : List (List ℕ)) → may_follow bytes None names ≡ true
    first_may [] = refl
    first_may (name ∷ names) = refl
