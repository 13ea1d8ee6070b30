-- A column that passed its checks: its head can be spelled, and stands at its place.
use Rattle.std.proofs.Common.{◌≡◌, ℕ, ◌+◌, ◌≤◌, ◌==◌, ℤ, Bool, true, cond, not, ◌||◌, None, List, [], ◌∷◌, ◌++◌, length, drop, refl, sym, ap, ◌∙◌, arith, append_assoc}
use Rattle.std.specs.Int.{w32, to_le_bytes}
use Rattle.std.specs.List.{flat_map}
use Rattle.daq_table.specs.ColumnFacts.{IsColumn}
use Rattle.daq_table.specs.HeadFacts.{fits_rows}
use Rattle.daq_table.specs.Tables.{ends_of, planes, width}
use Rattle.daq_table.specs.declared.head.ColumnHead.{ColumnHead}
use Rattle.daq_table.specs.declared.head.Kind.{Kind}
use Rattle.plane_file.proofs.DictionaryFacts.{length-names_at, names_ascend, names_front, names_short}
use Rattle.plane_file.proofs.Faults.{passed-append}
use Rattle.plane_file.proofs.FieldFacts.{HasFields, days_fit, has_fields, kind_spelled, name_is, names_fit, rows_fit, version_fits}
use Rattle.plane_file.proofs.FrontBytes.{byte_front, length-part_at, number32_front, part_front, signed_fits, signed_front}
use Rattle.plane_file.specs.Bytes.{AreBytes}
use Rattle.plane_file.specs.Checks.{base_at, byte_at, column_end, count_at, dictionary_at, fields_checks, first_fault, kind_at, names_at, names_checks, nullable_at, rows_in, title_at, top_at, version_in, width_at}
use Rattle.plane_file.specs.Format.{CanBeSpelledColumn, column_bytes, counted, kind_byte, kind_number, scale_byte, signed_bytes}
use Rattle.plane_file.specs.Fronts.{IsColumnAt}

-- the fields make a column
pub is_column : (bytes : List ℕ) (titles : List (List ℕ)) (at : ℕ) (name : List ℕ) (kind : Kind) (base top : ℤ) (names : List (List ℕ)) → HasFields bytes titles at
    → first_fault (names_checks (count_at bytes at) bytes None (dictionary_at bytes at)) ≡ None
    → name ≡ title_at bytes at → kind ≡ kind_at bytes at → base ≡ base_at bytes at → top ≡ top_at bytes at → names ≡ names_at (count_at bytes at) bytes (dictionary_at bytes at)
    → IsColumn name kind base top names
is_column bytes titles at name kind base top names h e n-is k-is b-is t-is d-is =
    let count = count_at bytes at in
    let place = dictionary_at bytes at in
    record {
      named = rw n-is (name_is (title_at bytes at) h.title);
      ordered = rw (b-is, t-is) h.ordered;
      ascending = rw d-is (names_ascend count bytes None place e);
      fits = rw (k-is, b-is, t-is, d-is) (names_fit (kind_at bytes at) count bytes place (base_at bytes at) (top_at bytes at) (nullable_at bytes at || rows_in bytes == 0) h.count h.base);
    }

kind_byte_is : (bytes : List ℕ) (titles : List (List ℕ)) (at : ℕ) (kind : Kind) (nullable : Bool) → HasFields bytes titles at → kind ≡ kind_at bytes at → nullable ≡ nullable_at bytes at
    → kind_number kind + cond nullable 128 0 ≡ byte_at bytes at
unfolding kind_at
kind_byte_is bytes titles at kind nullable h e f = rw (e, f) (kind_spelled (version_in bytes) (byte_at bytes at) (byte_at bytes (at + 1)) h.kind)

-- the first bytes of a head are its numbers
numbers_front : (bytes : List ℕ) (at : ℕ) → AreBytes bytes → at + 24 ≤ length bytes
    → drop at bytes ≡ (byte_at bytes at ∷ byte_at bytes (at + 1) ∷ byte_at bytes (at + 2) ∷ byte_at bytes (at + 3) ∷ [])
    ++ (signed_bytes (base_at bytes at) ++ (signed_bytes (top_at bytes at) ++ (to_le_bytes w32 (count_at bytes at) ++ drop (at + 24) bytes)))
numbers_front bytes at fits le =
    let a = byte_front bytes at (at + 1) refl (omega arith) in
    let b = byte_front bytes (at + 1) (at + 2) (omega arith) (omega arith) in
    let c = byte_front bytes (at + 2) (at + 3) (omega arith) (omega arith) in
    let d = byte_front bytes (at + 3) (at + 4) (omega arith) (omega arith) in
    let f = signed_front bytes (at + 4) (at + 12) fits (omega arith) (omega arith) in
    let g = signed_front bytes (at + 12) (at + 20) fits (omega arith) (omega arith) in
    let h = number32_front bytes (at + 20) (at + 24) fits (omega arith) (omega arith) in
    let first = λ (t : List ℕ). byte_at bytes at ∷ t in
    let second = λ (t : List ℕ). first (byte_at bytes (at + 1) ∷ t) in
    let third = λ (t : List ℕ). second (byte_at bytes (at + 2) ∷ t) in
    let fourth = λ (t : List ℕ). third (byte_at bytes (at + 3) ∷ t) in
    let fifth = λ (t : List ℕ). fourth (signed_bytes (base_at bytes at) ++ t) in
    let sixth = λ (t : List ℕ). fifth (signed_bytes (top_at bytes at) ++ t) in
    a ∙ ap first b ∙ ap second c ∙ ap third d ∙ ap fourth f ∙ ap fifth g ∙ ap sixth h

-- the first numbers, and what stands behind them
pub regroup : (four base top count name names rest : List ℕ)
    → (four ++ (base ++ (top ++ count))) ++ (name ++ names) ++ rest ≡ four ++ (base ++ (top ++ (count ++ (name ++ (names ++ rest)))))
regroup four base top count name names rest = simp append_assoc

pub column_front : (bytes : List ℕ) (titles : List (List ℕ)) (at : ℕ) (column : ColumnHead) (end : ℕ) → AreBytes bytes → IsColumnAt bytes titles at column end
    → drop at bytes ≡ column_bytes column ++ drop end bytes
column_front bytes titles at column end fits c =
    let checks = passed-append (fields_checks bytes titles at) (names_checks (count_at bytes at) bytes None (dictionary_at bytes at)) c.passed in
    let h = has_fields bytes titles at checks.0 in
    let title = part_front bytes (at + 24) (byte_at bytes (at + 3)) (dictionary_at bytes at) refl in
    let names = names_front (count_at bytes at) bytes None (dictionary_at bytes at) checks.1 in
    let kind : kind_byte column ≡ byte_at bytes at = kind_byte_is bytes titles at column.kind column.nullable h c.kind c.nullable in
    let scale : scale_byte column.kind ≡ byte_at bytes (at + 1) = ap scale_byte c.kind ∙ sym h.scale_is in
    let wide : width (ends_of column) ≡ byte_at bytes (at + 2) = rw (c.base, c.top) (sym h.width) in
    let long : length column.name ≡ byte_at bytes (at + 3) = ap length c.name ∙ length-part_at bytes (at + 24) (byte_at bytes (at + 3)) h.within in
    let many : length column.names ≡ count_at bytes at = ap length c.names ∙ length-names_at (count_at bytes at) bytes (dictionary_at bytes at) in
    let four = byte_at bytes at ∷ byte_at bytes (at + 1) ∷ byte_at bytes (at + 2) ∷ byte_at bytes (at + 3) ∷ [] in
    let same : column_bytes column ≡ (four ++ (signed_bytes (base_at bytes at) ++ (signed_bytes (top_at bytes at) ++ to_le_bytes w32 (count_at bytes at)))) ++ (title_at bytes at ++ flat_map counted (names_at (count_at bytes at) bytes (dictionary_at bytes at))) =
    rw (kind, scale, wide, long, many, c.base, c.top, c.name, c.names) refl in
    let tail : drop (at + 24) bytes ≡ title_at bytes at ++ (flat_map counted (names_at (count_at bytes at) bytes (dictionary_at bytes at)) ++ drop (column_end bytes at) bytes) =
    title ∙ ap (λ (t : List ℕ). title_at bytes at ++ t) names in
    numbers_front bytes at fits (omega (arith, h.within))
    ∙ ap (λ (t : List ℕ). four ++ (signed_bytes (base_at bytes at) ++ (signed_bytes (top_at bytes at) ++ (to_le_bytes w32 (count_at bytes at) ++ t)))) tail
    ∙ sym (regroup four (signed_bytes (base_at bytes at)) (signed_bytes (top_at bytes at)) (to_le_bytes w32 (count_at bytes at)) (title_at bytes at) (flat_map counted (names_at (count_at bytes at) bytes (dictionary_at bytes at))) (drop (column_end bytes at) bytes))
    ∙ ap (λ (t : List ℕ). t ++ drop (column_end bytes at) bytes) (sym same) ∙ ap (λ (n : ℕ). column_bytes column ++ drop n bytes) (sym c.end_is)

-- what the checks say of the column
pub record IsGood (bytes : List ℕ) (titles : List (List ℕ)) (at : ℕ) (column : ColumnHead) : Type 0 where
  pub spelled : CanBeSpelledColumn column
  pub rows : fits_rows (rows_in bytes) column.kind column.nullable column.names ≡ true
  pub version : (version_in bytes == 2 || not column.nullable) ≡ true
  pub planes_are : planes (ends_of column) ≡ width_at bytes at + cond (nullable_at bytes at) 1 0

pub is_good : (bytes : List ℕ) (titles : List (List ℕ)) (at : ℕ) (column : ColumnHead) (end : ℕ) → AreBytes bytes → IsColumnAt bytes titles at column end → IsGood bytes titles at column
is_good bytes titles at column end fits c =
    let count = count_at bytes at in
    let place = dictionary_at bytes at in
    let checks = passed-append (fields_checks bytes titles at) (names_checks count bytes None place) c.passed in
    let h = has_fields bytes titles at checks.0 in
    let wide : width (ends_of column) ≡ width_at bytes at = rw (c.base, c.top) (sym h.width) in
    record {
      spelled = record {
        named = rw c.name h.title;
        scale = rw c.kind h.scale;
        base = rw c.base (signed_fits bytes (at + 4) fits);
        top = rw c.top (signed_fits bytes (at + 12) fits);
        days = rw (c.kind, c.base, c.top) (days_fit (kind_at bytes at) (base_at bytes at) (top_at bytes at) h.base h.top);
        few = rw (c.names, length-names_at count bytes place) h.few;
        texts = rw c.names (names_short count bytes None place fits checks.1);
      };
      rows = rw (c.kind, c.nullable, c.names) (rows_fit (kind_at bytes at) (rows_in bytes) count bytes place (base_at bytes at) (top_at bytes at) (nullable_at bytes at) h.count);
      version = rw c.nullable (version_fits (version_in bytes) (byte_at bytes at) h.kind);
      planes_are = rw (wide, c.nullable) refl;
    }
