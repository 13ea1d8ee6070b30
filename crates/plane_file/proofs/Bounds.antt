-- Heads that can be spelled are short.
use Rattle.std.proofs.Common.{◌≡◌, ℕ, suc, ◌*◌, ◌≤◌, Some, List, [], ◌∷◌, ◌++◌, length, refl, arith, length-append, nat_le, IsTrue}
use Rattle.std.proofs.lemmas.Bool.{and_parts}
use Rattle.std.proofs.lemmas.Bool.Decides.{nat_tests}
use Rattle.std.specs.List.{flat_map, list_all}
use Rattle.std.specs.Prelude.{slice_get}
use Rattle.std.specs.Str.{is_utf8}
use Rattle.daq_table.specs.declared.head.ColumnHead.{ColumnHead}
use Rattle.plane_file.specs.Format.{CanBeSpelledColumn, column_bytes, counted, heads_bytes, is_short_text, numbers_bytes}

-- at most 256 bytes for each text
short_texts : (texts : List (List ℕ)) → IsTrue (list_all is_short_text texts) → length (flat_map counted texts) ≤ 256 * length texts
short_texts [] h = omega arith
short_texts (text ∷ texts) h =
    let all = and_parts (is_short_text text) (list_all is_short_text texts) h in
    let short = and_parts (nat_le (length text) 255) (is_utf8 text) all.0 in
    let test = short.0 in
    let few : length text ≤ 255 = grind (arith, nat_tests) in
    omega (arith, few, short_texts texts all.1, length-append (counted text) (flat_map counted texts))

short_column : (column : ColumnHead) → CanBeSpelledColumn column → length (column_bytes column) ≤ 16777304
short_column column spelled =
    let names = length-append column.name (flat_map counted column.names) in
    let all = length-append (numbers_bytes column) (column.name ++ flat_map counted column.names) in
    omega (arith, all, names, short_texts column.names spelled.texts, spelled.few, column.is_column.named.few)

pub short_heads : (columns : List ColumnHead) → ((c : ℕ) (column : ColumnHead) → slice_get columns c ≡ Some column → CanBeSpelledColumn column) →
    length (heads_bytes columns) ≤ 16777304 * length columns
short_heads [] h = omega arith
short_heads (column ∷ columns) h =
    let first = short_column column (h 0 column refl) in
    let rest = short_heads columns (λ c other e. h (suc c) other e) in
    omega (arith, first, rest, length-append (column_bytes column) (heads_bytes columns))
