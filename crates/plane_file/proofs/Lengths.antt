-- How many bytes planes and files have.
use Rattle.std.proofs.Common.{◌≡◌, ℕ, zero, suc, ◌+◌, ◌*◌, ◌<◌, Bool, List, [], ◌∷◌, length, map, get_or, drop, refl, sym, ap, ◌∙◌, arith, length-append}
use Rattle.std.specs.Int.{w64, to_le_bytes}
use Rattle.std.specs.List.{flat_map, range_with_len}
use Rattle.std.proofs.Math.Nat.{mul-add}
use Rattle.std.proofs.lemmas.List.{length-map}
use Rattle.std.proofs.lemmas.List.Sums.{sum_by-cons}
use Rattle.daq_table.specs.Tables.{Cells, Contents, Frame, IsTable, ends_at, ends_of, frame_of, no_ends, planes}
use Rattle.daq_table.specs.declared.head.ColumnHead.{ColumnHead}
use Rattle.plane_kernels.specs.Bytes.{bytes_of_rows, word_count}
use Rattle.plane_kernels.specs.Words.{packed}
use Rattle.query_model.specs.Knowledge.{bit_at, plane_of}
use Rattle.plane_file.specs.Format.{column_planes, file, head_bytes, header_bytes, heads_bytes, plane_count, plane_size, planes_at, planes_bytes, file_size}

length-packed : (n : ℕ) (bits : List Bool) → length (packed n bits) ≡ n
length-packed zero bits = refl
length-packed (suc n) bits = ap suc (length-packed n (drop 64 bits))

-- eight bytes for each word
length-words : (words : List ℕ) → length (flat_map (to_le_bytes w64) words) ≡ 8 * length words
length-words [] = refl
length-words (word ∷ words) = omega (arith, length-words words)

pub length-bytes_of_rows : (rows : List Bool) → length (bytes_of_rows rows) ≡ plane_size (length rows)
length-bytes_of_rows rows =
    let words = word_count (length rows) in
    length-words (packed words rows) ∙ ap (λ n. 8 * n) (length-packed words rows)

-- as many pieces of one size
length-pieces : (f : ℕ → List ℕ) (size a n : ℕ) → ((j : ℕ) → length (f j) ≡ size) → length (flat_map f (range_with_len a n)) ≡ size * n
length-pieces f size a zero h = omega arith
length-pieces f size a (suc n) h =
    let first = h a in
    let rest = length-pieces f size (a + 1) n h in
    let both = length-append (f a) (flat_map f (range_with_len (a + 1) n)) in
    let one : suc n ≡ 1 + n = omega arith in
    let grown : size * suc n ≡ size * 1 + size * n = ap (λ k. size * k) one ∙ mul-add size 1 n in
    omega (arith, first, rest, both, grown)

-- the pieces of each column, as many as it has planes, of one size
length-columns : (f : ℕ → List ℕ) (size a : ℕ) (columns : List ColumnHead) →
    ((c : ℕ) → c < length columns → length (f (a + c)) ≡ size * planes (get_or (map ends_of columns) c no_ends)) →
    length (flat_map f (range_with_len a (length columns))) ≡ size * plane_count columns
length-columns f size a [] h = omega arith
length-columns f size a (column ∷ columns) h =
    let here : a + 0 ≡ a = omega arith in
    let first : length (f a) ≡ size * planes (ends_of column) = ap (λ k. length (f k)) (sym here) ∙ h 0 (omega arith) in
    let rest = length-columns f size (a + 1) columns (λ c lt. let past : a + 1 + c ≡ a + suc c = omega arith in ap (λ k. length (f k)) past ∙ h (suc c) (omega (arith, lt))) in
    let both = length-append (f a) (flat_map f (range_with_len (a + 1) (length columns))) in
    let count : plane_count (column ∷ columns) ≡ planes (ends_of column) + plane_count columns = sum_by-cons (λ c. planes (ends_of c)) column columns in
    both ∙ ap (λ n. n + length (flat_map f (range_with_len (a + 1) (length columns)))) first ∙ ap (λ n. size * planes (ends_of column) + n) rest
    ∙ sym (mul-add size (planes (ends_of column)) (plane_count columns)) ∙ ap (λ n. size * n) (sym count)

-- the planes of a column
pub length-column_planes : (frame : Frame) (cells : Cells) (c : ℕ) → length (get_or cells c []) ≡ frame.rows → length (column_planes frame cells c) ≡ plane_size frame.rows * planes (ends_at frame c)
length-column_planes frame cells c rows =
    length-pieces (λ j. bytes_of_rows (plane_of frame cells c j)) (plane_size frame.rows) 0 (planes (ends_at frame c))
    (λ j. length-bytes_of_rows (plane_of frame cells c j) ∙ ap plane_size (length-map (get_or cells c []) (bit_at (ends_at frame c) j) ∙ rows))

pub length-planes_bytes : (table : Contents) → IsTable (frame_of table.head) table.cells → length (planes_bytes table) ≡ plane_size table.head.rows * plane_count table.head.columns
length-planes_bytes table is =
    let frame = frame_of table.head in
    length-columns (column_planes frame table.cells) (plane_size table.head.rows) 0 table.head.columns
    (λ c lt. let here : 0 + c ≡ c = omega arith in
    ap (λ k. length (column_planes frame table.cells k)) here ∙ length-column_planes frame table.cells c (is.rows c (omega (arith, lt, length-map table.head.columns ends_of))))

-- the whole file
pub length-file : (version : ℕ) (table : Contents) → IsTable (frame_of table.head) table.cells → length (file version table) ≡ file_size table.head
length-file version table is =
    let whole = length-append (head_bytes version table.head) (planes_bytes table) in
    let head = length-append (header_bytes version table.head) (heads_bytes table.head.columns) in
    whole ∙ ap (λ n. n + length (planes_bytes table)) head ∙ ap (λ n. planes_at table.head + n) (length-planes_bytes table is)
