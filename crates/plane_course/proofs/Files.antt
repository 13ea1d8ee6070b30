-- The planes of a table in its file.
use Rattle.std.proofs.Common.{◌≡◌, ℕ, zero, suc, ◌+◌, ◌*◌, ◌<◌, ◌≤◌, List, [], ◌∷◌, ◌++◌, length, map, take, drop, get_or, sym, ap, subst, ◌∙◌, arith, append_assoc, length-append}
use Rattle.std.proofs.Math.Nat.{mul-add}
use Rattle.std.proofs.Math.Seq.{drop-append_seam, take-append_seam}
use Rattle.std.proofs.lemmas.List.{length-map}
use Rattle.std.specs.List.{flat_map, range_with_len}
use Rattle.daq_table.specs.Tables.{Contents, Frame, IsTable, ends_at, ends_of, frame_of, no_ends, planes}
use Rattle.daq_table.specs.declared.head.ColumnHead.{ColumnHead}
use Rattle.plane_file.proofs.Lengths.{length-bytes_of_rows, length-column_planes}
use Rattle.plane_file.specs.Format.{column_planes, file, head_bytes, header_bytes, heads_bytes, plane_count, plane_size, planes_at}
use Rattle.plane_file.specs.Places.{plane_at, plane_in}
use Rattle.plane_kernels.specs.Bytes.{bytes_of_rows}
use Rattle.query_model.specs.Knowledge.{bit_at, plane_of}
use Rattle.query_model.specs.Worlds.{NamesColumns}
use Rattle.query_model.specs.declared.query.TypedQuery.{TypedQuery}
use Rattle.plane_schedule.specs.declared.policy.Plan.{Plan}
use Rattle.table_rounds.proofs.Listing.{all_at}
use Rattle.table_rounds.proofs.Reached.{columns_of_part, ends_there, reads_after}
use Rattle.table_rounds.specs.Rounds.{AreRounds, HasPlanes, counts_after}
use Rattle.plane_course.specs.Told.{FilesHaveTheirPlanes, FilesTellPlanes, bits_at, rows_in}
use Rattle.plane_course.proofs.Placed.{count_cons}
use Rattle.plane_course.proofs.RowsBack.{rows_back}

-- ---- pieces, one after the other

-- some of them, one, and those behind it
split_at : (f : ℕ → List ℕ) (a n c : ℕ) → c < n → (rest : List ℕ) × (flat_map f (range_with_len a n) ≡ flat_map f (range_with_len a c) ++ (f (a + c) ++ rest))
split_at f a zero c h = absurd (omega (arith, h))
split_at f a (suc n) zero h = let here : a ≡ a + 0 = omega arith in (flat_map f (range_with_len (a + 1) n), ap (λ k. f k ++ flat_map f (range_with_len (a + 1) n)) here)
split_at f a (suc n) (suc c) h =
    let (rest, e) = split_at f (a + 1) n c (omega (arith, h)) in
    let past : a + 1 + c ≡ a + suc c = omega arith in (
      rest,
      ap (λ l. f a ++ l) e ∙ sym (append_assoc (f a) (flat_map f (range_with_len (a + 1) c)) (f (a + 1 + c) ++ rest))
          ∙ ap (λ k. (f a ++ flat_map f (range_with_len (a + 1) c)) ++ (f k ++ rest)) past,
    )

-- pieces of one size
length_of_pieces : (f : ℕ → List ℕ) (size a n : ℕ) → ((k : ℕ) → k < n → length (f (a + k)) ≡ size) → length (flat_map f (range_with_len a n)) ≡ size * n
length_of_pieces f size a zero h = omega arith
length_of_pieces f size a (suc n) h =
    let here : a + 0 ≡ a = omega arith in
    let first : length (f a) ≡ size = ap (λ k. length (f k)) (sym here) ∙ h 0 (omega arith) in
    let rest = length_of_pieces f size (a + 1) n (λ k lt. let past : a + 1 + k ≡ a + suc k = omega arith in ap (λ i. length (f i)) past ∙ h (suc k) (omega (arith, lt))) in
    let both = length-append (f a) (flat_map f (range_with_len (a + 1) n)) in
    let one : suc n ≡ 1 + n = omega arith in
    let grown : size * suc n ≡ size * 1 + size * n = ap (λ k. size * k) one ∙ mul-add size 1 n in
    omega (arith, first, rest, both, grown)

-- the pieces of the first columns, in each as many of one size as it has planes
length_of_columns : (f : ℕ → List ℕ) (size a : ℕ) (columns : List ColumnHead) (n : ℕ) → n ≤ length columns →
    ((k : ℕ) → k < n → length (f (a + k)) ≡ size * planes (get_or (map ends_of columns) k no_ends)) → length (flat_map f (range_with_len a n)) ≡ size * plane_count (take n columns)
length_of_columns f size a columns zero le h = omega arith
length_of_columns f size a [] (suc n) le h = absurd (omega (arith, le))
length_of_columns f size a (column ∷ columns) (suc n) le h =
    let here : a + 0 ≡ a = omega arith in
    let first : length (f a) ≡ size * planes (ends_of column) = ap (λ k. length (f k)) (sym here) ∙ h 0 (omega arith) in
    let rest = length_of_columns f size (a + 1) columns n (omega (arith, le)) (λ k lt. let past : a + 1 + k ≡ a + suc k = omega arith in ap (λ i. length (f i)) past ∙ h (suc k) (omega (arith, lt))) in
    let both = length-append (f a) (flat_map f (range_with_len (a + 1) n)) in
    both ∙ ap (λ m. m + length (flat_map f (range_with_len (a + 1) n))) first ∙ ap (λ m. size * planes (ends_of column) + m) rest
    ∙ sym (mul-add size (planes (ends_of column)) (plane_count (take n columns))) ∙ ap (λ m. size * m) (sym (count_cons column (take n columns)))

-- what stands between two parts
between : (xs ys zs : List ℕ) (n m : ℕ) → n ≡ length xs → m ≡ length ys → take m (drop n (xs ++ (ys ++ zs))) ≡ ys
between xs ys zs n m first second = ap (λ k. take m (drop k (xs ++ (ys ++ zs)))) first ∙ ap (take m) (drop-append_seam xs (ys ++ zs)) ∙ ap (λ k. take k (ys ++ zs)) second ∙ take-append_seam ys zs

-- ---- the file

module _ (version : ℕ) (table : Contents) (is : IsTable (frame_of table.head) table.cells) where
  abbrev frame : Frame
  frame = frame_of table.head

  abbrev size : ℕ
  size = plane_size table.head.rows

  abbrev plane_bytes : ℕ → ℕ → List ℕ
  plane_bytes c j = bytes_of_rows (plane_of frame table.cells c j)

  column_rows : (c : ℕ) → c < length table.head.columns → length (get_or table.cells c []) ≡ table.head.rows
  column_rows c h = is.rows c (omega (arith, h, length-map table.head.columns ends_of))

  plane_rows : (c j : ℕ) → c < length table.head.columns → length (plane_of frame table.cells c j) ≡ table.head.rows
  plane_rows c j h = length-map (get_or table.cells c []) (bit_at (ends_at frame c) j) ∙ column_rows c h

  plane_length : (c j : ℕ) → c < length table.head.columns → length (plane_bytes c j) ≡ size
  plane_length c j h = length-bytes_of_rows (plane_of frame table.cells c j) ∙ ap plane_size (plane_rows c j h)

  -- a plane stands at its place
  plane_there : (c j : ℕ) → c < length table.head.columns → j < planes (ends_at frame c) → plane_in table.head c j (file version table) ≡ plane_bytes c j
  plane_there c j h lt =
      let (after_column, e) = split_at (column_planes frame table.cells) 0 (length table.head.columns) c h in
      let (after_plane, d) = split_at (plane_bytes c) 0 (planes (ends_at frame c)) j lt in
      let head = head_bytes version table.head in
      let columns = flat_map (column_planes frame table.cells) (range_with_len 0 c) in
      let plane_pieces = flat_map (plane_bytes c) (range_with_len 0 j) in
      let zero_c : 0 + c ≡ c = omega arith in
      let zero_j : 0 + j ≡ j = omega arith in
      let plane = plane_bytes c j in
      let all : file version table ≡ (head ++ (columns ++ plane_pieces)) ++ (plane ++ (after_plane ++ after_column)) =
      ap (λ l. head ++ l) (e ∙ ap (λ k. columns ++ (column_planes frame table.cells k ++ after_column)) zero_c
      ∙ ap (λ l. columns ++ (l ++ after_column)) (d ∙ ap (λ k. plane_pieces ++ (plane_bytes c k ++ after_plane)) zero_j)
      ∙ ap (λ l. columns ++ l) (append_assoc plane_pieces (plane ++ after_plane) after_column ∙ ap (λ l. plane_pieces ++ l) (append_assoc plane after_plane after_column))
      ∙ sym (append_assoc columns plane_pieces (plane ++ (after_plane ++ after_column))))
      ∙ sym (append_assoc head (columns ++ plane_pieces) (plane ++ (after_plane ++ after_column))) in
      let head_long : length head ≡ planes_at table.head = length-append (header_bytes version table.head) (heads_bytes table.head.columns) in
      let columns_long = length_of_columns (column_planes frame table.cells) size 0 table.head.columns c (omega (arith, h)) (λ k below.
      let here : 0 + k ≡ k = omega arith in
      ap (λ i. length (column_planes frame table.cells i)) here ∙ length-column_planes frame table.cells k (column_rows k (omega (arith, h, below)))) in
      let planes_long = length_of_pieces (plane_bytes c) size 0 j (λ k below. let here : 0 + k ≡ k = omega arith in ap (λ i. length (plane_bytes c i)) here ∙ plane_length c k h) in
      let grown = mul-add size (plane_count (take c table.head.columns)) j in
      let front : plane_at table.head c j ≡ length (head ++ (columns ++ plane_pieces)) =
      omega (arith, length-append head (columns ++ plane_pieces), length-append columns plane_pieces, head_long, columns_long, planes_long, grown) in
      ap (λ l. take size (drop (plane_at table.head c j) l)) all
      ∙ between (head ++ (columns ++ plane_pieces)) plane (after_plane ++ after_column) (plane_at table.head c j) size front (sym (plane_length c j h))

  -- and its bits are those that are told
  told_there : (c j : ℕ) → c < length table.head.columns → j < planes (ends_at frame c) → bits_at table.head (file version table) c j ≡ plane_of frame table.cells c j
  told_there c j h lt =
      ap (rows_in table.head.rows) (plane_there c j h lt) ∙ ap (λ n. rows_in n (plane_bytes c j)) (sym (plane_rows c j h)) ∙ rows_back (plane_of frame table.cells c j)

  -- so the table has the planes that rounds read
  has_planes : (plan : Plan) (query : TypedQuery) (reads : List ℕ) → NamesColumns query frame → AreRounds plan query frame (bits_at table.head (file version table)) reads →
      HasPlanes query frame (bits_at table.head (file version table)) (counts_after query reads (length reads)) table.cells
  has_planes plan query reads named rounds =
      let counts = reads_after plan query frame (bits_at table.head (file version table)) reads rounds (length reads) (omega arith) in
      record {
        table = is;
        same = λ c j h lt. (let inside : get_or query.columns c 0 < length table.head.columns =
            subst (λ n. get_or query.columns c 0 < n) (length-map table.head.columns ends_of) (all_at (λ i. i < length frame.columns) query.columns c named.in_range h) in
            let few = counts.few c (omega (arith, h, columns_of_part query frame)) in
            let unread : j < planes (ends_at frame (get_or query.columns c 0)) = subst (λ ends. j < planes ends) (sym (ends_there query frame c h)) (omega (arith, lt, few)) in
            sym (told_there (get_or query.columns c 0) j inside unread));
      }

pub files_tell_planes : FilesTellPlanes
files_tell_planes version table c j is h lt = told_there version table is c j h lt

pub files_have_their_planes : FilesHaveTheirPlanes
files_have_their_planes version table plan query reads is named rounds = has_planes version table is plan query reads named rounds
