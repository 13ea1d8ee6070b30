-- Bytes show one fault at most, and the file of a table none.
use Rattle.std.proofs.Common.{◌≡◌, ℕ, zero, suc, ◌+◌, ◌-◌, ◌<◌, ◌≤◌, ◌⊎◌, Bool, List, [], ◌++◌, length, map, take, drop, get_or, refl, sym, ap, subst, ◌∙◌, arith, inl, inr, Option, Some, None, length-append, append_assoc, append-nil}
use Rattle.std.specs.List.{flat_map, range_with_len}
use Rattle.std.proofs.Math.Nat.{mul-add}
use Rattle.std.proofs.lemmas.Bool.{cases_lt}
use Rattle.std.proofs.lemmas.List.{drop-drop, drop_at, get_or-map, length-map, take_at}
use Rattle.daq_table.specs.Tables.{Cell, Cells, Contents, IsTable, ends_at, ends_of, frame_of, planes}
use Rattle.daq_table.specs.declared.table_head.Head.{Head}
use Rattle.plane_kernels.specs.Bytes.{HasPadBits, bytes_of_rows}
use Rattle.plane_kernels.proofs.BytesLaws.{have_no_pad_bits, of_one_list}
use Rattle.query_model.specs.Knowledge.{IsLegal, bit_at, longer, plane_of, prefix_of}
use Rattle.query_model.proofs.Blocks.{prefix_legal}
use Rattle.known_column.specs.Columns.{IsFirstOver, KnownColumn}
use Rattle.plane_file.specs.Checks.{file_fault}
use Rattle.plane_file.specs.ColumnReading.{AreCells}
use Rattle.plane_file.specs.Format.{IsFileOf, column_planes, head_bytes, header_bytes, heads_bytes, plane_size, planes_at, planes_bytes}
use Rattle.plane_file.specs.Laws.{FilesShowNoFault, ShowOneFault}
use Rattle.plane_file.specs.Opening.{IsFileHead}
use Rattle.plane_file.specs.Places.{plane_at, plane_in}
use Rattle.plane_file.specs.TableReading.{AgreesBefore, HasHeadWith, HaveColumns, HavePlanes, IsFirstIllegal, IsFirstPadded, IsIllegalPlane, IsPaddedPlane, IsPlane, ShowsFault, known_by}
use Rattle.plane_file.specs.declared.file_fault.FileFault.{FileFault}
use Rattle.plane_file.specs.declared.plane_fault.PlaneFault.TheVariants.{Fault, PadBits, WentShort}
use Rattle.plane_file.specs.declared.table_fault.TableReadFault.{TableReadFault}
use Rattle.plane_file.specs.declared.table_fault.TableReadFault.TheVariants.{File, Plane, OverTop, NoMemory}
use Rattle.plane_file.proofs.Lengths.{length-bytes_of_rows, length-column_planes}
use Rattle.plane_file.proofs.OneHead.{file_head, one_head}
use Rattle.plane_file.proofs.OneTable.{longer-map, same_prefixes}
use Rattle.plane_file.proofs.Parts.{pieces_about, pieces_more}
use Rattle.plane_file.proofs.PlanePlaces.{place_in_column, place_of_column, place_of_next}
use Rattle.plane_file.proofs.SpelledHead.{faultless}

-- ---- planes that cells have

-- this plane, and those before it in its column, are those of cells
record HasPlane (head : Head) (bytes : List ℕ) (column plane : ℕ) : Type 0 where
  cells : List Cell
  are_cells : AreCells head column cells
  have : HavePlanes head bytes column (plane + 1) cells

-- such a plane is not padded
not_padded : (head : Head) (bytes : List ℕ) (column plane : ℕ) (bits : List Bool) → length bits ≡ head.rows → bytes_of_rows bits ≡ plane_in head column plane bytes → IsPaddedPlane head bytes column plane → ⊥
not_padded head bytes column plane bits rows here pad =
    have_no_pad_bits bits pad.0 (subst (λ n. HasPadBits n 0 (bytes_of_rows bits) pad.0) (sym rows) (subst (λ (l : List ℕ). HasPadBits head.rows 0 l pad.0) (sym here) pad.1))

module _ (head : Head) (bytes : List ℕ) (column plane : ℕ) (is : IsPlane head column plane) where
  as_long : (cells : List Cell) (k : ℕ) → AreCells head column cells → length (map (bit_at (ends_at (frame_of head) column) k) cells) ≡ head.rows
  as_long cells k are = length-map cells (bit_at (ends_at (frame_of head) column) k) ∙ are.rows

  never_padded : IsPaddedPlane head bytes column plane → HasPlane head bytes column plane → ⊥
  never_padded pad has =
      not_padded head bytes column plane (map (bit_at (ends_at (frame_of head) column) plane) has.cells) (as_long has.cells plane has.are_cells) (has.have plane (omega arith)) pad

  -- cells with the same planes have the same prefixes
  prefixes_same : (xs ys : List Cell) → AreCells head column xs → AreCells head column ys → HavePlanes head bytes column plane xs → HavePlanes head bytes column plane ys →
      map (prefix_of (ends_at (frame_of head) column) plane) xs ≡ map (prefix_of (ends_at (frame_of head) column) plane) ys
  prefixes_same xs ys are are' have have' =
      same_prefixes (ends_at (frame_of head) column) xs ys plane (are.rows ∙ sym are'.rows) (λ r lt. are.within r (omega (arith, lt, are.rows))) (λ r lt. are'.within r (omega (arith, lt, are'.rows)))
      (omega (arith, is.is_plane))
      (λ k lt. of_one_list (map (bit_at (ends_at (frame_of head) column) k) ys) (map (bit_at (ends_at (frame_of head) column) k) xs) (as_long xs k are ∙ sym (as_long ys k are')) (have k lt ∙ sym (have' k lt)))

  never_illegal : (row : ℕ) (cells : List Cell) → AreCells head column cells → HavePlanes head bytes column plane cells → IsIllegalPlane head bytes column plane row cells → HasPlane head bytes column plane → ⊥
  never_illegal row cells are have bad has =
      let ends = ends_at (frame_of head) column in
      let bits : bad.bits ≡ map (bit_at ends plane) has.cells =
      of_one_list (map (bit_at ends plane) has.cells) bad.bits (bad.rows ∙ sym (as_long has.cells plane has.are_cells)) (bad.bits_are ∙ sym (has.have plane (omega arith))) in
      let before = prefixes_same cells has.cells are has.are_cells have (λ k lt. has.have k (omega (arith, lt))) in
      let after : longer (map (prefix_of ends plane) cells) bad.bits ≡ map (prefix_of ends (plane + 1)) has.cells =
      ap (λ ps. longer ps bad.bits) before ∙ ap (longer (map (prefix_of ends plane) has.cells)) bits ∙ longer-map ends plane has.cells is.is_plane in
      let row_in : row < head.rows = omega (arith, bad.over.in_range, length-map cells (prefix_of ends plane), are.rows) in
      let there : get_or (longer (map (prefix_of ends plane) cells) bad.bits) row 0 ≡ prefix_of ends (plane + 1) (get_or has.cells row (Some 0)) =
      ap (λ ps. get_or ps row 0) after ∙ get_or-map (prefix_of ends (plane + 1)) has.cells row (Some 0) 0 (omega (arith, row_in, has.are_cells.rows)) in
      bad.over.over (subst (IsLegal ends (plane + 1)) (sym there) (prefix_legal ends (plane + 1) (get_or has.cells row (Some 0)) (has.are_cells.within row row_in)))

  -- the first row with an illegal prefix is one
  row_same : (row other : ℕ) (xs ys : List Cell) → AreCells head column xs → AreCells head column ys → HavePlanes head bytes column plane xs → HavePlanes head bytes column plane ys →
      IsIllegalPlane head bytes column plane row xs → IsIllegalPlane head bytes column plane other ys → row ≡ other
  row_same row other xs ys are are' have have' bad bad' =
      let ends = ends_at (frame_of head) column in
      let bits : bad'.bits ≡ bad.bits = of_one_list bad.bits bad'.bits (bad'.rows ∙ sym bad.rows) (bad'.bits_are ∙ sym bad.bits_are) in
      let over : IsFirstOver (known_by ends plane xs) bad.bits other =
      subst (λ (b : List Bool). IsFirstOver (known_by ends plane xs) b other) bits
      (subst (λ ps. IsFirstOver (record { ends = ends; known = record { read = plane; prefixes = ps } }) bad'.bits other) (sym (prefixes_same xs ys are are' have have')) bad'.over) in
      first_same row other (known_by ends plane xs) bad.bits bad.over over
    where
      first_same : (row other : ℕ) (column : KnownColumn) (bits : List Bool) → IsFirstOver column bits row → IsFirstOver column bits other → row ≡ other
      first_same row other column bits a b = elim (cases_lt row other) [
        | inl less ↦ absurd (a.over (b.first row less))
        | inr past ↦ elim (cases_lt other row) [
          | inl more ↦ absurd (b.over (a.first other more))
          | inr le ↦ omega (arith, past, le)
        ]
      ]

-- ---- planes of tables

table_cells : (head : Head) (cells : Cells) (column : ℕ) → IsTable (frame_of head) cells → column < length head.columns → AreCells head column (get_or cells column [])
table_cells head cells column is lt =
    let there : column < length (frame_of head).columns = omega (arith, lt, length-map head.columns ends_of) in
    record { rows = is.rows column there; within = λ row row_in. is.within column row there row_in }

-- plane k of column d stands before plane j of column c
abbrev Earlier : ℕ → ℕ → ℕ → ℕ → Type 0
Earlier d k c j = (d < c) ⊎ ((d ≡ c) × (k < j))

-- the planes before one are those of cells
earlier_plane : (head : Head) (bytes : List ℕ) (d k c j : ℕ) (cells : Cells) → IsPlane head d k → Earlier d k c j → AgreesBefore head bytes c j cells → HasPlane head bytes d k
earlier_plane head bytes d k c j cells is (inl less) agrees = record {
  cells = get_or cells d [];
  are_cells = table_cells head cells d agrees.is_table is.is_column;
  have = λ plane lt. agrees.before d less plane (omega (arith, lt, is.is_plane));
}
earlier_plane head bytes d k c j cells is (inr (same, less)) agrees = record {
  cells = get_or cells d [];
  are_cells = table_cells head cells d agrees.is_table is.is_column;
  have = λ plane lt. subst (λ e. HavePlanes head bytes e j (get_or cells e [])) (sym same) agrees.first plane (omega (arith, lt, less));
}

-- the planes before one are those of a table, and it is that of no table
record IsFaultAt (head : Head) (bytes : List ℕ) (column plane : ℕ) : Type 0 where
  is_plane : IsPlane head column plane
  cells : Cells
  agrees : AgreesBefore head bytes column plane cells
  never : HasPlane head bytes column plane → ⊥

padded_at : (head : Head) (bytes : List ℕ) (column plane : ℕ) → IsFirstPadded head bytes column plane → IsFaultAt head bytes column plane
padded_at head bytes column plane f = record { is_plane = f.is_plane; cells = f.cells; agrees = f.agrees; never = never_padded head bytes column plane f.is_plane f.padded }

illegal_at : (head : Head) (bytes : List ℕ) (column plane row : ℕ) → IsFirstIllegal head bytes column plane row → IsFaultAt head bytes column plane
illegal_at head bytes column plane row f = record {
  is_plane = f.is_plane;
  cells = f.cells;
  agrees = f.agrees;
  never = never_illegal head bytes column plane f.is_plane row (get_or f.cells column []) (table_cells head f.cells column f.agrees.is_table f.is_plane.is_column) f.agrees.first f.illegal;
}

same_place : (head : Head) (bytes : List ℕ) (c j d k : ℕ) → IsFaultAt head bytes c j → IsFaultAt head bytes d k → (c ≡ d) × (j ≡ k)
same_place head bytes c j d k a b = by (cases_lt c d) (cases_lt d c) (cases_lt j k) (cases_lt k j)
  where
    before : Earlier c j d k → ⊥
    before e = a.never (earlier_plane head bytes c j d k b.cells a.is_plane e b.agrees)

    behind : Earlier d k c j → ⊥
    behind e = b.never (earlier_plane head bytes d k c j a.cells b.is_plane e a.agrees)

    by : (c < d) ⊎ (d ≤ c) → (d < c) ⊎ (c ≤ d) → (j < k) ⊎ (k ≤ j) → (k < j) ⊎ (j ≤ k) → (c ≡ d) × (j ≡ k)
    by (inl less) x y z = absurd (before (inl less))
    by (inr p) (inl more) y z = absurd (behind (inl more))
    by (inr p) (inr q) (inl less) z = absurd (before (inr (omega (arith, p, q), less)))
    by (inr p) (inr q) (inr s) (inl more) = absurd (behind (inr (omega (arith, p, q), more)))
    by (inr p) (inr q) (inr s) (inr t) = (omega (arith, p, q), omega (arith, s, t))

-- ---- one fault

no_fault : (bytes : List ℕ) (why : FileFault) (version : ℕ) (head : Head) → file_fault bytes ≡ Some why → IsFileHead bytes version head → ⊥
no_fault bytes why version head e begins = apart (sym e ∙ faultless bytes version head begins)
  where
    apart : ◌≡◌ {A = Option FileFault} (Some why) None → ⊥
    apart e = cc

-- two facts of the head of some bytes are of one head
with_one_head : (bytes : List ℕ) (P Q : Head → Type 0) → HasHeadWith bytes P → HasHeadWith bytes Q → (head : Head) × P head × Q head
with_one_head bytes P Q a b = (a.head, a.holds, subst Q (sym (one_head bytes a.version b.version a.head b.head a.begins b.begins).1) b.holds)

padded_same : (head : Head) (bytes : List ℕ) (c j d k : ℕ) → IsFirstPadded head bytes c j → IsFirstPadded head bytes d k → Plane (PadBits c j) ≡ Plane (PadBits d k)
padded_same head bytes c j d k a b =
    let same = same_place head bytes c j d k (padded_at head bytes c j a) (padded_at head bytes d k b) in
    ap (λ n. Plane (PadBits n j)) same.0 ∙ ap (λ n. Plane (PadBits d n)) same.1

never_both : (head : Head) (bytes : List ℕ) (c j d k row : ℕ) → IsFirstPadded head bytes c j → IsFirstIllegal head bytes d k row → ⊥
never_both head bytes c j d k row a b =
    let same = same_place head bytes c j d k (padded_at head bytes c j a) (illegal_at head bytes d k row b) in
    not_padded head bytes d k b.illegal.bits b.illegal.rows b.illegal.bits_are (subst (λ n. IsPaddedPlane head bytes d n) same.1 (subst (λ n. IsPaddedPlane head bytes n j) same.0 a.padded))

illegal_same : (head : Head) (bytes : List ℕ) (c j row d k other : ℕ) → IsFirstIllegal head bytes c j row → IsFirstIllegal head bytes d k other → OverTop c j row ≡ OverTop d k other
illegal_same head bytes c j row d k other a b =
    let same = same_place head bytes c j d k (illegal_at head bytes c j row a) (illegal_at head bytes d k other b) in
    let b' : IsFirstIllegal head bytes c j other = subst (λ n. IsFirstIllegal head bytes c n other) (sym same.1) (subst (λ n. IsFirstIllegal head bytes n k other) (sym same.0) b) in
    let rows = row_same head bytes c j a.is_plane row other (get_or a.cells c []) (get_or b'.cells c []) (table_cells head a.cells c a.agrees.is_table a.is_plane.is_column)
    (table_cells head b'.cells c b'.agrees.is_table b'.is_plane.is_column) a.agrees.first b'.agrees.first a.illegal b'.illegal in
    ap (λ n. OverTop n j row) same.0 ∙ ap (λ n. OverTop d n row) same.1 ∙ ap (OverTop d k) rows

pub show_one_fault : ShowOneFault
show_one_fault bytes (File why) (File other) s t = ap File (inside (sym s ∙ t))
  where
    inside : ◌≡◌ {A = Option FileFault} (Some why) (Some other) → why ≡ other
    inside e = cc
show_one_fault bytes (File why) (Plane (PadBits d k)) s t = absurd (no_fault bytes why t.version t.head s t.begins)
show_one_fault bytes (File why) (Plane Fault) s t = absurd t
show_one_fault bytes (File why) (Plane WentShort) s t = absurd t
show_one_fault bytes (File why) (OverTop d k row) s t = absurd (no_fault bytes why t.version t.head s t.begins)
show_one_fault bytes (File why) NoMemory s t = absurd t
show_one_fault bytes (Plane (PadBits c j)) (File other) s t = absurd (no_fault bytes other s.version s.head t s.begins)
show_one_fault bytes (Plane (PadBits c j)) (Plane (PadBits d k)) s t =
    let both = with_one_head bytes (λ head. IsFirstPadded head bytes c j) (λ head. IsFirstPadded head bytes d k) s t in padded_same both.0 bytes c j d k both.1 both.2
show_one_fault bytes (Plane (PadBits c j)) (Plane Fault) s t = absurd t
show_one_fault bytes (Plane (PadBits c j)) (Plane WentShort) s t = absurd t
show_one_fault bytes (Plane (PadBits c j)) (OverTop d k row) s t =
    let both = with_one_head bytes (λ head. IsFirstPadded head bytes c j) (λ head. IsFirstIllegal head bytes d k row) s t in absurd (never_both both.0 bytes c j d k row both.1 both.2)
show_one_fault bytes (Plane (PadBits c j)) NoMemory s t = absurd t
show_one_fault bytes (Plane Fault) other s t = absurd s
show_one_fault bytes (Plane WentShort) other s t = absurd s
show_one_fault bytes (OverTop c j row) (File other) s t = absurd (no_fault bytes other s.version s.head t s.begins)
show_one_fault bytes (OverTop c j row) (Plane (PadBits d k)) s t =
    let both = with_one_head bytes (λ head. IsFirstPadded head bytes d k) (λ head. IsFirstIllegal head bytes c j row) t s in absurd (never_both both.0 bytes d k c j row both.1 both.2)
show_one_fault bytes (OverTop c j row) (Plane Fault) s t = absurd t
show_one_fault bytes (OverTop c j row) (Plane WentShort) s t = absurd t
show_one_fault bytes (OverTop c j row) (OverTop d k other) s t =
    let both = with_one_head bytes (λ head. IsFirstIllegal head bytes c j row) (λ head. IsFirstIllegal head bytes d k other) s t in illegal_same both.0 bytes c j row d k other both.1 both.2
show_one_fault bytes (OverTop c j row) NoMemory s t = absurd t
show_one_fault bytes NoMemory other s t = absurd s

-- ---- the file of a table

-- so many pieces are as long as from the first one's place to the place behind them
length_before : (f : ℕ → List ℕ) (place : ℕ → ℕ) (n : ℕ) → ((c : ℕ) → c < n → length (f c) + place c ≡ place (c + 1)) → length (flat_map f (range_with_len 0 n)) + place 0 ≡ place n
length_before f place zero each = omega arith
length_before f place (suc n) each =
    let more : n + 1 ≡ suc n = omega arith in
    let before = length_before f place n (λ c lt. each c (omega (arith, lt))) in
    let both = ap length (pieces_more f n) ∙ length-append (flat_map f (range_with_len 0 n)) (f n) in
    let all = ap (λ k. length (flat_map f (range_with_len 0 k))) more in
    omega (arith, before, both, all, each n (omega arith), ap place more)

-- each piece stands at its place
piece_back : (f : ℕ → List ℕ) (place : ℕ → ℕ) (bytes rest : List ℕ) (n k : ℕ) → ((c : ℕ) → c < n → length (f c) + place c ≡ place (c + 1)) → drop (place 0) bytes ≡ flat_map f (range_with_len 0 n) ++ rest → k < n →
    drop (place k) bytes ≡ f k ++ (flat_map f (range_with_len (k + 1) (n - (k + 1))) ++ rest)
piece_back f place bytes rest n k each all lt =
    let front = flat_map f (range_with_len 0 k) in
    let behind = flat_map f (range_with_len (k + 1) (n - (k + 1))) in
    let long = length_before f place k (λ c less. each c (omega (arith, less, lt))) in
    let there : place k ≡ place 0 + length front = omega (arith, long) in
    ap (λ m. drop m bytes) there ∙ sym (drop-drop (length front) (place 0) bytes)
    ∙ ap (drop (length front)) (all ∙ ap (λ l. l ++ rest) (pieces_about f k n lt) ∙ append_assoc front (f k ++ behind) rest ∙ ap (λ l. front ++ l) (append_assoc (f k) behind rest))
    ∙ drop_at front (f k ++ (behind ++ rest)) (length front) refl

module _ (bytes : List ℕ) (version : ℕ) (table : Contents) (is : IsFileOf bytes version table) where
  abbrev head : Head
  head = table.head

  declared : (c : ℕ) → c < length head.columns → c < length (frame_of head).columns
  declared c lt = omega (arith, lt, length-map head.columns ends_of)

  column_long : (c : ℕ) → c < length head.columns → length (column_planes (frame_of head) table.cells c) + plane_at head c 0 ≡ plane_at head (c + 1) 0
  column_long c lt = omega (arith, length-column_planes (frame_of head) table.cells c (is.is_table.rows c (declared c lt)), place_of_next head c lt)

  plane_long : (c j : ℕ) → c < length head.columns → length (bytes_of_rows (plane_of (frame_of head) table.cells c j)) ≡ plane_size head.rows
  plane_long c j lt =
      length-bytes_of_rows (plane_of (frame_of head) table.cells c j)
      ∙ ap plane_size (length-map (get_or table.cells c []) (bit_at (ends_at (frame_of head) c) j) ∙ is.is_table.rows c (declared c lt))

  behind_head : drop (plane_at head 0 0) bytes ≡ planes_bytes table ++ []
  behind_head =
      let long : length (head_bytes version head) ≡ planes_at head = length-append (header_bytes version head) (heads_bytes head.columns) in
      let start : plane_at head 0 0 ≡ planes_at head = place_of_column head 0 ∙ omega arith in
      ap (λ n. drop n bytes) start ∙ ap (drop (planes_at head)) is.same ∙ drop_at (head_bytes version head) (planes_bytes table) (planes_at head) long ∙ sym (append-nil (planes_bytes table))

  pub file_planes : HaveColumns head bytes (length head.columns) table.cells
  file_planes c lt j less =
      let n = length head.columns in
      let count = planes (ends_at (frame_of head) c) in
      let piece = λ (k : ℕ). bytes_of_rows (plane_of (frame_of head) table.cells c k) in
      let column = piece_back (column_planes (frame_of head) table.cells) (λ k. plane_at head k 0) bytes [] n c (λ k h. column_long k h) behind_head lt in
      let there = piece_back piece (plane_at head c) bytes (flat_map (column_planes (frame_of head) table.cells) (range_with_len (c + 1) (n - (c + 1))) ++ []) count j
      (λ k h. omega (arith, plane_long c k lt, place_in_column head c k, place_in_column head c (k + 1), mul-add (plane_size head.rows) k 1)) column less in
      sym (ap (take (plane_size head.rows)) there ∙ take_at (piece j) _ (plane_size head.rows) (plane_long c j lt))

  has_plane : (c j : ℕ) → IsPlane head c j → HasPlane head bytes c j
  has_plane c j at = record {
    cells = get_or table.cells c [];
    are_cells = table_cells head table.cells c is.is_table at.is_column;
    have = λ k lt. file_planes c at.is_column k (omega (arith, lt, at.is_plane));
  }

  no_fault_at : (c j : ℕ) → HasHeadWith bytes (λ h. IsFaultAt h bytes c j) → ⊥
  no_fault_at c j h =
      let same = (one_head bytes version h.version head h.head (file_head bytes version table is) h.begins).1 in
      let f : IsFaultAt head bytes c j = subst (λ (h : Head). IsFaultAt h bytes c j) (sym same) h.holds in
      f.never (has_plane c j f.is_plane)

  none_shown : (why : TableReadFault) → ShowsFault bytes why → ⊥
  none_shown (File why) s = no_fault bytes why version head s (file_head bytes version table is)
  none_shown (Plane (PadBits c j)) s = no_fault_at c j (record { version = s.version; head = s.head; begins = s.begins; holds = padded_at s.head bytes c j s.holds })
  none_shown (Plane Fault) s = s
  none_shown (Plane WentShort) s = s
  none_shown (OverTop c j row) s = no_fault_at c j (record { version = s.version; head = s.head; begins = s.begins; holds = illegal_at s.head bytes c j row s.holds })
  none_shown NoMemory s = s

pub files_show_no_fault : FilesShowNoFault
files_show_no_fault bytes version table why is s = none_shown bytes version table is why s
