-- Bytes that show no fault are the file of a table.
use Rattle.std.proofs.Common.{◌≡◌, ℕ, zero, suc, ◌+◌, ◌-◌, ◌*◌, ◌^◌, ◌<◌, ◌≤◌, ◌⊎◌, Bool, false, Option, Some, None, List, [], ◌∷◌, ◌++◌, All, length, drop, get_or, refl, sym, ap, subst, ◌∙◌, arith, inl, inr, length-append, IsTrue}
use Rattle.std.proofs.lemmas.Bool.{cases_Bool, cases_lt, true≢false}
use Rattle.std.proofs.lemmas.List.{get_or_default, length-drop, length-map, length-take-le}
use Rattle.daq_table.specs.Tables.{Cell, Cells, Contents, IsTable, ends_at, ends_of, frame_of, planes}
use Rattle.daq_table.specs.declared.table_head.Head.{Head}
use Rattle.plane_kernels.specs.Bytes.{HasNoPadBits, HasPadBits, bytes_of_rows, word_in, word_rows}
use Rattle.plane_kernels.proofs.BytesLaws.{of_some_list}
use Rattle.query_model.specs.Knowledge.{is_legal, longer}
use Rattle.known_column.specs.Columns.{KnownColumn, read_further, rows_of_column, unread_column}
use Rattle.plane_file.specs.Checks.{file_fault}
use Rattle.plane_file.specs.ColumnReading.{AreCells, IsReadInto, ReachesIllegal, ReachesPadded, TellsPlanes}
use Rattle.plane_file.specs.Format.{IsFileOf, file_size, plane_size}
use Rattle.plane_file.specs.Bytes.{AreBytes}
use Rattle.plane_file.specs.Laws.{HaveTables}
use Rattle.plane_file.specs.Opening.{IsFileHead}
use Rattle.plane_file.specs.Places.{plane_at, plane_in}
use Rattle.plane_file.specs.TableReading.{HaveColumns, HavePlanes, IsFirstIllegal, IsFirstPadded, IsIllegalPlane, IsPlane, ShowsFault}
use Rattle.plane_file.specs.declared.file_fault.FileFault.{FileFault}
use Rattle.plane_file.specs.declared.plane_fault.PlaneFault.TheVariants.{PadBits}
use Rattle.plane_file.specs.declared.table_fault.TableReadFault.{TableReadFault}
use Rattle.plane_file.specs.declared.table_fault.TableReadFault.TheVariants.{File, Plane, OverTop}
use Rattle.plane_file.proofs.AllColumns.{agrees, filled, last_there}
use Rattle.plane_file.proofs.ColumnCells.{have_planes, planes_more}
use Rattle.plane_file.proofs.ColumnSteps.{are_cells, cells_before, illegal_with, known_is, reached, taken_read, unread_into}
use Rattle.plane_file.proofs.FrontBytes.{drop_bytes, take_bytes}
use Rattle.plane_file.proofs.PlanePlaces.{plane_within}
use Rattle.plane_file.proofs.SomeHead.{some_head}
use Rattle.plane_file.proofs.TableSteps.{each_more, file_is}

-- ---- searches

-- all below a number pass a test, or there is a first that does not
first_failing : (test : ℕ → Bool) (n : ℕ) → ((r : ℕ) → r < n → IsTrue (test r)) ⊎ ((row : ℕ) × (row < n) × (¬ IsTrue (test row)) × ((r : ℕ) → r < row → IsTrue (test r)))
first_failing test zero = inl (λ r lt. absurd (omega (arith, lt)))
first_failing test (suc n) = by (first_failing test n) (cases_Bool (test n))
  where
    by : (((r : ℕ) → r < n → IsTrue (test r)) ⊎ ((row : ℕ) × (row < n) × (¬ IsTrue (test row)) × ((r : ℕ) → r < row → IsTrue (test r)))) → (IsTrue (test n) ⊎ (test n ≡ false)) →
        ((r : ℕ) → r < suc n → IsTrue (test r)) ⊎ ((row : ℕ) × (row < suc n) × (¬ IsTrue (test row)) × ((r : ℕ) → r < row → IsTrue (test r)))
    by (inr (row, lt, fails, before)) last = inr (row, omega (arith, lt), fails, before)
    by (inl all) (inl passes) = inl (λ r lt. elim (cases_lt r n) [ inl less ↦ all r less | inr past ↦ (let same : n ≡ r = omega (arith, past, lt) in subst (λ k. IsTrue (test k)) same passes) ])
    by (inl all) (inr fails) = inr (n, omega arith, λ passes. true≢false (sym passes ∙ fails), all)

-- a word below a number has a bit past the last row, or none has
pad_below : (rows : ℕ) (bytes : List ℕ) (n : ℕ) → ((word : ℕ) × HasPadBits rows 0 bytes word) ⊎ ((word : ℕ) → word < n → ¬ HasPadBits rows 0 bytes word)
pad_below rows bytes zero = inr (λ word lt _. omega (arith, lt))
pad_below rows bytes (suc n) = by (pad_below rows bytes n) (cases_lt (length bytes) (8 * (n - 0) + 8)) (cases_lt (word_in bytes (n - 0)) (2 ^ word_rows rows n))
  where
    last : (¬ HasPadBits rows 0 bytes n) → ((word : ℕ) → word < n → ¬ HasPadBits rows 0 bytes word) → (word : ℕ) → word < suc n → ¬ HasPadBits rows 0 bytes word
    last none before word lt pad = elim (cases_lt word n) [
      | inl less ↦ before word less pad
      | inr past ↦ (let same : word ≡ n = omega (arith, past, lt) in none (subst (λ k. HasPadBits rows 0 bytes k) same pad))
    ]

    by : (((word : ℕ) × HasPadBits rows 0 bytes word) ⊎ ((word : ℕ) → word < n → ¬ HasPadBits rows 0 bytes word)) →
        ((length bytes < 8 * (n - 0) + 8) ⊎ (8 * (n - 0) + 8 ≤ length bytes)) → ((word_in bytes (n - 0) < 2 ^ word_rows rows n) ⊎ (2 ^ word_rows rows n ≤ word_in bytes (n - 0))) →
        ((word : ℕ) × HasPadBits rows 0 bytes word) ⊎ ((word : ℕ) → word < suc n → ¬ HasPadBits rows 0 bytes word)
    by (inl found) x y = inl found
    by (inr before) (inl short) y = inr (last (λ pad. omega (arith, short, pad.within)) before)
    by (inr before) (inr room) (inl low) = inr (last (λ pad. omega (arith, low, pad.past)) before)
    by (inr before) (inr room) (inr past) = inl (n, record { from = omega arith; within = room; past = past })

some_pad : (rows : ℕ) (bytes : List ℕ) → ((word : ℕ) × HasPadBits rows 0 bytes word) ⊎ HasNoPadBits rows 0 bytes
some_pad rows bytes = elim (pad_below rows bytes (length bytes)) [ inl found ↦ inl found | inr none ↦ inr (λ word pad. none word (omega (arith, pad.within)) pad) ]

module _ (head : Head) (bytes : List ℕ) (fits : AreBytes bytes) (long : length bytes ≡ file_size head) where
  -- ---- a column

  -- what the first planes of a column, so many, tell
  record Tells (column count : ℕ) : Type 0 where
    known : KnownColumn
    is_read : IsReadInto head column count known
    tells : TellsPlanes head bytes column known

  -- what stops it
  abbrev Stops : ℕ → Type 0
  Stops column = ((plane : ℕ) × ReachesPadded head bytes column plane) ⊎ ((plane : ℕ) × (row : ℕ) × ReachesIllegal head bytes column plane row)

  plane_long : (column plane : ℕ) → IsPlane head column plane → length (plane_in head column plane bytes) ≡ plane_size head.rows
  plane_long column plane is =
      length-take-le (plane_size head.rows) (drop (plane_at head column plane) bytes)
      (omega (arith, length-drop (plane_at head column plane) bytes, long, plane_within head column plane is.is_column is.is_plane))

  plane_fits : (column plane : ℕ) → All (λ byte. byte < 256) (plane_in head column plane bytes)
  plane_fits column plane k d lt =
      let piece = plane_in head column plane bytes in
      let small = take_bytes (drop (plane_at head column plane) bytes) (plane_size head.rows) (drop_bytes bytes (plane_at head column plane) fits) in
      subst (λ n. n < 256) (get_or_default piece k 0 d lt) (small k)

  -- the next plane, whose rows have these bits
  with_bits : (column plane : ℕ) → IsPlane head column plane → (t : Tells column plane) → (bits : List Bool) → length bits ≡ head.rows → bytes_of_rows bits ≡ plane_in head column plane bytes →
      Tells column (plane + 1) ⊎ Stops column
  with_bits column plane is t bits rows here =
      let test = λ (row : ℕ). is_legal t.known.ends (t.known.known.read + 1) (get_or (longer t.known.known.prefixes bits) row 0) in
      elim (first_failing test (rows_of_column t.known)) [
        | inl all ↦ inl (record {
          known = read_further t.known bits;
          is_read = taken_read head column plane t.known (read_further t.known bits) bits t.is_read refl rows all;
          tells = planes_more head bytes column t.known bits (rows ∙ sym t.is_read.rows) (here ∙ ap (λ k. plane_in head column k bytes) (sym t.is_read.read)) t.tells;
        })
        | inr (row, lt, fails, before) ↦
            (let cells = cells_before head column plane t.known t.is_read in
            inr (inr (
              plane,
              row,
              record {
                cells = cells.0;
                reached = reached head column bytes plane t.known cells.0 is t.is_read cells.1 t.tells;
                illegal = illegal_with head column bytes plane row t.known cells.0 bits t.is_read cells.1 rows here (record { in_range = lt; over = fails; first = before });
              },
            )))
      ]

  next_plane : (column plane : ℕ) → IsPlane head column plane → Tells column plane → Tells column (plane + 1) ⊎ Stops column
  next_plane column plane is t = elim (some_pad head.rows (plane_in head column plane bytes)) [
    | inl pad ↦
        (let cells = cells_before head column plane t.known t.is_read in
        inr (inl (plane, record { cells = cells.0; reached = reached head column bytes plane t.known cells.0 is t.is_read cells.1 t.tells; padded = pad })))
    | inr none ↦
        (let found = of_some_list head.rows (plane_in head column plane bytes) (plane_long column plane is) (plane_fits column plane) none in
        with_bits column plane is t found.0 found.1 found.2)
  ]

  column_told : (column count : ℕ) → column < length head.columns → count ≤ planes (ends_at (frame_of head) column) → Tells column count ⊎ Stops column
  column_told column zero lt few =
      let known = unread_column (ends_at (frame_of head) column) head.rows in
      inl (record { known = known; is_read = unread_into head column; tells = λ plane less. absurd (omega (arith, less)) })
  column_told column (suc count) lt few = elim (column_told column count lt (omega (arith, few))) [
    | inl t ↦ (let more : count + 1 ≡ suc count = omega arith in
        subst (λ n. Tells column n ⊎ Stops column) more (next_plane column count (record { is_column = lt; is_plane = omega (arith, few) }) t))
    | inr stops ↦ inr stops
  ]

  -- ---- all columns

  record Done (count : ℕ) : Type 0 where
    cells : Cells
    many : length cells ≡ count
    are : (c : ℕ) → c < count → AreCells head c (get_or cells c [])
    have : HaveColumns head bytes count cells

  abbrev Fails : Type 0
  Fails = ((column : ℕ) × (plane : ℕ) × IsFirstPadded head bytes column plane) ⊎ ((column : ℕ) × (plane : ℕ) × (row : ℕ) × IsFirstIllegal head bytes column plane row)

  column_more : (count : ℕ) → Done count → (cells : List Cell) → AreCells head count cells → HavePlanes head bytes count (planes (ends_at (frame_of head) count)) cells → Done (count + 1)
  column_more count d cells are have = record {
    cells = d.cells ++ cells ∷ [];
    many = length-append d.cells (cells ∷ []) ∙ omega (arith, d.many);
    are = each_more (AreCells head) d.cells cells count d.many d.are are;
    have = each_more (λ c cells. HavePlanes head bytes c (planes (ends_at (frame_of head) c)) cells) d.cells cells count d.many d.have have;
  }

  stopped : (count : ℕ) → count < length head.columns → Done count → Stops count → Fails
  stopped count lt d (inl (plane, r)) = inl (
    count,
    plane,
    record {
      is_plane = r.reached.is_plane;
      cells = filled head count d.cells r.cells lt d.are r.reached.are_cells;
      agrees = agrees head count d.cells r.cells lt d.are r.reached.are_cells bytes plane d.have r.reached.have;
      padded = r.padded;
    },
  )
  stopped count lt d (inr (plane, row, r)) = inr (
    count,
    plane,
    row,
    record {
      is_plane = r.reached.is_plane;
      cells = filled head count d.cells r.cells lt d.are r.reached.are_cells;
      agrees = agrees head count d.cells r.cells lt d.are r.reached.are_cells bytes plane d.have r.reached.have;
      illegal = subst (λ (cells : List Cell). IsIllegalPlane head bytes count plane row cells) (sym (last_there head count d.cells r.cells lt d.are r.reached.are_cells)) r.illegal;
    },
  )

  next_column : (count : ℕ) → count < length head.columns → Done count → Done (count + 1) ⊎ Fails
  next_column count lt d = elim (column_told count (planes (ends_at (frame_of head) count)) lt (omega arith)) [
    | inl t ↦
        (let n = planes (ends_at (frame_of head) count) in
        let cells = cells_before head count n t.known t.is_read in
        inl (column_more count d cells.0 (are_cells head count n t.known cells.0 t.is_read cells.1)
        (have_planes head bytes count n t.known.known.prefixes cells.0 (omega arith) cells.1 (subst (TellsPlanes head bytes count) (known_is head count n t.known t.is_read) t.tells))))
    | inr stops ↦ inr (stopped count lt d stops)
  ]

  columns_told : (count : ℕ) → count ≤ length head.columns → Done count ⊎ Fails
  columns_told zero few = inl (record { cells = []; many = refl; are = λ c lt. absurd (omega (arith, lt)); have = λ c lt. absurd (omega (arith, lt)) })
  columns_told (suc count) few = elim (columns_told count (omega (arith, few))) [
    | inl d ↦ (let more : count + 1 ≡ suc count = omega arith in subst (λ n. Done n ⊎ Fails) more (next_column count (omega (arith, few)) d))
    | inr fails ↦ inr fails
  ]

  done_table : (d : Done (length head.columns)) → IsTable (frame_of head) d.cells
  done_table d =
      let many = length-map head.columns ends_of in
      record {
        columns = d.many ∙ sym many;
        rows = λ c lt. (d.are c (omega (arith, lt, many))).rows;
        within = λ c r lt row_in. (d.are c (omega (arith, lt, many))).within r row_in;
      }

  told_by_head : (version : ℕ) → IsFileHead bytes version head → ((version : ℕ) × (table : Contents) × IsFileOf bytes version table) ⊎ ((fault : TableReadFault) × ShowsFault bytes fault)
  told_by_head version begins = elim (columns_told (length head.columns) (omega arith)) [
    | inl d ↦ inl (version, record { head = head; cells = d.cells }, file_is bytes head d.cells long d.have version begins (done_table d))
    | inr (inl (column, plane, f)) ↦ inr (Plane (PadBits column plane), record { version = version; head = head; begins = begins; holds = f })
    | inr (inr (column, plane, row, f)) ↦ inr (OverTop column plane row, record { version = version; head = head; begins = begins; holds = f })
  ]

pub have_tables : HaveTables
have_tables bytes fits = by (file_fault bytes) refl
  where
    by : (found : Option FileFault) → file_fault bytes ≡ found → ((version : ℕ) × (table : Contents) × IsFileOf bytes version table) ⊎ ((fault : TableReadFault) × ShowsFault bytes fault)
    by (Some why) e = inr (File why, e)
    by None e = let found = some_head bytes fits e in told_by_head found.1 bytes fits found.2.size found.0 found.2
