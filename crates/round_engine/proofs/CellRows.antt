-- The cell that a row is in: it has keys, and one alone where each of the row's group ranges is one value.
use Rattle.std.proofs.Common.{◌≡◌, ℕ, ◌*◌, ◌%◌, ◌+◌, ◌^◌, ◌<◌, ◌≤◌, Bool, true, List, [], ◌∷◌, length, map, get_or, slice_get, Some, IsTrue, refl, sym, ap, subst, ◌∙◌, arith}
use Rattle.std.specs.List.{AllByRecursion, list_all, sum}
use Rattle.std.proofs.Math.Nat.{pow-le-pow_right}
use Rattle.std.proofs.lemmas.Bool.{and_from}
use Rattle.std.proofs.lemmas.List.Folds.{list_all-map}
use Rattle.std.proofs.lemmas.List.FromFn.{get_or-map-range_with_len}
use Rattle.std.proofs.lemmas.List.Sums.{sum_by-cons}
use Rattle.std.proofs.lemmas.Nat.{div-mul-add, mod-mul-add}
use Rattle.std.proofs.lemmas.Option.{get_or_from_slice_get}
use Rattle.daq_table.specs.Tables.{Frame, ends_at, planes}
use Rattle.query_model.specs.Answers.{groups_of}
use Rattle.query_model.specs.Groups.{cell_count, cell_of, counts_of, holds_one_key, is_one_value, parts_of}
use Rattle.query_model.specs.Knowledge.{IsKnowledge, Knowledge, known_at, prefix_at, ranges_of}
use Rattle.query_model.proofs.Groups.{joined_below, row_legal}
use Rattle.row_groups.specs.Partition.{AreCellsFrom, CellsTellKeys, RowCells, are_legal, counts_of_parts, is_legal_cell, part_under, ranges_of_prefixes}
use Rattle.round_engine.specs.CellAnswers.{IsParted, has_one_key, most_cells}
use Rattle.round_engine.specs.Cells.{cells_in}
use Rattle.round_engine.specs.Stages.{IsOpenQuery, IsOpenShape, IsOpenStage, Stage}
use Rattle.query_model.specs.Queries.{Query}
use Rattle.query_model.specs.declared.query.Shape.{Shape}
use Rattle.query_model.specs.declared.query.Shape.TheVariants.{Plain, Grouped, Top}

module _ (frame : Frame) (known : Knowledge) (k : IsKnowledge frame known) (r : ℕ) (r_in : r < frame.rows) where
  -- the prefixes of the row, out of its cell
  parts_of_row : (cs : List ℕ) → parts_of (counts_of known cs) (cell_of known cs r) ≡ map (λ c. prefix_at known c r) cs
  parts_of_row [] = refl
  parts_of_row (c ∷ cs) =
      let q = prefix_at known c r in
      let d = 2 ^ sum (counts_of known cs) in
      let j = cell_of known cs r in
      let below = joined_below frame known r cs k r_in in
      ap (λ n. n ∷ parts_of (counts_of known cs) ((q * d + j) % d)) (div-mul-add q d j below)
      ∙ ap (λ n. q ∷ parts_of (counts_of known cs) n) (mod-mul-add q d j below)
      ∙ ap (λ l. q ∷ l) (parts_of_row cs)

  counts_under : (cs : List ℕ) → counts_of_parts (map (part_under frame known) cs) ≡ counts_of known cs
  counts_under [] = refl
  counts_under (c ∷ cs) = ap (λ l. (known_at known c).read ∷ l) (counts_under cs)

  legal_under : (cs : List ℕ) → are_legal (map (part_under frame known) cs) (map (λ c. prefix_at known c r) cs) ≡ true
  legal_under [] = refl
  legal_under (c ∷ cs) = and_from _ _ (row_legal frame known c r k r_in) (legal_under cs)

  ranges_under : (cs : List ℕ) → ranges_of_prefixes (map (part_under frame known) cs) (map (λ c. prefix_at known c r) cs) ≡ map (ranges_of frame known r) cs
  ranges_under [] = refl
  ranges_under (c ∷ cs) = ap (λ l. ranges_of frame known r c ∷ l) (ranges_under cs)

  prefixes_under : (cs : List ℕ) → parts_of (counts_of_parts (map (part_under frame known) cs)) (cell_of known cs r) ≡ map (λ c. prefix_at known c r) cs
  prefixes_under cs = ap (λ ks. parts_of ks (cell_of known cs r)) (counts_under cs) ∙ parts_of_row cs

  pub row_cell_legal : (cs : List ℕ) → IsTrue (is_legal_cell (map (part_under frame known) cs) (cell_of known cs r))
  row_cell_legal cs = ap (are_legal (map (part_under frame known) cs)) (prefixes_under cs) ∙ legal_under cs

  pub row_cell_keys : (cs : List ℕ) → has_one_key (map (part_under frame known) cs) (cell_of known cs r) ≡ holds_one_key cs (ranges_of frame known r)
  row_cell_keys cs =
      ap (λ qs. list_all is_one_value (ranges_of_prefixes (map (part_under frame known) cs) qs)) (prefixes_under cs)
      ∙ ap (list_all is_one_value) (ranges_under cs)
      ∙ list_all-map is_one_value (ranges_of frame known r) cs

-- ---- how many cells there are

fewer_planes : (frame : Frame) (known : Knowledge) (cs : List ℕ) → IsKnowledge frame known → AllByRecursion (λ c. c < length frame.columns) cs → sum (counts_of known cs) ≤ sum (map (λ c. planes (ends_at frame c)) cs)
fewer_planes frame known [] k within = omega arith
fewer_planes frame known (c ∷ cs) k within =
    let rest = fewer_planes frame known cs k within.1 in
    let here = k.read c within.0 in
    let now = sum_by-cons (λ x. x) (known_at known c).read (counts_of known cs) in
    let most = sum_by-cons (λ x. x) (planes (ends_at frame c)) (map (λ c. planes (ends_at frame c)) cs) in
    omega (arith, rest, here, now, most)

pub few_cells : (frame : Frame) (known : Knowledge) (cs : List ℕ) → IsKnowledge frame known → AllByRecursion (λ c. c < length frame.columns) cs → cell_count known cs ≤ 2 ^ sum (map (λ c. planes (ends_at frame c)) cs)
few_cells frame known cs k within = pow-le-pow_right (omega arith) (fewer_planes frame known cs k within)

shape_within : (frame : Frame) (query : Query) (shape : Shape) → IsOpenShape frame query shape → AllByRecursion (λ c. c < length frame.columns) (groups_of shape)
shape_within frame query Plain h = tt
shape_within frame query (Grouped columns) h = h.0
shape_within frame query (Top key down limit) h = tt

-- the group columns of an open query are columns of it
pub groups_within : (query : Query) (frame : Frame) → IsOpenQuery query frame → AllByRecursion (λ c. c < length frame.columns) (groups_of query.shape)
groups_within query frame kept = shape_within frame query query.shape kept.shape

-- there is room for all cells
pub cells_fit : (stage : Stage) → IsOpenStage stage → cells_in stage ≤ most_cells stage
cells_fit stage kept = few_cells stage.frame stage.known (groups_of stage.query.shape) kept.knowledge (groups_within stage.query stage.frame kept.open_query)

-- the cell of a row of a block, as it was read
pub block_cell : (cells : List ℕ) (number row : ℕ) (block : List ℕ) (cell : ℕ) → AreCellsFrom (64 * number) cells block → row < length cells → 64 * number ≤ row → row < 64 * number + 64 → cell ≡ get_or block (row % 64) 0 →
    slice_get cells row ≡ Some cell
block_cell cells number row block cell read within from to is =
    let place : 64 * number + row % 64 ≡ row = omega arith in
    ap (slice_get cells) (sym place) ∙ read (row % 64) (omega arith) (omega (arith, place, within)) ∙ ap Some (sym is)

-- ---- what is kept of the row's cell

module _ (stage : Stage) (cells : RowCells) (single : List Bool) (parted : IsParted stage cells single) (k : IsKnowledge stage.frame stage.known) (row : ℕ) (row_in : row < stage.frame.rows) where
  abbrev groups : List ℕ
  groups = groups_of stage.query.shape

  pub cell_is : (cell : ℕ) → slice_get cells.cells row ≡ Some cell → cell ≡ cell_of stage.known groups row
  cell_is cell there =
      sym (get_or_from_slice_get cells.cells row cell 0 there) ∙ ap (λ xs. get_or xs row 0) parted.cells_are.rows
      ∙ get_or-map-range_with_len (cell_of stage.known groups) 0 stage.frame.rows row row 0 row_in (omega arith)

  pub cell_counted : (cell : ℕ) → slice_get cells.cells row ≡ Some cell → cell < cells_in stage
  cell_counted cell there = subst (λ n. n < cells_in stage) (sym (cell_is cell there)) (joined_below stage.frame stage.known row groups k row_in)

  pub cell_single : CellsTellKeys → (cell : ℕ) → slice_get cells.cells row ≡ Some cell → slice_get single cell ≡ Some (holds_one_key groups (ranges_of stage.frame stage.known row))
  cell_single tell cell there =
      let is = cell_is cell there in
      let parts = parted.cells_are.parts in
      let legal : IsTrue (is_legal_cell cells.parts cell) = subst (λ ps. IsTrue (is_legal_cell ps cell)) (sym parts) (subst (λ n. IsTrue (is_legal_cell (map (part_under stage.frame stage.known) groups) n)) (sym is) (row_cell_legal stage.frame stage.known k row row_in groups)) in
      let count = (tell stage.frame stage.known groups cells parted.cells_are).count in
      parted.single_are cell (subst (λ n. cell < n) (sym count) (cell_counted cell there)) legal
      ∙ ap (λ ps. Some (has_one_key ps cell)) parts ∙ ap (λ n. Some (has_one_key (map (part_under stage.frame stage.known) groups) n)) is
      ∙ ap Some (row_cell_keys stage.frame stage.known k row row_in groups)
