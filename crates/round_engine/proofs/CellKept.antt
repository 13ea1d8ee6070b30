-- The answers by cells at a stage: what they tell, and how they follow a plane.
use Rattle.std.proofs.Common.{Vec, Global, ◌≡◌, ◌≢◌, ℕ, ◌+◌, ◌*◌, ◌<◌, ◌≤◌, ◌^◌, ◌==◌, ◌||◌, nat_lt, Bool, true, false, not, ◌&&◌, List, [], ◌∷◌, ◌++◌, length, length-append, map, get_or, slice_get, slice_index, take, Some, IsTrue, inl, inr, refl, sym, ap, subst, ◌∙◌, arith, if◌then◌else◌}
use Rattle.std.specs.List.{AllByRecursion, IsDistinct, list_any, range_with_len, sum}
use Rattle.std.proofs.Math.Path.{fun_ext}
use Rattle.std.proofs.Math.Seq.{take-append_seam}
use Rattle.std.proofs.lemmas.Bool.{and_parts, not-true, cases_Bool, cases_eq, eq-eqb, eqb-true, false≢true, lt-ltb, or_parts, true≢false}
use Rattle.std.proofs.lemmas.List.{get_or-map, get_or-set_other, get_or-set_same, length-map, take-map, take_more}
use Rattle.std.proofs.lemmas.List.Sums.{sum_by_more, sum_by_more_le}
use Rattle.std.proofs.lemmas.List.FromFn.{length-map-range_with_len}
use Rattle.std.proofs.lemmas.Map.Steps.{length-le_from_distinct_below}
use Rattle.std.proofs.lemmas.Option.{slice_get_within}
use Rattle.daq_table.specs.Tables.{Frame, ends_at, planes, rows_of}
use Rattle.aggregates.specs.Runnings.{IsBlank, StandsFor, Tallies}
use Rattle.kleene_filter.specs.Filters.{is_certain, is_possible, stands_in}
use Rattle.known_column.specs.KnownTables.{KnownTable, unread_table}
use Rattle.query_model.specs.declared.bounds.Truth.TheVariants.{False, Unknown, True}
use Rattle.query_model.specs.declared.query.Shape.{Shape}
use Rattle.query_model.specs.declared.query.Shape.TheVariants.{Plain, Grouped, Top}
use Rattle.query_model.specs.Answers.{every_row, groups_of}
use Rattle.query_model.specs.Bounds.{pair_by}
use Rattle.query_model.specs.Groups.{cell_of, counts_of, holds_one_key, is_one_value, pair_in_cell, pairs_in_cell_below, truth_in_cell}
use Rattle.query_model.specs.Knowledge.{ColumnKnowledge, IsKnowledge, Knowledge, known_at, longer_column, prefix_at, ranges_of, taken}
use Rattle.query_model.specs.Meaning.{columns_of, columns_of_pred}
use Rattle.query_model.specs.Queries.{Aggregate, Query}
use Rattle.query_model.specs.Truths.{Range, and_of, truth_of}
use Rattle.query_model.specs.Validity.{no_repeats}
use Rattle.row_groups.specs.Partition.{AreCells, OpeningStands, OthersLeaveCells, RefiningStands, RowCells, has_unread, is_group, part_under, refined, unread_cells}
use Rattle.round_engine.specs.declared.groups.Groups.{Groups}
use Rattle.round_engine.specs.CellAnswers.{AreGroups, HoldGroups, HasRoom, HaveCells, IsParted, StandForCells, StandForEach, StandForOthers, TellSingle, moves_rows, most_cells}
use Rattle.round_engine.specs.Cells.{cells_in}
use Rattle.round_engine.specs.declared.kept_cells.KeptParts.{KeptParts}
use Rattle.round_engine.specs.KeptCells.{HaveKeptParts}
use Rattle.round_engine.specs.KeptSums.{columns_of as columns_at}
use Rattle.round_engine.specs.Moves.{AreMoved, is_moved}
use Rattle.round_engine.specs.OneCell.{HoldMasks}
use Rattle.round_engine.specs.declared.seen_rows.SeenRows.{SeenRows}
use Rattle.round_engine.specs.SeenRows.{HoldSeen, WereRows}
use Rattle.round_engine.specs.Stages.{IsOpenQuery, IsOpenShape, IsOpenStage, Stage, stepped}
use Rattle.round_engine.proofs.CellRows.{groups_within}
use Rattle.round_engine.proofs.Kept.{item_of}
use Rattle.round_engine.proofs.Openings.{agree_push}
use Rattle.round_engine.proofs.Places.{read_there}
use Rattle.round_engine.proofs.RowPairs.{rows_of_mask}
use Rattle.round_engine.proofs.Unmoved.{pair_by_unmoved, pred_unmoved, range_unmoved, same_given}

-- ---- a plane of a group column

shape_once : (frame : Frame) (query : Query) (shape : Shape) → IsOpenShape frame query shape → IsTrue (no_repeats (groups_of shape))
shape_once frame query Plain h = refl
shape_once frame query (Grouped columns) h = h.1
shape_once frame query (Top key down limit) h = refl

pub group_below : (n : ℕ) (cs : List ℕ) (c : ℕ) → AllByRecursion (λ k. k < n) cs → IsTrue (is_group cs c) → c < n
group_below n [] c within is = absurd (false≢true is)
group_below n (k ∷ cs) c within is =
    elim (cases_Bool (c == k)) [
      | inl t ↦ subst (λ m. m < n) (sym (eqb-true c k t)) within.0
      | inr f ↦ group_below n cs c within.1 (sym (ap (λ b. b || is_group cs c) f) ∙ is)
    ]

unread_part : (frame : Frame) (known : Knowledge) (cs : List ℕ) (c : ℕ) → (known_at known c).read < planes (ends_at frame c) → IsTrue (is_group cs c) → IsTrue (has_unread (map (part_under frame known) cs) c)
unread_part frame known [] c less is = absurd (false≢true is)
unread_part frame known (k ∷ cs) c less is =
    elim (cases_eq k c) [
      | inl e ↦
          (let here : (k == c) ≡ true = eq-eqb k c e in
          let below : nat_lt (known_at known k).read (planes (ends_at frame k)) ≡ true = subst (λ n. nat_lt (known_at known n).read (planes (ends_at frame n)) ≡ true) (sym e) (less_true _ _ less) in
          rw here below)
      | inr apart ↦
          (let other : (k == c) ≡ false = not_same k c apart in
          let later : (c == k) ≡ false = not_same c k (λ e. apart (sym e)) in
          let rest = unread_part frame known cs c less (sym (ap (λ b. b || is_group cs c) later) ∙ is) in
          rw other rest)
    ]
  where
    less_true : (m n : ℕ) → m < n → nat_lt m n ≡ true
    less_true m n h = lt-ltb m n h

    not_same : (m n : ℕ) → m ≢ n → (m == n) ≡ false
    not_same m n h =
        elim (cases_Bool (m == n)) [
          | inl t ↦ absurd (h (eqb-true m n t))
          | inr f ↦ f
        ]

abbrev nothing : ColumnKnowledge
nothing = record { read = 0; prefixes = [] }

-- where a plane was read, one was unread before
read_before : (before : Stage) (c : ℕ) (bits : List Bool) → c < length before.frame.columns → IsKnowledge before.frame before.known → IsKnowledge before.frame (taken before.known c bits) →
    (known_at before.known c).read < planes (ends_at before.frame c)
read_before before c bits within was now =
    let here : known_at (taken before.known c bits) c ≡ longer_column (known_at before.known c) bits = get_or-set_same before.known c (longer_column (known_at before.known c) bits) nothing (subst (λ n. c < n) (sym was.columns) within) in
    let more : (known_at (taken before.known c bits) c).read ≡ (known_at before.known c).read + 1 = ap (λ (w : ColumnKnowledge). w.read) here in
    omega (arith, more, now.read c within)

module _ (before : Stage) (c : ℕ) (bits : List Bool) (kept : IsOpenStage before) where
  abbrev groups : List ℕ
  groups = groups_of before.query.shape

  pub group_unread : (cells : RowCells) → AreCells before.frame before.known groups cells → IsOpenStage (stepped before c bits) → IsTrue (is_group groups c) → IsTrue (has_unread cells.parts c)
  group_unread cells are now is =
      let within = group_below (length before.frame.columns) groups c (groups_within before.query before.frame kept.open_query) is in
      subst (λ ps. IsTrue (has_unread ps c)) (sym are.parts) (unread_part before.frame before.known groups c (read_before before c bits within kept.knowledge now.knowledge) is)

  pub cells_more : RefiningStands → (cells : RowCells) → AreCells before.frame before.known groups cells → length bits ≡ before.frame.rows → IsTrue (is_group groups c) →
      AreCells before.frame (taken before.known c bits) groups (refined cells c bits)
  cells_more refining cells are long is =
      refining before.frame before.known groups cells c bits kept.knowledge are (group_below (length before.frame.columns) groups c (groups_within before.query before.frame kept.open_query) is) long
      (shape_once before.frame before.query before.query.shape kept.open_query.shape) is

  pub parted_more : RefiningStands → (cells : RowCells) (old new : List Bool) → IsParted before cells old → length bits ≡ before.frame.rows → IsTrue (is_group groups c) →
      TellSingle (refined cells c bits).parts new → length new ≡ length old → IsParted (stepped before c bits) (refined cells c bits) new
  parted_more refining cells old new parted long is told same = record {
    cells_are = cells_more refining cells parted.cells_are long is;
    single_are = told;
    room = same ∙ parted.room;
  }

  -- a plane of another column leaves the cells
  pub parted_still : OthersLeaveCells → (cells : RowCells) (single : List Bool) → IsParted before cells single → is_group groups c ≡ false → IsParted (stepped before c bits) cells single
  parted_still leave cells single parted other = record {
    cells_are = leave before.frame before.known groups cells c bits parted.cells_are other;
    single_are = parted.single_are;
    room = parted.room;
  }

-- there are as many cells of rows as rows
pub parted_rows : (stage : Stage) (cells : RowCells) (single : List Bool) → IsParted stage cells single → length cells.cells ≡ stage.frame.rows
parted_rows stage cells single parted = ap length parted.cells_are.rows ∙ length-map-range_with_len (cell_of stage.known (groups_of stage.query.shape)) 0 stage.frame.rows

-- ---- a plane of a column that moves no rows

module _ (frame : Frame) (known : Knowledge) (c : ℕ) (bits : List Bool) where
  abbrev next : Knowledge
  next = taken known c bits

  not_later : (g : ℕ) (gs : List ℕ) → is_group (g ∷ gs) c ≡ false → (g ≢ c) × (is_group gs c ≡ false)
  not_later g gs h = (let parts = or_parts (c == g) (is_group gs c) h in ((λ e. true≢false (sym (eq-eqb c g (sym e)) ∙ parts.0)), parts.1))

  known_still : (g : ℕ) → g ≢ c → known_at next g ≡ known_at known g
  known_still g other = get_or-set_other known c g (longer_column (known_at known c) bits) nothing other

  pub counts_still : (gs : List ℕ) → is_group gs c ≡ false → counts_of next gs ≡ counts_of known gs
  counts_still [] h = refl
  counts_still (g ∷ gs) h =
      let apart = not_later g gs h in
      ap (λ (w : ColumnKnowledge). w.read ∷ counts_of next gs) (known_still g apart.0) ∙ ap (λ l. (known_at known g).read ∷ l) (counts_still gs apart.1)

  pub cell_still : (r : ℕ) (gs : List ℕ) → is_group gs c ≡ false → cell_of next gs r ≡ cell_of known gs r
  cell_still r [] h = refl
  cell_still r (g ∷ gs) h =
      let apart = not_later g gs h in
      ap (λ (w : ColumnKnowledge). slice_index w.prefixes r * 2 ^ sum (counts_of next gs) + cell_of next gs r) (known_still g apart.0)
      ∙ ap (λ ks. prefix_at known g r * 2 ^ sum ks + cell_of next gs r) (counts_still gs apart.1)
      ∙ ap (λ n. prefix_at known g r * 2 ^ sum (counts_of known gs) + n) (cell_still r gs apart.1)

  pub keys_still : (r : ℕ) (gs : List ℕ) → is_group gs c ≡ false → holds_one_key gs (ranges_of frame next r) ≡ holds_one_key gs (ranges_of frame known r)
  keys_still r [] h = refl
  keys_still r (g ∷ gs) h =
      let apart = not_later g gs h in
      ap (λ (range : Range). is_one_value range && holds_one_key gs (ranges_of frame next r)) (range_unmoved frame known c bits r g apart.0)
      ∙ ap (λ b. is_one_value (ranges_of frame known r g) && b) (keys_still r gs apart.1)

  module _ (query : Query) (rows_stay : moves_rows query c ≡ false) where
    abbrev columns : List ℕ
    columns = groups_of query.shape

    abbrev none : is_group columns c ≡ false
    none = (or_parts (stands_in (columns_of_pred query.pred) c) (is_group columns c) rows_stay).1

    pub pair_still : (item : Aggregate) (cell row : ℕ) → stands_in (columns_of item.arg) c ≡ false → pair_in_cell query item cell frame next row ≡ pair_in_cell query item cell frame known row
    pair_still item cell row h =
        let new = ranges_of frame next row in
        let old = ranges_of frame known row in
        ap (λ n. pair_by (and_of (truth_of query.pred new) (if n == cell then truth_in_cell columns new else False)) item new) (cell_still row columns none)
        ∙ ap (λ one. pair_by (and_of (truth_of query.pred new) (if cell_of known columns row == cell then (if one then True else Unknown) else False)) item new) (keys_still row columns none)
        ∙ ap (λ t. pair_by (and_of t (if cell_of known columns row == cell then truth_in_cell columns old else False)) item new)
        (pred_unmoved query.pred frame known c bits row (or_parts (stands_in (columns_of_pred query.pred) c) (is_group columns c) rows_stay).0)
        ∙ pair_by_unmoved (and_of (truth_of query.pred old) (if cell_of known columns row == cell then truth_in_cell columns old else False)) item frame known c bits row h

    pairs_still : (item : Aggregate) (cell n : ℕ) → stands_in (columns_of item.arg) c ≡ false → pairs_in_cell_below query item cell frame next n ≡ pairs_in_cell_below query item cell frame known n
    pairs_still item cell n h = same_given _ _ (range_with_len 0 n) (λ row. pair_still item cell row h)

-- what stands for the pairs of cells stands for them still
pub stand_still : (before : Stage) (c : ℕ) (bits : List Bool) (item : Aggregate) (running : Tallies) → moves_rows before.query c ≡ false → stands_in (columns_of item.arg) c ≡ false →
    StandForCells before item running → StandForCells (stepped before c bits) item running
stand_still before c bits item running rows_stay unread stand =
    let groups = groups_of before.query.shape in
    let none = (or_parts (stands_in (columns_of_pred before.query.pred) c) (is_group groups c) rows_stay).1 in
    let same : cells_in (stepped before c bits) ≡ cells_in before = ap (λ ks. 2 ^ sum ks) (counts_still before.frame before.known c bits groups none) in
    record {
      has_room = record { kind = stand.has_room.kind; room = stand.has_room.room };
      cells = stand.cells ∙ sym same;
      stands = λ cell within. subst (StandsFor running cell) (sym (pairs_still before.frame before.known c bits before.query rows_stay item cell before.frame.rows unread))
          (stand.stands cell (subst (λ n. cell < n) same within));
    }

-- ---- marks

-- what the column does not move stands still
pub moved_for_others : (before : Stage) (c : ℕ) (bits marks : List Bool) (runnings : List Tallies) → moves_rows before.query c ≡ false → AreMoved before.query c marks → StandForEach before runnings → StandForOthers (stepped before c bits) marks runnings
moved_for_others before c bits marks runnings rows_stay moved each = record {
  count = each.count;
  each = λ i item running at_item at_running.
      (let here = each.each i item running at_item at_running in
      record {
        has_room = record { kind = here.has_room.kind; room = here.has_room.room };
        stands = λ unmarked. (let still : is_moved before.query c item ≡ false = is_false (is_moved before.query c item) (λ yes. unmarked (moved i item at_item ∙ yes)) in
            stand_still before c bits item running rows_stay (or_parts (stands_in (columns_of_pred before.query.pred) c) (stands_in (columns_of item.arg) c) still).1 here);
      });
}
  where
    is_false : (b : Bool) → b ≢ true → b ≡ false
    is_false true h = absurd (h refl)
    is_false false h = refl

-- there is room in what stands
pub room_of : (stage : Stage) (runnings : List Tallies) → StandForEach stage runnings → HaveCells stage.query.items (most_cells stage) runnings
room_of stage runnings each = record {
  count = each.count;
  each = λ i item running at_item at_running. (let here = each.each i item running at_item at_running in (here.has_room.kind, here.has_room.room));
}

-- ---- nothing is read

pub opened_cells : OpeningStands → (columns : KnownTable) (groups : List ℕ) (cells : RowCells) → columns ≡ unread_table columns.frame → cells ≡ unread_cells groups columns.frame.columns columns.frame.rows →
    AreCells columns.frame columns.known groups cells
opened_cells opening columns groups cells unread is =
    subst (AreCells columns.frame columns.known groups) (sym is)
    (subst (λ k. AreCells columns.frame k groups (unread_cells groups columns.frame.columns columns.frame.rows)) (sym (ap (λ (t : KnownTable). t.known) unread)) (opening columns.frame groups))

-- ---- few group columns

distinct : (cs : List ℕ) → IsTrue (no_repeats cs) → IsDistinct ◌==◌ cs
unfolding IsDistinct
distinct [] h = tt
distinct (c ∷ cs) h =
    let parts = and_parts (not (list_any (λ y. c == y) cs)) (no_repeats cs) h in
    (apart c cs (not-true _ parts.0), distinct cs parts.1)
  where
    apart : (c : ℕ) (cs : List ℕ) → list_any (λ y. c == y) cs ≡ false → AllByRecursion (λ y. (c == y) ≡ false) cs
    apart c [] h = tt
    apart c (k ∷ cs) h = (let parts = or_parts (c == k) (list_any (λ y. c == y) cs) h in (parts.0, apart c cs parts.1))

-- different columns of a query are at most as many as it has
pub few_groups : (query : Query) (frame : Frame) → IsOpenQuery query frame → length (groups_of query.shape) ≤ length frame.columns
few_groups query frame kept =
    length-le_from_distinct_below (groups_of query.shape) (length frame.columns) (distinct (groups_of query.shape) (shape_once frame query query.shape kept.shape))
    (λ q is. group_below (length frame.columns) (groups_of query.shape) q (groups_within query frame kept) is)

shape_few : (frame : Frame) (query : Query) (shape : Shape) → IsOpenShape frame query shape → sum (map (λ c. planes (ends_at frame c)) (groups_of shape)) ≤ 16
shape_few frame query Plain h = omega arith
shape_few frame query (Grouped columns) h = h.2
shape_few frame query (Top key down limit) h = omega arith

-- the group columns have few planes
pub few_group_planes : (query : Query) (frame : Frame) → IsOpenQuery query frame → sum (map (λ c. planes (ends_at frame c)) (groups_of query.shape)) ≤ 16
few_group_planes query frame kept = shape_few frame query query.shape kept.shape

-- ---- what a cell tells

pub item_running : (stage : Stage) (runnings : List Tallies) (n : ℕ) (i : Aggregate) (running : Tallies) → StandForEach stage runnings → slice_get stage.query.items n ≡ Some i → running ≡ get_or runnings n running → StandForCells stage i running
item_running stage runnings n i running each at is =
    let within = slice_get_within stage.query.items n i at in
    each.each n i running at (read_there runnings runnings n running (omega (arith, within, each.count)) refl is)

-- a cell of one stage is one of the other
pub same_cells : (stage other : Stage) (item one : Aggregate) (running : Tallies) (cell : ℕ) → StandForCells stage item running → StandForCells other one running → cell < cells_in other → cell < cells_in stage
same_cells stage other item one running cell here there within = subst (λ n. cell < n) (sym there.cells ∙ here.cells) within

-- ---- room is taken item by item

pub opened_more : (most : ℕ) (items : List Aggregate) (i : ℕ) (item : Aggregate) (runnings : List Tallies) (running : Tallies) → i < length items → item ≡ get_or items i item → HaveCells (take i items) most runnings →
    IsBlank running item.kind most most → HaveCells (take (i + 1) items) most (runnings ++ running ∷ [])
opened_more most items i item runnings running within there opened blank =
    let more : take (i + 1) items ≡ take i items ++ item ∷ [] = take_more items i item within ∙ ap (λ x. take i items ++ x ∷ []) (sym there) in
    let count : length (runnings ++ running ∷ []) ≡ length (take i items ++ item ∷ []) = simp length-append (omega (arith, opened.count)) in
    subst (λ xs. HaveCells xs most (runnings ++ running ∷ [])) (sym more) (record {
      count = count;
      each = agree_push (λ (it : Aggregate) (r : Tallies). (r.kind ≡ it.kind) × (r.room ≡ most)) (take i items) runnings item running opened.count opened.each (blank.kind_is, blank.room_is);
    })

-- the planes of a group column, and those of the ones before it
pub planes_more : (frame : Frame) (cs : List ℕ) (i column : ℕ) → i < length cs → column ≡ get_or cs i 0 →
    (sum (map (λ c. planes (ends_at frame c)) (take i cs)) + planes (ends_at frame column) ≤ sum (map (λ c. planes (ends_at frame c)) cs))
    × (sum (map (λ c. planes (ends_at frame c)) (take (i + 1) cs)) ≡ sum (map (λ c. planes (ends_at frame c)) (take i cs)) + planes (ends_at frame column))
planes_more frame cs i column within is =
    let f : ℕ → ℕ = λ c. planes (ends_at frame c) in
    let here : get_or (map f cs) i 0 ≡ f column = get_or-map f cs i 0 0 within ∙ ap f (sym is) in
    let long : i < length (map f cs) = subst (λ n. i < n) (sym (length-map cs f)) within in
    let before = ap sum (take-map f i cs) in
    let now = ap sum (take-map f (i + 1) cs) in
    let most = sum_by_more_le (λ n. n) (map f cs) i 0 long in
    let next = sum_by_more (λ n. n) (map f cs) i 0 long in
    (omega (arith, here, before, most), omega (arith, here, before, now, next))

-- what is written over all of a list is all of it
pub written : {X : Type 0} (new rest : List X) (n : ℕ) → length new ≡ n → take n (new ++ rest) ≡ new
written new rest n same = ap (λ k. take k (new ++ rest)) (sym same) ∙ take-append_seam new rest

-- ---- the answers after a plane

-- the rows that were seen are of as many rows
pub seen_held : (stage : Stage) (seen : SeenRows) → WereRows stage seen.must seen.may → HoldSeen stage.frame.rows seen
seen_held stage seen were = record {
  must = rows_of_mask is_certain seen.must _ stage.query.pred (columns_at stage) were.must_is refl;
  may = rows_of_mask is_possible seen.may _ stage.query.pred (columns_at stage) were.may_is refl;
}

-- a plane of a column that the condition does not read leaves them
pub seen_still : (before : Stage) (c : ℕ) (bits : List Bool) (seen : SeenRows) → moves_rows before.query c ≡ false → WereRows before seen.must seen.may → WereRows (stepped before c bits) seen.must seen.may
seen_still before c bits seen stay were =
    let still = fun_ext (λ r. sym (pred_unmoved before.query.pred before.frame before.known c bits r (or_parts (stands_in (columns_of_pred before.query.pred) c) (is_group (groups_of before.query.shape) c) stay).0)) in
    record {
      must_is = were.must_is ∙ ap (λ f. map is_certain (map f (rows_of before.frame))) still;
      may_is = were.may_is ∙ ap (λ f. map is_possible (map f (rows_of before.frame))) still;
    }

-- parted further, with room for the rest
pub parted_holds : (before stage : Stage) (c : ℕ) (bits : List Bool) (groups : Groups) (parted : Groups) → stage ≡ stepped before c bits → AreGroups before groups →
    IsParted (stepped before c bits) parted.cells parted.single.items → parted.presence ≡ groups.presence → parted.runnings ≡ groups.runnings → parted.masks ≡ groups.masks → parted.seen ≡ groups.seen → parted.kept ≡ groups.kept →
    HaveKeptParts (columns_at (stepped before c bits)) before.query.items groups.kept.items → HoldGroups stage parted
parted_holds before stage c bits groups parted read are is presence runnings masks seen same kept = subst (λ (s : Stage). HoldGroups s parted) (sym read) (record {
  grouped = are.grouped;
  parted = is;
  presence = subst (HasRoom (stepped before c bits) every_row) (sym presence) (record { kind = are.presence.has_room.kind; room = are.presence.has_room.room });
  items = subst (λ (v : Vec Tallies Global). HaveCells before.query.items (most_cells before) v.items) (sym runnings) (room_of before groups.runnings.items are.items);
  masks = subst (HoldMasks before.frame.rows) (sym masks) are.masks;
  seen = subst (HoldSeen before.frame.rows) (sym seen) (seen_held before groups.seen are.seen);
  kept = subst (λ (v : Vec KeptParts Global). HaveKeptParts (columns_at (stepped before c bits)) before.query.items v.items) (sym same) kept;
})

-- a column that moves no rows is no group column
pub rows_stay : (query : Query) (c : ℕ) → moves_rows query c ≡ false → is_group (groups_of query.shape) c ≡ false
rows_stay query c stay = (or_parts (stands_in (columns_of_pred query.pred) c) (is_group (groups_of query.shape) c) stay).1

-- of what is kept for each item, one has its item
pub running_item : (stage : Stage) (runnings read : List Tallies) (n : ℕ) (running : Tallies) → StandForEach stage runnings → n < length runnings → read ≡ runnings → running ≡ get_or read n running →
    (i : Aggregate) × (slice_get stage.query.items n ≡ Some i) × StandForCells stage i running
running_item stage runnings read n running each within same is =
    item_of (λ j i r. StandForCells stage i r) stage.query.items runnings n running each (read_there runnings read n running within same is)
