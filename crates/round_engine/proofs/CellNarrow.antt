-- Whether the bounds of cells are narrow, at a stage.
use Rattle.std.proofs.Common.{◌≡◌, ℕ, ◌+◌, ◌<◌, ◌^◌, ◌==◌, suc, Bool, true, false, List, [], ◌∷◌, length, get_or, slice_get, take, Some, refl, sym, ap, subst, ◌∙◌, arith, if◌then◌else◌}
use Rattle.std.specs.List.{list_all, range_with_len}
use Rattle.std.proofs.lemmas.Bool.{and_from}
use Rattle.std.proofs.lemmas.List.Folds.{list_all-append, list_all_at, list_all_more}
use Rattle.std.proofs.lemmas.List.FromFn.{get_or-range_with_len, length-range_with_len}
use Rattle.std.proofs.lemmas.Option.{get_or_from_slice_get, slice_get_within}
use Rattle.aggregates.specs.Runnings.{StandsFor, Tallies}
use Rattle.plane_schedule.specs.declared.policy.Nearness.{Nearness}
use Rattle.query_model.specs.declared.query.ItemKind.TheVariants.{Avg}
use Rattle.query_model.specs.declared.query.Shape.{Shape}
use Rattle.query_model.specs.declared.query.Shape.TheVariants.{Plain, Grouped, Top}
use Rattle.query_model.specs.declared.bounds.Truth.TheVariants.{False}
use Rattle.query_model.specs.Answers.{groups_of}
use Rattle.query_model.specs.Bounds.{Pair, average_bound_of}
use Rattle.query_model.specs.Groups.{cell_count, cell_of, pairs_in_cell, truth_in_cell}
use Rattle.query_model.specs.Knowledge.{IsKnowledge, ranges_of}
use Rattle.query_model.specs.Laws.{PairsAreFew}
use Rattle.query_model.specs.Queries.{Aggregate}
use Rattle.query_model.specs.Truths.{and_of, span_of, truth_of}
use Rattle.query_model.specs.Validity.{FitsKind, declared_ranges}
use Rattle.round_engine.specs.declared.groups.Groups.{Groups}
use Rattle.round_engine.specs.CellAnswers.{AreGroups, FitsInCell, StandForCells}
use Rattle.round_engine.specs.Cells.{cells_in}
use Rattle.round_engine.specs.Narrowness.{FitsNarrow, is_narrow, is_narrow_cell, is_narrow_form, is_narrow_item}
use Rattle.round_engine.specs.Stages.{IsGrouped, IsOpenStage, Stage}
use Rattle.round_engine.proofs.CellKept.{running_item, same_cells}
use Rattle.round_engine.proofs.Kept.{open_item_at}
use Rattle.round_engine.proofs.Ratios.{average_fits}
use Rattle.round_engine.proofs.RowPairs.{range-more}
use Rattle.round_engine.proofs.Shown.{AreWithin, rows_within}

-- the ends of the pairs of a cell lie in the declared span
pub cell_pairs_within : (stage : Stage) (item : Aggregate) (cell : ℕ) → IsKnowledge stage.frame stage.known →
    AreWithin (span_of item.arg (declared_ranges stage.frame)) (pairs_in_cell stage.query item cell stage.frame stage.known)
cell_pairs_within stage item cell k =
    let groups = groups_of stage.query.shape in
    rows_within (λ r. and_of (truth_of stage.query.pred (ranges_of stage.frame stage.known r)) (if cell_of stage.known groups r == cell then truth_in_cell groups (ranges_of stage.frame stage.known r) else False))
    item stage.frame stage.known 0 stage.frame.rows k (omega arith)

ratios_fit : (stage : Stage) (n width cell : ℕ) (i : Aggregate) → PairsAreFew → IsOpenStage stage → slice_get stage.query.items n ≡ Some i → i.kind ≡ Avg → width < 2 ^ 63 →
    FitsNarrow width (average_bound_of (pairs_in_cell stage.query i cell stage.frame stage.known))
ratios_fit stage n width cell i few kept is kind narrow =
    let span = span_of i.arg (declared_ranges stage.frame) in
    let fits : FitsKind Avg stage.frame.rows span = subst (λ k. FitsKind k stage.frame.rows span) kind (open_item_at stage n i kept is).fits.1 in
    average_fits width stage.frame.rows span (pairs_in_cell stage.query i cell stage.frame stage.known) (cell_pairs_within stage i cell kept.knowledge)
    ((few stage.query i stage.frame stage.known stage.frame.rows).in_cell cell) kept.open_query.few_rows narrow fits.1

pub fits_in_cell : (stage : Stage) (n width cell : ℕ) (i : Aggregate) (running : Tallies) → PairsAreFew → IsOpenStage stage → slice_get stage.query.items n ≡ Some i → width < 2 ^ 63 → cell < cells_in stage →
    StandForCells stage i running → FitsInCell width cell running
fits_in_cell stage n width cell i running few kept at narrow within stand = record {
  pairs = pairs_in_cell stage.query i cell stage.frame stage.known;
  stands = stand.stands cell within;
  fits = λ average. ratios_fit stage n width cell i few kept at (sym stand.has_room.kind ∙ average) narrow;
}

-- whether an item is narrow in a cell
abbrev pub narrow_in : ℕ → ℕ → Stage → Aggregate → Bool
narrow_in width cell stage item = is_narrow_item width item.kind (pairs_in_cell stage.query item cell stage.frame stage.known)

narrow_shape : (near : Nearness) (stage : Stage) (shape : Shape) → IsGrouped shape → is_narrow_form near stage shape ≡ list_all (is_narrow_cell near.width stage) (range_with_len 0 (cell_count stage.known (groups_of shape)))
narrow_shape near stage Plain h = absurd h
narrow_shape near stage (Grouped columns) h = refl
narrow_shape near stage (Top key down limit) h = absurd h

-- a stage with groups is narrow where each cell is
pub narrow_cells : (near : Nearness) (stage : Stage) → IsGrouped stage.query.shape → is_narrow near stage ≡ list_all (is_narrow_cell near.width stage) (range_with_len 0 (cells_in stage))
narrow_cells near stage h = narrow_shape near stage stage.query.shape h

-- ---- item by item

module _ {X : Type 0} (p : X → Bool) (xs : List X) (n : ℕ) (x : X) (at : slice_get xs n ≡ Some x) where
  pub all_more : list_all p (take n xs) ≡ true → p x ≡ true → list_all p (take (n + 1) xs) ≡ true
  all_more before here =
      list_all_more p xs n x (slice_get_within xs n x at) ∙ and_from (list_all p (take n xs)) (p (get_or xs n x)) before (ap p (get_or_from_slice_get xs n x x at) ∙ here)

  pub not_all : p x ≡ false → list_all p xs ≡ false
  not_all here = list_all_at p xs n x (slice_get_within xs n x at) (ap p (get_or_from_slice_get xs n x x at) ∙ here)

-- what is told of an item at a cell is so at each stage of which these are the answers
pub item_told : (stage other : Stage) (groups : Groups) (read : List Tallies) (n width cell : ℕ) (running : Tallies) (told : Bool) → AreGroups stage groups → AreGroups other groups → cell < cells_in other →
    n < length read → read ≡ groups.runnings.items → running ≡ get_or read n running → ((ps : List Pair) → StandsFor running cell ps → told ≡ is_narrow_item width running.kind ps) →
    (i : Aggregate) × (slice_get stage.query.items n ≡ Some i) × (told ≡ narrow_in width cell stage i)
item_told stage other groups read n width cell running told are were within inside same is tells =
    let within_list = subst (λ (rs : List Tallies). n < length rs) same inside in
    let (i, at, stand) = running_item stage groups.runnings.items read n running are.items within_list same is in
    let (j, there, stood) = running_item other groups.runnings.items read n running were.items within_list same is in
    let ps = pairs_in_cell stage.query i cell stage.frame stage.known in
    (i, at, tells ps (stand.stands cell (same_cells stage other i j running cell stand stood within)) ∙ ap (λ k. is_narrow_item width k ps) stand.has_room.kind)

-- ---- cell by cell

pub cells_more : (p : ℕ → Bool) (n : ℕ) → list_all p (range_with_len 0 n) ≡ true → p n ≡ true → list_all p (range_with_len 0 (n + 1)) ≡ true
cells_more p n before here =
    let up : n + 1 ≡ suc n = omega arith in
    let from_none : 0 + n ≡ n = omega arith in
    ap (λ k. list_all p (range_with_len 0 k)) up ∙ ap (list_all p) (range-more 0 n) ∙ list_all-append p (range_with_len 0 n) ((0 + n) ∷ [])
    ∙ and_from _ _ before (and_from _ _ (ap p from_none ∙ here) refl)

pub not_all_cells : (p : ℕ → Bool) (n count : ℕ) → n < count → p n ≡ false → list_all p (range_with_len 0 count) ≡ false
not_all_cells p n count within here =
    let from_none : 0 + n ≡ n = omega arith in
    list_all_at p (range_with_len 0 count) n 0 (subst (λ k. n < k) (sym (length-range_with_len 0 count)) within) (ap p (get_or-range_with_len 0 count n 0 within ∙ from_none) ∙ here)
