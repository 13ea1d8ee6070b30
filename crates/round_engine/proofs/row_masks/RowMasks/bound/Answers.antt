use Rattle.std.proofs.Common.{◌≡◌, false, length, map, sym, ap, subst, ◌∙◌, arith}
use Rattle.std.specs.Prelude.{IfSome}
use Rattle.std.proofs.lemmas.List.{length-map}
use Rattle.std.proofs.lemmas.List.FromFn.{length-map-range_with_len}
use Rattle.aggregates.specs.KeptExtremes.{HoldCandidates}
use Rattle.kleene_filter.specs.Filters.{is_certain, is_possible, truth_at}
use Rattle.known_column.specs.Columns.{rows_of_column}
use Rattle.query_model.specs.Meaning.{ReadsBelow}
use Rattle.round_engine.specs.KeptItems.{extreme_of}
use Rattle.round_engine.specs.Selected.{HasRows, IsSelection, pairs_in}
use Rattle.round_engine.specs.Totals.{IsBoundOf}
use Rattle.round_engine.specs.Engines.{stage_of}
use Rattle.round_engine.proofs.Covers.{all_cover, settled_cover}
use Rattle.round_engine.proofs.KeptItems.{extreme_kept, extreme_told, gives_are}
use Rattle.round_engine.proofs.KeptSums.{followed_null, followed_truths, follows_null, follows_truths, kept_of}
use Rattle.round_engine.proofs.SelectedPairs.{never_null, selected_pairs, selection_is}
use Rattle.round_engine.proofs.row_masks.RowMasks.bound.Goals as goal

pub column-known-requires : goal.column-known-requires
column-known-requires c = subst (ReadsBelow (length c.args.columns.now.frame.columns)) c.requires.column c.requires.open_item.columns

pub select-requires : goal.select-requires
select-requires c = record {
  room = subst (λ n. HasRows n c.args.self.now.selection) (sym c.column-known.ensures.rows) c.requires.room.selection;
  rows = ap length c.requires.judged ∙ length-map-range_with_len (truth_at c.args.query.now.pred c.args.columns.now) 0 c.args.columns.now.frame.rows ∙ sym c.column-known.ensures.rows;
}

pub select_all-requires-clause-rows : goal.select_all-requires-clause-rows
select_all-requires-clause-rows c = ap length c.requires.judged ∙ length-map-range_with_len (truth_at c.args.query.now.pred c.args.columns.now) 0 c.args.columns.now.frame.rows ∙ sym c.column-known.ensures.rows

pub bound-requires-clause-selection : goal.bound-requires-clause-selection
bound-requires-clause-selection c =
    selection_is c.args.query.now c.args.item.now c.args.columns.now c.requires.plain c.args.filter.now.truths c.requires.judged c.column-known.result.now c.args.column c.requires.column
    c.column-known.ensures.column c.column-known.ensures.rows c.lend.result (ap (λ s. s.may) c.lend.ensures ∙ c.select.ensures.may) (ap (λ s. s.must) c.lend.ensures ∙ c.select.ensures.must)

pub bound-requires-else-nullable-clause-selection : goal.bound-requires-else-nullable-clause-selection
bound-requires-else-nullable-clause-selection c =
    selection_is c.args.query.now c.args.item.now c.args.columns.now c.requires.plain c.args.filter.now.truths c.requires.judged c.column-known.result.now c.args.column c.requires.column
    c.column-known.ensures.column c.column-known.ensures.rows c.select_all.result c.select_all.ensures.may c.select_all.ensures.must

pub bound-requires-clause-blocks : goal.bound-requires-clause-blocks
bound-requires-clause-blocks c =
    let is : IsSelection c.column-known.result.now c.lend.result =
    selection_is c.args.query.now c.args.item.now c.args.columns.now c.requires.plain c.args.filter.now.truths c.requires.judged c.column-known.result.now c.args.column c.requires.column
    c.column-known.ensures.column c.column-known.ensures.rows c.lend.result (ap (λ s. s.may) c.lend.ensures ∙ c.select.ensures.may) (ap (λ s. s.must) c.lend.ensures ∙ c.select.ensures.must) in
    all_cover c.lend.result.may c.lend.result.must c.args.self.now.blocks (is.rows.must ∙ sym is.rows.may) (omega (arith, is.rows.may, c.column-known.ensures.rows, c.requires.room.room)) c.requires.room.each

pub bound-requires-else-nullable-clause-blocks : goal.bound-requires-else-nullable-clause-blocks
bound-requires-else-nullable-clause-blocks c =
    let known = c.column-known.result.now in
    let truths = c.args.filter.now.truths in
    let long : length truths ≡ rows_of_column known =
    ap length c.requires.judged ∙ length-map-range_with_len (truth_at c.args.query.now.pred c.args.columns.now) 0 c.args.columns.now.frame.rows ∙ sym c.column-known.ensures.rows in
    let plain : known.ends.nullable ≡ false = sym c.nullable.ensures ∙ c.if-nullable.false in
    let may : c.select_all.result.may ≡ map is_possible truths = c.select_all.ensures.may ∙ sym (never_null known (map is_possible truths) plain (length-map truths is_possible ∙ long)).1 in
    let must : c.select_all.result.must ≡ map is_certain truths = c.select_all.ensures.must ∙ sym (never_null known (map is_certain truths) plain (length-map truths is_certain ∙ long)).0 in
    settled_cover truths c.select_all.result.may c.select_all.result.must c.undecided.result.now may must c.undecided.ensures

pub returns-then-nullable-clause-room : goal.returns-then-nullable-clause-room
returns-then-nullable-clause-room c =
    let is : IsSelection c.column-known.result.now c.select.new.self =
    selection_is c.args.query.now c.args.item.now c.args.columns.now c.requires.plain c.args.filter.now.truths c.requires.judged c.column-known.result.now c.args.column c.requires.column
    c.column-known.ensures.column c.column-known.ensures.rows c.select.new.self c.select.ensures.may c.select.ensures.must in
    record { selection = subst (λ n. HasRows n c.select.new.self) c.column-known.ensures.rows is.rows; room = c.requires.room.room; tight = c.requires.room.tight; each = c.requires.room.each }

pub returns-then-nullable-clause-bound : goal.returns-then-nullable-clause-bound
returns-then-nullable-clause-bound c =
    let same =
    selected_pairs c.args.query.now c.args.item.now c.args.columns.now c.requires.plain c.args.filter.now.truths c.requires.judged c.column-known.result.now c.args.column c.requires.column
    c.column-known.ensures.column c.column-known.ensures.rows c.lend.result (ap (λ s. s.may) c.lend.ensures ∙ c.select.ensures.may) (ap (λ s. s.must) c.lend.ensures ∙ c.select.ensures.must) in
    subst (λ ps. IsBoundOf c.args.item.now.kind ps c.bound.result) (sym same)
    (subst (λ k. IsBoundOf k (pairs_in c.column-known.result.now c.lend.result) c.bound.result) (ap (λ i. i.kind) c.item.view_is) c.bound.ensures.bound)

pub returns-else-nullable-clause-bound : goal.returns-else-nullable-clause-bound
returns-else-nullable-clause-bound c =
    let same =
    selected_pairs c.args.query.now c.args.item.now c.args.columns.now c.requires.plain c.args.filter.now.truths c.requires.judged c.column-known.result.now c.args.column c.requires.column
    c.column-known.ensures.column c.column-known.ensures.rows c.select_all.result c.select_all.ensures.may c.select_all.ensures.must in
    subst (λ ps. IsBoundOf c.args.item.now.kind ps c.bound-else-nullable.result) (sym same)
    (subst (λ k. IsBoundOf k (pairs_in c.column-known.result.now c.select_all.result) c.bound-else-nullable.result) (ap (λ i. i.kind) c.item.view_is) c.bound-else-nullable.ensures.bound)

pub bound-requires-clause-kept : goal.bound-requires-clause-kept
bound-requires-clause-kept c = kept_of (stage_of c.args.query.now c.args.columns.now) c.args.column c.column-known.result.now c.args.kept.now.sum c.column-known.ensures.column c.requires.kept

pub bound-requires-else-nullable-clause-kept : goal.bound-requires-else-nullable-clause-kept
bound-requires-else-nullable-clause-kept c = kept_of (stage_of c.args.query.now c.args.columns.now) c.args.column c.column-known.result.now c.args.kept.now.sum c.column-known.ensures.column c.requires.kept

pub bound-requires-clause-moves : goal.bound-requires-clause-moves
bound-requires-clause-moves c =
    let known = c.column-known.result.now in
    let column = c.column-known.ensures.column in
    let is : IsSelection known c.lend.result =
    selection_is c.args.query.now c.args.item.now c.args.columns.now c.requires.plain c.args.filter.now.truths c.requires.judged known c.args.column c.requires.column
    column c.column-known.ensures.rows c.lend.result (ap (λ s. s.may) c.lend.ensures ∙ c.select.ensures.may) (ap (λ s. s.must) c.lend.ensures ∙ c.select.ensures.must) in
    follows_null (stage_of c.args.query.now c.args.columns.now) c.args.column c.args.kept.now.sum c.lend.result.must c.args.self.now.blocks (sym (ap rows_of_column column) ∙ c.column-known.ensures.rows)
    (sym (ap (λ k. k.ends.nullable) column) ∙ sym c.nullable.ensures ∙ c.if-nullable.true) (is.rows.must ∙ c.column-known.ensures.rows) c.requires.room.room c.requires.room.tight c.requires.kept

pub bound-requires-else-nullable-clause-moves : goal.bound-requires-else-nullable-clause-moves
bound-requires-else-nullable-clause-moves c =
    let known = c.column-known.result.now in
    let column = c.column-known.ensures.column in
    let truths = c.args.filter.now.truths in
    let long : length truths ≡ rows_of_column known =
    ap length c.requires.judged ∙ length-map-range_with_len (truth_at c.args.query.now.pred c.args.columns.now) 0 c.args.columns.now.frame.rows ∙ sym c.column-known.ensures.rows in
    let plain : known.ends.nullable ≡ false = sym c.nullable.ensures ∙ c.if-nullable.false in
    let must : c.select_all.result.must ≡ map is_certain truths = c.select_all.ensures.must ∙ sym (never_null known (map is_certain truths) plain (length-map truths is_certain ∙ long)).0 in
    follows_truths (stage_of c.args.query.now c.args.columns.now) c.args.column c.args.kept.now.sum truths c.select_all.result.must c.undecided.result.now (sym (ap rows_of_column column) ∙ c.column-known.ensures.rows)
    c.requires.judged must (ap length must ∙ length-map truths is_certain ∙ long ∙ c.column-known.ensures.rows) c.undecided.ensures c.requires.kept

pub returns-then-nullable-clause-kept : goal.returns-then-nullable-clause-kept
returns-then-nullable-clause-kept c =
    followed_null (stage_of c.args.query.now c.args.columns.now) c.args.column c.column-known.result.now c.args.kept.now.sum c.bound.new.kept.sum c.lend.result.must c.args.self.now.blocks c.column-known.ensures.column
    c.requires.room.room c.requires.room.tight c.requires.room.each c.requires.kept c.bound.ensures.kept c.bound.ensures.followed

pub returns-else-nullable-clause-kept : goal.returns-else-nullable-clause-kept
returns-else-nullable-clause-kept c =
    let known = c.column-known.result.now in
    let truths = c.args.filter.now.truths in
    let long : length truths ≡ rows_of_column known =
    ap length c.requires.judged ∙ length-map-range_with_len (truth_at c.args.query.now.pred c.args.columns.now) 0 c.args.columns.now.frame.rows ∙ sym c.column-known.ensures.rows in
    let plain : known.ends.nullable ≡ false = sym c.nullable.ensures ∙ c.if-nullable.false in
    let must : c.select_all.result.must ≡ map is_certain truths = c.select_all.ensures.must ∙ sym (never_null known (map is_certain truths) plain (length-map truths is_certain ∙ long)).0 in
    followed_truths (stage_of c.args.query.now c.args.columns.now) c.args.column known c.args.kept.now.sum c.bound-else-nullable.new.kept.sum truths c.select_all.result.must c.undecided.result.now c.column-known.ensures.column plain
    c.requires.judged must (ap length must ∙ length-map truths is_certain ∙ long ∙ c.column-known.ensures.rows) c.undecided.ensures c.requires.kept c.bound-else-nullable.ensures.kept c.bound-else-nullable.ensures.followed

pub bound-requires-else-nullable-clause-told : goal.bound-requires-else-nullable-clause-told
bound-requires-else-nullable-clause-told c =
    let known = c.column-known.result.now in
    let truths = c.args.filter.now.truths in
    let long : length truths ≡ rows_of_column known =
    ap length c.requires.judged ∙ length-map-range_with_len (truth_at c.args.query.now.pred c.args.columns.now) 0 c.args.columns.now.frame.rows ∙ sym c.column-known.ensures.rows in
    let plain : known.ends.nullable ≡ false = sym c.nullable.ensures ∙ c.if-nullable.false in
    let may : c.select_all.result.may ≡ map is_possible truths = c.select_all.ensures.may ∙ sym (never_null known (map is_possible truths) plain (length-map truths is_possible ∙ long)).1 in
    let must : c.select_all.result.must ≡ map is_certain truths = c.select_all.ensures.must ∙ sym (never_null known (map is_certain truths) plain (length-map truths is_certain ∙ long)).0 in
    c.counts_of-counts.ensures c.select_all.result may must

pub bound-requires-clause-extreme : goal.bound-requires-clause-extreme
bound-requires-clause-extreme c =
    let stage = stage_of c.args.query.now c.args.columns.now in
    let known = c.column-known.result.now in
    let rows = c.lend.result in
    let gives =
    gives_are stage c.args.column known c.args.filter.now.truths rows.may rows.must c.column-known.ensures.column c.requires.judged (ap (λ s. s.may) c.lend.ensures ∙ c.select.ensures.may) (ap (λ s. s.must) c.lend.ensures ∙ c.select.ensures.must) in
    subst (λ k. IfSome c.args.kept.now.extreme (HoldCandidates (extreme_of k) known rows.may rows.must)) (sym (ap (λ i. i.kind) c.item.view_is))
    (extreme_told stage c.args.column c.args.item.now.kind c.args.kept.now.extreme known rows.may rows.must c.column-known.ensures.column gives c.requires.extreme)

pub bound-requires-else-nullable-clause-extreme : goal.bound-requires-else-nullable-clause-extreme
bound-requires-else-nullable-clause-extreme c =
    let stage = stage_of c.args.query.now c.args.columns.now in
    let known = c.column-known.result.now in
    let rows = c.select_all.result in
    let gives = gives_are stage c.args.column known c.args.filter.now.truths rows.may rows.must c.column-known.ensures.column c.requires.judged c.select_all.ensures.may c.select_all.ensures.must in
    subst (λ k. IfSome c.args.kept.now.extreme (HoldCandidates (extreme_of k) known rows.may rows.must)) (sym (ap (λ i. i.kind) c.item.view_is))
    (extreme_told stage c.args.column c.args.item.now.kind c.args.kept.now.extreme known rows.may rows.must c.column-known.ensures.column gives c.requires.extreme)

pub returns-then-nullable-clause-extreme : goal.returns-then-nullable-clause-extreme
returns-then-nullable-clause-extreme c =
    let stage = stage_of c.args.query.now c.args.columns.now in
    let known = c.column-known.result.now in
    let rows = c.lend.result in
    let gives =
    gives_are stage c.args.column known c.args.filter.now.truths rows.may rows.must c.column-known.ensures.column c.requires.judged (ap (λ s. s.may) c.lend.ensures ∙ c.select.ensures.may) (ap (λ s. s.must) c.lend.ensures ∙ c.select.ensures.must) in
    extreme_kept stage c.args.column c.args.item.now.kind c.bound.new.kept.extreme known rows.may rows.must c.column-known.ensures.column gives
    (subst (λ k. IfSome c.bound.new.kept.extreme (HoldCandidates (extreme_of k) known rows.may rows.must)) (ap (λ i. i.kind) c.item.view_is) c.bound.ensures.extreme)

pub returns-else-nullable-clause-extreme : goal.returns-else-nullable-clause-extreme
returns-else-nullable-clause-extreme c =
    let stage = stage_of c.args.query.now c.args.columns.now in
    let known = c.column-known.result.now in
    let rows = c.select_all.result in
    let gives = gives_are stage c.args.column known c.args.filter.now.truths rows.may rows.must c.column-known.ensures.column c.requires.judged c.select_all.ensures.may c.select_all.ensures.must in
    extreme_kept stage c.args.column c.args.item.now.kind c.bound-else-nullable.new.kept.extreme known rows.may rows.must c.column-known.ensures.column gives
    (subst (λ k. IfSome c.bound-else-nullable.new.kept.extreme (HoldCandidates (extreme_of k) known rows.may rows.must)) (ap (λ i. i.kind) c.item.view_is) c.bound-else-nullable.ensures.extreme)
