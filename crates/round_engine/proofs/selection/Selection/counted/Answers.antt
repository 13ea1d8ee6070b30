use Rattle.std.proofs.Common.{◌≡◌, length, ap, sym, subst, ◌∙◌}
use Rattle.std.proofs.lemmas.List.{length-map}
use Rattle.std.proofs.lemmas.List.FromFn.{length-map-range_with_len}
use Rattle.kleene_filter.specs.Filters.{is_certain, is_possible, truth_at}
use Rattle.query_model.specs.Queries.{Aggregate}
use Rattle.query_model.specs.Truths.{span_of}
use Rattle.query_model.specs.Validity.{FitsSum, declared_ranges}
use Rattle.round_engine.specs.Selected.{HasRows}
use Rattle.round_engine.proofs.CountedSums.{fits_sum, kept_part, kept_told, kept_values}
use Rattle.round_engine.proofs.selection.Selection.counted.Goals as goal

pub select_passing-requires : goal.select_passing-requires
select_passing-requires c =
    let long : length c.args.filter.now.truths ≡ c.args.columns.now.frame.rows =
    ap length c.requires.judged ∙ length-map-range_with_len (truth_at c.args.query.now.pred c.args.columns.now) 0 c.args.columns.now.frame.rows in
    record { room = subst (λ n. HasRows n c.args.self.now) (sym long) c.requires.room }

pub keep_valued-requires-clause-room : goal.keep_valued-requires-clause-room
keep_valued-requires-clause-room c =
    let truths = c.args.filter.now.truths in
    let long : length truths ≡ c.args.columns.now.frame.rows = ap length c.requires.judged ∙ length-map-range_with_len (truth_at c.args.query.now.pred c.args.columns.now) 0 c.args.columns.now.frame.rows in
    record { may = ap length c.select_passing.ensures.may ∙ length-map truths is_possible ∙ long; must = ap length c.select_passing.ensures.must ∙ length-map truths is_certain ∙ long }

pub kept_tally-requires-clause-fits : goal.kept_tally-requires-clause-fits
kept_tally-requires-clause-fits c =
    let by = c.is_by_counts.ensures c.if-not-is_by_counts.false in
    subst (λ t. FitsSum c.args.columns.now.frame.rows (span_of t (declared_ranges c.args.columns.now.frame))) (sym (ap (λ (i : Aggregate). i.arg) c.item.view_is)) (fits_sum c.args.item.now.kind c.args.columns.now.frame.rows _ by.kind c.requires.open_item.fits.1)

pub kept_tally-requires-clause-must : goal.kept_tally-requires-clause-must
kept_tally-requires-clause-must c =
    kept_part c.args.query.now c.args.item.now c.args.columns.now c.requires.plain c.args.filter.now.truths c.requires.judged _ _ (ap (λ (i : Aggregate). i.kind) c.item.view_is) (ap (λ (i : Aggregate). i.arg) c.item.view_is)
    c.select_passing.new.self c.keep_valued.new.self c.keep_valued.ensures.room c.select_passing.ensures.may c.select_passing.ensures.must c.keep_valued.ensures.may c.keep_valued.ensures.must

pub kept_tally-requires-clause-values : goal.kept_tally-requires-clause-values
kept_tally-requires-clause-values c =
    kept_values c.args.query.now c.args.item.now c.args.columns.now c.requires.plain c.args.filter.now.truths c.requires.judged _ _ (ap (λ (i : Aggregate). i.kind) c.item.view_is) (ap (λ (i : Aggregate). i.arg) c.item.view_is)
    c.select_passing.new.self c.keep_valued.new.self c.keep_valued.ensures.room c.select_passing.ensures.may c.select_passing.ensures.must c.keep_valued.ensures.may c.keep_valued.ensures.must

pub returns-clause-told : goal.returns-clause-told
returns-clause-told c =
    kept_told c.args.query.now c.args.item.now c.args.columns.now c.requires.plain c.args.filter.now.truths c.requires.judged _ _ (ap (λ (i : Aggregate). i.kind) c.item.view_is) (ap (λ (i : Aggregate). i.arg) c.item.view_is)
    c.select_passing.new.self c.keep_valued.new.self c.keep_valued.ensures.room c.select_passing.ensures.may c.select_passing.ensures.must c.keep_valued.ensures.may c.keep_valued.ensures.must c.kept_tally.result c.kept_tally.ensures.tally
