use Rattle.std.proofs.Common.{ap, sym, subst}
use Rattle.query_model.specs.Queries.{Aggregate}
use Rattle.query_model.specs.Truths.{span_of}
use Rattle.query_model.specs.Validity.{FitsSum, declared_ranges}
use Rattle.round_engine.proofs.CountedCells.{part_nested, part_room, part_told, part_values}
use Rattle.round_engine.proofs.CountedSums.{fits_sum}
use Rattle.round_engine.proofs.one_cell.CellMasks.counted_part.Goals as goal

pub keep_valued-requires-clause-room : goal.keep_valued-requires-clause-room
keep_valued-requires-clause-room c =
    part_room c.args.query.now c.args.item.now c.args.columns.now c.args.part.place.cell c.args.part.certain c.args.part.within.now c.requires.part c.args.filter.now.truths c.requires.judged
    c.args.self.now.none c.requires.masks.none c.select_passing_within.new.self c.select_passing_within.ensures.may c.select_passing_within.ensures.must

pub kept_tally-requires-clause-fits : goal.kept_tally-requires-clause-fits
kept_tally-requires-clause-fits c =
    subst (λ t. FitsSum c.args.columns.now.frame.rows (span_of t (declared_ranges c.args.columns.now.frame))) (sym (ap (λ (i : Aggregate). i.arg) c.item.view_is))
    (fits_sum c.args.item.now.kind c.args.columns.now.frame.rows _ c.requires.by_counts.kind c.requires.open_item.fits.1)

pub kept_tally-requires-clause-must : goal.kept_tally-requires-clause-must
kept_tally-requires-clause-must c =
    part_nested c.args.query.now c.args.item.now c.args.columns.now c.args.part.place.cell c.args.part.certain c.args.part.within.now c.requires.part c.args.filter.now.truths c.requires.judged _ _ (ap (λ (i : Aggregate). i.kind) c.item.view_is) (ap (λ (i : Aggregate). i.arg) c.item.view_is)
    c.args.self.now.none c.requires.masks.none c.select_passing_within.new.self c.keep_valued.new.self c.keep_valued.ensures.room c.select_passing_within.ensures.may c.select_passing_within.ensures.must c.keep_valued.ensures.may c.keep_valued.ensures.must

pub kept_tally-requires-clause-values : goal.kept_tally-requires-clause-values
kept_tally-requires-clause-values c =
    part_values c.args.query.now c.args.item.now c.args.columns.now c.args.part.place.cell c.args.part.certain c.args.part.within.now c.requires.part c.args.filter.now.truths c.requires.judged _ _ (ap (λ (i : Aggregate). i.kind) c.item.view_is) (ap (λ (i : Aggregate). i.arg) c.item.view_is)
    c.args.self.now.none c.requires.masks.none c.select_passing_within.new.self c.keep_valued.new.self c.keep_valued.ensures.room c.select_passing_within.ensures.may c.select_passing_within.ensures.must c.keep_valued.ensures.may c.keep_valued.ensures.must

pub returns-clause-tally : goal.returns-clause-tally
returns-clause-tally c =
    part_told c.args.query.now c.args.item.now c.args.columns.now c.args.part.place.cell c.args.part.certain c.args.part.within.now c.requires.part c.args.filter.now.truths c.requires.judged _ _ (ap (λ (i : Aggregate). i.kind) c.item.view_is) (ap (λ (i : Aggregate). i.arg) c.item.view_is)
    c.args.self.now.none c.requires.masks.none c.select_passing_within.new.self c.keep_valued.new.self c.keep_valued.ensures.room c.select_passing_within.ensures.may c.select_passing_within.ensures.must c.keep_valued.ensures.may c.keep_valued.ensures.must
    c.kept_tally.result c.kept_tally.ensures.tally
