use Rattle.std.proofs.Common.{arith}
use Rattle.kleene_filter.specs.Filters.{is_certain, is_possible}
use Rattle.round_engine.proofs.RowPairs.{rows_of_mask}
use Rattle.round_engine.proofs.seen_rows.SeenRows.take.Goals as goal

pub copy_from-requires : goal.copy_from-requires
copy_from-requires c = omega (arith, c.requires.rows.must, rows_of_mask is_certain c.must.result.now c.args.filter.now.truths c.args.query.now.pred c.args.columns.now c.must.ensures c.requires.judged)

pub copy_from-requires-2 : goal.copy_from-requires-2
copy_from-requires-2 c = omega (arith, c.requires.rows.may, rows_of_mask is_possible c.may.result.now c.args.filter.now.truths c.args.query.now.pred c.args.columns.now c.may.ensures c.requires.judged)
