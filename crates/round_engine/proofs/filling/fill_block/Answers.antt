use Rattle.std.proofs.Common.{◌≡◌, ap, subst, arith}
use Rattle.std.specs.Int.Bits.{bit_and}
use Rattle.kleene_filter.specs.Filters.{is_certain, is_possible}
use Rattle.kleene_filter.proofs.WordBits.{digit-and}
use Rattle.query_model.specs.Queries.{term_of}
use Rattle.row_values.specs.BlockValues.{AreValues}
use Rattle.round_engine.proofs.FilledBlocks.{AreFilterWords, filled_block, filter_bit, may_add_block}
use Rattle.round_engine.proofs.RowPairs.{rows_of_mask}
use Rattle.round_engine.proofs.filling.fill_block.Goals as goal

pub word-requires : goal.word-requires
word-requires c = omega (arith, c.requires.rows, rows_of_mask is_possible c.may.result.now c.args.filter.now.truths c.args.query.now.pred c.args.columns.now c.may.ensures c.requires.judged)

pub word-requires-2 : goal.word-requires-2
word-requires-2 c = omega (arith, c.requires.rows, rows_of_mask is_certain c.must.result.now c.args.filter.now.truths c.args.query.now.pred c.args.columns.now c.must.ensures c.requires.judged)

pub add_block-requires-clause-room : goal.add_block-requires-clause-room
add_block-requires-clause-room c =
    let query = c.args.query.now in
    let item = c.args.item.now in
    let columns = c.args.columns.now in
    let number = c.args.number in
    let values = c.read.new.self in
    let arg : term_of c.item.inside.arg ≡ item.arg = ap (λ i. i.arg) c.item.view_is in
    let read = subst (λ e. AreValues e columns number values) arg c.read.ensures.values in
    let words : AreFilterWords query columns number c.word.result c.word-2.result = record {
      may_bit = λ r below. filter_bit is_possible c.may.result.now c.args.filter.now.truths query.pred columns c.word.result number r c.may.ensures c.requires.judged c.word.ensures below;
      must_bit = λ r below. filter_bit is_certain c.must.result.now c.args.filter.now.truths query.pred columns c.word-2.result number r c.must.ensures c.requires.judged c.word-2.ensures below;
    } in
    let long = c.read.ensures.values.count in
    may_add_block query item columns number c.requires.plain values c.word.result c.word-2.result c.min-count.result c.requires.rows (omega arith) long words read
    (bit_and c.word.result values.possible) (bit_and c.word-2.result values.sure) (λ r. digit-and r c.word.result values.possible) (λ r. digit-and r c.word-2.result values.sure)
    c.pairs_are_few.ensures c.sums_of_items_fit.ensures c.requires.open_stage.open_query.few_rows c.requires.open_stage.knowledge c.requires.open_item.fits c.args.running.now c.requires.filled

pub returns-clause-filled : goal.returns-clause-filled
returns-clause-filled c =
    let query = c.args.query.now in
    let item = c.args.item.now in
    let columns = c.args.columns.now in
    let number = c.args.number in
    let values = c.read.new.self in
    let arg : term_of c.item.inside.arg ≡ item.arg = ap (λ i. i.arg) c.item.view_is in
    let read = subst (λ e. AreValues e columns number values) arg c.read.ensures.values in
    let words : AreFilterWords query columns number c.word.result c.word-2.result = record {
      may_bit = λ r below. filter_bit is_possible c.may.result.now c.args.filter.now.truths query.pred columns c.word.result number r c.may.ensures c.requires.judged c.word.ensures below;
      must_bit = λ r below. filter_bit is_certain c.must.result.now c.args.filter.now.truths query.pred columns c.word-2.result number r c.must.ensures c.requires.judged c.word-2.ensures below;
    } in
    let long = c.read.ensures.values.count in
    filled_block query item columns number c.requires.plain values c.word.result c.word-2.result c.min-count.result c.requires.rows (omega arith) long words read
    (bit_and c.word.result values.possible) (bit_and c.word-2.result values.sure) (λ r. digit-and r c.word.result values.possible) (λ r. digit-and r c.word-2.result values.sure)
    c.args.running.now c.add_block.new.self c.requires.filled c.add_block.ensures
