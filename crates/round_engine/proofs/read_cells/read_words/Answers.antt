use Rattle.std.proofs.Common.{◌≡◌, ◌+◌, ◌*◌, ◌%◌, ◌^◌, false, length, get_or, ap, ◌∙◌, arith}
use Rattle.std.proofs.lemmas.List.{get_or-map, length-map}
use Rattle.kleene_filter.specs.Filters.{is_certain, is_possible}
use Rattle.kleene_filter.proofs.Parting.{mask_bit}
use Rattle.known_column.specs.Columns.{count_in_block, is_at_top}
use Rattle.plane_kernels.specs.Rows.{digit_at}
use Rattle.round_engine.proofs.FilledBlocks.{filter_bit}
use Rattle.round_engine.proofs.ReadBlocks.{digit-first, first_low}
use Rattle.round_engine.proofs.RowPairs.{rows_of_mask}
use Rattle.round_engine.proofs.read_cells.read_words.Goals as goal

pub word-requires : goal.word-requires
word-requires c = omega (arith, c.requires.number, rows_of_mask is_possible c.may.result.now c.args.rows.filter.now.truths c.args.query.now.pred c.args.columns.now c.may.ensures c.requires.judged)

pub word-requires-2 : goal.word-requires-2
word-requires-2 c = omega (arith, c.requires.number, rows_of_mask is_certain c.must.result.now c.args.rows.filter.now.truths c.args.query.now.pred c.args.columns.now c.must.ensures c.requires.judged)

pub returns : goal.returns
returns c =
    let known = c.args.rows.known.now in
    let bits = c.args.plane.now in
    let number = c.args.number in
    let columns = c.args.columns.now in
    let pred = c.args.query.now.pred in
    let truths = c.args.rows.filter.now.truths in
    let count = count_in_block number columns.frame.rows in
    let as_many : c.min-count.result ≡ count = omega (arith, c.min-count.ensures, c.rows.ensures.rows, c.requires.known) in
    let may_is : c.first_bits.result ≡ c.word.result % 2 ^ count = c.first_bits.ensures ∙ ap (λ n. c.word.result % 2 ^ n) as_many in
    let must_is : c.first_bits-2.result ≡ c.word-2.result % 2 ^ count = c.first_bits-2.ensures ∙ ap (λ n. c.word-2.result % 2 ^ n) as_many in
    let marks = c.at_top.result.now in
    let long : length marks ≡ columns.frame.rows = ap length c.at_top.ensures ∙ length-map known.known.prefixes (is_at_top known.ends known.known.read) ∙ c.requires.known in
    record {
      may_bit = λ r below. ap (digit_at r) may_is ∙ digit-first count c.word.result r below ∙ filter_bit is_possible c.may.result.now truths pred columns c.word.result number r c.may.ensures c.requires.judged c.word.ensures below;
      must_bit = λ r below. ap (digit_at r) must_is ∙ digit-first count c.word-2.result r below ∙ filter_bit is_certain c.must.result.now truths pred columns c.word-2.result number r c.must.ensures c.requires.judged c.word-2.ensures below;
      one_bit = λ r below. mask_bit bits c.word-3.result number r c.word-3.ensures (omega (arith, below)) (omega (arith, below, c.requires.plane));
      top_bit = λ r below. mask_bit marks c.word-4.result number r c.word-4.ensures (omega (arith, below)) (omega (arith, below, long)) ∙ ap (λ l. get_or l (64 * number + r) false) c.at_top.ensures
          ∙ get_or-map (is_at_top known.ends known.known.read) known.known.prefixes (64 * number + r) 0 false (omega (arith, below, c.requires.known));
      may_fits = first_low c.first_bits.result c.word.result count may_is;
      must_fits = first_low c.first_bits-2.result c.word-2.result count must_is;
    }
