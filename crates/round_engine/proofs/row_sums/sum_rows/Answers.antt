use Rattle.std.proofs.Common.{◌≡◌, ℕ, ◌+◌, ◌*◌, ◌<◌, min, List, [], ◌++◌, ap, sym, subst, ◌∙◌, arith}
use Rattle.aggregates.specs.Tallies.{tally_of}
use Rattle.kleene_filter.specs.Filters.{is_certain, is_possible, truth_at}
use Rattle.known_column.specs.Columns.{count_in_block}
use Rattle.plane_kernels.specs.Rows.{digit_at}
use Rattle.query_model.specs.declared.query.ItemKind.TheVariants.{Sum}
use Rattle.query_model.specs.Bounds.{Pair, pairs_below}
use Rattle.query_model.specs.Queries.{Aggregate, term_of}
use Rattle.query_model.specs.Validity.{declared_ranges}
use Rattle.row_values.specs.BlockSums.{FitsSmall, row_pairs}
use Rattle.round_engine.proofs.FilledBlocks.{AreFilterWords, block_passed, filter_bit}
use Rattle.round_engine.proofs.RowPairs.{rows_of_mask}
use Rattle.round_engine.proofs.RowSums.{more_blocks, no_blocks, pairs_with_rows}
use Rattle.round_engine.proofs.row_sums.sum_rows.Goals as goal
use Rattle.round_engine.proofs.row_sums.sum_rows.Goals.{then-may-ne0, else-may-ne0}

pub loop-number-init : goal.loop-number-init
loop-number-init c =
    let none : 0 ≡ min (64 * 0) c.args.columns.now.frame.rows = omega arith in
    record {
      held = no_blocks _ (c.none-tally.ensures Sum);
      tally = c.none-tally.ensures Sum ∙ ap (λ n. tally_of Sum (pairs_below c.args.query.now c.args.item.now [] c.args.columns.now.frame c.args.columns.now.known n)) none;
    }

pub word-may-requires : goal.word-may-requires
word-may-requires c = omega (arith, rows_of_mask is_possible c.may.result.now c.args.filter.now.truths c.args.query.now.pred c.args.columns.now c.may.ensures c.requires.judged)

pub word-must-requires : goal.word-must-requires
word-must-requires c = omega (arith, rows_of_mask is_certain c.must.result.now c.args.filter.now.truths c.args.query.now.pred c.args.columns.now c.must.ensures c.requires.judged)

pub add_rows-requires-clause-small : goal.add_rows-requires-clause-small
add_rows-requires-clause-small c = subst (λ e. FitsSmall e (declared_ranges c.args.columns.now.frame)) (sym (ap (λ (i : Aggregate). i.arg) c.item.view_is)) c.requires.small

pub loop-number-preserved : goal.loop-number-preserved
loop-number-preserved c =
    let query = c.args.query.now in
    let item = c.args.item.now in
    let columns = c.args.columns.now in
    let rows = columns.frame.rows in
    let number = c.loop-number.number in
    let pairs_to : ℕ → List Pair = λ n. pairs_below query item [] columns.frame columns.known n in
    let within : 64 * number < rows = omega arith in
    let next : min (64 * number + 64) rows ≡ min (64 * (number + 1)) rows = omega arith in
    let here : min (64 * number) rows ≡ 64 * number = omega arith in
    let before = c.loop-number.invariant.tally ∙ ap (λ n. tally_of Sum (pairs_to n)) here in
    let may_bit : (r : ℕ) → r < count_in_block number rows → digit_at r c.word-may.result ≡ is_possible (truth_at query.pred columns (64 * number + r)) =
    λ r below. filter_bit is_possible c.may.result.now c.args.filter.now.truths query.pred columns c.word-may.result number r c.may.ensures c.requires.judged c.word-may.ensures below in
    elim c.if-may-ne0.branch [
      | then-may-ne0 w ↦
          (let arg : term_of c.item.inside.arg ≡ item.arg = ap (λ (i : Aggregate). i.arg) c.item.view_is in
          let words : AreFilterWords query columns number c.word-may.result w.word-must.result = record {
            may_bit = may_bit;
            must_bit = λ r below. filter_bit is_certain w.must.result.now c.args.filter.now.truths query.pred columns w.word-must.result number r w.must.ensures c.requires.judged w.word-must.ensures below;
          } in
          rw w.tally-is (record {
            held = w.add_rows.ensures.held;
            tally = w.add_rows.ensures.tally (pairs_to (64 * number)) before
                ∙ ap (λ e. tally_of Sum (pairs_to (64 * number) ++ row_pairs e columns number c.word-may.result w.word-must.result)) arg
                ∙ ap (tally_of Sum) (sym (pairs_with_rows query item columns number c.word-may.result w.word-must.result c.requires.plain words within)) ∙ ap (λ n. tally_of Sum (pairs_to n)) next;
          }))
      | else-may-ne0 w ↦
          rw w.tally-is (record {
            held = more_blocks number c.loop-number.tally c.loop-number.invariant.held;
            tally = before ∙ ap (tally_of Sum) (sym (block_passed query item columns number c.requires.plain c.word-may.result within w.if-may-ne0.false may_bit)) ∙ ap (λ n. tally_of Sum (pairs_to n)) next;
          })
    ]

pub returns : goal.returns
returns c =
    let end : min (64 * c.loop-number.number) c.args.columns.now.frame.rows ≡ c.args.columns.now.frame.rows = omega arith in
    c.loop-number.invariant.tally ∙ ap (λ n. tally_of Sum (pairs_below c.args.query.now c.args.item.now [] c.args.columns.now.frame c.args.columns.now.known n)) end
