use Rattle.std.proofs.Common.{◌≡◌, ℕ, ◌+◌, ◌*◌, ◌<◌, min, List, [], sym, ap, subst, ◌∙◌, arith}
use Rattle.std.proofs.lemmas.Bool.{false≢true}
use Rattle.aggregates.specs.Runnings.{StandsFor}
use Rattle.query_model.specs.Bounds.{Pair, pairs_below}
use Rattle.kleene_filter.specs.Filters.{is_possible}
use Rattle.round_engine.specs.Engines.{stage_of}
use Rattle.round_engine.specs.Totals.{AreFilledBelow}
use Rattle.round_engine.proofs.FilledBlocks.{block_passed, filled_further, filter_bit}
use Rattle.round_engine.proofs.RowPairs.{rows_of_mask}
use Rattle.round_engine.proofs.totals.fill_each.Goals as goal
use Rattle.round_engine.proofs.totals.fill_each.Goals.{then-word-ne0, else-word-ne0}

pub loop-number-init : goal.loop-number-init
loop-number-init c =
    let none : 0 ≡ min (64 * 0) c.args.columns.now.frame.rows = omega arith in
    record {
      same = c.requires.same;
      filled = record {
        count = c.requires.blank.count;
        each = λ i a b at_a at_b.
            (let blank = c.requires.blank.each i a b at_a at_b in
            record {
              kind = blank.kind_is;
              room = blank.room_is;
              filled = λ marked. record {
                kind = blank.kind_is;
                room = blank.room_is;
                cells = blank.count;
                stands = subst (λ n. StandsFor b 0 (pairs_below c.args.query.now a [] c.args.columns.now.frame c.args.columns.now.known n)) none (blank.blank 0 (omega arith));
              };
            });
      };
    }

pub returns-then-not-some_marked-clause-filled : goal.returns-then-not-some_marked-clause-filled
returns-then-not-some_marked-clause-filled c = record {
  count = c.requires.blank.count;
  each = λ i a b at_a at_b.
      (let blank = c.requires.blank.each i a b at_a at_b in
      record { kind = blank.kind_is; room = blank.room_is; filled = λ marked. absurd (false≢true (sym (c.some_marked.ensures c.if-not-some_marked.true i) ∙ marked)) });
}

pub word-requires : goal.word-requires
word-requires c = omega (arith, rows_of_mask is_possible c.may.result.now c.args.filter.now.truths c.args.query.now.pred c.args.columns.now c.may.ensures c.requires.judged)

pub add_block-requires-clause-filled : goal.add_block-requires-clause-filled
add_block-requires-clause-filled c =
    let here : min (64 * c.loop-number.number) c.args.columns.now.frame.rows ≡ 64 * c.loop-number.number = omega arith in
    subst (λ n. AreFilledBelow (stage_of c.args.query.now c.args.columns.now) c.args.marks.now n c.loop-number.runnings) here c.loop-number.invariant.filled

pub loop-number-preserved : goal.loop-number-preserved
loop-number-preserved c =
    let query = c.args.query.now in
    let columns = c.args.columns.now in
    let rows = columns.frame.rows in
    let number = c.loop-number.number in
    let stage = stage_of query columns in
    let within : 64 * number < rows = omega arith in
    let next : min (64 * number + 64) rows ≡ min (64 * (number + 1)) rows = omega arith in
    let here : 64 * number ≡ min (64 * number) rows = omega arith in
    elim c.if-word-ne0.branch [
      | then-word-ne0 w ↦ record {
        same = rw w.block-is w.add_block.ensures.same;
        filled = rw w.runnings-is (subst (λ n. AreFilledBelow stage c.args.marks.now n w.add_block.new.runnings) next w.add_block.ensures.filled);
      }
      | else-word-ne0 w ↦ record {
        same = rw w.block-is c.loop-number.invariant.same;
        filled = rw w.runnings-is (record {
          count = c.loop-number.invariant.filled.count;
          each = λ i item running at at'.
              (let before = c.loop-number.invariant.filled.each i item running at at' in
              let pairs : ℕ → List Pair = λ n. pairs_below query item [] columns.frame columns.known n in
              record {
                kind = before.kind;
                room = before.room;
                filled = λ marked. filled_further stage item (min (64 * number) rows) (min (64 * (number + 1)) rows) running (before.filled marked)
                    (ap pairs (sym next) ∙ block_passed query item columns number c.requires.plain c.word.result within w.if-word-ne0.false
                    (λ r below. filter_bit is_possible c.may.result.now c.args.filter.now.truths query.pred columns c.word.result number r c.may.ensures c.requires.judged c.word.ensures below) ∙ ap pairs here);
              });
        });
      }
    ]

pub returns-clause-filled : goal.returns-clause-filled
returns-clause-filled c =
    let end : min (64 * c.loop-number.number) c.args.columns.now.frame.rows ≡ c.args.columns.now.frame.rows = omega arith in
    subst (λ n. AreFilledBelow (stage_of c.args.query.now c.args.columns.now) c.args.marks.now n c.loop-number.runnings) end c.loop-number.invariant.filled
