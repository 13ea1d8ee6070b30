use Rattle.std.proofs.Common.{◌+◌, ◌*◌, ◌∙◌, sym, subst, arith}
use Rattle.query_model.specs.Queries.{condition_of}
use Rattle.known_column.specs.KnownTables.{KnownTable}
use Rattle.kleene_filter.specs.Filters.{is_certain, is_possible, truths_at}
use Rattle.kleene_filter.specs.Masks.{AreRowsOf}
use Rattle.kleene_filter.proofs.Judged.{judged_put}
use Rattle.kleene_filter.proofs.Tracking.{in_table}
use Rattle.kleene_filter.proofs.Unread.{may_hold_is_possible}
use Rattle.kleene_filter.proofs.filter.judge_at_once.Goals as goal

pub pred_truths-requires-clause-rows : goal.pred_truths-requires-clause-rows
pred_truths-requires-clause-rows c =
    subst (λ (t : KnownTable). AreRowsOf c.args.columns.now (record { block = c.args.block; word = 0; to = c.min.result; first = 512 * c.args.block }) t) (sym c.again-rows.ensures)
    (in_table c.args.columns.now c.args.block c.min.result (omega (arith, c.min.ensures, c.rows.ensures.rows, c.requires.block)) (omega (arith, c.min.ensures)) c.rows.ensures.known.few_rows)

pub returns-clause-must : goal.returns-clause-must
returns-clause-must c =
    judged_put is_certain (condition_of c.args.pred.now) c.args.columns.now c.args.block c.must_hold.result c.args.truths.now.must c.renew_block-certain.new.mask c.renew_block-certain.ensures.put c.requires.must
    (λ row few. c.must_hold.ensures row _ (omega (arith, few)) (c.pred_truths.ensures.truths row (omega arith) (omega (arith, few, c.min.ensures, c.rows.ensures.rows))))

pub returns-clause-may : goal.returns-clause-may
returns-clause-may c =
    judged_put is_possible (condition_of c.args.pred.now) c.args.columns.now c.args.block c.pred_truths.result.truths.may_hold c.args.truths.now.may c.renew_block-possible.new.mask c.renew_block-possible.ensures.put c.requires.may
    (λ row few. (c.pred_truths.ensures.truths row (omega arith) (omega (arith, few, c.min.ensures, c.rows.ensures.rows))).hold
    ∙ may_hold_is_possible (truths_at (condition_of c.args.pred.now) c.args.columns.now (512 * c.args.block + row)))
