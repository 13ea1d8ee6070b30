use Rattle.std.proofs.Common.{◌+◌, ◌*◌, ◌/◌, refl, ◌∙◌, arith}
use Rattle.query_model.specs.Queries.{condition_of}
use Rattle.kleene_filter.specs.Filters.{is_certain, is_possible, truths_at}
use Rattle.kleene_filter.proofs.Decided.{right_here}
use Rattle.kleene_filter.proofs.Judged.{judged_word}
use Rattle.kleene_filter.proofs.Tracking.{in_block}
use Rattle.kleene_filter.proofs.Unread.{may_hold_is_possible}
use Rattle.kleene_filter.proofs.filter.judge_word.Goals as goal

pub returns-then-word-clause-must : goal.returns-then-word-clause-must
returns-then-word-clause-must c =
    let old = c.args.truths.now in
    record {
      rows = refl;
      before = λ k below. refl;
      behind = λ k above. refl;
      here = λ r few. (right_here (condition_of c.args.pred.now) c.args.columns.now c.args.number c.word.result c.word-2.result r old.must old.may c.requires.same c.requires.must c.requires.may c.word.ensures c.word-2.ensures c.if-word.true few).certain;
    }

pub returns-then-word-clause-may : goal.returns-then-word-clause-may
returns-then-word-clause-may c =
    let old = c.args.truths.now in
    record {
      rows = refl;
      before = λ k below. refl;
      behind = λ k above. refl;
      here = λ r few. (right_here (condition_of c.args.pred.now) c.args.columns.now c.args.number c.word.result c.word-2.result r old.must old.may c.requires.same c.requires.must c.requires.may c.word.ensures c.word-2.ensures c.if-word.true few).possible;
    }

pub pred_truths-requires-clause-rows : goal.pred_truths-requires-clause-rows
pred_truths-requires-clause-rows c =
    in_block c.args.columns.now c.read.new.self c.args.number c.min.result c.blocks_have_their_rows.ensures c.read.ensures (omega (arith, c.min.ensures)) (omega (arith, c.min.ensures, c.rows.ensures.rows, c.requires.number))

pub returns-clause-must : goal.returns-clause-must
returns-clause-must c =
    let table = c.args.columns.now in
    let number = c.args.number in
    judged_word is_certain (condition_of c.args.pred.now) table number c.must_hold.result c.args.truths.now.must c.write_word.new.mask c.write_word.ensures c.requires.must
    (λ row from below inside. c.must_hold.ensures row _ (omega (arith, below)) (c.pred_truths.ensures.truths row from (omega (arith, below, inside, c.min.ensures, c.rows.ensures.rows))))

pub returns-clause-may : goal.returns-clause-may
returns-clause-may c =
    let table = c.args.columns.now in
    let number = c.args.number in
    judged_word is_possible (condition_of c.args.pred.now) table number c.pred_truths.result.truths.may_hold c.args.truths.now.may c.write_word-2.new.mask c.write_word-2.ensures c.requires.may
    (λ row from below inside. (c.pred_truths.ensures.truths row from (omega (arith, below, inside, c.min.ensures, c.rows.ensures.rows))).hold
    ∙ may_hold_is_possible (truths_at (condition_of c.args.pred.now) table (512 * (number / 8) + row)))
