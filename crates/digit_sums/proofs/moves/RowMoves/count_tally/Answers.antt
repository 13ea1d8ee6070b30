use Rattle.std.proofs.Common.{◌∙◌}
use Rattle.digit_sums.proofs.MovedRows.{count_moved}
use Rattle.digit_sums.proofs.moves.RowMoves.count_tally.Goals as goal

pub returns : goal.returns
returns c = λ before now was moved.
    c.without_ends.ensures ∙ count_moved before now c.args.self moved c.args.old.now c.in_ok-certain.certain c.in_ok-certain.all c.in_ok-certain.ensures.certain c.in_ok-certain.ensures.all was
