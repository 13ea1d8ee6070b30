-- Each call of the sort's closure compares the marks of two rows.
use Rattle.std.proofs.Common.{rules}
use Rattle.part_rows.proofs.Ranking.{is_ranked}
use Rattle.part_rows.proofs.ranked.ranked.Goals as goal

pub returns-clause-ordered : goal.returns-clause-ordered
returns-clause-ordered c = is_ranked c.args.down c.args.end _ c.in_ok-sort_by.ensures.sorted (λ a r q k. search rules)
