use Rattle.std.proofs.Common.{List, ℕ, rules}
use Rattle.std.proofs.lemmas.Fn.{always_returns_same}
use Rattle.std.specs.Cmp.Lexicographic.{slice_cmp}
use Rattle.std.specs.Ordering.{nat_cmp}
use Rattle.csv_load.proofs.RankFacts.{rank_found, rank_not_missed}
use Rattle.csv_load.proofs.ranks.rank.Goals as goal

pub unreachable-requires : goal.unreachable-requires
unreachable-requires c =
    let found = c.in-Err.ensures.position (λ (y : List ℕ). slice_cmp nat_cmp y c.args.text.now) (always_returns_same _ _ _ (λ a r g called. search rules)) in
    rank_not_missed c.args.names.now c.args.text.now c.in-Err.field-0 c.requires.sorted c.requires.known found

pub returns-clause-rank : goal.returns-clause-rank
returns-clause-rank c =
    let found = c.in-Ok.ensures.position (λ (y : List ℕ). slice_cmp nat_cmp y c.args.text.now) (always_returns_same _ _ _ (λ a r g called. search rules)) in
    rank_found c.args.names.now c.args.text.now c.in-Ok.rank c.requires.sorted c.in-Ok.ensures.bound found
