-- There are at most 16 groups, since there are at most 16 columns.
use Rattle.std.proofs.Common.{ℕ, List, ◌≤◌, length, ap, sym, subst, arith}
use Rattle.query_model.specs.Answers.{groups_of}
use Rattle.sql_text.specs.Tree.{ending_of, query_of}
use Rattle.query_model.specs.Queries.{Query}
use Rattle.sql_typing.proofs.Clean.{few_named}
use Rattle.sql_typing.proofs.Numbered.{few_groups}
use Rattle.sql_typing.proofs.typing.meant_query.Goals as goal

pub check_groups-requires : goal.check_groups-requires
check_groups-requires c =
    let few : length c.in_ok-columns.columns ≤ 16 = subst (λ (cs : List ℕ). length cs ≤ 16) (sym c.in_ok-columns.ensures.1) (few_named c.as_slice-table.result.now (query_of c.args.tree.now) c.in_ok-columns.ensures.0) in
    let groups = few_groups c.as_slice-table.result.now c.in_ok-columns.columns (ending_of c.args.tree.now.ending) few in
    let same = ap (λ (m : Query). length (groups_of m.shape)) c.in_ok-query.ensures.1 in
    omega arith
