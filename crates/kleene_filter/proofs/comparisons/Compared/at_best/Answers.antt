use Rattle.std.proofs.Common.{◌≡◌, ◌*◌, ◌+◌, IfSome, subst, rules, to_z, of_z}
use Rattle.std.proofs.lemmas.Int.{to_z-of_z}
use Rattle.std.specs.Int.{w128}
use Rattle.plane_kernels.specs.Rows.{block_rows}
use Rattle.query_model.specs.Meaning.{compares}
use Rattle.query_model.specs.Truths.{truths_over}
use Rattle.known_column.specs.Columns.{KnownColumn, range_at, rows_of_column}
use Rattle.known_column.specs.KnownTables.{column_at}
use Rattle.kleene_filter.specs.Blocks.{HoldsAtBest}
use Rattle.kleene_filter.proofs.comparisons.Compared.at_best.Goals as goal

pub returns : goal.returns
returns c =
    let own = c.args.self.now in
    let column = c.column-column.result.now in
    let block = c.args.block in
    let best = c.at_best.result in
    let fits : to_z w128 (of_z w128 own.value) ≡ own.value = to_z-of_z w128 own.value (search rules) in
    subst (λ n. IfSome best (HoldsAtBest (block_rows n block) (λ r. truths_over (range_at (column_at c.args.columns.now own.column) (512 * block + r)) (λ x. compares own.op x own.value)))) c.column-column.ensures.rows
    (subst (λ (k : KnownColumn). IfSome best (HoldsAtBest (block_rows (rows_of_column column) block) (λ r. truths_over (range_at k (512 * block + r)) (λ x. compares own.op x own.value)))) c.column-column.ensures.column
    (subst (λ n. IfSome best (HoldsAtBest (block_rows (rows_of_column column) block) (λ r. truths_over (range_at column (512 * block + r)) (λ x. compares own.op x n)))) fits c.at_best.ensures))
