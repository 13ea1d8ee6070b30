use Rattle.std.proofs.Common.{◌≡◌, ◌*◌, ◌+◌, subst, rules, to_z, of_z}
use Rattle.std.proofs.lemmas.Int.{to_z-of_z}
use Rattle.std.specs.Int.{w128}
use Rattle.plane_kernels.specs.Rows.{block_rows}
use Rattle.query_model.specs.Meaning.{compares}
use Rattle.query_model.specs.Truths.{truths_over}
use Rattle.known_column.specs.Columns.{KnownColumn, range_at, rows_of_column}
use Rattle.known_column.specs.KnownTables.{column_at}
use Rattle.kleene_filter.specs.Blocks.{AreTruthsFrom}
use Rattle.kleene_filter.proofs.comparisons.Compared.truths.Goals as goal

pub returns : goal.returns
returns c =
    let own = c.args.self.now in
    let column = c.column-column.result.now in
    let block = c.args.block in
    let truths = c.truths.result in
    let fits : to_z w128 (of_z w128 own.value) ≡ own.value = to_z-of_z w128 own.value (search rules) in
    subst (λ n. AreTruthsFrom 0 (block_rows n block) (λ r. truths_over (range_at (column_at c.args.columns.now own.column) (512 * block + r)) (λ x. compares own.op x own.value)) truths) c.column-column.ensures.rows
    (subst (λ (k : KnownColumn). AreTruthsFrom 0 (block_rows (rows_of_column column) block) (λ r. truths_over (range_at k (512 * block + r)) (λ x. compares own.op x own.value)) truths) c.column-column.ensures.column
    (subst (λ n. AreTruthsFrom 0 (block_rows (rows_of_column column) block) (λ r. truths_over (range_at column (512 * block + r)) (λ x. compares own.op x n)) truths) fits c.truths.ensures))
