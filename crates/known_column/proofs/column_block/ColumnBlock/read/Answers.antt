use Rattle.std.proofs.Common.{◌≡◌, ◌-◌, ◌*◌, min, take, Some, ap, ◌∙◌, arith}
use Rattle.query_model.specs.Knowledge.{prefix_of}
use Rattle.known_column.specs.Columns.{block_rows, rows_of_column}
use Rattle.known_column.specs.RowBlocks.{joined_prefixes}
use Rattle.known_column.proofs.Joining.{joined_block, kept_block, same_column}
use Rattle.known_column.proofs.column_block.ColumnBlock.read.Goals as goal

whole : (c : goal.After-numbers) → take c.min-self-inside.result (joined_prefixes c.least_prefix-self-inside.result c.numbers.new.numbers c.word-self-inside.result) ≡ block_rows c.args.block c.args.known.now.known.prefixes
whole c =
    let column = c.args.known.now in
    let block = c.args.block in
    let word = c.word-self-inside.result in
    let numbers = c.numbers.new.numbers in
    let count : c.min-self-inside.result ≡ min 64 (rows_of_column column - 64 * block) = omega arith in
    let least : c.least_prefix-self-inside.result ≡ prefix_of column.ends column.known.read (Some 0) =
    c.least_prefix-self-inside.ensures.prefix ∙ ap (λ e. prefix_of e c.planes_read.result (Some 0)) c.declared.ensures.ends ∙ ap (λ n. prefix_of column.ends n (Some 0)) c.planes_read.ensures in
    ap (λ n. take n (joined_prefixes c.least_prefix-self-inside.result numbers word)) count
    ∙ ap (λ f. take (min 64 (rows_of_column column - 64 * block)) (joined_prefixes f numbers word)) least
    ∙ joined_block column block word numbers c.possible.result.now c.declared.ensures.known c.numbers.ensures c.possible.ensures c.word-self-inside.ensures

pub invariant_of-self : goal.invariant_of-self
invariant_of-self c =
    let declared = c.declared-self-inside.ensures in
    let width = c.width-self-inside.ensures in
    kept_block c.args.known.now c.args.block _ _ _ c.min-self-inside.result _ _ declared.known declared.ends width.digits width.few c.planes_read-self-inside.ensures (omega arith)
    c.least_prefix-self-inside.ensures.few (whole c)

pub returns : goal.returns
returns c = same_column _ _ _ _ _ _ c.declared-self-inside.ensures.ends c.planes_read-self-inside.ensures (whole c)
