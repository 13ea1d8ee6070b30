use Rattle.std.proofs.Common.{◌≡◌, ℕ, length, map, sym, ◌∙◌, arith}
use Rattle.std.specs.List.{range_with_len}
use Rattle.std.proofs.lemmas.List.{same_lists}
use Rattle.std.proofs.lemmas.List.FromFn.{get_or-map-range_with_len, length-map-range_with_len}
use Rattle.known_column.specs.Columns.{KnownColumn}
use Rattle.known_column.specs.KnownTables.{column_at}
use Rattle.known_column.specs.RowBlocks.{block_of_column}
use Rattle.known_column.proofs.row_block.read_each.Goals as goal

pub returns : goal.returns
returns c =
    let n = length c.args.columns.now.frame.columns in
    let block : ℕ → KnownColumn = λ k. block_of_column (column_at c.args.columns.now k) c.args.block in
    let long : length c.loop-c.blocks ≡ n = omega arith in
    same_lists c.loop-c.blocks (map block (range_with_len 0 n)) (long ∙ sym (length-map-range_with_len block 0 n)) (λ k d h.
    c.loop-c.invariant k d (omega arith) ∙ sym (get_or-map-range_with_len block 0 n k k d (omega arith) (omega arith)))
