use Rattle.std.proofs.Common.{◌≡◌, ◌-◌, ◌*◌, ◌++◌, min, length, take, drop, sym, ap, ◌∙◌, subst, arith}
use Rattle.std.proofs.lemmas.List.{take_at}
use Rattle.known_column.specs.KnownTables.{IsKnownTable, table_of}
use Rattle.known_column.specs.RowBlocks.{block_of}
use Rattle.known_column.proofs.TableBlocks.{block_kept, blocks_are}
use Rattle.known_column.proofs.row_block.RowBlock.read.Goals as goal

pub invariant_of-self : goal.invariant_of-self
invariant_of-self c =
    let table = c.args.columns.now in
    let b = c.args.block in
    let new = c.read_each.new.blocks in
    let old = c.self.inside.columns in
    let whole : take old.len (new ++ drop (length new) old.items) ≡ new = take_at new (drop (length new) old.items) old.len (omega arith) in
    let rows : c.min-self-inside.result ≡ min 64 (table.frame.rows - 64 * b) = omega arith in
    let is : table_of c.min-self-inside.result (take old.len (new ++ drop (length new) old.items)) ≡ block_of table b =
    ap (λ n. table_of n (take old.len (new ++ drop (length new) old.items))) rows ∙ ap (table_of (min 64 (table.frame.rows - 64 * b))) (whole ∙ c.read_each.ensures) ∙ blocks_are table b c.rows.ensures.known.knowledge.columns in
    subst IsKnownTable (sym is) (block_kept table b c.rows.ensures.known)

pub returns : goal.returns
returns c =
    let table = c.args.columns.now in
    let b = c.args.block in
    let new = c.read_each.new.blocks in
    let old = c.self.inside.columns in
    let whole : take old.len (new ++ drop (length new) old.items) ≡ new = take_at new (drop (length new) old.items) old.len (omega arith) in
    let rows : c.min-self-inside.result ≡ min 64 (table.frame.rows - 64 * b) = omega arith in
    ap (λ n. table_of n (take old.len (new ++ drop (length new) old.items))) rows ∙ ap (table_of (min 64 (table.frame.rows - 64 * b))) (whole ∙ c.read_each.ensures) ∙ blocks_are table b c.rows.ensures.known.knowledge.columns
