use Rattle.std.proofs.Common.{◌≡◌, ◌<◌, length, sym, ap, ◌∙◌, subst, arith}
use Rattle.std.proofs.lemmas.List.{length-map}
use Rattle.known_column.specs.Columns.{KnownColumn, rows_of_column}
use Rattle.known_column.specs.KnownTables.{KnownTable, table_of}
use Rattle.known_column.proofs.Several.{column_there}
use Rattle.known_column.proofs.row_block.RowBlock.column.Goals as goal

pub returns-clause-rows : goal.returns-clause-rows
returns-clause-rows c =
    let kept = c.self.inside in
    let columns = kept.columns.items in
    let wide = length-map columns (λ (k : KnownColumn). k.ends) in
    let there : c.args.column < length (table_of kept.rows columns).frame.columns = subst (λ (t : KnownTable). c.args.column < length t.frame.columns) (sym c.self.view_is) c.requires in
    subst (λ (t : KnownTable). rows_of_column c.index.result.now ≡ t.frame.rows) c.self.view_is
    (ap rows_of_column (column_there kept.rows columns c.args.column c.index.result.now (omega arith) c.index.ensures) ∙ c.self.invariant.knowledge.rows c.args.column (omega arith))
