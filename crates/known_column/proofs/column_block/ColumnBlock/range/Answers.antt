use Rattle.std.proofs.Common.{◌<◌, ◌≤◌, ◌+◌, ◌-◌, ◌*◌, ◌^◌, take, get_or, sym, subst, ap, ◌∙◌}
use Rattle.daq_table.specs.Tables.{first_code, planes, spread}
use Rattle.known_column.specs.Columns.{KnownColumn, rows_of_column}
use Rattle.known_column.specs.RowBlocks.{joined_prefixes}
use Rattle.known_column.proofs.Nulls.{legal_code}
use Rattle.known_column.proofs.column_block.ColumnBlock.range.Goals as goal

pub range_of-requires-clause-legal : goal.range_of-requires-clause-legal
range_of-requires-clause-legal c =
    let k = c.self.inside in
    let row = c.args.row in
    let ps = take k.rows (joined_prefixes k.least k.numbers k.possible) in
    let is = c.prefix.ensures ∙ ap (λ (v : KnownColumn). get_or v.known.prefixes row 0) (sym c.self.view_is) in
    subst (λ p. p * 2 ^ (planes k.ends - k.read) ≤ first_code k.ends + spread k.ends) (sym is)
    (legal_code k.ends k.read (get_or ps row 0) (c.self.invariant.legal row 0 (subst (λ v. row < rows_of_column v) (sym c.self.view_is) c.requires)))
