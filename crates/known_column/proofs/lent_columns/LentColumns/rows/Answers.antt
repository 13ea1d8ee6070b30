use Rattle.std.proofs.Common.{option_map, subst}
use Rattle.known_column.specs.KnownTables.{IsKnownTable}
use Rattle.known_column.proofs.Lent.{lent_kept}
use Rattle.known_column.proofs.lent_columns.LentColumns.rows.Goals as goal

pub returns-clause-known : goal.returns-clause-known
returns-clause-known c =
    subst IsKnownTable c.self.view_is (lent_kept c.self.inside.columns.now (option_map (λ numbers. numbers.now) c.self.inside.numbers) c.self.invariant c.rows.ensures.known)
