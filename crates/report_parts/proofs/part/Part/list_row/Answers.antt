use Rattle.std.proofs.Common.{◌≡◌, IfOk, MatchBool, subst, rules}
use Rattle.report_text.specs.RowBlocks.{RowsTold, TakesRows}
use Rattle.report_parts.proofs.part.Part.list_row.Goals as goal

pub returns-clause-listed : goal.returns-clause-listed
returns-clause-listed c =
    let line = c.args.line.now in
    let same : c.self.inside.rows ≡ c.args.self.now.rows = search rules in
    subst (λ (rows : RowsTold). IfOk c.take.result (λ taken. MatchBool taken (TakesRows c.args.limit rows line c.take.new.self)
    ((c.take.new.self ≡ rows) × ((next : RowsTold) → TakesRows c.args.limit rows line next → ⊥)))) same c.take.ensures
