use Rattle.std.proofs.Common.{sym, ap, ◌∙◌}
use Rattle.query_model.specs.Queries.{term_of}
use Rattle.round_engine.proofs.totals.bound_of_item.Goals as goal

pub bound-requires-clause-column : goal.bound-requires-clause-column
bound-requires-clause-column c = sym (ap (λ i. i.arg) c.item.view_is) ∙ ap term_of c.in-Column.is
