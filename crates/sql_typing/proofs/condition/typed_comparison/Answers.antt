-- The comparison by the number of its column and the spot of its value.
use Rattle.std.proofs.Common.{◌≡◌, ◌∙◌, ap, ap₂, ℕ}
use Rattle.sql_typing.specs.Names.{number_of}
use Rattle.query_model.specs.Queries.{Single}
use Rattle.sql_typing.specs.Typing.{compared}
use Rattle.sql_typing.specs.declared.spot.Spot.{Spot}
use Rattle.sql_typing.proofs.condition.typed_comparison.Goals as goal

pub returns : goal.returns
returns c =
    let number : c.number_of-number.result ≡ number_of c.args.table.now c.args.columns.now c.args.column.now.name.items = c.number_of-number.ensures ∙ ap (λ t. number_of c.args.table.now c.args.columns.now t) c.as_slice.ensures.value in
    (c.in_ok-spot.ensures.0, ap Single (c.compared.ensures ∙ ap₂ (λ (n : ℕ) (s : Spot). compared n c.args.op s) number c.in_ok-spot.ensures.1))
