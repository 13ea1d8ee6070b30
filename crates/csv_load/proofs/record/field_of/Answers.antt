use Rattle.std.proofs.Common.{◌∙◌, ℕ, [], length, get_or, ap, arith}
use Rattle.csv_load.proofs.KeptRows.{field_there}
use Rattle.csv_load.proofs.record.field_of.Goals as goal

pub returns : goal.returns
returns c =
    let schema = c.args.schema.now in
    c.get.ensures ∙ ap (λ (p : ℕ). get_or c.args.fields.now p []) c.place_at.ensures.place
    ∙ field_there schema.items c.args.fields.now c.args.column (omega (arith, c.requires.column, ap length schema.kept))
