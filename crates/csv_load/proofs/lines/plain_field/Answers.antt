use Rattle.csv_load.proofs.LineFacts.{bare_field}
use Rattle.csv_load.proofs.lines.plain_field.Goals as goal

pub returns-then-ends_field : goal.returns-then-ends_field
returns-then-ends_field c =
    let end = c.field_end-end in
    bare_field c.args.text.now c.args.at end.result end.ensures.from end.ensures.within (c.ends_field.ensures.stops c.if-ends_field.true) end.ensures.field
