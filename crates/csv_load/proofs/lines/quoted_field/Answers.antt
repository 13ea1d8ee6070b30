use Rattle.csv_load.proofs.LineFacts.{quotes_field}
use Rattle.csv_load.proofs.lines.quoted_field.Goals as goal

pub returns-then-ends_field : goal.returns-then-ends_field
returns-then-ends_field c =
    let text = c.args.text.now in
    let close = c.next_quote-close in
    quotes_field text c.args.at close.result c.requires.within c.requires.quote close.ensures.from c.if-close-text.true (close.ensures.quote c.if-close-text.true)
    (c.ends_field.ensures.stops c.if-ends_field.true) close.ensures.field
