-- The place of the token is that of the first of so many.
use Rattle.sql_text.proofs.Answering.{place_of}
use Rattle.sql_text.proofs.reading.place.Goals as goal

pub returns-then-before-tokens : goal.returns-then-before-tokens
returns-then-before-tokens c = place_of c.args.tokens.now c.saturating_sub-before.result c.args.left c.args.end _ c.saturating_sub-before.ensures c.if-before-tokens.true
