-- Keywords and signs are the same where their numbers are.
use Rattle.std.proofs.Common.{◌∙◌}
use Rattle.sql_text.proofs.Keywords.{same_as}
use Rattle.sql_text.proofs.look.is_same.Goals as goal

pub returns : goal.returns
returns c = c.eq.ensures ∙ same_as c.args.found c.args.wanted
