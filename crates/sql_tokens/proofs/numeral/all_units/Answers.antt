-- The units of both parts, where they are small enough.
use Rattle.std.proofs.Common.{◌∙◌}
use Rattle.sql_tokens.proofs.Units.{all_small, all_large}
use Rattle.sql_tokens.proofs.numeral.all_units.Goals as goal

pub returns-in-Some : goal.returns-in-Some
returns-in-Some c = c.more_units-in-Some.ensures ∙ all_small c.args.whole.now c.args.fraction.now c.in-Some.units c.in-Some.ensures

pub returns-in-None : goal.returns-in-None
returns-in-None c = all_large c.args.whole.now c.args.fraction.now c.in-None.ensures
