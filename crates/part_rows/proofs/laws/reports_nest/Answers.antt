use Rattle.part_rows.proofs.Nesting.{reports_nest}
use Rattle.part_rows.proofs.laws.reports_nest.Goals as goal

pub returns : goal.returns
returns c = reports_nest c.standings_nest.ensures c.ranges_nest.ensures c.taken_is_knowledge.ensures
