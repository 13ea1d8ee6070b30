use Rattle.report_parts.proofs.Grows.{only_grow}
use Rattle.report_parts.proofs.laws.reports_only_grow.Goals as goal

pub returns : goal.returns
returns c = only_grow
