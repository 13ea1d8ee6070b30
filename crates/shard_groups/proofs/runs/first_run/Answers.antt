use Rattle.std.proofs.Common.{◌∙◌, sym}
use Rattle.shard_groups.proofs.Cutting.{first_part}
use Rattle.shard_groups.proofs.runs.first_run.Goals as goal

pub returns-then-is_cut : goal.returns-then-is_cut
returns-then-is_cut c = first_part c.args.lines.now c.args.cells.now (sym c.is_cut.ensures ∙ c.if-is_cut.true)
