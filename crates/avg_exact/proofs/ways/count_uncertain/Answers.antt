use Rattle.std.proofs.Common.{subst, ◌∙◌}
use Rattle.avg_exact.specs.declared.passes.End.TheVariants.{High}
use Rattle.avg_exact.specs.Ways.{IsWay}
use Rattle.avg_exact.proofs.ColumnPairs.{all_unsure}
use Rattle.avg_exact.proofs.ways.count_uncertain.Goals as goal

pub returns-in-Planes : goal.returns-in-Planes
returns-in-Planes c =
    let stage = c.args.engine.now in
    let way = subst (IsWay stage c.args.item) c.in-Planes.is c.requires.way in
    way.rows ∙ all_unsure stage c.args.item c.in-Planes.planes.column way.over High
