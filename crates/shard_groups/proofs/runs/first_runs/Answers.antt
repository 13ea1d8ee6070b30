use Rattle.std.proofs.Common.{◌≡◌, [], ◌∷◌, ◌++◌, get_or}
use Rattle.shard_groups.specs.Cuts.{IsOn}
use Rattle.shard_groups.proofs.Cutting.{beside_more}
use Rattle.shard_groups.proofs.runs.first_runs.Goals as goal

pub loop-cells-preserved : goal.loop-cells-preserved
loop-cells-preserved c =
    let shards = c.args.shards.now in
    let i = c.loop-cells.cells-index in
    let x = c.as_slice.result.now in
    let is : x ≡ get_or shards i x = cc in
    let pushed : c.push.new.self.items ≡ c.loop-cells.runs.items ++ c.first_run.result ∷ [] = c.in_ok-push.ensures.items in
    beside_more (IsOn c.args.lines.now) shards c.loop-cells.runs.items c.push.new.self.items i x c.first_run.result c.loop-cells-test.true is pushed
    c.loop-cells.invariant c.first_run.ensures
