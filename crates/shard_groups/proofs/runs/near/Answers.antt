use Rattle.std.proofs.Common.{◌≡◌, ℕ, ◌<◌, get_or, subst}
use Rattle.shard_groups.specs.Cuts.{IsNear}
use Rattle.shard_groups.proofs.Cutting.{beside_length, near_part, near_same}
use Rattle.shard_groups.proofs.runs.near.Goals as goal

pub bounds-runs-shard : goal.bounds-runs-shard
bounds-runs-shard c =
    subst (λ (n : ℕ). c.args.shard < n) (beside_length (IsNear c.args.line.now) c.args.shards.now c.args.runs.now c.requires.near) c.requires.shard

pub cells_of-requires : goal.cells_of-requires
cells_of-requires c =
    let x = c.as_slice.result.now in
    let is : x ≡ get_or c.args.shards.now c.args.shard x = cc in
    near_part c.args.line.now c.args.shards.now c.args.runs.now c.args.shard x c.requires.shard is c.requires.near

pub returns : goal.returns
returns c =
    let x = c.as_slice.result.now in
    let is : x ≡ get_or c.args.shards.now c.args.shard x = cc in
    near_same c.args.line.now c.args.shards.now c.args.runs.now c.args.shard x c.cells_of.result.now c.requires.shard is c.cells_of.ensures c.requires.near
