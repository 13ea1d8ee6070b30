use Rattle.std.proofs.Common.{◌≡◌, ℕ, ◌<◌, List, [], ◌∷◌, ◌++◌, get_or, subst, sym}
use Rattle.shard_groups.specs.declared.cells.Cell.{Cell}
use Rattle.shard_groups.specs.declared.runs.Run.{Run}
use Rattle.shard_groups.specs.declared.runs.Run.TheVariants.{All}
use Rattle.shard_groups.specs.Cuts.{IsNear, IsOn, IsPartOf}
use Rattle.shard_groups.proofs.Cutting.{beside_at, beside_length, beside_more}
use Rattle.shard_groups.proofs.runs.next_runs.Goals as goal

abbrev IsPart : List Cell → Run → Type 0
IsPart cells run = IsPartOf run cells

pub bounds-runs-shard : goal.bounds-runs-shard
bounds-runs-shard c =
    subst (λ (n : ℕ). c.loop-shard.shard < n) (beside_length IsPart c.args.shards.now c.args.runs.now c.requires) c.loop-shard-test.true

pub next_run-requires : goal.next_run-requires
next_run-requires c =
    let shards = c.args.shards.now in
    let i = c.loop-shard.shard in
    let x = c.as_slice.result.now in
    let is : x ≡ get_or shards i x = cc in
    subst (IsPartOf (get_or c.args.runs.now i All)) (sym is) (beside_at IsPart shards c.args.runs.now i x All c.loop-shard-test.true c.requires)

pub loop-shard-preserved : goal.loop-shard-preserved
loop-shard-preserved c =
    let line = c.args.line.now in
    let shards = c.args.shards.now in
    let runs = c.args.runs.now in
    let next = c.loop-shard.next.items in
    let after = c.push.new.self.items in
    let i = c.loop-shard.shard in
    let x = c.as_slice.result.now in
    let run = c.next_run.result in
    let is : x ≡ get_or shards i x = cc in
    let pushed : after ≡ next ++ run ∷ [] = c.in_ok-push.ensures.items in
    λ lines apart on.
    let was = c.loop-shard.invariant lines apart on in
    let here = beside_at (IsOn (line ∷ lines)) shards runs i x All c.loop-shard-test.true on in
    let both = c.next_run.ensures lines apart (subst (λ (cells : List Cell). IsOn (line ∷ lines) cells (get_or runs i All)) (sym is) here) in (
      beside_more (IsNear line) shards next after i x run c.loop-shard-test.true is pushed was.0 both.0,
      beside_more (IsOn lines) shards next after i x run c.loop-shard-test.true is pushed was.1 both.1,
    )
