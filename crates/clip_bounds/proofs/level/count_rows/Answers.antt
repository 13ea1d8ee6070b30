use Rattle.std.proofs.Common.{◌≡◌, ◌≤◌, get_or, sum_by, ap, ◌∙◌, rules, arith}
use Rattle.std.specs.Int.Count.{ones}
use Rattle.std.proofs.lemmas.List.{take_all}
use Rattle.std.proofs.lemmas.List.Sums.{sum_by_more}
use Rattle.std.proofs.lemmas.Nat.{ones-le}
use Rattle.clip_bounds.proofs.level.count_rows.Goals as goal

pub loop-k-preserved : goal.loop-k-preserved
loop-k-preserved c =
    let rows = c.args.rows.now in
    let k = c.loop-k.k in
    let here : c.from-count.result ≡ ones (get_or rows k 0) = search rules in
    let more = sum_by_more ones rows k 0 (omega arith) in
    let few : ones (get_or rows k 0) ≤ 64 = ones-le 64 (get_or rows k 0) (omega arith) in
    (omega (arith, here, more, c.loop-k.invariant.0), omega (arith, c.loop-k.invariant.1, here, few))

pub returns : goal.returns
returns c = c.loop-k.invariant.0 ∙ ap (sum_by ones) (take_all c.loop-k.k c.args.rows.now (omega arith))
