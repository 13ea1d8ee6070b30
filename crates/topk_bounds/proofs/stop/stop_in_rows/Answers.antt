use Rattle.std.proofs.Common.{◌≡◌, ◌+◌, ◌≤◌, ◌&&◌, nat_lt, Bool, true, false, cond, length, sym, ap, subst, ◌∙◌, arith, rules}
use Rattle.std.proofs.lemmas.List.{length-set}
use Rattle.topk_bounds.specs.Standings.{is_in}
use Rattle.topk_bounds.specs.Stopping.{Stops, is_reached}
use Rattle.topk_bounds.proofs.Counting.{count_few, count_next}
use Rattle.topk_bounds.proofs.Marks.{bit_is}
use Rattle.topk_bounds.proofs.Stopping.{stop_more}
use Rattle.topk_bounds.proofs.stop.stop_in_rows.Goals as goal

bit_small : (b : Bool) → cond b 1 0 ≤ 1
bit_small true = omega arith
bit_small false = omega arith

pub overflow_add-seen : goal.overflow_add-seen
overflow_add-seen c =
    let bit : c.from-seen.result ≡ cond c.get-in-loop-row.result 1 0 = search rules in
    omega (arith, bit, bit_small c.get-in-loop-row.result, count_few (is_in c.args.counted.now) c.loop-row.row, c.loop-row.invariant.seen, c.loop-row.auto.row-end, c.ranges.to, c.loop-row-test.true)

pub loop-row-preserved : goal.loop-row-preserved
loop-row-preserved c =
    let counted = c.args.counted.now in
    let now = c.loop-row.level in
    let row = c.loop-row.row in
    let bit : c.from-seen.result ≡ cond c.get-in-loop-row.result 1 0 = search rules in
    let here : c.from-seen.result ≡ cond (is_in counted row) 1 0 = bit ∙ ap (λ b. cond b 1 0) (bit_is counted row c.get-in-loop-row.result c.get-in-loop-row.ensures) in
    let stays : (c.get.result && nat_lt c.loop-row.seen c.args.wanted) ≡ (is_in now row && is_reached c.args.wanted counted row) =
    ap (λ b. b && nat_lt c.loop-row.seen c.args.wanted) (bit_is now row c.get.result c.get.ensures) ∙ ap (λ n. is_in now row && nat_lt n c.args.wanted) c.loop-row.invariant.seen in
    record {
      rows = ap length c.set.ensures ∙ length-set now row (c.get.result && nat_lt c.loop-row.seen c.args.wanted) ∙ c.loop-row.invariant.rows;
      seen = omega (arith, here, count_next (is_in counted) row, c.loop-row.invariant.seen);
      stops = subst (λ l. Stops c.args.wanted counted c.args.from (row + 1) c.args.level.now l) (sym c.set.ensures)
          (stop_more c.args.wanted counted c.args.level.now now c.args.from row (c.get.result && nat_lt c.loop-row.seen c.args.wanted) c.loop-row.auto.row (omega (arith, c.loop-row-test.true, c.requires.within, c.loop-row.invariant.rows)) stays c.loop-row.invariant.stops);
    }
