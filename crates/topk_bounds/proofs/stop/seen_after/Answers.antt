use Rattle.std.proofs.Common.{◌≡◌, ◌+◌, ◌*◌, length, take, drop, count_by, sum_by, sym, ap, ◌∙◌, arith}
use Rattle.std.specs.Int.Count.{ones}
use Rattle.std.proofs.lemmas.List.{take_all}
use Rattle.plane_kernels.specs.Rows.{block_rows}
use Rattle.plane_kernels.proofs.RowLemmas.{count-rows_of}
use Rattle.topk_bounds.specs.Standings.{count_rows, is_in}
use Rattle.topk_bounds.proofs.Counting.{count_few}
use Rattle.topk_bounds.proofs.Stopping.{count_block}
use Rattle.topk_bounds.proofs.stop.seen_after.Goals as goal

total : (c : goal.After-count_ones) → c.args.seen + c.count_ones.result ≡ count_rows c.args.to (is_in c.args.counted.now)
total c =
    let rows = c.args.counted.now in
    let from = 512 * c.args.block in
    let words = c.block.result in
    let all : take 8 words ≡ words = take_all 8 words (omega arith) in
    let here : c.count_ones.result ≡ count_by (λ b. b) (take 512 (drop from rows)) =
    c.count_ones.ensures ∙ ap (sum_by ones) all ∙ sym (count-rows_of (block_rows (length rows) c.args.block) words c.block.ensures.padded) ∙ ap (count_by (λ b. b)) c.block.ensures.rows in
    ap (λ n. n + c.count_ones.result) c.requires.seen ∙ ap (λ n. count_rows from (is_in rows) + n) here ∙ sym (count_block rows from c.args.to c.requires.block c.requires.to)

pub overflow_add-result : goal.overflow_add-result
overflow_add-result c = omega (arith, total c, count_few (is_in c.args.counted.now) c.args.to, c.ranges.to)

pub returns-clause-seen : goal.returns-clause-seen
returns-clause-seen c = total c

pub returns-clause-few : goal.returns-clause-few
returns-clause-few c = omega (arith, total c, count_few (is_in c.args.counted.now) c.args.to)
