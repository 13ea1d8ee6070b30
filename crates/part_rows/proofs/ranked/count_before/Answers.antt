-- The place up to which rows come before the mark is their number.
use Rattle.std.proofs.Common.{rules, sym, ◌∙◌}
use Rattle.std.proofs.lemmas.List.Sorted.{IsPartitionPoint-from_clause}
use Rattle.part_rows.specs.Marks.{comes_before, mark_at}
use Rattle.part_rows.proofs.Ranking.{count_at_point, count_behind, is_parted}
use Rattle.part_rows.proofs.ranked.count_before.Goals as goal

pub returns : goal.returns
returns c =
    let down = c.args.down in
    let end = c.args.end in
    let mark = mark_at down c.args.mark.end c.args.mark.row.now in
    let rows = c.args.ranked.now in
    let parted = is_parted down end rows mark c.requires in
    let point = IsPartitionPoint-from_clause (λ y. comes_before down (mark_at down end y.now) mark) rows c.partition_point.result
    c.partition_point.ensures.partitioned parted (λ a r q k. search rules) in
    count_at_point (λ y. comes_before down (mark_at down end y.now) mark) rows c.partition_point.result c.partition_point.ensures.bound point
    ∙ sym (count_behind (λ other. comes_before down (mark_at down end other) mark) rows)
