-- The certain rows that come before are those that must.
use Rattle.std.proofs.Common.{◌≡◌, rules, sym, ◌∙◌}
use Rattle.std.specs.List.{count_by, filter}
use Rattle.part_rows.specs.declared.row.End.TheVariants.{First, Last}
use Rattle.part_rows.specs.Marks.{comes_before, mark_at}
use Rattle.part_rows.specs.Ranked.{rows_behind}
use Rattle.part_rows.proofs.Ranking.{count_alike, count_filtered}
use Rattle.part_rows.proofs.ranked.RankedRows.leaders.Goals as goal

pub returns : goal.returns
returns c =
    let down = c.args.down in
    let rows = c.args.self.now.rows.now in
    let certain = rows_behind c.args.self.now.certain.items in
    let mark = mark_at down First c.args.row.now in
    let counted : c.count_before.result ≡ count_by (λ z. comes_before down (mark_at down Last z) mark) certain = search rules in
    counted
    ∙ sym (count_alike (λ z. comes_before down (mark_at down Last z) mark) (filter (λ z. z.certain) rows) certain c.requires.certain)
    ∙ count_filtered (λ z. z.certain) (λ z. comes_before down (mark_at down Last z) mark) rows
