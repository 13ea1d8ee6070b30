-- One more row is taken.
use Rattle.std.proofs.Common.{◌≡◌, ◌+◌, ◌++◌, ap, drop, get_or, map, sym, ◌∙◌}
use Rattle.std.proofs.lemmas.List.{append_assoc}
use Rattle.part_rows.specs.Combined.{line_if, lines_of, listing}
use Rattle.part_rows.specs.Standings.{standings}
use Rattle.part_rows.proofs.Lines.{one_more}
use Rattle.part_rows.proofs.combined.lines_of.Goals as goal

pub loop-place-preserved : goal.loop-place-preserved
loop-place-preserved c =
    let listed = c.args.listed.now in
    let rows = c.args.rows.now in
    let row = c.index-listed-place.result in
    let at = c.loop-place.place in
    let known = c.index.result.now in
    let lines = c.loop-place.lines.items in
    let rest = lines_of c.args.asked rows (map listing (drop (at + 1) listed)) in
    let here = one_more c.args.asked rows listed at row known c.requires c.loop-place-test.true in
    let judged : known ≡ get_or (standings c.args.asked rows) at known =
    c.index.ensures ∙ ap (λ all. get_or all at known) c.in_ok-known.ensures in
    let same : line_if known (listing row) ≡ line_if (get_or (standings c.args.asked rows) at known) (listing (get_or listed at row)) =
    ap (λ k. line_if k (listing row)) judged ∙ ap (λ r. line_if (get_or (standings c.args.asked rows) at known) (listing r)) c.index-listed-place.is in
    let pushed : c.append_line.new.lines.items ≡ lines ++ line_if known (listing row) = c.in_ok-append_line.ensures in
    ap (λ l. l ++ rest) pushed ∙ append_assoc lines (line_if known (listing row)) rest ∙ ap (λ l. lines ++ (l ++ rest)) same
    ∙ ap (λ l. lines ++ l) (sym here) ∙ c.loop-place.invariant
