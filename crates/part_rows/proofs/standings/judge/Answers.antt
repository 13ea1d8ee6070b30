-- One more row is judged.
use Rattle.std.proofs.Common.{◌≡◌, ◌∷◌, [], ◌++◌, ap, map, sym, take, ◌∙◌}
use Rattle.std.proofs.lemmas.List.{map_more}
use Rattle.part_rows.specs.Standings.{standing}
use Rattle.part_rows.proofs.standings.judge.Goals as goal

pub loop-row-preserved : goal.loop-row-preserved
loop-row-preserved c =
    let rows = c.args.rows.now in
    let row = c.row-item.result in
    let at = c.loop-row.row-index in
    let told : c.standing.result ≡ standing c.args.asked rows row =
    c.standing.ensures ∙ ap (λ all. standing c.args.asked all row) c.in_ok-ranked.ensures.rows in
    let pushed : c.push.new.self.items ≡ c.loop-row.known.items ++ c.standing.result ∷ [] = c.in_ok-push.ensures.items in
    pushed ∙ ap (λ known. known ++ c.standing.result ∷ []) c.loop-row.invariant
    ∙ ap (λ s. map (standing c.args.asked rows) (take at rows) ++ s ∷ []) (told ∙ ap (standing c.args.asked rows) c.row-item.is)
    ∙ sym (map_more (standing c.args.asked rows) rows at row c.loop-row-test.true)
