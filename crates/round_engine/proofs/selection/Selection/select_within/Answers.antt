use Rattle.std.proofs.Common.{◌&&◌, length, map, ap, sym, ◌∙◌}
use Rattle.std.specs.Simd.Lanes.{zip2}
use Rattle.std.proofs.lemmas.List.{length-map}
use Rattle.std.proofs.lemmas.Simd.{length-zip2}
use Rattle.kleene_filter.specs.Filters.{is_certain, is_possible}
use Rattle.known_column.specs.Columns as column
use Rattle.known_column.specs.Columns.{is_sure}
use Rattle.round_engine.proofs.selection.Selection.select_within.Goals as goal

pub and_into-requires-2 : goal.and_into-requires-2
and_into-requires-2 c =
    let known = c.args.known.now in
    let truths = c.args.filter.now.truths in
    let long = length-map truths is_possible ∙ c.requires.rows in
    ap length c.possible.ensures ∙ length-map known.known.prefixes (column.is_possible known.ends known.known.read)
    ∙ sym (ap length c.and_into.ensures ∙ ap (λ m. length (zip2 (λ a b. a && b) m c.may.result.now)) c.copy_from.ensures ∙ ap (λ m. length (zip2 (λ a b. a && b) c.args.within.now m)) c.may.ensures
    ∙ length-zip2 (λ a b. a && b) c.args.within.now (map is_possible truths) (c.requires.within ∙ sym long) ∙ c.requires.within)

pub and_into-requires-4 : goal.and_into-requires-4
and_into-requires-4 c =
    let known = c.args.known.now in
    let truths = c.args.filter.now.truths in
    let long = length-map truths is_certain ∙ c.requires.rows in
    ap length c.sure.ensures ∙ length-map known.known.prefixes (is_sure known.ends known.known.read)
    ∙ sym (ap length c.and_into-3.ensures ∙ ap (λ m. length (zip2 (λ a b. a && b) m c.must.result.now)) c.copy_from-2.ensures ∙ ap (λ m. length (zip2 (λ a b. a && b) c.args.within.now m)) c.must.ensures
    ∙ length-zip2 (λ a b. a && b) c.args.within.now (map is_certain truths) (c.requires.within ∙ sym long) ∙ c.requires.within)

pub returns-clause-may : goal.returns-clause-may
returns-clause-may c =
    c.and_into-2.ensures ∙ ap (λ m. zip2 (λ a b. a && b) m c.possible.result.now) (c.and_into.ensures ∙ ap (λ m. zip2 (λ a b. a && b) m c.may.result.now) c.copy_from.ensures ∙ ap (zip2 (λ a b. a && b) c.args.within.now) c.may.ensures)
    ∙ ap (zip2 (λ a b. a && b) (zip2 (λ a b. a && b) c.args.within.now (map is_possible c.args.filter.now.truths))) c.possible.ensures

pub returns-clause-must : goal.returns-clause-must
returns-clause-must c =
    c.and_into-4.ensures ∙ ap (λ m. zip2 (λ a b. a && b) m c.sure.result.now) (c.and_into-3.ensures ∙ ap (λ m. zip2 (λ a b. a && b) m c.must.result.now) c.copy_from-2.ensures ∙ ap (zip2 (λ a b. a && b) c.args.within.now) c.must.ensures)
    ∙ ap (zip2 (λ a b. a && b) (zip2 (λ a b. a && b) c.args.within.now (map is_certain c.args.filter.now.truths))) c.sure.ensures
