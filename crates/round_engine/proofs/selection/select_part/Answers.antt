use Rattle.std.proofs.Common.{◌&&◌, map, sym, ap, ◌∙◌}
use Rattle.std.specs.Simd.Lanes.{zip2}
use Rattle.std.proofs.lemmas.List.{length-map}
use Rattle.kleene_filter.specs.Filters.{is_certain, is_possible}
use Rattle.known_column.specs.Columns as column
use Rattle.known_column.specs.Columns.{is_sure, rows_where}
use Rattle.round_engine.proofs.SelectedPairs.{left_whole, never_null, possible_each}
use Rattle.round_engine.proofs.selection.select_part.Goals as goal

pub returns-clause-may : goal.returns-clause-may
returns-clause-may c =
    let known = c.args.known.now in
    let truths = c.args.filter.now.truths in
    let long = c.requires.within ∙ sym (length-map truths is_possible ∙ c.requires.rows) in
    (never_null known c.args.within.now c.requires.never_null c.requires.within).1
    ∙ ap (λ m. zip2 (λ a b. a && b) m (rows_where column.is_possible known)) (left_whole c.args.within.now (map is_possible truths) long (possible_each truths c.requires.each))

pub returns-clause-must : goal.returns-clause-must
returns-clause-must c =
    let known = c.args.known.now in
    let truths = c.args.filter.now.truths in
    let long = c.requires.within ∙ sym (length-map truths is_certain ∙ c.requires.rows) in
    (never_null known c.args.within.now c.requires.never_null c.requires.within).0
    ∙ ap (λ m. zip2 (λ a b. a && b) m (rows_where is_sure known)) (left_whole c.args.within.now (map is_certain truths) long c.requires.each)
