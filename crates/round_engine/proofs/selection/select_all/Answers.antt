use Rattle.std.proofs.Common.{map, ◌∙◌}
use Rattle.std.proofs.lemmas.List.{length-map}
use Rattle.kleene_filter.specs.Filters.{is_certain, is_possible}
use Rattle.round_engine.proofs.SelectedPairs.{never_null}
use Rattle.round_engine.proofs.selection.select_all.Goals as goal

pub returns-clause-may : goal.returns-clause-may
returns-clause-may c =
    let truths = c.args.filter.now.truths in
    c.may.ensures ∙ (never_null c.args.known.now (map is_possible truths) c.requires.never_null (length-map truths is_possible ∙ c.requires.rows)).1

pub returns-clause-must : goal.returns-clause-must
returns-clause-must c =
    let truths = c.args.filter.now.truths in
    c.must.ensures ∙ (never_null c.args.known.now (map is_certain truths) c.requires.never_null (length-map truths is_certain ∙ c.requires.rows)).0
