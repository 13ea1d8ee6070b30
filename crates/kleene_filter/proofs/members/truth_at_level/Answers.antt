use Rattle.std.proofs.Common.{◌∙◌, sym, ap}
use Rattle.query_model.specs.Meaning.{among}
use Rattle.query_model.specs.Truths.{truth_over}
use Rattle.kleene_filter.proofs.Parting.{level_none, level_shared}
use Rattle.kleene_filter.proofs.members.truth_at_level.Goals as goal

pub returns-in-Some : goal.returns-in-Some
returns-in-Some c =
    let values = c.args.values.now in
    level_shared c.args.column.now (among values) c.requires.0 c.args.rows.now c.in-Some.row c.is_one_of.result c.requires.1 (sym c.in-Some.ensures)
    (ap (λ i. truth_over i (among values)) (sym c.range.ensures.range) ∙ sym c.is_one_of.ensures)

pub returns-in-None : goal.returns-in-None
returns-in-None c = level_none c.args.column.now (among c.args.values.now) c.requires.0 c.args.rows.now _ c.requires.1 (sym c.in-None.ensures)
