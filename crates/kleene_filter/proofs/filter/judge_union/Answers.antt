use Rattle.std.proofs.Common.{List, Bool, sym, ap, subst, ◌∙◌}
use Rattle.query_model.specs.Queries.{condition_of}
use Rattle.kleene_filter.specs.declared.truth_masks.TruthMasks.{TruthMasks}
use Rattle.kleene_filter.specs.Filters.{truths_at}
use Rattle.kleene_filter.specs.Unions.{AddsRows}
use Rattle.kleene_filter.proofs.AddedRows.{certain_none, possible_added, still_settled}
use Rattle.kleene_filter.proofs.filter.judge_union.Goals as goal

pub renew_possible-requires-clause-settled : goal.renew_possible-requires-clause-settled
renew_possible-requires-clause-settled c =
    let pred = condition_of c.args.pred.now in
    let table = c.args.columns.now in
    let old = c.args.truths.now in
    let adds = subst (λ (l : List Bool). AddsRows table.frame.rows (truths_at pred table) l c.add_rows.new.rows) c.copy_from.ensures c.add_rows.ensures.rows in
    still_settled pred table old.masks.must old.masks.may c.add_rows.new.rows old.undecided adds c.requires.must (sym c.requires.kept.certain ∙ c.requires.none) c.requires.same c.requires.kept.settled

pub returns-clause-must : goal.returns-clause-must
returns-clause-must c =
    let pred = condition_of c.args.pred.now in
    let table = c.args.columns.now in
    let old = c.args.truths.now in
    let adds = subst (λ (l : List Bool). AddsRows table.frame.rows (truths_at pred table) l c.add_rows.new.rows) c.copy_from.ensures c.add_rows.ensures.rows in
    ap (λ (m : TruthMasks). m.must) c.renew_possible.ensures.masks ∙ certain_none pred table old.masks.must old.masks.must c.add_rows.new.rows adds c.requires.must (sym c.requires.kept.certain ∙ c.requires.none)

pub returns-clause-may : goal.returns-clause-may
returns-clause-may c =
    let pred = condition_of c.args.pred.now in
    let table = c.args.columns.now in
    let old = c.args.truths.now in
    let adds = subst (λ (l : List Bool). AddsRows table.frame.rows (truths_at pred table) l c.add_rows.new.rows) c.copy_from.ensures c.add_rows.ensures.rows in
    ap (λ (m : TruthMasks). m.may) c.renew_possible.ensures.masks ∙ possible_added pred table old.masks.must c.add_rows.new.rows adds c.requires.must (sym c.requires.kept.certain ∙ c.requires.none)
