use Rattle.std.proofs.Common.{List, length, sym, ap, subst, ◌∙◌}
use Rattle.query_model.specs.Queries.{condition_of}
use Rattle.kleene_filter.specs.declared.masks.AtomMasks.{AtomMasks}
use Rattle.kleene_filter.specs.Filters.{truths_under, Judgement}
use Rattle.kleene_filter.specs.Masks.{atoms_of, AreMasksOf}
use Rattle.kleene_filter.proofs.Decided.{right_before}
use Rattle.kleene_filter.proofs.Tracking.{were_masks}
use Rattle.kleene_filter.proofs.TruthBits.{masks_nest, masks_tell, nested_rows, rows_of_truths, stood_rows}
use Rattle.kleene_filter.proofs.Unread.{still_stands}
use Rattle.kleene_filter.proofs.filter.Filter.refresh.Goals as goal

pub follow_each-requires : goal.follow_each-requires
follow_each-requires c =
    let pred = condition_of c.args.pred.now in
    let were = were_masks c.args.self.now pred c.args.columns.now c.args.column c.args.plane.now c.self.inside.masks.items c.requires.columns c.requires.stood (sym (ap (λ (f : Judgement). f.masks) c.self.view_is)) in
    (atoms_of pred, were)

pub returns-then-not-pred_reads-clause-stands : goal.returns-then-not-pred_reads-clause-stands
returns-then-not-pred_reads-clause-stands c =
    let pred = condition_of c.args.pred.now in
    let were = were_masks c.args.self.now pred c.args.columns.now c.args.column c.args.plane.now c.self.inside.masks.items c.requires.columns c.requires.stood (sym (ap (λ (f : Judgement). f.masks) c.self.view_is)) in
    record {
      truths = ap (λ (f : Judgement). f.truths) c.self.view_is ∙ still_stands c.args.self.now pred c.args.columns.now c.args.column c.args.plane.now c.requires.stood (sym c.pred_reads.ensures ∙ c.if-not-pred_reads.true);
      count = c.follow_each.ensures.count ∙ were.count;
      masks = c.follow_each.ensures.follow (atoms_of pred) were;
      known = c.rows-rows.ensures.known;
    }

pub judge_all-requires-clause-masks : goal.judge_all-requires-clause-masks
judge_all-requires-clause-masks c =
    let pred = condition_of c.args.pred.now in
    let were = were_masks c.args.self.now pred c.args.columns.now c.args.column c.args.plane.now c.self.inside.masks.items c.requires.columns c.requires.stood (sym (ap (λ (f : Judgement). f.masks) c.self.view_is)) in
    subst (λ (l : List AtomMasks). AreMasksOf l 0 (atoms_of pred) c.args.columns.now) (sym c.deref.ensures.value) (c.follow_each.ensures.follow (atoms_of pred) were)

pub judge_all-requires-clause-must : goal.judge_all-requires-clause-must
judge_all-requires-clause-must c =
    sym (rows_of_truths c.self.inside.truths.masks.must c.self.inside.truths.masks.may c.self.invariant.nested) ∙ ap (λ (f : Judgement). length f.truths) c.self.view_is ∙ stood_rows c.args.self.now _ _ _ _ c.requires.stood

pub judge_all-requires-clause-may : goal.judge_all-requires-clause-may
judge_all-requires-clause-may c =
    nested_rows c.self.inside.truths.masks.must c.self.inside.truths.masks.may c.self.invariant.nested ∙ sym (rows_of_truths c.self.inside.truths.masks.must c.self.inside.truths.masks.may c.self.invariant.nested)
    ∙ ap (λ (f : Judgement). length f.truths) c.self.view_is ∙ stood_rows c.args.self.now _ _ _ _ c.requires.stood

pub judge_all-requires-clause-same : goal.judge_all-requires-clause-same
judge_all-requires-clause-same c =
    let own = c.self.inside.truths.masks in
    right_before c.args.self.now (condition_of c.args.pred.now) c.args.columns.now c.args.column c.args.plane.now own.must own.may c.requires.stood c.self.invariant.nested (ap (λ (f : Judgement). f.truths) c.self.view_is)

pub invariant_of-self-2 : goal.invariant_of-self-2
invariant_of-self-2 c = record {
  nested = rw (c.judge_all.ensures.must, c.judge_all.ensures.may) (masks_nest (truths_under (condition_of c.args.pred.now) c.args.columns.now));
  kept = c.judge_all.ensures.kept;
}

pub returns-clause-stands : goal.returns-clause-stands
returns-clause-stands c =
    let pred = condition_of c.args.pred.now in
    let were = were_masks c.args.self.now pred c.args.columns.now c.args.column c.args.plane.now c.self.inside.masks.items c.requires.columns c.requires.stood (sym (ap (λ (f : Judgement). f.masks) c.self.view_is)) in
    record {
      truths = rw (c.judge_all.ensures.must, c.judge_all.ensures.may) (masks_tell (truths_under pred c.args.columns.now));
      count = c.follow_each.ensures.count ∙ were.count;
      masks = c.follow_each.ensures.follow (atoms_of pred) were;
      known = c.rows-rows.ensures.known;
    }
