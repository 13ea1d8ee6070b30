use Rattle.std.proofs.Common.{◌≡◌, ◌*◌, ◌+◌, ◌<◌, length, slice_get, refl, ap, sym, subst, ◌∙◌, arith}
use Rattle.std.proofs.lemmas.Option.{slice_get_read}
use Rattle.query_model.specs.Queries.{Both, Condition, Either, Negation, condition_of}
use Rattle.query_model.specs.declared.query.Pred.{Pred}
use Rattle.query_model.specs.declared.bounds.Truths.{Truths}
use Rattle.query_model.specs.Meaning.{PredReadsBelow}
use Rattle.query_model.specs.Truths.{or_over}
use Rattle.plane_kernels.specs.Rows.{block_rows}
use Rattle.kleene_filter.specs.Blocks.{HasTruths, HoldsAtBest}
use Rattle.kleene_filter.specs.Filters.{truths_at}
use Rattle.kleene_filter.specs.Masks.{atoms_of, AreMasksOf}
use Rattle.kleene_filter.proofs.Tracking.{left_masks, right_masks, size_of}
use Rattle.kleene_filter.proofs.judging.+pred_truths.Goals as goal

pub atom_truths-requires-clause-follows : goal.atom_truths-requires-clause-follows
atom_truths-requires-clause-follows g t c =
    let all = c.args.masks.now in
    let at = c.args.at in
    let are = subst (λ (p : Pred). AreMasksOf all at (atoms_of (condition_of p)) c.args.columns.now) c.in-Atom.is c.requires.masks in
    let room : at < length all = (let r = are.room in omega arith) in
    are.each 0 c.index-masks-at.result c.in-Atom.atom (ap (slice_get all) (omega arith) ∙ slice_get_read all (length all) at c.index-masks-at.result refl room c.index-masks-at.is) refl

pub pred_truths-left-requires : goal.pred_truths-left-requires
pred_truths-left-requires g t c κs within =
    let table = c.args.columns.now in
    let parts : condition_of c.args.pred.now ≡ Both (condition_of c.deref.result.now) (condition_of c.in-And.b.value) =
    ap condition_of c.in-And.is ∙ ap (λ (p : Pred). Both (condition_of p) (condition_of c.in-And.b.value)) (sym c.deref.ensures) in
    let columns = subst (PredReadsBelow (length table.frame.columns)) parts c.requires.columns in
    let masks = left_masks c.args.masks.now c.args.at (atoms_of (condition_of c.deref.result.now)) (atoms_of (condition_of c.in-And.b.value)) table
    (subst (λ (p : Condition). AreMasksOf c.args.masks.now c.args.at (atoms_of p) table) parts c.requires.masks) in
    (omega (arith, c.decreases, ap size_of parts), (within, (columns.0, (masks, (c.requires.known, (c.requires.block, c.requires.rows))))))

pub pred_truths-right-requires : goal.pred_truths-right-requires
pred_truths-right-requires g t c κs within =
    let table = c.args.columns.now in
    let parts : condition_of c.args.pred.now ≡ Both (condition_of c.deref.result.now) (condition_of c.deref-in-And.result.now) =
    ap condition_of c.in-And.is ∙ ap (λ (p : Pred). Both (condition_of p) (condition_of c.in-And.b.value)) (sym c.deref.ensures)
    ∙ ap (λ (p : Pred). Both (condition_of c.deref.result.now) (condition_of p)) (sym c.deref-in-And.ensures) in
    let columns = subst (PredReadsBelow (length table.frame.columns)) parts c.requires.columns in
    let masks = right_masks c.args.masks.now c.args.at c.pred_truths-left.result.next (atoms_of (condition_of c.deref.result.now)) (atoms_of (condition_of c.deref-in-And.result.now)) table
    (subst (λ (p : Condition). AreMasksOf c.args.masks.now c.args.at (atoms_of p) table) parts c.requires.masks) c.pred_truths-left.ensures.next in
    (omega (arith, c.decreases, ap size_of parts), (within, (columns.1, (masks, (c.requires.known, (c.requires.block, c.requires.rows))))))

pub returns-in-And-clause-truths : goal.returns-in-And-clause-truths
returns-in-And-clause-truths g t c =
    let table = c.args.columns.now in
    let block = c.args.place.block in
    let few = c.requires.rows.few in
    let parts : condition_of c.args.pred.now ≡ Both (condition_of c.deref.result.now) (condition_of c.deref-in-And.result.now) =
    ap condition_of c.in-And.is ∙ ap (λ (p : Pred). Both (condition_of p) (condition_of c.in-And.b.value)) (sym c.deref.ensures)
    ∙ ap (λ (p : Pred). Both (condition_of c.deref.result.now) (condition_of p)) (sym c.deref-in-And.ensures) in
    λ row from below. subst (λ (p : Condition). HasTruths row (truths_at p table (512 * block + row)) c.and.result) (sym parts)
    (c.and.ensures row _ _ (omega (arith, below, few)) (c.pred_truths-left.ensures.truths row from below) (c.pred_truths-right.ensures.truths row from below))

pub pred_truths-left-requires-in-Or : goal.pred_truths-left-requires-in-Or
pred_truths-left-requires-in-Or g t c κs within =
    let table = c.args.columns.now in
    let parts : condition_of c.args.pred.now ≡ Either (condition_of c.deref-in-Or.result.now) (condition_of c.in-Or.b.value) =
    ap condition_of c.in-Or.is ∙ ap (λ (p : Pred). Either (condition_of p) (condition_of c.in-Or.b.value)) (sym c.deref-in-Or.ensures) in
    let columns = subst (PredReadsBelow (length table.frame.columns)) parts c.requires.columns in
    let masks = left_masks c.args.masks.now c.args.at (atoms_of (condition_of c.deref-in-Or.result.now)) (atoms_of (condition_of c.in-Or.b.value)) table
    (subst (λ (p : Condition). AreMasksOf c.args.masks.now c.args.at (atoms_of p) table) parts c.requires.masks) in
    (omega (arith, c.decreases, ap size_of parts), (within, (columns.0, (masks, (c.requires.known, (c.requires.block, c.requires.rows))))))

pub pred_at_best-requires-clause-masks : goal.pred_at_best-requires-clause-masks
pred_at_best-requires-clause-masks g t c =
    let table = c.args.columns.now in
    let parts : condition_of c.args.pred.now ≡ Either (condition_of c.deref-in-Or.result.now) (condition_of c.deref-in-Or-2.result.now) =
    ap condition_of c.in-Or.is ∙ ap (λ (p : Pred). Either (condition_of p) (condition_of c.in-Or.b.value)) (sym c.deref-in-Or.ensures)
    ∙ ap (λ (p : Pred). Either (condition_of c.deref-in-Or.result.now) (condition_of p)) (sym c.deref-in-Or-2.ensures) in
    right_masks c.args.masks.now c.args.at c.pred_truths-left-in-Or.result.next (atoms_of (condition_of c.deref-in-Or.result.now)) (atoms_of (condition_of c.deref-in-Or-2.result.now)) table
    (subst (λ (p : Condition). AreMasksOf c.args.masks.now c.args.at (atoms_of p) table) parts c.requires.masks) c.pred_truths-left-in-Or.ensures.next

pub returns-in-Some-clause-truths : goal.returns-in-Some-clause-truths
returns-in-Some-clause-truths g t c =
    let table = c.args.columns.now in
    let block = c.args.place.block in
    let few = c.requires.rows.few in
    let here = c.requires.rows.here in
    let parts : condition_of c.args.pred.now ≡ Either (condition_of c.deref-in-Or.result.now) (condition_of c.deref-in-Or-2.result.now) =
    ap condition_of c.in-Or.is ∙ ap (λ (p : Pred). Either (condition_of p) (condition_of c.in-Or.b.value)) (sym c.deref-in-Or.ensures)
    ∙ ap (λ (p : Pred). Either (condition_of c.deref-in-Or.result.now) (condition_of p)) (sym c.deref-in-Or-2.ensures) in
    let added : HoldsAtBest (block_rows table.frame.rows block) (λ row. truths_at (condition_of c.deref-in-Or-2.result.now) table (512 * block + row)) c.in-Some.added = c.in-Some.ensures.rows in
    λ row from below. subst (λ (p : Condition). HasTruths row (truths_at p table (512 * block + row)) c.or_at_best.result) (sym parts)
    (subst (λ (u : Truths). HasTruths row (or_over (truths_at (condition_of c.deref-in-Or.result.now) table (512 * block + row)) u) c.or_at_best.result) (sym (added row (omega (arith, below, few, here))))
    (c.or_at_best.ensures row _ (omega (arith, below, few)) (c.pred_truths-left-in-Or.ensures.truths row from below)))

pub pred_truths-right-requires-in-Or : goal.pred_truths-right-requires-in-Or
pred_truths-right-requires-in-Or g t c κs within =
    let table = c.args.columns.now in
    let parts : condition_of c.args.pred.now ≡ Either (condition_of c.deref-in-Or.result.now) (condition_of c.deref-in-Or-3.result.now) =
    ap condition_of c.in-Or.is ∙ ap (λ (p : Pred). Either (condition_of p) (condition_of c.in-Or.b.value)) (sym c.deref-in-Or.ensures)
    ∙ ap (λ (p : Pred). Either (condition_of c.deref-in-Or.result.now) (condition_of p)) (sym c.deref-in-Or-3.ensures) in
    let columns = subst (PredReadsBelow (length table.frame.columns)) parts c.requires.columns in
    let masks = right_masks c.args.masks.now c.args.at c.pred_truths-left-in-Or.result.next (atoms_of (condition_of c.deref-in-Or.result.now)) (atoms_of (condition_of c.deref-in-Or-3.result.now)) table
    (subst (λ (p : Condition). AreMasksOf c.args.masks.now c.args.at (atoms_of p) table) parts c.requires.masks) c.pred_truths-left-in-Or.ensures.next in
    (omega (arith, c.decreases, ap size_of parts), (within, (columns.1, (masks, (c.requires.known, (c.requires.block, c.requires.rows))))))

pub returns-in_default-clause-truths : goal.returns-in_default-clause-truths
returns-in_default-clause-truths g t c =
    let table = c.args.columns.now in
    let block = c.args.place.block in
    let few = c.requires.rows.few in
    let parts : condition_of c.args.pred.now ≡ Either (condition_of c.deref-in-Or.result.now) (condition_of c.deref-in-Or-3.result.now) =
    ap condition_of c.in-Or.is ∙ ap (λ (p : Pred). Either (condition_of p) (condition_of c.in-Or.b.value)) (sym c.deref-in-Or.ensures)
    ∙ ap (λ (p : Pred). Either (condition_of c.deref-in-Or.result.now) (condition_of p)) (sym c.deref-in-Or-3.ensures) in
    λ row from below. subst (λ (p : Condition). HasTruths row (truths_at p table (512 * block + row)) c.or.result) (sym parts)
    (c.or.ensures row _ _ (omega (arith, below, few)) (c.pred_truths-left-in-Or.ensures.truths row from below) (c.pred_truths-right-in-Or.ensures.truths row from below))

pub pred_truths-inner-requires : goal.pred_truths-inner-requires
pred_truths-inner-requires g t c κs within =
    let table = c.args.columns.now in
    let parts : condition_of c.args.pred.now ≡ Negation (condition_of c.deref-in-Not.result.now) =
    ap condition_of c.in-Not.is ∙ ap (λ (p : Pred). Negation (condition_of p)) (sym c.deref-in-Not.ensures) in
    let columns = subst (PredReadsBelow (length table.frame.columns)) parts c.requires.columns in
    let masks = subst (λ (p : Condition). AreMasksOf c.args.masks.now c.args.at (atoms_of p) table) parts c.requires.masks in
    (omega (arith, c.decreases, ap size_of parts), (within, (columns, (masks, (c.requires.known, (c.requires.block, c.requires.rows))))))

pub returns-in-Not-clause-truths : goal.returns-in-Not-clause-truths
returns-in-Not-clause-truths g t c =
    let table = c.args.columns.now in
    let block = c.args.place.block in
    let parts : condition_of c.args.pred.now ≡ Negation (condition_of c.deref-in-Not.result.now) =
    ap condition_of c.in-Not.is ∙ ap (λ (p : Pred). Negation (condition_of p)) (sym c.deref-in-Not.ensures) in
    λ row from below. subst (λ (p : Condition). HasTruths row (truths_at p table (512 * block + row)) c.not.result) (sym parts)
    (c.not.ensures row _ (c.pred_truths-inner.ensures.truths row from below))
