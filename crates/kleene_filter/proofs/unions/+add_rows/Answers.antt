use Rattle.std.proofs.Common.{◌≡◌, ◌<◌, length, slice_get, refl, ap, sym, subst, ◌∙◌, arith}
use Rattle.std.proofs.lemmas.Option.{slice_get_read}
use Rattle.query_model.specs.Queries.{Condition, Either, condition_of}
use Rattle.query_model.specs.declared.query.Pred.{Pred}
use Rattle.query_model.specs.Meaning.{PredReadsBelow}
use Rattle.kleene_filter.specs.Filters.{truths_at}
use Rattle.kleene_filter.specs.Masks.{atoms_of, AreMasksOf}
use Rattle.kleene_filter.specs.Unions.{AddsRows, IsUnion}
use Rattle.kleene_filter.proofs.AddedRows.{adds_both}
use Rattle.kleene_filter.proofs.Tracking.{left_masks, right_masks, size_of}
use Rattle.kleene_filter.proofs.unions.+add_rows.Goals as goal

pub add_atom-requires-clause-follows : goal.add_atom-requires-clause-follows
add_atom-requires-clause-follows t c =
    let all = c.args.masks.now in
    let at = c.args.at in
    let are = subst (λ (p : Pred). AreMasksOf all at (atoms_of (condition_of p)) c.args.columns.now) c.in-Atom.is c.requires.masks in
    let room : at < length all = (let r = are.room in omega arith) in
    are.each 0 c.index-masks-at.result c.in-Atom.atom (ap (slice_get all) (omega arith) ∙ slice_get_read all (length all) at c.index-masks-at.result refl room c.index-masks-at.is) refl

pub add_atom-requires-clause-adds : goal.add_atom-requires-clause-adds
add_atom-requires-clause-adds t c =
    let all = c.args.masks.now in
    let at = c.args.at in
    let are = subst (λ (p : Pred). AreMasksOf all at (atoms_of (condition_of p)) c.args.columns.now) c.in-Atom.is c.requires.masks in
    let room : at < length all = (let r = are.room in omega arith) in
    subst (λ (p : Pred). IsUnion (condition_of p) all at c.args.columns.now) c.in-Atom.is c.requires.union c.index-masks-at.result (slice_get_read all (length all) at c.index-masks-at.result refl room c.index-masks-at.is)

pub add_rows-next-requires : goal.add_rows-next-requires
add_rows-next-requires t c =
    let table = c.args.columns.now in
    let parts : condition_of c.args.pred.now ≡ Either (condition_of c.deref.result.now) (condition_of c.in-Or.b.value) =
    ap condition_of c.in-Or.is ∙ ap (λ (p : Pred). Either (condition_of p) (condition_of c.in-Or.b.value)) (sym c.deref.ensures) in
    let columns = subst (PredReadsBelow (length table.frame.columns)) parts c.requires.columns in
    let union = subst (λ (p : Condition). IsUnion p c.args.masks.now c.args.at table) parts c.requires.union in
    let masks = left_masks c.args.masks.now c.args.at (atoms_of (condition_of c.deref.result.now)) (atoms_of (condition_of c.in-Or.b.value)) table
    (subst (λ (p : Condition). AreMasksOf c.args.masks.now c.args.at (atoms_of p) table) parts c.requires.masks) in
    (omega (arith, c.decreases, ap size_of parts), (columns.0, (masks, (union.0, (c.requires.known, c.requires.rows)))))

pub add_rows-requires : goal.add_rows-requires
add_rows-requires t c =
    let table = c.args.columns.now in
    let left = condition_of c.deref.result.now in
    let right = condition_of c.deref-in-Or.result.now in
    let parts : condition_of c.args.pred.now ≡ Either left right =
    ap condition_of c.in-Or.is ∙ ap (λ (p : Pred). Either (condition_of p) (condition_of c.in-Or.b.value)) (sym c.deref.ensures)
    ∙ ap (λ (p : Pred). Either left (condition_of p)) (sym c.deref-in-Or.ensures) in
    let columns = subst (PredReadsBelow (length table.frame.columns)) parts c.requires.columns in
    let union = subst (λ (p : Condition). IsUnion p c.args.masks.now c.args.at table) parts c.requires.union in
    let next = c.add_rows-next.ensures.next in
    let masks = right_masks c.args.masks.now c.args.at c.add_rows-next.result (atoms_of left) (atoms_of right) table
    (subst (λ (p : Condition). AreMasksOf c.args.masks.now c.args.at (atoms_of p) table) parts c.requires.masks) next in (
      omega (arith, c.decreases, ap size_of parts),
      (columns.1, (masks, (subst (λ n. IsUnion right c.args.masks.now n table) (sym next) union.1, (c.requires.known, c.add_rows-next.ensures.rows.rows ∙ c.requires.rows)))),
    )

pub returns-in-Or-clause-rows : goal.returns-in-Or-clause-rows
returns-in-Or-clause-rows t c =
    let table = c.args.columns.now in
    let left = condition_of c.deref.result.now in
    let right = condition_of c.deref-in-Or.result.now in
    let parts : condition_of c.args.pred.now ≡ Either left right =
    ap condition_of c.in-Or.is ∙ ap (λ (p : Pred). Either (condition_of p) (condition_of c.in-Or.b.value)) (sym c.deref.ensures)
    ∙ ap (λ (p : Pred). Either left (condition_of p)) (sym c.deref-in-Or.ensures) in
    subst (λ (p : Condition). AddsRows table.frame.rows (truths_at p table) c.args.rows.now c.add_rows.new.rows) (sym parts)
    (adds_both table.frame.rows (truths_at left table) (truths_at right table) c.args.rows.now c.add_rows-next.new.rows c.add_rows.new.rows c.add_rows-next.ensures.rows c.add_rows.ensures.rows)
