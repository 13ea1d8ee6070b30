use Rattle.std.proofs.Common.{◌≡◌, ◌<◌, length, slice_get, refl, ap, sym, subst, ◌∙◌, arith}
use Rattle.std.proofs.lemmas.Option.{slice_get_read}
use Rattle.query_model.specs.Queries.{Condition, Either, condition_of}
use Rattle.query_model.specs.declared.query.Pred.{Pred}
use Rattle.query_model.specs.Meaning.{PredReadsBelow}
use Rattle.kleene_filter.specs.declared.masks.AtomMasks.{AtomMasks}
use Rattle.kleene_filter.specs.Masks.{atoms_of, AreMasksOf}
use Rattle.kleene_filter.specs.Unions.{IsUnion, OnlyAdds}
use Rattle.kleene_filter.proofs.Tracking.{left_masks, right_masks, same_some, size_of}
use Rattle.kleene_filter.proofs.unions.+union_end.Goals as goal

pub atom_only_adds-requires-clause-follows : goal.atom_only_adds-requires-clause-follows
atom_only_adds-requires-clause-follows t c =
    let all = c.args.masks.now in
    let at = c.args.at in
    let are = subst (λ (p : Pred). AreMasksOf all at (atoms_of (condition_of p)) c.args.columns.now) c.in-Atom.is c.requires.masks in
    let room : at < length all = (let r = are.room in omega arith) in
    are.each 0 c.index-masks-at.result c.in-Atom.atom (ap (slice_get all) (omega arith) ∙ slice_get_read all (length all) at c.index-masks-at.result refl room c.index-masks-at.is) refl

pub returns-then-atom_only_adds-clause-union : goal.returns-then-atom_only_adds-clause-union
returns-then-atom_only_adds-clause-union t c =
    let table = c.args.columns.now in
    let all = c.args.masks.now in
    let at = c.args.at in
    let are = subst (λ (p : Pred). AreMasksOf all at (atoms_of (condition_of p)) table) c.in-Atom.is c.requires.masks in
    let room : at < length all = (let r = are.room in omega arith) in
    let stands = slice_get_read all (length all) at c.index-masks-at.result refl room c.index-masks-at.is in
    subst (λ (p : Pred). IsUnion (condition_of p) all at table) (sym c.in-Atom.is)
    (λ own mine. subst (λ (o : AtomMasks). OnlyAdds o table) (same_some c.index-masks-at.result own (sym stands ∙ mine)) (c.atom_only_adds.ensures c.if-atom_only_adds.true))

pub union_end-requires : goal.union_end-requires
union_end-requires t c =
    let table = c.args.columns.now in
    let parts : condition_of c.args.pred.now ≡ Either (condition_of c.deref.result.now) (condition_of c.in-Or.b.value) =
    ap condition_of c.in-Or.is ∙ ap (λ (p : Pred). Either (condition_of p) (condition_of c.in-Or.b.value)) (sym c.deref.ensures) in
    let columns = subst (PredReadsBelow (length table.frame.columns)) parts c.requires.columns in
    let masks = left_masks c.args.masks.now c.args.at (atoms_of (condition_of c.deref.result.now)) (atoms_of (condition_of c.in-Or.b.value)) table
    (subst (λ (p : Condition). AreMasksOf c.args.masks.now c.args.at (atoms_of p) table) parts c.requires.masks) in
    (omega (arith, c.decreases, ap size_of parts), (columns.0, masks))

pub union_end-requires-in-Or : goal.union_end-requires-in-Or
union_end-requires-in-Or t c =
    let table = c.args.columns.now in
    let parts : condition_of c.args.pred.now ≡ Either (condition_of c.deref.result.now) (condition_of c.deref-in-Or.result.now) =
    ap condition_of c.in-Or.is ∙ ap (λ (p : Pred). Either (condition_of p) (condition_of c.in-Or.b.value)) (sym c.deref.ensures)
    ∙ ap (λ (p : Pred). Either (condition_of c.deref.result.now) (condition_of p)) (sym c.deref-in-Or.ensures) in
    let columns = subst (PredReadsBelow (length table.frame.columns)) parts c.requires.columns in
    let masks = right_masks c.args.masks.now c.args.at c.in_ok-next-in-Or.next (atoms_of (condition_of c.deref.result.now)) (atoms_of (condition_of c.deref-in-Or.result.now)) table
    (subst (λ (p : Condition). AreMasksOf c.args.masks.now c.args.at (atoms_of p) table) parts c.requires.masks) c.in_ok-next-in-Or.ensures.next in
    (omega (arith, c.decreases, ap size_of parts), (columns.1, masks))
