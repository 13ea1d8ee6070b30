use Rattle.std.proofs.Common.{◌<◌, length, slice_get, refl, ap, subst, ◌∙◌, arith}
use Rattle.std.proofs.lemmas.Option.{slice_get_read}
use Rattle.query_model.specs.Queries.{condition_of}
use Rattle.query_model.specs.declared.query.Pred.{Pred}
use Rattle.kleene_filter.specs.Masks.{atoms_of, AreMasksOf}
use Rattle.kleene_filter.proofs.judging.pred_at_best.Goals as goal

pub atom_at_best-requires-clause-follows : goal.atom_at_best-requires-clause-follows
atom_at_best-requires-clause-follows c =
    let all = c.args.masks.now in
    let at = c.args.at in
    let are = subst (λ (p : Pred). AreMasksOf all at (atoms_of (condition_of p)) c.args.columns.now) c.in-Atom.is c.requires.masks in
    let room : at < length all = (let r = are.room in omega arith) in
    are.each 0 c.index-masks-at.result c.in-Atom.atom (ap (slice_get all) (omega arith) ∙ slice_get_read all (length all) at c.index-masks-at.result refl room c.index-masks-at.is) refl
