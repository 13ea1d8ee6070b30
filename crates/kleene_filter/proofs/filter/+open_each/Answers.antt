use Rattle.std.proofs.Common.{◌≡◌, ◌++◌, List, inl, inr, ap, sym, subst, ◌∙◌}
use Rattle.std.proofs.lemmas.Result.{on_ok_weaker}
use Rattle.query_model.specs.declared.query.Atom.{Atom}
use Rattle.query_model.specs.Queries.{condition_of}
use Rattle.query_model.specs.declared.query.Pred.{Pred}
use Rattle.kleene_filter.specs.Masks.{atoms_of, AddsMasks}
use Rattle.kleene_filter.proofs.Tracking.{adds_both}
use Rattle.kleene_filter.proofs.filter.+open_each.Goals as goal

pub returns-in_ok-open_each-in-And-clause-adds : goal.returns-in_ok-open_each-in-And-clause-adds
returns-in_ok-open_each-in-And-clause-adds t c =
    let table = c.args.columns.now in
    let old = c.args.masks.now.items in
    let middle = c.open_each-in-And.new.masks.items in
    let new = c.open_each-in-And-2.new.masks.items in
    let left = atoms_of (condition_of c.deref-in-And.result.now) in
    let right = atoms_of (condition_of c.deref-in-And-2.result.now) in
    let both : atoms_of (condition_of c.args.pred.now) ≡ atoms_of (condition_of c.in-And.a.value) ++ atoms_of (condition_of c.in-And.b.value) =
    elim c.in-And.is [
      | inl e ↦ ap (λ (p : Pred). atoms_of (condition_of p)) e
      | inr e ↦ ap (λ (p : Pred). atoms_of (condition_of p)) e
    ] in
    let parts : atoms_of (condition_of c.args.pred.now) ≡ left ++ right =
    both ∙ ap (λ (p : Pred). atoms_of (condition_of p) ++ atoms_of (condition_of c.in-And.b.value)) (sym c.deref-in-And.ensures)
    ∙ ap (λ (p : Pred). left ++ atoms_of (condition_of p)) (sym c.deref-in-And-2.ensures) in
    on_ok_weaker c.open_each-in-And-2.result
    (λ second. subst (λ (l : List Atom). AddsMasks old new l table) (sym parts) (adds_both old middle new left right table c.in_ok-open_each-in-And.ensures.adds second))
    c.open_each-in-And-2.ensures.adds
