use Rattle.std.proofs.Common.{◌*ℤ◌, length, ap, sym, subst, ◌∙◌}
use Rattle.std.specs.Prelude.{Some}
use Rattle.aggregates.specs.declared.ends.End.{End}
use Rattle.query_model.specs.Meaning.{ReadsBelow}
use Rattle.query_model.specs.Queries.{Term, term_of}
use Rattle.query_model.specs.Validity.{FitsWide, declared_ranges}
use Rattle.product_sums.specs.KeptProducts.{inner_part}
use Rattle.product_sums.specs.Products.{term_end}
use Rattle.product_sums.proofs.ProductParts.{beside}
use Rattle.product_sums.proofs.Thirds.{third_end, third_sums}
use Rattle.product_sums.proofs.kept_column.outer_ends.Goals as goal

pub end_beside-requires : goal.end_beside-requires
end_beside-requires c =
    let table = c.args.columns.now in
    let sums = (third_sums table c.args.third (term_of c.args.expr.now) c.requires.third c.requires.sums).0 in
    record {
      columns = subst (ReadsBelow (length table.frame.columns)) (sym c.inner_part-inner.ensures) sums.columns;
      fits = subst (λ t. FitsWide t (declared_ranges table.frame)) (sym c.inner_part-inner.ensures) sums.wide;
    }

pub end_beside-requires-2 : goal.end_beside-requires-2
end_beside-requires-2 c =
    let table = c.args.columns.now in
    let sums = (third_sums table c.args.third (term_of c.args.expr.now) c.requires.third c.requires.sums).1 in
    record {
      columns = subst (ReadsBelow (length table.frame.columns)) (sym c.outer_part-outer.ensures) sums.columns;
      fits = subst (λ t. FitsWide t (declared_ranges table.frame)) (sym c.outer_part-outer.ensures) sums.wide;
    }

pub returns-clause-product : goal.returns-clause-product
returns-clause-product c = λ row below.
    let table = c.args.columns.now in
    let end = c.args.end in
    let term = term_of c.args.expr.now in
    let inner = inner_part (Some c.args.third) term in
    let outer = term_of c.outer_part-outer.result.now in
    sym
    (ap (λ (e : End). term_end table e outer row *ℤ term_end table c.end_beside-2.result inner row) c.end_beside.ensures
    ∙ ap (λ (e : End). term_end table (beside table.frame (term_of c.inner_part-inner.result.now) end) outer row *ℤ term_end table e inner row) c.end_beside-2.ensures
    ∙ ap (λ (t : Term). term_end table (beside table.frame t end) outer row *ℤ term_end table (beside table.frame outer end) inner row) c.inner_part-inner.ensures
    ∙ ap (λ (t : Term). term_end table (beside table.frame inner end) t row *ℤ term_end table (beside table.frame t end) inner row) c.outer_part-outer.ensures
    ∙ sym (third_end table c.rows-rows.ensures.known c.args.third row below end term c.requires.third c.requires.sums))
