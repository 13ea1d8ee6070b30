use Rattle.std.proofs.Common.{◌*ℤ◌, length, ap, sym, subst, ◌∙◌}
use Rattle.aggregates.specs.declared.ends.End.{End}
use Rattle.query_model.specs.Meaning.{ReadsBelow}
use Rattle.query_model.specs.Queries.{Column, Term, term_of}
use Rattle.query_model.specs.Validity.{FitsWide, declared_ranges}
use Rattle.product_sums.specs.Products.{term_end}
use Rattle.product_sums.proofs.ProductParts.{beside, column_read, other_sums, parts_end}
use Rattle.product_sums.proofs.kept_column.part_ends.Goals as goal

pub end_beside-requires : goal.end_beside-requires
end_beside-requires c =
    let table = c.args.columns.now in
    let sums = other_sums table.frame c.args.column (term_of c.args.expr.now) c.requires.product c.requires.sums in
    record {
      columns = subst (ReadsBelow (length table.frame.columns)) (sym c.other_part-other.ensures) sums.columns;
      fits = subst (λ t. FitsWide t (declared_ranges table.frame)) (sym c.other_part-other.ensures) sums.wide;
    }

pub end_beside_column-requires : goal.end_beside_column-requires
end_beside_column-requires c = column_read c.args.column (term_of c.args.expr.now) (length c.args.columns.now.frame.columns) c.requires.product c.requires.sums.columns

pub returns-clause-product : goal.returns-clause-product
returns-clause-product c = λ row below.
    let table = c.args.columns.now in
    let column = c.args.column in
    let end = c.args.end in
    let other = term_of c.other_part-other.result.now in
    sym
    (ap (λ (e : End). term_end table e (Column column) row *ℤ term_end table c.end_beside_column.result other row) c.end_beside.ensures
    ∙ ap (λ (e : End). term_end table (beside table.frame other end) (Column column) row *ℤ term_end table e other row) c.end_beside_column.ensures
    ∙ ap (λ (t : Term). term_end table (beside table.frame t end) (Column column) row *ℤ term_end table (beside table.frame (Column column) end) t row) c.other_part-other.ensures
    ∙ sym (parts_end table column c.rows-rows.ensures.known row below end (term_of c.args.expr.now) c.requires.product c.requires.sums))
