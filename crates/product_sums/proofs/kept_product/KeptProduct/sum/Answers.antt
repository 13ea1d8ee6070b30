use Rattle.std.proofs.Common.{◌≡◌, ◌<◌, ℕ, ◌*ℤ◌, IsTrue, IfSome, to_z, of_z, ap, sym, subst, ◌∙◌, arith}
use Rattle.std.specs.Prelude.{Some}
use Rattle.std.specs.declared.option.Option.{Option}
use Rattle.std.specs.Int.{int_wrap, w128}
use Rattle.std.proofs.lemmas.Int.{ints}
use Rattle.std.proofs.lemmas.List.Elements.{All-set}
use Rattle.aggregates.specs.Selections.{has_row}
use Rattle.aggregates.proofs.BlockWords.{row_within}
use Rattle.query_model.specs.Queries.{Term, term_of}
use Rattle.product_sums.specs.declared.kept_column.Third.{Third}
use Rattle.product_sums.specs.KeptProducts.{AreKeptEnds, AreOuter, IsLinear, IsProductWith, IsThird, factor_end, inner_end, inner_part, other_part}
use Rattle.product_sums.specs.Products.{HasValues, IsProductSum, term_end}
use Rattle.product_sums.proofs.MaskSums.{wrapped_fits}
use Rattle.product_sums.proofs.RowSums.{over_same}
use Rattle.product_sums.proofs.Thirds.{pair_follows, third_facts, third_sums, third_valued}
use Rattle.product_sums.proofs.kept_product.KeptProduct.sum.Goals as goal

-- ---- two columns

pub part_ends-parts-requires-clause-product : goal.part_ends-parts-requires-clause-product
part_ends-parts-requires-clause-product c =
    subst (λ (t : Option Third). IsProductWith c.args.self.now.columns.pair.first (inner_part t (term_of c.args.expr.now))) c.in-None.is c.requires.kept.columns_are.product

pub sum-requires-clause-follow : goal.sum-requires-clause-follow
sum-requires-clause-follow c =
    let table = c.args.columns.now in
    let pair = c.args.self.now.columns.pair in
    let term = term_of c.args.expr.now in
    let product = subst (λ (t : Option Third). IsProductWith pair.first (inner_part t term)) c.in-None.is c.requires.kept.columns_are.product in
    let linear = subst (λ (t : Option Third). IsLinear pair.second (other_part pair.first (inner_part t term))) c.in-None.is c.requires.kept.columns_are.linear in
    pair_follows table c.args.mask.now pair c.part_ends-parts.result term c.requires.rows product linear c.part_ends-parts.ensures.other c.requires.sums c.requires.values

pub returns-in-None-clause-sum : goal.returns-in-None-clause-sum
returns-in-None-clause-sum c =
    let table = c.args.columns.now in
    let mask = c.args.mask.now in
    let end = c.args.end in
    let term = term_of c.args.expr.now in
    let whole : to_z w128 (of_z w128 c.sum.result) ≡ c.sum.result = omega (arith, ints) in
    let below : (r : ℕ) → IsTrue (has_row mask r) → r < table.frame.rows = λ r has. omega (arith, row_within mask r has, c.requires.rows) in
    whole
    ∙ wrapped_fits table c.rows-rows.ensures.known end term mask c.requires.rows c.requires.fits c.sum.result
    (c.sum.ensures.inner c.in-None.is
    ∙ ap (int_wrap w128) (over_same mask (inner_end table c.args.self.now.columns.pair.first c.part_ends-parts.result) (term_end table end term) (λ r has. sym (c.part_ends-parts.ensures.product r (below r has)))))

pub returns-in-None-clause-kept : goal.returns-in-None-clause-kept
returns-in-None-clause-kept c = record {
  columns_are = c.requires.kept.columns_are;
  cells_are = All-set (AreKeptEnds c.args.columns.now c.args.self.now.columns) c.args.self.now.cells.items c.args.cell c.sum.new.self c.sum.ensures.kept c.requires.kept.cells_are;
  room_is = c.sum.ensures.room;
}

-- ---- three columns

pub sum-requires-in-Some-clause-follow : goal.sum-requires-in-Some-clause-follow
sum-requires-in-Some-clause-follow c =
    let table = c.args.columns.now in
    let mask = c.args.mask.now in
    let columns = c.args.self.now.columns in
    let term = term_of c.args.expr.now in
    let third = c.in-Some.third in
    let is_third : IsThird table third term = subst (λ (o : Option Third). IfSome o (λ third. IsThird table third term)) c.in-Some.is c.requires.kept.columns_are.third in
    let sums : IsProductSum table.frame (inner_part columns.third term) = subst (λ (o : Option Third). IsProductSum table.frame (inner_part o term)) (sym c.in-Some.is) (third_sums table third term is_third c.requires.sums).0 in
    let values : HasValues table (inner_part columns.third term) mask =
    subst (λ (o : Option Third). HasValues table (inner_part o term) mask) (sym c.in-Some.is) (λ row has. (third_valued table third term row is_third (c.requires.values row has)).0) in
    pair_follows table mask columns.pair c.part_ends-parts-in-Some.result (inner_part columns.third term) c.requires.rows c.requires.kept.columns_are.product c.requires.kept.columns_are.linear
    (c.part_ends-parts-in-Some.ensures.other ∙ ap (other_part columns.pair.first) c.inner_part-inner.ensures) sums values

pub sum-requires-in-Some-clause-outer : goal.sum-requires-in-Some-clause-outer
sum-requires-in-Some-clause-outer c =
    let table = c.args.columns.now in
    let mask = c.args.mask.now in
    let term = term_of c.args.expr.now in
    let third = c.in-Some.third in
    let outer = c.outer_ends-at_inner.result.1 in
    let is_third : IsThird table third term = subst (λ (o : Option Third). IfSome o (λ third. IsThird table third term)) c.in-Some.is c.requires.kept.columns_are.third in
    let facts = third_facts table third term is_third in
    let part = c.outer_ends-at_inner.ensures.part in
    subst (λ (o : Option Third). AreOuter table mask o (Some outer)) (sym c.in-Some.is)
    (facts.0, subst (IsLinear third.column) (sym part) facts.1, subst (λ t. HasValues table t mask) (sym part) (λ row has. (third_valued table third term row is_third (c.requires.values row has)).1))

pub returns-in-Some-clause-kept : goal.returns-in-Some-clause-kept
returns-in-Some-clause-kept c = record {
  columns_are = c.requires.kept.columns_are;
  cells_are = All-set (AreKeptEnds c.args.columns.now c.args.self.now.columns) c.args.self.now.cells.items c.args.cell c.sum-in-Some.new.self c.sum-in-Some.ensures.kept c.requires.kept.cells_are;
  room_is = c.sum-in-Some.ensures.room;
}

pub returns-in-Some-clause-sum : goal.returns-in-Some-clause-sum
returns-in-Some-clause-sum c =
    let table = c.args.columns.now in
    let mask = c.args.mask.now in
    let end = c.args.end in
    let first = c.args.self.now.columns.pair.first in
    let term = term_of c.args.expr.now in
    let outer = c.outer_ends-at_inner.result.1 in
    let at_inner = c.outer_ends-at_inner.result.0 in
    let parts = c.part_ends-parts-in-Some.result in
    let whole : to_z w128 (of_z w128 c.sum-in-Some.result) ≡ c.sum-in-Some.result = omega (arith, ints) in
    let below : (r : ℕ) → IsTrue (has_row mask r) → r < table.frame.rows = λ r has. omega (arith, row_within mask r has, c.requires.rows) in
    let inner : inner_part (Some c.in-Some.third) term ≡ term_of c.inner_part-inner.result.now = ap (λ (o : Option Third). inner_part o term) (sym c.in-Some.is) ∙ sym c.inner_part-inner.ensures in
    whole
    ∙ wrapped_fits table c.rows-rows.ensures.known end term mask c.requires.rows c.requires.fits c.sum-in-Some.result
    (c.sum-in-Some.ensures.product
    ∙ ap (int_wrap w128) (over_same mask (λ r. factor_end table outer r *ℤ inner_end table first parts r) (term_end table end term)
    (λ r has. sym (c.outer_ends-at_inner.ensures.product r (below r has) ∙ ap (λ (t : Term). factor_end table outer r *ℤ term_end table at_inner t r) inner
    ∙ ap (λ z. factor_end table outer r *ℤ z) (c.part_ends-parts-in-Some.ensures.product r (below r has))))))
