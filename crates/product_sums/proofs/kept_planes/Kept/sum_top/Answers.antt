use Rattle.std.proofs.Common.{◌≡◌, ◌&&◌, ℕ, ℤ, pos, ◌*ℤ◌, FitsSigned, length, to_z, of_z, ap, sym, subst, ◌∙◌, arith}
use Rattle.std.specs.Int.{w128}
use Rattle.std.specs.Simd.Lanes.{zip2}
use Rattle.std.proofs.Math.IntN.{zero-*ℤ}
use Rattle.std.proofs.lemmas.Int.{ints, int_wrap_fits}
use Rattle.std.proofs.lemmas.List.{length-map}
use Rattle.std.proofs.lemmas.Simd.{length-zip2}
use Rattle.aggregates.specs.declared.ends.End.TheVariants.{High}
use Rattle.known_column.specs.Columns.{is_at_top, rows_where}
use Rattle.known_column.specs.KnownTables.{column_at}
use Rattle.product_sums.specs.ColumnEnds.{weight_of_top}
use Rattle.product_sums.specs.KeptProducts.{CanFollowPair, inner_end}
use Rattle.product_sums.specs.Products.{sum_over}
use Rattle.product_sums.proofs.EvenMasks.{among_all}
use Rattle.product_sums.proofs.Residues.{times_is, wrapped}
use Rattle.product_sums.proofs.Thirds.{follow_among}
use Rattle.product_sums.proofs.kept_planes.Kept.sum_top.Goals as goal

pub returns-then-weight-eq0-clause-sum : goal.returns-then-weight-eq0-clause-sum
returns-then-weight-eq0-clause-sum c = λ wanted.
    let table = c.args.columns.now in
    let is : c.column-known.result.now ≡ column_at table c.args.third = c.column-known.ensures.column ∙ ap (column_at table) c.from.ensures in
    let none : weight_of_top High (column_at table c.args.third) ≡ pos 0 = sym (c.weight_of_top-weight.ensures ∙ ap (weight_of_top High) is) ∙ omega (arith, ints, c.if-weight-eq0.true) in
    let fits : FitsSigned w128 (pos 0) = record { sfits = omega arith } in
    let sum = sum_over (zip2 (λ a b. a && b) c.args.rows.mask.now (rows_where is_at_top (column_at table c.args.third))) (inner_end table c.args.inner.pair.first c.args.inner.parts) in
    sym (ap (λ z. wrapped (z *ℤ sum)) none ∙ ap wrapped (zero-*ℤ sum) ∙ int_wrap_fits w128 (pos 0) fits)

pub returns-then-has_all_rows-clause-sum : goal.returns-then-has_all_rows-clause-sum
returns-then-has_all_rows-clause-sum c = λ wanted.
    let table = c.args.columns.now in
    let third = c.args.third in
    let mask = c.args.rows.mask.now in
    let f : ℕ → ℤ = inner_end table c.args.inner.pair.first c.args.inner.parts in
    let tops = c.at_top.result.now in
    let is : c.column-known.result.now ≡ column_at table third = c.column-known.ensures.column ∙ ap (column_at table) c.from.ensures in
    let whole : to_z w128 (of_z w128 c.times.result) ≡ c.times.result = omega (arith, ints) in
    let weighs : to_z w128 (of_z w128 c.weight_of_top-weight.result) ≡ weight_of_top High (column_at table third) = omega (arith, ints) ∙ c.weight_of_top-weight.ensures ∙ ap (weight_of_top High) is in
    let long : length tops ≡ length mask = ap length c.at_top.ensures ∙ length-map _ _ ∙ c.column-known.ensures.rows ∙ sym c.requires.follow.follow.rows in
    let all : mask ≡ zip2 (λ a b. a && b) mask (rows_where is_at_top (column_at table third)) =
    sym (among_all mask tops long (c.has_all_rows.ensures c.if-has_all_rows.true)) ∙ ap (zip2 (λ a b. a && b) mask) (c.at_top.ensures ∙ ap (rows_where is_at_top) is) in
    whole
    ∙ times_is c.times.result (weight_of_top High (column_at table third)) c.args.rows.sum _ (c.times.ensures ∙ ap (λ z. wrapped (z *ℤ to_z w128 (of_z w128 c.args.rows.sum))) weighs) (omega (arith, ints))
    (c.requires.whole ∙ ap (λ m. wrapped (sum_over m f)) all)

pub returns-clause-sum : goal.returns-clause-sum
returns-clause-sum c = λ wanted.
    let table = c.args.columns.now in
    let third = c.args.third in
    let f : ℕ → ℤ = inner_end table c.args.inner.pair.first c.args.inner.parts in
    let tops = c.at_top-2.result.now in
    let is : c.column-known.result.now ≡ column_at table third = c.column-known.ensures.column ∙ ap (column_at table) c.from.ensures in
    let whole : to_z w128 (of_z w128 c.times-2.result) ≡ c.times-2.result = omega (arith, ints) in
    let weighs : to_z w128 (of_z w128 c.weight_of_top-weight.result) ≡ weight_of_top High (column_at table third) = omega (arith, ints) ∙ c.weight_of_top-weight.ensures ∙ ap (weight_of_top High) is in
    let room = c.and_into.ensures ∙ ap (λ m. zip2 (λ a b. a && b) m tops) c.copy_from.ensures ∙ ap (zip2 (λ a b. a && b) c.args.rows.mask.now) (c.at_top-2.ensures ∙ ap (rows_where is_at_top) is) in
    whole
    ∙ times_is c.times-2.result (weight_of_top High (column_at table third)) c.sum-sum.result _ (c.times-2.ensures ∙ ap (λ z. wrapped (z *ℤ to_z w128 (of_z w128 c.sum-sum.result))) weighs) (omega (arith, ints))
    (c.sum-sum.ensures.sum ∙ ap (λ m. wrapped (sum_over m f)) room)

pub sum-sum-requires-clause-follow : goal.sum-sum-requires-clause-follow
sum-sum-requires-clause-follow c =
    let table = c.args.columns.now in
    let tops = c.at_top-2.result.now in
    let mask = c.args.rows.mask.now in
    let long : length tops ≡ length mask = ap length c.at_top-2.ensures ∙ length-map _ _ ∙ c.column-known.ensures.rows ∙ sym c.requires.follow.follow.rows in
    let rows = c.and_into.ensures ∙ ap (λ m. zip2 (λ a b. a && b) m tops) c.copy_from.ensures in
    subst (λ m. CanFollowPair table m c.args.inner.pair c.args.inner.parts) (sym rows) (follow_among table mask tops c.args.inner.pair c.args.inner.parts long c.requires.follow)

pub is_of-stay-requires : goal.is_of-stay-requires
is_of-stay-requires c =
    let tops = c.at_top-2.result.now in
    let mask = c.args.rows.mask.now in
    let long : length tops ≡ length mask = ap length c.at_top-2.ensures ∙ length-map _ _ ∙ c.column-known.ensures.rows ∙ sym c.requires.follow.follow.rows in
    ap length (c.and_into.ensures ∙ ap (λ m. zip2 (λ a b. a && b) m tops) c.copy_from.ensures) ∙ length-zip2 (λ a b. a && b) mask tops (sym long) ∙ c.requires.follow.follow.rows ∙ sym c.requires.top.rows
