use Rattle.std.proofs.Common.{rules, ◌≡◌, ◌+◌, ◌-◌, ◌*◌, min, cond, pos, ◌*ℤ◌, ◌&&◌, length, map, IfSome, take, drop, count_by, FitsSigned, to_z, of_z, refl, ap, sym, subst, ◌∙◌, arith}
use Rattle.std.specs.Int.{int_wrap, w128}
use Rattle.std.specs.Simd.Lanes.{zip2}
use Rattle.std.proofs.Math.IntN.{*ℤ-zero}
use Rattle.std.proofs.lemmas.Int.{ints, int_wrap_fits}
use Rattle.daq_table.specs.Tables.{ends_at}
use Rattle.aggregates.proofs.NumberRows.{first_plane}
use Rattle.known_column.specs.Columns.{KnownColumn, digit_of, is_at_top}
use Rattle.known_column.specs.KnownTables.{column_at}
use Rattle.query_model.specs.Knowledge.{known_at}
use Rattle.query_model.specs.Queries.{Column, Term, term_of}
use Rattle.product_sums.specs.ColumnEnds.{weight_of_all, weight_of_digits, weight_of_top}
use Rattle.product_sums.specs.Fetched.{IsLone}
use Rattle.product_sums.specs.Products.{CanMultiply, end_beside, is_never_negative, product_at, sum_of_products, term_end}
use Rattle.product_sums.proofs.DigitSums.{column_sum, digits_first, digits_last, digits_next, first_digits, tested_length}
use Rattle.product_sums.proofs.Firsts.{add_sum, empty_sum, literal_sum, mul_sum, mul_turned, sub_sum}
use Rattle.product_sums.proofs.Multiplying.{can_count, few_of_degree, fewer_rows, some_degree}
use Rattle.product_sums.proofs.Residues.{minus_is, plus_is, times_is, times_wrapped, wrapped}
use Rattle.product_sums.proofs.RowSums.{over_none, over_same}
use Rattle.product_sums.proofs.block_sums.+sum.Goals as goal

pub sum_both-joined-factors-requires : goal.sum_both-joined-factors-requires
sum_both-joined-factors-requires t c =
    omega (arith, c.requires.few_factors, some_degree (term_of c.args.parts.first.term.now), some_degree (term_of c.args.parts.second.term.now), few_of_degree c.args.rest.now)

pub sum_column-and-tops-requires : goal.sum_column-and-tops-requires
sum_column-and-tops-requires t c =
    let table = c.args.columns.now in
    let is : c.column-known.result.now ≡ column_at table c.args.first.column = c.column-known.ensures.column ∙ ap (column_at table) c.from.ensures in
    ap length (c.of_mask.ensures ∙ ap (λ l. take 512 (drop (512 * c.args.block) l)) (c.at_top.ensures ∙ ap (λ (k : KnownColumn). map (is_at_top k.ends k.known.read) k.known.prefixes) is))
    ∙ tested_length table c.args.block c.args.rows.now (product_at table c.args.rest.now) (can_count table c.args.block c.args.rows.now c.args.rest.now c.requires.rest) c.args.first.column c.requires.column (is_at_top (ends_at table.frame c.args.first.column) (known_at table.known c.args.first.column).read)

pub sum_column-sum_times-less-requires : goal.sum_column-sum_times-less-requires
sum_column-sum_times-less-requires t c =
    let table = c.args.columns.now in
    let is : c.column-known.result.now ≡ column_at table c.args.first.column = c.column-known.ensures.column ∙ ap (column_at table) c.from.ensures in
    let same : length c.of_mask.result ≡ length c.args.rows.now =
    ap length (c.of_mask.ensures ∙ ap (λ l. take 512 (drop (512 * c.args.block) l)) (c.at_top.ensures ∙ ap (λ (k : KnownColumn). map (is_at_top k.ends k.known.read) k.known.prefixes) is))
    ∙ tested_length table c.args.block c.args.rows.now (product_at table c.args.rest.now) (can_count table c.args.block c.args.rows.now c.args.rest.now c.requires.rest) c.args.first.column c.requires.column (is_at_top (ends_at table.frame c.args.first.column) (known_at table.known c.args.first.column).read) in (
      search (rules, arith),
      subst (λ r. CanMultiply table c.args.block r c.args.rest.now) (sym c.and-tops.ensures) (fewer_rows table c.args.block c.args.rows.now c.of_mask.result c.args.rest.now same c.requires.rest),
    )

pub sum_column-returns : goal.sum_column-returns
sum_column-returns t c =
    let table = c.args.columns.now in
    let rest = c.args.rest.now in
    let is : c.column-known.result.now ≡ column_at table c.args.first.column = c.column-known.ensures.column ∙ ap (column_at table) c.from.ensures in
    let whole : to_z w128 (of_z w128 c.minus.result) ≡ c.minus.result = omega (arith, ints) in
    let digits_weigh : to_z w128 (of_z w128 c.weight_of_digits.result) ≡ weight_of_digits (column_at table c.args.first.column) = omega (arith, ints) ∙ c.weight_of_digits.ensures ∙ ap weight_of_digits is in
    let all_weigh : to_z w128 (of_z w128 c.weight_of_all.result) ≡ weight_of_all c.args.first.end (column_at table c.args.first.column) = omega (arith, ints) ∙ c.weight_of_all.ensures ∙ ap (weight_of_all c.args.first.end) is in
    let top_weighs : to_z w128 (of_z w128 c.weight_of_top.result) ≡ weight_of_top c.args.first.end (column_at table c.args.first.column) = omega (arith, ints) ∙ c.weight_of_top.ensures ∙ ap (weight_of_top c.args.first.end) is in
    let tops : c.and-tops.result ≡ zip2 (λ a b. a && b) c.args.rows.now (take 512 (drop (512 * c.args.block) (map (is_at_top (ends_at table.frame c.args.first.column) (known_at table.known c.args.first.column).read) (known_at table.known c.args.first.column).prefixes))) =
    c.and-tops.ensures
    ∙ ap (zip2 (λ a b. a && b) c.args.rows.now) (c.of_mask.ensures ∙ ap (λ l. take 512 (drop (512 * c.args.block) l)) (c.at_top.ensures ∙ ap (λ (k : KnownColumn). map (is_at_top k.ends k.known.read) k.known.prefixes) is)) in
    let digits = times_is c.times-digits.result (weight_of_digits (column_at table c.args.first.column)) c.sum_digits.result _
    (c.times-digits.ensures ∙ ap (λ z. wrapped (z *ℤ to_z w128 (of_z w128 c.sum_digits.result))) digits_weigh) (omega (arith, ints)) c.sum_digits.ensures in
    let all = c.sum_times-all.ensures ∙ ap (λ z. wrapped (z *ℤ sum_of_products table c.args.block c.args.rows.now rest)) all_weigh in
    let less = c.sum_times-less.ensures ∙ ap (λ z. wrapped (z *ℤ sum_of_products table c.args.block c.and-tops.result rest)) top_weighs
    ∙ ap (λ r. wrapped (weight_of_top c.args.first.end (column_at table c.args.first.column) *ℤ sum_of_products table c.args.block r rest)) tops in
    whole
    ∙ minus_is c.minus.result c.plus.result c.sum_times-less.result _ _ c.minus.ensures (omega (arith, ints)) (omega (arith, ints))
    (plus_is c.plus.result c.times-digits.result c.sum_times-all.result _ _ c.plus.ensures (omega (arith, ints)) (omega (arith, ints)) digits all) less
    ∙ ap wrapped (sym (column_sum table c.args.block c.args.rows.now (product_at table rest) (can_count table c.args.block c.args.rows.now rest c.requires.rest) c.args.first.column c.requires.column c.args.first.end c.requires.values))

pub sum_digits-loop-j-init : goal.sum_digits-loop-j-init
sum_digits-loop-j-init t c =
    let table = c.args.columns.now in
    let is : c.column-known.result.now ≡ column_at table c.args.column = c.column-known.ensures.column ∙ ap (column_at table) c.from.ensures in
    let from : c.number_planes-from.result.0 ≡ first_plane (ends_at table.frame c.args.column) (known_at table.known c.args.column).read =
    c.number_planes-from.ensures.from ∙ ap (λ (k : KnownColumn). min (cond k.ends.nullable 1 0) k.known.read) is in
    let none : FitsSigned w128 (pos 0) = record { sfits = omega arith } in
    record {
      sum = sym (int_wrap_fits w128 (pos 0) none)
          ∙ ap (int_wrap w128) (sym (digits_first table c.args.block c.args.rows.now (product_at table c.args.rest.now) (can_count table c.args.block c.args.rows.now c.args.rest.now c.requires.rest) c.args.column c.requires.column c.number_planes-from.result.0 (omega (arith, from))));
      fetched = c.fetch_lone-fetched.ensures;
    }

pub sum_digits-and-ones-requires : goal.sum_digits-and-ones-requires
sum_digits-and-ones-requires t c =
    let table = c.args.columns.now in
    let is : c.column-known.result.now ≡ column_at table c.args.column = c.column-known.ensures.column ∙ ap (column_at table) c.from.ensures in
    ap length (c.of_plane.ensures ∙ ap (λ l. take 512 (drop (512 * c.args.block) l)) (c.plane.ensures ∙ ap (λ (k : KnownColumn). map (digit_of k.known.read c.loop-j.j) k.known.prefixes) is))
    ∙ tested_length table c.args.block c.args.rows.now (product_at table c.args.rest.now) (can_count table c.args.block c.args.rows.now c.args.rest.now c.requires.rest) c.args.column c.requires.column (digit_of (known_at table.known c.args.column).read c.loop-j.j)

pub sum_digits-sum_rest-requires : goal.sum_digits-sum_rest-requires
sum_digits-sum_rest-requires t c =
    let table = c.args.columns.now in
    let is : c.column-known.result.now ≡ column_at table c.args.column = c.column-known.ensures.column ∙ ap (column_at table) c.from.ensures in
    let same : length c.of_plane.result ≡ length c.args.rows.now =
    ap length (c.of_plane.ensures ∙ ap (λ l. take 512 (drop (512 * c.args.block) l)) (c.plane.ensures ∙ ap (λ (k : KnownColumn). map (digit_of k.known.read c.loop-j.j) k.known.prefixes) is))
    ∙ tested_length table c.args.block c.args.rows.now (product_at table c.args.rest.now) (can_count table c.args.block c.args.rows.now c.args.rest.now c.requires.rest) c.args.column c.requires.column (digit_of (known_at table.known c.args.column).read c.loop-j.j) in (
      search (rules, arith),
      (subst (λ r. CanMultiply table c.args.block r c.args.rest.now) (sym c.and-ones.ensures) (fewer_rows table c.args.block c.args.rows.now c.of_plane.result c.args.rest.now same c.requires.rest), c.loop-j.invariant.fetched),
    )

pub sum_digits-loop-j-preserved : goal.sum_digits-loop-j-preserved
sum_digits-loop-j-preserved t c =
    let table = c.args.columns.now in
    let rest = c.args.rest.now in
    let whole : to_z w128 (of_z w128 c.plus-sum.result) ≡ c.plus-sum.result = omega (arith, ints) in
    let is : c.column-known.result.now ≡ column_at table c.args.column = c.column-known.ensures.column ∙ ap (column_at table) c.from.ensures in
    let from : c.number_planes-from.result.0 ≡ first_plane (ends_at table.frame c.args.column) (known_at table.known c.args.column).read =
    c.number_planes-from.ensures.from ∙ ap (λ (k : KnownColumn). min (cond k.ends.nullable 1 0) k.known.read) is in
    let to : c.number_planes-from.result.1 ≡ (known_at table.known c.args.column).read = c.number_planes-from.ensures.to ∙ ap (λ (k : KnownColumn). k.known.read) is in
    let ones : c.and-ones.result ≡ zip2 (λ a b. a && b) c.args.rows.now (take 512 (drop (512 * c.args.block) (map (digit_of (known_at table.known c.args.column).read c.loop-j.j) (known_at table.known c.args.column).prefixes))) =
    c.and-ones.ensures
    ∙ ap (zip2 (λ a b. a && b) c.args.rows.now) (c.of_plane.ensures ∙ ap (λ l. take 512 (drop (512 * c.args.block) l)) (c.plane.ensures ∙ ap (λ (k : KnownColumn). map (digit_of k.known.read c.loop-j.j) k.known.prefixes) is)) in
    let before = first_digits table c.args.block c.args.rows.now (product_at table rest) c.args.column ((known_at table.known c.args.column).read - c.loop-j.j) in
    let twice = c.times.ensures ∙ ap (λ z. wrapped (z *ℤ pos 2)) c.loop-j.invariant.sum ∙ times_wrapped before (pos 2) in
    record {
      sum = whole
          ∙ plus_is c.plus-sum.result c.times.result c.sum_rest.result _ _ c.plus-sum.ensures (omega (arith, ints)) (omega (arith, ints)) twice (c.sum_rest.ensures.sum ∙ ap (λ r. wrapped (sum_of_products table c.args.block r rest)) ones)
          ∙ ap wrapped (sym (digits_next table c.args.block c.args.rows.now (product_at table rest) (can_count table c.args.block c.args.rows.now rest c.requires.rest) c.args.column c.requires.column c.loop-j.j (omega (arith, from, c.loop-j.auto)) (omega (arith, to, c.loop-j-test.true))));
      fetched = c.sum_rest.ensures.fetched;
    }

pub sum_digits-returns : goal.sum_digits-returns
sum_digits-returns t c =
    let table = c.args.columns.now in
    let is : c.column-known.result.now ≡ column_at table c.args.column = c.column-known.ensures.column ∙ ap (column_at table) c.from.ensures in
    let to : c.number_planes-from.result.1 ≡ (known_at table.known c.args.column).read = c.number_planes-from.ensures.to ∙ ap (λ (k : KnownColumn). k.known.read) is in
    c.loop-j.invariant.sum
    ∙ ap wrapped (digits_last table c.args.block c.args.rows.now (product_at table c.args.rest.now) (can_count table c.args.block c.args.rows.now c.args.rest.now c.requires.rest) c.args.column c.requires.column ((known_at table.known c.args.column).read - c.loop-j.j) (omega (arith, to, c.loop-j.auto, c.loop-j-test.false)))

pub sum_first-returns-in-Literal : goal.sum_first-returns-in-Literal
sum_first-returns-in-Literal t c =
    let whole : to_z w128 (of_z w128 c.sum_times.result) ≡ c.sum_times.result = omega (arith, ints) in
    let number : to_z w128 (of_z w128 c.in-Literal.number) ≡ c.in-Literal.number = search rules in
    whole ∙ c.sum_times.ensures ∙ ap (λ z. wrapped (z *ℤ sum_of_products c.args.columns.now c.args.block c.args.rows.now c.args.rest.now)) number
    ∙ ap wrapped (sym (literal_sum c.args.columns.now c.args.block c.args.rows.now c.args.rest.now c.args.first c.in-Literal.number (ap term_of c.in-Literal.is)))

pub sum_first-returns-in-Add : goal.sum_first-returns-in-Add
sum_first-returns-in-Add t c =
    let whole : to_z w128 (of_z w128 c.plus.result) ≡ c.plus.result = omega (arith, ints) in
    whole
    ∙ plus_is c.plus.result c.sum_first.result c.sum_first-in-Add.result _ _ c.plus.ensures (omega (arith, ints)) (omega (arith, ints)) c.sum_first.ensures c.sum_first-in-Add.ensures
    ∙ ap wrapped (sym (add_sum c.args.columns.now c.args.block c.args.rows.now c.args.rest.now c.args.first (record { term = c.deref.result; end = c.args.first.end }) (record { term = c.deref-in-Add.result; end = c.args.first.end }) (term_of c.in-Add.a.value) (term_of c.in-Add.b.value)
    (ap term_of c.in-Add.is) (ap term_of c.deref.ensures) (ap term_of c.deref-in-Add.ensures) refl refl))

pub sum_first-returns-in-Sub : goal.sum_first-returns-in-Sub
sum_first-returns-in-Sub t c =
    let whole : to_z w128 (of_z w128 c.minus.result) ≡ c.minus.result = omega (arith, ints) in
    whole
    ∙ minus_is c.minus.result c.sum_first-in-Sub.result c.sum_first-in-Sub-2.result _ _ c.minus.ensures (omega (arith, ints)) (omega (arith, ints)) c.sum_first-in-Sub.ensures c.sum_first-in-Sub-2.ensures
    ∙ ap wrapped (sym (sub_sum c.args.columns.now c.args.block c.args.rows.now c.args.rest.now c.args.first (record { term = c.deref-in-Sub.result; end = c.args.first.end }) c.subtrahend.result (term_of c.in-Sub.a.value) (term_of c.in-Sub.b.value)
    (ap term_of c.in-Sub.is) (ap term_of c.deref-in-Sub.ensures) (ap term_of (c.subtrahend.ensures.term ∙ c.deref-in-Sub-2.ensures)) refl c.subtrahend.ensures.end))

pub sum_first-returns-then-is_longer : goal.sum_first-returns-then-is_longer
sum_first-returns-then-is_longer t c =
    let whole : to_z w128 (of_z w128 c.sum_both.result) ≡ c.sum_both.result = omega (arith, ints) in
    whole ∙ c.sum_both.ensures
    ∙ ap wrapped (sym (mul_turned c.args.columns.now c.args.block c.args.rows.now c.args.rest.now c.args.first c.factor_beside-left.result c.factor_beside-right.result c.requires (term_of c.in-Mul.a.value) (term_of c.in-Mul.b.value)
    (ap term_of c.in-Mul.is) (ap term_of (c.factor_beside-left.ensures.term ∙ c.deref-in-Mul.ensures)) (ap term_of (c.factor_beside-right.ensures.term ∙ c.deref-in-Mul-3.ensures))
    (c.factor_beside-left.ensures.end ∙ ap (λ (t : Term). end_beside (is_never_negative c.args.columns.now.frame t) c.args.first.end) (ap term_of c.deref-in-Mul-2.ensures))
    (c.factor_beside-right.ensures.end ∙ ap (λ (t : Term). end_beside (is_never_negative c.args.columns.now.frame t) c.args.first.end) (ap term_of c.deref-in-Mul-4.ensures))))

pub sum_first-returns-else-is_longer : goal.sum_first-returns-else-is_longer
sum_first-returns-else-is_longer t c =
    let whole : to_z w128 (of_z w128 c.sum_both-else-is_longer.result) ≡ c.sum_both-else-is_longer.result = omega (arith, ints) in
    whole ∙ c.sum_both-else-is_longer.ensures
    ∙ ap wrapped (sym (mul_sum c.args.columns.now c.args.block c.args.rows.now c.args.rest.now c.args.first c.factor_beside-left.result c.factor_beside-right.result c.requires (term_of c.in-Mul.a.value) (term_of c.in-Mul.b.value)
    (ap term_of c.in-Mul.is) (ap term_of (c.factor_beside-left.ensures.term ∙ c.deref-in-Mul.ensures)) (ap term_of (c.factor_beside-right.ensures.term ∙ c.deref-in-Mul-3.ensures))
    (c.factor_beside-left.ensures.end ∙ ap (λ (t : Term). end_beside (is_never_negative c.args.columns.now.frame t) c.args.first.end) (ap term_of c.deref-in-Mul-2.ensures))
    (c.factor_beside-right.ensures.end ∙ ap (λ (t : Term). end_beside (is_never_negative c.args.columns.now.frame t) c.args.first.end) (ap term_of c.deref-in-Mul-4.ensures))))

pub sum_products-returns-in-empty : goal.sum_products-returns-in-empty
sum_products-returns-in-empty t c =
    let whole : to_z w128 (of_z w128 c.from.result) ≡ c.from.result = omega (arith, ints) in
    let few : FitsSigned w128 (pos (count_by (λ b. b) c.args.rows.now)) = record { sfits = omega (arith, c.count.type_inv, c.count.ensures) } in
    whole ∙ c.from.ensures ∙ ap pos c.count.ensures ∙ sym (int_wrap_fits w128 (pos (count_by (λ b. b) c.args.rows.now)) few)
    ∙ ap wrapped (sym (empty_sum c.args.columns.now c.args.block c.args.rows.now c.args.factors.now (omega (arith, c.in-empty.len_below))))

pub sum_rest-returns-in-Some-clause-sum : goal.sum_rest-returns-in-Some-clause-sum
sum_rest-returns-in-Some-clause-sum t c =
    let table = c.args.columns.now in
    let rest = c.args.rest.now in
    let words = c.in-Some.words in
    let lone = subst (λ o. IfSome o (λ fetched. IsLone table c.args.block rest fetched c.args.room.now.planes)) c.in-Some.is c.requires.fetched in
    let whole : to_z w128 (of_z w128 c.sum_fetched.result) ≡ c.sum_fetched.result = omega (arith, ints) in
    whole ∙ c.sum_fetched.ensures
    ∙ ap wrapped (over_same c.args.rows.now (λ i. term_end table words.end (Column words.column) (512 * c.args.block + i) *ℤ pos 1) (λ i. product_at table rest (512 * c.args.block + i)) (λ i has. sym (lone.product (512 * c.args.block + i))))

pub sum_times-returns-then-count-eq0 : goal.sum_times-returns-then-count-eq0
sum_times-returns-then-count-eq0 t c =
    let table = c.args.columns.now in
    let none = over_none c.args.rows.now (λ i. product_at table c.args.factors.now (512 * c.args.block + i)) (omega (arith, c.count.ensures, c.if-count-eq0.true)) in
    let fits : FitsSigned w128 (pos 0) = record { sfits = omega arith } in
    sym (ap (λ z. wrapped (c.args.number *ℤ z)) none ∙ ap wrapped (*ℤ-zero c.args.number) ∙ int_wrap_fits w128 (pos 0) fits)

pub sum_times-returns : goal.sum_times-returns
sum_times-returns t c =
    let whole : to_z w128 (of_z w128 c.times.result) ≡ c.times.result = omega (arith, ints) in
    let number : to_z w128 (of_z w128 c.args.number) ≡ c.args.number = omega (arith, ints) in
    whole
    ∙ times_is c.times.result c.args.number c.sum_products.result _ (c.times.ensures ∙ ap (λ z. wrapped (z *ℤ to_z w128 (of_z w128 c.sum_products.result))) number) (omega (arith, ints)) c.sum_products.ensures
