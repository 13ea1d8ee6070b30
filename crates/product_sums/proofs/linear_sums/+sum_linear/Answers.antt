use Rattle.std.proofs.Common.{rules, ◌≡◌, ◌*ℤ◌, Bool, ◌||◌, to_z, of_z, ap, sym, subst, ◌∙◌, arith}
use Rattle.std.specs.Int.{w128}
use Rattle.std.proofs.lemmas.Int.{ints}
use Rattle.query_model.specs.Queries.{Add, Column, Sub, term_of}
use Rattle.product_sums.specs.KeptProducts.{is_clipped, AreColumnSums, IsLinear}
use Rattle.product_sums.specs.Products.{other_end, HasValues}
use Rattle.product_sums.proofs.LinearSums.{difference_of_times, difference_values, fewer_wanted, literal_times, or_left, or_right, sum_of_times, sum_values, times_end}
use Rattle.product_sums.proofs.Residues.{minus_is, plus_is, times_is, wrapped}
use Rattle.product_sums.proofs.linear_sums.+sum_linear.Goals as goal

pub returns-in-Column : goal.returns-in-Column
returns-in-Column t c = λ mask f are values.
    let table = c.args.columns.now in
    let whole : to_z w128 (of_z w128 c.sum_column.result) ≡ c.sum_column.result = omega (arith, ints) in
    let is : term_of c.args.expr.now ≡ Column c.in-Column._there = ap term_of c.in-Column.is in
    let same : term_of c.args.expr.now ≡ Column c.args.column = is ∙ ap Column (subst (IsLinear c.args.column) is c.requires.linear) in
    let wanted = subst (λ t. AreColumnSums table mask c.args.column f (is_clipped c.args.end t) c.args.sums.now) same are in
    whole ∙ c.sum_column.ensures mask f wanted (subst (λ t. HasValues table t mask) same values) ∙ ap (λ t. wrapped (times_end table mask f c.args.end t)) (sym same)

pub returns-in-Literal : goal.returns-in-Literal
returns-in-Literal t c = λ mask f are values.
    let table = c.args.columns.now in
    let sums = c.args.sums.now in
    let whole : to_z w128 (of_z w128 c.times.result) ≡ c.times.result = omega (arith, ints) in
    let number : to_z w128 (of_z w128 c.in-Literal.number) ≡ c.in-Literal.number = search rules in
    whole
    ∙ times_is c.times.result c.in-Literal.number sums.all _ (c.times.ensures ∙ ap (λ z. wrapped (z *ℤ to_z w128 (of_z w128 sums.all))) number) (omega (arith, ints)) are.all
    ∙ ap wrapped (sym (literal_times table mask f c.args.end c.in-Literal.number)) ∙ ap (λ t. wrapped (times_end table mask f c.args.end t)) (sym (ap term_of c.in-Literal.is))

pub returns-in-Add : goal.returns-in-Add
returns-in-Add t c = λ mask f are values.
    let table = c.args.columns.now in
    let end = c.args.end in
    let a = term_of c.in-Add.a.value in
    let b = term_of c.in-Add.b.value in
    let whole : to_z w128 (of_z w128 c.plus.result) ≡ c.plus.result = omega (arith, ints) in
    let is : term_of c.args.expr.now ≡ Add a b = ap term_of c.in-Add.is in
    let parts = sum_values table mask f a b (subst (λ t. HasValues table t mask) is values) in
    let left : term_of c.deref.result.now ≡ a = ap term_of c.deref.ensures in
    let right : term_of c.deref-in-Add.result.now ≡ b = ap term_of c.deref-in-Add.ensures in
    let sums = c.args.sums.now in
    let Wanted : Bool → Type 0 = λ wanted. AreColumnSums table mask c.args.column f wanted sums in
    let wanted = subst (λ t. Wanted (is_clipped end t)) is are in
    let one = is_clipped end a in
    let two = is_clipped end b in
    let first = subst (λ t. Wanted (is_clipped end t)) (sym left) (fewer_wanted table mask c.args.column f (one || two) one sums (or_left one two) wanted) in
    let second = subst (λ t. Wanted (is_clipped end t)) (sym right) (fewer_wanted table mask c.args.column f (one || two) two sums (or_right one two) wanted) in
    whole
    ∙ plus_is c.plus.result c.sum_linear.result c.sum_linear-in-Add.result _ _ c.plus.ensures (omega (arith, ints)) (omega (arith, ints))
    (c.sum_linear.ensures mask f first (subst (λ t. HasValues table t mask) (sym left) parts.0) ∙ ap (λ t. wrapped (times_end table mask f end t)) left)
    (c.sum_linear-in-Add.ensures mask f second (subst (λ t. HasValues table t mask) (sym right) parts.1) ∙ ap (λ t. wrapped (times_end table mask f end t)) right)
    ∙ ap wrapped (sym (sum_of_times table mask f end a b)) ∙ ap (λ t. wrapped (times_end table mask f end t)) (sym is)

pub returns-in-Sub : goal.returns-in-Sub
returns-in-Sub t c = λ mask f are values.
    let table = c.args.columns.now in
    let end = c.args.end in
    let a = term_of c.in-Sub.a.value in
    let b = term_of c.in-Sub.b.value in
    let whole : to_z w128 (of_z w128 c.minus.result) ≡ c.minus.result = omega (arith, ints) in
    let is : term_of c.args.expr.now ≡ Sub a b = ap term_of c.in-Sub.is in
    let parts = difference_values table mask f a b (subst (λ t. HasValues table t mask) is values) in
    let left : term_of c.deref-in-Sub.result.now ≡ a = ap term_of c.deref-in-Sub.ensures in
    let right : term_of c.deref-in-Sub-2.result.now ≡ b = ap term_of c.deref-in-Sub-2.ensures in
    let sums = c.args.sums.now in
    let Wanted : Bool → Type 0 = λ wanted. AreColumnSums table mask c.args.column f wanted sums in
    let wanted = subst (λ t. Wanted (is_clipped end t)) is are in
    let one = is_clipped end a in
    let two = is_clipped (other_end end) b in
    let first = subst (λ t. Wanted (is_clipped end t)) (sym left) (fewer_wanted table mask c.args.column f (one || two) one sums (or_left one two) wanted) in
    let second = subst (λ e. Wanted (is_clipped e (term_of c.deref-in-Sub-2.result.now))) (sym c.other.ensures) (subst (λ t. Wanted (is_clipped (other_end end) t)) (sym right) (fewer_wanted table mask c.args.column f (one || two) two sums (or_right one two) wanted)) in
    whole
    ∙ minus_is c.minus.result c.sum_linear-in-Sub.result c.sum_linear-in-Sub-2.result _ _ c.minus.ensures (omega (arith, ints)) (omega (arith, ints))
    (c.sum_linear-in-Sub.ensures mask f first (subst (λ t. HasValues table t mask) (sym left) parts.0) ∙ ap (λ t. wrapped (times_end table mask f end t)) left)
    (c.sum_linear-in-Sub-2.ensures mask f second (subst (λ t. HasValues table t mask) (sym right) parts.1) ∙ ap (λ t. wrapped (times_end table mask f c.other.result t)) right ∙ ap (λ e. wrapped (times_end table mask f e b)) c.other.ensures)
    ∙ ap wrapped (sym (difference_of_times table mask f end a b)) ∙ ap (λ t. wrapped (times_end table mask f end t)) (sym is)
