use Rattle.std.proofs.Common.{◌≡◌, ◌∙◌, rules, arith}
use Rattle.std.proofs.lemmas.Int.{ints, to_z-of_z}
use Rattle.std.specs.Int.{w64, int_min, int_max}
use Rattle.interval_calc.proofs.Conversions.{hull_ordered, same_interval}
use Rattle.row_values.proofs.ShortNumbers.{min_of_four, max_of_four}
use Rattle.row_values.proofs.short_arithmetic.hull_of.Goals as goal

pub invariant_of-result : goal.invariant_of-result
invariant_of-result c =
    let low : c.min-3.result ≡ int_min (int_min c.args.a c.args.b) (int_min c.args.c c.args.d) =
    min_of_four _ c.min.result c.min-2.result c.args.a c.args.b c.args.c c.args.d (search rules) (search rules) c.ranges.a c.ranges.b c.ranges.c c.ranges.d
    c.min-3.ensures.value c.min.ensures.value c.min-2.ensures.value in
    let high : c.max-3.result ≡ int_max (int_max c.args.a c.args.b) (int_max c.args.c c.args.d) =
    max_of_four _ c.max.result c.max-2.result c.args.a c.args.b c.args.c c.args.d (search rules) (search rules) c.ranges.a c.ranges.b c.ranges.c c.ranges.d
    c.max-3.ensures.value c.max.ensures.value c.max-2.ensures.value in
    let ordered = hull_ordered c.args.a c.args.b c.args.c c.args.d in
    record { ordered = omega (arith, ints, low, high, ordered) }

pub returns : goal.returns
returns c =
    same_interval _ _
    (to_z-of_z w64 c.min-3.result (search rules) ∙ min_of_four _ c.min.result c.min-2.result c.args.a c.args.b c.args.c c.args.d (search rules) (search rules) c.ranges.a c.ranges.b c.ranges.c c.ranges.d
    c.min-3.ensures.value c.min.ensures.value c.min-2.ensures.value)
    (to_z-of_z w64 c.max-3.result (search rules) ∙ max_of_four _ c.max.result c.max-2.result c.args.a c.args.b c.args.c c.args.d (search rules) (search rules) c.ranges.a c.ranges.b c.ranges.c c.ranges.d
    c.max-3.ensures.value c.max.ensures.value c.max-2.ensures.value)
