use Rattle.std.proofs.Common.{sym, arith}
use Rattle.std.proofs.lemmas.Int.{ints}
use Rattle.known_column.specs.Columns.{numbers_at}
use Rattle.product_sums.proofs.Hulls.{greatest_of_all, least_of_all}
use Rattle.product_sums.proofs.extremes.column_hull.Goals as goal

pub returns-then-lo-hi : goal.returns-then-lo-hi
returns-then-lo-hi c = λ row has.
    let column = c.args.known.now in
    let low = least_of_all (λ r. (numbers_at column r).low) c.args.mask.now c.in_ok-lo.lo (sym c.in_ok-lo.ensures.least) row has in
    let high = greatest_of_all (λ r. (numbers_at column r).high) c.args.mask.now c.in_ok-hi.hi (sym c.in_ok-hi.ensures.greatest) row has in
    record { low = omega (arith, ints, low); high = omega (arith, ints, high) }
