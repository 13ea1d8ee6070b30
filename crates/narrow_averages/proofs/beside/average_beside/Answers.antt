use Rattle.std.proofs.Common.{rules}
use Rattle.narrow_averages.proofs.Besides.{counted_fits}
use Rattle.narrow_averages.proofs.beside.average_beside.Goals as goal

pub returns-in-None : goal.returns-in-None
returns-in-None c =
    let sum = c.args.sum.now in
    let count = c.args.count.now in
    let fits = counted_fits sum.null sum count (search rules) (search rules) (search rules) in
    let never = c.in-None.ensures.fits.1 fits in
    cc
