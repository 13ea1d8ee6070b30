-- One more item fits, and at the end all do.
use Rattle.std.proofs.Common.{arith}
use Rattle.query_model.specs.Validity.{FitsItem}
use Rattle.sql_typing.proofs.Lists.{all_hold, get_is, more_hold}
use Rattle.sql_typing.proofs.fit.first_unfit.Goals as goal

pub loop-place-preserved : goal.loop-place-preserved
loop-place-preserved c = more_hold (FitsItem (record { rows = c.args.rows; columns = c.args.ends.now })) c.args.items.now c.loop-place.place c.index-items-place.result c.loop-place.invariant
    (get_is c.args.items.now c.loop-place.place c.index-items-place.result c.loop-place-test.true c.index-items-place.is) (c.fits.ensures.0 c.if-not-fits.false)

pub returns : goal.returns
returns c = all_hold (FitsItem (record { rows = c.args.rows; columns = c.args.ends.now })) c.args.items.now (λ i item lt e. c.loop-place.invariant i item (omega arith) e)
