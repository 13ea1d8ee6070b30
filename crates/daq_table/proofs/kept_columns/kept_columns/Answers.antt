use Rattle.std.proofs.Common.{◌∙◌, sym}
use Rattle.daq_table.proofs.Kept.{columns_more, places_more}
use Rattle.daq_table.proofs.kept_columns.kept_columns.Goals as goal

pub loop-place-preserved : goal.loop-place-preserved
loop-place-preserved c =
    let items = c.args.items.now in
    let place = c.loop-place.place in
    let item = c.index-items-place.result in
    record {
      columns = rw c.loop-place.invariant.columns at (c.in_ok-keep.ensures.columns) ∙ sym (columns_more items place item c.loop-place-test.true c.index-items-place.is);
      places = rw c.loop-place.invariant.places at (c.in_ok-keep.ensures.places) ∙ sym (places_more items place item c.loop-place-test.true c.index-items-place.is);
    }
