use Rattle.std.proofs.Common.{◌≡◌, ◌∙◌, Some, slice_get, length, ap, arith}
use Rattle.daq_table.specs.Schemas.{item_name, item_names}
use Rattle.csv_load.proofs.FieldFacts.{longer_differs, name_at, same_more}
use Rattle.csv_load.proofs.record.first_difference.Goals as goal

pub loop-place-preserved : goal.loop-place-preserved
loop-place-preserved c =
    let h = c.if-not-has_field.false in
    let found : slice_get c.args.header.now c.loop-place.place ≡ Some (item_name c.index-items-place.result) = c.has_field.ensures.0 h ∙ ap Some c.name.ensures in
    same_more c.args.header.now (item_names c.args.items.now) c.loop-place.place (item_name c.index-items-place.result) c.loop-place.invariant found
    (name_at c.args.items.now c.loop-place.place c.index-items-place.result c.loop-place-test.true c.index-items-place.is)

pub returns-then-len-items : goal.returns-then-len-items
returns-then-len-items c = longer_differs c.args.header.now c.args.items.now
    (let end : length c.args.items.now ≡ c.loop-place.place = omega (arith, c.loop-place-test.false, c.loop-place.auto.place-end) in rw end c.loop-place.invariant)
    (omega (arith, c.if-len-items.true, c.len.ensures))
