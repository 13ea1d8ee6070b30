use Rattle.std.proofs.Common.{arith}
use Rattle.csv_load.specs.Kept.{kept_fields}
use Rattle.csv_load.proofs.TakenFields.{took_more}
use Rattle.csv_load.proofs.record.take_fields.Goals as goal

pub loop-number-preserved : goal.loop-number-preserved
loop-number-preserved c =
    let fields = kept_fields c.args.schema.now.items c.args.fields.now in
    took_more c.args.limit c.args.columns.now c.loop-number.columns fields c.loop-number.number c.index-columns-number.result c.take.new.self c.field_of-text.result.now c.loop-number.invariant (omega (arith, c.loop-number-test.true, c.loop-number.invariant.wide))
    c.field_of-text.ensures c.in_ok-take.ensures.ok c.in_ok-take.ensures.taken
