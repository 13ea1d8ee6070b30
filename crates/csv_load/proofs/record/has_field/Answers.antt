use Rattle.std.proofs.Common.{◌≡◌, ◌<◌, ◌∙◌, length, Some, [], slice_get, sym, ap, arith}
use Rattle.std.proofs.lemmas.Option.{slice_get-get_or}
use Rattle.csv_load.proofs.FieldFacts.{has_some}
use Rattle.csv_load.proofs.record.has_field.Goals as goal

pub returns : goal.returns
returns c =
    let within : c.args.place < length c.args.fields.now = omega (arith, c.if-place-len.false, c.len.ensures) in
    let e : slice_get c.args.fields.now c.args.place ≡ Some c.get.result.now = slice_get-get_or c.args.fields.now c.args.place [] within ∙ ap Some (sym c.get.ensures) in
    rw e (has_some c.get.result.now c.args.text.now c.eq.result c.eq.ensures)
