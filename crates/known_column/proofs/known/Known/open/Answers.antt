use Rattle.std.proofs.Common.{◌≡◌, sym, ap, ◌∙◌}
use Rattle.daq_table.specs.Tables.{width as width_of}
use Rattle.known_column.proofs.FirstMarks.{starts_kept}
use Rattle.known_column.proofs.known.Known.open.Goals as goal

pub invariant_of-result : goal.invariant_of-result
invariant_of-result c =
    let digits : c.width-width.result ≡ width_of c.ends-ends.result = c.width-width.ensures.digits ∙ sym (ap width_of c.ends-ends.ensures.all) in
    starts_kept c.ends-ends.result c.width-width.result c.args.rows c.in_ok-planes.planes.items c.in_ok-marks.marks digits c.width-width.ensures.few
    (c.in_ok-planes.ensures.count ∙ c.plane_count.ensures.planes) c.requires c.in_ok-planes.ensures.rows c.in_ok-marks.ensures
