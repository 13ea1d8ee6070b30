-- The ends, and then the rows that they take.
use Rattle.std.proofs.Common.{◌++◌, subst}
use Rattle.outer_world.proofs.Writes.{writes_both}
use Rattle.outer_world.specs.Whole.{Writes}
use Rattle.avg_exact.specs.ExactAverages.{exact_average_of}
use Rattle.query_model.specs.Bounds.{AverageBound, fractions_of}
use Rattle.daq_report.specs.Extras.{exact_line, taken_lines, unless_always}
use Rattle.daq_report.proofs.Faces.{any_average_shows}
use Rattle.daq_report.proofs.extras.write_exact.Goals as goal

pub write_exact_ends-requires : goal.write_exact_ends-requires
write_exact_ends-requires g c = any_average_shows c.args.head.now c.args.query.now c.args.face c.ends_of.result c.requires

pub returns : goal.returns
returns g c =
    let old = g.K.Sink.state c.args.out.now in
    let new = g.K.Sink.state c.write_taken_lines.new.out in
    let head = c.args.head.now in
    let query = c.args.query.now in
    let rest = unless_always c.args.exact.now.null (taken_lines head query c.args.number c.args.face (exact_average_of c.args.exact.now)) in
    subst (λ (bound : AverageBound). Writes c.write_taken_lines.result old new (exact_line head query c.args.number c.args.face bound ++ rest)) c.ends_of.ensures
    (writes_both _ _ _ _ _ (exact_line head query c.args.number c.args.face (fractions_of c.ends_of.result)) rest c.in_ok-write_exact_ends.ensures c.write_taken_lines.ensures)
