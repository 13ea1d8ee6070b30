-- The front, and then the rows.
use Rattle.std.proofs.Common.{◌++◌, codes, subst}
use Rattle.outer_world.proofs.Writes.{writes_both, writes_cut}
use Rattle.outer_world.specs.Whole.{Writes}
use Rattle.avg_exact.specs.ExactAverages.{exact_average_of}
use Rattle.daq_report.specs.Extras.{count_text, cut_text, front_text, high_rows}
use Rattle.daq_report.specs.declared.extras.TakenRows.{TakenRows}
use Rattle.daq_report.proofs.extras.write_high_taken.Goals as goal

pub returns-in_err-write_front : goal.returns-in_err-write_front
returns-in_err-write_front g c =
    let rows = high_rows (exact_average_of c.args.exact.now) in
    let rest = count_text rows.taken rows.unknown ++ cut_text c.args.head.now c.args.query.now c.args.face (codes " at least ") rows.cut in
    writes_cut {A = Unit {0}} _ c.from_residual.result _ _ (front_text c.args.number (codes " high takes ")) rest c.from_residual.ensures.0 c.in_err-write_front.ensures

pub returns : goal.returns
returns g c =
    let old = g.K.Sink.state c.args.out.now in
    let new = g.K.Sink.state c.write_rows.new.out in
    let front = front_text c.args.number (codes " high takes ") in
    subst (λ (rows : TakenRows). Writes c.write_rows.result old new
    (front ++ (count_text rows.taken rows.unknown ++ cut_text c.args.head.now c.args.query.now c.args.face (codes " at least ") rows.cut))) c.high_rows.ensures
    (writes_both _ _ _ _ _ front _ c.in_ok-write_front.ensures c.write_rows.ensures)
