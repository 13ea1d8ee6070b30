-- A plane that is read is the next of the column, and one that is refused is so on each course on which this is the next.
use Rattle.std.proofs.Common.{◌∙◌}
use Rattle.plane_course.proofs.Stopping.{plane_at}
use Rattle.plane_course.proofs.reading.take_next.Goals as goal

pub read-requires-clause-rows : goal.read-requires-clause-rows
read-requires-clause-rows g c = c.requires.rows ∙ g.met.R.Running.rows_are c.args.running.now (g.S.PlaneSource.told c.args.source.now).head c.requires.fits

pub returns-in-Ok-take-clause-next : goal.returns-in-Ok-take-clause-next
returns-in-Ok-take-clause-next g c = λ first plan bits reads after followed is.
    c.in-Ok-take.ensures.next first plan (g.S.PlaneSource.told c.args.source.now).head bits reads c.requires.fits after followed is

pub returns-in-Err-take-clause-over : goal.returns-in-Err-take-clause-over
returns-in-Err-take-clause-over g c =
    let told = g.S.PlaneSource.told c.args.source.now in
    let running = c.args.running.now in
    let column = c.args.column in
    record {
      column_is = c.next_place-place.ensures.column;
      plane_is = c.next_place-place.ensures.plane;
      is_plane = plane_at told c.next_place-place.result.0 c.next_place-place.result.1 (g.R.Running.place running column) (g.R.Running.number running column) c.read.new.into
          c.next_place-place.ensures.column c.next_place-place.ensures.plane c.in-Ok.ensures.bits;
      over_at = λ first plan bits reads after followed is. c.in-Err-take.ensures.over first plan told.head bits reads c.requires.fits after followed is;
    }
