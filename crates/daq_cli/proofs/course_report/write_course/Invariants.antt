-- What holds before each block is written, and what falls: the planes that are left.
use Rattle.std.proofs.Common.{◌≡◌, ◌<◌, ◌≤◌, length, IfSome, List, ℕ}
use Rattle.table_rounds.specs.Rounds.{Planes}
use Rattle.daq_cli.specs.Report.{seen_by, shown_by}
use Rattle.daq_cli.proofs.Reached.{Reached}
use Rattle.daq_cli.proofs.ReachedSome.{ReachedSome}
use Rattle.daq_cli.proofs.course_report.write_course.Given as goal

abbrev pub invariant-rounds : goal.invariant-rounds
invariant-rounds g l =
    let first = l.initial.running in
    let told = g.S.PlaneSource.told l.initial.source in
    let head = told.head in
    let places = g.S.PlaneSource.places l.initial.source in
    let shown = shown_by (g.R.Running.course first l.plan head) (g.R.Shows.block first l.plan head) in
    let after : Planes → List ℕ → Type 0 = g.R.Running.after first l.running l.plan head in
    record {
      reached : IfSome told.bits (λ bits. Reached (shown bits) (seen_by places (g.S.PlaneSource.shows l.initial.source)) (after bits) l.last
          (g.K.Sink.state l.initial.out) (g.K.Sink.state l.out) (g.S.PlaneSource.handed l.initial.source) (g.S.PlaneSource.handed l.source));
      some : ReachedSome shown after l.last (g.K.Sink.state l.initial.out) (g.K.Sink.state l.out);
      told : g.S.PlaneSource.told l.source ≡ told;
      places : g.S.PlaneSource.places l.source ≡ places;
      ready : g.S.PlaneSource.is_ready l.source;
      since : g.S.PlaneSource.since l.initial.source l.source;
      later : (g.K.Sink.state l.initial.out).faults ≤ (g.K.Sink.state l.out).faults;
      fits : g.R.Running.fits l.running head;
      follow : g.R.Running.can_follow l.running l.plan;
      rows : length l.plane ≡ g.R.Running.rows l.running;
      last : IfSome l.last (λ c. c < (g.R.Running.outlook l.running).columns);
    }

abbrev pub decreases-rounds : goal.decreases-rounds
decreases-rounds g l = g.R.Running.left l.running
