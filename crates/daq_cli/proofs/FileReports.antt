-- What becomes of a report over the planes of a file: what its bytes tell, what is certain of it, and what is shown where a plane stopped it.
use Rattle.std.proofs.Common.{◌≡◌, ◌⊎◌, ℕ, List, length, Ok, Err, Result, sym, ap, ◌∙◌, subst, inl, inr, arith, IfSome, IsNone, IsSome}
use Rattle.std.specs.Prelude.{option_map}
use Rattle.std.specs.declared.option.Option.{Option}
use Rattle.std.specs.declared.option.Option.TheVariants.{Some, None}
use Rattle.daq_table.specs.declared.table_head.Head.{Head}
use Rattle.outer_world.specs.Device.{Rose, SinkState, StoreState}
use Rattle.outer_world.specs.Whole.{HoldsSame}
use Rattle.plane_course.specs.Told.{IsUnpadded, bits_at}
use Rattle.plane_course.specs.declared.reading.StepFault.{StepFault}
use Rattle.plane_course.specs.declared.reading.StepFault.TheVariants.{Source, OverTop}
use Rattle.plane_file.specs.Opening.{IsFileHead}
use Rattle.plane_file.specs.Places.{plane_in, plane_places}
use Rattle.plane_file.specs.declared.plane_fault.PlaneFault.{PlaneFault}
use Rattle.plane_file.specs.declared.plane_fault.PlaneFault.TheVariants as d
use Rattle.plane_kernels.specs.Bytes.{HasPadBits}
use Rattle.table_rounds.specs.Courses.{AreAllReads, AreReads, Course, OfPlanes, number_after}
use Rattle.table_rounds.specs.Outcomes.{EndIn, Outcome, refused, unreadable}
use Rattle.table_rounds.specs.Rounds.{Planes}
use Rattle.daq_cli.specs.Faults as of
use Rattle.daq_cli.specs.FileReports.{EndsFile, FileReport, IsCutOff, IsReported, IsStopped, PlaneCause, Stopped, StopsAfter, refusal_at}
use Rattle.daq_cli.specs.Report.{CausesAfter, EndsRounds, FailsOverSome, HasStopCause, Seen, Shown, WritesOverSome}
use Rattle.daq_cli.specs.declared.refusal.Refusal.{Refusal}
use Rattle.daq_cli.specs.declared.stop.Stop.{Stop}
use Rattle.daq_cli.specs.declared.stop.Stop.TheVariants.{Failed, Step}
use Rattle.daq_cli.proofs.Files.{if_told}
use Rattle.daq_cli.proofs.Loops.{rose_later}
use Rattle.daq_cli.proofs.Reached.{reads_before, stops_since}

-- ---- from a source of planes to its store

-- what is told by bytes, where these are told
pub told_bytes : (head : Head) (held : Option (List ℕ)) (P : OfPlanes → Planes → Type 0) →
    IfSome (option_map (bits_at head) held) (P (λ column number. IfSome held (λ bytes. IsUnpadded head bytes column number))) → IfSome held (λ bytes. P (IsUnpadded head bytes) (bits_at head bytes))
told_bytes head None P told = tt
told_bytes head (Some bytes) P told = told

-- what the opened store told the store told before
pub told_before : (planes opened : StoreState) → HoldsSame planes opened → (P Q : List ℕ → Type 0) → ((bytes : List ℕ) → P bytes → Q bytes) → IfSome opened.held P → IfSome planes.held Q
told_before planes opened same P Q f told = by planes.held (subst (λ held. IfSome held P) same.held told)
  where
    by : (held : Option (List ℕ)) → IfSome held P → IfSome held Q
    by None p = tt
    by (Some bytes) p = f bytes p

module _ {E : Type 0} (causes others : CausesAfter E) (weaker : (at : Option (List ℕ)) (column number : ℕ) (error : E) → causes at column number error → others at column number error) where
  pub ends_weaker : (line : List ℕ) (shown : Shown) (seen : Seen) (result : Result (Unit {0}) (Stop E)) (old new : SinkState) (from to : Option (List ℕ)) →
      EndsRounds line shown seen causes result old new from to → EndsRounds line shown seen others result old new from to
  ends_weaker line shown seen (Ok done) old new from to ends = ends
  ends_weaker line shown seen (Err Failed) old new from to ends = ends
  ends_weaker line shown seen (Err (Step fault)) old new from to ends = record {
    reads = ends.reads;
    at = ends.at;
    more = ends.more;
    stop = stops_since shown.course seen.places (causes ends.at) (others ends.at) fault (weaker ends.at) ends.reads ends.more ends.stop;
    each = ends.each;
    refused = ends.refused;
    written = ends.written;
    before = ends.before;
    handed = ends.handed;
  }

  pub cause_weaker : (result : Result (Unit {0}) (Stop E)) (old new : SinkState) → HasStopCause causes result old new → HasStopCause others result old new
  cause_weaker (Ok done) old new cause = tt
  cause_weaker (Err Failed) old new cause = cause
  cause_weaker (Err (Step (Source error))) old new (at, column, number, failed) = (at, column, number, weaker at column number error failed)
  cause_weaker (Err (Step (OverTop column plane row))) old new cause = tt

-- what the opened store told, and what holds of what the store told before
pub told_with : (planes opened : StoreState) → HoldsSame planes opened → (P F Q : List ℕ → Type 0) → ((bytes : List ℕ) → P bytes → F bytes → Q bytes) → IfSome opened.held P → IfSome planes.held F → IfSome planes.held Q
told_with planes opened same P F Q f told = by planes.held (subst (λ held. IfSome held P) same.held told)
  where
    by : (held : Option (List ℕ)) → IfSome held P → IfSome held F → IfSome held Q
    by None p h = tt
    by (Some bytes) p h = f bytes p h

-- ---- what becomes of a report

module _ (report : FileReport) (planes opened last : StoreState) (out out' : SinkState) (same : HoldsSame planes opened)
    (sure : (bytes reads : List ℕ) → AreReads (report.shown (bits_at report.head bytes)).course reads → report.sure (bits_at report.head bytes) reads) where
  abbrev Ends : Result (Unit {0}) (Stop PlaneFault) → Type 0
  Ends result = EndsFile report.line report.shown report.head result opened last out out'

  pub reported : {version : ℕ} → ((bytes reads : List ℕ) → AreAllReads (report.shown (bits_at report.head bytes)).course reads → IsFileHead bytes version report.head → report.of_tables bytes reads) →
      IfSome planes.held (λ bytes. IsFileHead bytes version report.head) → WritesOverSome report.line report.shown IsSome out out' → Ends (Ok tt) → IsReported report planes opened last out out'
  reported tables front written ends = record {
    written = written;
    completed = told_with planes opened same _ _ _ (λ bytes rounds head. record { rounds = rounds; headline = sure bytes rounds.reads rounds.rounds.rounds; tables = tables bytes rounds.reads rounds.rounds head }) ends front;
  }

  pub cut_off : Rose out.faults out'.faults → FailsOverSome report.line report.shown out out' → Ends (Err Failed) → IsCutOff report planes opened last out out'
  cut_off rose written ends =
      record { rose = rose; written = written; cut_off = told_before planes opened same _ _ (λ bytes rounds. record { rounds = rounds; headline = sure bytes rounds.reads rounds.rounds }) ends }

  pub stopped_at : (fault : StepFault PlaneFault) (why : Refusal) → why ≡ of.step fault → PlaneCause report.head opened last fault → WritesOverSome report.line report.shown IsNone out out' → Ends (Err (Step fault)) →
      IsStopped report planes opened last out out' fault why
  stopped_at fault why is cause written ends = record {
    is = is;
    cause = cause;
    written = written;
    stopped = told_before planes opened same _ _
        (λ bytes rounds. record {
          rounds = rounds;
          headline = sure bytes rounds.reads (reads_before (report.shown (bits_at report.head bytes)).course (plane_places report.head) (StopsAfter report.head opened last rounds.at) fault rounds.reads rounds.more rounds.stop);
        }) ends;
  }

-- ---- what is shown

-- a course over the planes in a file stops at a plane, which is refused so
pub record StopsCourse (course : Course) (head : Head) (bytes : List ℕ) (why : Refusal) : Type 0 where
  pub outcome : Outcome
  pub reads : List ℕ
  pub ends : EndIn course (IsUnpadded head bytes) reads outcome
  pub is : refusal_at outcome ≡ Some why

module _ (report : FileReport) (planes opened last : StoreState) (out out' : SinkState) (before : HoldsSame planes opened) (bytes : List ℕ) (told : planes.held ≡ Some bytes) where
  -- what the store told in the rounds it told before
  held_then : (mid : StoreState) → HoldsSame opened mid → mid.held ≡ Some bytes
  held_then mid same = same.held ∙ before.held ∙ told

  abbrev course : Course
  course = (report.shown (bits_at report.head bytes)).course

  -- a plane that stopped them is shown, unless a read failed
  plane_shown : (fault : StepFault PlaneFault) (why : Refusal) → why ≡ of.step fault → Stopped report opened last out out' bytes fault → StopsCourse course report.head bytes why ⊎ Rose planes.faults last.faults
  plane_shown (Source d.Fault) why is stopped =
      let (next, followed, (mid, same, handed, broken), rest) = stopped.rounds.stop in
      let first = before.faults in
      let second = same.faults in
      inr (rose_later planes.faults mid.faults last.faults (omega (arith, first, second)) broken.rose)
  plane_shown (Source (d.PadBits column plane)) why is stopped =
      let (next, followed, (mid, same, handed, padded), rest) = stopped.rounds.stop in
      let head = report.head in
      let c = course.place next in
      let j = number_after stopped.rounds.reads (length stopped.rounds.reads) next in
      let (word, pad) = if_told (λ b. (word : ℕ) × HasPadBits head.rows 0 (plane_in head c j b) word) mid.held bytes (held_then mid same) padded.bits in
      let there = subst (λ i. HasPadBits head.rows 0 (plane_in head i j bytes) word) (sym padded.is_column) pad in
      let here : HasPadBits head.rows 0 (plane_in head column plane bytes) word = subst (λ i. HasPadBits head.rows 0 (plane_in head column i bytes) word) (sym padded.is_plane) there in
      inl (record {
        outcome = unreadable column plane;
        reads = stopped.rounds.reads;
        ends = record { each = stopped.rounds.each; come = (record { next = next; followed = followed; column_is = padded.is_column; plane_is = padded.is_plane }, λ clean. clean word here) };
        is = ap Some (sym is);
      })
  plane_shown (Source d.WentShort) why is stopped =
      let (next, followed, (mid, same, handed, short), rest) = stopped.rounds.stop in
      absurd (if_told (λ b. ⊥) mid.held bytes (held_then mid same) short.untold)
  plane_shown (OverTop column plane row) why is stopped = inl (record {
    outcome = refused column plane row;
    reads = stopped.rounds.reads;
    ends = record { each = stopped.rounds.each; come = (stopped.rounds.stop.0, stopped.rounds.refused) };
    is = ap Some (sym is);
  })

  pub stop_shown : (fault : StepFault PlaneFault) (why : Refusal) → IsStopped report planes opened last out out' fault why → StopsCourse course report.head bytes why ⊎ Rose planes.faults last.faults
  stop_shown fault why stop = plane_shown fault why stop.is (if_told (λ b. Stopped report opened last out out' b fault) planes.held bytes told stop.stopped)
