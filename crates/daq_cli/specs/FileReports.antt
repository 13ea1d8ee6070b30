-- A report over the planes of a file that was opened: what is written and handed over, what is certain of it, and why it stops.
use Rattle.std.specs.Prelude.{◌≡◌, ℕ, List, IfSome, IsSome, IsNone, option_map, Some}
use Rattle.std.specs.declared.option.Option.{Option}
use Rattle.std.specs.declared.option.Option.TheVariants.{None}
use Rattle.std.specs.declared.result.Result.{Result}
use Rattle.daq_table.specs.declared.table_head.Head.{Head}
use Rattle.outer_world.specs.Device.{Rose, SinkState, StoreState}
use Rattle.outer_world.specs.Whole.{HoldsSame, laid}
use Rattle.plane_course.specs.Sources.{OnFailed}
use Rattle.plane_course.specs.Told.{IsUnpadded, bits_at}
use Rattle.plane_course.specs.declared.reading.StepFault.{StepFault}
use Rattle.plane_file.specs.Places.{plane_places}
use Rattle.plane_file.specs.Reading.{StopsReading}
use Rattle.plane_file.specs.declared.plane_fault.PlaneFault.{PlaneFault}
use Rattle.table_rounds.specs.Outcomes.{Outcome, ended, refused, unreadable}
use Rattle.table_rounds.specs.Rounds.{Planes}
use Rattle.daq_cli.specs.Faults as of
use Rattle.daq_cli.specs.Report.{CausesAfter, EndsRounds, Fails, FailsOverSome, Finishes, Seen, Shown, Stops, WritesOverSome, seen_by}
use Rattle.daq_cli.specs.declared.refusal.Refusal.{Refusal}
use Rattle.daq_cli.specs.declared.refusal.Refusal.TheVariants.{PadBits, OverTop}
use Rattle.daq_cli.specs.declared.stop.Stop.{Stop}

-- why a plane is not read, behind the opening, with these places handed over before
abbrev pub StopsAfter : Head → StoreState → StoreState → CausesAfter PlaneFault
StopsAfter head opened last at column number fault =
    (mid : StoreState) × HoldsSame opened mid × (option_map laid mid.pieces ≡ at) × StopsReading head column number mid last fault

-- the same, told or not
abbrev pub PlaneCause : Head → StoreState → StoreState → StepFault PlaneFault → Type 0
PlaneCause head opened last fault =
    OnFailed fault (λ error. (at : Option (List ℕ)) × (column : ℕ) × (number : ℕ) × StopsAfter head opened last at column number error)

-- what a file with that head says of its planes
abbrev pub seen_in : Head → List ℕ → Seen
seen_in head bytes = seen_by (plane_places head) (IsUnpadded head bytes)

-- what becomes of a course over the store of a file with that head, where it tells its bytes, behind a line: by the result, *Finishes*,
-- *Fails* or *Stops*, of the rounds that are shown over the file's planes, from the output `out` to `out'`
abbrev pub EndsFile : List ℕ → (Planes → Shown) → Head → Result (Unit {0}) (Stop PlaneFault) → StoreState → StoreState
    → SinkState → SinkState → Type 0
EndsFile line shown head result opened last out out' =
    IfSome opened.held (λ bytes. EndsRounds line (shown (bits_at head bytes)) (seen_in head bytes) (StopsAfter head opened last) result
    out out' (option_map laid opened.pieces) (option_map laid last.pieces))

-- a plane at which a course stops is refused
abbrev pub refusal_at : Outcome → Option Refusal
refusal_at ended = None
refusal_at (unreadable column plane) = Some (PadBits column plane)
refusal_at (refused column plane row) = Some (OverTop column plane row)

-- ---- a report

-- its first line, what it shows over planes, what is certain of reads over planes, and what they are of tables, by the file's bytes
pub record FileReport : Type 1 where
  pub head : Head
  pub line : List ℕ
  pub shown : Planes → Shown
  pub sure : Planes → List ℕ → Type 0
  pub of_tables : List ℕ → List ℕ → Type 0

module _ (report : FileReport) (opened last : StoreState) (out out' : SinkState) (bytes : List ℕ) where
  -- it was written, of all rounds, each of whose intervals is certain; behind the head the places of the planes read were handed over, each
  -- once, in order, and no others; and none of these has a bit past its last row
  pub record Completed : Type 0 where
    pub rounds : Finishes report.line (report.shown (bits_at report.head bytes)) (seen_in report.head bytes) out out'
        (option_map laid opened.pieces) (option_map laid last.pieces)
    pub headline : report.sure (bits_at report.head bytes) rounds.reads
    pub tables : report.of_tables bytes rounds.reads

  -- a write failed in the last of these rounds, for which no plane past theirs was read
  pub record CutOff : Type 0 where
    pub rounds : Fails report.line (report.shown (bits_at report.head bytes)) (seen_in report.head bytes) out out'
        (option_map laid opened.pieces) (option_map laid last.pieces)
    pub headline : report.sure (bits_at report.head bytes) rounds.reads

  -- the plane after these rounds, whose blocks were written, was not read, or is refused
  pub record Stopped (fault : StepFault PlaneFault) : Type 0 where
    pub rounds : Stops report.line (report.shown (bits_at report.head bytes)) (seen_in report.head bytes)
        (StopsAfter report.head opened last) fault out out' (option_map laid opened.pieces) (option_map laid last.pieces)
    pub headline : report.sure (bits_at report.head bytes) rounds.reads

-- a report over a store that was opened. Told or not, it is that of rounds over some planes
module _ (report : FileReport) (planes opened last : StoreState) (out out' : SinkState) where
  -- of all
  pub record IsReported : Type 0 where
    pub written : WritesOverSome report.line report.shown IsSome out out'
    pub completed : IfSome planes.held (Completed report opened last out out')

  -- a write failed in the last
  pub record IsCutOff : Type 0 where
    pub rose : Rose out.faults out'.faults
    pub written : FailsOverSome report.line report.shown out out'
    pub cut_off : IfSome planes.held (CutOff report opened last out out')

  -- the next plane is not taken
  pub record IsStopped (fault : StepFault PlaneFault) (why : Refusal) : Type 0 where
    pub is : why ≡ of.step fault
    pub cause : PlaneCause report.head opened last fault
    pub written : WritesOverSome report.line report.shown IsNone out out'
    pub stopped : IfSome planes.held (λ bytes. Stopped report opened last out out' bytes fault)
