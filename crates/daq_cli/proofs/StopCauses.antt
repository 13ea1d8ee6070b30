-- Why a report stops, of rounds or of the steps of a session: a write failed, or the step to the next plane.
use Rattle.std.proofs.Common.{◌≡◌, ℕ, ◌≤◌, List, refl, Option, Result, IsErrAnd}
use Rattle.std.proofs.lemmas.Result.{err_from_is_err_and}
use Rattle.outer_world.specs.Device.{Rose, SinkState}
use Rattle.plane_course.specs.Sources.{Causes, OnFailed}
use Rattle.plane_course.specs.declared.reading.StepFault.{StepFault}
use Rattle.plane_course.specs.declared.reading.StepFault.TheVariants.{Source, OverTop}
use Rattle.daq_cli.specs.Report.{CausesAfter, FailsSince, HasStopCause}
use Rattle.daq_cli.specs.declared.stop.Stop.TheVariants.{Failed, Step}
use Rattle.daq_cli.specs.declared.stop.Stop.{Stop}
use Rattle.daq_cli.proofs.Loops.{rose_later}

-- a write failed: the count of the sink's faults rose, which had not fallen before
pub write_failed : {E : Type 0} (causes : CausesAfter E) (result : Result (Unit {0}) (Stop E)) (old new : SinkState) (before : ℕ) →
    IsErrAnd result (λ stop. stop ≡ Failed) → old.faults ≤ before → Rose before new.faults → HasStopCause causes result old new
write_failed causes result old new before stops later rose =
    let p = err_from_is_err_and result stops in
    rw (p.1, p.2) (rose_later old.faults before new.faults later rose)

-- a step failed: where its source did, so did the one that it was at first
pub step_failed : {S E : Type 0} (handed : S → Option (List ℕ)) (since : S → S → Type 0) (fails : S → S → Causes E) (first mid last : S)
    (fault : StepFault E) (result : Result (Unit {0}) (Stop E)) (old new : SinkState) →
    IsErrAnd result (λ stop. stop ≡ Step fault) → since first mid →
    OnFailed fault (λ error. (column : ℕ) × (number : ℕ) × fails mid last column number error) →
    HasStopCause (FailsSince handed since fails first last) result old new
step_failed handed since fails first mid last (Source error) result old new stops before (column, number, failed) =
    let p = err_from_is_err_and result stops in
    rw (p.1, p.2) (handed mid, column, number, (mid, before, refl, failed))
step_failed handed since fails first mid last (OverTop column plane row) result old new stops before failed =
    let p = err_from_is_err_and result stops in
    rw (p.1, p.2) tt
