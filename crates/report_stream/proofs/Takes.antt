-- What the steps that take a line come to.
use Rattle.std.proofs.Common.{◌≡◌, ℕ, Err, List, subst}
use Rattle.outer_world.specs.Device.{SinkState}
use Rattle.outer_world.specs.Whole.{Writes}
use Rattle.report_parts.specs.Course.{Course, IsCourseFault}
use Rattle.report_parts.specs.declared.fault.BlockFault.{BlockFault}
use Rattle.report_parts.specs.declared.fault.CourseFault.TheVariants.{Block}
use Rattle.report_stream.specs.Faults.{of_block}
use Rattle.report_stream.specs.Steps.{RefusesBlocks, StopsTake}
use Rattle.report_stream.specs.Steps.Puts.{stopped as put_stopped}
use Rattle.report_stream.specs.Steps.RefusesBlocks.{cut_off, refused}
use Rattle.report_stream.specs.Steps.StopsTake.{by_block, by_write}
use Rattle.report_stream.specs.Streams.{partly, whole}
use Rattle.report_stream.specs.declared.fault.LineRefusal.{LineRefusal}
use Rattle.report_stream.specs.declared.fault.StreamFault.{StreamFault}
use Rattle.report_stream.specs.declared.fault.StreamFault.TheVariants.{Line}

-- a failed write, of which no more is told than that
pub partly_written : {A F : Type 0} (e : F) (old new : SinkState) (piece text : List ℕ) → piece ≡ text → Writes {T = A} (Err e) old new piece →
    Writes partly old new text
partly_written e old new piece text same w =
    subst (λ (t : List ℕ). Writes partly old new t) same
    (record { done = tt; part = w.part; cause = record { later = w.cause.later; failed = w.cause.failed } })

-- a block that the line completes is refused
pub block_stops : {K : Type 0} (state : K → SinkState) (old : Course) (line text put piece : List ℕ) (number : ℕ) (device device' : K)
    (fault : BlockFault) (refusal : LineRefusal) (why : StreamFault) → Line number refusal ≡ of_block number fault →
    IsCourseFault (Block fault) old line text put → piece ≡ put → RefusesBlocks why number refusal (state device) (state device') piece →
    StopsTake old line text number device device' (state device) (state device') why
block_stops state old line text put piece number device device' fault refusal why is stopped same (refused e w) =
    by_block refusal fault put e is stopped (subst (λ (t : List ℕ). Writes whole (state device) (state device') t) same w)
block_stops state old line text put piece number device device' fault refusal why is stopped same (cut_off e w) =
    by_write put e (put_stopped number refusal fault is stopped) (subst (λ (t : List ℕ). Writes partly (state device) (state device') t) same w)
