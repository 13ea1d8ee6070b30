-- What a file that is not written leaves.
use Rattle.std.specs.Prelude.{◌≡◌, List, ℕ}
use Rattle.outer_world.specs.Device.{Rose, SinkState}
use Rattle.outer_world.specs.Whole.{AppendsPart}
use Rattle.plane_file.specs.declared.write_fault.FileWriteFault.{FileWriteFault}
use Rattle.plane_file.specs.declared.write_fault.FileWriteFault.TheVariants.{Fault, NoMemory}

-- the count of faults rose, and a part of the file was appended, from its front
pub record IsCutOff (old new : SinkState) (file : List ℕ) : Type 0 where
  pub part : AppendsPart old.written new.written file
  pub rose : Rose old.faults new.faults

-- for this reason the file was not written; where memory ran out nothing was done to the sink
abbrev pub StopsWriting : SinkState → SinkState → List ℕ → FileWriteFault → Type 0
StopsWriting old new file Fault = IsCutOff old new file
StopsWriting old new file NoMemory = new ≡ old
