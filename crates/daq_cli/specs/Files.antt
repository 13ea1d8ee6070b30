-- A store that holds a file of planes: the step to its head, and why the file is not opened.
use Rattle.std.specs.Prelude.{◌≡◌, ℕ, List, Some}
use Rattle.outer_world.specs.Device.{StoreState}
use Rattle.plane_file.specs.Checks.{file_fault}
use Rattle.plane_file.specs.Opening.{IsFileHead, Opened, Refuses}
use Rattle.plane_file.specs.declared.file_fault.FileFault.{FileFault}
use Rattle.daq_cli.specs.Faults as of
use Rattle.daq_cli.specs.Steps.{Step}
use Rattle.daq_cli.specs.declared.refusal.Refusal.{Refusal}
use Rattle.daq_cli.specs.declared.refusal.Refusal.TheVariants.{File}

-- the bytes are no file of a table, for this reason first
pub record ShowsFile (bytes : List ℕ) (why : Refusal) : Type 0 where
  pub fault : FileFault
  pub is : why ≡ File fault
  pub faulty : file_fault bytes ≡ Some fault

-- the bytes begin with a head, and have the size of its file
abbrev pub file_step : List ℕ → Step Opened
file_step bytes = record { accepts = λ file. IsFileHead bytes file.version file.head; shows = ShowsFile bytes }

-- the file was not opened, for this reason
pub record StopsOpening (planes planes' : StoreState) (why : Refusal) : Type 0 where
  pub fault : FileFault
  pub is : why ≡ of.opening fault
  pub refused : Refuses planes planes' fault
