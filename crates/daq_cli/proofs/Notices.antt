-- Why a text of the program's own is not told.
use Rattle.std.proofs.Common.{◌≡◌, ℕ, List, refl}
use Rattle.outer_world.specs.Device.{Rose, SinkState}
use Rattle.daq_cli.specs.Notices.{NoticeCause, write_fault}
use Rattle.daq_cli.specs.declared.refusal.Refusal.{Refusal}
use Rattle.daq_cli.specs.declared.refusal.Refusal.TheVariants.{WriteFault}

-- a write failed
pub notice_accepted : (text : List ℕ) (out out' : SinkState) (why : Refusal) → NoticeCause text out out' why → Rose out.faults out'.faults
notice_accepted text out out' why (write_fault written) = written.cause.failed

pub notice_unwritten : (text : List ℕ) (out out' : SinkState) (why : Refusal) → NoticeCause text out out' why → why ≡ WriteFault
notice_unwritten text out out' why (write_fault written) = refl
