-- A text that the program itself has.
use Rattle.std.specs.Prelude.{ℕ, List}
use Rattle.outer_world.specs.Device.{SinkState}
use Rattle.outer_world.specs.Whole.{Writes}
use Rattle.daq_cli.specs.Worlds.{partly}
use Rattle.daq_cli.specs.declared.refusal.Refusal.{Refusal}
use Rattle.daq_cli.specs.declared.refusal.Refusal.TheVariants.{WriteFault}

-- why it is not told: a write failed, behind a part of it
pub data NoticeCause (text : List ℕ) (out out' : SinkState) : Refusal → Type 0 where
  write_fault : Writes partly out out' text → NoticeCause text out out' WriteFault
