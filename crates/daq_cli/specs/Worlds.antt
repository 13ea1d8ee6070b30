-- The devices of a run, by what they tell, and how far a text was written.
use Rattle.std.specs.Prelude.{◌≡◌, Ok, Err}
use Rattle.std.specs.declared.result.Result.{Result}
use Rattle.outer_world.specs.Device.{SourceState, StoreState, SinkState}

-- the input, the script of a session, the plane file, the file that is made, and the streams of output and errors
pub record WorldState : Type 0 where
  pub input : SourceState
  pub side : SourceState
  pub planes : StoreState
  pub made : SinkState
  pub out : SinkState
  pub err : SinkState

-- the devices that a command may use; `err` takes the line of a refusal alone
pub data Device : Type 0 where
  input : Device
  side : Device
  planes : Device
  made : Device
  out : Device

-- the device is unchanged
abbrev pub IsSame : Device → WorldState → WorldState → Type 0
IsSame input before after = after.input ≡ before.input
IsSame side before after = after.side ≡ before.side
IsSame planes before after = after.planes ≡ before.planes
IsSame made before after = after.made ≡ before.made
IsSame out before after = after.out ≡ before.out

-- a text was written to its end, or a write failed and a part of it was written
abbrev pub Extent : Type 0
Extent = Result (Unit {0}) (Unit {0})

abbrev pub whole : Extent
whole = Ok tt

abbrev pub partly : Extent
partly = Err tt
