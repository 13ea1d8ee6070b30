-- Why a cell is refused, by why its value is, and why a record is, by why one of its fields is.
use Rattle.std.proofs.Common.{◌≡◌, ℕ, suc, false, List, [], length}
use Rattle.daq_table.specs.declared.head.Kind.TheVariants.{Int}
use Rattle.daq_table.specs.Schemas.{kept_places}
use Rattle.daq_table.specs.declared.schema_item.SchemaItem.{SchemaItem}
use Rattle.csv_load.specs.Records.{Fields}
use Rattle.csv_load.specs.States.{HasRoomFor, RefusesAt, RefusesRow, State, state_of}
use Rattle.csv_load.specs.declared.fault.TableFault.{TableFault}
use Rattle.csv_load.specs.declared.fault.TableFault.TheVariants.{NoHeader, HeaderDiffers, TooManyRows, TooManyCells, UnequalLength, BadCell, TooManyNames, NoMemory}
use Rattle.csv_load.specs.declared.limits.Limits.{Limits}

pub field_refused : (items : List SchemaItem) (limits : Limits) (rows : ℕ) (old : List State) (fields : Fields) (fault : TableFault) → HasRoomFor limits rows (length old) → length fields ≡ length items
    → RefusesAt (kept_places items) limits.names (suc rows) old fields fault → RefusesRow items limits rows old fields fault
field_refused items limits rows old fields NoHeader room full h = absurd (h.refused (state_of Int false []))
field_refused items limits rows old fields (HeaderDiffers place) room full h = absurd (h.refused (state_of Int false []))
field_refused items limits rows old fields (TooManyRows n) room full h = absurd (h.refused (state_of Int false []))
field_refused items limits rows old fields (TooManyCells n) room full h = absurd (h.refused (state_of Int false []))
field_refused items limits rows old fields (UnequalLength n got want) room full h = absurd (h.refused (state_of Int false []))
field_refused items limits rows old fields (BadCell n place) room full h = record { room = room; full = full; field = h }
field_refused items limits rows old fields (TooManyNames place) room full h = record { room = room; full = full; field = h }
field_refused items limits rows old fields NoMemory room full h = record { room = room; full = full; field = h }
