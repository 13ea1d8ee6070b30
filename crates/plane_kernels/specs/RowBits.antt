-- Rows that may all have one bit, with their words unwritten.
use Rattle.std.specs.Prelude.{◌≡◌, ◌*◌, ◌≤◌, Bool, List, [], replicate, vec_capacity}
use Rattle.plane_kernels.specs.declared.row_bits.State.{State}
use Rattle.plane_kernels.specs.declared.row_bits.State.TheVariants.{Even, Written}

abbrev pub rows_held : State → List Bool
rows_held (Even rows bit room) = replicate rows bit
rows_held (Written bits) = bits

-- rows that are not written have room for their words
abbrev pub HasRoom : State → Type 0
HasRoom (Even rows bit room) = (room.items ≡ []) × (rows ≤ 64 * vec_capacity room)
HasRoom (Written bits) = Unit {0}

-- these rows are written
abbrev pub IsWritten : List Bool → State → Type 0
IsWritten rows (Even _ _ _) = ⊥
IsWritten rows (Written bits) = bits ≡ rows
