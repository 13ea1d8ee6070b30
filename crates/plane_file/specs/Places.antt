-- Where the parts of a file stand.
use Rattle.std.specs.Prelude.{ℕ, ◌+◌, ◌*◌, List, take, drop}
use Rattle.daq_table.specs.declared.head.ColumnHead.{ColumnHead}
use Rattle.daq_table.specs.declared.table_head.Head.{Head}
use Rattle.outer_world.specs.Whole.{places_from}
use Rattle.plane_file.specs.Format.{plane_count, plane_size, planes_at}

-- how many planes stand before plane j of column c
abbrev pub planes_before : List ColumnHead → ℕ → ℕ → ℕ
planes_before columns c j = plane_count (take c columns) + j

-- the place at which plane j of column c begins
abbrev pub plane_at : Head → ℕ → ℕ → ℕ
plane_at head c j = planes_at head + plane_size head.rows * planes_before head.columns c j

-- the places of that plane
abbrev pub plane_places : Head → ℕ → ℕ → List ℕ
plane_places head c j = places_from (plane_at head c j) (plane_size head.rows)

-- what stands at them
abbrev pub plane_in : Head → ℕ → ℕ → List ℕ → List ℕ
plane_in head c j bytes = take (plane_size head.rows) (drop (plane_at head c j) bytes)
