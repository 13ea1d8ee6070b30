-- What the bytes of a file tell of the planes of its table.
use Rattle.std.specs.Prelude.{◌≡◌, ℕ, ◌<◌, ◌≤◌, Bool, List, IfSome, length, option_map}
use Rattle.daq_table.specs.Tables.{Contents, IsTable, ends_at, frame_of, planes}
use Rattle.daq_table.specs.declared.table_head.Head.{Head}
use Rattle.outer_world.specs.Device.{StoreState}
use Rattle.plane_file.specs.Format.{file, file_size}
use Rattle.plane_file.specs.Places.{plane_in}
use Rattle.plane_kernels.specs.Bytes.{HasNoPadBits, word_count}
use Rattle.plane_kernels.specs.Rows.{rows_of}
use Rattle.plane_kernels.specs.Words.{unpacked}
use Rattle.plane_schedule.specs.declared.policy.Plan.{Plan}
use Rattle.query_model.specs.Knowledge.{plane_of}
use Rattle.query_model.specs.Worlds.{NamesColumns}
use Rattle.query_model.specs.declared.query.TypedQuery.{TypedQuery}
use Rattle.table_rounds.specs.Rounds.{AreRounds, HasPlanes, Planes, counts_after}
use Rattle.plane_course.specs.Sources.{ToldPlanes}
use Rattle.table_rounds.specs.Courses.{OfPlanes}

-- the rows of a plane's bytes: row r is bit r % 64 of word r / 64
abbrev pub rows_in : ℕ → List ℕ → List Bool
rows_in rows bytes = rows_of rows (unpacked (word_count rows) bytes)

-- the bits at the places of the planes of a file with that head, whatever stands past the last row
abbrev pub bits_at : Head → List ℕ → Planes
bits_at head bytes column number = rows_in head.rows (plane_in head column number bytes)

-- no bit past the last row is 1 in a plane of such a file
abbrev pub IsUnpadded : Head → List ℕ → OfPlanes
IsUnpadded head bytes column number = HasNoPadBits head.rows 0 (plane_in head column number bytes)

-- a plane that was read shows this of the bytes, where the store tells them
abbrev pub ShowsUnpadded : Head → StoreState → OfPlanes
ShowsUnpadded head store column number = IfSome store.held (λ bytes. IsUnpadded head bytes column number)

-- what a store tells of them
abbrev pub told_by : Head → StoreState → ToldPlanes
told_by head store = record { head = head; bits = option_map (bits_at head) store.held }

-- a store that tells its bytes has at least as many as the file
abbrev pub HoldsFile : Head → StoreState → Type 0
HoldsFile head store = IfSome store.held (λ bytes. file_size head ≤ length bytes)

-- ---- laws, each the contract of a function that does nothing

-- the bits at the places of a table's file are the planes of the table
abbrev pub FilesTellPlanes : Type 0
FilesTellPlanes =
    (version : ℕ) (table : Contents) (column number : ℕ) → IsTable (frame_of table.head) table.cells → column < length table.head.columns →
    number < planes (ends_at (frame_of table.head) column) →
    bits_at table.head (file version table) column number ≡ plane_of (frame_of table.head) table.cells column number

-- so the table has the planes that rounds over these bits read
abbrev pub FilesHaveTheirPlanes : Type 0
FilesHaveTheirPlanes =
    (version : ℕ) (table : Contents) (plan : Plan) (query : TypedQuery) (reads : List ℕ) → IsTable (frame_of table.head) table.cells →
    NamesColumns query (frame_of table.head) → AreRounds plan query (frame_of table.head) (bits_at table.head (file version table)) reads →
    HasPlanes query (frame_of table.head) (bits_at table.head (file version table)) (counts_after query reads (length reads)) table.cells
