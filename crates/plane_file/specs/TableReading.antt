-- What reading the table of a file says: the table, or the first fault that a reader from front to back meets.
use Rattle.std.specs.Prelude.{◌≡◌, ℕ, ◌+◌, ◌<◌, ◌≤◌, ⊤, Bool, Some, List, [], length, map, slice_index_or, IfSome}
use Rattle.outer_world.specs.Device.{Rose, StoreState}
use Rattle.outer_world.specs.Whole.{HandsOver, places_from}
use Rattle.daq_table.specs.Tables.{Cell, Cells, Contents, IsTable, ends_at, frame_of, planes}
use Rattle.daq_table.specs.declared.head.Ends.{Ends}
use Rattle.daq_table.specs.declared.table_head.Head.{Head}
use Rattle.plane_kernels.specs.Bytes.{HasPadBits, bytes_of_rows}
use Rattle.query_model.specs.Knowledge.{bit_at, prefix_of}
use Rattle.known_column.specs.Columns.{IsFirstOver, KnownColumn}
use Rattle.plane_file.specs.Checks.{file_fault, readable}
use Rattle.plane_file.specs.Format.{IsFileOf, file_size, plane_size}
use Rattle.plane_file.specs.Opening.{HasFault, IsFileHead, IsOpened}
use Rattle.plane_file.specs.Places.{plane_at, plane_in}
use Rattle.plane_file.specs.declared.file_fault.FileFault.{FileFault}
use Rattle.plane_file.specs.declared.file_fault.FileFault.TheVariants as opening
use Rattle.plane_file.specs.declared.plane_fault.PlaneFault.TheVariants.{Fault, PadBits, WentShort}
use Rattle.plane_file.specs.declared.table_fault.TableReadFault.{TableReadFault}
use Rattle.plane_file.specs.declared.table_fault.TableReadFault.TheVariants.{File, Plane, OverTop, NoMemory}

-- ---- planes of a table

-- a table with this head has a plane of this number in this column
pub record IsPlane (head : Head) (column plane : ℕ) : Type 0 where
  pub is_column : column < length head.columns
  pub is_plane : plane < planes (ends_at (frame_of head) column)

-- in the bytes the first planes of a column, so many, are those of these cells
abbrev pub HavePlanes : Head → List ℕ → ℕ → ℕ → List Cell → Type 0
HavePlanes head bytes column count cells =
    (plane : ℕ) → plane < count
    → bytes_of_rows (map (bit_at (ends_at (frame_of head) column) plane) cells) ≡ plane_in head column plane bytes

-- all planes of the first columns, so many, are those of these cells
abbrev pub HaveColumns : Head → List ℕ → ℕ → Cells → Type 0
HaveColumns head bytes count cells =
    (c : ℕ) → c < count → HavePlanes head bytes c (planes (ends_at (frame_of head) c)) (slice_index_or cells c [])

-- the planes of all columns before this one, and its first, so many, are those of a table with these cells
pub record AgreesBefore (head : Head) (bytes : List ℕ) (column count : ℕ) (cells : Cells) : Type 0 where
  pub is_table : IsTable (frame_of head) cells
  pub before : HaveColumns head bytes column cells
  pub first : HavePlanes head bytes column count (slice_index_or cells column [])

-- ---- the first fault among the planes

-- what the first planes of a column of these cells, so many, tell of it
abbrev pub known_by : Ends → ℕ → List Cell → KnownColumn
known_by ends count cells = record { ends = ends; known = record { read = count; prefixes = map (prefix_of ends count) cells } }

-- a bit past the last row is 1 in this plane
abbrev pub IsPaddedPlane : Head → List ℕ → ℕ → ℕ → Type 0
IsPaddedPlane head bytes column plane = (word : ℕ) × HasPadBits head.rows 0 (plane_in head column plane bytes) word

-- this plane, behind those of the column's cells, gives a row, the first such, the code of no cell: of a number past the column's
-- top, or of null with a digit of 1 behind it
pub record IsIllegalPlane (head : Head) (bytes : List ℕ) (column plane row : ℕ) (cells : List Cell) : Type 0 where
  pub bits : List Bool
  pub rows : length bits ≡ head.rows
  pub bits_are : bytes_of_rows bits ≡ plane_in head column plane bytes
  pub over : IsFirstOver (known_by (ends_at (frame_of head) column) plane cells) bits row

-- all planes before this one are those of a table, and it is padded
pub record IsFirstPadded (head : Head) (bytes : List ℕ) (column plane : ℕ) : Type 0 where
  pub is_plane : IsPlane head column plane
  pub cells : Cells
  pub agrees : AgreesBefore head bytes column plane cells
  pub padded : IsPaddedPlane head bytes column plane

-- all planes before this one are those of a table, and with it they are those of none
pub record IsFirstIllegal (head : Head) (bytes : List ℕ) (column plane row : ℕ) : Type 0 where
  pub is_plane : IsPlane head column plane
  pub cells : Cells
  pub agrees : AgreesBefore head bytes column plane cells
  pub illegal : IsIllegalPlane head bytes column plane row (slice_index_or cells column [])

-- the bytes begin with a head and have the size of its file, and this holds of the head
pub record HasHeadWith (bytes : List ℕ) (Holds : Head → Type 0) : Type 0 where
  pub version : ℕ
  pub head : Head
  pub begins : IsFileHead bytes version head
  pub holds : Holds head

-- the fault that the bytes show first: of their head, or else of their planes, in the order of the file
abbrev pub ShowsFault : List ℕ → TableReadFault → Type 0
ShowsFault bytes (File why) = file_fault bytes ≡ Some why
ShowsFault bytes (Plane (PadBits column plane)) = HasHeadWith bytes (λ head. IsFirstPadded head bytes column plane)
ShowsFault bytes (Plane Fault) = ⊥
ShowsFault bytes (Plane WentShort) = ⊥
ShowsFault bytes (OverTop column plane row) = HasHeadWith bytes (λ head. IsFirstIllegal head bytes column plane row)
ShowsFault bytes NoMemory = ⊥

-- ---- reading a table

-- the store holds the file of the table, and each of its bytes was handed over once, in order
pub record ReadsTable (old new : StoreState) (table : Contents) : Type 0 where
  pub version : ℕ
  pub opened : IsOpened table.head version
  pub file_is : IfSome old.held (λ bytes. IsFileOf bytes version table)
  pub handed : HandsOver old.pieces new.pieces (places_from 0 (file_size table.head))

-- why no table was read: the bytes show this fault, or the store failed, or ended early. Want of memory says nothing, and
-- is never a fault of the file
abbrev pub IsCause : StoreState → StoreState → TableReadFault → Type 0
IsCause old new (File why) = HasFault old new why × ¬ (why ≡ opening.NoMemory)
IsCause old new (Plane (PadBits column plane)) = IfSome old.held (λ bytes. ShowsFault bytes (Plane (PadBits column plane)))
IsCause old new (Plane Fault) = Rose old.faults new.faults
IsCause old new (Plane WentShort) = Rose old.ends new.ends × IfSome old.held (λ bytes. ⊥)
IsCause old new (OverTop column plane row) = IfSome old.held (λ bytes. ShowsFault bytes (OverTop column plane row))
IsCause old new NoMemory = ⊤

-- so many bytes stand before the place behind this plane
abbrev pub IsUpToPlane : List ℕ → ℕ → ℕ → ℕ → Type 0
IsUpToPlane bytes column plane count = HasHeadWith bytes (λ head. count ≡ plane_at head column plane + plane_size head.rows)

-- how many bytes of a file may be read before it is refused: where a plane is refused, all up to its end
abbrev pub IsReach : List ℕ → TableReadFault → ℕ → Type 0
IsReach bytes (File _) count = count ≤ readable bytes
IsReach bytes (Plane (PadBits column plane)) count = IsUpToPlane bytes column plane count
IsReach bytes (Plane Fault) count = count ≤ length bytes
IsReach bytes (Plane WentShort) count = count ≤ length bytes
IsReach bytes (OverTop column plane row) count = IsUpToPlane bytes column plane count
IsReach bytes NoMemory count = count ≤ length bytes

-- the refusal of a file that is not opened
abbrev pub refusal_of : FileFault → TableReadFault
refusal_of opening.BadMagic = File opening.BadMagic
refusal_of (opening.UnknownVersion found) = File (opening.UnknownVersion found)
refusal_of (opening.BadHead at) = File (opening.BadHead at)
refusal_of (opening.LimitPassed at) = File (opening.LimitPassed at)
refusal_of (opening.WrongSize found wanted) = File (opening.WrongSize found wanted)
refusal_of opening.WentShort = File opening.WentShort
refusal_of opening.Fault = File opening.Fault
refusal_of opening.NoMemory = NoMemory

-- no table was read, for this reason, and a part of the file was handed over, from its front on, each byte once and in order
pub record RefusesTable (old new : StoreState) (fault : TableReadFault) : Type 0 where
  pub cause : IsCause old new fault
  pub count : ℕ
  pub handed : HandsOver old.pieces new.pieces (places_from 0 count)
  pub few : IfSome old.held (λ bytes. IsReach bytes fault count)
