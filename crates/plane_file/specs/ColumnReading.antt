-- What the steps of reading a table give: from a plane of a column up to all columns.
use Rattle.std.specs.Prelude.{◌≡◌, ℕ, ◌+◌, ◌*◌, ◌<◌, ◌≤◌, ⊤, Bool, Some, false}
use Rattle.std.specs.Prelude.{List, [], length, map, take, slice_index, slice_index_or, cond, IfSome, IsTrue}
use Rattle.std.specs.List.{All}
use Rattle.outer_world.specs.Device.{Rose, StoreState}
use Rattle.outer_world.specs.Whole.{HandsOver, places_from}
use Rattle.daq_table.specs.Tables.{Cell, IsCell, cells_from, column_from, ends_at, frame_of, planes}
use Rattle.daq_table.specs.declared.table_head.Head.{Head}
use Rattle.plane_kernels.specs.Bytes.{bytes_of_rows}
use Rattle.query_model.specs.Knowledge.{IsLegal}
use Rattle.known_column.specs.Columns.{IsFirstOver, KnownColumn, digit_of, read_further, rows_of_column}
use Rattle.plane_file.specs.Format.{file_size, plane_count, plane_size, planes_at}
use Rattle.plane_file.specs.Places.{plane_at, plane_in}
use Rattle.plane_file.specs.Reading.{ReadsPlane, StopsReading}
use Rattle.plane_file.specs.TableReading.{HaveColumns, HavePlanes, IsFirstIllegal, IsFirstPadded, IsIllegalPlane, IsPaddedPlane, IsPlane}
use Rattle.plane_file.specs.declared.plane_fault.PlaneFault.TheVariants.{Fault, PadBits, WentShort}
use Rattle.plane_file.specs.declared.table_fault.TableReadFault.{TableReadFault}
use Rattle.plane_file.specs.declared.table_fault.TableReadFault.TheVariants.{File, Plane, OverTop, NoMemory}

-- the store, where it tells its bytes, has as many as the file
abbrev pub HoldsFile : StoreState → Head → Type 0
HoldsFile store head = IfSome store.held (λ bytes. length bytes ≡ file_size head)

-- ---- one plane

-- this is known of a column of which the first planes, so many, were read
pub record IsReadInto (head : Head) (column count : ℕ) (known : KnownColumn) : Type 0 where
  pub ends : known.ends ≡ ends_at (frame_of head) column
  pub read : known.known.read ≡ count
  pub rows : rows_of_column known ≡ head.rows
  pub legal : All (IsLegal known.ends known.known.read) known.known.prefixes

-- the next plane was read and taken
pub record TakesPlane (head : Head) (column plane : ℕ) (old new : StoreState) (before after : KnownColumn) : Type 0 where
  pub bits : List Bool
  pub rows : length bits ≡ head.rows
  pub read : ReadsPlane head column plane old new bits
  pub after_is : after ≡ read_further before bits
  pub is_read : IsReadInto head column (plane + 1) after

-- the next plane was read, and with it a row, the first such, has the code of no cell
pub record IsNextIllegal (head : Head) (column plane : ℕ) (old new : StoreState) (known : KnownColumn) (c j row : ℕ) : Type 0 where
  pub is_column : c ≡ column
  pub is_plane : j ≡ plane
  pub bits : List Bool
  pub rows : length bits ≡ head.rows
  pub read : ReadsPlane head column plane old new bits
  pub over : IsFirstOver known bits row

-- the next plane was not taken, for this reason
abbrev pub StopsAtNext : Head → ℕ → ℕ → StoreState → StoreState → KnownColumn → TableReadFault → Type 0
StopsAtNext head column plane old new known (File _) = ⊥
StopsAtNext head column plane old new known (Plane why) = StopsReading head column plane old new why
StopsAtNext head column plane old new known (OverTop c j row) = IsNextIllegal head column plane old new known c j row
StopsAtNext head column plane old new known NoMemory = ⊥

-- ---- the planes of a column

-- the planes read so far, of the bytes, are the digits of what is known
abbrev pub TellsPlanes : Head → List ℕ → ℕ → KnownColumn → Type 0
TellsPlanes head bytes column known =
    (plane : ℕ) → plane < known.known.read →
    bytes_of_rows (map (digit_of known.known.read plane) known.known.prefixes) ≡ plane_in head column plane bytes

-- the first planes of a column, so many, were read
pub record ReadsPlanes (head : Head) (column count : ℕ) (old new : StoreState) (known : KnownColumn) : Type 0 where
  pub is_read : IsReadInto head column count known
  pub told : IfSome old.held (λ bytes. TellsPlanes head bytes column known)
  pub handed : HandsOver old.pieces new.pieces (places_from (plane_at head column 0) (plane_size head.rows * count))

-- these are cells of the column, one for each row
pub record AreCells (head : Head) (column : ℕ) (cells : List Cell) : Type 0 where
  pub rows : length cells ≡ head.rows
  pub within : (row : ℕ) → row < head.rows → IsCell (ends_at (frame_of head) column) (slice_index_or cells row (Some 0))

-- the planes of the column before this one are those of cells
pub record ReachesPlane (head : Head) (bytes : List ℕ) (column plane : ℕ) (cells : List Cell) : Type 0 where
  pub is_plane : IsPlane head column plane
  pub are_cells : AreCells head column cells
  pub have : HavePlanes head bytes column plane cells

-- they are, and the plane is padded
pub record ReachesPadded (head : Head) (bytes : List ℕ) (column plane : ℕ) : Type 0 where
  pub cells : List Cell
  pub reached : ReachesPlane head bytes column plane cells
  pub padded : IsPaddedPlane head bytes column plane

-- they are, and with the plane it is those of none
pub record ReachesIllegal (head : Head) (bytes : List ℕ) (column plane row : ℕ) : Type 0 where
  pub cells : List Cell
  pub reached : ReachesPlane head bytes column plane cells
  pub illegal : IsIllegalPlane head bytes column plane row cells

-- why the planes of a column were not read
abbrev pub IsColumnCause : Head → ℕ → StoreState → StoreState → TableReadFault → Type 0
IsColumnCause head column old new (File _) = ⊥
IsColumnCause head column old new (Plane (PadBits c plane)) =
    (c ≡ column) × IfSome old.held (λ bytes. ReachesPadded head bytes column plane)
IsColumnCause head column old new (Plane Fault) = Rose old.faults new.faults
IsColumnCause head column old new (Plane WentShort) = Rose old.ends new.ends × IfSome old.held (λ bytes. ⊥)
IsColumnCause head column old new (OverTop c plane row) =
    (c ≡ column) × IfSome old.held (λ bytes. ReachesIllegal head bytes column plane row)
IsColumnCause head column old new NoMemory = ⊤

-- so many bytes are at most those of so many planes
abbrev pub AreWithin : Head → ℕ → ℕ → Type 0
AreWithin head count planes = count ≤ plane_size head.rows * planes

-- how many bytes of a column may be read: where a plane is refused, all up to its end
abbrev pub IsColumnReach : Head → ℕ → TableReadFault → ℕ → Type 0
IsColumnReach head column (File _) count = ⊥
IsColumnReach head column (Plane (PadBits c plane)) count = count ≡ plane_size head.rows * (plane + 1)
IsColumnReach head column (Plane Fault) count = AreWithin head count (planes (ends_at (frame_of head) column))
IsColumnReach head column (Plane WentShort) count = AreWithin head count (planes (ends_at (frame_of head) column))
IsColumnReach head column (OverTop c plane row) count = count ≡ plane_size head.rows * (plane + 1)
IsColumnReach head column NoMemory count = AreWithin head count (planes (ends_at (frame_of head) column))

-- the planes of a column were not read, for this reason, and a part of them was handed over, from the first on
pub record StopsInColumn (head : Head) (column : ℕ) (old new : StoreState) (fault : TableReadFault) : Type 0 where
  pub cause : IsColumnCause head column old new fault
  pub count : ℕ
  pub handed : HandsOver old.pieces new.pieces (places_from (plane_at head column 0) count)
  pub few : IsColumnReach head column fault count

-- ---- the cells of columns

-- numbers and marks that are the cells of a column: one for each row, a mark only where it is nullable, and 0 for null
pub record MakeCells (head : Head) (column : ℕ) (numbers : List ℕ) (marks : List Bool) : Type 0 where
  pub are_cells : AreCells head column (column_from numbers marks)
  pub marked : length marks ≡ cond (ends_at (frame_of head) column).nullable head.rows 0
  pub zero : (row : ℕ) → IsTrue (slice_index_or marks row false) → slice_index numbers row ≡ 0

-- the planes of a column were read, and they are those of the cells with these numbers and marks
pub record ReadsCells (head : Head) (column : ℕ) (old new : StoreState) (numbers : List ℕ) (marks : List Bool) : Type 0 where
  pub make : MakeCells head column numbers marks
  pub have : IfSome old.held (λ bytes. HavePlanes head bytes column (planes (ends_at (frame_of head) column)) (column_from numbers marks))
  pub handed :
      HandsOver old.pieces new.pieces
      (places_from (plane_at head column 0) (plane_size head.rows * planes (ends_at (frame_of head) column)))

-- the numbers and marks of the first columns, so many
pub record MakeColumns (head : Head) (count : ℕ) (numbers : List (List ℕ)) (marks : List (List Bool)) : Type 0 where
  pub many : length numbers ≡ count
  pub marked : length marks ≡ count
  pub each : (c : ℕ) → c < count → MakeCells head c (slice_index_or numbers c []) (slice_index_or marks c [])

-- the first columns, so many, were read
pub record ReadsFirst (head : Head) (count : ℕ) (old new : StoreState) (numbers : List (List ℕ)) (marks : List (List Bool)) : Type 0 where
  pub make : MakeColumns head count numbers marks
  pub have : IfSome old.held (λ bytes. HaveColumns head bytes count (cells_from numbers marks))
  pub handed : HandsOver old.pieces new.pieces (places_from (planes_at head) (plane_size head.rows * plane_count (take count head.columns)))

-- all were
abbrev pub ReadsColumns : Head → StoreState → StoreState → List (List ℕ) → List (List Bool) → Type 0
ReadsColumns head old new numbers marks = ReadsFirst head (length head.columns) old new numbers marks

-- why the columns were not read
abbrev pub IsColumnsCause : Head → StoreState → StoreState → TableReadFault → Type 0
IsColumnsCause head old new (File _) = ⊥
IsColumnsCause head old new (Plane (PadBits column plane)) = IfSome old.held (λ bytes. IsFirstPadded head bytes column plane)
IsColumnsCause head old new (Plane Fault) = Rose old.faults new.faults
IsColumnsCause head old new (Plane WentShort) = Rose old.ends new.ends × IfSome old.held (λ bytes. ⊥)
IsColumnsCause head old new (OverTop column plane row) = IfSome old.held (λ bytes. IsFirstIllegal head bytes column plane row)
IsColumnsCause head old new NoMemory = ⊤

-- the place up to which the bytes may be read: where a plane is refused, its end
abbrev pub IsEnd : Head → TableReadFault → ℕ → Type 0
IsEnd head (File _) end = ⊥
IsEnd head (Plane (PadBits column plane)) end = end ≡ plane_at head column plane + plane_size head.rows
IsEnd head (Plane Fault) end = end ≤ file_size head
IsEnd head (Plane WentShort) end = end ≤ file_size head
IsEnd head (OverTop column plane row) end = end ≡ plane_at head column plane + plane_size head.rows
IsEnd head NoMemory end = end ≤ file_size head

-- the columns were not read, for this reason, and a part of the planes was handed over, from the first on
pub record StopsInColumns (head : Head) (old new : StoreState) (fault : TableReadFault) : Type 0 where
  pub cause : IsColumnsCause head old new fault
  pub count : ℕ
  pub handed : HandsOver old.pieces new.pieces (places_from (planes_at head) count)
  pub few : IsEnd head fault (planes_at head + count)
