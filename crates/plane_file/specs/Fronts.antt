-- What the steps of opening a file give: from the names of a dictionary up to all that stands before the planes.
use Rattle.std.specs.Prelude.{◌≡◌, ◌⊎◌, ℕ, ◌+◌, ◌-◌, ◌<◌, ◌≤◌, ◌==◌, not}
use Rattle.std.specs.Prelude.{◌||◌, Option, Some, None, List, [], ◌++◌, length, take, drop, IfSome, IsTrue}
use Rattle.std.specs.List.{list_all, list_any}
use Rattle.outer_world.specs.Device.{Rose, StoreState}
use Rattle.outer_world.specs.Whole.{HandsOver, places_from}
use Rattle.daq_table.specs.HeadFacts.{all_differ, fits_rows}
use Rattle.daq_table.specs.declared.head.ColumnHead.{ColumnHead}
use Rattle.plane_file.specs.Checks.{base_at, column_checks, column_end, columns_checks, count_at, dictionary_at, file_fault}
use Rattle.plane_file.specs.Checks.{first_fault, front_checks, header_checks, heads_in, kind_at, names_at, names_checks}
use Rattle.plane_file.specs.Checks.{names_end, nullable_at, planes_in, readable, rows_in, title_at, titles_of, top_at, version_in}
use Rattle.plane_file.specs.Format.{CanBeSpelledColumns, file_size, head_bytes, heads_bytes, plane_count, planes_at}
use Rattle.plane_file.specs.Opening.{IsOpened, Opened}
use Rattle.plane_file.specs.declared.file_fault.FileFault.{FileFault}
use Rattle.plane_file.specs.declared.file_fault.FileFault.TheVariants.{BadMagic, UnknownVersion, BadHead, LimitPassed}
use Rattle.plane_file.specs.declared.file_fault.FileFault.TheVariants.{WrongSize, WentShort, Fault, NoMemory}

-- a step fails with the fault that was found, or for want of memory
abbrev pub MayFail : Option FileFault → FileFault → Type 0
MayFail found fault = (fault ≡ NoMemory) ⊎ (found ≡ Some fault)

-- these are the names from a place on, so many, and they end at another place
pub record AreNames (count : ℕ) (bytes : List ℕ) (at : ℕ) (names : List (List ℕ)) (end : ℕ) : Type 0 where
  pub names_are : names ≡ names_at count bytes at
  pub end_is : end ≡ names_end count bytes at
  pub within : end ≤ length bytes
  pub passed : first_fault (names_checks count bytes None at) ≡ None

-- the head of this column stands from a place up to another, behind columns of these names
pub record IsColumnAt (bytes : List ℕ) (titles : List (List ℕ)) (at : ℕ) (column : ColumnHead) (end : ℕ) : Type 0 where
  pub name : column.name ≡ title_at bytes at
  pub kind : column.kind ≡ kind_at bytes at
  pub nullable : column.nullable ≡ nullable_at bytes at
  pub base : column.base ≡ base_at bytes at
  pub top : column.top ≡ top_at bytes at
  pub names : column.names ≡ names_at (count_at bytes at) bytes (dictionary_at bytes at)
  pub end_is : end ≡ column_end bytes at
  pub within : end ≤ length bytes
  pub passed : first_fault (column_checks bytes titles at) ≡ None

-- the heads of these columns stand behind the header, up to a place, and suit the version and the rows that it tells
pub record AreHeads (bytes : List ℕ) (columns : List ColumnHead) (place : ℕ) : Type 0 where
  pub spelled : drop 32 bytes ≡ heads_bytes columns ++ drop place bytes
  pub within : place ≤ length bytes
  pub each : CanBeSpelledColumns columns
  pub differ : IsTrue (all_differ (titles_of columns))
  pub rows : IsTrue (list_all (λ c. fits_rows (rows_in bytes) c.kind c.nullable c.names) columns)
  pub version : IsTrue (version_in bytes == 2 || not (list_any (λ column. column.nullable) columns))

-- these are the columns, so many, and nothing stands behind their heads
pub record AreColumns (count : ℕ) (bytes : List ℕ) (columns : List ColumnHead) : Type 0 where
  pub heads : AreHeads bytes columns (length bytes)
  pub count_is : length columns ≡ count
  pub planes : plane_count columns ≡ planes_in count bytes 32
  pub passed : first_fault (columns_checks count bytes [] 32) ≡ None

-- the bytes have a header that passes its checks, and behind it as many bytes as it tells of heads
pub record HasHeader (front : List ℕ) : Type 0 where
  pub passed : first_fault (header_checks front) ≡ None
  pub whole : length front ≡ 32 + heads_in front

-- these bytes are all that stand before the planes of the file, which has that size
pub record IsFrontOf (front : List ℕ) (size : ℕ) (file : Opened) : Type 0 where
  pub opened : IsOpened file.head file.version
  pub same : front ≡ head_bytes file.version file.head
  pub size_is : size ≡ file_size file.head
  pub long : length front ≡ planes_at file.head
  pub passed : first_fault (front_checks front size) ≡ None

-- a buffer of so many bytes was not filled from a place on: the store ended before, or failed. A part of the places was handed over
abbrev pub StopCause : StoreState → StoreState → ℕ → FileFault → Type 0
StopCause old new end WentShort = Rose old.ends new.ends × IfSome old.held (λ bytes. length bytes < end)
StopCause old new end Fault = Rose old.faults new.faults
StopCause old new end BadMagic = ⊥
StopCause old new end (UnknownVersion found) = ⊥
StopCause old new end (BadHead at) = ⊥
StopCause old new end (LimitPassed at) = ⊥
StopCause old new end (WrongSize found wanted) = ⊥
StopCause old new end NoMemory = ⊥

-- why the front of a file is read no further: of so many bytes from that place on not all came. Those that did are the first of them
pub record StopsAt (old new : StoreState) (at count : ℕ) (fault : FileFault) : Type 0 where
  pub cause : StopCause old new (at + count) fault
  pub got : ℕ
  pub few : got ≤ count
  pub handed : HandsOver old.pieces new.pieces (places_from at got)

-- the store has a header that passes its checks, and this size
pub record HasStart (bytes header : List ℕ) (size : ℕ) : Type 0 where
  pub header_is : header ≡ take 32 bytes
  pub size_is : size ≡ length bytes

-- the header was handed over. It passes its checks, and the size has room for the heads
pub record HandsHeader (old new : StoreState) (header : List ℕ) (size : ℕ) : Type 0 where
  pub long : length header ≡ 32
  pub passed : first_fault (header_checks header) ≡ None
  pub room : 32 + heads_in header ≤ size
  pub told : IfSome old.held (λ bytes. HasStart bytes header size)
  pub handed : HandsOver old.pieces new.pieces (places_from 0 32)

-- the buffer has the header, and behind it what follows in the store
pub record FillsBehind (old new : StoreState) (header front : List ℕ) : Type 0 where
  pub header_is : take 32 front ≡ header
  pub told : IfSome old.held (λ bytes. drop 32 front ≡ take (length front - 32) (drop 32 bytes))
  pub handed : HandsOver old.pieces new.pieces (places_from 32 (length front - 32))

-- what a store whose bytes have this front shows: the fault is that of the front
pub record HasFront (bytes front : List ℕ) (size : ℕ) : Type 0 where
  pub front_is : front ≡ take (length front) bytes
  pub size_is : size ≡ length bytes
  pub fault_is : file_fault bytes ≡ first_fault (front_checks front size)
  pub readable_is : readable bytes ≡ length front

-- all up to the first plane was handed over
pub record HandsFront (old new : StoreState) (front : List ℕ) (size : ℕ) : Type 0 where
  pub header : HasHeader front
  pub told : IfSome old.held (λ bytes. HasFront bytes front size)
  pub handed : HandsOver old.pieces new.pieces (places_from 0 (length front))
