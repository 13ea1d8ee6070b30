-- What reading a plane of a file says.
use Rattle.std.specs.Prelude.{◌≡◌, ℕ, ◌+◌, ◌*◌, ◌≤◌, Bool, List, IfSome, length, take, drop}
use Rattle.std.specs.Simd.Lanes.{put_chunk}
use Rattle.outer_world.specs.Device.{Rose, StoreState}
use Rattle.outer_world.specs.Whole.{HandsOver, places_from}
use Rattle.daq_table.specs.declared.table_head.Head.{Head}
use Rattle.plane_kernels.specs.Bytes.{HasPadBits, bytes_of_rows}
use Rattle.plane_file.specs.Format.{plane_size}
use Rattle.plane_file.specs.Places.{plane_at, plane_in, plane_places}
use Rattle.plane_file.specs.declared.plane_fault.PlaneFault.{PlaneFault}
use Rattle.plane_file.specs.declared.plane_fault.PlaneFault.TheVariants.{Fault, PadBits, WentShort}
use Rattle.plane_file.specs.declared.words_fault.WordsFault.{WordsFault}
use Rattle.plane_file.specs.declared.words_fault.WordsFault.TheVariants as words

-- the store, where it tells its bytes, has all of the plane
abbrev pub HoldsPlane : StoreState → Head → ℕ → ℕ → Type 0
HoldsPlane store head c j = IfSome store.held (λ bytes. plane_at head c j + plane_size head.rows ≤ length bytes)

-- the plane has these bits, and its places were handed over, each once and in order
pub record ReadsPlane (head : Head) (c j : ℕ) (old new : StoreState) (bits : List Bool) : Type 0 where
  pub bits_are : IfSome old.held (λ bytes. bytes_of_rows bits ≡ plane_in head c j bytes)
  pub handed : HandsOver old.pieces new.pieces (plane_places head c j)

-- a part of these places was handed over, from the first on
pub record HandsOverPart (place size : ℕ) (old new : StoreState) : Type 0 where
  pub count : ℕ
  pub few : count ≤ size
  pub handed : HandsOver old.pieces new.pieces (places_from place count)

-- a bit past the last row is 1, and all of the plane's places were handed over
pub record IsPadded (head : Head) (c j : ℕ) (old new : StoreState) (column plane : ℕ) : Type 0 where
  pub is_column : column ≡ c
  pub is_plane : plane ≡ j
  pub bits : IfSome old.held (λ bytes. (word : ℕ) × HasPadBits head.rows 0 (plane_in head c j bytes) word)
  pub handed : HandsOver old.pieces new.pieces (plane_places head c j)

-- the store failed at one of these places
pub record IsBroken (place size : ℕ) (old new : StoreState) : Type 0 where
  pub part : HandsOverPart place size old new
  pub rose : Rose old.faults new.faults

-- the store had no byte at one of these places: it tells no bytes
pub record IsShort (place size : ℕ) (old new : StoreState) : Type 0 where
  pub part : HandsOverPart place size old new
  pub rose : Rose old.ends new.ends
  pub untold : IfSome old.held (λ bytes. ⊥)

-- the plane was not read, for this reason
abbrev pub StopsReading : Head → ℕ → ℕ → StoreState → StoreState → PlaneFault → Type 0
StopsReading head c j old new Fault = IsBroken (plane_at head c j) (plane_size head.rows) old new
StopsReading head c j old new (PadBits column plane) = IsPadded head c j old new column plane
StopsReading head c j old new WentShort = IsShort (plane_at head c j) (plane_size head.rows) old new

-- ---- pieces of a plane whose first byte stands at a place

-- these bytes were put into the plane, from word `first` on, and their places were handed over
pub record PutsWords (place first size : ℕ) (old new : StoreState) (before after : List Bool) : Type 0 where
  pub bytes :
      IfSome old.held (λ bytes.
      bytes_of_rows after ≡ put_chunk (8 * first) (bytes_of_rows before) (take size (drop (place + 8 * first) bytes)))
  pub handed : HandsOver old.pieces new.pieces (places_from (place + 8 * first) size)

-- a bit past the last of so many rows is 1 in the bytes of the words from `first` on, and their places were handed over
pub record ArePadded (place first size rows : ℕ) (old new : StoreState) : Type 0 where
  pub last : 8 * first + size ≡ plane_size rows
  pub bits : IfSome old.held (λ bytes. (word : ℕ) × HasPadBits rows first (take size (drop (place + 8 * first) bytes)) word)
  pub handed : HandsOver old.pieces new.pieces (places_from (place + 8 * first) size)

-- these words were not read, for this reason
abbrev pub StopsAtWords : (place first size rows : ℕ) → StoreState → StoreState → WordsFault → Type 0
StopsAtWords place first size rows old new words.Fault = IsBroken (place + 8 * first) size old new
StopsAtWords place first size rows old new words.PadBits = ArePadded place first size rows old new
StopsAtWords place first size rows old new words.WentShort = IsShort (place + 8 * first) size old new

-- bytes were not fetched, for this reason
abbrev pub StopsAtBytes : (place size : ℕ) → StoreState → StoreState → WordsFault → Type 0
StopsAtBytes place size old new words.Fault = IsBroken place size old new
StopsAtBytes place size old new words.PadBits = ⊥
StopsAtBytes place size old new words.WentShort = IsShort place size old new

-- all words of a plane were read, and its places were handed over
pub record ReadsWords (place : ℕ) (old new : StoreState) (bits : List Bool) : Type 0 where
  pub bytes : IfSome old.held (λ bytes. bytes_of_rows bits ≡ take (plane_size (length bits)) (drop place bytes))
  pub handed : HandsOver old.pieces new.pieces (places_from place (plane_size (length bits)))
