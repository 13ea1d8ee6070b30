-- What opening a file says of the store.
use Rattle.std.specs.Prelude.{◌≡◌, ℕ, ◌≤◌, ⊤, Some, None, List, length, take, IfSome, IsTrue}
use Rattle.outer_world.specs.Device.{Rose, StoreState}
use Rattle.outer_world.specs.Whole.{HandsOver, places_from}
use Rattle.daq_table.specs.declared.table_head.Head.{Head}
use Rattle.plane_file.specs.Checks.{file_fault, readable}
use Rattle.plane_file.specs.Format.{CanBeSpelled, file_size, head_bytes, is_version, planes_at}
use Rattle.plane_file.specs.declared.file_fault.FileFault.{FileFault}
use Rattle.plane_file.specs.declared.file_fault.FileFault.TheVariants.{BadMagic, UnknownVersion, BadHead, LimitPassed}
use Rattle.plane_file.specs.declared.file_fault.FileFault.TheVariants.{WrongSize, WentShort, Fault, NoMemory}

-- what is told of a file that was opened
pub record Opened : Type 0 where
  pub head : Head
  pub version : ℕ

-- the head can be spelled in that version
pub record IsOpened (head : Head) (version : ℕ) : Type 0 where
  pub spelled : CanBeSpelled head
  pub known : IsTrue (is_version version head)

-- so it can, and its planes begin at that place
pub record IsPlaced (head : Head) (version place : ℕ) : Type 0 where
  pub opened : IsOpened head version
  pub place_is : place ≡ planes_at head

-- the bytes begin with that head in that version, and have the size of its file
pub record IsFileHead (bytes : List ℕ) (version : ℕ) (head : Head) : Type 0 where
  pub opened : IsOpened head version
  pub same : take (planes_at head) bytes ≡ head_bytes version head
  pub size : length bytes ≡ file_size head

-- the store's bytes show no fault and begin with that head, and all up to the first plane was handed over, each byte once
-- and in order
pub record Opens (old new : StoreState) (file : Opened) : Type 0 where
  pub faultless : IfSome old.held (λ bytes. file_fault bytes ≡ None)
  pub spelled : IfSome old.held (λ bytes. IsFileHead bytes file.version file.head)
  pub handed : HandsOver old.pieces new.pieces (places_from 0 (planes_at file.head))

-- why a file was not opened: the bytes show this fault first, or the store ended early, or failed. Want of memory says nothing
abbrev pub HasFault : StoreState → StoreState → FileFault → Type 0
HasFault old new BadMagic = IfSome old.held (λ bytes. file_fault bytes ≡ Some BadMagic)
HasFault old new (UnknownVersion found) = IfSome old.held (λ bytes. file_fault bytes ≡ Some (UnknownVersion found))
HasFault old new (BadHead at) = IfSome old.held (λ bytes. file_fault bytes ≡ Some (BadHead at))
HasFault old new (LimitPassed at) = IfSome old.held (λ bytes. file_fault bytes ≡ Some (LimitPassed at))
HasFault old new (WrongSize found wanted) = IfSome old.held (λ bytes. file_fault bytes ≡ Some (WrongSize found wanted))
HasFault old new WentShort = Rose old.ends new.ends × IfSome old.held (λ bytes. ⊥)
HasFault old new Fault = Rose old.faults new.faults
HasFault old new NoMemory = ⊤

-- the file was refused for that reason, and a part of what stands before the planes was handed over, from its front on
pub record Refuses (old new : StoreState) (fault : FileFault) : Type 0 where
  pub cause : HasFault old new fault
  pub count : ℕ
  pub handed : HandsOver old.pieces new.pieces (places_from 0 count)
  pub few : IfSome old.held (λ bytes. count ≤ readable bytes)
