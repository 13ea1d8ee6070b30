-- What a read of a plane does to the store, as a source of planes sees it.
use Rattle.std.proofs.Common.{◌≡◌, ℕ, ◌+◌, ◌-◌, ◌<◌, ◌≤◌, Bool, List, [], Ok, Err, Result, append-nil, length, sym, ap, subst, ◌∙◌, arith, IfSome, OnOk}
use Rattle.std.specs.Io.KnownBytes.{Appends}
use Rattle.std.specs.Prelude.{option_map, IfErr}
use Rattle.std.specs.declared.option.Option.{Option}
use Rattle.std.specs.declared.option.Option.TheVariants.{Some, None}
use Rattle.daq_table.specs.Tables.{ends_at, frame_of, planes}
use Rattle.daq_table.specs.declared.table_head.Head.{Head}
use Rattle.outer_world.proofs.Steps.{places_from-add}
use Rattle.outer_world.specs.Device.{StoreState}
use Rattle.outer_world.specs.Whole.{laid, places_from}
use Rattle.plane_file.specs.Format.{file_size, plane_size}
use Rattle.plane_file.specs.Places.{plane_at, plane_in, plane_places}
use Rattle.plane_file.specs.Reading.{HandsOverPart, HoldsPlane, ReadsPlane, StopsReading}
use Rattle.plane_file.specs.declared.plane_fault.PlaneFault.{PlaneFault}
use Rattle.plane_file.specs.declared.plane_fault.PlaneFault.TheVariants as fault
use Rattle.plane_kernels.proofs.BytesLaws.{have_no_pad_bits}
use Rattle.plane_kernels.specs.Bytes.{HasNoPadBits, bytes_of_rows}
use Rattle.table_rounds.specs.Rounds.{HaveRows}
use Rattle.plane_course.specs.Sources.{AppendsFront, AreTold, HandsOver, IsPlane}
use Rattle.plane_course.specs.Told.{HoldsFile, IsUnpadded, ShowsUnpadded, bits_at, rows_in, told_by}
use Rattle.plane_course.proofs.Placed.{within_file}
use Rattle.plane_course.proofs.RowsBack.{length-rows_in, rows_back}

-- a store that holds the file holds each plane
pub holds_plane : (head : Head) (store : StoreState) (c j : ℕ) → c < length head.columns → j < planes (ends_at (frame_of head) c) → HoldsFile head store → HoldsPlane store head c j
holds_plane head store c j h lt holds = by store.held holds
  where
    by : (held : Option (List ℕ)) → IfSome held (λ bytes. file_size head ≤ length bytes) → IfSome held (λ bytes. plane_at head c j + plane_size head.rows ≤ length bytes)
    by None holds = tt
    by (Some bytes) holds = let inside = within_file head c j h lt in omega (arith, inside, holds)

-- as many bits as rows are told
pub are_told : (head : Head) (store : StoreState) → AreTold (told_by head store)
are_told head store = by store.held
  where
    by : (held : Option (List ℕ)) → IfSome (option_map (bits_at head) held) (HaveRows (frame_of head))
    by None = tt
    by (Some bytes) = λ c j h lt. length-rows_in head.rows (plane_in head c j bytes)

-- a plane that was read has the bits that are told of it
pub is_plane : (head : Head) (c j : ℕ) (old : StoreState) (bits : List Bool) → length bits ≡ head.rows → IfSome old.held (λ bytes. bytes_of_rows bits ≡ plane_in head c j bytes) → IsPlane (told_by head old) c j bits
is_plane head c j old bits long = by old.held
  where
    by : (held : Option (List ℕ)) → IfSome held (λ bytes. bytes_of_rows bits ≡ plane_in head c j bytes) → IfSome (option_map (bits_at head) held) (λ told. bits ≡ told c j)
    by None are = tt
    by (Some bytes) are = sym (rows_back bits) ∙ ap (λ n. rows_in n (bytes_of_rows bits)) long ∙ ap (rows_in head.rows) are

pub told_bits : (head : Head) (c j : ℕ) (old new : StoreState) (bits : List Bool) (result : Result (Unit {0}) PlaneFault) → length bits ≡ head.rows → OnOk result (ReadsPlane head c j old new bits) →
    OnOk result (IsPlane (told_by head old) c j bits)
told_bits head c j old new bits (Ok done) long read = is_plane head c j old bits long read.bits_are
told_bits head c j old new bits (Err error) long read = tt

-- ---- no bit past the last row

-- a plane that was read has none
unpadded : (head : Head) (c j : ℕ) (store : StoreState) (bits : List Bool) → length bits ≡ head.rows → IfSome store.held (λ bytes. bytes_of_rows bits ≡ plane_in head c j bytes) → ShowsUnpadded head store c j
unpadded head c j store bits long = by store.held
  where
    by : (held : Option (List ℕ)) → IfSome held (λ bytes. bytes_of_rows bits ≡ plane_in head c j bytes) → IfSome held (λ bytes. IsUnpadded head bytes c j)
    by None are = tt
    by (Some bytes) are = subst (λ n. HasNoPadBits n 0 (plane_in head c j bytes)) long (subst (HasNoPadBits (length bits) 0) are (have_no_pad_bits bits))

pub shown_unpadded : (head : Head) (c j : ℕ) (old new : StoreState) (bits : List Bool) (result : Result (Unit {0}) PlaneFault) → length bits ≡ head.rows → OnOk result (ReadsPlane head c j old new bits) →
    OnOk result (ShowsUnpadded head old c j)
shown_unpadded head c j old new bits (Ok done) long read = unpadded head c j old bits long read.bits_are
shown_unpadded head c j old new bits (Err error) long read = tt

-- ---- what is handed over

-- a part of some places, from the first on, is one from their front
front_of : (place size : ℕ) (old new : StoreState) → HandsOverPart place size old new → AppendsFront (option_map laid old.pieces) (option_map laid new.pieces) (places_from place size)
front_of place size old new part =
    let few = part.few in
    let split : size ≡ part.count + (size - part.count) = omega (arith, few) in
    (places_from place part.count, places_from (place + part.count) (size - part.count), ap (places_from place) split ∙ places_from-add place part.count (size - part.count), part.handed)

-- all of them are, with none left
all_of : (old new : Option (List ℕ)) (places : List ℕ) → Appends old new places → AppendsFront old new places
all_of old new places handed = (places, [], sym (append-nil places), handed)

front_handed : (head : Head) (c j : ℕ) (old new : StoreState) (error : PlaneFault) → StopsReading head c j old new error → AppendsFront (option_map laid old.pieces) (option_map laid new.pieces) (plane_places head c j)
front_handed head c j old new fault.Fault stop = front_of (plane_at head c j) (plane_size head.rows) old new stop.part
front_handed head c j old new (fault.PadBits column plane) stop = all_of _ _ (plane_places head c j) stop.handed
front_handed head c j old new fault.WentShort stop = front_of (plane_at head c j) (plane_size head.rows) old new stop.part

pub handed_over : (head : Head) (c j : ℕ) (old new : StoreState) (bits : List Bool) (result : Result (Unit {0}) PlaneFault) → OnOk result (ReadsPlane head c j old new bits) →
    IfErr result (StopsReading head c j old new) → HandsOver result (option_map laid old.pieces) (option_map laid new.pieces) (plane_places head c j)
handed_over head c j old new bits (Ok done) read stop = read.handed
handed_over head c j old new bits (Err error) read stop = front_handed head c j old new error stop
