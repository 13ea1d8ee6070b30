-- From an opened file, and what the reading of its columns says, to the table or the refusal of the file.
use Rattle.std.proofs.Common.{◌≡◌, ℕ, ◌+◌, ◌*◌, ◌≤◌, nat_lt, nat_le, Bool, true, false, List, length, take, refl, ap, subst, arith, IfSome, if◌then◌else◌}
use Rattle.std.specs.Prelude.{is_none}
use Rattle.std.specs.declared.option.Option.{Option}
use Rattle.std.proofs.lemmas.Bool.{and_parts}
use Rattle.std.proofs.lemmas.Bool.Decides.{nat_tests}
use Rattle.std.proofs.lemmas.List.{take_all}
use Rattle.outer_world.proofs.Steps.{told}
use Rattle.outer_world.specs.Device.{StoreState}
use Rattle.outer_world.specs.Whole.{HandsOver, HoldsSame, places_from}
use Rattle.daq_table.specs.Tables.{cells_from}
use Rattle.daq_table.specs.declared.table_head.Head.{Head}
use Rattle.plane_file.specs.Checks.{first_fault, has_header, header_checks, heads_in, readable}
use Rattle.plane_file.specs.ColumnReading.{ReadsColumns, StopsInColumns}
use Rattle.plane_file.specs.Format.{IsFileOf, file_size, plane_count, plane_size, planes_at}
use Rattle.plane_file.specs.Opening.{IsFileHead, IsOpened, Opened, Opens, Refuses}
use Rattle.plane_file.specs.Places.{plane_at}
use Rattle.plane_file.specs.TableReading.{HasHeadWith, HaveColumns, IsFirstIllegal, IsFirstPadded, ReadsTable, RefusesTable, refusal_of}
use Rattle.plane_file.specs.declared.file_fault.FileFault.{FileFault}
use Rattle.plane_file.specs.declared.file_fault.FileFault.TheVariants as opening
use Rattle.plane_file.specs.declared.plane_fault.PlaneFault.TheVariants.{Fault, PadBits, WentShort}
use Rattle.plane_file.specs.declared.table_fault.TableReadFault.{TableReadFault}
use Rattle.plane_file.specs.declared.table_fault.TableReadFault.TheVariants.{File, Plane, OverTop, NoMemory}
use Rattle.plane_file.proofs.AllColumns.{columns_table}
use Rattle.plane_file.proofs.Refusals.{hands_both}
use Rattle.plane_file.proofs.TableSteps.{file_is}

-- ---- a file that is not opened

readable_within : (bytes : List ℕ) → readable bytes ≤ length bytes
readable_within bytes = by_size (nat_lt (length bytes) 32) (has_header bytes) refl refl
  where
    by_size : (small header : Bool) → nat_lt (length bytes) 32 ≡ small → has_header bytes ≡ header → (if small then 0 else (if header then 32 + heads_in bytes else 32)) ≤ length bytes
    by_size true header s h = omega arith
    by_size false true s h =
        let test = (and_parts (is_none (first_fault (header_checks bytes))) (nat_le (32 + heads_in bytes) (length bytes)) h).1 in
        grind (arith, nat_tests)
    by_size false false s h = grind (arith, nat_tests)

pub open_refused : (old new : StoreState) (why : FileFault) → Refuses old new why → RefusesTable old new (refusal_of why)
open_refused old new opening.BadMagic r = record { cause = (r.cause, λ e. cc); count = r.count; handed = r.handed; few = r.few }
open_refused old new (opening.UnknownVersion found) r = record { cause = (r.cause, λ e. cc); count = r.count; handed = r.handed; few = r.few }
open_refused old new (opening.BadHead at) r = record { cause = (r.cause, λ e. cc); count = r.count; handed = r.handed; few = r.few }
open_refused old new (opening.LimitPassed at) r = record { cause = (r.cause, λ e. cc); count = r.count; handed = r.handed; few = r.few }
open_refused old new (opening.WrongSize found wanted) r = record { cause = (r.cause, λ e. cc); count = r.count; handed = r.handed; few = r.few }
open_refused old new opening.WentShort r = record { cause = (r.cause, λ e. cc); count = r.count; handed = r.handed; few = r.few }
open_refused old new opening.Fault r = record { cause = (r.cause, λ e. cc); count = r.count; handed = r.handed; few = r.few }
open_refused old new opening.NoMemory r = record {
  cause = tt;
  count = r.count;
  handed = r.handed;
  few = told old.held (λ bytes. r.count ≤ readable bytes) (λ bytes. r.count ≤ readable bytes) (λ bytes. r.count ≤ length bytes) (λ bytes few _. omega (arith, few, readable_within bytes)) r.few r.few;
}

-- ---- a file that is opened

module _ (old mid new : StoreState) (file : Opened) (opens : Opens old mid file) (same : HoldsSame old mid) where
  behind : (count : ℕ) → HandsOver mid.pieces new.pieces (places_from (planes_at file.head) count) → HandsOver old.pieces new.pieces (places_from 0 (planes_at file.head + count))
  behind count next = hands_both old mid new (planes_at file.head) count opens.handed next

  -- what is told of the bytes behind an opened head
  with_head : (Holds : Head → List ℕ → Type 0) → IfSome mid.held (Holds file.head) → IfSome old.held (λ bytes. HasHeadWith bytes (λ head. Holds head bytes))
  with_head Holds told_there =
      told old.held (λ bytes. IsFileHead bytes file.version file.head) (Holds file.head) (λ bytes. HasHeadWith bytes (λ head. Holds head bytes))
      (λ bytes begins holds. record { version = file.version; head = file.head; begins = begins; holds = holds }) opens.spelled (subst (λ (o : Option (List ℕ)). IfSome o (Holds file.head)) same.held told_there)

  few_bytes : (count : ℕ) → count ≤ file_size file.head → IfSome old.held (λ bytes. count ≤ length bytes)
  few_bytes count few =
      told old.held (λ bytes. IsFileHead bytes file.version file.head) (λ bytes. IsFileHead bytes file.version file.head) (λ bytes. count ≤ length bytes) (λ bytes begins _. omega (arith, few, begins.size)) opens.spelled opens.spelled

  up_to_plane : (column plane count : ℕ) → count ≡ plane_at file.head column plane + plane_size file.head.rows →
      IfSome old.held (λ bytes. HasHeadWith bytes (λ head. count ≡ plane_at head column plane + plane_size head.rows))
  up_to_plane column plane count e =
      told old.held (λ bytes. IsFileHead bytes file.version file.head) (λ bytes. IsFileHead bytes file.version file.head) (λ bytes. HasHeadWith bytes (λ head. count ≡ plane_at head column plane + plane_size head.rows))
      (λ bytes begins _. record { version = file.version; head = file.head; begins = begins; holds = e }) opens.spelled opens.spelled

  pub columns_refused : (why : TableReadFault) → StopsInColumns file.head mid new why → RefusesTable old new why
  columns_refused (File why) s = absurd s.cause
  columns_refused (Plane Fault) s = record { cause = omega (arith, s.cause, same.faults); count = planes_at file.head + s.count; handed = behind s.count s.handed; few = few_bytes _ s.few }
  columns_refused (Plane (PadBits column plane)) s = record {
    cause = with_head (λ head bytes. IsFirstPadded head bytes column plane) s.cause;
    count = planes_at file.head + s.count;
    handed = behind s.count s.handed;
    few = up_to_plane column plane _ s.few;
  }
  columns_refused (Plane WentShort) s = record {
    cause = (omega (arith, s.cause.0, same.ends), subst (λ (o : Option (List ℕ)). IfSome o (λ bytes. ⊥)) same.held s.cause.1);
    count = planes_at file.head + s.count;
    handed = behind s.count s.handed;
    few = few_bytes _ s.few;
  }
  columns_refused (OverTop column plane row) s = record {
    cause = with_head (λ head bytes. IsFirstIllegal head bytes column plane row) s.cause;
    count = planes_at file.head + s.count;
    handed = behind s.count s.handed;
    few = up_to_plane column plane _ s.few;
  }
  columns_refused NoMemory s = record { cause = tt; count = planes_at file.head + s.count; handed = behind s.count s.handed; few = few_bytes _ s.few }

  pub table_read : (numbers : List (List ℕ)) (marks : List (List Bool)) → IsOpened file.head file.version → ReadsColumns file.head mid new numbers marks →
      ReadsTable old new (record { head = file.head; cells = cells_from numbers marks })
  table_read numbers marks opened done =
      let head = file.head in
      let whole : plane_count (take (length head.columns) head.columns) ≡ plane_count head.columns = ap plane_count (take_all (length head.columns) head.columns (omega arith)) in
      let all = ap (λ n. planes_at head + plane_size head.rows * n) whole in
      record {
        version = file.version;
        opened = opened;
        file_is = told old.held (λ bytes. IsFileHead bytes file.version head) (λ bytes. HaveColumns head bytes (length head.columns) (cells_from numbers marks))
            (λ bytes. IsFileOf bytes file.version (record { head = head; cells = cells_from numbers marks }))
            (λ bytes begins have. file_is bytes head (cells_from numbers marks) begins.size have file.version begins (columns_table head numbers marks done.make)) opens.spelled
            (subst (λ (o : Option (List ℕ)). IfSome o (λ bytes. HaveColumns head bytes (length head.columns) (cells_from numbers marks))) same.held done.have);
        handed = subst (λ n. HandsOver old.pieces new.pieces (places_from 0 n)) all (behind (plane_size head.rows * plane_count (take (length head.columns) head.columns)) done.handed);
      }
