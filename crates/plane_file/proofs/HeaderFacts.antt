-- A header that passed its checks, and the head that stands behind it.
use Rattle.std.proofs.Common.{◌≡◌, ℕ, ◌+◌, ◌*◌, ◌/◌, ◌≤◌, ◌==◌, nat_le, Bool, true, false, cond, not, ◌&&◌, ◌||◌, Option, Some, None, List, [], ◌∷◌, ◌++◌, length, drop, refl, sym, ap, ◌∙◌, arith, append_assoc, append-nil, inl, inr}
use Rattle.std.proofs.lemmas.Bool.{and_parts, eq-eqb, leb-true, ltb-true, ne_eqb}
use Rattle.std.proofs.lemmas.Slice.Eq.{bytes_eq-Decides}
use Rattle.std.proofs.Math.ListN.{drop_of_length-le}
use Rattle.std.proofs.lemmas.List.{length-drop}
use Rattle.std.specs.Int.{w32, w64, to_le_bytes}
use Rattle.std.specs.List.{list_any}
use Rattle.std.specs.Prelude.{codes}
use Rattle.daq_table.specs.HeadFacts.{IsHead}
use Rattle.daq_table.specs.declared.head.ColumnHead.{ColumnHead}
use Rattle.daq_table.specs.declared.table_head.Head.{Head}
use Rattle.plane_file.proofs.FrontBytes.{number32_front, number64_front, part_front}
use Rattle.plane_file.specs.Bytes.{AreBytes}
use Rattle.plane_file.proofs.Faults.{first_fault-append_none, first_fault-append_some}
use Rattle.plane_file.specs.Checks.{columns_checks, columns_in, first_fault, front_checks, header_checks, heads_in, part_at, rows_in, size_declared, version_in}
use Rattle.plane_file.specs.Format.{head_bytes, heads_bytes, plane_count}
use Rattle.plane_file.specs.Fronts.{AreColumns, HasHeader, IsFrontOf, MayFail}
use Rattle.plane_file.specs.Opening.{IsOpened, Opened}
use Rattle.plane_file.specs.declared.file_fault.FileFault.{FileFault}
use Rattle.plane_file.specs.declared.file_fault.FileFault.TheVariants.{WrongSize}

-- what the checks of the header say
pub record HasNumbers (bytes : List ℕ) : Type 0 where
  pub magic : part_at bytes 0 8 ≡ codes "DAQPLANE"
  pub version : (version_in bytes == 1 || version_in bytes == 2) ≡ true
  pub some : 1 ≤ columns_in bytes
  pub few : columns_in bytes ≤ 64
  pub rows : rows_in bytes ≤ 16777216
  pub cells : rows_in bytes * columns_in bytes ≤ 134217728
  pub heads : heads_in bytes ≤ 2147483648

tested : (holds : Bool) (rest : Option FileFault) (why : FileFault) → cond holds rest (Some why) ≡ None → (holds ≡ true) × (rest ≡ None)
tested true rest why e = (refl, e)
tested false rest why e = absurd cc

pub has_numbers : (bytes : List ℕ) → first_fault (header_checks bytes) ≡ None → HasNumbers bytes
has_numbers bytes e =
    let a = tested _ _ _ e in
    let b = tested _ _ _ a.1 in
    let c = tested _ _ _ b.1 in
    let d = tested _ _ _ c.1 in
    let f = tested _ _ _ d.1 in
    let g = tested _ _ _ f.1 in
    let rows = and_parts (nat_le (rows_in bytes) 16777216) (nat_le (rows_in bytes * columns_in bytes) 134217728) f.0 in
    record {
      magic = (bytes_eq-Decides (part_at bytes 0 8) (codes "DAQPLANE")).0 a.0;
      version = b.0;
      some = ltb-true 0 (columns_in bytes) c.0;
      few = leb-true (columns_in bytes) 64 d.0;
      rows = leb-true (rows_in bytes) 16777216 rows.0;
      cells = leb-true (rows_in bytes * columns_in bytes) 134217728 rows.1;
      heads = leb-true (heads_in bytes) 2147483648 g.0;
    }

-- the first 32 bytes are the header
header_front : (bytes : List ℕ) → AreBytes bytes → 32 ≤ length bytes
    → bytes ≡ part_at bytes 0 8 ++ (to_le_bytes w32 (version_in bytes) ++ (to_le_bytes w32 (columns_in bytes) ++ (to_le_bytes w64 (rows_in bytes) ++ (to_le_bytes w64 (heads_in bytes) ++ drop 32 bytes))))
header_front bytes fits le =
    let a = part_front bytes 0 8 8 refl in
    let b = number32_front bytes 8 12 fits refl (omega arith) in
    let c = number32_front bytes 12 16 fits refl (omega arith) in
    let d = number64_front bytes 16 24 fits refl (omega arith) in
    let f = number64_front bytes 24 32 fits refl le in
    let first = λ (t : List ℕ). part_at bytes 0 8 ++ t in
    let second = λ (t : List ℕ). first (to_le_bytes w32 (version_in bytes) ++ t) in
    let third = λ (t : List ℕ). second (to_le_bytes w32 (columns_in bytes) ++ t) in
    let fourth = λ (t : List ℕ). third (to_le_bytes w64 (rows_in bytes) ++ t) in
    a ∙ ap first b ∙ ap second c ∙ ap third d ∙ ap fourth f

pub regroup : (a b c d e rest : List ℕ) → (a ++ (b ++ (c ++ (d ++ e)))) ++ rest ≡ a ++ (b ++ (c ++ (d ++ (e ++ rest))))
regroup a b c d e rest = simp append_assoc

pub heads_behind : (front : List ℕ) (columns : List ColumnHead) → AreColumns (columns_in front) front columns → drop 32 front ≡ heads_bytes columns
heads_behind front columns c = c.heads.spelled ∙ ap (λ (t : List ℕ). heads_bytes columns ++ t) (drop_of_length-le front {i = length front} (omega arith)) ∙ append-nil (heads_bytes columns)

-- the head of these columns is spelled so
pub spelled : (front : List ℕ) (head : Head) → AreBytes front → HasHeader front → AreColumns (columns_in front) front head.columns → head.rows ≡ rows_in front
    → front ≡ head_bytes (version_in front) head
spelled front head fits header c rows =
    let numbers = has_numbers front header.passed in
    let behind = heads_behind front head.columns c in
    let long : length (heads_bytes head.columns) ≡ heads_in front = omega (arith, ap length behind, length-drop 32 front, header.whole) in
    header_front front fits (omega (arith, header.whole))
    ∙ rw (numbers.magic, behind) (rw (← long, ← rows, ← c.count_is)
    (sym (regroup (codes "DAQPLANE") (to_le_bytes w32 (version_in front)) (to_le_bytes w32 (length head.columns)) (to_le_bytes w64 head.rows) (to_le_bytes w64 (length (heads_bytes head.columns))) (heads_bytes head.columns))))

version_known : (version : ℕ) (some : Bool) → (version == 1 || version == 2) ≡ true → (version == 2 || not some) ≡ true → (version == 2 || (version == 1 && not some)) ≡ true
version_known version some h k = both (version == 1) (version == 2) some h k
  where
    both : (one two none : Bool) → (one || two) ≡ true → (two || not none) ≡ true → (two || (one && not none)) ≡ true
    both one true none h k = refl
    both true false none h k = k
    both false false none h k = absurd cc

pub is_opened : (front : List ℕ) (head : Head) → HasHeader front → AreColumns (columns_in front) front head.columns → head.rows ≡ rows_in front → IsOpened head (version_in front)
is_opened front head header c rows =
    let numbers = has_numbers front header.passed in
    record {
      spelled = record {
        some = rw c.count_is numbers.some;
        cells = rw (rows, c.count_is) numbers.cells;
        each = c.heads.each;
      };
      known = version_known (version_in front) (list_any (λ (x : ColumnHead). x.nullable) head.columns) numbers.version c.heads.version;
    }

pub is_head : (front : List ℕ) (rows : ℕ) (columns : List ColumnHead) → HasHeader front → AreColumns (columns_in front) front columns → rows ≡ rows_in front → IsHead rows columns
is_head front rows columns header c e =
    let numbers = has_numbers front header.passed in
    record {
      few_rows = rw e numbers.rows;
      few_columns = rw c.count_is numbers.few;
      differ = c.heads.differ;
      texts = rw e c.heads.rows;
    }

pub front_long : (front : List ℕ) (columns : List ColumnHead) → HasHeader front → AreColumns (columns_in front) front columns → length front ≡ 32 + length (heads_bytes columns)
front_long front columns header c = omega (arith, ap length (heads_behind front columns c), length-drop 32 front, header.whole)

-- the heads have a fault
pub front_stop : (front : List ℕ) (count size : ℕ) (why : FileFault) → count ≡ columns_in front → MayFail (first_fault (columns_checks count front [] 32)) why → MayFail (first_fault (front_checks front size)) why
front_stop front count size why e (inl none) = inl none
front_stop front count size why e (inr found) =
    inr (first_fault-append_some (columns_checks (columns_in front) front [] 32) ((size == size_declared front, WrongSize size (size_declared front)) ∷ []) why (ap (λ (n : ℕ). first_fault (columns_checks n front [] 32)) (sym e) ∙ found))

-- the heads have none, and the size is another than they declare
pub wrong_size : (front : List ℕ) (size wanted : ℕ) → first_fault (columns_checks (columns_in front) front [] 32) ≡ None → wanted ≡ size_declared front → (size ≡ wanted → ⊥)
    → first_fault (front_checks front size) ≡ Some (WrongSize size wanted)
wrong_size front size wanted passed e differ =
    let other : (size == size_declared front) ≡ false = ne_eqb size (size_declared front) (λ same. differ (same ∙ sym e)) in
    first_fault-append_none (columns_checks (columns_in front) front [] 32) ((size == size_declared front, WrongSize size (size_declared front)) ∷ []) passed
    ∙ rw (other, e) refl

pub declared : (front : List ℕ) (columns : List ColumnHead) (rows planes : ℕ) → AreColumns (columns_in front) front columns → rows ≡ rows_in front → planes ≡ plane_count columns
    → length front + 8 * ((rows + 63) / 64) * planes ≡ size_declared front
declared front columns rows planes c e f = rw (e, f, c.planes) refl

-- the head that was read
pub is_front_of : (front : List ℕ) (size : ℕ) (file : Opened) → AreBytes front → HasHeader front → AreColumns (columns_in front) front file.head.columns → file.head.rows ≡ rows_in front
    → file.version ≡ version_in front → size ≡ size_declared front → IsFrontOf front size file
is_front_of front size file fits header c rows version same =
    let place = front_long front file.head.columns header c in
    record {
      opened = rw version (is_opened front file.head header c rows);
      same = rw version (spelled front file.head fits header c rows);
      size_is = same ∙ rw (← place, rows, c.planes) refl;
      long = place;
      passed = first_fault-append_none (columns_checks (columns_in front) front [] 32) ((size == size_declared front, WrongSize size (size_declared front)) ∷ []) c.passed ∙ rw (eq-eqb size (size_declared front) same) refl;
    }
