-- Bytes without a fault begin with a head.
use Rattle.std.proofs.Common.{◌≡◌, ℕ, zero, suc, ◌+◌, ◌-◌, ◌≤◌, ◌==◌, nat_le, None, List, [], ◌∷◌, ◌++◌, length, take, refl, sym, ap, subst, zero-add, ◌∙◌, arith}
use Rattle.std.proofs.lemmas.Bool.{eqb-true, leb-true}
use Rattle.std.proofs.lemmas.List.{length_push, length-take}
use Rattle.daq_table.specs.declared.head.ColumnHead.{ColumnHead}
use Rattle.daq_table.specs.declared.table_head.Head.{Head}
use Rattle.plane_file.proofs.Bytewise.{front_is, header-take, heads-take}
use Rattle.plane_file.proofs.ColumnFacts.{is_column}
use Rattle.plane_file.proofs.DictionaryFacts.{names_end_within}
use Rattle.plane_file.proofs.Faults.{passed, passed-append}
use Rattle.plane_file.proofs.FieldFacts.{has_fields}
use Rattle.plane_file.proofs.FrontBytes.{take_bytes}
use Rattle.plane_file.specs.Bytes.{AreBytes}
use Rattle.plane_file.proofs.HeaderFacts.{is_front_of, is_head}
use Rattle.plane_file.proofs.HeadSteps.{heads_start, heads_step, planes_step, titles_push}
use Rattle.plane_file.specs.Checks.{Check, base_at, column_checks, column_end, columns_checks, columns_in, count_at, dictionary_at, fields_checks, file_fault, first_fault, front_checks, front_of, header_checks, heads_in, kind_at, names_at, names_checks, nullable_at, planes_in, rows_in, size_declared, title_at, titles_of, top_at, version_in}
use Rattle.plane_file.specs.Format.{plane_count}
use Rattle.plane_file.specs.Fronts.{AreColumns, AreHeads, HasHeader, IsColumnAt, IsFrontOf}
use Rattle.plane_file.specs.Opening.{IsFileHead, Opened}
use Rattle.plane_file.specs.declared.file_fault.FileFault.TheVariants.{WrongSize}

-- the column of fields and names that pass their checks
column_there : (bytes : List ℕ) (titles : List (List ℕ)) (at : ℕ) → first_fault (column_checks bytes titles at) ≡ None → (column : ColumnHead) × IsColumnAt bytes titles at column (column_end bytes at)
column_there bytes titles at e =
    let count = count_at bytes at in
    let place = dictionary_at bytes at in
    let checks = passed-append (fields_checks bytes titles at) (names_checks count bytes None place) e in
    let fields = has_fields bytes titles at checks.0 in
    let column : ColumnHead = record {
      name = title_at bytes at;
      kind = kind_at bytes at;
      nullable = nullable_at bytes at;
      base = base_at bytes at;
      top = top_at bytes at;
      names = names_at count bytes place;
      is_column = is_column bytes titles at (title_at bytes at) (kind_at bytes at) (base_at bytes at) (top_at bytes at) (names_at count bytes place) fields checks.1 refl refl refl refl refl;
    } in (
      column,
      record {
        name = refl;
        kind = refl;
        nullable = refl;
        base = refl;
        top = refl;
        names = refl;
        end_is = refl;
        within = names_end_within count bytes None place fields.within checks.1;
        passed = e;
      },
    )

-- the columns, behind those of the heads before them
record Columns (count : ℕ) (bytes : List ℕ) (columns : List ColumnHead) (place : ℕ) : Type 0 where
  all : List ColumnHead
  heads : AreHeads bytes all (length bytes)
  many : length all ≡ length columns + count
  planes_are : plane_count all ≡ plane_count columns + planes_in count bytes place

no_planes : (bytes : List ℕ) (place : ℕ) → planes_in 0 bytes place ≡ 0
unfolding planes_in
no_planes bytes place = refl

passed_end : (bytes : List ℕ) (titles : List (List ℕ)) (place : ℕ) → first_fault (columns_checks 0 bytes titles place) ≡ None → place ≡ length bytes
unfolding columns_checks
passed_end bytes titles place e = eqb-true place (length bytes) (passed (place == length bytes) _ [] e).0

passed_more : (count : ℕ) (bytes : List ℕ) (titles : List (List ℕ)) (place : ℕ) → first_fault (columns_checks (suc count) bytes titles place) ≡ None
    → (first_fault (column_checks bytes titles place) ≡ None) × (first_fault (columns_checks count bytes (titles ++ title_at bytes place ∷ []) (column_end bytes place)) ≡ None)
unfolding columns_checks
passed_more count bytes titles place e = passed-append (column_checks bytes titles place) (columns_checks count bytes (titles ++ title_at bytes place ∷ []) (column_end bytes place)) e

columns_there : (count : ℕ) (bytes : List ℕ) (columns : List ColumnHead) (place : ℕ) → AreBytes bytes → AreHeads bytes columns place → first_fault (columns_checks count bytes (titles_of columns) place) ≡ None
    → Columns count bytes columns place
columns_there zero bytes columns place fits heads e =
    record {
      all = columns;
      heads = subst (λ (n : ℕ). AreHeads bytes columns n) (passed_end bytes (titles_of columns) place e) heads;
      many = omega arith;
      planes_are = omega (arith, no_planes bytes place);
    }
columns_there (suc count) bytes columns place fits heads e =
    let titles = titles_of columns in
    let parts = passed_more count bytes titles place e in
    let found = column_there bytes titles place parts.0 in
    let last = found.0 in
    let end = column_end bytes place in
    let next = heads_step bytes columns place last end fits heads found.1 in
    let named : titles_of (columns ++ last ∷ []) ≡ titles ++ title_at bytes place ∷ [] = titles_push columns last ∙ ap (λ (t : List ℕ). titles ++ t ∷ []) found.1.name in
    let rest = columns_there count bytes (columns ++ last ∷ []) end fits next (rw named parts.1) in
    let one = planes_step (suc count) 0 bytes columns place last end fits (omega arith) found.1 in
    let left : suc count - (0 + 1) ≡ count = omega arith in
    let whole : suc count - 0 ≡ suc count = omega arith in
    record {
      all = rest.all;
      heads = rest.heads;
      many = omega (arith, rest.many, length_push columns last);
      planes_are = rest.planes_are ∙ (rw (left, whole) at one);
    }

-- what the checks of a file say, part by part
record Passed (bytes : List ℕ) : Type 0 where
  large : 32 ≤ length bytes
  header : first_fault (header_checks bytes) ≡ None
  room : 32 + heads_in bytes ≤ length bytes
  front : first_fault (front_checks (front_of bytes) (length bytes)) ≡ None

parts : (bytes : List ℕ) → file_fault bytes ≡ None → Passed bytes
parts bytes e =
    let front = front_checks (front_of bytes) (length bytes) in
    let later : List Check = (nat_le (32 + heads_in bytes) (length bytes), WrongSize (length bytes) (32 + heads_in bytes)) ∷ front in
    let size = passed (nat_le 32 (length bytes)) (WrongSize (length bytes) 32) (header_checks bytes ++ later) e in
    let header = passed-append (header_checks bytes) later size.1 in
    let room = passed (nat_le (32 + heads_in bytes) (length bytes)) (WrongSize (length bytes) (32 + heads_in bytes)) front header.1 in
    record { large = leb-true 32 (length bytes) size.0; header = header.0; room = leb-true (32 + heads_in bytes) (length bytes) room.0; front = room.1 }

-- the head, if the front shows no fault
head_there : (front : List ℕ) (size : ℕ) → AreBytes front → HasHeader front → first_fault (front_checks front size) ≡ None → (file : Opened) × IsFrontOf front size file
head_there front size fits header e =
    let heads = columns_checks (columns_in front) front [] 32 in
    let both = passed-append heads ((size == size_declared front, WrongSize size (size_declared front)) ∷ []) e in
    let same : size ≡ size_declared front = eqb-true size (size_declared front) (passed (size == size_declared front) (WrongSize size (size_declared front)) [] both.1).0 in
    let found = columns_there (columns_in front) front [] 32 fits (heads_start front (omega (arith, header.whole))) both.0 in
    let columns : AreColumns (columns_in front) front found.all = record { heads = found.heads; count_is = omega (arith, found.many); planes = found.planes_are ∙ zero-add (planes_in (columns_in front) front 32); passed = both.0 } in
    let head : Head = record { rows = rows_in front; columns = found.all; is_head = is_head front (rows_in front) found.all header columns refl } in
    let file : Opened = record { head = head; version = version_in front } in
    (file, is_front_of front size file fits header columns refl refl same)

is_file_head : (bytes : List ℕ) (file : Opened) → front_of bytes ≡ take (32 + heads_in bytes) bytes → length (front_of bytes) ≡ 32 + heads_in bytes → IsFrontOf (front_of bytes) (length bytes) file
    → (version : ℕ) × (head : Head) × IsFileHead bytes version head
is_file_head bytes file front long h = (
  file.version,
  file.head,
  record {
    opened = h.opened;
    same = ap (λ (n : ℕ). take n bytes) (sym h.long ∙ long) ∙ sym front ∙ h.same;
    size = h.size_is;
  },
)

-- the bytes begin with it
pub some_head : (bytes : List ℕ) → AreBytes bytes → file_fault bytes ≡ None → (version : ℕ) × (head : Head) × IsFileHead bytes version head
some_head bytes fits e =
    let p = parts bytes e in
    let front : front_of bytes ≡ take (32 + heads_in bytes) bytes = front_is bytes in
    let long : length (front_of bytes) ≡ 32 + heads_in bytes = omega (arith, ap length front, length-take (32 + heads_in bytes) bytes, p.room) in
    let small : AreBytes (front_of bytes) = rw front (take_bytes bytes (32 + heads_in bytes) fits) in
    let passed : first_fault (header_checks (front_of bytes)) ≡ None = ap (λ (xs : List ℕ). first_fault (header_checks xs)) front ∙ ap first_fault (header-take bytes (32 + heads_in bytes) (omega arith)) ∙ p.header in
    let heads : heads_in (front_of bytes) ≡ heads_in bytes = rw front (heads-take bytes (32 + heads_in bytes) (omega arith)) in
    let found = head_there (front_of bytes) (length bytes) small (record { passed = passed; whole = omega (arith, long, heads) }) p.front in
    is_file_head bytes found.0 front long found.1
