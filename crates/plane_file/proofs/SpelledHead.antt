-- The head of a table, read from where it is spelled: its checks are passed.
use Rattle.std.proofs.Common.{◌≡◌, ℕ, zero, suc, ◌+◌, ◌*◌, ◌≤◌, ◌==◌, Bool, true, false, cond, not, ◌&&◌, ◌||◌, Some, None, List, [], ◌∷◌, ◌++◌, length, take, drop, refl, sym, ap, ◌∙◌, arith, append_assoc, length-append}
use Rattle.std.proofs.lemmas.Bool.{and_parts, eq-eqb, false≢true, le-leb, lt-ltb, ne_eqb}
use Rattle.std.proofs.lemmas.List.{length-drop}
use Rattle.std.proofs.lemmas.List.Folds.{list_any-append}
use Rattle.std.proofs.lemmas.List.Sums.{sum_by-cons}
use Rattle.std.proofs.lemmas.Map.Text.{is_eq-slice_cmp}
use Rattle.std.proofs.lemmas.Slice.Eq.{bytes_eq-Decides}
use Rattle.std.specs.Cmp.Lexicographic.{slice_cmp}
use Rattle.std.specs.Int.{w32, w64, to_le_bytes}
use Rattle.std.specs.List.{list_all, list_any}
use Rattle.std.specs.Ordering.{is_eq, nat_cmp}
use Rattle.std.specs.Prelude.{codes, slice_get}
use Rattle.std.specs.Str.{bytes_eq}
use Rattle.daq_table.specs.HeadFacts.{all_differ, fits_rows}
use Rattle.daq_table.specs.Tables.{ends_of, planes, width}
use Rattle.daq_table.specs.declared.head.ColumnHead.{ColumnHead}
use Rattle.daq_table.specs.declared.table_head.Head.{Head}
use Rattle.plane_file.proofs.BackBytes.{behind, number32_back, number64_back, part_back}
use Rattle.plane_file.proofs.Bounds.{short_heads}
use Rattle.plane_file.proofs.Bytewise.{fault_front, front_is, header-take, heads-take}
use Rattle.plane_file.proofs.Faults.{first_fault-append_none, passed-append}
use Rattle.plane_file.proofs.FieldFacts.{has_fields}
use Rattle.plane_file.proofs.HeaderFacts.{regroup}
use Rattle.plane_file.proofs.SpelledColumn.{Suits, stands}
use Rattle.plane_file.specs.Checks.{column_checks, column_end, columns_checks, columns_in, count_at, dictionary_at, fields_checks, first_fault, front_checks, front_of, header_checks, heads_in, is_new, names_checks, nullable_at, part_at, planes_in, rows_in, size_declared, title_at, titles_of, version_in, width_at}
use Rattle.plane_file.specs.Format.{CanBeSpelled, CanBeSpelledColumn, file_size, head_bytes, header_bytes, heads_bytes, plane_count, planes_at}
use Rattle.plane_file.specs.Fronts.{IsColumnAt}
use Rattle.plane_file.specs.Laws.{AreFaultless}
use Rattle.plane_file.specs.Opening.{IsFileHead, IsOpened}
use Rattle.plane_file.specs.declared.file_fault.FileFault.TheVariants.{WrongSize}

-- ---- the heads of columns

-- these columns stand from a place on, behind columns of these names, and nothing stands behind them
abbrev pub AreAt : List ColumnHead → List ℕ → List (List ℕ) → ℕ → Type 0
AreAt [] bytes titles at = at ≡ length bytes
AreAt (column ∷ columns) bytes titles at =
    IsColumnAt bytes titles at column (column_end bytes at) × AreAt columns bytes (titles ++ title_at bytes at ∷ []) (column_end bytes at)

apart : (a b : Bool) (rest : Bool) → not (a || (b || rest)) ≡ true → b ≡ false
apart true b rest h = absurd cc
apart false true rest h = absurd cc
apart false false rest h = refl

neither : (a b : Bool) → a ≡ false → not b ≡ true → not (a || b) ≡ true
neither true b h k = absurd cc
neither false b h k = k

-- of names that differ each is new behind those before it
is_new_name : (titles : List (List ℕ)) (name : List ℕ) (more : List (List ℕ)) → all_differ (titles ++ name ∷ more) ≡ true → is_new titles name ≡ true
is_new_name [] name more h = refl
is_new_name (first ∷ titles) name more h =
    let same = λ (other : List ℕ). is_eq (slice_cmp nat_cmp first other) in
    let parts = and_parts (not (list_any same (titles ++ name ∷ more))) (all_differ (titles ++ name ∷ more)) h in
    let other : not (list_any same titles || (same name || list_any same more)) ≡ true = ap not (sym (list_any-append same titles (name ∷ more))) ∙ parts.0 in
    let here : bytes_eq first name ≡ false = sym (is_eq-slice_cmp first name) ∙ apart (list_any same titles) (same name) (list_any same more) other in
    neither (bytes_eq first name) (list_any (λ t. bytes_eq t name) titles) here (is_new_name titles name more parts.1)

first_plain : (two a b : Bool) → (two || not (a || b)) ≡ true → (two || not a) ≡ true
first_plain true a b h = refl
first_plain false true b h = absurd cc
first_plain false false b h = refl

rest_plain : (two a b : Bool) → (two || not (a || b)) ≡ true → (two || not b) ≡ true
rest_plain true a b h = refl
rest_plain false true b h = absurd cc
rest_plain false false b h = h

-- what the file says of rows and version suits these columns, and their names are new and differ
record SuitAll (bytes : List ℕ) (titles : List (List ℕ)) (columns : List ColumnHead) : Type 0 where
  rows : list_all (λ (c : ColumnHead). fits_rows (rows_in bytes) c.kind c.nullable c.names) columns ≡ true
  version : (version_in bytes == 2 || not (list_any (λ (c : ColumnHead). c.nullable) columns)) ≡ true
  differ : all_differ (titles ++ titles_of columns) ≡ true

are_at : (columns : List ColumnHead) (bytes : List ℕ) (titles : List (List ℕ)) (at : ℕ) → ((c : ℕ) (column : ColumnHead) → slice_get columns c ≡ Some column → CanBeSpelledColumn column)
    → SuitAll bytes titles columns → at ≤ length bytes → drop at bytes ≡ heads_bytes columns → AreAt columns bytes titles at
are_at [] bytes titles at each suit le e = omega (arith, le, ap length e, length-drop at bytes)
are_at (column ∷ columns) bytes titles at each suit le e =
    let all = and_parts (fits_rows (rows_in bytes) column.kind column.nullable column.names) (list_all (λ (c : ColumnHead). fits_rows (rows_in bytes) c.kind c.nullable c.names) columns) suit.rows in
    let others = list_any (λ (c : ColumnHead). c.nullable) columns in
    let suits : Suits bytes titles column = record {
      rows = all.0;
      version = first_plain (version_in bytes == 2) column.nullable others suit.version;
      new = is_new_name titles column.name (titles_of columns) suit.differ;
    } in
    let here = stands bytes (heads_bytes columns) titles column at (each 0 column refl) suits e in
    let named : titles ++ column.name ∷ titles_of columns ≡ (titles ++ title_at bytes at ∷ []) ++ titles_of columns =
    sym (append_assoc titles (column.name ∷ []) (titles_of columns)) ∙ ap (λ (t : List ℕ). (titles ++ t ∷ []) ++ titles_of columns) here.is_at.name in
    let rest : SuitAll bytes (titles ++ title_at bytes at ∷ []) columns = record {
      rows = all.1;
      version = rest_plain (version_in bytes == 2) column.nullable others suit.version;
      differ = ap all_differ (sym named) ∙ suit.differ;
    } in
    (here.is_at, are_at columns bytes (titles ++ title_at bytes at ∷ []) (column_end bytes at) (λ c other h. each (suc c) other h) rest here.is_at.within here.next)

heads_pass : (columns : List ColumnHead) (bytes : List ℕ) (titles : List (List ℕ)) (at : ℕ) → AreAt columns bytes titles at → first_fault (columns_checks (length columns) bytes titles at) ≡ None
unfolding columns_checks
heads_pass [] bytes titles at e = rw (eq-eqb at (length bytes) e) refl
heads_pass (column ∷ columns) bytes titles at h =
    let others = titles ++ title_at bytes at ∷ [] in
    first_fault-append_none (column_checks bytes titles at) (columns_checks (length columns) bytes others (column_end bytes at)) h.0.passed ∙ heads_pass columns bytes others (column_end bytes at) h.1

column_planes_are : (column : ColumnHead) (bytes : List ℕ) (titles : List (List ℕ)) (at end : ℕ) → IsColumnAt bytes titles at column end → width_at bytes at + cond (nullable_at bytes at) 1 0 ≡ planes (ends_of column)
column_planes_are column bytes titles at end c =
    let checks = passed-append (fields_checks bytes titles at) (names_checks (count_at bytes at) bytes None (dictionary_at bytes at)) c.passed in
    let h = has_fields bytes titles at checks.0 in
    let wide : width (ends_of column) ≡ width_at bytes at = rw (c.base, c.top) (sym h.width) in
    rw (wide, c.nullable) refl

heads_planes : (columns : List ColumnHead) (bytes : List ℕ) (titles : List (List ℕ)) (at : ℕ) → AreAt columns bytes titles at → planes_in (length columns) bytes at ≡ plane_count columns
unfolding planes_in
heads_planes [] bytes titles at e = refl
heads_planes (column ∷ columns) bytes titles at h =
    let rest = heads_planes columns bytes (titles ++ title_at bytes at ∷ []) (column_end bytes at) h.1 in
    ap (λ (n : ℕ). n + planes_in (length columns) bytes (column_end bytes at)) (column_planes_are column bytes titles at (column_end bytes at) h.0)
    ∙ ap (λ (n : ℕ). planes (ends_of column) + n) rest ∙ sym (sum_by-cons (λ (c : ColumnHead). planes (ends_of c)) column columns)

-- ---- the header

-- what the first 32 bytes tell
pub record Tells (front : List ℕ) (version : ℕ) (head : Head) : Type 0 where
  pub magic : part_at front 0 8 ≡ codes "DAQPLANE"
  pub version_is : version_in front ≡ version
  pub columns : columns_in front ≡ length head.columns
  pub rows : rows_in front ≡ head.rows
  pub heads : heads_in front ≡ length (heads_bytes head.columns)
  pub behind_it : drop 32 front ≡ heads_bytes head.columns
  pub large : 32 ≤ length front

version_below : (version : ℕ) (plain : Bool) → (version == 2 || (version == 1 && plain)) ≡ true → version ≤ 2
version_below zero plain h = omega arith
version_below (suc zero) plain h = omega arith
version_below (suc (suc zero)) plain h = omega arith
version_below (suc (suc (suc n))) plain h = absurd (never plain h)
  where
    never : (plain : Bool) → (suc (suc (suc n)) == 2 || (suc (suc (suc n)) == 1 && plain)) ≡ true → ⊥
    never plain h = let a : (suc (suc (suc n)) == 2) ≡ false = ne_eqb (suc (suc (suc n))) 2 (λ e. absurd (omega (arith, e))) in
        let b : (suc (suc (suc n)) == 1) ≡ false = ne_eqb (suc (suc (suc n))) 1 (λ e. absurd (omega (arith, e))) in
        false≢true (rw (a, b) at h)

heads_few : (head : Head) → CanBeSpelled head → length (heads_bytes head.columns) ≤ 2147483648
heads_few head spelled = let short = short_heads head.columns spelled.each in let few = head.is_head.few_columns in omega (arith, short, few)

pub tells : (version : ℕ) (head : Head) → IsOpened head version → Tells (head_bytes version head) version head
tells version head opened =
    let front = head_bytes version head in
    let heads = heads_bytes head.columns in
    let last = to_le_bytes w64 (length heads) ++ heads in
    let rows = to_le_bytes w64 head.rows ++ last in
    let columns = to_le_bytes w32 (length head.columns) ++ rows in
    let number = to_le_bytes w32 version ++ columns in
    let all : drop 0 front ≡ codes "DAQPLANE" ++ number = regroup (codes "DAQPLANE") (to_le_bytes w32 version) (to_le_bytes w32 (length head.columns)) (to_le_bytes w64 head.rows) (to_le_bytes w64 (length heads)) heads in
    let b = behind front (codes "DAQPLANE") number 0 8 8 all refl refl in
    let c = behind front (to_le_bytes w32 version) columns 8 4 12 b refl refl in
    let d = behind front (to_le_bytes w32 (length head.columns)) rows 12 4 16 c refl refl in
    let f = behind front (to_le_bytes w64 head.rows) last 16 8 24 d refl refl in
    let g = behind front (to_le_bytes w64 (length heads)) heads 24 8 32 f refl refl in
    let is = head.is_head in
    let two = version_below version (not (list_any (λ (x : ColumnHead). x.nullable) head.columns)) opened.known in
    let few = heads_few head opened.spelled in
    record {
      magic = part_back front (codes "DAQPLANE") number 0 8 all refl;
      version_is = number32_back front columns 8 version (omega (arith, two)) b;
      columns = number32_back front rows 12 (length head.columns) (omega (arith, is.few_columns)) c;
      rows = number64_back front last 16 head.rows (omega (arith, is.few_rows)) d;
      heads = number64_back front heads 24 (length heads) (omega (arith, few)) f;
      behind_it = g;
      large = let long = length-append (header_bytes version head) heads in omega (arith, long);
    }

known_version : (version : ℕ) (plain : Bool) → (version == 2 || (version == 1 && plain)) ≡ true → (version == 1 || version == 2) ≡ true
known_version version plain h = either (version == 1) (version == 2) plain h
  where
    either : (one two plain : Bool) → (two || (one && plain)) ≡ true → (one || two) ≡ true
    either true two plain h = refl
    either false true plain h = refl
    either false false plain h = absurd cc

suits_version : (one two some : Bool) → (two || (one && not some)) ≡ true → (two || not some) ≡ true
suits_version one true some h = refl
suits_version true false some h = h
suits_version false false some h = absurd cc

pub header_passes : (version : ℕ) (head : Head) → IsOpened head version → first_fault (header_checks (head_bytes version head)) ≡ None
header_passes version head opened =
    let front = head_bytes version head in
    let t = tells version head opened in
    let is = head.is_head in
    let plain = not (list_any (λ (x : ColumnHead). x.nullable) head.columns) in
    let mark : bytes_eq (part_at front 0 8) (codes "DAQPLANE") ≡ true = (bytes_eq-Decides (part_at front 0 8) (codes "DAQPLANE")).1 t.magic in
    rw (mark, t.version_is, t.columns, t.rows, t.heads, known_version version plain opened.known, lt-ltb 0 (length head.columns) opened.spelled.some, le-leb (length head.columns) 64 is.few_columns, le-leb head.rows 16777216 is.few_rows, le-leb (head.rows * length head.columns) 134217728 opened.spelled.cells, le-leb (length (heads_bytes head.columns)) 2147483648 (heads_few head opened.spelled)) refl

-- the columns stand behind it
pub columns_at : (version : ℕ) (head : Head) → IsOpened head version → AreAt head.columns (head_bytes version head) [] 32
columns_at version head opened =
    let front = head_bytes version head in
    let t = tells version head opened in
    let some = list_any (λ (x : ColumnHead). x.nullable) head.columns in
    let suit : SuitAll front [] head.columns = record {
      rows = rw t.rows head.is_head.texts;
      version = rw t.version_is (suits_version (version == 1) (version == 2) some opened.known);
      differ = head.is_head.differ;
    } in
    are_at head.columns front [] 32 opened.spelled.each suit t.large t.behind_it

pub front_passes : (version : ℕ) (head : Head) (size : ℕ) → IsOpened head version → size ≡ file_size head → first_fault (front_checks (head_bytes version head) size) ≡ None
front_passes version head size opened e =
    let front = head_bytes version head in
    let t = tells version head opened in
    let at = columns_at version head opened in
    let checks : first_fault (columns_checks (columns_in front) front [] 32) ≡ None = rw t.columns (heads_pass head.columns front [] 32 at) in
    let long : length front ≡ planes_at head = length-append (header_bytes version head) (heads_bytes head.columns) in
    let count : planes_in (columns_in front) front 32 ≡ plane_count head.columns = rw t.columns (heads_planes head.columns front [] 32 at) in
    let same : size ≡ size_declared front = e ∙ rw (long, t.rows, count) refl in
    first_fault-append_none (columns_checks (columns_in front) front [] 32) ((size == size_declared front, WrongSize size (size_declared front)) ∷ []) checks ∙ rw (eq-eqb size (size_declared front) same) refl

-- ---- the file

-- what bytes that begin with a head say of the place behind it
pub record HasFrontOf (bytes : List ℕ) (version : ℕ) (head : Head) : Type 0 where
  pub large : 32 ≤ length bytes
  pub heads : heads_in bytes ≡ length (heads_bytes head.columns)
  pub front_is : front_of bytes ≡ head_bytes version head
  pub passed : first_fault (header_checks (take 32 bytes)) ≡ None

pub has_front : (bytes : List ℕ) (version : ℕ) (head : Head) → IsFileHead bytes version head → HasFrontOf bytes version head
has_front bytes version head h =
    let place = planes_at head in
    let t = tells version head h.opened in
    let heads : heads_in bytes ≡ length (heads_bytes head.columns) = sym (heads-take bytes place (omega arith)) ∙ ap heads_in h.same ∙ t.heads in
    let checks : header_checks bytes ≡ header_checks (head_bytes version head) = sym (header-take bytes place (omega arith)) ∙ ap header_checks h.same in
    record {
      large = omega (arith, h.size);
      heads = heads;
      front_is = front_is bytes ∙ ap (λ (n : ℕ). take (32 + n) bytes) heads ∙ h.same;
      passed = ap first_fault (header-take bytes 32 (omega arith) ∙ checks) ∙ header_passes version head h.opened;
    }

pub faultless : AreFaultless
faultless bytes version head h =
    let f = has_front bytes version head h in
    let same : heads_in (take 32 bytes) ≡ heads_in bytes = heads-take bytes 32 (omega arith) in
    fault_front bytes f.large f.passed (omega (arith, same, f.heads, h.size))
    ∙ ap (λ (front : List ℕ). first_fault (front_checks front (length bytes))) f.front_is ∙ front_passes version head (length bytes) h.opened h.size
