-- Bytes begin with one head at most, and are the file of one table.
use Rattle.std.proofs.Common.{◌≡◌, ℕ, List, [], ◌∷◌, ◌++◌, length, take, refl, sym, ap, subst, ◌∙◌, arith, length-append}
use Rattle.std.proofs.lemmas.List.{take_at}
use Rattle.daq_table.specs.Tables.{Contents, IsTable, frame_of}
use Rattle.daq_table.specs.declared.head.ColumnHead.{ColumnHead}
use Rattle.daq_table.specs.declared.table_head.Head.{Head}
use Rattle.daq_table.proofs.SameTables.{same_column, same_contents, same_head}
use Rattle.plane_file.proofs.Lengths.{length-file}
use Rattle.plane_file.proofs.OneTable.{files_tell_cells}
use Rattle.plane_file.proofs.SpelledHead.{AreAt, columns_at, has_front, tells}
use Rattle.plane_file.specs.Checks.{column_end, columns_in, rows_in, title_at, version_in}
use Rattle.plane_file.specs.Format.{IsFileOf, file, head_bytes, header_bytes, heads_bytes, planes_at, planes_bytes}
use Rattle.plane_file.specs.Fronts.{IsColumnAt}
use Rattle.plane_file.specs.Laws.{HaveOneHead, TablesAreOne}
use Rattle.plane_file.specs.Opening.{IsFileHead}

-- one column stands at a place
one_column : (bytes : List ℕ) (titles : List (List ℕ)) (at end end' : ℕ) (x y : ColumnHead) → IsColumnAt bytes titles at x end → IsColumnAt bytes titles at y end' → x ≡ y
one_column bytes titles at end end' x y p q = same_column x y (p.name ∙ sym q.name) (p.kind ∙ sym q.kind) (p.nullable ∙ sym q.nullable) (p.base ∙ sym q.base) (p.top ∙ sym q.top) (p.names ∙ sym q.names)

one_list : (xs ys : List ColumnHead) (bytes : List ℕ) (titles : List (List ℕ)) (at : ℕ) → length xs ≡ length ys → AreAt xs bytes titles at → AreAt ys bytes titles at → xs ≡ ys
one_list [] [] bytes titles at long p q = refl
one_list [] (y ∷ ys) bytes titles at long p q = absurd (omega (arith, long))
one_list (x ∷ xs) [] bytes titles at long p q = absurd (omega (arith, long))
one_list (x ∷ xs) (y ∷ ys) bytes titles at long p q =
    let first = one_column bytes titles at (column_end bytes at) (column_end bytes at) x y p.0 q.0 in
    let rest = one_list xs ys bytes (titles ++ title_at bytes at ∷ []) (column_end bytes at) (omega (arith, long)) p.1 q.1 in
    ap (λ (c : ColumnHead). c ∷ xs) first ∙ ap (λ (cs : List ColumnHead). y ∷ cs) rest

pub one_head : HaveOneHead
one_head bytes version other one another h k =
    let same : head_bytes version one ≡ head_bytes other another = sym (has_front bytes version one h).front_is ∙ (has_front bytes other another k).front_is in
    let t = tells version one h.opened in
    let u = tells other another k.opened in
    let there : AreAt another.columns (head_bytes version one) [] 32 = subst (λ (front : List ℕ). AreAt another.columns front [] 32) (sym same) (columns_at other another k.opened) in
    let columns = one_list one.columns another.columns (head_bytes version one) [] 32 (sym t.columns ∙ ap columns_in same ∙ u.columns) (columns_at version one h.opened) there in
    (sym t.version_is ∙ ap version_in same ∙ u.version_is, same_head one another (sym t.rows ∙ ap rows_in same ∙ u.rows) columns)

-- the file of a table begins with its head
pub file_head : (bytes : List ℕ) (version : ℕ) (table : Contents) → IsFileOf bytes version table → IsFileHead bytes version table.head
file_head bytes version table h =
    let long : length (head_bytes version table.head) ≡ planes_at table.head = length-append (header_bytes version table.head) (heads_bytes table.head.columns) in
    record {
      opened = record { spelled = h.spelled; known = h.known };
      same = ap (take (planes_at table.head)) h.same ∙ take_at (head_bytes version table.head) (planes_bytes table) (planes_at table.head) long;
      size = ap length h.same ∙ length-file version table h.is_table;
    }

pub one_table : TablesAreOne
one_table bytes version other one another h k =
    let heads = one_head bytes version other one.head another.head (file_head bytes version one h) (file_head bytes other another k) in
    let is : IsTable (frame_of one.head) another.cells = subst (λ (head : Head). IsTable (frame_of head) another.cells) (sym heads.1) k.is_table in
    let same : file version one ≡ file other (record { head = one.head; cells = another.cells }) =
    sym h.same ∙ k.same ∙ ap (λ (head : Head). file other (record { head = head; cells = another.cells })) (sym heads.1) in
    (heads.0, same_contents one another heads.1 (files_tell_cells version other one.head one.cells another.cells h.is_table is same))
