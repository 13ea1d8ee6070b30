-- A text stands for one table at most.
use Rattle.std.proofs.Common.{◌≡◌, ℕ, ◌<◌, List, [], ◌∷◌, get_or, length, sym, ap, subst, ◌∙◌, arith}
use Rattle.std.proofs.lemmas.List.{same_lists}
use Rattle.std.proofs.lemmas.Option.{get_or_from_slice_get, slice_get-get_or}
use Rattle.csv.specs.Reading.{default_config}
use Rattle.csv.specs.declared.parser.State.TheVariants as st
use Rattle.daq_table.specs.Schemas.{columns_in, item_names}
use Rattle.daq_table.specs.Tables.{Cells, Contents, ends_of}
use Rattle.daq_table.specs.declared.head.ColumnHead.{ColumnHead}
use Rattle.daq_table.specs.declared.schema_item.SchemaItem.{SchemaItem}
use Rattle.daq_table.proofs.SameTables.{same_cells, same_column, same_contents, same_head}
use Rattle.csv_load.specs.Columns.{column_texts, values_of}
use Rattle.csv_load.specs.Kept.{kept_rows}
use Rattle.csv_load.specs.Laws.{StandsOnce}
use Rattle.csv_load.specs.Records.{AreRecordsOf, Fields, without_marks}
use Rattle.csv_load.specs.TableOf.{IsColumnOf, IsTableOf}
use Rattle.csv_load.specs.declared.limits.Limits.{Limits}
use Rattle.csv_load.proofs.OneFault.{agree, ended}
use Rattle.csv_load.proofs.TableFacts.{there}

same_records : (bytes : List ℕ) (us vs : List Fields) → AreRecordsOf bytes us → AreRecordsOf bytes vs → us ≡ vs
same_records bytes us vs h g =
    let cfg = default_config in
    let few = ended cfg st.StartRecord (without_marks bytes) us vs h.0 g.0 h.1 g.1 h.2 h.3 g.2 in
    let many = ended cfg st.StartRecord (without_marks bytes) vs us g.0 h.0 g.1 h.1 g.2 g.3 h.2 in
    same_lists us vs (omega (arith, few, many)) (λ k d lt. agree cfg st.StartRecord (without_marks bytes) us vs h.0 g.0 h.1 g.1 h.2 g.2 k d lt (omega (arith, lt, few, many)))

same_rows : (bytes : List ℕ) (names : Fields) (us vs : List Fields) → AreRecordsOf bytes (names ∷ us) → AreRecordsOf bytes (names ∷ vs) → us ≡ vs
same_rows bytes names us vs h g = let all : names ∷ us ≡ names ∷ vs = same_records bytes (names ∷ us) (names ∷ vs) h g in cc

-- what stands at a place of both
pub record SameAt (heads others : List ColumnHead) (lists lists' : Cells) (c : ℕ) : Type 0 where
  pub head : (d : ColumnHead) → get_or heads c d ≡ get_or others c d
  pub cells : get_or lists c [] ≡ get_or lists' c []

same_at : (bytes : List ℕ) (items : List SchemaItem) (limits : Limits) (a b : Contents) (one : IsTableOf bytes items limits a) (other : IsTableOf bytes items limits b) → one.rows ≡ other.rows → (c : ℕ) → c < length (columns_in items)
    → SameAt a.head.columns b.head.columns a.cells b.cells c
same_at bytes items limits a b one other rows c lt =
    let column = there (columns_in items) c lt in
    let h = there a.head.columns c (omega (arith, lt, one.heads)) in
    let k = there b.head.columns c (omega (arith, lt, other.heads)) in
    let us = get_or a.cells c [] in
    let vs = get_or b.cells c [] in
    let p = one.each c column.0 h.0 us column.1 h.1 (slice_get-get_or a.cells c [] (omega (arith, lt, one.lists))) in
    let q = subst (λ (rs : List Fields). IsColumnOf column.0 (column_texts c (kept_rows items rs)) k.0 vs) (sym rows) (other.each c column.0 k.0 vs column.1 k.1 (slice_get-get_or b.cells c [] (omega (arith, lt, other.lists)))) in
    let heads = same_column h.0 k.0 (p.name ∙ sym q.name) (p.kind ∙ sym q.kind) (p.nullable ∙ sym q.nullable) (p.base ∙ sym q.base) (p.top ∙ sym q.top) (p.names ∙ sym q.names) in
    record {
      head = λ d. get_or_from_slice_get a.head.columns c h.0 d h.1 ∙ heads ∙ sym (get_or_from_slice_get b.head.columns c k.0 d k.1);
      cells = same_cells (ends_of h.0) (ends_of k.0) us vs (values_of column.0.nullable column.0.kind (column_texts c (kept_rows items one.rows))) (p.base ∙ sym q.base) p.cells_are q.cells_are;
    }

pub stands_once : StandsOnce
stands_once bytes items limits a b one other =
    let rows = same_rows bytes (item_names items) one.rows other.rows one.records other.records in
    let at = same_at bytes items limits a b one other rows in
    let heads : a.head.columns ≡ b.head.columns = same_lists a.head.columns b.head.columns (one.heads ∙ sym other.heads) (λ k d lt. (at k (omega (arith, lt, one.heads))).head d) in
    let cells : a.cells ≡ b.cells = same_lists a.cells b.cells (one.lists ∙ sym other.lists) (λ k d lt.
    let inside : k < length (columns_in items) = omega (arith, lt, one.lists) in
    let below : k < length b.cells = omega (arith, inside, other.lists) in
    get_or_from_slice_get a.cells k (get_or a.cells k []) d (slice_get-get_or a.cells k [] lt) ∙ (at k inside).cells
    ∙ sym (get_or_from_slice_get b.cells k (get_or b.cells k []) d (slice_get-get_or b.cells k [] below))) in
    same_contents a b (same_head a.head b.head (one.count ∙ ap length rows ∙ sym other.count) heads) cells
