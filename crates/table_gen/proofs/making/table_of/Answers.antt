use Rattle.std.proofs.Common.{◌∙◌, ◌<◌, ℕ, List, All, map, vec_items, ap, subst, sym}
use Rattle.daq_table.specs.Tables.{AreMarks, IsTable, cells_from, ends_of}
use Rattle.daq_table.specs.declared.head.ColumnHead.{ColumnHead}
use Rattle.daq_table.specs.declared.table_head.Head.{Head}
use Rattle.table_gen.proofs.Columns.{codes_small, texts_are}
use Rattle.table_gen.proofs.Tables.{are_made, are_marks, is_head, is_table, made_table}
use Rattle.table_gen.proofs.making.table_of.Goals as goal

pub text_column-requires : goal.text_column-requires
text_column-requires c = subst (All (λ (code : ℕ). code < 16)) (sym (c.deref.ensures.value ∙ c.in_ok-drawn.ensures.codes)) (codes_small c.args.seed c.args.rows)

pub invariant_of-head : goal.invariant_of-head
invariant_of-head c =
    let texts = texts_are c.args.seed c.args.rows c.deref.result.now (c.deref.ensures.value ∙ c.in_ok-drawn.ensures.codes) in
    let made = are_made c.args.seed c.args.rows _ _ _ _ _ _ _ _ _ _ _ _ c.in_ok-a.ensures c.in_ok-b.ensures c.in_ok-d.ensures c.in_ok-g.ensures
    c.in_ok-drawn.ensures.a c.in_ok-drawn.ensures.b c.in_ok-drawn.ensures.d texts in
    record { is_head = rw (c.new.ensures, c.in_ok-from_array.ensures.items) (is_head c.args.seed c.args.rows _ _ _ _ _ _ _ _ made c.requires) }

pub new-requires-2-clause-is_table : goal.new-requires-2-clause-is_table
new-requires-2-clause-is_table c =
    let texts = texts_are c.args.seed c.args.rows c.deref.result.now (c.deref.ensures.value ∙ c.in_ok-drawn.ensures.codes) in
    let made = are_made c.args.seed c.args.rows _ _ _ _ _ _ _ _ _ _ _ _ c.in_ok-a.ensures c.in_ok-b.ensures c.in_ok-d.ensures c.in_ok-g.ensures
    c.in_ok-drawn.ensures.a c.in_ok-drawn.ensures.b c.in_ok-drawn.ensures.d texts in
    let heads = c.new.ensures ∙ c.in_ok-from_array.ensures.items in
    let cells = ap (map vec_items) c.in_ok-cells.ensures.items in
    let marks = c.in_ok-nulls.ensures in
    subst (λ (hs : List ColumnHead). IsTable (record { rows = c.args.rows; columns = map ends_of hs }) (cells_from (map vec_items c.in_ok-cells.cells.items) (map vec_items c.in_ok-nulls.nulls.items))) (sym heads)
    (rw (cells, marks) (is_table c.args.seed c.args.rows _ _ _ _ _ _ _ _ made))

pub new-requires-2-clause-are_marks : goal.new-requires-2-clause-are_marks
new-requires-2-clause-are_marks c =
    let texts = texts_are c.args.seed c.args.rows c.deref.result.now (c.deref.ensures.value ∙ c.in_ok-drawn.ensures.codes) in
    let made = are_made c.args.seed c.args.rows _ _ _ _ _ _ _ _ _ _ _ _ c.in_ok-a.ensures c.in_ok-b.ensures c.in_ok-d.ensures c.in_ok-g.ensures
    c.in_ok-drawn.ensures.a c.in_ok-drawn.ensures.b c.in_ok-drawn.ensures.d texts in
    let heads = c.new.ensures ∙ c.in_ok-from_array.ensures.items in
    subst (λ (hs : List ColumnHead). AreMarks (record { rows = c.args.rows; columns = map ends_of hs }) (map vec_items c.in_ok-cells.cells.items) (map vec_items c.in_ok-nulls.nulls.items)) (sym heads)
    (rw c.in_ok-nulls.ensures (are_marks c.args.seed c.args.rows _ _ _ _ _ _ _ _ (map vec_items c.in_ok-cells.cells.items) made))

pub returns : goal.returns
returns c =
    let texts = texts_are c.args.seed c.args.rows c.deref.result.now (c.deref.ensures.value ∙ c.in_ok-drawn.ensures.codes) in
    let made = are_made c.args.seed c.args.rows _ _ _ _ _ _ _ _ _ _ _ _ c.in_ok-a.ensures c.in_ok-b.ensures c.in_ok-d.ensures c.in_ok-g.ensures
    c.in_ok-drawn.ensures.a c.in_ok-drawn.ensures.b c.in_ok-drawn.ensures.d texts in
    made_table c.args.seed c.args.rows c.new-2.result _ _ _ _ _ _ _ _ made
    (ap (λ (h : Head). h.rows) c.new-2.ensures.head)
    (ap (λ (h : Head). h.columns) c.new-2.ensures.head ∙ c.new.ensures ∙ c.in_ok-from_array.ensures.items)
    (rw (ap (map vec_items) c.in_ok-cells.ensures.items, c.in_ok-nulls.ensures) at c.new-2.ensures.cells)
