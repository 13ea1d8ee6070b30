use Rattle.std.proofs.Common.{◌≡◌, ◌<◌, ◌∙◌, ◌∷◌, [], Bool, ℕ, List, length, map, vec_items, get_or, sym, ap, subst, arith, Vec, Global}
use Rattle.std.proofs.lemmas.List.{get_or-set_other, length-set, map-append}
use Rattle.daq_table.specs.Tables.{AreMarks, Cells, IsTable, cells_from, ends_of}
use Rattle.daq_table.specs.declared.head.ColumnHead.{ColumnHead}
use Rattle.daq_table.specs.declared.schema_column.SchemaColumn.{SchemaColumn}
use Rattle.daq_table.specs.declared.table_head.Head.{Head}
use Rattle.csv_load.specs.States.{AreFinished, AreStored, IsFinished, State, emptied}
use Rattle.csv_load.proofs.TableFacts.{all_emptied, are_marks, are_stored, emptied_more, finished_push, is_head, is_table}
use Rattle.csv_load.proofs.building.table_of.Goals as goal

pub loop-place-preserved : goal.loop-place-preserved
loop-place-preserved c =
    let view = λ (k : Vec ℕ Global). k.items in
    let marked = λ (k : Vec Bool Global). k.items in
    let name = c.new-name.ensures ∙ c.in_ok-from_slice.ensures.items ∙ c.as_slice.ensures.bytes in
    let finished : IsFinished c.index-columns-place.result c.declared-item.result.name c.in_ok-head.head c.in_ok-head.cells.items c.in_ok-head.nulls.items =
    subst (λ (n : List ℕ). IsFinished c.index-columns-place.result n c.in_ok-head.head c.in_ok-head.cells.items c.in_ok-head.nulls.items) name
    (subst (λ (t : State). IsFinished t c.new-name.result c.in_ok-head.head c.in_ok-head.cells.items c.in_ok-head.nulls.items) (sym c.index-columns-place.is) c.in_ok-head.ensures.column) in
    let declared : c.declared-item.result ≡ get_or c.args.schema.now.columns c.loop-place.place c.declared-item.result =
    c.declared-item.is ∙ ap (λ (xs : List SchemaColumn). get_or xs c.loop-place.place c.declared-item.result) c.as_slice-declared-items.ensures in
    let there = c.index-columns-place.is ∙ c.loop-place.invariant.left c.loop-place.place c.index-columns-place.result (omega arith) in
    let within : c.loop-place.place < length c.args.columns.now = omega (arith, c.loop-place-test.true, ap length c.as_slice-declared-items.ensures, c.requires.wide) in
    let more = finished_push c.args.schema.now.columns c.args.columns.now c.loop-place.place c.loop-place.heads.items (map view c.loop-place.lists.items) (map marked c.loop-place.marks.items) c.declared-item.result
    c.index-columns-place.result c.in_ok-head.head c.in_ok-head.cells.items c.in_ok-head.nulls.items c.loop-place.invariant.done within declared there finished in
    record {
      done = rw (
        c.in_ok-push.ensures.items,
        c.in_ok-push-2.ensures.items,
        c.in_ok-push-3.ensures.items,
        map-append view c.loop-place.lists.items (c.in_ok-head.cells ∷ []),
        map-append marked c.loop-place.marks.items (c.in_ok-head.nulls ∷ []),
      ) more;
      wide = length-set c.loop-place.columns c.loop-place.place c.finish.new.self ∙ c.loop-place.invariant.wide;
      empty = emptied_more c.args.columns.now c.loop-place.columns c.loop-place.place c.index-columns-place.result c.finish.new.self within c.loop-place.invariant.wide there (c.finish.ensures.left ∙ ap emptied (sym c.index-columns-place.is)) c.loop-place.invariant.empty;
      left = λ k d le. get_or-set_other c.loop-place.columns c.loop-place.place k c.finish.new.self d (λ e. absurd (omega (arith, le, e))) ∙ c.loop-place.invariant.left k d (omega (arith, le));
    }

pub invariant_of-head : goal.invariant_of-head
invariant_of-head c =
    let end : c.loop-place.place ≡ length c.args.schema.now.columns = omega (arith, c.loop-place-test.false, c.loop-place.auto.place-end, ap length c.as_slice-declared-items.ensures) in
    let lists = map vec_items c.loop-place.lists.items in
    let marks = map vec_items c.loop-place.marks.items in
    let done = subst (λ (n : ℕ). AreFinished c.args.schema.now.columns c.args.columns.now n c.loop-place.heads.items lists marks) end c.loop-place.invariant.done in
    record {
      is_head = rw c.new.ensures (is_head c.args.schema.now.columns c.args.columns.now c.loop-place.heads.items lists marks c.args.rows done c.requires.complete c.requires.wide c.requires.few c.args.schema.now.few c.args.schema.now.differ);
    }

pub new-requires-2-clause-is_table : goal.new-requires-2-clause-is_table
new-requires-2-clause-is_table c =
    let end : c.loop-place.place ≡ length c.args.schema.now.columns = omega (arith, c.loop-place-test.false, c.loop-place.auto.place-end, ap length c.as_slice-declared-items.ensures) in
    let lists = map vec_items c.loop-place.lists.items in
    let marks = map vec_items c.loop-place.marks.items in
    let done = subst (λ (n : ℕ). AreFinished c.args.schema.now.columns c.args.columns.now n c.loop-place.heads.items lists marks) end c.loop-place.invariant.done in
    subst (λ (hs : List ColumnHead). IsTable (record { rows = c.args.rows; columns = map ends_of hs }) (cells_from lists marks)) (sym c.new.ensures)
    (is_table c.args.schema.now.columns c.args.columns.now c.loop-place.heads.items lists marks c.args.rows done c.requires.complete c.requires.wide)

pub new-requires-2-clause-are_marks : goal.new-requires-2-clause-are_marks
new-requires-2-clause-are_marks c =
    let end : c.loop-place.place ≡ length c.args.schema.now.columns = omega (arith, c.loop-place-test.false, c.loop-place.auto.place-end, ap length c.as_slice-declared-items.ensures) in
    let lists = map vec_items c.loop-place.lists.items in
    let marks = map vec_items c.loop-place.marks.items in
    let done = subst (λ (n : ℕ). AreFinished c.args.schema.now.columns c.args.columns.now n c.loop-place.heads.items lists marks) end c.loop-place.invariant.done in
    subst (λ (hs : List ColumnHead). AreMarks (record { rows = c.args.rows; columns = map ends_of hs }) lists marks) (sym c.new.ensures)
    (are_marks c.args.schema.now.columns c.args.columns.now c.loop-place.heads.items lists marks c.args.rows done c.requires.complete c.requires.wide)

pub returns-clause-columns : goal.returns-clause-columns
returns-clause-columns c =
    let end : c.loop-place.place ≡ length c.args.columns.now = omega (arith, c.loop-place-test.false, c.loop-place.auto.place-end, ap length c.as_slice-declared-items.ensures, c.requires.wide) in
    let lists = map vec_items c.loop-place.lists.items in
    let marks = map vec_items c.loop-place.marks.items in
    let done = subst (λ (n : ℕ). AreFinished c.args.schema.now.columns c.args.columns.now n c.loop-place.heads.items lists marks) end c.loop-place.invariant.done in
    let heads = ap (λ (h : Head). h.columns) c.new-2.ensures.head ∙ c.new.ensures in
    subst (λ (hs : List ColumnHead). AreStored c.args.schema.now.columns c.args.columns.now hs c.new-2.result.cells) (sym heads)
    (subst (λ (cells : Cells). AreStored c.args.schema.now.columns c.args.columns.now c.loop-place.heads.items cells) (sym c.new-2.ensures.cells)
    (are_stored c.args.schema.now.columns c.args.columns.now c.loop-place.heads.items lists marks done))

pub returns-clause-left : goal.returns-clause-left
returns-clause-left c = all_emptied c.args.columns.now c.loop-place.columns c.loop-place.invariant.wide (λ k d lt. c.loop-place.invariant.empty k d (omega (arith, lt, c.loop-place-test.false, c.loop-place.auto.place-end, ap length c.as_slice-declared-items.ensures, c.requires.wide)))
