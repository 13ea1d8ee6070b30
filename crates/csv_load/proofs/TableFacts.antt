-- Finished columns are the columns of a table, and are left without cells.
use Rattle.std.proofs.Common.{◌≡◌, ℕ, ◌+◌, ◌<◌, ◌≤◌, ℤ, ◌≤ℤ◌, Bool, true, false, if◌then◌else◌, IsTrue, All, Option, Some, None, List, [], ◌∷◌, ◌++◌, slice_get, length, map, set, get_or, refl, sym, ap, subst, inl, inr, ◌∙◌, arith, length-append}
use Rattle.std.proofs.Math.Seq.{get_or-append_seam}
use Rattle.std.proofs.lemmas.List.{get_or-map, get_or-set_other, get_or-set_same, get_or_append_left, get_or_read, length-map, same_lists}
use Rattle.std.proofs.lemmas.List.Elements.{All-cons, All-head, All-map, All-nil, All-tail}
use Rattle.std.proofs.lemmas.List.Sums.{list_all-from_AllPass}
use Rattle.std.proofs.lemmas.Option.{get_or_from_slice_get, slice_get-get_or, slice_get_cases, slice_get_within}
use Rattle.daq_table.specs.HeadFacts.{IsHead, all_differ, fits_rows}
use Rattle.daq_table.specs.Schemas.{names_of}
use Rattle.daq_table.proofs.TableCells.{column_there, length-cells_from}
use Rattle.daq_table.specs.Tables.{AreMarks, Cell, IsCell, IsTable, cells_from, column_from, ends_of, no_ends, value_of}
use Rattle.daq_table.specs.declared.head.ColumnHead.{ColumnHead}
use Rattle.daq_table.specs.declared.head.Ends.{Ends}
use Rattle.daq_table.specs.declared.head.Kind.{Kind}
use Rattle.daq_table.specs.declared.head.Kind.TheVariants.{Int, Dec, Date, Text}
use Rattle.daq_table.specs.declared.schema_column.SchemaColumn.{SchemaColumn}
use Rattle.daq_table.proofs.Extremes.{greatest_above, within_top}
use Rattle.daq_table.specs.Extremes.{greatest}
use Rattle.csv_load.specs.States.{AreComplete, AreFinished, AreStored, IsComplete, IsFinished, IsStored, State, emptied, laid, numbers_in, state_of, values_in}
use Rattle.csv_load.proofs.RowFacts.{last_place}

-- what stands at a place of a list, and of that list with one more behind it
stands : {X : Type 0} (xs : List X) (c : ℕ) (x d : X) → slice_get xs c ≡ Some x → get_or xs c d ≡ x
stands xs c x d e = get_or_from_slice_get xs c x d e

kept : {X : Type 0} (xs : List X) (y x : X) (c : ℕ) → c < length xs → slice_get (xs ++ y ∷ []) c ≡ Some x → slice_get xs c ≡ Some x
kept xs y x c lt e = slice_get-get_or xs c x lt ∙ ap Some (sym (get_or_append_left xs (y ∷ []) x c lt) ∙ stands (xs ++ y ∷ []) c x x e)

last_is : {X : Type 0} (xs : List X) (y d : X) (c : ℕ) → c ≡ length xs → get_or (xs ++ y ∷ []) c d ≡ y
last_is xs y d c at = ap (λ (n : ℕ). get_or (xs ++ y ∷ []) n d) at ∙ get_or-append_seam xs y [] d

last : {X : Type 0} (xs : List X) (y x : X) (c : ℕ) → c ≡ length xs → slice_get (xs ++ y ∷ []) c ≡ Some x → y ≡ x
last xs y x c at e = sym (last_is xs y x c at) ∙ stands (xs ++ y ∷ []) c x x e

pub finished_push : (columns : List SchemaColumn) (states : List State) (end : ℕ) (heads : List ColumnHead) (lists : List (List ℕ)) (marks : List (List Bool)) (column : SchemaColumn) (s : State) (head : ColumnHead) (numbers : List ℕ)
    (nulls : List Bool) → AreFinished columns states end heads lists marks → end < length states → column ≡ get_or columns end column → s ≡ get_or states end s → IsFinished s column.name head numbers nulls
    → AreFinished columns states (end + 1) (heads ++ head ∷ []) (lists ++ numbers ∷ []) (marks ++ nulls ∷ [])
finished_push columns states end heads lists marks column s head numbers nulls h lt is was f = record {
  heads_count = omega (arith, h.heads_count, length-append heads (head ∷ []));
  lists_count = omega (arith, h.lists_count, length-append lists (numbers ∷ []));
  marks_count = omega (arith, h.marks_count, length-append marks (nulls ∷ []));
  each = λ c col d hd e g.
      elim (last_place c end (omega (arith, h.heads_count, slice_get_within (heads ++ head ∷ []) c hd g, length-append heads (head ∷ [])))) [
        | inl before ↦
            let listed = get_or_append_left lists (numbers ∷ []) [] c (omega (arith, h.lists_count, before)) in
            let marked = get_or_append_left marks (nulls ∷ []) [] c (omega (arith, h.marks_count, before)) in
            rw (listed, marked) (h.each c col d hd e (kept heads head hd c (omega (arith, h.heads_count, before)) g))
        | inr here ↦
            let same_head : head ≡ hd = last heads head hd c (here ∙ sym h.heads_count) g in
            let listed = last_is lists numbers [] c (here ∙ sym h.lists_count) in
            let marked = last_is marks nulls [] c (here ∙ sym h.marks_count) in
            let same_column : column ≡ col = is ∙ ap (λ (n : ℕ). get_or columns n column) (sym here) ∙ stands columns c col column e in
            let same_state : s ≡ get_or states c d = get_or_read states end s lt was d ∙ ap (λ (n : ℕ). get_or states n d) (sym here) in
            rw (listed, marked) (subst (λ (x : State). IsFinished x col.name hd numbers nulls) same_state (subst (λ (x : SchemaColumn). IsFinished s x.name hd numbers nulls) same_column
            (subst (λ (x : ColumnHead). IsFinished s column.name x numbers nulls) same_head f)))
      ];
}

-- one more column is emptied
pub emptied_more : (old now : List State) (end : ℕ) (s left : State) → end < length old → length now ≡ length old → s ≡ get_or old end s → left ≡ emptied s
    → ((c : ℕ) (d : State) → c < end → get_or now c d ≡ emptied (get_or old c d)) → (c : ℕ) (d : State) → c < end + 1 → get_or (set now end left) c d ≡ emptied (get_or old c d)
emptied_more old now end s left lt wide was is before c d le =
    elim (last_place c end le) [
      | inl below ↦ get_or-set_other now end c left d (λ e. absurd (omega (arith, below, e))) ∙ before c d below
      | inr here ↦ rw here (get_or-set_same now end left d (omega (arith, lt, wide)) ∙ is ∙ ap emptied (get_or_read old end s lt was d))
    ]

pub all_emptied : (old now : List State) → length now ≡ length old → ((c : ℕ) (d : State) → c < length old → get_or now c d ≡ emptied (get_or old c d)) → now ≡ map emptied old
all_emptied old now wide each = same_lists now (map emptied old) (wide ∙ sym (length-map old emptied)) (λ c d lt.
    let within : c < length old = omega (arith, lt, wide) in
    each c d within ∙ sym (get_or-map emptied old c d d within))

-- finished columns are stored as the cells of their numbers and marks
pub are_stored : (columns : List SchemaColumn) (states : List State) (heads : List ColumnHead) (lists : List (List ℕ)) (marks : List (List Bool)) → AreFinished columns states (length states) heads lists marks
    → AreStored columns states heads (cells_from lists marks)
are_stored columns states heads lists marks h = record {
  heads_count = h.heads_count;
  cells_count = length-cells_from lists marks ∙ h.lists_count;
  each = λ c column d head e g. subst (IsStored (get_or states c d) column.name head) (sym (column_there lists marks c)) (h.each c column d head e g).stored;
}

no_state : State
no_state = state_of Int false []

-- the column at a place of the heads
pub record AtPlace (columns : List SchemaColumn) (states : List State) (heads : List ColumnHead) (lists : List (List ℕ)) (marks : List (List Bool)) (c : ℕ) (d : State) : Type 0 where
  pub column : SchemaColumn
  pub head : ColumnHead
  pub column_is : slice_get columns c ≡ Some column
  pub head_is : slice_get heads c ≡ Some head
  pub finished : IsFinished (get_or states c d) column.name head (get_or lists c []) (get_or marks c [])

pub there : {X : Type 0} (xs : List X) (c : ℕ) → c < length xs → (x : X) × (slice_get xs c ≡ Some x)
there xs c lt = elim (slice_get_cases xs c).1 [ inl inside ↦ (inside.0, inside.2) | inr past ↦ absurd (omega (arith, lt, past.0)) ]

pub at_place : (columns : List SchemaColumn) (states : List State) (heads : List ColumnHead) (lists : List (List ℕ)) (marks : List (List Bool)) (c : ℕ) (d : State) → AreFinished columns states (length columns) heads lists marks
    → c < length columns → AtPlace columns states heads lists marks c d
at_place columns states heads lists marks c d h lt =
    let column = there columns c lt in
    let head = there heads c (omega (arith, lt, h.heads_count)) in
    record { column = column.0; head = head.0; column_is = column.1; head_is = head.1; finished = h.each c column.0 d head.0 column.1 head.1 }

-- null may stand in a nullable column, and a number up to the top in each
abbrev Allowed : Ends → Option ℤ → Type 0
Allowed ends None = IsTrue ends.nullable
Allowed ends (Some z) = z ≤ℤ ends.top

is_cell : (ends : Ends) (cell : Cell) → Allowed ends (value_of ends cell) → IsCell ends cell
is_cell ends None h = h
is_cell ends (Some u) h = within_top ends.base ends.top u h

laid_allowed : (ends : Ends) (nulls : List Bool) (zs : List ℤ) → IsTrue ends.nullable → All (λ (z : ℤ). z ≤ℤ ends.top) zs → All (Allowed ends) (laid nulls zs)
laid_allowed ends [] zs e all = All-nil (Allowed ends)
laid_allowed ends (true ∷ nulls) zs e all = All-cons (Allowed ends) None (laid nulls zs) e (laid_allowed ends nulls zs e all)
laid_allowed ends (false ∷ nulls) [] e all = All-nil (Allowed ends)
laid_allowed ends (false ∷ nulls) (z ∷ zs) e all =
    All-cons (Allowed ends) (Some z) (laid nulls zs) (All-head (λ (z : ℤ). z ≤ℤ ends.top) z zs all) (laid_allowed ends nulls zs e (All-tail (λ (z : ℤ). z ≤ℤ ends.top) z zs all))

values_allowed : (ends : Ends) (nullable : Bool) (nulls : List Bool) (zs : List ℤ) → ends.nullable ≡ nullable → ends.top ≡ greatest zs → All (Allowed ends) (if nullable then laid nulls zs else map Some zs)
values_allowed ends true nulls zs e top = laid_allowed ends nulls zs e (rw top (greatest_above zs))
values_allowed ends false nulls zs e top = All-map (Allowed ends) Some zs (rw top (greatest_above zs))

cells_long : (s : State) (name : List ℕ) (head : ColumnHead) (cells : List Cell) → IsStored s name head cells → length cells ≡ length (values_in s)
cells_long s name head cells f = sym (length-map cells (value_of (ends_of head))) ∙ ap length f.cells_are

cell_fits : (s : State) (name : List ℕ) (head : ColumnHead) (cells : List Cell) (r : ℕ) → IsStored s name head cells → r < length cells → IsCell (ends_of head) (get_or cells r (Some 0))
cell_fits s name head cells r f lt =
    let value = value_of (ends_of head) in
    let here : value (get_or cells r (Some 0)) ≡ get_or (values_in s) r None = sym (get_or-map value cells r (Some 0) None lt) ∙ ap (λ vs. get_or vs r None) f.cells_are in
    let all : All (Allowed (ends_of head)) (values_in s) = values_allowed (ends_of head) s.nullable s.nulls (numbers_in s.kept) f.nullable f.top in
    is_cell (ends_of head) (get_or cells r (Some 0)) (subst (Allowed (ends_of head)) (sym here) (all r None (omega (arith, lt, cells_long s name head cells f))))

ends_there : (heads : List ColumnHead) (c : ℕ) (head : ColumnHead) → slice_get heads c ≡ Some head → get_or (map ends_of heads) c no_ends ≡ ends_of head
ends_there heads c head e = get_or-map ends_of heads c head no_ends (slice_get_within heads c head e) ∙ ap ends_of (stands heads c head head e)

pub is_table : (columns : List SchemaColumn) (states : List State) (heads : List ColumnHead) (lists : List (List ℕ)) (marks : List (List Bool)) (rows : ℕ) → AreFinished columns states (length columns) heads lists marks → AreComplete rows states
    → length states ≡ length columns → IsTable (record { rows = rows; columns = map ends_of heads }) (cells_from lists marks)
is_table columns states heads lists marks rows h done wide = record {
  columns = omega (arith, length-cells_from lists marks, h.lists_count, h.heads_count, length-map heads ends_of);
  rows = λ c lt. long c (within c lt);
  within = λ c r lt below.
      let p = at_place columns states heads lists marks c no_state h (within c lt) in
      let cells = column_from (get_or lists c []) (get_or marks c []) in
      let fits : IsCell (ends_of p.head) (get_or cells r (Some 0)) = cell_fits (get_or states c no_state) p.column.name p.head cells r p.finished.stored (omega (arith, below, long c (within c lt), ap length (column_there lists marks c))) in
      rw (ends_there heads c p.head p.head_is, column_there lists marks c) fits;
}
  where
    within : (c : ℕ) → c < length (map ends_of heads) → c < length columns
    within c lt = omega (arith, lt, length-map heads ends_of, h.heads_count)

    long : (c : ℕ) → c < length columns → length (get_or (cells_from lists marks) c []) ≡ rows
    long c lt =
        let p = at_place columns states heads lists marks c no_state h lt in
        ap length (column_there lists marks c) ∙ cells_long (get_or states c no_state) p.column.name p.head (column_from (get_or lists c []) (get_or marks c [])) p.finished.stored ∙ done.count c no_state (omega (arith, lt, wide))

pub are_marks : (columns : List SchemaColumn) (states : List State) (heads : List ColumnHead) (lists : List (List ℕ)) (marks : List (List Bool)) (rows : ℕ) → AreFinished columns states (length columns) heads lists marks → AreComplete rows states
    → length states ≡ length columns → AreMarks (record { rows = rows; columns = map ends_of heads }) lists marks
are_marks columns states heads lists marks rows h done wide = record {
  columns = omega (arith, h.marks_count, h.heads_count, length-map heads ends_of);
  rows = λ c lt.
      let p = at_place columns states heads lists marks c no_state h (within c lt) in
      rw (ends_there heads c p.head p.head_is, p.finished.nulls_are, p.finished.stored.nullable) (done.marks c no_state (omega (arith, within c lt, wide)));
  zero = λ c r lt mark.
      let p = at_place columns states heads lists marks c no_state h (within c lt) in
      p.finished.zero r mark;
}
  where
    within : (c : ℕ) → c < length (map ends_of heads) → c < length columns
    within c lt = omega (arith, lt, length-map heads ends_of, h.heads_count)

-- a column of texts without names has no cells, or may have nulls
texts_fit : (rows : ℕ) (kind : Kind) (nullable : Bool) (numbers : List ℤ) (texts names : List (List ℕ)) (nulls : List Bool) → IsComplete (record { kind = kind; numbers = numbers; texts = texts; names = names })
    → length (values_in (record { nullable = nullable; kept = record { kind = kind; numbers = numbers; texts = texts; names = names }; nulls = nulls })) ≡ rows → IsTrue (fits_rows rows kind nullable names)
texts_fit rows Int nullable numbers texts names nulls h e = refl
texts_fit rows (Dec scale) nullable numbers texts names nulls h e = refl
texts_fit rows Date nullable numbers texts names nulls h e = refl
texts_fit rows Text nullable numbers texts (name ∷ names) nulls h e = refl
texts_fit rows Text true numbers texts [] nulls h e = refl
texts_fit rows Text false numbers [] [] nulls h e = rw (← e) refl
texts_fit rows Text false numbers (text ∷ texts) [] nulls h e = absurd (let bad : false ≡ true = h.known 0 text (omega arith) in cc)

names_same : (columns : List SchemaColumn) (states : List State) (heads : List ColumnHead) (lists : List (List ℕ)) (marks : List (List Bool)) → AreFinished columns states (length columns) heads lists marks → map (λ (h : ColumnHead). h.name) heads ≡ names_of columns
names_same columns states heads lists marks h =
    let head_name = λ (x : ColumnHead). x.name in
    let column_name = λ (x : SchemaColumn). x.name in
    same_lists (map head_name heads) (names_of columns) (length-map heads head_name ∙ h.heads_count ∙ sym (length-map columns column_name)) (λ k d lt.
    let inside : k < length columns = omega (arith, lt, length-map heads head_name, h.heads_count) in
    let p = at_place columns states heads lists marks k no_state h inside in
    get_or-map head_name heads k p.head d (slice_get_within heads k p.head p.head_is) ∙ ap head_name (stands heads k p.head p.head p.head_is) ∙ p.finished.stored.name_is
    ∙ sym (get_or-map column_name columns k p.column d inside ∙ ap column_name (stands columns k p.column p.column p.column_is)))

pub is_head : (columns : List SchemaColumn) (states : List State) (heads : List ColumnHead) (lists : List (List ℕ)) (marks : List (List Bool)) (rows : ℕ) → AreFinished columns states (length columns) heads lists marks → AreComplete rows states
    → length states ≡ length columns → rows ≤ 16777216 → length columns ≤ 64 → IsTrue (all_differ (names_of columns)) → IsHead rows heads
is_head columns states heads lists marks rows h done wide few short differ = record {
  few_rows = few;
  few_columns = omega (arith, short, h.heads_count);
  differ = rw (names_same columns states heads lists marks h) differ;
  texts = list_all-from_AllPass (λ (c : ColumnHead). fits_rows rows c.kind c.nullable c.names) heads (λ k d lt.
      let inside : k < length columns = omega (arith, lt, h.heads_count) in
      let p = at_place columns states heads lists marks k no_state h inside in
      let s = get_or states k no_state in
      let at : k < length states = omega (arith, inside, wide) in
      let fit = texts_fit rows s.kept.kind s.nullable s.kept.numbers s.kept.texts s.kept.names s.nulls (done.whole k no_state at).complete (done.count k no_state at) in
      rw (stands heads k p.head d p.head_is, p.finished.stored.kind, p.finished.stored.nullable, p.finished.stored.names) fit);
}
