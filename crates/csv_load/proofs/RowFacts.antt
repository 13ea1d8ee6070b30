-- One more row: what its columns took are the states after it, and it is good.
use Rattle.std.proofs.Common.{◌≡◌, ℕ, suc, ◌+◌, ◌<◌, ◌≤◌, Bool, true, false, not, Some, List, [], ◌∷◌, ◌++◌, slice_get, get_or, length, map, refl, sym, ap, subst, inl, inr, ◌⊎◌, ◌∙◌, arith, length-append}
use Rattle.std.proofs.Math.Seq.{get_or-append_seam, take-append_seam}
use Rattle.std.proofs.lemmas.List.{append-nil, get_or_append_left, length-take-le, map-append, take-append-le}
use Rattle.std.proofs.lemmas.List.Elements.{filter-append}
use Rattle.std.proofs.lemmas.List.Sums.{fold-append}
use Rattle.std.proofs.lemmas.Option.{slice_get-get_or, slice_get_within, unwrap_or-slice_get}
use Rattle.std.specs.Option.{unwrap_or}
use Rattle.std.specs.BTreeSet.{insert_key}
use Rattle.std.specs.Cmp.Lexicographic.{slice_cmp}
use Rattle.std.specs.Ordering.{nat_cmp}
use Rattle.daq_table.specs.CellTexts.{cell_number}
use Rattle.daq_table.specs.declared.head.Kind.{Kind}
use Rattle.daq_table.specs.declared.head.Kind.TheVariants.{Int, Dec, Date, Text}
use Rattle.daq_table.specs.declared.schema_column.SchemaColumn.{SchemaColumn}
use Rattle.daq_table.specs.Dictionaries.{distinct}
use Rattle.csv_load.specs.Columns.{column_texts, dictionary, is_null, present}
use Rattle.csv_load.specs.Records.{Fields}
use Rattle.csv_load.specs.Rows.{AreGoodBefore, AreGoodRows, HasRoom, IsGoodCell, IsGoodRow}
use Rattle.csv_load.specs.States.{AreStates, HasRoomFor, Kept, State, Takes, TookBelow, kept_of, kept_with, names_with, state_of, state_with}
use Rattle.csv_load.specs.declared.limits.Limits.{Limits}

pub distinct_more : (texts : List (List ℕ)) (text : List ℕ) → insert_key (slice_cmp nat_cmp) (distinct texts) text ≡ distinct (texts ++ text ∷ [])
distinct_more texts text = sym (fold-append (insert_key (slice_cmp nat_cmp)) [] texts (text ∷ []))

pub dictionary_more : (kind : Kind) (texts : List (List ℕ)) (text : List ℕ) → names_with kind (dictionary kind texts) text ≡ dictionary kind (texts ++ text ∷ [])
dictionary_more Int texts text = refl
dictionary_more (Dec scale) texts text = refl
dictionary_more Date texts text = refl
dictionary_more Text texts text = distinct_more texts text

numbers_more : (kind : Kind) (texts : List (List ℕ)) (text : List ℕ) → map (cell_number kind) texts ++ cell_number kind text ∷ [] ≡ map (cell_number kind) (texts ++ text ∷ [])
numbers_more kind texts text = sym (map-append (cell_number kind) texts (text ∷ []))

kept_more : (kind : Kind) (texts : List (List ℕ)) (text : List ℕ) → kept_with (kept_of kind texts) text ≡ kept_of kind (texts ++ text ∷ [])
kept_more Int texts text = ap (λ ns. record { kind = Int; numbers = ns; texts = []; names = [] }) (numbers_more Int texts text)
kept_more (Dec scale) texts text = ap (λ ns. record { kind = Dec scale; numbers = ns; texts = []; names = [] }) (numbers_more (Dec scale) texts text)
kept_more Date texts text = ap (λ ns. record { kind = Date; numbers = ns; texts = []; names = [] }) (numbers_more Date texts text)
kept_more Text texts text = ap (λ ns. record { kind = Text; numbers = []; texts = texts ++ text ∷ []; names = ns }) (distinct_more texts text)

-- a text that is not null is one more value, and another is none
present_more : (nullable : Bool) (texts : List (List ℕ)) (text : List ℕ) → present nullable (texts ++ text ∷ []) ≡ present nullable texts ++ present nullable (text ∷ [])
present_more nullable texts text = filter-append (λ (t : List ℕ). not (is_null nullable t)) texts (text ∷ [])

marks_more : (texts : List (List ℕ)) (text : List ℕ) → map (is_null true) texts ++ is_null true text ∷ [] ≡ map (is_null true) (texts ++ text ∷ [])
marks_more texts text = sym (map-append (is_null true) texts (text ∷ []))

same_state : (nullable : Bool) (k l : Kept) (xs ys : List Bool) → k ≡ l → xs ≡ ys → ◌≡◌ {A = State} (record { nullable = nullable; kept = k; nulls = xs }) (record { nullable = nullable; kept = l; nulls = ys })
same_state nullable k l xs ys e f = λ i. record { nullable = nullable; kept = e i; nulls = f i }

pub state_more : (kind : Kind) (nullable : Bool) (texts : List (List ℕ)) (text : List ℕ) → state_with (state_of kind nullable texts) text ≡ state_of kind nullable (texts ++ text ∷ [])
state_more kind false texts text =
    same_state false _ _ _ _ (kept_more kind (present false texts) text ∙ ap (kept_of kind) (sym (present_more false texts text))) refl
state_more kind true texts [] =
    same_state true _ _ _ _ (ap (kept_of kind) (sym (present_more true texts [] ∙ append-nil (present true texts)))) (marks_more texts [])
state_more kind true texts (byte ∷ text) =
    same_state true _ _ _ _ (kept_more kind (present true texts) (byte ∷ text) ∙ ap (kept_of kind) (sym (present_more true texts (byte ∷ text)))) (marks_more texts (byte ∷ text))

texts_more : (c : ℕ) (rows : List Fields) (next : Fields) → column_texts c rows ++ get_or next c [] ∷ [] ≡ column_texts c (rows ++ next ∷ [])
texts_more c rows next = sym (map-append (λ (row : Fields). get_or row c []) rows (next ∷ []))

pub states_more : (columns : List SchemaColumn) (rows : List Fields) (limit : ℕ) (old new : List State) (next : Fields) → AreStates columns rows old → TookBelow limit old next new (length old)
    → AreStates columns (rows ++ next ∷ []) new
states_more columns rows limit old new next s t = record {
  wide = t.wide ∙ s.wide;
  each = λ c column d e.
      let within = slice_get_within columns c column e in
      t.took c d (omega (arith, within, s.wide)) ∙ ap (λ (x : State). state_with x (get_or next c [])) (s.each c column d e) ∙ state_more column.kind column.nullable (column_texts c rows) (get_or next c [])
      ∙ ap (state_of column.kind column.nullable) (texts_more c rows next);
}

pub cell_is_good : (limit : ℕ) (column : SchemaColumn) (texts : List (List ℕ)) (text : List ℕ) → Takes limit (state_of column.kind column.nullable texts) text → IsGoodCell column limit texts text
cell_is_good limit column texts text t = λ given.
    let v = t given in
    record { value = v.value; few = rw (← dictionary_more column.kind (present column.nullable texts) text) v.few }

pub cells_are_good : (columns : List SchemaColumn) (limits : Limits) (rows : List Fields) (old : List State) (next : Fields) (end : ℕ) → AreStates columns rows old
    → ((c : ℕ) (d : State) → c < end → Takes limits.names (get_or old c d) (get_or next c [])) → AreGoodBefore columns limits rows next end
cells_are_good columns limits rows old next end s t = λ c column lt e.
    let d = state_of column.kind column.nullable [] in
    cell_is_good limits.names column (column_texts c rows) (get_or next c []) (subst (λ (x : State). Takes limits.names x (get_or next c [])) (s.each c column d e) (t c d lt))

pub has_room : (columns : List SchemaColumn) (limits : Limits) (rows : List Fields) (n : ℕ) → n ≡ length columns → HasRoomFor limits (length rows) n → HasRoom columns limits rows
has_room columns limits rows n e h = record { row = h.row; cells = rw (← e) h.cells }

pub last_place : (r n : ℕ) → r < n + 1 → (r < n) ⊎ (r ≡ n)
last_place r n lt = grind arith

pub rows_more : (columns : List SchemaColumn) (limits : Limits) (rows : List Fields) (next : Fields) → AreGoodRows columns limits rows → IsGoodRow columns limits rows next → AreGoodRows columns limits (rows ++ next ∷ [])
rows_more columns limits rows next all one = λ r lt.
    elim (last_place r (length rows) (omega (arith, lt, length-append rows (next ∷ [])))) [
      | inl before ↦ let le : r ≤ length rows = omega arith in rw (take-append-le r rows (next ∷ []) le, get_or_append_left rows (next ∷ []) [] r before) (all r before)
      | inr here ↦ rw (here, take-append_seam rows (next ∷ []), get_or-append_seam rows next [] []) one
    ]

pub rows_bound : (columns : List SchemaColumn) (limits : Limits) (rows : List Fields) (n : ℕ) → AreGoodRows columns limits rows → length rows ≡ suc n → length rows ≤ limits.rows
rows_bound columns limits rows n all e =
    let last = (all n (omega (arith, e))).room.row in
    omega (arith, e, last, length-take-le n rows (omega (arith, e)))

-- one more column, before any row
pub states_push : (xs : List SchemaColumn) (x : SchemaColumn) (states : List State) → AreStates xs [] states → AreStates (xs ++ x ∷ []) [] (states ++ state_of x.kind x.nullable [] ∷ [])
states_push xs x states h = record {
  wide = omega (arith, h.wide, length-append xs (x ∷ []), length-append states (state_of x.kind x.nullable [] ∷ []));
  each = λ c column d e.
      let same : get_or (xs ++ x ∷ []) c column ≡ column = sym (unwrap_or-slice_get (xs ++ x ∷ []) c column) ∙ ap (λ o. unwrap_or o column) e in
      elim (last_place c (length xs) (omega (arith, slice_get_within (xs ++ x ∷ []) c column e, length-append xs (x ∷ [])))) [
        | inl before ↦
            let there : slice_get xs c ≡ Some column = slice_get-get_or xs c column before ∙ ap Some (sym (get_or_append_left xs (x ∷ []) column c before) ∙ same) in
            get_or_append_left states (state_of x.kind x.nullable [] ∷ []) d c (omega (arith, before, h.wide)) ∙ h.each c column d there
        | inr here ↦
            let last : x ≡ column = sym (ap (λ (n : ℕ). get_or (xs ++ x ∷ []) n column) here ∙ get_or-append_seam xs x [] column) ∙ same in
            ap (λ (n : ℕ). get_or (states ++ state_of x.kind x.nullable [] ∷ []) n d) (here ∙ sym h.wide) ∙ get_or-append_seam states (state_of x.kind x.nullable []) [] d ∙ ap (λ (s : SchemaColumn). state_of s.kind s.nullable []) last
      ];
}
