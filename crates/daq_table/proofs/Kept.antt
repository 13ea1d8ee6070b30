-- The columns among the items of a schema, and their places.
use Rattle.std.proofs.Common.{◌≡◌, ℕ, suc, ◌+◌, ◌<◌, ◌==◌, Bool, true, false, not, cond, ◌||◌, All, Option, Some, None, option_and_then, option_map, List, [], ◌∷◌, ◌++◌, length, take, get_or, codes, refl, sym, ap, ◌∙◌, arith, IsTrue}
use Rattle.std.proofs.lemmas.Bool.{and_parts, and_from}
use Rattle.std.proofs.lemmas.List.{length-take-le, take_more}
use Rattle.std.proofs.lemmas.List.Elements.{All-cons, All-nil, filter_map-append}
use Rattle.std.proofs.lemmas.Slice.Eq.{bytes_eq-Decides}
use Rattle.std.specs.Cmp.Lexicographic.{slice_cmp}
use Rattle.std.specs.List.{after_first, before_first, cons_option, list_any}
use Rattle.std.specs.Ordering.{is_eq, nat_cmp}
use Rattle.std.specs.Str.{bytes_eq}
use Rattle.daq_table.proofs.Repeats.{neither}
use Rattle.daq_table.specs.HeadFacts.{all_differ}
use Rattle.daq_table.specs.Schemas.{column_in, column_of, column_worded, columns_in, columns_of, declared_of, is_schema_name, item_names, item_of, kept_from, kept_places, names_of, skip_named}
use Rattle.daq_table.specs.declared.schema_column.SchemaColumn.{SchemaColumn}
use Rattle.daq_table.specs.declared.schema_item.SchemaItem.{SchemaItem}
use Rattle.daq_table.specs.declared.schema_item.SchemaItem.TheVariants.{Column, Skip}

-- ---- what items declare

-- the column that an item holds, if it is read and holds one
held_in : Option SchemaItem → Option SchemaColumn
held_in item = option_and_then column_in item

held_step : (item : Option SchemaItem) (items : List SchemaItem) → columns_in (cons_option item items) ≡ cons_option (held_in item) (columns_in items)
unfolding held_in
held_step None items = refl
held_step (Some item) items = refl

held_column : (column : Option SchemaColumn) → held_in (option_map Column column) ≡ column
unfolding held_in
held_column None = refl
held_column (Some column) = refl

held_skip : (good : Bool) (name : List ℕ) → held_in (cond good (Some (Skip name)) None) ≡ None
unfolding held_in
held_skip true name = refl
held_skip false name = refl

-- `skip` is the word of no kind
skip_alone : (name : List ℕ) → column_worded name (codes "skip") ≡ None
skip_alone name = refl

by_word : (is_skip : Bool) (name word : List ℕ) → bytes_eq word (codes "skip") ≡ is_skip → held_in (cond is_skip (skip_named name) (option_map Column (column_worded name word))) ≡ column_worded name word
unfolding held_in
by_word true name word e =
    let same : word ≡ codes "skip" = (bytes_eq-Decides word (codes "skip")).0 e in
    held_skip (is_schema_name name) name ∙ sym (ap (column_worded name) same ∙ skip_alone name)
by_word false name word e = held_column (column_worded name word)

held_item : (item : List ℕ) → held_in (item_of item) ≡ column_of item
held_item item =
    let word = after_first (λ c. c == 58) item in
    by_word (bytes_eq word (codes "skip")) (before_first (λ c. c == 58) item) word refl

-- the columns among what the items declare are those that they declare
pub columns_declared : (items : List (List ℕ)) → columns_in (declared_of items) ≡ columns_of items
columns_declared [] = refl
columns_declared (item ∷ items) =
    held_step (item_of item) (declared_of items) ∙ ap (λ (c : Option SchemaColumn). cons_option c (columns_in (declared_of items))) (held_item item)
    ∙ ap (cons_option (column_of item)) (columns_declared items)

-- ---- item by item

pub columns_more : (items : List SchemaItem) (k : ℕ) (item : SchemaItem) → k < length items → item ≡ get_or items k item → columns_in (take (k + 1) items) ≡ columns_in (take k items) ++ columns_in (item ∷ [])
columns_more items k item lt is =
    ap columns_in (take_more items k item lt ∙ ap (λ (x : SchemaItem). take k items ++ x ∷ []) (sym is)) ∙ filter_map-append column_in (take k items) (item ∷ [])

kept_append : (at : ℕ) (items others : List SchemaItem) → kept_from at (items ++ others) ≡ kept_from at items ++ kept_from (at + length items) others
kept_append at [] others = ap (λ (n : ℕ). kept_from n others) (omega arith)
kept_append at (Column column ∷ items) others =
    ap (λ (ns : List ℕ). at ∷ ns) (kept_append (suc at) items others ∙ ap (λ (n : ℕ). kept_from (suc at) items ++ kept_from n others) (omega arith))
kept_append at (Skip name ∷ items) others = kept_append (suc at) items others ∙ ap (λ (n : ℕ). kept_from (suc at) items ++ kept_from n others) (omega arith)

pub places_more : (items : List SchemaItem) (k : ℕ) (item : SchemaItem) → k < length items → item ≡ get_or items k item → kept_places (take (k + 1) items) ≡ kept_places (take k items) ++ kept_from k (item ∷ [])
places_more items k item lt is =
    let long : 0 + length (take k items) ≡ k = omega (arith, length-take-le k items (omega (arith, lt))) in
    ap kept_places (take_more items k item lt ∙ ap (λ (x : SchemaItem). take k items ++ x ∷ []) (sym is)) ∙ kept_append 0 (take k items) (item ∷ [])
    ∙ ap (λ (n : ℕ). kept_from 0 (take k items) ++ kept_from n (item ∷ [])) long

-- ---- places

pub places_count : (at : ℕ) (items : List SchemaItem) → length (kept_from at items) ≡ length (columns_in items)
places_count at [] = refl
places_count at (Column column ∷ items) = ap suc (places_count (suc at) items)
places_count at (Skip name ∷ items) = places_count (suc at) items

-- each place is one of an item
pub places_within : (at : ℕ) (items : List SchemaItem) → All (λ (p : ℕ). p < at + length items) (kept_from at items)
places_within at [] = All-nil (λ (p : ℕ). p < at + 0)
places_within at (Column column ∷ items) =
    All-cons (λ (p : ℕ). p < at + suc (length items)) at (kept_from (suc at) items) (omega arith) (λ k d lt. omega (arith, places_within (suc at) items k d lt))
places_within at (Skip name ∷ items) = λ k d lt. omega (arith, places_within (suc at) items k d lt)

-- ---- names

both_not : (a b : Bool) → not a ≡ true → not b ≡ true → not (a || b) ≡ true
both_not true b h k = absurd cc
both_not false b h k = k

none_kept : (p : List ℕ → Bool) (items : List SchemaItem) → not (list_any p (item_names items)) ≡ true → not (list_any p (names_of (columns_in items))) ≡ true
none_kept p [] h = refl
none_kept p (Column column ∷ items) h =
    let parts = neither (p column.name) (list_any p (item_names items)) h in
    both_not (p column.name) (list_any p (names_of (columns_in items))) parts.0 (none_kept p items parts.1)
none_kept p (Skip name ∷ items) h = none_kept p items (neither (p name) (list_any p (item_names items)) h).1

-- where all names differ, those of the columns do
pub names_differ : (items : List SchemaItem) → IsTrue (all_differ (item_names items)) → IsTrue (all_differ (names_of (columns_in items)))
names_differ [] h = refl
names_differ (Column column ∷ items) h =
    let same = λ (other : List ℕ). is_eq (slice_cmp nat_cmp column.name other) in
    let parts = and_parts (not (list_any same (item_names items))) (all_differ (item_names items)) h in
    and_from (not (list_any same (names_of (columns_in items)))) (all_differ (names_of (columns_in items))) (none_kept same items parts.0) (names_differ items parts.1)
names_differ (Skip name ∷ items) h =
    names_differ items (and_parts (not (list_any (λ other. is_eq (slice_cmp nat_cmp name other)) (item_names items))) (all_differ (item_names items)) h).1
