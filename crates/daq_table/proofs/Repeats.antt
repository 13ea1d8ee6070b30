-- The first name that repeats an earlier one.
use Rattle.std.proofs.Common.{◌≡◌, ℕ, ◌+◌, ◌<◌, Bool, true, false, not, ◌||◌, Some, None, position, List, [], ◌∷◌, ◌++◌, length, take, get_or, refl, sym, ap, ◌∙◌, arith, IsTrue}
use Rattle.std.proofs.lemmas.Bool.{and_parts, and_from}
use Rattle.std.proofs.lemmas.List.{get_or-map, get_or-take, length-map, length-take, map_more, take-map}
use Rattle.std.proofs.lemmas.List.Folds.{list_any-append, list_any_none}
use Rattle.std.proofs.lemmas.List.Quantifiers.{position-Some}
use Rattle.std.proofs.lemmas.List.Sums.{fails_before_first}
use Rattle.std.proofs.lemmas.Map.Text.{is_eq-slice_cmp}
use Rattle.std.proofs.lemmas.Option.{slice_get-get_or}
use Rattle.std.proofs.lemmas.Slice.Eq.{bytes_eq-Decides}
use Rattle.std.specs.Cmp.Lexicographic.{slice_cmp}
use Rattle.std.specs.List.{list_any}
use Rattle.std.specs.Ordering.{is_eq, nat_cmp}
use Rattle.std.specs.Str.{bytes_eq}
use Rattle.daq_table.proofs.Places.{no_place}
use Rattle.daq_table.specs.HeadFacts.{all_differ}
use Rattle.daq_table.specs.Schemas.{IsFirstRepeat, item_name, item_names}
use Rattle.daq_table.specs.declared.schema_item.SchemaItem.{SchemaItem}

pub neither : (a b : Bool) → not (a || b) ≡ true → (not a ≡ true) × (not b ≡ true)
neither true b h = absurd cc
neither false b h = (refl, h)

nor : (a b : Bool) → not a ≡ true → not b ≡ true → not (a || (b || false)) ≡ true
nor true b h k = absurd cc
nor false true h k = absurd cc
nor false false h k = refl

-- names that differ, and one more that none of them is
differ_push : (names : List (List ℕ)) (name : List ℕ) → IsTrue (all_differ names) → not (list_any (λ other. is_eq (slice_cmp nat_cmp other name)) names) ≡ true → IsTrue (all_differ (names ++ name ∷ []))
differ_push [] name h k = refl
differ_push (first ∷ names) name h k =
    let same = λ (other : List ℕ). is_eq (slice_cmp nat_cmp first other) in
    let parts = and_parts (not (list_any same names)) (all_differ names) h in
    let apart = neither (same name) (list_any (λ other. is_eq (slice_cmp nat_cmp other name)) names) k in
    and_from (not (list_any same (names ++ name ∷ []))) (all_differ (names ++ name ∷ []))
    (rw (list_any-append same names (name ∷ [])) (nor (list_any same names) (same name) parts.0 apart.0))
    (differ_push names name parts.1 apart.1)

-- where no item has the name, no name is it
none_is : (items : List SchemaItem) (name : List ℕ) (d : SchemaItem) → position (λ (c : SchemaItem). bytes_eq (item_name c) name) items ≡ None → not (list_any (λ other. is_eq (slice_cmp nat_cmp other name)) (item_names items)) ≡ true
none_is items name d e =
    let has = λ (c : SchemaItem). bytes_eq (item_name c) name in
    let end = no_place has items e in
    let none : list_any (λ other. is_eq (slice_cmp nat_cmp other name)) (item_names items) ≡ false =
    list_any_none _ (item_names items) (λ k x lt.
    let within : k < length items = omega (arith, length-map items item_name) in
    rw (get_or-map item_name items k d x within) (is_eq-slice_cmp (item_name (get_or items k d)) name ∙ fails_before_first has items k d (omega arith))) in
    ap not none

pub differ_more : (items : List SchemaItem) (second : ℕ) (item : SchemaItem) (name : List ℕ) → second < length items → item ≡ get_or items second item → name ≡ item_name item
    → position (λ (c : SchemaItem). bytes_eq (item_name c) name) (take second items) ≡ None → IsTrue (all_differ (item_names (take second items))) → IsTrue (all_differ (item_names (take (second + 1) items)))
differ_more items second item name lt e f h k =
    let longer = map_more item_name items second item lt in
    let same : item_name (get_or items second item) ≡ name = ap item_name (sym e) ∙ sym f in
    rw (longer, same) (differ_push (item_names (take second items)) name k (none_is (take second items) name item h))

pub repeat_found : (items : List SchemaItem) (first second : ℕ) (item : SchemaItem) (name : List ℕ) → second < length items → item ≡ get_or items second item → name ≡ item_name item
    → position (λ (c : SchemaItem). bytes_eq (item_name c) name) (take second items) ≡ Some first → IsTrue (all_differ (item_names (take second items))) → IsFirstRepeat (item_names items) first second
repeat_found items first second item name lt e f h k =
    let name_of = item_name in
    let found = position-Some _ (take second items) first item h in
    let earlier : first < second = omega (arith, length-take second items, found.0) in
    let known : first < length items = omega arith in
    let wide = length-map items name_of in
    let here : item_name (get_or items first item) ≡ item_name (get_or items second item) =
    ap name_of (sym (get_or-take second items first item earlier)) ∙ (bytes_eq-Decides (item_name (get_or (take second items) first item)) name).0 found.1 ∙ f ∙ ap name_of e in
    record {
      within = omega (arith, wide, lt);
      before = earlier;
      same = slice_get-get_or (item_names items) first [] (omega (arith, wide, known)) ∙ ap Some (get_or-map name_of items first item [] known ∙ here ∙ sym (get_or-map name_of items second item [] lt))
          ∙ sym (slice_get-get_or (item_names items) second [] (omega (arith, wide, lt)));
      differ = rw (take-map name_of second items) k;
    }
