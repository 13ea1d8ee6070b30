-- The fields of a record by their places, and the first that differs from a name.
use Rattle.std.proofs.Common.{◌≡◌, ℕ, ◌+◌, ◌<◌, Bool, IsTrue, Some, None, List, [], ◌∷◌, ◌++◌, slice_get, get_or, length, take, sym, ap, ◌∙◌, arith}
use Rattle.std.proofs.lemmas.List.{get_or-map, length-map, take_more}
use Rattle.std.proofs.lemmas.Option.{slice_get-get_or, slice_get_past, slice_get_within, unwrap_or-slice_get}
use Rattle.std.proofs.lemmas.Slice.Eq.{bytes_eq-Decides}
use Rattle.std.specs.Option.{unwrap_or}
use Rattle.std.specs.Str.{bytes_eq}
use Rattle.daq_table.specs.Schemas.{item_name, item_names}
use Rattle.daq_table.specs.declared.schema_item.SchemaItem.{SchemaItem}
use Rattle.csv_load.specs.Faults.{IsFirstDifference}

pub has_some : (field text : List ℕ) (r : Bool) → r ≡ bytes_eq field text → (IsTrue r → Some field ≡ Some text) × (Some field ≡ Some text → IsTrue r)
has_some field text r e =
    let same = bytes_eq-Decides field text in
    (λ h. ap Some (same.0 (sym e ∙ h)), λ h. e ∙ same.1 (ap (λ o. unwrap_or o field) h))

-- what stands at a place, where something does
pub get_some : {X : Type 0} (xs : List X) (i : ℕ) (x : X) → slice_get xs i ≡ Some x → get_or xs i x ≡ x
get_some xs i x e = sym (unwrap_or-slice_get xs i x) ∙ ap (λ o. unwrap_or o x) e

pub same_more : (xs ys : List (List ℕ)) (i : ℕ) (y : List ℕ) → take i xs ≡ take i ys → slice_get xs i ≡ Some y → slice_get ys i ≡ Some y → take (i + 1) xs ≡ take (i + 1) ys
same_more xs ys i y e f g =
    take_more xs i y (slice_get_within xs i y f) ∙ (ap (λ z. take i xs ++ z ∷ []) (get_some xs i y f) ∙ ap (λ (zs : List (List ℕ)). zs ++ y ∷ []) e)
    ∙ sym (take_more ys i y (slice_get_within ys i y g) ∙ ap (λ z. take i ys ++ z ∷ []) (get_some ys i y g))

pub name_at : (items : List SchemaItem) (i : ℕ) (item : SchemaItem) → i < length items → item ≡ get_or items i item → slice_get (item_names items) i ≡ Some (item_name item)
name_at items i item lt e =
    slice_get-get_or (item_names items) i [] (omega (arith, lt, length-map items item_name)) ∙ ap Some (get_or-map item_name items i item [] lt ∙ ap item_name (sym e))

pub longer_differs : (header : List (List ℕ)) (items : List SchemaItem) → take (length items) header ≡ take (length items) (item_names items) → length items < length header
    → IsFirstDifference header (item_names items) (length items)
longer_differs header items e lt =
    let past = slice_get_past (item_names items) (length items) (omega (arith, length-map items item_name)) in
    let there = slice_get-get_or header (length items) [] lt in
    record { same = e; differ = λ h. let bad : Some (get_or header (length items) []) ≡ None = sym there ∙ h ∙ past in absurd cc }
