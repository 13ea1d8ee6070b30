-- The text of a schema has one fault at most, and none where it declares columns and skipped fields.
use Rattle.std.proofs.Common.{◌≡◌, ◌≢◌, ℕ, zero, suc, ◌<◌, Bool, true, false, not, Some, None, List, [], ◌∷◌, length, take, get_or, slice_get, refl, sym, ap, subst, inl, inr, ◌⊎◌, ◌∙◌, arith, IsTrue}
use Rattle.std.proofs.lemmas.Bool.{and_parts}
use Rattle.std.proofs.lemmas.List.{get_or-take, length-take-le}
use Rattle.std.proofs.lemmas.List.Folds.{list_any_at}
use Rattle.std.proofs.lemmas.Map.Text.{is_eq-slice_cmp}
use Rattle.std.proofs.lemmas.Option.{same_Some, slice_get-get_or}
use Rattle.std.proofs.lemmas.Slice.Eq.{bytes_eq-Decides}
use Rattle.std.specs.Cmp.Lexicographic.{slice_cmp}
use Rattle.std.specs.List.{list_any}
use Rattle.std.specs.Ordering.{is_eq, nat_cmp}
use Rattle.daq_table.proofs.Items.{length-declared}
use Rattle.daq_table.specs.HeadFacts.{all_differ}
use Rattle.daq_table.specs.SchemaFaults.{Refuses}
use Rattle.daq_table.specs.SchemaLaws.{HasOneFault, IsFaultless}
use Rattle.daq_table.specs.Schemas.{DeclaresItems, IsFirstRepeat, bad_place, columns_in, declared_of, item_names, items_of}
use Rattle.daq_table.specs.declared.schema_item.SchemaItem.{SchemaItem}
use Rattle.daq_table.specs.declared.schema_fault.SchemaFault.{SchemaFault}
use Rattle.daq_table.specs.declared.schema_fault.SchemaFault.TheVariants.{BadItem, TooMany, TooManyItems, NoColumn, RepeatedName, NoMemory}

pub not_both : (b : Bool) → not b ≡ true → b ≡ true → ⊥
not_both true h k = absurd cc
not_both false h k = absurd cc

-- of names that differ no two are one
pub differ_apart : (names : List (List ℕ)) → IsTrue (all_differ names) → (i j : ℕ) → i < j → j < length names → get_or names i [] ≡ get_or names j [] → ⊥
differ_apart [] h i j lt within e = omega (arith, within)
differ_apart (name ∷ names) h i zero lt within e = omega (arith, lt)
differ_apart (name ∷ names) h zero (suc j) lt within e =
    let same = λ (other : List ℕ). is_eq (slice_cmp nat_cmp name other) in
    let here : is_eq (slice_cmp nat_cmp name (get_or names j [])) ≡ true = is_eq-slice_cmp name (get_or names j []) ∙ (bytes_eq-Decides name (get_or names j [])).1 e in
    not_both (list_any same names) (and_parts (not (list_any same names)) (all_differ names) h).0 (list_any_at same names j [] (omega (arith, within)) here)
differ_apart (name ∷ names) h (suc i) (suc j) lt within e =
    differ_apart names (and_parts (not (list_any (λ other. is_eq (slice_cmp nat_cmp name other)) names)) (all_differ names) h).1 i j (omega (arith, lt)) (omega (arith, within)) e

same_names : (names : List (List ℕ)) (i j : ℕ) → i < length names → j < length names → slice_get names i ≡ slice_get names j → get_or names i [] ≡ get_or names j []
same_names names i j lt lu e = same_Some (get_or names i []) (get_or names j []) (sym (slice_get-get_or names i [] lt) ∙ e ∙ slice_get-get_or names j [] lu)

-- names that differ repeat none
none_repeats : (names : List (List ℕ)) (i j : ℕ) → IsTrue (all_differ names) → i < j → j < length names → slice_get names i ≡ slice_get names j → ⊥
none_repeats names i j h lt within e = differ_apart names h i j lt within (same_names names i j (omega arith) within e)

-- nor do those before a place
none_before : (names : List (List ℕ)) (place i j : ℕ) → IsTrue (all_differ (take place names)) → place < length names → i < j → j < place → slice_get names i ≡ slice_get names j → ⊥
none_before names place i j h within lt lu e =
    let wide = length-take-le place names (omega arith) in
    differ_apart (take place names) h i j lt (omega (arith, wide))
    (get_or-take place names i [] (omega arith) ∙ same_names names i j (omega arith) (omega arith) e ∙ sym (get_or-take place names j [] lu))

order : (a b : ℕ) → (a < b) ⊎ ((a ≡ b) ⊎ (b < a))
order a b = grind arith

same_second : (names : List (List ℕ)) (f s g t : ℕ) → IsFirstRepeat names f s → IsFirstRepeat names g t → s ≡ t
same_second names f s g t h k =
    elim (order s t) [
      | inl lt ↦ absurd (none_before names t f s k.differ k.within h.before lt h.same)
      | inr other ↦ elim other [ inl same ↦ same | inr gt ↦ absurd (none_before names s g t h.differ h.within k.before gt k.same) ]
    ]

same_first : (names : List (List ℕ)) (f g s : ℕ) → IsFirstRepeat names f s → IsFirstRepeat names g s → f ≡ g
same_first names f g s h k =
    elim (order f g) [
      | inl lt ↦ absurd (none_before names s f g h.differ h.within lt k.before (h.same ∙ sym k.same))
      | inr other ↦ elim other [ inl same ↦ same | inr gt ↦ absurd (none_before names s g f h.differ h.within gt h.before (k.same ∙ sym h.same)) ]
    ]

one_repeat : (names : List (List ℕ)) (f s g t : ℕ) → IsFirstRepeat names f s → IsFirstRepeat names g t → RepeatedName f s ≡ RepeatedName g t
one_repeat names f s g t h k =
    let second = same_second names f s g t h k in
    let first = same_first names f g s h (subst (λ (n : ℕ). IsFirstRepeat names g n) (sym second) k) in
    rw (first, second) refl

good_bad : (text : List ℕ) (at : ℕ) → bad_place 0 (items_of text) ≡ None → bad_place 0 (items_of text) ≡ Some at → ⊥
good_bad text at h k = absurd cc

pub one_fault : HasOneFault
one_fault text NoMemory other some known h k = absurd (some refl)
one_fault text one NoMemory some known h k = absurd (known refl)
one_fault text (BadItem a) (BadItem b) some known h k = ap BadItem (same_Some a b (sym h ∙ k))
one_fault text (BadItem a) (TooMany m) some known h k = absurd (good_bad text a k.good h)
one_fault text (BadItem a) (TooManyItems m) some known h k = absurd (good_bad text a k.good h)
one_fault text (BadItem a) NoColumn some known h k = absurd (good_bad text a k.good h)
one_fault text (BadItem a) (RepeatedName g t) some known h k = absurd (good_bad text a k.good h)
one_fault text (TooMany n) (BadItem b) some known h k = absurd (good_bad text b h.good k)
one_fault text (TooMany n) (TooMany m) some known h k = ap TooMany (h.count_is ∙ sym k.count_is)
one_fault text (TooMany n) (TooManyItems m) some known h k = absurd (omega (arith, h.count_is, h.many, k.few))
one_fault text (TooMany n) NoColumn some known h k = absurd (omega (arith, h.count_is, h.many, k.none))
one_fault text (TooMany n) (RepeatedName g t) some known h k = absurd (omega (arith, h.count_is, h.many, k.few))
one_fault text (TooManyItems n) (BadItem b) some known h k = absurd (good_bad text b h.good k)
one_fault text (TooManyItems n) (TooMany m) some known h k = absurd (omega (arith, k.count_is, k.many, h.few))
one_fault text (TooManyItems n) (TooManyItems m) some known h k = ap TooManyItems (h.count_is ∙ sym k.count_is)
one_fault text (TooManyItems n) NoColumn some known h k = absurd (omega (arith, h.count_is, h.many, k.wide))
one_fault text (TooManyItems n) (RepeatedName g t) some known h k = absurd (omega (arith, h.count_is, h.many, k.wide))
one_fault text NoColumn (BadItem b) some known h k = absurd (good_bad text b h.good k)
one_fault text NoColumn (TooMany m) some known h k = absurd (omega (arith, k.count_is, k.many, h.none))
one_fault text NoColumn (TooManyItems m) some known h k = absurd (omega (arith, k.count_is, k.many, h.wide))
one_fault text NoColumn NoColumn some known h k = refl
one_fault text NoColumn (RepeatedName g t) some known h k = absurd (omega (arith, h.none, k.some))
one_fault text (RepeatedName f s) (BadItem b) some known h k = absurd (good_bad text b h.good k)
one_fault text (RepeatedName f s) (TooMany m) some known h k = absurd (omega (arith, k.count_is, k.many, h.few))
one_fault text (RepeatedName f s) (TooManyItems m) some known h k = absurd (omega (arith, k.count_is, k.many, h.wide))
one_fault text (RepeatedName f s) NoColumn some known h k = absurd (omega (arith, k.none, h.some))
one_fault text (RepeatedName f s) (RepeatedName g t) some known h k = one_repeat (item_names (declared_of (items_of text))) f s g t h.repeat k.repeat

no_fault : (text : List ℕ) (items : List SchemaItem) (fault : SchemaFault) → DeclaresItems text items → fault ≢ NoMemory → Refuses text fault → ⊥
no_fault text items (BadItem a) d some h = good_bad text a d.all.good h
no_fault text items (TooMany n) d some h = omega (arith, d.few, ap (λ (is : List SchemaItem). length (columns_in is)) d.all.items_are, h.count_is, h.many)
no_fault text items (TooManyItems n) d some h = omega (arith, d.wide, ap length d.all.items_are, length-declared 0 (items_of text) d.all.good, h.count_is, h.many)
no_fault text items NoColumn d some h = omega (arith, d.some, ap (λ (is : List SchemaItem). length (columns_in is)) d.all.items_are, h.none)
no_fault text items (RepeatedName f s) d some h =
    let differ = subst (λ (is : List SchemaItem). IsTrue (all_differ (item_names is))) d.all.items_are d.differ in
    none_repeats (item_names (declared_of (items_of text))) f s differ h.repeat.before h.repeat.within h.repeat.same
no_fault text items NoMemory d some h = some refl

pub faultless : IsFaultless
faultless text items fault some d h = no_fault text items fault d some h
