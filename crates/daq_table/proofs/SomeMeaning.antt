-- The text of a schema declares items and skipped fields, or has a fault.
use Rattle.std.proofs.Common.{◌≡◌, ◌≢◌, ℕ, zero, suc, ◌+◌, ◌<◌, ◌≤◌, Option, Some, None, position, List, [], length, take, get_or, refl, subst, inl, inr, ◌⊎◌, arith, IsTrue}
use Rattle.std.proofs.lemmas.Bool.{cases_lt}
use Rattle.std.proofs.lemmas.List.{get_or_default, take_all}
use Rattle.std.specs.Str.{bytes_eq}
use Rattle.daq_table.proofs.Items.{length-declared}
use Rattle.daq_table.proofs.Repeats.{differ_more, repeat_found}
use Rattle.daq_table.specs.HeadFacts.{all_differ}
use Rattle.daq_table.specs.SchemaFaults.{Refuses, kept_of}
use Rattle.daq_table.specs.SchemaLaws.{HasMeaning}
use Rattle.daq_table.specs.Schemas.{DeclaresItems, IsFirstRepeat, bad_place, declared_of, item_name, item_names, items_of}
use Rattle.daq_table.specs.declared.schema_item.SchemaItem.{SchemaItem}
use Rattle.daq_table.specs.declared.schema_item.SchemaItem.TheVariants.{Skip}
use Rattle.daq_table.specs.declared.schema_fault.SchemaFault.{SchemaFault}
use Rattle.daq_table.specs.declared.schema_fault.SchemaFault.TheVariants.{BadItem, TooMany, TooManyItems, NoColumn, RepeatedName, NoMemory}

-- the names differ, or one is the first that repeats another
Parts : List SchemaItem → Type 0
Parts items = IsTrue (all_differ (item_names items)) ⊎ ((first : ℕ) × (second : ℕ) × IsFirstRepeat (item_names items) first second)

module _ (items : List SchemaItem) where
  item_at : ℕ → SchemaItem
  item_at place = get_or items place (Skip [])

  there : (place : ℕ) → place < length items → item_at place ≡ get_or items place (item_at place)
  unfolding item_at
  there place lt = get_or_default items place (Skip []) (item_at place) lt

  -- by the items that are left, where the names before them differ
  seek : (left second : ℕ) → left + second ≡ length items → IsTrue (all_differ (item_names (take second items))) → Parts items
  unfolding Parts
  seek zero second e h = inl (subst (λ (cs : List SchemaItem). IsTrue (all_differ (item_names cs))) (take_all second items (omega (arith, e))) h)
  seek (suc left) second e h =
      let lt : second < length items = omega (arith, e) in
      go lt (λ none. seek left (second + 1) (omega (arith, e)) (differ_more items second (item_at second) (item_name (item_at second)) lt (there second lt) refl none h)) (position (λ (c : SchemaItem). bytes_eq (item_name c) (item_name (item_at second))) (take second items)) refl
    where
      go : second < length items → (position (λ (c : SchemaItem). bytes_eq (item_name c) (item_name (item_at second))) (take second items) ≡ None → Parts items)
          → (o : Option ℕ) → position (λ (c : SchemaItem). bytes_eq (item_name c) (item_name (item_at second))) (take second items) ≡ o → Parts items
      go lt further None none = further none
      go lt further (Some first) found = inr (first, second, repeat_found items first second (item_at second) (item_name (item_at second)) lt (there second lt) refl found h)

  parts : Parts items
  parts = seek (length items) 0 (omega arith) refl

Means : List ℕ → Type 0
Means text = ((items : List SchemaItem) × DeclaresItems text items) ⊎ ((fault : SchemaFault) × (fault ≢ NoMemory) × Refuses text fault)

module _ (text : List ℕ) (good : bad_place 0 (items_of text) ≡ None) where
  of_parts : length (kept_of text) ≤ 64 → length (items_of text) ≤ 1024 → 1 ≤ length (kept_of text) → Parts (declared_of (items_of text)) → Means text
  unfolding Parts Means
  of_parts few wide some (inl differ) =
      inl (declared_of (items_of text), record { all = record { good = good; items_are = refl }; few = few; wide = omega (arith, wide, length-declared 0 (items_of text) good); some = some; differ = differ })
  of_parts few wide some (inr r) = inr (RepeatedName r.0 r.1, (λ e. absurd cc), record { good = good; few = few; wide = wide; some = some; repeat = r.2 })

  of_some : length (kept_of text) ≤ 64 → length (items_of text) ≤ 1024 → (n : ℕ) → length (kept_of text) ≡ n → Means text
  unfolding Means
  of_some few wide zero none = inr (NoColumn, (λ e. absurd cc), record { good = good; wide = wide; none = none })
  of_some few wide (suc n) e = of_parts few wide (omega (arith, e)) (parts (declared_of (items_of text)))

  of_few : length (kept_of text) ≤ 64 → Means text
  unfolding Means
  of_few few = elim (cases_lt 1024 (length (items_of text))) [
    | inl many ↦ inr (TooManyItems (length (items_of text)), (λ e. absurd cc), record { good = good; few = few; count_is = refl; many = many })
    | inr wide ↦ of_some few wide (length (kept_of text)) refl
  ]

  of_good : Means text
  unfolding Means
  of_good = elim (cases_lt 64 (length (kept_of text))) [
    | inl many ↦ inr (TooMany (length (kept_of text)), (λ e. absurd cc), record { good = good; count_is = refl; many = many })
    | inr few ↦ of_few few
  ]

by_place : (text : List ℕ) (o : Option ℕ) → bad_place 0 (items_of text) ≡ o → Means text
unfolding Means
by_place text None good = of_good text good
by_place text (Some at) bad = inr (BadItem at, (λ e. absurd cc), bad)

pub has_meaning : HasMeaning
unfolding Means
has_meaning text = by_place text (bad_place 0 (items_of text)) refl
