-- Each aggregate of a text is typed, at the same place, where the query is not of rows in an order.
use Rattle.std.proofs.Common.{◌≡◌, ℕ, zero, suc, List, [], ◌∷◌, length, filter, Some, refl, ap, ◌∙◌, slice_get}
use Rattle.std.proofs.lemmas.Option.{none-some}
use Rattle.std.specs.List.{filter_map}
use Rattle.daq_table.specs.declared.head.ColumnHead.{ColumnHead}
use Rattle.daq_table.specs.declared.table_head.Head as table_head
use Rattle.query_model.specs.Queries.{Aggregate, Query}
use Rattle.sql_text.specs.Tree as tree
use Rattle.sql_text.specs.Tree.{Item, Plain, CountAll, Call}
use Rattle.sql_typing.specs.Refusals.{IsTyped}
use Rattle.sql_typing.specs.Typing.{typed_head, typed_item, typed_items}
use Rattle.sql_typing.specs.Typing as typing
use Rattle.sql_meaning.specs.Answers.{asked, is_asked}
use Rattle.sql_meaning.specs.Laws.{IsAsked}

module _ (table : List ColumnHead) (columns : List ℕ) where
  many : (items : List Item) → length (filter_map (typed_item table columns) items) ≡ length (filter is_asked items)
  many [] = refl
  many (Plain n ∷ items) = many items
  many (CountAll ∷ items) = ap suc (many items)
  many (Call kind e ∷ items) = ap suc (many items)

  found : (items : List Item) (k : ℕ) (item : Item) → slice_get (filter is_asked items) k ≡ Some item → (t : Aggregate) × (slice_get (filter_map (typed_item table columns) items) k ≡ Some t)
  found [] k item e = absurd (none-some item e)
  found (Plain n ∷ items) k item e = found items k item e
  found (CountAll ∷ items) zero item e = (_, refl)
  found (CountAll ∷ items) (suc k) item e = found items k item e
  found (Call kind x ∷ items) zero item e = (_, refl)
  found (Call kind x ∷ items) (suc k) item e = found items k item e

  many_in : (head : tree.Head) → length (typed_head table columns head) ≡ length (asked head)
  many_in (tree.Items items) = many items
  many_in tree.Star = refl

  found_in : (head : tree.Head) (k : ℕ) (item : Item) → slice_get (asked head) k ≡ Some item → (t : Aggregate) × (slice_get (typed_head table columns head) k ≡ Some t)
  found_in (tree.Items items) k item e = found items k item e
  found_in tree.Star k item e = absurd (none-some item e)

module _ (q : tree.Query) (head : table_head.Head) (query : Query) (typed : IsTyped q head query)
    (whole : typed_items head.columns (typing.columns_of head.columns q) q.ending q.head ≡ typed_head head.columns (typing.columns_of head.columns q) q.head) where
  pub items_are : query.items ≡ typed_head head.columns (typing.columns_of head.columns q) q.head
  items_are = ap (λ (w : Query). w.items) typed.same ∙ whole

  pub as_many : length query.items ≡ length (asked q.head)
  as_many = ap length items_are ∙ many_in head.columns (typing.columns_of head.columns q) q.head

  pub is_typed : (place : ℕ) (item : Item) → slice_get (asked q.head) place ≡ Some item → (t : Aggregate) × (is : IsAsked q query item t) × (is.place ≡ place)
  is_typed place item e =
      let at = found_in head.columns (typing.columns_of head.columns q) q.head place item e in
      (at.0, record { place = place; in_text = e; in_query = ap (λ items. slice_get items place) items_are ∙ at.1 }, refl)
