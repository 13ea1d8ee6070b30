-- Which line is that of a query of totals or of groups, and of which kinds its aggregates are.
use Rattle.std.specs.Borrow.{Bor}
use Rattle.std.specs.Prelude.{◌≡◌, ◌⊎◌, ℕ, Bool, true, false, List, ◌++◌, filter, map, codes}
use Rattle.std.specs.List.{list_all, list_any}
use Rattle.std.specs.Set.{distinct_count}
use Rattle.std.specs.Str.{IsUtf8, bytes_eq}
use Rattle.query_model.specs.declared.query.ItemKind.{ItemKind}
use Rattle.query_model.specs.declared.query.ItemKind.TheVariants as kinds
use Rattle.sql_text.specs.declared.tree.CallKind.{CallKind}
use Rattle.sql_text.specs.declared.tree.CallKind.TheVariants as calls
use Rattle.sql_text.specs.declared.tree.ItemTree.{ItemTree}
use Rattle.sql_text.specs.Answer.{IsText}
use Rattle.sql_text.specs.declared.fault.SqlFault.{SqlFault}
use Rattle.sql_text.specs.declared.fault.SqlFault.TheVariants as text
use Rattle.sql_text.specs.Tree.{Name, Item, Plain, CountAll, Call, Query, Items, Nothing, Grouped, item_of}
use Rattle.query_kinds.specs.declared.fault.KindsFault.{KindsFault}
use Rattle.query_kinds.specs.declared.fault.KindsFault.TheVariants as faults

abbrev pub kind_of_call : CallKind → ItemKind
kind_of_call calls.Count = kinds.Count
kind_of_call calls.Sum = kinds.Sum
kind_of_call calls.Avg = kinds.Avg
kind_of_call calls.Min = kinds.Min
kind_of_call calls.Max = kinds.Max

abbrev pub is_aggregate : Item → Bool
is_aggregate (Plain name) = false
is_aggregate CountAll = true
is_aggregate (Call kind argument) = true

-- the items that these trees say
abbrev pub items_in : List (Bor ItemTree) → List Item
items_in trees = map (λ tree. item_of tree.now) trees

-- the kind of an aggregate; a column by itself has none, and is counted as a number of rows
abbrev pub kind_of : Item → ItemKind
kind_of (Plain name) = kinds.Count
kind_of CountAll = kinds.Count
kind_of (Call kind argument) = kind_of_call kind

-- a query without groups and without an order, which asks for these aggregates
pub record IsTotals (query : Query) (items : List Item) : Type 0 where
  pub alone : query.ending ≡ Nothing
  pub head : query.head ≡ Items items
  pub aggregates : list_all is_aggregate items ≡ true

-- how many columns these names name; one that is named twice counts once
abbrev pub columns_named : List Name → ℕ
columns_named names = distinct_count bytes_eq (map (λ n. n.name) names)

-- a query by groups of so many columns, which asks for these aggregates, one at least; its list may have columns beside them
pub record IsByGroups (query : Query) (columns : ℕ) (items : List Item) : Type 0 where
  pub names : List Name
  pub grouped : query.ending ≡ Grouped names
  pub as_many : columns ≡ columns_named names
  pub asked : List Item
  pub head : query.head ≡ Items asked
  pub aggregates : items ≡ filter is_aggregate asked
  pub some : list_any is_aggregate asked ≡ true

-- a query of totals, which has no group column, or by groups
abbrev pub IsOfItems : Query → (columns : ℕ) → List Item → Type 0
IsOfItems query columns items = ((columns ≡ 0) × IsTotals query items) ⊎ IsByGroups query columns items

abbrev pub IsNoShape : Query → Type 0
IsNoShape query = (columns : ℕ) (items : List Item) → IsOfItems query columns items → ⊥

-- these are the kinds of its aggregates, and this is the number of its group columns
pub record IsOfShape (query : Query) (kinds : List ItemKind) (columns : ℕ) : Type 0 where
  pub items : List Item
  pub of_items : IsOfItems query columns items
  pub each : kinds ≡ map kind_of items

-- the line in front of a report, and the query that it says
pub record IsQueryLine (line : List ℕ) (query : Query) : Type 0 where
  pub text : List ℕ
  pub spelled : line ≡ codes "query " ++ text
  pub utf8 : IsUtf8 text
  pub is_text : IsText text query

-- the line is that of a query of these kinds and so many group columns
pub record Asks (line : List ℕ) (kinds : List ItemKind) (columns : ℕ) : Type 0 where
  pub query : Query
  pub is_line : IsQueryLine line query
  pub of_shape : IsOfShape query kinds columns

abbrev pub IsNoQuery : List ℕ → Type 0
IsNoQuery line = (query : Query) → IsQueryLine line query → ⊥

-- the line is that of a query of no shape: it asks for rows, for columns without groups, or for groups without an aggregate
pub record AsksOther (line : List ℕ) : Type 0 where
  pub query : Query
  pub is_line : IsQueryLine line query
  pub no_shape : IsNoShape query

abbrev pub IsKindsFault : List ℕ → KindsFault → Type 0
IsKindsFault line faults.NoQuery = IsNoQuery line
IsKindsFault line faults.NoTotals = AsksOther line
IsKindsFault line faults.NoMemory = Unit {0}

-- a text that is no query makes its line none
abbrev pub fault_of : SqlFault → KindsFault
fault_of text.NoMemory = faults.NoMemory
fault_of fault = faults.NoQuery

-- ---- laws

pub record KindsAreOne : Type 0 where
  pub same : (line : List ℕ) (one other : List ItemKind) (m n : ℕ) → Asks line one m → Asks line other n → (one ≡ other) × (m ≡ n)
  pub not_none : (line : List ℕ) (kinds : List ItemKind) (columns : ℕ) → Asks line kinds columns → IsNoQuery line → ⊥
  pub not_other : (line : List ℕ) (kinds : List ItemKind) (columns : ℕ) → Asks line kinds columns → AsksOther line → ⊥
