-- A line asks for items of one shape at most.
use Rattle.std.proofs.Common.{◌≡◌, ℕ, Bool, Err, true, false, List, [], ◌∷◌, ◌++◌, filter, map, refl, sym, ap, ◌∙◌, subst, codes, inl, inr}
use Rattle.std.specs.List.{list_all, list_any}
use Rattle.query_model.specs.declared.query.ItemKind.{ItemKind}
use Rattle.sql_text.specs.Answer.{Answers, IsText}
use Rattle.sql_text.specs.declared.fault.SqlFault.{SqlFault}
use Rattle.sql_text.specs.declared.fault.SqlFault.TheVariants as f
use Rattle.sql_text.specs.Tree.{Call, CountAll, Grouped, Item, Items, Name, Nothing, Ordered, Plain, Query, Star}
use Rattle.sql_text.specs.declared.tree.Num.{Num}
use Rattle.query_kinds.specs.Kinds.{IsByGroups, IsKindsFault, IsNoQuery, IsNoShape, IsOfItems, IsOfShape, IsQueryLine, IsTotals}
use Rattle.query_kinds.specs.Kinds.{KindsAreOne, columns_named, fault_of, is_aggregate, kind_of}
use Rattle.query_kinds.specs.Rows.{IsRowsFault}

-- ---- the shape of a query

all_kept : (items : List Item) → list_all is_aggregate items ≡ true → filter is_aggregate items ≡ items
all_kept [] all = refl
all_kept (Plain name ∷ items) all = absurd cc
all_kept (CountAll ∷ items) all = ap (λ (is : List Item). CountAll ∷ is) (all_kept items all)
all_kept (Call kind argument ∷ items) all = ap (λ (is : List Item). Call kind argument ∷ is) (all_kept items all)

pub totals_shape : (query : Query) (items : List Item) → query.ending ≡ Nothing → query.head ≡ Items items → list_all is_aggregate items ≡ true →
    IsOfItems query 0 (filter is_aggregate items)
totals_shape query items alone head all =
    let own : IsTotals query items = record { alone = alone; head = head; aggregates = all } in
    inl (refl, subst (IsTotals query) (sym (all_kept items all)) own)

pub groups_shape : (query : Query) (names : List Name) (columns : ℕ) (items : List Item) → query.ending ≡ Grouped names → columns ≡ columns_named names →
    query.head ≡ Items items → list_any is_aggregate items ≡ true → IsOfItems query columns (filter is_aggregate items)
groups_shape query names columns items grouped as_many head some =
    inr (record { names = names; grouped = grouped; as_many = as_many; asked = items; head = head; aggregates = refl; some = some })

pub no_list : (query : Query) → query.head ≡ Star → IsNoShape query
no_list query star columns items (inl (none, totals)) = let never : Star ≡ Items items = sym star ∙ totals.head in cc
no_list query star columns items (inr groups) = let never : Star ≡ Items groups.asked = sym star ∙ groups.head in cc

pub no_order : (query : Query) (key : Name) (down : Bool) (limit : Num) → query.ending ≡ Ordered key down limit → IsNoShape query
no_order query key down limit order columns items (inl (none, totals)) =
    let never : Ordered key down limit ≡ Nothing = sym order ∙ totals.alone in cc
no_order query key down limit order columns items (inr groups) =
    let never : Ordered key down limit ≡ Grouped groups.names = sym order ∙ groups.grouped in cc

pub no_totals : (query : Query) (items : List Item) → query.ending ≡ Nothing → query.head ≡ Items items → list_all is_aggregate items ≡ false →
    IsNoShape query
no_totals query items alone head some columns other (inl (none, totals)) =
    let heads : Items items ≡ Items other = sym head ∙ totals.head in
    let same : items ≡ other = cc in
    let never : false ≡ true = sym some ∙ ap (list_all is_aggregate) same ∙ totals.aggregates in
    cc
no_totals query items alone head some columns other (inr groups) =
    let never : Nothing ≡ Grouped groups.names = sym alone ∙ groups.grouped in cc

pub no_groups : (query : Query) (names : List Name) (items : List Item) → query.ending ≡ Grouped names → query.head ≡ Items items →
    list_any is_aggregate items ≡ false → IsNoShape query
no_groups query names items grouped head none columns other (inl (zero, totals)) =
    let never : Grouped names ≡ Nothing = sym grouped ∙ totals.alone in cc
no_groups query names items grouped head none columns other (inr groups) =
    let heads : Items items ≡ Items groups.asked = sym head ∙ groups.head in
    let same : items ≡ groups.asked = cc in
    let never : false ≡ true = sym none ∙ ap (list_any is_aggregate) same ∙ groups.some in
    cc

pub ruleset shapes = (totals_shape, groups_shape, no_list, no_order, no_totals, no_groups)

-- ---- what is no line of a query

none_line : (line text : List ℕ) → line ≡ codes "query " ++ text → ((q : Query) → IsText text q → ⊥) → IsNoQuery line
none_line line text spelled none query is =
    let texts : codes "query " ++ text ≡ codes "query " ++ is.text = sym spelled ∙ is.spelled in
    let same : text ≡ is.text = cc in
    none query (subst (λ t. IsText t query) (sym same) is.is_text)

pub line_fault : (line text : List ℕ) (fault : SqlFault) → line ≡ codes "query " ++ text →
    ((q : Query) → IsText text q → Answers q (Err fault)) → IsKindsFault line (fault_of fault)
line_fault line text f.TooLong spelled only = none_line line text spelled only
line_fault line text (f.Syntax at) spelled only = none_line line text spelled only
line_fault line text (f.TooDeep at) spelled only = none_line line text spelled only
line_fault line text (f.LiteralTooLarge at) spelled only = none_line line text spelled only
line_fault line text f.NoMemory spelled only = tt

pub rows_fault : (line text : List ℕ) (fault : SqlFault) → line ≡ codes "query " ++ text →
    ((q : Query) → IsText text q → Answers q (Err fault)) → IsRowsFault line (fault_of fault)
rows_fault line text f.TooLong spelled only = none_line line text spelled only
rows_fault line text (f.Syntax at) spelled only = none_line line text spelled only
rows_fault line text (f.TooDeep at) spelled only = none_line line text spelled only
rows_fault line text (f.LiteralTooLarge at) spelled only = none_line line text spelled only
rows_fault line text f.NoMemory spelled only = tt

-- ---- one shape

pub totals_same : (query : Query) (one other : List Item) → IsTotals query one → IsTotals query other → one ≡ other
totals_same query one other a b = let heads : Items one ≡ Items other = sym a.head ∙ b.head in cc

pub apart : (query : Query) (columns : ℕ) (one other : List Item) → IsTotals query one → IsByGroups query columns other → ⊥
apart query columns one other a b = let never : Nothing ≡ Grouped b.names = sym a.alone ∙ b.grouped in cc

pub items_same : (query : Query) (m n : ℕ) (one other : List Item) → IsOfItems query m one → IsOfItems query n other → (m ≡ n) × (one ≡ other)
items_same query m n one other (inl (none, a)) (inl (zero, b)) = (none ∙ sym zero, totals_same query one other a b)
items_same query m n one other (inl (none, a)) (inr b) = absurd (apart query n one other a b)
items_same query m n one other (inr a) (inl (none, b)) = absurd (apart query m other one b a)
items_same query m n one other (inr a) (inr b) =
    let ends : Grouped a.names ≡ Grouped b.names = sym a.grouped ∙ b.grouped in
    let names : a.names ≡ b.names = cc in
    let heads : Items a.asked ≡ Items b.asked = sym a.head ∙ b.head in
    let asked : a.asked ≡ b.asked = cc in
    (a.as_many ∙ ap columns_named names ∙ sym b.as_many, a.aggregates ∙ ap (filter is_aggregate) asked ∙ sym b.aggregates)

shapes_same : (query : Query) (one other : List ItemKind) (m n : ℕ) → IsOfShape query one m → IsOfShape query other n → (one ≡ other) × (m ≡ n)
shapes_same query one other m n a b =
    let same = items_same query m n a.items b.items a.of_items b.of_items in
    (a.each ∙ ap (map kind_of) same.1 ∙ sym b.each, same.0)

module _ (one_query : (text : List ℕ) (p q : Query) → IsText text p → IsText text q → p ≡ q) where
  pub lines_same : (line : List ℕ) (p q : Query) → IsQueryLine line p → IsQueryLine line q → p ≡ q
  lines_same line p q of_p of_q =
      let texts : codes "query " ++ of_p.text ≡ codes "query " ++ of_q.text = sym of_p.spelled ∙ of_q.spelled in
      let same : of_p.text ≡ of_q.text = cc in
      one_query of_q.text p q (subst (λ t. IsText t p) same of_p.is_text) of_q.is_text

  pub kinds_are_one : KindsAreOne
  kinds_are_one = record {
    same = λ line one other m n a b.
        shapes_same b.query one other m n (subst (λ q. IsOfShape q one m) (lines_same line a.query b.query a.is_line b.is_line) a.of_shape) b.of_shape;
    not_none = λ line kinds columns a none. none a.query a.is_line;
    not_other = λ line kinds columns a other.
        other.no_shape columns a.of_shape.items (subst (λ q. IsOfItems q columns a.of_shape.items)
        (lines_same line a.query other.query a.is_line other.is_line) a.of_shape.of_items);
  }
