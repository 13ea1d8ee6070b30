-- A line asks for first rows in one way at most.
use Rattle.std.proofs.Common.{◌≡◌, ℕ, Bool, List, ap, subst, sym, ◌∙◌}
use Rattle.sql_text.specs.Answer.{IsText}
use Rattle.sql_text.specs.Tree.{Grouped, Name, Nothing, Ordered, Query}
use Rattle.sql_text.specs.declared.tree.Num.{Num}
use Rattle.query_kinds.specs.Rows.{HasNumber, IsByOrder, IsNotByOrder, RowsAreOne, number_of}
use Rattle.query_kinds.specs.declared.rows.FirstRows.{FirstRows}
use Rattle.query_kinds.proofs.OneKind.{lines_same, no_order}

-- ---- what is no query of first rows

pub no_ending : (query : Query) → query.ending ≡ Nothing → IsNotByOrder query
no_ending query alone rows order = let never : Nothing ≡ Ordered order.key rows.down order.limit = sym alone ∙ order.ordered in cc

pub by_groups : (query : Query) (names : List Name) → query.ending ≡ Grouped names → IsNotByOrder query
by_groups query names grouped rows order = let never : Grouped names ≡ Ordered order.key rows.down order.limit = sym grouped ∙ order.ordered in cc

pub no_number : (query : Query) (key : Name) (down : Bool) (limit : Num) → query.ending ≡ Ordered key down limit → (HasNumber limit → ⊥) → IsNotByOrder query
no_number query key down limit ordered none rows order =
    let ends : Ordered key down limit ≡ Ordered order.key rows.down order.limit = sym ordered ∙ order.ordered in
    let same : limit ≡ order.limit = cc in
    none (subst HasNumber (sym same) order.has_number)

pub ruleset others = (no_ending, by_groups, no_number)

-- ---- first rows of one kind

rows_same : (query : Query) (one other : FirstRows) → IsByOrder query one → IsByOrder query other → one ≡ other
rows_same query one other a b =
    let ends : Ordered a.key one.down a.limit ≡ Ordered b.key other.down b.limit = sym a.ordered ∙ b.ordered in
    let downs : one.down ≡ other.down = cc in
    let limits : a.limit ≡ b.limit = cc in
    let numbers : one.limit ≡ other.limit = a.number ∙ ap number_of limits ∙ sym b.number in
    ap (λ (n : ℕ). record { limit = n; down = one.down }) numbers ∙ ap (λ (d : Bool). record { limit = other.limit; down = d }) downs

module _ (one_query : (text : List ℕ) (p q : Query) → IsText text p → IsText text q → p ≡ q) where
  pub rows_are_one : RowsAreOne
  rows_are_one = record {
    same = λ line one other a b.
        rows_same b.query one other (subst (λ q. IsByOrder q one) (lines_same one_query line a.query b.query a.is_line b.is_line) a.by_order) b.by_order;
    not_other = λ line rows a b.
        b.not_by_order rows (subst (λ q. IsByOrder q rows) (lines_same one_query line a.query b.query a.is_line b.is_line) a.by_order);
    no_items = λ line rows kinds columns a b.
        (let order = subst (λ q. IsByOrder q rows) (lines_same one_query line a.query b.query a.is_line b.is_line) a.by_order in
        no_order b.query order.key rows.down order.limit order.ordered columns b.of_shape.items b.of_shape.of_items);
  }
