-- What stands beside averages.
use Rattle.std.proofs.Common.{◌≡◌, ℕ, ◌+◌, nat_lt, Bool, not, cond, List, [], ◌∷◌, length, map, Some, None, refl, sym, ap, ◌∙◌, subst, Option}
use Rattle.std.proofs.lemmas.List.{length-map}
use Rattle.std.specs.List.{position, position_or_len}
use Rattle.query_model.specs.declared.query.ItemKind.{ItemKind}
use Rattle.sql_text.specs.Answer.{IsText}
use Rattle.sql_text.specs.Tree.{Item, Query}
use Rattle.query_kinds.specs.Beside.{AsksBeside, BesidesAreOne, beside_in}
use Rattle.query_kinds.specs.Kinds.{Asks, IsOfItems, kind_of}
use Rattle.query_kinds.specs.declared.beside.Beside.{Beside}
use Rattle.query_kinds.proofs.OneKind.{items_same, lines_same}

-- the first place in a list is that in what it stands for
place_mapped : {X Y : Type 0} (f : X → Y) (p : Y → Bool) (xs : List X) → position_or_len p (map f xs) ≡ position_or_len (λ x. p (f x)) xs
place_mapped f p [] = refl
place_mapped f p (x ∷ xs) = ap (λ (n : ℕ). cond (not (p (f x))) (1 + n) 0) (place_mapped f p xs)

pub position_mapped : {X Y : Type 0} (f : X → Y) (p : Y → Bool) (xs : List X) → position p (map f xs) ≡ position (λ x. p (f x)) xs
position_mapped f p xs =
    ap (λ (n : ℕ). cond (nat_lt n (length (map f xs))) (Some n) None) (place_mapped f p xs)
    ∙ ap (λ (n : ℕ). cond (nat_lt (position_or_len (λ x. p (f x)) xs) n) (Some (position_or_len (λ x. p (f x)) xs)) None) (length-map xs f)

-- ---- one list of places

module _ (one_query : (text : List ℕ) (p q : Query) → IsText text p → IsText text q → p ≡ q) where
  same : (line : List ℕ) (one other : List (Option Beside)) → AsksBeside line one → AsksBeside line other → one ≡ other
  same line one other a b =
      let query = lines_same one_query line a.query b.query a.is_line b.is_line in
      let own = subst (λ q. IsOfItems q a.columns a.items) query a.of_items in
      let items = (items_same b.query a.columns b.columns a.items b.items own b.of_items).1 in
      a.each ∙ ap (λ (is : List Item). map (beside_in is) is) items ∙ sym b.each

  as_many : (line : List ℕ) (kinds : List ItemKind) (columns : ℕ) (besides : List (Option Beside)) → Asks line kinds columns → AsksBeside line besides →
      length besides ≡ length kinds
  as_many line kinds columns besides a b =
      let query = lines_same one_query line a.query b.query a.is_line b.is_line in
      let own = subst (λ q. IsOfItems q columns a.of_shape.items) query a.of_shape.of_items in
      let items = (items_same b.query columns b.columns a.of_shape.items b.items own b.of_items).1 in
      ap length b.each ∙ length-map b.items (beside_in b.items) ∙ ap length (sym items)
      ∙ sym (ap length a.of_shape.each ∙ length-map a.of_shape.items kind_of)

  pub besides_are_one : BesidesAreOne
  besides_are_one = record { same = same; as_many = as_many }
