-- Typed rows in an order are those that are asked for.
use Rattle.std.proofs.Common.{◌≡◌, ℕ, ◌^◌, ◌<◌, ◌==◌, ℤ, pos, negsuc, nat_abs, ◌*ℤ◌, Bool, true, false, ◌&&◌, ◌||◌, List, [], ◌∷◌, ◌++◌, filter, Option, Some, None, refl, sym, ap, subst, ◌∙◌, arith}
use Rattle.std.proofs.lemmas.Int.{ints}
use Rattle.std.specs.Prelude.{int_le, int_lt, nat_lt}
use Rattle.std.specs.Cmp.{int_ranks}
use Rattle.std.specs.List.{AllByRecursion}
use Rattle.std.specs.Ordering.{int_cmp, is_gt}
use Rattle.daq_table.specs.Tables.{Cells, frame_of, rows_of}
use Rattle.daq_table.specs.declared.table_head.Head.{Head}
use Rattle.query_model.specs.Meaning.{holds}
use Rattle.query_model.specs.Queries.{Query}
use Rattle.query_model.specs.Ranking.{beats, belongs, comes_before, key_before, order_of}
use Rattle.query_model.specs.Ranking as ranking
use Rattle.query_model.specs.Worlds.{belongs_on}
use Rattle.query_model.specs.declared.query.Face.TheVariants as faces
use Rattle.sql_text.specs.declared.tree.Num.{Num}
use Rattle.sql_text.specs.Tree as tree
use Rattle.sql_text.specs.Tree.{Name}
use Rattle.sql_typing.specs.Faults.{ending_fault, first_fault, is_limit}
use Rattle.sql_typing.specs.Names.{names_in_ending, names_in_filter, names_in_head, number_of}
use Rattle.sql_typing.specs.Typing as typing
use Rattle.sql_typing.specs.Typing.{columns_of, typed_ending}
use Rattle.sql_typing.proofs.Alls.{all_right}
use Rattle.sql_typing.proofs.Clean.{clean}
use Rattle.sql_typing.proofs.Comparisons.{and_left, and_right, false_not, same_number}
use Rattle.sql_typing.proofs.Firsts.{not_if}
use Rattle.sql_meaning.specs.Values.{Value, Number}
use Rattle.sql_meaning.specs.Conditions.{decimal_of}
use Rattle.sql_meaning.specs.Answers.{is_after, is_same, whole}
use Rattle.sql_meaning.specs.Orders.{Order, comes_first, is_among_first, is_before, rows_before}
use Rattle.sql_meaning.specs.Rows.{row_at, shown}
use Rattle.sql_meaning.specs.Laws.{HasValues, OrdersMeanTheirTrees, numbers_at}
use Rattle.sql_meaning.proofs.Answered.{range_all}
use Rattle.sql_meaning.proofs.Asked.{column_argument}
use Rattle.sql_meaning.proofs.Named.{IsRead, all_read}
use Rattle.sql_meaning.proofs.Readings.{IsReading, Related, after_is, same_is}
use Rattle.sql_meaning.proofs.Spots.{more_by}
use Rattle.sql_meaning.proofs.Truths.{where_is}

-- ---- lists and limits

filter_alike : (p t : ℕ → Bool) (rs : List ℕ) → AllByRecursion (λ r. p r ≡ t r) rs → filter p rs ≡ filter t rs
filter_alike p t [] h = refl
filter_alike p t (r ∷ rs) h = rw (h.0, filter_alike p t rs h.1) refl

whole_limit : (u : ℤ) (n : ℕ) → int_lt (pos 0) u ≡ true → nat_lt n (nat_abs u) ≡ int_lt (pos n) u
whole_limit (pos m) n h = grind (arith, ints)
whole_limit (negsuc m) n h = absurd cc

limit_test : (limit : Num) (n : ℕ) → is_limit limit ≡ true → nat_lt n (nat_abs limit.units) ≡ is_after (Number (decimal_of limit)) (whole n)
limit_test limit n h =
    let front = and_left ((limit.scale == 0) && int_lt (pos 0) limit.units) (int_le limit.units (pos 1000)) h in
    let scale : limit.scale ≡ 0 = same_number limit.scale 0 (and_left (limit.scale == 0) (int_lt (pos 0) limit.units) front) in
    let some = and_right (limit.scale == 0) (int_lt (pos 0) limit.units) front in
    let left : limit.units *ℤ pos (10 ^ 0) ≡ limit.units = omega (arith, ints) in
    let right : pos n *ℤ pos (10 ^ 0) ≡ pos n = omega (arith, ints) in
    whole_limit limit.units n some
    ∙ more_by limit.units (pos n) (int_cmp limit.units (pos n)) (int_ranks limit.units (pos n))
    ∙ sym (ap (λ k. is_gt (int_cmp (limit.units *ℤ pos (10 ^ 0)) (pos n *ℤ pos (10 ^ k)))) scale ∙ ap (λ z. is_gt (int_cmp z (pos n *ℤ pos (10 ^ 0)))) left ∙ ap (λ z. is_gt (int_cmp limit.units z)) right)

-- ---- keys

module _ (shows : ℤ → Option Value) (R : ℤ → Value → Type 0) (reads : IsReading shows R) where
  first_is : (down : Bool) (o p : Option ℤ) (u v : Option Value) → Related R o u → Related R p v → key_before down o p ≡ comes_first down u v
  first_is down None p u v h k = rw h refl
  first_is down (Some x) None u v h k = rw (h.1, k) refl
  first_is true (Some x) (Some y) u v h k = rw (h.1, k.1) (sym (after_is shows R reads x y h.0 k.0 h.2 k.2))
  first_is false (Some x) (Some y) u v h k = rw (h.1, k.1) (sym (after_is shows R reads y x k.0 h.0 k.2 h.2))

  before_is : (down : Bool) (o p : Option ℤ) (u v : Option Value) (y x : ℕ) → Related R o u → Related R p v
      → comes_before down o y p x ≡ (comes_first down u v || (is_same u v && nat_lt y x))
  before_is down o p u v y x h k = rw (first_is down o p u v h k, same_is shows R reads o p u v h k) refl

-- ---- rows

module _ (q : tree.Query) (head : Head) (cells : Cells) (key : Name) (down : Bool) (limit : Num) (good : first_fault head.columns q ≡ None) (values : HasValues head cells) (ending : q.ending ≡ tree.Ordered key down limit) where
  abbrev query : Query
  query = typing.typed head.columns q

  abbrev order : Order
  order = record { pred = q.pred; key = key; down = down; limit = limit }

  abbrev number : ℕ
  number = number_of head.columns (columns_of head.columns q) key.name

  abbrev wanted : ranking.Order
  wanted = record { key = number; down = down; limit = nat_abs limit.units }

  key_read : IsRead q head cells key
  key_read =
      let all = all_right (IsRead q head cells) (names_in_head q.head ++ names_in_filter q.pred) (names_in_ending q.ending) (all_read q head cells good values) in
      let there = subst (λ e. AllByRecursion (IsRead q head cells) (names_in_ending e)) ending all in
      there.0

  beats_is : (y x : ℕ) → y < head.rows → x < head.rows
      → (holds query.pred (numbers_at query head cells y) && comes_before down (numbers_at query head cells y number) y (numbers_at query head cells x number) x) ≡ is_before order (row_at head cells) y x
  beats_is y x y_in x_in =
      let a = column_argument q head cells key key_read in
      rw (
        where_is q head cells y good values y_in,
        before_is (shown head.columns (columns_of head.columns q) (faces.OfColumn number)) a.stands a.reads down
            (numbers_at query head cells y number) (numbers_at query head cells x number) (row_at head cells y key.name) (row_at head cells x key.name) y x (a.related y y_in) (a.related x x_in),
      ) refl

  shape_is : order_of query.shape ≡ wanted
  shape_is = ap (λ e. order_of (typed_ending head.columns (columns_of head.columns q) e)) ending

  limit_is : is_limit limit ≡ true
  limit_is =
      let fine : ending_fault (tree.Ordered key down limit) ≡ None = subst (λ e. ending_fault e ≡ None) ending (clean head.columns q good).ending in
      false_not (is_limit limit) (not_if _ _ fine)

  belongs_is : (x : ℕ) → x < head.rows → belongs_on query (frame_of head) cells x ≡ is_among_first order (row_at head cells) head.rows x
  belongs_is x x_in =
      let same = filter_alike (λ y. holds query.pred (numbers_at query head cells y) && comes_before down (numbers_at query head cells y number) y (numbers_at query head cells x number) x)
      (λ y. is_before order (row_at head cells) y x) (rows_of (frame_of head))
      (range_all (λ y. (holds query.pred (numbers_at query head cells y) && comes_before down (numbers_at query head cells y number) y (numbers_at query head cells x number) x) ≡ is_before order (row_at head cells) y x)
      0 head.rows (λ y lt. (let y_in : y < head.rows = omega (arith, lt) in beats_is y x y_in x_in))) in
      rw (shape_is, where_is q head cells x good values x_in, same, limit_test limit (rows_before order (row_at head cells) head.rows x) limit_is) refl

pub orders_mean : OrdersMeanTheirTrees
orders_mean q head meant cells key down limit x is values x_in ending =
    subst (λ (w : Query). belongs_on w (frame_of head) cells x ≡ is_among_first (record { pred = q.pred; key = key; down = down; limit = limit }) (row_at head cells) head.rows x)
    (sym is.same) (belongs_is q head cells key down limit is.faultless values ending x x_in)
