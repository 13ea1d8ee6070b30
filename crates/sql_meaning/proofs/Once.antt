-- What names no column twice is typed as what reads none twice.
use Rattle.std.proofs.Common.{◌≡◌, ℕ, zero, suc, ◌-◌, ◌^◌, not, ◌&&◌, Bool, true, false, List, [], ◌∷◌, ◌++◌, map, Option, Some, None, refl, sym, ap, subst, ◌∙◌}
use Rattle.std.proofs.lemmas.List.{append-nil, map-append}
use Rattle.std.proofs.lemmas.Option.{none-some, same_Some}
use Rattle.std.specs.List.{AllByRecursion, list_any}
use Rattle.std.specs.Str.{bytes_eq}
use Rattle.daq_table.specs.declared.head.ColumnHead.{ColumnHead}
use Rattle.daq_table.specs.declared.head.Kind.{Kind}
use Rattle.daq_table.specs.declared.table_head.Head.{Head}
use Rattle.query_model.specs.Meaning as typed
use Rattle.query_model.specs.Meaning.{columns_of_pred, columns_of_atom}
use Rattle.query_model.specs.Queries.{Aggregate, Query, Term, Column, Literal, Add, Sub, Mul}
use Rattle.query_model.specs.Validity.{no_repeats}
use Rattle.sql_text.specs.declared.tree.Comparison.{Comparison}
use Rattle.sql_text.specs.declared.tree.Comparison.TheVariants as cmps
use Rattle.sql_text.specs.Tree as tree
use Rattle.sql_text.specs.Tree.{Item, Name}
use Rattle.sql_typing.specs.Kinds.{is_day}
use Rattle.sql_typing.specs.Faults.{item_fault}
use Rattle.sql_typing.specs.Names.{dictionary_of, kind_of, names_in_ending, names_in_expr, names_in_filter, names_in_head, names_in_item, names_in_pred, number_of}
use Rattle.sql_typing.specs.Refusals.{IsTyped}
use Rattle.sql_typing.specs.Typing.{columns_of, compared, counted, is_name, literal_of, multiplied, raised, scale_of, spot_of, typed_call, typed_expr, typed_filter, typed_item, typed_pred}
use Rattle.sql_typing.proofs.Alls.{all_left, all_right}
use Rattle.sql_typing.proofs.Clean.{clean}
use Rattle.sql_meaning.specs.Laws.{IsAsked}
use Rattle.sql_meaning.proofs.Asked.{in_query}
use Rattle.sql_meaning.proofs.Shares.{typed_as}
use Rattle.sql_meaning.specs.Attained.{names_differ}
use Rattle.sql_meaning.proofs.Names.{IsKnown, all_known, any_alike}

-- ---- what is typed reads the columns of its names, in order

multiplied_reads : (n : ℕ) (t : Term) → typed.columns_of (multiplied n (literal_of t) t) ≡ typed.columns_of t
multiplied_reads n (Column c) = refl
multiplied_reads n (Literal v) = refl
multiplied_reads n (Add a b) = append-nil (typed.columns_of (Add a b))
multiplied_reads n (Sub a b) = append-nil (typed.columns_of (Sub a b))
multiplied_reads n (Mul a b) = append-nil (typed.columns_of (Mul a b))

raised_reads : (d : ℕ) (t : Term) → typed.columns_of (raised d t) ≡ typed.columns_of t
raised_reads zero t = refl
raised_reads (suc d) t = multiplied_reads (10 ^ suc d) t

module _ (table : List ColumnHead) (columns : List ℕ) where
  abbrev number : Name → ℕ
  number n = number_of table columns n.name

  pub both_read : (xs ys : List ℕ) (ns ms : List Name) → xs ≡ map number ns → ys ≡ map number ms → xs ++ ys ≡ map number (ns ++ ms)
  both_read xs ys ns ms e f = ap (λ l. l ++ ys) e ∙ ap (λ l. map number ns ++ l) f ∙ sym (map-append number ns ms)

  expr_reads : (e : tree.Expr) → typed.columns_of (typed_expr table columns e) ≡ map number (names_in_expr e)
  expr_reads (tree.Column n) = refl
  expr_reads (tree.Number v) = refl
  expr_reads (tree.Add a b) =
      both_read _ _ (names_in_expr a) (names_in_expr b) (raised_reads (scale_of table b - scale_of table a) (typed_expr table columns a) ∙ expr_reads a)
      (raised_reads (scale_of table a - scale_of table b) (typed_expr table columns b) ∙ expr_reads b)
  expr_reads (tree.Sub a b) =
      both_read _ _ (names_in_expr a) (names_in_expr b) (raised_reads (scale_of table b - scale_of table a) (typed_expr table columns a) ∙ expr_reads a)
      (raised_reads (scale_of table a - scale_of table b) (typed_expr table columns b) ∙ expr_reads b)
  expr_reads (tree.Mul at a b) = both_read _ _ (names_in_expr a) (names_in_expr b) (expr_reads a) (expr_reads b)

  compared_reads : (c : ℕ) (op : Comparison) (kind : Kind) (names : List (List ℕ)) (v : tree.Operand) → columns_of_atom (compared c op (spot_of kind names v)) ≡ c ∷ []
  compared_reads c op kind names (tree.Numeric n) = refl
  compared_reads c op kind names (tree.Day s) = refl
  compared_reads c op kind names (tree.Str s) = by op (is_day kind) refl (is_name names s.name) refl
    where
      by : (op : Comparison) (day : Bool) → is_day kind ≡ day → (named : Bool) → is_name names s.name ≡ named → columns_of_atom (compared c op (spot_of kind names (tree.Str s))) ≡ c ∷ []
      by op true e named f = rw e refl
      by op false e true f = rw (e, f) refl
      by cmps.Eq false e false f = rw (e, f) refl
      by cmps.Ne false e false f = rw (e, f) refl
      by cmps.Lt false e false f = rw (e, f) refl
      by cmps.Le false e false f = rw (e, f) refl
      by cmps.Gt false e false f = rw (e, f) refl
      by cmps.Ge false e false f = rw (e, f) refl

  pub pred_reads : (a : tree.Pred) → columns_of_pred (typed_pred table columns a) ≡ map number (names_in_pred a)
  pred_reads (tree.Compare n op v) = compared_reads (number n) op (kind_of table n.name) (dictionary_of table n.name) v
  pred_reads (tree.Columns l op r) = refl
  pred_reads (tree.Between n low high) = refl
  pred_reads (tree.OneOf n vs) = refl
  pred_reads (tree.IsNull n) = refl
  pred_reads (tree.Negation a) = pred_reads a
  pred_reads (tree.Both a b) = both_read _ _ (names_in_pred a) (names_in_pred b) (pred_reads a) (pred_reads b)
  pred_reads (tree.Either a b) = both_read _ _ (names_in_pred a) (names_in_pred b) (pred_reads a) (pred_reads b)

  pub filter_reads : (o : Option tree.Pred) → columns_of_pred (typed_filter table columns o) ≡ map number (names_in_filter o)
  filter_reads None = refl
  filter_reads (Some a) = pred_reads a

  item_reads : (item : Item) (t : Aggregate) → typed_item table columns item ≡ Some t → typed.columns_of t.arg ≡ map number (names_in_item item)
  item_reads (tree.Plain n) t e = absurd (none-some t e)
  item_reads tree.CountAll t e = ap (λ (w : Aggregate). typed.columns_of w.arg) (sym (same_Some counted t e))
  item_reads (tree.Call kind x) t e = ap (λ (w : Aggregate). typed.columns_of w.arg) (sym (same_Some (typed_call table columns kind x) t e)) ∙ expr_reads x

  -- names that differ have numbers that do
  pub differ : (ns : List Name) → AllByRecursion (IsKnown table columns) ns → no_repeats (map number ns) ≡ names_differ ns
  differ [] known = refl
  differ (n ∷ ns) known =
      ap (λ b. not b && no_repeats (map number ns)) (any_alike table columns n ns known.0 known.1)
      ∙ ap (λ b. not (list_any (λ m. bytes_eq n.name m.name) ns) && b) (differ ns known.1)

module _ (q : tree.Query) (head : Head) (query : Query) (is : IsTyped q head query) where
  abbrev Known : Name → Type 0
  Known = IsKnown head.columns query.columns

  pub in_filter : AllByRecursion Known (names_in_filter q.pred)
  in_filter =
      all_right Known (names_in_head q.head) (names_in_filter q.pred)
      (all_left Known (names_in_head q.head ++ names_in_filter q.pred) (names_in_ending q.ending) (all_known q head query is))

  in_head : AllByRecursion Known (names_in_head q.head)
  in_head =
      all_left Known (names_in_head q.head) (names_in_filter q.pred)
      (all_left Known (names_in_head q.head ++ names_in_filter q.pred) (names_in_ending q.ending) (all_known q head query is))

  pub in_ending : AllByRecursion Known (names_in_ending q.ending)
  in_ending = all_right Known (names_in_head q.head ++ names_in_filter q.pred) (names_in_ending q.ending) (all_known q head query is)

  pub in_item : (item : Item) (t : Aggregate) → IsAsked q query item t → AllByRecursion Known (names_in_item item)
  in_item item t asked =
      subst (λ (w : Query). IsAsked q w item t → AllByRecursion (IsKnown head.columns w.columns) (names_in_head q.head) → AllByRecursion (IsKnown head.columns w.columns) (names_in_item item)) (sym is.same)
      (λ found known. (in_query head.columns (columns_of head.columns q) (IsKnown head.columns (columns_of head.columns q)) item t q.ending q.head found.place found.in_text found.in_query (clean head.columns q is.faultless).select_list known).named)
      asked in_head

  -- an item is typed without a fault
  pub fine_is : (item : Item) (t : Aggregate) → IsAsked q query item t → (groups : List Name) × (item_fault head.columns groups item ≡ None)
  fine_is item t asked =
      subst (λ (w : Query). IsAsked q w item t → AllByRecursion (IsKnown head.columns w.columns) (names_in_head q.head) → (groups : List Name) × (item_fault head.columns groups item ≡ None)) (sym is.same)
      (λ found known.
      let is_typed = in_query head.columns (columns_of head.columns q) (IsKnown head.columns (columns_of head.columns q)) item t q.ending q.head found.place found.in_text found.in_query (clean head.columns q is.faultless).select_list known in
      (is_typed.groups, is_typed.fine))
      asked in_head

  -- the argument of an item reads the columns of its names
  pub item_is : (item : Item) (t : Aggregate) → IsAsked q query item t → typed.columns_of t.arg ≡ map (λ (n : Name). number_of head.columns query.columns n.name) (names_in_item item)
  item_is item t asked = item_reads head.columns query.columns item t (typed_as q head query item t is asked)
