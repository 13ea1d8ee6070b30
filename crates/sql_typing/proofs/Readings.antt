-- What typed expressions and conditions read.
use Rattle.std.proofs.Common.{◌≡◌, ℕ, zero, suc, ◌-◌, ◌^◌, ◌<◌, true, ℤ, List, [], Option, Some, None, inl, inr, ◌⊎◌, sym, subst}
use Rattle.std.specs.List.{AllByRecursion}
use Rattle.daq_table.specs.declared.head.ColumnHead.{ColumnHead}
use Rattle.daq_table.specs.declared.head.Kind.{Kind}
use Rattle.daq_table.specs.declared.head.Kind.TheVariants as kinds
use Rattle.daq_table.specs.declared.table_head.Head.{Head}
use Rattle.query_model.specs.Meaning.{AtomReadsBelow, PredReadsBelow, ReadsBelow, columns_of}
use Rattle.query_model.specs.Queries.{Term, Column, Literal, Add, Sub, Mul, Single, Query}
use Rattle.query_model.specs.Validity.{CanCompareIn, IsDateKind, IsNumberKind, kind_at}
use Rattle.sql_text.specs.declared.tree.Comparison.{Comparison}
use Rattle.sql_text.specs.declared.tree.Comparison.TheVariants as cmps
use Rattle.sql_text.specs.Tree as tree
use Rattle.sql_typing.specs.Faults.{expr_fault, pred_fault}
use Rattle.sql_typing.specs.Kinds.{can_compare, is_number}
use Rattle.sql_typing.specs.Names.{kind_of, names_in_expr, names_in_pred, number_of}
use Rattle.sql_typing.specs.Typing.{compared, multiplied, literal_of, raised, scale_of, typed_expr, typed_pred}
use Rattle.sql_typing.specs.declared.spot.Spot.{Spot}
use Rattle.sql_typing.specs.declared.spot.Spot.TheVariants.{At, Before}
use Rattle.sql_typing.proofs.Alls.{all_join, all_left, all_right}
use Rattle.sql_typing.proofs.Firsts.{none_first, none_later, not_if}
use Rattle.sql_typing.proofs.Numbered.{IsNumbered}
use Rattle.sql_typing.proofs.Comparisons.{false_not}

-- ---- expressions

pub reads_below : (n : ℕ) (t : Term) → AllByRecursion (λ c. c < n) (columns_of t) → ReadsBelow n t
reads_below n (Column c) h = h.0
reads_below n (Literal v) h = tt
reads_below n (Add a b) h = (reads_below n a (all_left _ (columns_of a) (columns_of b) h), reads_below n b (all_right _ (columns_of a) (columns_of b) h))
reads_below n (Sub a b) h = (reads_below n a (all_left _ (columns_of a) (columns_of b) h), reads_below n b (all_right _ (columns_of a) (columns_of b) h))
reads_below n (Mul a b) h = (reads_below n a (all_left _ (columns_of a) (columns_of b) h), reads_below n b (all_right _ (columns_of a) (columns_of b) h))

multiplied_reads : (P : ℕ → Type 0) (n : ℕ) (o : Option ℤ) (t : Term) → AllByRecursion P (columns_of t) → AllByRecursion P (columns_of (multiplied n o t))
multiplied_reads P n None t h = all_join P (columns_of t) [] h tt
multiplied_reads P n (Some v) t h = tt

raised_reads : (P : ℕ → Type 0) (d : ℕ) (t : Term) → AllByRecursion P (columns_of t) → AllByRecursion P (columns_of (raised d t))
raised_reads P zero t h = h
raised_reads P (suc d) t h = multiplied_reads P (10 ^ suc d) (literal_of t) t h

-- what holds of the numbers of its names holds of the columns that the term reads
pub typed_reads : (table : List ColumnHead) (columns : List ℕ) (P : ℕ → Type 0) (e : tree.Expr) → AllByRecursion (λ n. P (number_of table columns n.name)) (names_in_expr e) → AllByRecursion P (columns_of (typed_expr table columns e))
typed_reads table columns P (tree.Column n) h = (h.0, tt)
typed_reads table columns P (tree.Number v) h = tt
typed_reads table columns P (tree.Add a b) h = all_join P _ _
    (raised_reads P (scale_of table b - scale_of table a) (typed_expr table columns a) (typed_reads table columns P a (all_left _ (names_in_expr a) (names_in_expr b) h)))
    (raised_reads P (scale_of table a - scale_of table b) (typed_expr table columns b) (typed_reads table columns P b (all_right _ (names_in_expr a) (names_in_expr b) h)))
typed_reads table columns P (tree.Sub a b) h = all_join P _ _
    (raised_reads P (scale_of table b - scale_of table a) (typed_expr table columns a) (typed_reads table columns P a (all_left _ (names_in_expr a) (names_in_expr b) h)))
    (raised_reads P (scale_of table a - scale_of table b) (typed_expr table columns b) (typed_reads table columns P b (all_right _ (names_in_expr a) (names_in_expr b) h)))
typed_reads table columns P (tree.Mul at a b) h = all_join P _ _ (typed_reads table columns P a (all_left _ (names_in_expr a) (names_in_expr b) h)) (typed_reads table columns P b (all_right _ (names_in_expr a) (names_in_expr b) h))

number_kind : (k : Kind) → is_number k ≡ true → IsNumberKind k
number_kind kinds.Int h = tt
number_kind (kinds.Dec s) h = tt
number_kind kinds.Date h = absurd cc
number_kind kinds.Text h = absurd cc

-- an expression without a fault names numbers
pub names_numbers : (table : List ColumnHead) (e : tree.Expr) → expr_fault table e ≡ None → AllByRecursion (λ n. IsNumberKind (kind_of table n.name)) (names_in_expr e)
names_numbers table (tree.Column n) h = (number_kind (kind_of table n.name) (false_not (is_number (kind_of table n.name)) (not_if _ _ (none_first _ _ h))), tt)
names_numbers table (tree.Number v) h = tt
names_numbers table (tree.Add a b) h = all_join _ (names_in_expr a) (names_in_expr b) (names_numbers table a (none_first _ _ h)) (names_numbers table b (none_later _ _ h))
names_numbers table (tree.Sub a b) h = all_join _ (names_in_expr a) (names_in_expr b) (names_numbers table a (none_first _ _ h)) (names_numbers table b (none_later _ _ h))
names_numbers table (tree.Mul at a b) h = all_join _ (names_in_expr a) (names_in_expr b) (names_numbers table a (none_first _ _ h)) (names_numbers table b (none_later _ _ (none_later _ _ h)))

-- ---- conditions

compared_below : (n c : ℕ) (op : Comparison) (s : Spot) → c < n → AtomReadsBelow n (compared c op s)
compared_below n c op (At v) h = h
compared_below n c cmps.Eq (Before p) h = h
compared_below n c cmps.Ne (Before p) h = h
compared_below n c cmps.Lt (Before p) h = h
compared_below n c cmps.Le (Before p) h = h
compared_below n c cmps.Gt (Before p) h = h
compared_below n c cmps.Ge (Before p) h = h

pub typed_below : (table : List ColumnHead) (columns : List ℕ) (n : ℕ) (a : tree.Pred) → AllByRecursion (λ m. number_of table columns m.name < n) (names_in_pred a) → PredReadsBelow n (typed_pred table columns a)
typed_below table columns n (tree.Compare m op v) h = compared_below n _ op _ h.0
typed_below table columns n (tree.Columns l op r) h = (h.0, h.1.0)
typed_below table columns n (tree.Between m low high) h = h.0
typed_below table columns n (tree.OneOf m vs) h = h.0
typed_below table columns n (tree.IsNull m) h = h.0
typed_below table columns n (tree.Negation a) h = typed_below table columns n a h
typed_below table columns n (tree.Both a b) h = (typed_below table columns n a (all_left _ (names_in_pred a) (names_in_pred b) h), typed_below table columns n b (all_right _ (names_in_pred a) (names_in_pred b) h))
typed_below table columns n (tree.Either a b) h = (typed_below table columns n a (all_left _ (names_in_pred a) (names_in_pred b) h), typed_below table columns n b (all_right _ (names_in_pred a) (names_in_pred b) h))

abbrev AreAlike : Kind → Kind → Type 0
AreAlike k l = (IsDateKind k × IsDateKind l) ⊎ (IsNumberKind k × IsNumberKind l)

compared_alike : (head : Head) (query : Query) (c : ℕ) (op : Comparison) (s : Spot) → CanCompareIn head query (Single (compared c op s))
compared_alike head query c op (At v) = tt
compared_alike head query c cmps.Eq (Before p) = tt
compared_alike head query c cmps.Ne (Before p) = tt
compared_alike head query c cmps.Lt (Before p) = tt
compared_alike head query c cmps.Le (Before p) = tt
compared_alike head query c cmps.Gt (Before p) = tt
compared_alike head query c cmps.Ge (Before p) = tt

alike : (k l : Kind) → can_compare k l ≡ true → AreAlike k l
alike kinds.Int kinds.Int h = inr (tt, tt)
alike kinds.Int (kinds.Dec t) h = inr (tt, tt)
alike kinds.Int kinds.Date h = absurd cc
alike kinds.Int kinds.Text h = absurd cc
alike (kinds.Dec s) kinds.Int h = inr (tt, tt)
alike (kinds.Dec s) (kinds.Dec t) h = inr (tt, tt)
alike (kinds.Dec s) kinds.Date h = absurd cc
alike (kinds.Dec s) kinds.Text h = absurd cc
alike kinds.Date kinds.Int h = absurd cc
alike kinds.Date (kinds.Dec t) h = absurd cc
alike kinds.Date kinds.Date h = inl (tt, tt)
alike kinds.Date kinds.Text h = absurd cc
alike kinds.Text kinds.Int h = absurd cc
alike kinds.Text (kinds.Dec t) h = absurd cc
alike kinds.Text kinds.Date h = absurd cc
alike kinds.Text kinds.Text h = absurd cc

pub typed_alike : (head : Head) (query : Query) (a : tree.Pred) → pred_fault head.columns a ≡ None → AllByRecursion (IsNumbered head.columns query.columns) (names_in_pred a)
    → CanCompareIn head query (typed_pred head.columns query.columns a)
typed_alike head query (tree.Compare m op v) e h = compared_alike head query _ op _
typed_alike head query (tree.Columns l op r) e h =
    let both = alike (kind_of head.columns l.name) (kind_of head.columns r.name) (false_not (can_compare (kind_of head.columns l.name) (kind_of head.columns r.name)) (not_if _ _ e)) in
    subst (λ (k : Kind). AreAlike k (kind_at head query (number_of head.columns query.columns r.name))) (sym h.0.kind)
    (subst (λ (k : Kind). AreAlike (kind_of head.columns l.name) k) (sym h.1.0.kind) both)
typed_alike head query (tree.Between m low high) e h = tt
typed_alike head query (tree.OneOf m vs) e h = tt
typed_alike head query (tree.IsNull m) e h = tt
typed_alike head query (tree.Negation a) e h = typed_alike head query a e h
typed_alike head query (tree.Both a b) e h =
    (typed_alike head query a (none_first _ _ e) (all_left _ (names_in_pred a) (names_in_pred b) h), typed_alike head query b (none_later _ _ e) (all_right _ (names_in_pred a) (names_in_pred b) h))
typed_alike head query (tree.Either a b) e h =
    (typed_alike head query a (none_first _ _ e) (all_left _ (names_in_pred a) (names_in_pred b) h), typed_alike head query b (none_later _ _ e) (all_right _ (names_in_pred a) (names_in_pred b) h))
