-- Typed conditions have the truths of those that are written.
use Rattle.std.proofs.Common.{◌≡◌, ℕ, ◌<◌, ◌+◌, ◌^◌, ◌*ℤ◌, ℤ, pos, Bool, true, false, ◌&&◌, ◌||◌, List, [], ◌∷◌, ◌++◌, map, Option, Some, None, refl, sym, ap, subst, ◌∙◌}
use Rattle.std.proofs.lemmas.Option.{same_Some}
use Rattle.std.specs.List.{AllByRecursion, list_any}
use Rattle.std.specs.Ordering.{int_cmp, int_eq}
use Rattle.daq_table.specs.declared.head.ColumnHead.{ColumnHead}
use Rattle.daq_table.specs.Tables.{Cells}
use Rattle.daq_table.specs.declared.head.Kind.{Kind}
use Rattle.daq_table.specs.declared.head.Kind.TheVariants as kinds
use Rattle.daq_table.specs.declared.table_head.Head.{Head}
use Rattle.query_model.specs.Meaning as typed
use Rattle.query_model.specs.Meaning.{atom_truth, compares, of_value, of_values, sql_and, sql_not, sql_or}
use Rattle.query_model.specs.Queries.{Query}
use Rattle.query_model.specs.declared.query.Atom.TheVariants as atoms
use Rattle.sql_text.specs.declared.tree.Comparison.{Comparison}
use Rattle.sql_text.specs.declared.tree.Comparison.TheVariants.{Eq, Ge, Le}
use Rattle.sql_text.specs.Tree as tree
use Rattle.sql_text.specs.Tree.{Name, Operand, Pred}
use Rattle.sql_typing.specs.Faults.{filter_fault, first_fault, pred_fault, value_fault, values_fault}
use Rattle.sql_typing.specs.Kinds.{can_compare}
use Rattle.sql_typing.specs.Names.{kind_of, names_in_filter, names_in_pred, names_in_head, names_in_ending, number_of}
use Rattle.sql_typing.specs.Typing.{compared, high_end, low_end, member, op_of, spot_of, spot_in, typed_filter, typed_pred}
use Rattle.sql_typing.specs.Typing as typing
use Rattle.sql_typing.proofs.Alls.{all_left, all_right, all_then}
use Rattle.sql_typing.proofs.Clean.{clean}
use Rattle.sql_typing.proofs.Comparisons.{false_not, same_number}
use Rattle.sql_typing.proofs.Firsts.{none_first, none_later, not_if}
use Rattle.sql_meaning.specs.Values.{Value, Number, compare, unless_null}
use Rattle.sql_meaning.specs.Conditions as meaning
use Rattle.sql_meaning.specs.Conditions.{Row, compared_with, is_null, passes, truth, truth_of_where}
use Rattle.sql_meaning.specs.Rows.{row_at, value_in, value_of}
use Rattle.sql_meaning.specs.Laws.{ConditionsMeanTheirTrees, HasValues, numbers_at}
use Rattle.sql_meaning.proofs.Powers.{power_some, scaled}
use Rattle.sql_meaning.proofs.Spots.{op_is}
use Rattle.sql_meaning.proofs.Named.{IsNamed, IsRead, all_read}
use Rattle.sql_meaning.proofs.Written.{written, written_null}

abbrev Stands : ColumnHead → Option ℤ → Type 0
Stands column o = (z : ℤ) → o ≡ Some z → (x : Value) × (value_in column.kind column.names z ≡ Some x)

-- ---- one column and a written value

compare_case : (column : ColumnHead) (v : Operand) (c : ℕ) (op : Comparison) (w : typed.Row) → value_fault column.kind v ≡ None → Stands column (w c) → (o : Option ℤ) → w c ≡ o
    → atom_truth (compared c op (spot_of column.kind column.names v)) w ≡ unless_null (compared_with op v) (value_of (Some column) (w c))
compare_case column v c op w good stands None e =
    let right : unless_null (compared_with op v) (value_of (Some column) (w c)) ≡ None = rw e refl in
    written_null column.kind column.names v c op w e ∙ sym right
compare_case column v c op w good stands (Some z) e =
    let x = stands z e in
    let at = written column.kind column.names column.is_column.ascending v z x.0 good x.1 in
    let right : unless_null (compared_with op v) (value_of (Some column) (w c)) ≡ Some (passes op at.order) = rw (e, x.1, at.stands) refl in
    at.placed.compared c op w e ∙ sym right

both_tests : (a b : Bool) → sql_and (Some a) (Some b) ≡ Some (a && b)
both_tests true b = refl
both_tests false b = refl

either_test : (a b : Bool) → sql_or (Some a) (Some b) ≡ Some (a || b)
either_test true b = refl
either_test false b = refl

between_case : (column : ColumnHead) (low high : Operand) (c : ℕ) (w : typed.Row) → value_fault column.kind low ≡ None → value_fault column.kind high ≡ None → Stands column (w c) → (o : Option ℤ) → w c ≡ o
    → atom_truth (atoms.Between c (low_end (spot_of column.kind column.names low)) (high_end (spot_of column.kind column.names high))) w ≡ unless_null (meaning.between low high) (value_of (Some column) (w c))
between_case column low high c w good_low good_high stands None e = rw e refl
between_case column low high c w good_low good_high stands (Some z) e =
    let x = stands z e in
    let from = written column.kind column.names column.is_column.ascending low z x.0 good_low x.1 in
    let to = written column.kind column.names column.is_column.ascending high z x.0 good_high x.1 in
    let right : unless_null (meaning.between low high) (value_of (Some column) (w c)) ≡ Some (passes Ge from.order && passes Le to.order) =
    rw (e, x.1, from.stands, to.stands) (both_tests (passes Ge from.order) (passes Le to.order)) in
    let left : atom_truth (atoms.Between c (low_end (spot_of column.kind column.names low)) (high_end (spot_of column.kind column.names high))) w ≡ Some (passes Ge from.order && passes Le to.order) =
    rw (e, from.placed.low, to.placed.high) refl in
    left ∙ sym right

among_values : (column : ColumnHead) (before : ℕ) (vs : List Operand) (z : ℤ) (x : Value) → values_fault column.kind before vs ≡ None → value_in column.kind column.names z ≡ Some x
    → Some (list_any (λ v. int_eq z v) (map (λ v. member (spot_of column.kind column.names v)) vs)) ≡ meaning.among vs x
among_values column before [] z x good e = refl
among_values column before (v ∷ vs) z x good e =
    let at = written column.kind column.names column.is_column.ascending v z x (none_first _ _ good) e in
    let rest = among_values column (before + 1) vs z x (none_later _ _ (none_later _ _ good)) e in
    rw (at.placed.member, at.stands, sym rest) (sym (either_test (passes Eq at.order) (list_any (λ v. int_eq z v) (map (λ v. member (spot_of column.kind column.names v)) vs))))

among_case : (column : ColumnHead) (vs : List Operand) (c : ℕ) (w : typed.Row) → values_fault column.kind 0 vs ≡ None → Stands column (w c) → (o : Option ℤ) → w c ≡ o
    → atom_truth (atoms.OneOf c (map (λ v. member (spot_of column.kind column.names v)) vs)) w ≡ unless_null (meaning.among vs) (value_of (Some column) (w c))
among_case column vs c w good stands None e = rw e refl
among_case column vs c w good stands (Some z) e =
    let x = stands z e in
    rw (e, x.1) (among_values column 0 vs z x.0 good x.1)

null_case : (column : ColumnHead) (c : ℕ) (w : typed.Row) → Stands column (w c) → (o : Option ℤ) → w c ≡ o → atom_truth (atoms.IsNull c) w ≡ Some (is_null (value_of (Some column) (w c)))
null_case column c w stands None e = rw e refl
null_case column c w stands (Some z) e = let x = stands z e in rw (e, x.1) refl

-- ---- two columns

one_scale : (s t : ℕ) (z y : ℤ) → s ≡ t → int_cmp (z *ℤ pos (10 ^ t)) (y *ℤ pos (10 ^ s)) ≡ int_cmp z y
one_scale s t z y e = ap (λ k. int_cmp (z *ℤ pos (10 ^ t)) (y *ℤ pos (10 ^ k))) e ∙ scaled z y (10 ^ t) (power_some t)

pub numbers_alike : (s t : ℕ) (z y : ℤ) (u v : Value) → s ≡ t → Some (Number (record { digits = z; behind = s })) ≡ Some u → Some (Number (record { digits = y; behind = t })) ≡ Some v → compare u v ≡ Some (int_cmp z y)
numbers_alike s t z y u v same e f = rw (sym (same_Some _ u e), sym (same_Some _ v f)) (ap Some (one_scale s t z y same))

pub alike : (k l : Kind) (names others : List (List ℕ)) (z y : ℤ) (u v : Value) → can_compare k l ≡ true → value_in k names z ≡ Some u → value_in l others y ≡ Some v → compare u v ≡ Some (int_cmp z y)
alike kinds.Int kinds.Int names others z y u v h e f = numbers_alike 0 0 z y u v refl e f
alike kinds.Int (kinds.Dec t) names others z y u v h e f = numbers_alike 0 t z y u v (same_number 0 t h) e f
alike kinds.Int kinds.Date names others z y u v h e f = absurd cc
alike kinds.Int kinds.Text names others z y u v h e f = absurd cc
alike (kinds.Dec s) kinds.Int names others z y u v h e f = numbers_alike s 0 z y u v (same_number s 0 h) e f
alike (kinds.Dec s) (kinds.Dec t) names others z y u v h e f = numbers_alike s t z y u v (same_number s t h) e f
alike (kinds.Dec s) kinds.Date names others z y u v h e f = absurd cc
alike (kinds.Dec s) kinds.Text names others z y u v h e f = absurd cc
alike kinds.Date kinds.Int names others z y u v h e f = absurd cc
alike kinds.Date (kinds.Dec t) names others z y u v h e f = absurd cc
alike kinds.Date kinds.Date names others z y u v h e f = rw (sym (same_Some _ u e), sym (same_Some _ v f)) refl
alike kinds.Date kinds.Text names others z y u v h e f = absurd cc
alike kinds.Text kinds.Int names others z y u v h e f = absurd cc
alike kinds.Text (kinds.Dec t) names others z y u v h e f = absurd cc
alike kinds.Text kinds.Date names others z y u v h e f = absurd cc
alike kinds.Text kinds.Text names others z y u v h e f = absurd cc

columns_case : (left right : ColumnHead) (l r : ℕ) (op : Comparison) (w : typed.Row) → can_compare left.kind right.kind ≡ true → Stands left (w l) → Stands right (w r) → (o p : Option ℤ) → w l ≡ o → w r ≡ p
    → atom_truth (atoms.CompareColumns l (op_of op) r) w ≡ unless_null (λ x. unless_null (meaning.compared op x) (value_of (Some right) (w r))) (value_of (Some left) (w l))
columns_case left right l r op w good of_left of_right None p e f = rw e refl
columns_case left right l r op w good of_left of_right (Some z) None e f =
    let x = of_left z e in
    rw (e, f, x.1) refl
columns_case left right l r op w good of_left of_right (Some z) (Some y) e f =
    let x = of_left z e in
    let u = of_right y f in
    rw (e, f, x.1, u.1, alike left.kind right.kind left.names right.names z y x.0 u.0 good x.1 u.1) (ap Some (op_is op z y))

-- ---- conditions

module _ (table : List ColumnHead) (columns : List ℕ) (w : typed.Row) (row : Row) where
  pub pred_means : (a : Pred) → pred_fault table a ≡ None → AllByRecursion (IsNamed table columns w row) (names_in_pred a) → typed.truth (typed_pred table columns a) w ≡ truth a row
  pred_means (tree.Compare n op v) good h =
      let is = h.0 in
      let fine : value_fault is.column.kind v ≡ None = subst (λ (k : Kind). value_fault k v ≡ None) is.kind good in
      rw (is.kind, is.names, is.value) (compare_case is.column v (number_of table columns n.name) op w fine is.stands (w (number_of table columns n.name)) refl)
  pred_means (tree.Columns l op r) good h =
      let left = h.0 in
      let right = h.1.0 in
      let may = false_not (can_compare (kind_of table l.name) (kind_of table r.name)) (not_if _ _ good) in
      let fine : can_compare left.column.kind right.column.kind ≡ true = rw (left.kind, right.kind) at may in
      rw (left.value, right.value)
      (columns_case left.column right.column (number_of table columns l.name) (number_of table columns r.name) op w fine left.stands right.stands (w (number_of table columns l.name)) (w (number_of table columns r.name)) refl refl)
  pred_means (tree.Between n low high) good h =
      let is = h.0 in
      let fine_low : value_fault is.column.kind low ≡ None = subst (λ (k : Kind). value_fault k low ≡ None) is.kind (none_first _ _ good) in
      let fine_high : value_fault is.column.kind high ≡ None = subst (λ (k : Kind). value_fault k high ≡ None) is.kind (none_later _ _ good) in
      rw (is.kind, is.names, is.value) (between_case is.column low high (number_of table columns n.name) w fine_low fine_high is.stands (w (number_of table columns n.name)) refl)
  pred_means (tree.OneOf n vs) good h =
      let is = h.0 in
      let fine : values_fault is.column.kind 0 vs ≡ None = subst (λ (k : Kind). values_fault k 0 vs ≡ None) is.kind good in
      rw (is.kind, is.names, is.value) (among_case is.column vs (number_of table columns n.name) w fine is.stands (w (number_of table columns n.name)) refl)
  pred_means (tree.IsNull n) good h =
      let is = h.0 in
      rw is.value (null_case is.column (number_of table columns n.name) w is.stands (w (number_of table columns n.name)) refl)
  pred_means (tree.Negation a) good h = ap sql_not (pred_means a good h)
  pred_means (tree.Both a b) good h =
      let left = pred_means a (none_first _ _ good) (all_left _ (names_in_pred a) (names_in_pred b) h) in
      let right = pred_means b (none_later _ _ good) (all_right _ (names_in_pred a) (names_in_pred b) h) in
      rw (left, right) refl
  pred_means (tree.Either a b) good h =
      let left = pred_means a (none_first _ _ good) (all_left _ (names_in_pred a) (names_in_pred b) h) in
      let right = pred_means b (none_later _ _ good) (all_right _ (names_in_pred a) (names_in_pred b) h) in
      rw (left, right) refl

-- ---- queries

where_means : (table : List ColumnHead) (columns : List ℕ) (w : typed.Row) (row : Row) (o : Option Pred) → filter_fault table o ≡ None → AllByRecursion (IsNamed table columns w row) (names_in_filter o) → typed.truth (typed_filter table columns o) w ≡ truth_of_where o row
where_means table columns w row None good h = refl
where_means table columns w row (Some a) good h = pred_means table columns w row a good h

pub where_is : (q : tree.Query) (head : Head) (cells : Cells) (r : ℕ) → first_fault head.columns q ≡ None → HasValues head cells → r < head.rows
    → typed.truth (typing.typed head.columns q).pred (numbers_at (typing.typed head.columns q) head cells r) ≡ truth_of_where q.pred (row_at head cells r)
where_is q head cells r good values r_in =
    let named : Name → Type 0 = IsNamed head.columns (typing.columns_of head.columns q) (numbers_at (typing.typed head.columns q) head cells r) (row_at head cells r) in
    let front = all_left (IsRead q head cells) (names_in_head q.head ++ names_in_filter q.pred) (names_in_ending q.ending) (all_read q head cells good values) in
    let here = all_right (IsRead q head cells) (names_in_head q.head) (names_in_filter q.pred) front in
    where_means head.columns (typing.columns_of head.columns q) (numbers_at (typing.typed head.columns q) head cells r) (row_at head cells r) q.pred (clean head.columns q good).condition
    (all_then (IsRead q head cells) named (λ n is. is.at_row r r_in) (names_in_filter q.pred) here)

pub conditions_mean : ConditionsMeanTheirTrees
conditions_mean q head query cells r is values r_in =
    subst (λ (query : Query). typed.truth query.pred (numbers_at query head cells r) ≡ truth_of_where q.pred (row_at head cells r)) (sym is.same)
    (where_is q head cells r is.faultless values r_in)
