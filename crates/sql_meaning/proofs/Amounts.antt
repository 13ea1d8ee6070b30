-- Typed expressions have the values of those that are written.
use Rattle.std.proofs.Common.{◌≡◌, ℕ, zero, suc, ◌+◌, ◌-◌, ◌^◌, max, true, ℤ, pos, ◌+ℤ◌, ◌-ℤ◌, ◌*ℤ◌, List, Option, Some, None, refl, ap, subst, arith}
use Rattle.std.proofs.lemmas.Int.{ints}
use Rattle.std.proofs.lemmas.Option.{none-some, same_Some}
use Rattle.std.specs.List.{AllByRecursion}
use Rattle.daq_table.specs.declared.head.ColumnHead.{ColumnHead}
use Rattle.daq_table.specs.declared.head.Kind.{Kind}
use Rattle.daq_table.specs.declared.head.Kind.TheVariants as kinds
use Rattle.query_model.specs.Meaning as typed
use Rattle.query_model.specs.Meaning.{of_value, of_values, val}
use Rattle.query_model.specs.Queries.{Term, Column, Literal, Add, Sub, Mul}
use Rattle.sql_text.specs.Tree as tree
use Rattle.sql_text.specs.Tree.{Name}
use Rattle.sql_typing.specs.Faults.{expr_fault}
use Rattle.sql_typing.specs.Kinds.{is_number, scale_of_kind}
use Rattle.sql_typing.specs.Names.{kind_of, names_in_expr, number_of}
use Rattle.sql_typing.specs.Typing.{literal_of, raised, scale_of, typed_expr}
use Rattle.sql_typing.specs.Typing as typing
use Rattle.sql_typing.proofs.Alls.{all_left, all_right}
use Rattle.sql_typing.proofs.Comparisons.{false_not}
use Rattle.sql_typing.proofs.Firsts.{none_first, none_later, not_if}
use Rattle.sql_meaning.specs.Values.{Decimal, Value, Number}
use Rattle.sql_meaning.specs.Conditions.{Row, decimal_of}
use Rattle.sql_meaning.specs.Expressions.{computed, minus, plus, times, value}
use Rattle.sql_meaning.specs.Rows.{value_in, value_of}
use Rattle.sql_meaning.proofs.Decimals as decimals
use Rattle.sql_meaning.proofs.Decimals.{IsDecimal, added, itself, multiplied, taken}
use Rattle.sql_meaning.proofs.Named.{IsNamed}

-- a number of so many decimals is the value; null is null
abbrev pub IsAmount : ℕ → Option ℤ → Option Value → Type 0
IsAmount s None v = v ≡ None
IsAmount s (Some z) v = (d : Decimal) × (v ≡ Some (Number d)) × IsDecimal s z d

-- ---- in units of more decimals

literal_is : (t : Term) (n : ℤ) → literal_of t ≡ Some n → t ≡ Literal n
literal_is (Column c) n e = absurd (none-some n e)
literal_is (Literal m) n e = ap Literal (same_Some m n e)
literal_is (Add a b) n e = absurd (none-some n e)
literal_is (Sub a b) n e = absurd (none-some n e)
literal_is (Mul a b) n e = absurd (none-some n e)

times_literal : (o : Option ℤ) (k : ℤ) → of_values (λ x y. x *ℤ y) o (Some k) ≡ of_value (λ x. x *ℤ k) o
times_literal None k = refl
times_literal (Some z) k = refl

multiplied_val : (k : ℕ) (t : Term) (w : typed.Row) (o : Option ℤ) → literal_of t ≡ o → val (typing.multiplied k o t) w ≡ of_value (λ x. x *ℤ pos k) (val t w)
multiplied_val k t w None e = times_literal (val t w) (pos k)
multiplied_val k t w (Some n) e = rw (literal_is t n e) refl

once : (o : Option ℤ) → o ≡ of_value (λ x. x *ℤ pos (10 ^ zero)) o
once None = refl
once (Some z) = ap Some (omega (arith, ints))

raised_val : (d : ℕ) (t : Term) (w : typed.Row) → val (raised d t) w ≡ of_value (λ x. x *ℤ pos (10 ^ d)) (val t w)
raised_val zero t w = once (val t w)
raised_val (suc d) t w = multiplied_val (10 ^ suc d) t w (literal_of t) refl

raised_by : (s d : ℕ) (o : Option ℤ) (v : Option Value) → IsAmount s o v → IsAmount (s + d) (of_value (λ x. x *ℤ pos (10 ^ d)) o) v
raised_by s d None v h = h
raised_by s d (Some z) v h = (h.0, h.1, decimals.raised s d z h.0 h.2)

raised_amount : (s d m : ℕ) (t : Term) (w : typed.Row) (v : Option Value) → s + d ≡ m → IsAmount s (val t w) v → IsAmount m (val (raised d t) w) v
raised_amount s d m t w v e h = rw (raised_val d t w) (subst (λ k. IsAmount k (of_value (λ x. x *ℤ pos (10 ^ d)) (val t w)) v) e (raised_by s d (val t w) v h))

-- ---- sums, differences, products

module _ (s t m : ℕ) (f : ℤ → ℤ → ℤ) (g : Decimal → Decimal → Decimal) (keeps : (x y : ℤ) (a b : Decimal) → IsDecimal s x a → IsDecimal t y b → IsDecimal m (f x y) (g a b)) where
  null_right : (u : Option Value) (z : ℤ) (v : Option Value) → IsAmount s (Some z) u → v ≡ None → computed g u v ≡ None
  null_right u z v h e = rw (h.1, e) refl

  computed_amount : (o p : Option ℤ) (u v : Option Value) → IsAmount s o u → IsAmount t p v → IsAmount m (of_values f o p) (computed g u v)
  computed_amount None p u v h k = rw h refl
  computed_amount (Some x) None u v h k = null_right u x v h k
  computed_amount (Some x) (Some y) u v h k = (g h.0 k.0, rw (h.1, k.1) refl, keeps x y h.0 k.0 h.2 k.2)

-- ---- expressions

pub number_of_kind : (kind : Kind) (names : List (List ℕ)) (z : ℤ) → is_number kind ≡ true → value_in kind names z ≡ Some (Number (record { digits = z; behind = scale_of_kind kind }))
number_of_kind kinds.Int names z h = refl
number_of_kind (kinds.Dec s) names z h = refl
number_of_kind kinds.Date names z h = absurd cc
number_of_kind kinds.Text names z h = absurd cc

column_amount : (column : ColumnHead) (o : Option ℤ) → is_number column.kind ≡ true → IsAmount (scale_of_kind column.kind) o (value_of (Some column) o)
column_amount column None h = refl
column_amount column (Some z) h = (record { digits = z; behind = scale_of_kind column.kind }, number_of_kind column.kind column.names z h, itself (scale_of_kind column.kind) z)

left_scale : (s t : ℕ) → s + (t - s) ≡ max s t
left_scale s t = omega arith

right_scale : (s t : ℕ) → t + (s - t) ≡ max s t
right_scale s t = omega arith

module _ (table : List ColumnHead) (columns : List ℕ) (w : typed.Row) (row : Row) where
  pub expr_means : (e : tree.Expr) → expr_fault table e ≡ None → AllByRecursion (IsNamed table columns w row) (names_in_expr e) → IsAmount (scale_of table e) (val (typed_expr table columns e) w) (value e row)
  expr_means (tree.Column n) good h =
      let is = h.0 in
      let number : is_number is.column.kind ≡ true = rw is.kind at (false_not (is_number (kind_of table n.name)) (not_if _ _ (none_first _ _ good))) in
      rw (is.kind, is.value) (column_amount is.column (w (number_of table columns n.name)) number)
  expr_means (tree.Number v) good h = (decimal_of v, refl, itself v.scale v.units)
  expr_means (tree.Add a b) good h =
      let s = scale_of table a in
      let t = scale_of table b in
      computed_amount (max s t) (max s t) (max s t) (λ x y. x +ℤ y) plus (added (max s t))
      (val (raised (t - s) (typed_expr table columns a)) w) (val (raised (s - t) (typed_expr table columns b)) w) (value a row) (value b row)
      (raised_amount s (t - s) (max s t) (typed_expr table columns a) w (value a row) (left_scale s t) (expr_means a (none_first _ _ good) (all_left _ (names_in_expr a) (names_in_expr b) h)))
      (raised_amount t (s - t) (max s t) (typed_expr table columns b) w (value b row) (right_scale s t) (expr_means b (none_later _ _ good) (all_right _ (names_in_expr a) (names_in_expr b) h)))
  expr_means (tree.Sub a b) good h =
      let s = scale_of table a in
      let t = scale_of table b in
      computed_amount (max s t) (max s t) (max s t) (λ x y. x -ℤ y) minus (taken (max s t))
      (val (raised (t - s) (typed_expr table columns a)) w) (val (raised (s - t) (typed_expr table columns b)) w) (value a row) (value b row)
      (raised_amount s (t - s) (max s t) (typed_expr table columns a) w (value a row) (left_scale s t) (expr_means a (none_first _ _ good) (all_left _ (names_in_expr a) (names_in_expr b) h)))
      (raised_amount t (s - t) (max s t) (typed_expr table columns b) w (value b row) (right_scale s t) (expr_means b (none_later _ _ good) (all_right _ (names_in_expr a) (names_in_expr b) h)))
  expr_means (tree.Mul at a b) good h =
      computed_amount (scale_of table a) (scale_of table b) (scale_of table a + scale_of table b) (λ x y. x *ℤ y) times (multiplied (scale_of table a) (scale_of table b))
      (val (typed_expr table columns a) w) (val (typed_expr table columns b) w) (value a row) (value b row)
      (expr_means a (none_first _ _ good) (all_left _ (names_in_expr a) (names_in_expr b) h))
      (expr_means b (none_later _ _ (none_later _ _ good)) (all_right _ (names_in_expr a) (names_in_expr b) h))
