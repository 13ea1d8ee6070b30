-- The printed form of a query of a text is a text, part by part.
use Rattle.std.proofs.Common.{ℕ, suc, ◌-◌, List, [], ◌∷◌, ◌++◌, length, take, drop, Bool, true, false, cond, eqb, Option, Some, None, refl, sym, subst, arith}
use Rattle.std.specs.Prelude.{ℤ, pos, negsuc, codes, IsUtf8}
use Rattle.std.proofs.lemmas.List.{take-append-drop}
use Rattle.std.proofs.lemmas.Str.{IsUtf8-append, IsUtf8-nil}
use Rattle.sql_tokens.specs.Lexeme.{NAME}
use Rattle.sql_tokens.specs.Byte.{in_number, Each}
use Rattle.sql_tokens.specs.Spelling.{doubled, is_plain_name}
use Rattle.sql_text.specs.declared.tree.Comparison.{Comparison}
use Rattle.sql_text.specs.declared.tree.Comparison.TheVariants as cmps
use Rattle.sql_text.specs.declared.tree.CallKind.{CallKind}
use Rattle.sql_text.specs.declared.tree.CallKind.TheVariants as calls
use Rattle.sql_print.specs.declared.printing.Side.{Side}
use Rattle.sql_print.specs.declared.printing.Side.TheVariants.{Left, Middle, Right}
use Rattle.sql_text.specs.Tree.{Name, Expr, Column, Number, Add, Sub, Mul, Item, Plain, CountAll, Call, Head, Items, Star, Operand, Numeric, Str, Day, Pred, Compare, Columns, Between, OneOf, IsNull, Negation, Both, Either, Ending, Nothing, Grouped, Ordered, Query}
use Rattle.sql_print.specs.Printed.{name_text, string_text, sign_text, size_of, digits_of, pointed, num_text, operand_text, listed_text, opening, closing, wraps_loose, wraps_tight, expr_text, call_text, item_text, head_text, cmp_text, between_word, in_word, null_word, between_text, members_text, null_text, negated_text, pred_text, filter_text, direction_text, ending_text, printed}
use Rattle.sql_text.specs.Answer.{most_levels, IsText}
use Rattle.sql_print.proofs.ExprBack.{UnitsOk, ExprOk}
use Rattle.sql_print.proofs.PredBack.{EachOk, SomeOk, OperandOk, PredOk}
use Rattle.sql_print.proofs.QueryBack.{ItemOk, FilterOk, LimitOk, HeadOk, QueryOk, query_ok}
use Rattle.sql_print.proofs.Numerals.{each_left, each_right, digits_are}
use Rattle.sql_print.proofs.Utf8.{AllBelow, Utf8Ok, ascii_text, literal, below_append, below_each, number_below, doubled_text, all_text}

both : (a b : List ℕ) → IsUtf8 a → IsUtf8 b → IsUtf8 (a ++ b)
both a b p q = IsUtf8-append a b p q

name_utf8 : (s : List ℕ) → IsUtf8 s → IsUtf8 (name_text s)
name_utf8 s u =
    elim (is_plain_name s) as (λ t. IsUtf8 (cond t s (34 ∷ (s ++ (34 ∷ []))))) [
      | true ↦ u
      | false ↦ both (34 ∷ []) (s ++ (34 ∷ [])) (literal (34 ∷ []) refl) (both s (34 ∷ []) u (literal (34 ∷ []) refl))
    ]

string_utf8 : (s : List ℕ) → IsUtf8 s → IsUtf8 (string_text s)
string_utf8 s u = both (39 ∷ []) (doubled s ++ (39 ∷ [])) (literal (39 ∷ []) refl) (both (doubled s) (39 ∷ []) (doubled_text s [] u) (literal (39 ∷ []) refl))

pointed_below : (ds : List ℕ) (s : ℕ) → Each in_number ds → AllBelow (pointed ds s)
unfolding pointed
pointed_below ds s h =
    let n : ℕ = length ds - s in
    let parts : Each in_number (take n ds ++ drop n ds) = subst (Each in_number) (sym (take-append-drop n ds)) h in
    elim (eqb s 0) as (λ t. AllBelow (cond t ds (take n ds ++ (46 ∷ drop n ds)))) [
      | true ↦ below_each in_number number_below ds h
      | false ↦ below_append (take n ds) (46 ∷ drop n ds) (below_each in_number number_below (take n ds) (each_left in_number (take n ds) (drop n ds) parts)) (omega arith, below_each in_number number_below (drop n ds) (each_right in_number (take n ds) (drop n ds) parts))
    ]

units_utf8 : (z : ℤ) (s : ℕ) → UnitsOk Utf8Ok z s → IsUtf8 (sign_text z ++ pointed (digits_of (size_of z) s) s)
units_utf8 (pos u) s h = let d = digits_are u s (let k = h.0 in omega arith) in ascii_text (pointed (digits_of u s) s) (pointed_below (digits_of u s) s d.each)
units_utf8 (negsuc u) s h =
    let d = digits_are (suc u) s (let k = h.0 in omega arith) in
    both (45 ∷ []) (pointed (digits_of (suc u) s) s) (literal (45 ∷ []) refl) (ascii_text (pointed (digits_of (suc u) s) s) (pointed_below (digits_of (suc u) s) s d.each))

operand_utf8 : (v : Operand) → OperandOk Utf8Ok v → IsUtf8 (operand_text v)
operand_utf8 (Numeric n) ok = units_utf8 n.units n.scale ok
operand_utf8 (Str s) ok = string_utf8 s.name ok
operand_utf8 (Day s) ok = both (codes "DATE ") (string_text s.name) (literal (codes "DATE ") refl) (string_utf8 s.name ok)

module _ {A : Type 0} (text : A → List ℕ) (P : A → Type 0) (each : (a : A) → P a → IsUtf8 (text a)) where
  more_utf8 : (xs : List A) → EachOk P xs → IsUtf8 (listed_text text (codes ", ") xs)
  more_utf8 [] h = IsUtf8-nil
  more_utf8 (x ∷ xs) h = both (codes ", ") (text x ++ listed_text text (codes ", ") xs) (literal (codes ", ") refl) (both (text x) (listed_text text (codes ", ") xs) (each x h.0) (more_utf8 xs h.1))

  listed_utf8 : (xs : List A) → SomeOk P xs → IsUtf8 (listed_text text [] xs)
  listed_utf8 [] h = elim h [ ]
  listed_utf8 (x ∷ xs) h = both (text x) (listed_text text (codes ", ") xs) (each x h.0) (more_utf8 xs h.1)

opening_utf8 : (b : Bool) → IsUtf8 (opening b)
opening_utf8 true = literal (codes "(") refl
opening_utf8 false = IsUtf8-nil

closing_utf8 : (b : Bool) → IsUtf8 (closing b)
closing_utf8 true = literal (codes ")") refl
closing_utf8 false = IsUtf8-nil

wrapped_utf8 : (t : Bool) (l p r : List ℕ) → IsUtf8 l → IsUtf8 p → IsUtf8 r → IsUtf8 (opening t ++ (l ++ (p ++ (r ++ closing t))))
wrapped_utf8 t l p r a b c = both (opening t) (l ++ (p ++ (r ++ closing t))) (opening_utf8 t) (both l (p ++ (r ++ closing t)) a (both p (r ++ closing t) b (both r (closing t) c (closing_utf8 t))))

expr_utf8 : (side : Side) (e : Expr) → ExprOk Utf8Ok e → IsUtf8 (expr_text side e)
expr_utf8 side (Column n) ok = name_utf8 n.name ok
expr_utf8 side (Number n) ok = units_utf8 n.units n.scale ok
expr_utf8 side (Add a b) ok = wrapped_utf8 (wraps_loose side) (expr_text Left a) (codes " + ") (expr_text Middle b) (expr_utf8 Left a ok.0) (literal (codes " + ") refl) (expr_utf8 Middle b ok.1)
expr_utf8 side (Sub a b) ok = wrapped_utf8 (wraps_loose side) (expr_text Left a) (codes " - ") (expr_text Middle b) (expr_utf8 Left a ok.0) (literal (codes " - ") refl) (expr_utf8 Middle b ok.1)
expr_utf8 side (Mul at a b) ok = wrapped_utf8 (wraps_tight side) (expr_text Middle a) (codes " * ") (expr_text Right b) (expr_utf8 Middle a ok.0) (literal (codes " * ") refl) (expr_utf8 Right b ok.1)

cmp_utf8 : (op : Comparison) → IsUtf8 (cmp_text op)
cmp_utf8 cmps.Eq = literal (codes " = ") refl
cmp_utf8 cmps.Ne = literal (codes " <> ") refl
cmp_utf8 cmps.Lt = literal (codes " < ") refl
cmp_utf8 cmps.Le = literal (codes " <= ") refl
cmp_utf8 cmps.Gt = literal (codes " > ") refl
cmp_utf8 cmps.Ge = literal (codes " >= ") refl

between_utf8 : (t : Bool) (c : Name) (low high : Operand) → IsUtf8 (between_word t) → IsUtf8 c.name → OperandOk Utf8Ok low → OperandOk Utf8Ok high → IsUtf8 (between_text t c low high)
between_utf8 t c low high word n p q =
    both (name_text c.name) (between_word t ++ (operand_text low ++ (codes " AND " ++ operand_text high))) (name_utf8 c.name n)
    (both (between_word t) (operand_text low ++ (codes " AND " ++ operand_text high)) word
    (both (operand_text low) (codes " AND " ++ operand_text high) (operand_utf8 low p) (both (codes " AND ") (operand_text high) (literal (codes " AND ") refl) (operand_utf8 high q))))

members_utf8 : (t : Bool) (c : Name) (vs : List Operand) → IsUtf8 (in_word t) → IsUtf8 c.name → SomeOk (OperandOk Utf8Ok) vs → IsUtf8 (members_text t c vs)
members_utf8 t c vs word n p =
    both (name_text c.name) (in_word t ++ (listed_text operand_text [] vs ++ codes ")")) (name_utf8 c.name n)
    (both (in_word t) (listed_text operand_text [] vs ++ codes ")") word (both (listed_text operand_text [] vs) (codes ")") (listed_utf8 operand_text (OperandOk Utf8Ok) operand_utf8 vs p) (literal (codes ")") refl)))

null_utf8 : (t : Bool) (c : Name) → IsUtf8 (null_word t) → IsUtf8 c.name → IsUtf8 (null_text t c)
null_utf8 t c word n = both (name_text c.name) (null_word t) (name_utf8 c.name n) word

not_utf8 : (t : List ℕ) → IsUtf8 t → IsUtf8 (codes "NOT " ++ t)
not_utf8 t u = both (codes "NOT ") t (literal (codes "NOT ") refl) u

negated_utf8 : (a : Pred) (t : List ℕ) → PredOk Utf8Ok a → IsUtf8 t → IsUtf8 (negated_text a t)
negated_utf8 (Between c low high) t ok u = between_utf8 true c low high (literal (codes " NOT BETWEEN ") refl) ok.0 ok.1 ok.2
negated_utf8 (OneOf c vs) t ok u = members_utf8 true c vs (literal (codes " NOT IN (") refl) ok.0 ok.1
negated_utf8 (IsNull c) t ok u = null_utf8 true c (literal (codes " IS NOT NULL") refl) ok
negated_utf8 (Compare c op v) t ok u = not_utf8 t u
negated_utf8 (Columns c op d) t ok u = not_utf8 t u
negated_utf8 (Negation a) t ok u = not_utf8 t u
negated_utf8 (Both a b) t ok u = not_utf8 t u
negated_utf8 (Either a b) t ok u = not_utf8 t u

pred_utf8 : (side : Side) (a : Pred) → PredOk Utf8Ok a → IsUtf8 (pred_text side a)
pred_utf8 side (Compare c op v) ok = both (name_text c.name) (cmp_text op ++ operand_text v) (name_utf8 c.name ok.0) (both (cmp_text op) (operand_text v) (cmp_utf8 op) (operand_utf8 v ok.1))
pred_utf8 side (Columns c op d) ok = both (name_text c.name) (cmp_text op ++ name_text d.name) (name_utf8 c.name ok.0) (both (cmp_text op) (name_text d.name) (cmp_utf8 op) (name_utf8 d.name ok.1))
pred_utf8 side (Between c low high) ok = between_utf8 false c low high (literal (codes " BETWEEN ") refl) ok.0 ok.1 ok.2
pred_utf8 side (OneOf c vs) ok = members_utf8 false c vs (literal (codes " IN (") refl) ok.0 ok.1
pred_utf8 side (IsNull c) ok = null_utf8 false c (literal (codes " IS NULL") refl) ok
pred_utf8 side (Negation a) ok = negated_utf8 a (pred_text Right a) ok (pred_utf8 Right a ok)
pred_utf8 side (Both a b) ok = wrapped_utf8 (wraps_tight side) (pred_text Middle a) (codes " AND ") (pred_text Right b) (pred_utf8 Middle a ok.0) (literal (codes " AND ") refl) (pred_utf8 Right b ok.1)
pred_utf8 side (Either a b) ok = wrapped_utf8 (wraps_loose side) (pred_text Left a) (codes " OR ") (pred_text Middle b) (pred_utf8 Left a ok.0) (literal (codes " OR ") refl) (pred_utf8 Middle b ok.1)

call_utf8 : (kind : CallKind) → IsUtf8 (call_text kind)
call_utf8 calls.Count = literal (codes "COUNT(") refl
call_utf8 calls.Sum = literal (codes "SUM(") refl
call_utf8 calls.Avg = literal (codes "AVG(") refl
call_utf8 calls.Min = literal (codes "MIN(") refl
call_utf8 calls.Max = literal (codes "MAX(") refl

module _ (n : ℕ) where
  item_utf8 : (i : Item) → ItemOk Utf8Ok n i → IsUtf8 (item_text i)
  item_utf8 (Plain s) ok = name_utf8 s.name ok
  item_utf8 CountAll ok = literal (codes "COUNT(*)") refl
  item_utf8 (Call kind e) ok = both (call_text kind) (expr_text Left e ++ codes ")") (call_utf8 kind) (both (expr_text Left e) (codes ")") (expr_utf8 Left e ok.1) (literal (codes ")") refl))

  head_utf8 : (h : Head) (e : Ending) → HeadOk Utf8Ok n h e → IsUtf8 (head_text h)
  head_utf8 (Items xs) e ok = listed_utf8 item_text (ItemOk Utf8Ok n) item_utf8 xs ok.0
  head_utf8 Star e ok = literal (codes "*") refl

  filter_utf8 : (f : Option Pred) → FilterOk Utf8Ok n f → IsUtf8 (filter_text f)
  filter_utf8 None ok = IsUtf8-nil
  filter_utf8 (Some a) ok = both (codes " WHERE ") (pred_text Left a) (literal (codes " WHERE ") refl) (pred_utf8 Left a ok.1)

  limit_units : (z : ℤ) (s : ℕ) → LimitOk Utf8Ok n z s → UnitsOk Utf8Ok z s
  limit_units (pos u) s h = h
  limit_units (negsuc u) s h = elim h [ ]

  direction_utf8 : (down : Bool) → IsUtf8 (direction_text down)
  direction_utf8 true = literal (codes " DESC LIMIT ") refl
  direction_utf8 false = literal (codes " LIMIT ") refl

  ending_utf8 : (h : Head) (e : Ending) → HeadOk Utf8Ok n h e → IsUtf8 (ending_text e)
  ending_utf8 h Nothing ok = IsUtf8-nil
  ending_utf8 (Items xs) (Grouped ns) ok =
      both (codes " GROUP BY ") (listed_text (λ s. name_text s.name) [] ns) (literal (codes " GROUP BY ") refl) (listed_utf8 (λ (s : Name). name_text s.name) (λ (s : Name). Utf8Ok (NAME s.name)) (λ s k. name_utf8 s.name k) ns ok.1)
  ending_utf8 Star (Grouped ns) ok = elim ok [ ]
  ending_utf8 (Items xs) (Ordered key down limit) ok = elim ok.1 [ ]
  ending_utf8 Star (Ordered key down limit) ok =
      both (codes " ORDER BY ") (name_text key.name ++ (direction_text down ++ num_text limit)) (literal (codes " ORDER BY ") refl)
      (both (name_text key.name) (direction_text down ++ num_text limit) (name_utf8 key.name ok.0) (both (direction_text down) (num_text limit) (direction_utf8 down) (units_utf8 limit.units limit.scale (limit_units limit.units limit.scale ok.1))))

  query_utf8 : (q : Query) → QueryOk Utf8Ok n q → IsUtf8 (printed q)
  query_utf8 q ok =
      let tail : List ℕ = filter_text q.pred ++ ending_text q.ending in
      both (codes "SELECT ") (head_text q.head ++ (codes " FROM " ++ (name_text q.table.name ++ tail))) (literal (codes "SELECT ") refl)
      (both (head_text q.head) (codes " FROM " ++ (name_text q.table.name ++ tail)) (head_utf8 q.head q.ending ok.0)
      (both (codes " FROM ") (name_text q.table.name ++ tail) (literal (codes " FROM ") refl)
      (both (name_text q.table.name) tail (name_utf8 q.table.name ok.1) (both (filter_text q.pred) (ending_text q.ending) (filter_utf8 q.pred ok.2) (ending_utf8 q.head q.ending ok.0)))))

pub printed_utf8 : (text : List ℕ) (q : Query) → IsText text q → IsUtf8 text → IsUtf8 (printed q)
printed_utf8 text q h u = query_utf8 most_levels q (query_ok Utf8Ok most_levels h.tokens q (all_text h.cut u) h.sentence)
