-- The printed form of a query is cut into the tokens of its marks.
use Rattle.std.proofs.Common.{◌≡◌, ℕ, ◌≤◌, List, [], ◌∷◌, ◌++◌, length, Bool, true, false, Option, Some, None, refl, sym, subst, append_assoc, arith}
use Rattle.std.specs.Prelude.{ℤ, pos, negsuc, codes}
use Rattle.std.proofs.lemmas.List.{append-nil}
use Rattle.sql_tokens.specs.declared.token.Fixed.TheVariants as fixed
use Rattle.sql_tokens.specs.Lexeme.{Mark, FIXED, NAME, STRING}
use Rattle.sql_tokens.specs.Spelling.{IsToken, Splits, stops, BeginsNone}
use Rattle.sql_tokens.proofs.Cutting.{token_long}
use Rattle.sql_text.specs.declared.tree.Comparison.{Comparison}
use Rattle.sql_text.specs.declared.tree.Comparison.TheVariants as cmps
use Rattle.sql_text.specs.declared.tree.CallKind.{CallKind}
use Rattle.sql_text.specs.declared.tree.CallKind.TheVariants as calls
use Rattle.sql_print.specs.declared.printing.Side.{Side}
use Rattle.sql_print.specs.declared.printing.Side.TheVariants.{Left, Middle, Right}
use Rattle.sql_text.specs.Tree.{Name, Expr, Column, Number, Add, Sub, Mul, Item, Plain, CountAll, Call, Head, Items, Star, Operand, Numeric, Str, Day, Pred, Compare, Columns, Between, OneOf, IsNull, Negation, Both, Either, Ending, Nothing, Grouped, Ordered, Query}
use Rattle.sql_print.specs.Printed.{name_text, string_text, num_text, operand_text, listed_text, opening, closing, wraps_loose, wraps_tight, expr_text, call_text, item_text, head_text, cmp_text, between_word, in_word, null_word, between_text, members_text, null_text, negated_text, pred_text, filter_text, direction_text, ending_text, printed}
use Rattle.sql_print.specs.Bare.{bare}
use Rattle.sql_text.specs.Answer.{most_levels, IsText}
use Rattle.sql_print.proofs.ExprBack.{units_marks, wrapped, expr_marks, UnitsOk, ExprOk}
use Rattle.sql_print.proofs.PredBack.{operand_marks, sign_of, more_marks, listed_marks, negated_marks, pred_marks, EachOk, SomeOk, OperandOk, PredOk}
use Rattle.sql_print.proofs.QueryBack.{item_marks, head_marks, filter_marks, name_marks, direction_marks, ending_marks, query_marks, call_fixed, ItemOk, FilterOk, LimitOk, HeadOk, QueryOk, query_ok, query_back}
use Rattle.sql_print.proofs.Spelled.{Safe, Any, Follow, no_letter, Cuts, cuts_nil, cuts_less, cuts_append, cuts_string}
use Rattle.sql_print.proofs.Numerals.{KeepsUnits, cuts_number}
use Rattle.sql_print.proofs.TokenFacts.{MarkOk, all_ok, safe_letter, name_cut}
use Rattle.sql_print.proofs.Pieces as piece

-- ---- pieces

-- a piece whatever follows, and then more
behind : (t t' : List ℕ) (ms ms' : List Mark) → Cuts Any t ms → Cuts Safe t' ms' → Cuts Safe (t ++ t') (ms ++ ms')
behind t t' ms ms' c d = cuts_append Any Safe t t' ms ms' (λ w h. tt) c d

-- a value, and then what begins safely
before : (t t' : List ℕ) (ms ms' : List Mark) → ((w : List ℕ) → Safe w → Safe (t' ++ w)) → Cuts Safe t ms → Cuts Safe t' ms' → Cuts Safe (t ++ t') (ms ++ ms')
before t t' ms ms' f c d = cuts_append Safe Safe t t' ms ms' f c d

ended : (t : List ℕ) (ms : List Mark) → Cuts Any t ms → Cuts Safe t ms
ended t ms c = cuts_less Any Safe t ms (λ w h. tt) c

-- two operands and the sign between them
binary : (l p r : List ℕ) (ml mr : List Mark) (m : Mark) → ((w : List ℕ) → Safe ((p ++ r) ++ w)) → Cuts Safe l ml → Cuts Any p (m ∷ []) → Cuts Safe r mr → Cuts Safe (l ++ (p ++ r)) (ml ++ (m ∷ mr))
binary l p r ml mr m f c d e = before l (p ++ r) ml (m ∷ mr) (λ w h. f w) c (behind p r (m ∷ []) mr d e)

wrapped_cut : (b : Bool) (l p r : List ℕ) (ml mr : List Mark) (m : Mark) → ((x w : List ℕ) → Safe ((p ++ x) ++ w)) → Cuts Safe l ml → Cuts Any p (m ∷ []) → Cuts Safe r mr → Cuts Safe (opening b ++ (l ++ (p ++ (r ++ closing b)))) (wrapped b (ml ++ (m ∷ mr)))
wrapped_cut false l p r ml mr m f c d e =
    subst (λ x. Cuts Safe (l ++ (p ++ x)) (ml ++ (m ∷ mr))) (sym (append-nil r)) (binary l p r ml mr m (f r) c d e)
wrapped_cut true l p r ml mr m f c d e =
    let close : Cuts Safe (r ++ codes ")") (mr ++ (FIXED fixed.Close ∷ [])) = before r (codes ")") mr (FIXED fixed.Close ∷ []) (λ w h. refl) e (ended (codes ")") (FIXED fixed.Close ∷ []) piece.close_cut) in
    let inner : Cuts Safe (l ++ (p ++ (r ++ codes ")"))) (ml ++ (m ∷ (mr ++ (FIXED fixed.Close ∷ [])))) = binary l p (r ++ codes ")") ml (mr ++ (FIXED fixed.Close ∷ [])) m (f (r ++ codes ")")) c d close in
    subst (λ ms. Cuts Safe (codes "(" ++ (l ++ (p ++ (r ++ codes ")")))) (FIXED fixed.Open ∷ ms)) (sym (append_assoc ml (m ∷ mr) (FIXED fixed.Close ∷ [])))
    (behind (codes "(") (l ++ (p ++ (r ++ codes ")"))) (FIXED fixed.Open ∷ []) (ml ++ (m ∷ (mr ++ (FIXED fixed.Close ∷ [])))) piece.open_cut inner)

-- ---- lists

listed_safe : {A : Type 0} (text : A → List ℕ) (xs : List A) (w : List ℕ) → Safe w → Safe (listed_text text (codes ", ") xs ++ w)
listed_safe text [] w h = h
listed_safe text (x ∷ xs) w h = refl

module _ {A : Type 0} (text : A → List ℕ) (f : A → List Mark) (P : A → Type 0) (each : (a : A) → P a → Cuts Safe (text a) (f a)) where
  more_cut : (xs : List A) → EachOk P xs → Cuts Safe (listed_text text (codes ", ") xs) (more_marks f xs)
  more_cut [] h = cuts_nil Safe
  more_cut (x ∷ xs) h =
      behind (codes ", ") (text x ++ listed_text text (codes ", ") xs) (FIXED fixed.Comma ∷ []) (f x ++ more_marks f xs) piece.comma_cut
      (before (text x) (listed_text text (codes ", ") xs) (f x) (more_marks f xs) (listed_safe text xs) (each x h.0) (more_cut xs h.1))

  listed_cut : (xs : List A) → SomeOk P xs → Cuts Safe (listed_text text [] xs) (listed_marks f xs)
  listed_cut [] h = elim h [ ]
  listed_cut (x ∷ xs) h = before (text x) (listed_text text (codes ", ") xs) (f x) (more_marks f xs) (listed_safe text xs) (each x h.0) (more_cut xs h.1)

-- ---- values and expressions

units_keep : (z : ℤ) (s : ℕ) → UnitsOk MarkOk z s → KeepsUnits z s
units_keep (pos u) s h = h.1
units_keep (negsuc u) s h = h.1

operand_cut : (v : Operand) → OperandOk MarkOk v → Cuts Safe (operand_text v) (operand_marks v)
operand_cut (Numeric n) ok = cuts_number n.units n.scale (units_keep n.units n.scale ok)
operand_cut (Str s) ok = cuts_string s.name
operand_cut (Day s) ok = behind (codes "DATE ") (string_text s.name) (FIXED fixed.Date ∷ []) (STRING s.name ∷ []) piece.date_cut (cuts_string s.name)

expr_cut : (side : Side) (e : Expr) → ExprOk MarkOk e → Cuts Safe (expr_text side e) (expr_marks side e)
expr_cut side (Column n) ok = name_cut n.name ok
expr_cut side (Number n) ok = cuts_number n.units n.scale (units_keep n.units n.scale ok)
expr_cut side (Add a b) ok =
    wrapped_cut (wraps_loose side) (expr_text Left a) (codes " + ") (expr_text Middle b) (expr_marks Left a) (expr_marks Middle b) (FIXED fixed.Plus) (λ x w. refl) (expr_cut Left a ok.0) piece.plus_cut (expr_cut Middle b ok.1)
expr_cut side (Sub a b) ok =
    wrapped_cut (wraps_loose side) (expr_text Left a) (codes " - ") (expr_text Middle b) (expr_marks Left a) (expr_marks Middle b) (FIXED fixed.Minus) (λ x w. refl) (expr_cut Left a ok.0) piece.minus_cut (expr_cut Middle b ok.1)
expr_cut side (Mul at a b) ok =
    wrapped_cut (wraps_tight side) (expr_text Middle a) (codes " * ") (expr_text Right b) (expr_marks Middle a) (expr_marks Right b) (FIXED fixed.Star) (λ x w. refl) (expr_cut Middle a ok.0) piece.times_cut (expr_cut Right b ok.1)

-- ---- predicates

cmp_cut : (op : Comparison) → Cuts Any (cmp_text op) (FIXED (sign_of op) ∷ [])
cmp_cut cmps.Eq = piece.eq_cut
cmp_cut cmps.Ne = piece.ne_cut
cmp_cut cmps.Lt = piece.lt_cut
cmp_cut cmps.Le = piece.le_cut
cmp_cut cmps.Gt = piece.gt_cut
cmp_cut cmps.Ge = piece.ge_cut

cmp_safe : (op : Comparison) (x w : List ℕ) → Safe ((cmp_text op ++ x) ++ w)
cmp_safe cmps.Eq x w = refl
cmp_safe cmps.Ne x w = refl
cmp_safe cmps.Lt x w = refl
cmp_safe cmps.Le x w = refl
cmp_safe cmps.Gt x w = refl
cmp_safe cmps.Ge x w = refl

and_then : (low high : Operand) → OperandOk MarkOk low → OperandOk MarkOk high → Cuts Safe (operand_text low ++ (codes " AND " ++ operand_text high)) (operand_marks low ++ (FIXED fixed.And ∷ operand_marks high))
and_then low high p q = binary (operand_text low) (codes " AND ") (operand_text high) (operand_marks low) (operand_marks high) (FIXED fixed.And) (λ w. refl) (operand_cut low p) piece.and_cut (operand_cut high q)

closed_list : (vs : List Operand) → SomeOk (OperandOk MarkOk) vs → Cuts Safe (listed_text operand_text [] vs ++ codes ")") (listed_marks operand_marks vs ++ (FIXED fixed.Close ∷ []))
closed_list vs h = before (listed_text operand_text [] vs) (codes ")") (listed_marks operand_marks vs) (FIXED fixed.Close ∷ []) (λ w h. refl) (listed_cut operand_text operand_marks (OperandOk MarkOk) operand_cut vs h) (ended (codes ")") (FIXED fixed.Close ∷ []) piece.close_cut)

between_cut : (negated : Bool) (c : Name) (low high : Operand) (ms : List Mark) → Cuts Any (between_word negated) ms → ((x w : List ℕ) → Safe ((between_word negated ++ x) ++ w)) → MarkOk (NAME c.name) → OperandOk MarkOk low → OperandOk MarkOk high
    → Cuts Safe (between_text negated c low high) (NAME c.name ∷ (ms ++ (operand_marks low ++ (FIXED fixed.And ∷ operand_marks high))))
between_cut negated c low high ms word safe n p q =
    let rest : List ℕ = operand_text low ++ (codes " AND " ++ operand_text high) in
    let marks : List Mark = operand_marks low ++ (FIXED fixed.And ∷ operand_marks high) in
    before (name_text c.name) (between_word negated ++ rest) (NAME c.name ∷ []) (ms ++ marks) (λ w h. safe rest w) (name_cut c.name n) (behind (between_word negated) rest ms marks word (and_then low high p q))

members_cut : (negated : Bool) (c : Name) (vs : List Operand) (ms : List Mark) → Cuts Any (in_word negated) ms → ((x w : List ℕ) → Safe ((in_word negated ++ x) ++ w)) → MarkOk (NAME c.name) → SomeOk (OperandOk MarkOk) vs
    → Cuts Safe (members_text negated c vs) (NAME c.name ∷ (ms ++ (listed_marks operand_marks vs ++ (FIXED fixed.Close ∷ []))))
members_cut negated c vs ms word safe n p =
    let rest : List ℕ = listed_text operand_text [] vs ++ codes ")" in
    let marks : List Mark = listed_marks operand_marks vs ++ (FIXED fixed.Close ∷ []) in
    before (name_text c.name) (in_word negated ++ rest) (NAME c.name ∷ []) (ms ++ marks) (λ w h. safe rest w) (name_cut c.name n) (behind (in_word negated) rest ms marks word (closed_list vs p))

null_cut : (negated : Bool) (c : Name) (ms : List Mark) → Cuts (Follow no_letter) (null_word negated) ms → ((w : List ℕ) → Safe (null_word negated ++ w)) → MarkOk (NAME c.name) → Cuts Safe (null_text negated c) (NAME c.name ∷ ms)
null_cut negated c ms word safe n = before (name_text c.name) (null_word negated) (NAME c.name ∷ []) ms (λ w h. safe w) (name_cut c.name n) (cuts_less (Follow no_letter) Safe (null_word negated) ms safe_letter word)

negated_cut : (a : Pred) (t : List ℕ) (ms : List Mark) → PredOk MarkOk a → Cuts Safe t ms → Cuts Safe (negated_text a t) (negated_marks a ms)
negated_cut (Between c low high) t ms ok h = between_cut true c low high (FIXED fixed.Not ∷ (FIXED fixed.Between ∷ [])) piece.not_between_cut (λ x w. refl) ok.0 ok.1 ok.2
negated_cut (OneOf c vs) t ms ok h = members_cut true c vs (FIXED fixed.Not ∷ (FIXED fixed.In ∷ (FIXED fixed.Open ∷ []))) piece.not_in_list_cut (λ x w. refl) ok.0 ok.1
negated_cut (IsNull c) t ms ok h = null_cut true c (FIXED fixed.Is ∷ (FIXED fixed.Not ∷ (FIXED fixed.Null ∷ []))) piece.not_null_cut (λ w. refl) ok
negated_cut (Compare c op v) t ms ok h = behind (codes "NOT ") t (FIXED fixed.Not ∷ []) ms piece.not_cut h
negated_cut (Columns c op d) t ms ok h = behind (codes "NOT ") t (FIXED fixed.Not ∷ []) ms piece.not_cut h
negated_cut (Negation a) t ms ok h = behind (codes "NOT ") t (FIXED fixed.Not ∷ []) ms piece.not_cut h
negated_cut (Both a b) t ms ok h = behind (codes "NOT ") t (FIXED fixed.Not ∷ []) ms piece.not_cut h
negated_cut (Either a b) t ms ok h = behind (codes "NOT ") t (FIXED fixed.Not ∷ []) ms piece.not_cut h

pred_cut : (side : Side) (a : Pred) → PredOk MarkOk a → Cuts Safe (pred_text side a) (pred_marks side a)
pred_cut side (Compare c op v) ok = binary (name_text c.name) (cmp_text op) (operand_text v) (NAME c.name ∷ []) (operand_marks v) (FIXED (sign_of op)) (cmp_safe op (operand_text v)) (name_cut c.name ok.0) (cmp_cut op) (operand_cut v ok.1)
pred_cut side (Columns c op d) ok = binary (name_text c.name) (cmp_text op) (name_text d.name) (NAME c.name ∷ []) (NAME d.name ∷ []) (FIXED (sign_of op)) (cmp_safe op (name_text d.name)) (name_cut c.name ok.0) (cmp_cut op) (name_cut d.name ok.1)
pred_cut side (Between c low high) ok = between_cut false c low high (FIXED fixed.Between ∷ []) piece.between_cut (λ x w. refl) ok.0 ok.1 ok.2
pred_cut side (OneOf c vs) ok = members_cut false c vs (FIXED fixed.In ∷ (FIXED fixed.Open ∷ [])) piece.in_list_cut (λ x w. refl) ok.0 ok.1
pred_cut side (IsNull c) ok = null_cut false c (FIXED fixed.Is ∷ (FIXED fixed.Null ∷ [])) piece.null_cut (λ w. refl) ok
pred_cut side (Negation a) ok = negated_cut a (pred_text Right a) (pred_marks Right a) ok (pred_cut Right a ok)
pred_cut side (Both a b) ok =
    wrapped_cut (wraps_tight side) (pred_text Middle a) (codes " AND ") (pred_text Right b) (pred_marks Middle a) (pred_marks Right b) (FIXED fixed.And) (λ x w. refl) (pred_cut Middle a ok.0) piece.and_cut (pred_cut Right b ok.1)
pred_cut side (Either a b) ok =
    wrapped_cut (wraps_loose side) (pred_text Left a) (codes " OR ") (pred_text Middle b) (pred_marks Left a) (pred_marks Middle b) (FIXED fixed.Or) (λ x w. refl) (pred_cut Left a ok.0) piece.or_cut (pred_cut Middle b ok.1)

-- ---- queries

call_cut : (kind : CallKind) → Cuts Any (call_text kind) (FIXED (call_fixed kind) ∷ (FIXED fixed.Open ∷ []))
call_cut calls.Count = piece.count_of_cut
call_cut calls.Sum = piece.sum_cut
call_cut calls.Avg = piece.avg_cut
call_cut calls.Min = piece.min_cut
call_cut calls.Max = piece.max_cut

module _ (n : ℕ) where
  item_cut : (i : Item) → ItemOk MarkOk n i → Cuts Safe (item_text i) (item_marks i)
  item_cut (Plain s) ok = name_cut s.name ok
  item_cut CountAll ok = ended (codes "COUNT(*)") (item_marks CountAll) piece.count_cut
  item_cut (Call kind e) ok =
      behind (call_text kind) (expr_text Left e ++ codes ")") (FIXED (call_fixed kind) ∷ (FIXED fixed.Open ∷ [])) (expr_marks Left e ++ (FIXED fixed.Close ∷ [])) (call_cut kind)
      (before (expr_text Left e) (codes ")") (expr_marks Left e) (FIXED fixed.Close ∷ []) (λ w h. refl) (expr_cut Left e ok.1) (ended (codes ")") (FIXED fixed.Close ∷ []) piece.close_cut))

  head_cut : (h : Head) (e : Ending) → HeadOk MarkOk n h e → Cuts Safe (head_text h) (head_marks h)
  head_cut (Items xs) e ok = listed_cut item_text item_marks (ItemOk MarkOk n) item_cut xs ok.0
  head_cut Star e ok = ended (codes "*") (FIXED fixed.Star ∷ []) piece.star_cut

  filter_cut : (f : Option Pred) → FilterOk MarkOk n f → Cuts Safe (filter_text f) (filter_marks f)
  filter_cut None ok = cuts_nil Safe
  filter_cut (Some a) ok = behind (codes " WHERE ") (pred_text Left a) (FIXED fixed.Where ∷ []) (pred_marks Left a) piece.where_cut (pred_cut Left a ok.1)

  limit_cut : (z : ℤ) (s : ℕ) → LimitOk MarkOk n z s → KeepsUnits z s
  limit_cut (pos u) s h = h.1
  limit_cut (negsuc u) s h = elim h [ ]

  direction_cut : (down : Bool) → Cuts Any (direction_text down) (direction_marks down ++ (FIXED fixed.Limit ∷ []))
  direction_cut true = piece.desc_cut
  direction_cut false = piece.limit_cut

  direction_safe : (down : Bool) (x w : List ℕ) → Safe ((direction_text down ++ x) ++ w)
  direction_safe true x w = refl
  direction_safe false x w = refl

  ending_cut : (h : Head) (e : Ending) → HeadOk MarkOk n h e → Cuts Safe (ending_text e) (ending_marks e)
  ending_cut h Nothing ok = cuts_nil Safe
  ending_cut (Items xs) (Grouped ns) ok =
      behind (codes " GROUP BY ") (listed_text (λ s. name_text s.name) [] ns) (FIXED fixed.Group ∷ (FIXED fixed.By ∷ [])) (listed_marks name_marks ns) piece.group_by_cut
      (listed_cut (λ (s : Name). name_text s.name) name_marks (λ (s : Name). MarkOk (NAME s.name)) (λ s k. name_cut s.name k) ns ok.1)
  ending_cut Star (Grouped ns) ok = elim ok [ ]
  ending_cut (Items xs) (Ordered key down limit) ok = elim ok.1 [ ]
  ending_cut Star (Ordered key down limit) ok =
      let us : List Mark = units_marks limit.units limit.scale in
      let limited : Cuts Safe (direction_text down ++ num_text limit) (direction_marks down ++ (FIXED fixed.Limit ∷ us)) =
      subst (Cuts Safe (direction_text down ++ num_text limit)) (append_assoc (direction_marks down) (FIXED fixed.Limit ∷ []) us)
      (behind (direction_text down) (num_text limit) (direction_marks down ++ (FIXED fixed.Limit ∷ [])) us (direction_cut down) (cuts_number limit.units limit.scale (limit_cut limit.units limit.scale ok.1))) in
      behind (codes " ORDER BY ") (name_text key.name ++ (direction_text down ++ num_text limit)) (FIXED fixed.Order ∷ (FIXED fixed.By ∷ [])) (NAME key.name ∷ (direction_marks down ++ (FIXED fixed.Limit ∷ us))) piece.order_by_cut
      (before (name_text key.name) (direction_text down ++ num_text limit) (NAME key.name ∷ []) (direction_marks down ++ (FIXED fixed.Limit ∷ us)) (λ w h. direction_safe down (num_text limit) w) (name_cut key.name ok.0) limited)

  ending_safe : (e : Ending) (w : List ℕ) → Safe w → Safe (ending_text e ++ w)
  ending_safe Nothing w h = h
  ending_safe (Grouped ns) w h = refl
  ending_safe (Ordered key down limit) w h = refl

  tail_safe : (f : Option Pred) (e : Ending) (w : List ℕ) → Safe w → Safe ((filter_text f ++ ending_text e) ++ w)
  tail_safe None e w h = ending_safe e w h
  tail_safe (Some a) e w h = refl

  query_cut : (q : Query) → QueryOk MarkOk n q → Cuts Safe (printed q) (query_marks q)
  query_cut q ok =
      let tail : List ℕ = filter_text q.pred ++ ending_text q.ending in
      let tail_marks : List Mark = filter_marks q.pred ++ ending_marks q.ending in
      let last : Cuts Safe tail tail_marks = before (filter_text q.pred) (ending_text q.ending) (filter_marks q.pred) (ending_marks q.ending) (ending_safe q.ending) (filter_cut q.pred ok.2) (ending_cut q.head q.ending ok.0) in
      let named : Cuts Safe (name_text q.table.name ++ tail) (NAME q.table.name ∷ tail_marks) = before (name_text q.table.name) tail (NAME q.table.name ∷ []) tail_marks (tail_safe q.pred q.ending) (name_cut q.table.name ok.1) last in
      let from : Cuts Safe (codes " FROM " ++ (name_text q.table.name ++ tail)) (FIXED fixed.From ∷ (NAME q.table.name ∷ tail_marks)) = behind (codes " FROM ") (name_text q.table.name ++ tail) (FIXED fixed.From ∷ []) (NAME q.table.name ∷ tail_marks) piece.from_cut named in
      behind (codes "SELECT ") (head_text q.head ++ (codes " FROM " ++ (name_text q.table.name ++ tail))) (FIXED fixed.Select ∷ []) (head_marks q.head ++ (FIXED fixed.From ∷ (NAME q.table.name ∷ tail_marks))) piece.select_cut
      (before (head_text q.head) (codes " FROM " ++ (name_text q.table.name ++ tail)) (head_marks q.head) (FIXED fixed.From ∷ (NAME q.table.name ∷ tail_marks)) (λ w h. refl) (head_cut q.head q.ending ok.0) from)

-- ---- read back

no_token : (u v : List ℕ) (m : Mark) → [] ≡ u ++ v → IsToken u m → ⊥
no_token [] v m e tok = let l = token_long [] m tok in omega (arith, l)
no_token (b ∷ u) v m e tok = cc

none_begins : BeginsNone []
none_begins = (no_token, λ b v e k. cc)

pub read_back : (text : List ℕ) (q : Query) → IsText text q → length (printed q) ≤ 4096 → (p : Query) × IsText (printed q) p × (bare p ≡ bare q)
read_back text q h short =
    let ok = query_ok MarkOk most_levels h.tokens q (all_ok h.cut) h.sentence in
    let cut = query_cut most_levels q ok 0 [] [] [] tt (stops none_begins) in
    let back = query_back MarkOk most_levels q ok cut.0 cut.1 in
    let splits : Splits 0 (printed q) cut.0 [] = subst (λ s. Splits 0 s cut.0 []) (append-nil (printed q)) (subst (λ ts. Splits 0 (printed q ++ []) ts []) (append-nil cut.0) cut.2) in
    (back.0, record { tokens = cut.0; short = short; cut = splits; sentence = back.1 }, back.2)
