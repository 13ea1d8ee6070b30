-- The printed form of a query.
use Rattle.std.specs.Prelude.{ℕ, suc, ◌+◌, ◌-◌, ℤ, pos, negsuc, List, [], ◌∷◌, ◌++◌, length, take, drop}
use Rattle.std.specs.Prelude.{replicate, Bool, true, false, Option, Some, None, decimal, nat_eq, codes, if◌then◌else◌}
use Rattle.sql_tokens.specs.Spelling.{doubled, is_plain_name}
use Rattle.sql_text.specs.declared.tree.Num.{Num}
use Rattle.sql_text.specs.declared.tree.Comparison.{Comparison}
use Rattle.sql_text.specs.declared.tree.Comparison.TheVariants.{Eq, Ne, Lt, Le, Gt, Ge}
use Rattle.sql_text.specs.declared.tree.CallKind.{CallKind}
use Rattle.sql_text.specs.declared.tree.CallKind.TheVariants.{Count, Sum, Avg, Min, Max}
use Rattle.sql_print.specs.declared.printing.Side.{Side}
use Rattle.sql_print.specs.declared.printing.Side.TheVariants.{Left, Middle, Right}
use Rattle.sql_text.specs.Tree.{Name, Expr, Column, Number, Add, Sub, Mul, Item, Plain, CountAll, Call, Head}
use Rattle.sql_text.specs.Tree.{Items, Star, Operand, Numeric, Str, Day, Pred, Compare, Columns, Between}
use Rattle.sql_text.specs.Tree.{OneOf, IsNull, Negation, Both, Either, Ending, Nothing, Grouped, Ordered, Query}

-- ---- names, numbers and values

-- as it is, or in double quotes where it would not read as a name: where it has other bytes, or is a keyword
abbrev pub name_text : List ℕ → List ℕ
name_text s = if is_plain_name s then s else 34 ∷ (s ++ (34 ∷ []))

-- in single quotes, each of its own written twice
abbrev pub string_text : List ℕ → List ℕ
string_text s = 39 ∷ (doubled s ++ (39 ∷ []))

abbrev pub sign_text : ℤ → List ℕ
sign_text (pos n) = []
sign_text (negsuc n) = 45 ∷ []

abbrev pub size_of : ℤ → ℕ
size_of (pos n) = n
size_of (negsuc n) = suc n

-- the digits of a number, more of them than stand behind its point
unfoldable pub digits_of : ℕ → ℕ → List ℕ
digits_of units scale = replicate ((scale + 1) - length (decimal units)) 48 ++ decimal units

-- digits, of which the last ones stand behind a point
unfoldable pub pointed : List ℕ → ℕ → List ℕ
pointed digits scale = if nat_eq scale 0 then digits else take (length digits - scale) digits ++ (46 ∷ drop (length digits - scale) digits)

abbrev pub num_text : Num → List ℕ
num_text n = sign_text n.units ++ pointed (digits_of (size_of n.units) n.scale) n.scale

abbrev pub operand_text : Operand → List ℕ
operand_text (Numeric n) = num_text n
operand_text (Str s) = string_text s.name
operand_text (Day s) = codes "DATE " ++ string_text s.name

-- what stands before each of a list, and ", " before the next ones
abbrev pub listed_text : {A : Type 0} → (A → List ℕ) → List ℕ → List A → List ℕ
listed_text text before [] = []
listed_text text before (x ∷ xs) = before ++ (text x ++ listed_text text (codes ", ") xs)

-- ---- parentheses

abbrev pub opening : Bool → List ℕ
opening true = codes "("
opening false = []

abbrev pub closing : Bool → List ℕ
closing true = codes ")"
closing false = []

-- a sum or an OR stands by itself only on the left of its like
abbrev pub wraps_loose : Side → Bool
wraps_loose Left = false
wraps_loose Middle = true
wraps_loose Right = true

-- a product or an AND stands in parentheses only on the right of its like, or under NOT
abbrev pub wraps_tight : Side → Bool
wraps_tight Left = false
wraps_tight Middle = false
wraps_tight Right = true

-- ---- expressions and items

-- on this side of the sign around it, with as few parentheses as keep its parts together
abbrev pub expr_text : Side → Expr → List ℕ
expr_text side (Column n) = name_text n.name
expr_text side (Number n) = num_text n
expr_text side (Add a b) =
    opening (wraps_loose side)
    ++ (expr_text Left a ++ (codes " + " ++ (expr_text Middle b ++ closing (wraps_loose side))))
expr_text side (Sub a b) =
    opening (wraps_loose side)
    ++ (expr_text Left a ++ (codes " - " ++ (expr_text Middle b ++ closing (wraps_loose side))))
expr_text side (Mul at a b) =
    opening (wraps_tight side)
    ++ (expr_text Middle a ++ (codes " * " ++ (expr_text Right b ++ closing (wraps_tight side))))

abbrev pub call_text : CallKind → List ℕ
call_text Count = codes "COUNT("
call_text Sum = codes "SUM("
call_text Avg = codes "AVG("
call_text Min = codes "MIN("
call_text Max = codes "MAX("

abbrev pub item_text : Item → List ℕ
item_text (Plain n) = name_text n.name
item_text CountAll = codes "COUNT(*)"
item_text (Call kind e) = call_text kind ++ (expr_text Left e ++ codes ")")

abbrev pub head_text : Head → List ℕ
head_text (Items is) = listed_text item_text [] is
head_text Star = codes "*"

-- ---- predicates

abbrev pub cmp_text : Comparison → List ℕ
cmp_text Eq = codes " = "
cmp_text Ne = codes " <> "
cmp_text Lt = codes " < "
cmp_text Le = codes " <= "
cmp_text Gt = codes " > "
cmp_text Ge = codes " >= "

abbrev pub between_word : Bool → List ℕ
between_word true = codes " NOT BETWEEN "
between_word false = codes " BETWEEN "

abbrev pub in_word : Bool → List ℕ
in_word true = codes " NOT IN ("
in_word false = codes " IN ("

abbrev pub null_word : Bool → List ℕ
null_word true = codes " IS NOT NULL"
null_word false = codes " IS NULL"

abbrev pub between_text : Bool → Name → Operand → Operand → List ℕ
between_text negated c low high = name_text c.name ++ (between_word negated ++ (operand_text low ++ (codes " AND " ++ operand_text high)))

abbrev pub members_text : Bool → Name → List Operand → List ℕ
members_text negated c vs = name_text c.name ++ (in_word negated ++ (listed_text operand_text [] vs ++ codes ")"))

abbrev pub null_text : Bool → Name → List ℕ
null_text negated c = name_text c.name ++ null_word negated

-- NOT stands before BETWEEN, IN and NULL
abbrev pub negated_text : Pred → List ℕ → List ℕ
negated_text (Between c low high) w = between_text true c low high
negated_text (OneOf c vs) w = members_text true c vs
negated_text (IsNull c) w = null_text true c
negated_text _ w = codes "NOT " ++ w

-- a condition, in the same way
abbrev pub pred_text : Side → Pred → List ℕ
pred_text side (Compare c op v) = name_text c.name ++ (cmp_text op ++ operand_text v)
pred_text side (Columns c op d) = name_text c.name ++ (cmp_text op ++ name_text d.name)
pred_text side (Between c low high) = between_text false c low high
pred_text side (OneOf c vs) = members_text false c vs
pred_text side (IsNull c) = null_text false c
pred_text side (Negation a) = negated_text a (pred_text Right a)
pred_text side (Both a b) =
    opening (wraps_tight side)
    ++ (pred_text Middle a ++ (codes " AND " ++ (pred_text Right b ++ closing (wraps_tight side))))
pred_text side (Either a b) =
    opening (wraps_loose side)
    ++ (pred_text Left a ++ (codes " OR " ++ (pred_text Middle b ++ closing (wraps_loose side))))

-- ---- queries

abbrev pub filter_text : Option Pred → List ℕ
filter_text None = []
filter_text (Some a) = codes " WHERE " ++ pred_text Left a

abbrev pub direction_text : Bool → List ℕ
direction_text true = codes " DESC LIMIT "
direction_text false = codes " LIMIT "

abbrev pub ending_text : Ending → List ℕ
ending_text Nothing = []
ending_text (Grouped ns) = codes " GROUP BY " ++ listed_text (λ n. name_text n.name) [] ns
ending_text (Ordered key down limit) = codes " ORDER BY " ++ (name_text key.name ++ (direction_text down ++ num_text limit))

-- the printed form of a query: words in capitals, one blank between them
abbrev pub printed : Query → List ℕ
printed q =
    codes "SELECT " ++ (head_text q.head
    ++ (codes " FROM " ++ (name_text q.table.name ++ (filter_text q.pred ++ ending_text q.ending))))
