-- The grammar of queries, rule by rule.
use Rattle.std.specs.Prelude.{ℕ, zero, suc, Bool, true, false, List, [], ◌∷◌, ◌++◌, Option, Some, None}
use Rattle.sql_tokens.specs.declared.token.Fixed.TheVariants.{Select, From, Where, Group, By, Order, Asc, Desc, Limit, And, Or, Not}
use Rattle.sql_tokens.specs.declared.token.Fixed.TheVariants.{Between, In, Date, Count, Open, Close, Comma, Star, Minus, Semicolon}
use Rattle.sql_tokens.specs.declared.token.Fixed.TheVariants as fixed
use Rattle.sql_text.specs.declared.tree.Comparison.{Comparison}
use Rattle.sql_text.specs.declared.tree.CallKind.{CallKind}
use Rattle.sql_text.specs.declared.tree.CallKind.TheVariants as calls
use Rattle.sql_text.specs.Tree as tree
use Rattle.sql_text.specs.Tree.{Name, Expr, Item, Operand, Pred, Ending, Query}
use Rattle.sql_text.specs.Number.{is, is_name, is_string, is_cmp, is_call, is_sum}
use Rattle.sql_text.specs.Rule.{Part, InExpr, InPred, InNeg, Inner, Language, Rule, give, one, number, either, deeper, next, many, IsOf}

-- one after the other, with commas between
abbrev pub listed : {A : Type 0} → Rule A → Rule (List A)
listed part = many (is Comma) (λ x. x ∷ []) (λ xs _ x. xs ++ (x ∷ [])) part

-- factor = "-" number | name | "(" expr ")" | number
unfoldable pub factor : Rule Expr
factor = either (is Minus) (λ _. number true tree.Number)
    (either is_name (λ n. give (tree.Column n))
    (deeper (is Open) InExpr (λ e. next (one (is Close)) (λ _. give e))
    (number false tree.Number)))

-- term = factor {"*" factor}
unfoldable pub term : Rule Expr
term = many (is Star) (λ e. e) (λ a at b. tree.Mul at a b) factor

-- expr = term {("+" | "-") term}
abbrev pub joined : Bool → Expr → Expr → Expr
joined false a b = tree.Add a b
joined true a b = tree.Sub a b

unfoldable pub expr : Rule Expr
expr = many is_sum (λ e. e) (λ a minus b. joined minus a b) term

-- value = "-" number | string | DATE string | number
unfoldable pub value : Rule Operand
value = either (is Minus) (λ _. number true tree.Numeric)
    (either is_string (λ s. give (tree.Str s))
    (either (is Date) (λ p. next (one is_string) (λ s. give (tree.Day (record { at = p; name = s.name }))))
    (number false tree.Numeric)))

-- value AND value
unfoldable pub between : Name → Rule Pred
between c = next value (λ low. next (one (is And)) (λ _. next value (λ high. give (tree.Between c low high))))

-- "(" value {"," value} ")"
unfoldable pub members : Name → Rule Pred
members c = next (one (is Open)) (λ _. next (listed value) (λ vs. next (one (is Close)) (λ _. give (tree.OneOf c vs))))

-- BETWEEN value AND value | IN "(" value {"," value} ")"
unfoldable pub ranged : Name → Rule Pred
ranged c = either (is Between) (λ _. between c) (next (one (is In)) (λ _. members c))

-- [NOT] NULL
unfoldable pub nullness : Name → Rule Pred
nullness c = either (is Not) (λ _. next (one (is fixed.Null)) (λ _. give (tree.Negation (tree.IsNull c))))
    (next (one (is fixed.Null)) (λ _. give (tree.IsNull c)))

-- name | value
unfoldable pub compared : Name → Comparison → Rule Pred
compared c op = either is_name (λ d. give (tree.Columns c op d)) (next value (λ v. give (tree.Compare c op v)))

-- NOT ranged | cmp (name | value) | IS [NOT] NULL | ranged
unfoldable pub condition : Name → Rule Pred
condition c = either (is Not) (λ _. next (ranged c) (λ a. give (tree.Negation a)))
    (either is_cmp (λ op. compared c op)
    (either (is fixed.Is) (λ _. nullness c)
    (ranged c)))

-- atom = name condition
unfoldable pub atom : Rule Pred
atom = next (one is_name) (λ c. condition c)

-- neg = NOT neg | "(" pred ")" | atom
unfoldable pub neg : Rule Pred
neg = deeper (is Not) InNeg (λ a. give (tree.Negation a))
    (deeper (is Open) InPred (λ a. next (one (is Close)) (λ _. give a))
    atom)

-- conj = neg {AND neg}
unfoldable pub conj : Rule Pred
conj = many (is And) (λ a. a) (λ a _ b. tree.Both a b) neg

-- pred = conj {OR conj}
unfoldable pub pred : Rule Pred
pred = many (is Or) (λ a. a) (λ a _ b. tree.Either a b) conj

-- expr ")"
unfoldable pub argument : CallKind → Rule Item
argument kind = next expr (λ e. next (one (is Close)) (λ _. give (tree.Call kind e)))

-- "(" ("*" | expr) ")"
unfoldable pub count : Rule Item
count = next (one (is Open)) (λ _. either (is Star) (λ _. next (one (is Close)) (λ _. give tree.CountAll)) (argument calls.Count))

-- (SUM | AVG | MIN | MAX) "(" expr ")"
unfoldable pub call : Rule Item
call = next (one is_call) (λ kind. next (one (is Open)) (λ _. argument kind))

-- item = name | COUNT "(" ("*" | expr) ")" | (SUM | AVG | MIN | MAX) "(" expr ")"
unfoldable pub item : Rule Item
item = either is_name (λ n. give (tree.Plain n)) (either (is Count) (λ _. count) call)

-- [WHERE pred]
unfoldable pub filter : Rule (Option Pred)
filter = either (is Where) (λ _. next pred (λ a. give (Some a))) (give None)

-- [GROUP BY name {"," name}]
unfoldable pub grouping : Rule Ending
grouping = either (is Group) (λ _. next (one (is By)) (λ _. next (listed (one is_name)) (λ ns. give (tree.Grouped ns)))) (give tree.Nothing)

-- [ASC | DESC]
unfoldable pub direction : Rule Bool
direction = either (is Asc) (λ _. give false) (either (is Desc) (λ _. give true) (give false))

-- ORDER BY name [ASC | DESC] LIMIT number
unfoldable pub ordering : Rule Ending
ordering = next (one (is Order)) (λ _. next (one (is By)) (λ _. next (one is_name) (λ key.
    next direction (λ down. next (one (is Limit)) (λ _. number false (λ n. tree.Ordered key down n))))))

-- [";"]
unfoldable pub semicolon : {A : Type 0} → A → Rule A
semicolon a = either (is Semicolon) (λ _. give a) (give a)

-- FROM name [WHERE pred] ending [";"]
unfoldable pub source : tree.Head → Rule Ending → Rule Query
source head ending = next (one (is From)) (λ _. next (one is_name) (λ t. next filter (λ p. next ending (λ e.
    semicolon (record { head = head; table = t; pred = p; ending = e })))))

-- query = SELECT "*" FROM name [WHERE pred] ORDER BY .. | SELECT item {"," item} FROM name [WHERE pred] [GROUP BY ..]
unfoldable pub query : Rule Query
query = next (one (is Select)) (λ _. either (is Star) (λ _. source tree.Star ordering)
    (next (listed item) (λ is. source (tree.Items is) grouping)))

-- ---- levels

abbrev pub rule_of : (p : Part) → Rule (Inner p)
rule_of InExpr = expr
rule_of InPred = pred
rule_of InNeg = neg

-- what may stand one level down, where so many levels are left
abbrev pub Inside : (fits : Bool → Option ℕ → Bool) (levels : ℕ) (p : Part) → Language (Inner p)
Inside fits zero p u b = ⊥
Inside fits (suc n) p u b = IsOf fits (Inside fits n) (rule_of p) u b

-- the lists of a rule, where so many levels are left
abbrev pub Is : {A : Type 0} → (fits : Bool → Option ℕ → Bool) (levels : ℕ) → Rule A → Language A
Is fits levels r = IsOf fits (Inside fits levels) r
