-- The printed form of an expression is an expression again, at the same levels.
use Rattle.std.proofs.Common.{◌≡◌, ℕ, zero, suc, ◌^◌, ◌≤◌, ◌<◌, max, List, [], ◌∷◌, ◌++◌, Bool, true, false, Option, Some, None, inl, inr, refl, sym, subst, arith}
use Rattle.std.specs.Prelude.{ℤ, pos, negsuc}
use Rattle.std.proofs.lemmas.Bool.{lt-ltb, ltb-true, le-leb, leb-true}
use Rattle.sql_tokens.specs.declared.token.Fixed.TheVariants as fixed
use Rattle.sql_tokens.specs.Lexeme.{Mark, FIXED, NAME, NUMBER, STRING, Lexeme, token}
use Rattle.sql_text.specs.declared.tree.Num.{Num}
use Rattle.sql_print.specs.declared.printing.Side.{Side}
use Rattle.sql_print.specs.declared.printing.Side.TheVariants.{Left, Middle, Right}
use Rattle.sql_text.specs.Tree.{Name, Expr, Column, Number, Add, Sub, Mul}
use Rattle.sql_print.specs.Bare.{bare_expr}
use Rattle.sql_text.specs.Number.{Written, is, is_name, is_number, is_sum, sum_of, is_small, number_of}
use Rattle.sql_text.specs.Rule.{InExpr, Rule, give, one, number, either, deeper, next, start, further, IsOf}
use Rattle.sql_text.specs.Grammar.{joined, factor, term, expr, Inside, Is}
use Rattle.sql_print.specs.Printed.{wraps_loose, wraps_tight}
use Rattle.sql_text.proofs.RuleFine.{Parts}
use Rattle.sql_print.proofs.Back.{Spells, gone, mark_at, marks_of, sp_give, sp_one, sp_number, sp_go, sp_stay, sp_next, sp_deeper, sp_deeper_stay, sp_start, sp_further}

-- ---- marks

abbrev pub units_marks : ℤ → ℕ → List Mark
units_marks (pos u) s = NUMBER (Some u) s ∷ []
units_marks (negsuc u) s = FIXED fixed.Minus ∷ (NUMBER (Some (suc u)) s ∷ [])

abbrev pub num_marks : Num → List Mark
num_marks n = units_marks n.units n.scale

abbrev pub wrapped : Bool → List Mark → List Mark
wrapped true w = FIXED fixed.Open ∷ (w ++ (FIXED fixed.Close ∷ []))
wrapped false w = w

abbrev pub expr_marks : Side → Expr → List Mark
expr_marks side (Column n) = NAME n.name ∷ []
expr_marks side (Number n) = num_marks n
expr_marks side (Add a b) = wrapped (wraps_loose side) (expr_marks Left a ++ (FIXED fixed.Plus ∷ expr_marks Middle b))
expr_marks side (Sub a b) = wrapped (wraps_loose side) (expr_marks Left a ++ (FIXED fixed.Minus ∷ expr_marks Middle b))
expr_marks side (Mul at a b) = wrapped (wraps_tight side) (expr_marks Middle a ++ (FIXED fixed.Star ∷ expr_marks Right b))

-- ---- levels that a printed expression needs

abbrev pub one_more : Bool → ℕ → ℕ
one_more true n = suc n
one_more false n = n

abbrev pub expr_need : Side → Expr → ℕ
expr_need side (Column n) = 0
expr_need side (Number n) = 0
expr_need side (Add a b) = one_more (wraps_loose side) (max (expr_need Left a) (expr_need Middle b))
expr_need side (Sub a b) = one_more (wraps_loose side) (max (expr_need Left a) (expr_need Middle b))
expr_need side (Mul at a b) = one_more (wraps_tight side) (max (expr_need Middle a) (expr_need Right b))

left_need : (e : Expr) → expr_need Left e ≤ expr_need Middle e
left_need (Column n) = omega arith
left_need (Number n) = omega arith
left_need (Add a b) = omega arith
left_need (Sub a b) = omega arith
left_need (Mul at a b) = omega arith

middle_need : (e : Expr) → expr_need Middle e ≤ expr_need Right e
middle_need (Column n) = omega arith
middle_need (Number n) = omega arith
middle_need (Add a b) = omega arith
middle_need (Sub a b) = omega arith
middle_need (Mul at a b) = omega arith

right_need : (e : Expr) → expr_need Right e ≤ suc (expr_need Left e)
right_need (Column n) = omega arith
right_need (Number n) = omega arith
right_need (Add a b) = omega arith
right_need (Sub a b) = omega arith
right_need (Mul at a b) = omega arith

-- ---- numbers

-- what a mark of the text says of it
module _ (Ok : Mark → Type 0) where
  abbrev pub AllOk : List Mark → Type 0
  AllOk [] = Unit {0}
  AllOk (m ∷ ms) = Ok m × AllOk ms

  abbrev pub UnitsOk : ℤ → ℕ → Type 0
  UnitsOk (pos u) s = (u < 2 ^ 63) × Ok (NUMBER (Some u) s)
  UnitsOk (negsuc u) s = (suc u ≤ 2 ^ 63) × Ok (NUMBER (Some (suc u)) s)

  abbrev pub ExprOk : Expr → Type 0
  ExprOk (Column n) = Ok (NAME n.name)
  ExprOk (Number n) = UnitsOk n.units n.scale
  ExprOk (Add a b) = ExprOk a × ExprOk b
  ExprOk (Sub a b) = ExprOk a × ExprOk b
  ExprOk (Mul at a b) = ExprOk a × ExprOk b

  pub all_left : (u v : List Lexeme) → AllOk (marks_of (u ++ v)) → AllOk (marks_of u)
  all_left [] v h = tt
  all_left (t ∷ u) v h = (h.0, all_left u v h.1)

  pub all_right : (u v : List Lexeme) → AllOk (marks_of (u ++ v)) → AllOk (marks_of v)
  all_right [] v h = h
  all_right (t ∷ u) v h = all_right u v h.1

  pub all_parts : (w u v : List Lexeme) → w ≡ u ++ v → AllOk (marks_of w) → AllOk (marks_of u) × AllOk (marks_of v)
  all_parts w u v e h = let k = subst (λ s. AllOk (marks_of s)) e h in (all_left u v k, all_right u v k)

  pub all_tail : (w v : List Lexeme) (t : Lexeme) → w ≡ t ∷ v → AllOk (marks_of w) → AllOk (marks_of v)
  all_tail w v t e h = (subst (λ s. AllOk (marks_of s)) e h).1

  pub all_head : (w v : List Lexeme) (t : Lexeme) → w ≡ t ∷ v → AllOk (marks_of w) → Ok (mark_at t)
  all_head w v t e h = (subst (λ s. AllOk (marks_of s)) e h).0

  -- a number that was read
  units_ok : (negative : Bool) (n : Written) → is_small negative n.units ≡ true → Ok (NUMBER n.units n.scale) → UnitsOk (number_of negative n).units n.scale
  units_ok negative n small ok = go negative n.units small ok
    where
      go : (negative : Bool) (o : Option ℕ) → is_small negative o ≡ true → Ok (NUMBER o n.scale) → UnitsOk (number_of negative (record { at = n.at; units = o; scale = n.scale })).units n.scale
      go negative None h k = absurd cc
      go false (Some u) h k = (ltb-true u (2 ^ 63) h, k)
      go true (Some zero) h k = (omega arith, k)
      go true (Some (suc u)) h k = (leb-true (suc u) (2 ^ 63) h, k)

  pub number_there : (t : Lexeme) (n : Written) → is_number t ≡ Some n → Ok (mark_at t) → Ok (NUMBER n.units n.scale)
  unfolding is_number
  number_there (token p (NUMBER u c)) n e k = let i : record { at = p; units = u; scale = c } ≡ n = cc in subst (λ (x : Written). Ok (NUMBER x.units x.scale)) i k
  number_there (token p (FIXED f)) n e k = absurd cc
  number_there (token p (NAME s)) n e k = absurd cc
  number_there (token p (STRING s)) n e k = absurd cc

  pub name_ok : (t : Lexeme) (n : Name) → is_name t ≡ Some n → Ok (mark_at t) → Ok (NAME n.name)
  unfolding is_name
  name_ok (token p (NAME s)) n e k = let i : record { at = p; name = s } ≡ n = cc in subst (λ (x : Name). Ok (NAME x.name)) i k
  name_ok (token p (FIXED f)) n e k = absurd cc
  name_ok (token p (NUMBER u c)) n e k = absurd cc
  name_ok (token p (STRING s)) n e k = absurd cc

  pub num_ok : {A : Type 0} (I : Parts) (negative : Bool) (f : Num → A) (w : List Lexeme) (a : A) (P : A → Type 0) → ((n : Num) → UnitsOk n.units n.scale → P (f n)) → AllOk (marks_of w) → IsOf is_small I (number negative f) w a → P a
  num_ok I negative f w a P k all h =
      subst P (sym h.5) (k (number_of negative h.1) (units_ok negative h.1 h.4 (number_there h.0 h.1 h.3 (all_head w [] h.0 h.2 all))))

  -- ---- what the expressions of a sentence need

  module _ (n : ℕ) (I : Parts) (inside : (u : List Lexeme) (e : Expr) → AllOk (marks_of u) → I InExpr u e → (expr_need Right e ≤ n) × ExprOk e) where
    factor_ok : (w : List Lexeme) (e : Expr) → AllOk (marks_of w) → IsOf is_small I factor w e → (expr_need Right e ≤ n) × ExprOk e
    unfolding factor
    factor_ok w e all (inl h) = num_ok I true Number h.2 e (λ a. (expr_need Right a ≤ n) × ExprOk a) (λ k ok. (omega arith, ok)) (all_tail w h.2 h.0 h.3 all) h.5
    factor_ok w e all (inr (inl h)) = subst (λ a. (expr_need Right a ≤ n) × ExprOk a) (sym h.5.1) (omega arith, name_ok h.0 h.1 h.4 (all_head w h.2 h.0 h.3 all))
    factor_ok w e all (inr (inr (inl h))) =
        subst (λ a. (expr_need Right a ≤ n) × ExprOk a) (sym h.8.5.1) (inside h.2 h.4 (all_left h.2 h.3 (all_tail w (h.2 ++ h.3) h.0 h.5 all)) h.7)
    factor_ok w e all (inr (inr (inr h))) = num_ok I false Number w e (λ a. (expr_need Right a ≤ n) × ExprOk a) (λ k ok. (omega arith, ok)) all h

    term_ok : (w : List Lexeme) (e : Expr) → AllOk (marks_of w) → IsOf is_small I term w e → (expr_need Middle e ≤ n) × ExprOk e
    unfolding term
    term_ok w e all (start {b} h) = let k = factor_ok w b all h in let l = middle_need b in (omega (arith, k.0, l), k.1)
    term_ok w e all (further {u} {v} {t} {x} {a} {b} says h k) =
        let f = term_ok u a (all_left u (t ∷ v) all) h in
        let g = factor_ok v b (all_right u (t ∷ v) all).1 k in
        (omega (arith, f.0, g.0), (f.1, g.1))

    sum_ok : (minus : Bool) (a b : Expr) → expr_need Left a ≤ n → expr_need Middle b ≤ n → ExprOk a → ExprOk b → (expr_need Left (joined minus a b) ≤ n) × ExprOk (joined minus a b)
    sum_ok true a b l r p q = (omega (arith, l, r), (p, q))
    sum_ok false a b l r p q = (omega (arith, l, r), (p, q))

    pub expr_ok : (w : List Lexeme) (e : Expr) → AllOk (marks_of w) → IsOf is_small I expr w e → (expr_need Left e ≤ n) × ExprOk e
    unfolding expr
    expr_ok w e all (start {b} h) = let k = term_ok w b all h in let l = left_need b in (omega (arith, k.0, l), k.1)
    expr_ok w e all (further {u} {v} {t} {x} {a} {b} says h k) =
        let f = expr_ok u a (all_left u (t ∷ v) all) h in
        let g = term_ok v b (all_right u (t ∷ v) all).1 k in
        sum_ok x a b f.0 g.0 f.1 g.1

  inside_ok : (n : ℕ) (u : List Lexeme) (e : Expr) → AllOk (marks_of u) → Inside is_small n InExpr u e → (expr_need Right e ≤ n) × ExprOk e
  inside_ok zero u e all h = elim h [ ]
  inside_ok (suc n) u e all h = let k = expr_ok n (Inside is_small n) (inside_ok n) u e all h in let l = right_need e in (omega (arith, k.0, l), k.1)

  pub is_expr_ok : (n : ℕ) (u : List Lexeme) (e : Expr) → AllOk (marks_of u) → Is is_small n expr u e → (expr_need Left e ≤ n) × ExprOk e
  is_expr_ok n u e all h = expr_ok n (Inside is_small n) (inside_ok n) u e all h

-- ---- printed tokens, wherever they stand

abbrev rule_at : Side → Rule Expr
rule_at Left = expr
rule_at Middle = term
rule_at Right = factor

Prints : ℕ → Side → Expr → List Mark → Type 0
Prints n side e ms = Spells (Is is_small n (rule_at side)) bare_expr (bare_expr e) ms

from_factor : (n : ℕ) (e : Expr) (ms : List Mark) → Prints n Right e ms → Prints n Middle e ms
unfolding Prints term
from_factor n e ms h = sp_start is_small (Inside is_small n) (is fixed.Star) (λ e. e) (λ a at b. Mul at a b) factor bare_expr bare_expr (bare_expr e) (bare_expr e) ms (λ b k. k) h

from_term : (n : ℕ) (e : Expr) (ms : List Mark) → Prints n Middle e ms → Prints n Left e ms
unfolding Prints expr
from_term n e ms h = sp_start is_small (Inside is_small n) is_sum (λ e. e) (λ a minus b. joined minus a b) term bare_expr bare_expr (bare_expr e) (bare_expr e) ms (λ b k. k) h

at_side : (n : ℕ) (side : Side) (e : Expr) (ms : List Mark) → Prints n Right e ms → Prints n side e ms
at_side n Left e ms h = from_term n e ms (from_factor n e ms h)
at_side n Middle e ms h = from_factor n e ms h
at_side n Right e ms h = h

in_parentheses : (n : ℕ) (e : Expr) (ms : List Mark) → Prints n Left e ms → Prints (suc n) Right e (FIXED fixed.Open ∷ (ms ++ (FIXED fixed.Close ∷ [])))
unfolding Prints factor is
in_parentheses n e ms h =
    let I : Parts = Inside is_small (suc n) in
    let back : Expr → Rule Expr = λ e. next (one (is fixed.Close)) (λ _. give e) in
    let last : Rule Expr = number false Number in
    sp_stay is_small I bare_expr (bare_expr e) (is fixed.Minus) (λ _. number true Number) (either is_name (λ n. give (Column n)) (deeper (is fixed.Open) InExpr back last)) (FIXED fixed.Open ∷ (ms ++ (FIXED fixed.Close ∷ [])))
    (sp_stay is_small I bare_expr (bare_expr e) is_name (λ n. give (Column n)) (deeper (is fixed.Open) InExpr back last) (FIXED fixed.Open ∷ (ms ++ (FIXED fixed.Close ∷ [])))
    (sp_deeper is_small I bare_expr (bare_expr e) (is fixed.Open) (FIXED fixed.Open) InExpr back last bare_expr (bare_expr e) ms (FIXED fixed.Close ∷ []) (λ p. (p, refl)) h
    (λ b same. sp_next is_small I bare_expr (bare_expr e) (one (is fixed.Close)) (λ _. give b) gone true (FIXED fixed.Close ∷ []) []
    (sp_one is_small I gone true (is fixed.Close) (FIXED fixed.Close) (λ p. (p, refl, refl))) (λ p k. sp_give is_small I bare_expr b (bare_expr e) same))))

name_back : (n : ℕ) (s : Name) → Prints n Right (Column s) (NAME s.name ∷ [])
unfolding Prints factor is_name
name_back n s =
    let I : Parts = Inside is_small n in
    let rest : Rule Expr = deeper (is fixed.Open) InExpr (λ e. next (one (is fixed.Close)) (λ _. give e)) (number false Number) in
    sp_stay is_small I bare_expr (bare_expr (Column s)) (is fixed.Minus) (λ _. number true Number) (either is_name (λ n. give (Column n)) rest) (NAME s.name ∷ [])
    (sp_go is_small I bare_expr (bare_expr (Column s)) is_name (NAME s.name) (λ n. give (Column n)) rest [] (λ p. (record { at = p; name = s.name }, refl, sp_give is_small I bare_expr (Column (record { at = p; name = s.name })) (bare_expr (Column s)) refl)))

pub small_pos : (u : ℕ) → u < 2 ^ 63 → is_small false (Some u) ≡ true
small_pos u h = lt-ltb u (2 ^ 63) h

pub small_neg : (u : ℕ) → suc u ≤ 2 ^ 63 → is_small true (Some (suc u)) ≡ true
small_neg u h = le-leb (suc u) (2 ^ 63) h

number_back : (Ok : Mark → Type 0) (n p : ℕ) (z : ℤ) (s : ℕ) → UnitsOk Ok z s → Prints n Right (Number (record { at = p; units = z; scale = s })) (units_marks z s)
unfolding Prints factor is
number_back Ok n p (pos u) s ok =
    let I : Parts = Inside is_small n in
    let ms : List Mark = NUMBER (Some u) s ∷ [] in
    let e : Expr = bare_expr (Number (record { at = p; units = pos u; scale = s })) in
    let back : Expr → Rule Expr = λ e. next (one (is fixed.Close)) (λ _. give e) in
    let last : Rule Expr = number false Number in
    sp_stay is_small I bare_expr e (is fixed.Minus) (λ _. number true Number) (either is_name (λ n. give (Column n)) (deeper (is fixed.Open) InExpr back last)) ms
    (sp_stay is_small I bare_expr e is_name (λ n. give (Column n)) (deeper (is fixed.Open) InExpr back last) ms
    (sp_deeper_stay is_small I bare_expr e (is fixed.Open) InExpr back last ms (sp_number is_small I bare_expr e false u s Number (small_pos u ok.0) (λ p. refl))))
number_back Ok n p (negsuc u) s ok =
    let I : Parts = Inside is_small n in
    let e : Expr = bare_expr (Number (record { at = p; units = negsuc u; scale = s })) in
    let rest : Rule Expr = either is_name (λ n. give (Column n)) (deeper (is fixed.Open) InExpr (λ e. next (one (is fixed.Close)) (λ _. give e)) (number false Number)) in
    sp_go is_small I bare_expr e (is fixed.Minus) (FIXED fixed.Minus) (λ _. number true Number) rest (NUMBER (Some (suc u)) s ∷ [])
    (λ p. (p, refl, sp_number is_small I bare_expr e true (suc u) s Number (small_neg u ok.0) (λ p. refl)))

loose : (n d : ℕ) (side : Side) (e : Expr) (w : List Mark) → one_more (wraps_loose side) d ≤ n → ((m : ℕ) → d ≤ m → Prints m Left e w) → Prints n side e (wrapped (wraps_loose side) w)
loose n d Left e w le h = h n le
loose zero d Middle e w le h = absurd (omega arith)
loose (suc n) d Middle e w le h = from_factor (suc n) e (wrapped true w) (in_parentheses n e w (h n (omega arith)))
loose zero d Right e w le h = absurd (omega arith)
loose (suc n) d Right e w le h = in_parentheses n e w (h n (omega arith))

tight : (n d : ℕ) (side : Side) (e : Expr) (w : List Mark) → one_more (wraps_tight side) d ≤ n → ((m : ℕ) → d ≤ m → Prints m Middle e w) → Prints n side e (wrapped (wraps_tight side) w)
tight n d Left e w le h = from_term n e w (h n le)
tight n d Middle e w le h = h n le
tight zero d Right e w le h = absurd (omega arith)
tight (suc n) d Right e w le h = in_parentheses n e w (from_term n e w (h n (omega arith)))

add_back : (n : ℕ) (a b : Expr) (ma mb : List Mark) → Prints n Left a ma → Prints n Middle b mb → Prints n Left (Add a b) (ma ++ (FIXED fixed.Plus ∷ mb))
unfolding Prints expr sum_of
add_back n a b ma mb h k =
    sp_further is_small (Inside is_small n) is_sum (λ e. e) (λ a minus b. joined minus a b) term bare_expr bare_expr (bare_expr b) (bare_expr a) (bare_expr (Add a b)) (FIXED fixed.Plus) ma mb (λ p. (false, refl, λ x y i j. rw (i, j) refl)) h k

sub_back : (n : ℕ) (a b : Expr) (ma mb : List Mark) → Prints n Left a ma → Prints n Middle b mb → Prints n Left (Sub a b) (ma ++ (FIXED fixed.Minus ∷ mb))
unfolding Prints expr sum_of
sub_back n a b ma mb h k =
    sp_further is_small (Inside is_small n) is_sum (λ e. e) (λ a minus b. joined minus a b) term bare_expr bare_expr (bare_expr b) (bare_expr a) (bare_expr (Sub a b)) (FIXED fixed.Minus) ma mb (λ p. (true, refl, λ x y i j. rw (i, j) refl)) h k

mul_back : (n at : ℕ) (a b : Expr) (ma mb : List Mark) → Prints n Middle a ma → Prints n Right b mb → Prints n Middle (Mul at a b) (ma ++ (FIXED fixed.Star ∷ mb))
unfolding Prints term is
mul_back n at a b ma mb h k =
    sp_further is_small (Inside is_small n) (is fixed.Star) (λ e. e) (λ a at b. Mul at a b) factor bare_expr bare_expr (bare_expr b) (bare_expr a) (bare_expr (Mul at a b)) (FIXED fixed.Star) ma mb (λ p. (p, refl, λ x y i j. rw (i, j) refl)) h k

module _ (Ok : Mark → Type 0) where
  prints : (n : ℕ) (side : Side) (e : Expr) → expr_need side e ≤ n → ExprOk Ok e → Prints n side e (expr_marks side e)
  prints n side (Column s) le ok = at_side n side (Column s) (NAME s.name ∷ []) (name_back n s)
  prints n side (Number k) le ok = at_side n side (Number k) (units_marks k.units k.scale) (number_back Ok n k.at k.units k.scale ok)
  prints n side (Add a b) le ok =
      loose n (max (expr_need Left a) (expr_need Middle b)) side (Add a b) (expr_marks Left a ++ (FIXED fixed.Plus ∷ expr_marks Middle b)) le
      (λ m d. add_back m a b (expr_marks Left a) (expr_marks Middle b) (prints m Left a (omega arith) ok.0) (prints m Middle b (omega arith) ok.1))
  prints n side (Sub a b) le ok =
      loose n (max (expr_need Left a) (expr_need Middle b)) side (Sub a b) (expr_marks Left a ++ (FIXED fixed.Minus ∷ expr_marks Middle b)) le
      (λ m d. sub_back m a b (expr_marks Left a) (expr_marks Middle b) (prints m Left a (omega arith) ok.0) (prints m Middle b (omega arith) ok.1))
  prints n side (Mul at a b) le ok =
      tight n (max (expr_need Middle a) (expr_need Right b)) side (Mul at a b) (expr_marks Middle a ++ (FIXED fixed.Star ∷ expr_marks Right b)) le
      (λ m d. mul_back m at a b (expr_marks Middle a) (expr_marks Right b) (prints m Middle a (omega arith) ok.0) (prints m Right b (omega arith) ok.1))

  pub expr_back : (n : ℕ) (e : Expr) → expr_need Left e ≤ n → ExprOk Ok e → Spells (Is is_small n expr) bare_expr (bare_expr e) (expr_marks Left e)
  unfolding Prints
  expr_back n e le ok = prints n Left e le ok
