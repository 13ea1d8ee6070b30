-- The printed form of a predicate is a predicate again, at the same levels.
use Rattle.std.proofs.Common.{◌≡◌, ℕ, zero, suc, ◌≤◌, max, List, [], ◌∷◌, ◌++◌, map, true, false, Some, None, inl, inr, refl, sym, ap, subst, ◌∙◌, append_assoc, arith}
use Rattle.std.specs.Prelude.{ℤ, pos, negsuc}
use Rattle.std.proofs.lemmas.List.{append-nil, map-append}
use Rattle.sql_tokens.specs.declared.token.Fixed.{Fixed}
use Rattle.sql_tokens.specs.declared.token.Fixed.TheVariants as fixed
use Rattle.sql_tokens.specs.Lexeme.{Mark, FIXED, NAME, NUMBER, STRING, Lexeme, token}
use Rattle.sql_text.specs.declared.tree.Comparison.{Comparison}
use Rattle.sql_text.specs.declared.tree.Comparison.TheVariants as cmps
use Rattle.sql_print.specs.declared.printing.Side.{Side}
use Rattle.sql_print.specs.declared.printing.Side.TheVariants.{Left, Middle, Right}
use Rattle.sql_text.specs.Tree.{Name, Operand, Numeric, Str, Day, Pred, Compare, Columns, Between, OneOf, IsNull, Negation, Both, Either}
use Rattle.sql_print.specs.Bare.{bare_name, bare_operand, bare_pred}
use Rattle.sql_text.specs.Number.{is, is_name, is_string, is_cmp, cmp_of, is_small}
use Rattle.sql_text.specs.Rule.{InPred, InNeg, Rule, give, one, number, either, deeper, next, start, further, IsOf}
use Rattle.sql_text.specs.Grammar.{listed, value, between, members, ranged, nullness, compared, condition, atom, neg, conj, pred, Inside, Is}
use Rattle.sql_print.specs.Printed.{wraps_loose, wraps_tight}
use Rattle.sql_text.proofs.RuleFine.{Parts}
use Rattle.sql_print.proofs.Back.{Spells, gone, mark_at, marks_of, sp_give, sp_one, sp_number, sp_go, sp_stay, sp_next, sp_deeper, sp_deeper_stay, sp_start, sp_further}
use Rattle.sql_print.proofs.ExprBack.{units_marks, wrapped, one_more, AllOk, UnitsOk, all_left, all_right, all_parts, all_tail, all_head, name_ok, num_ok, small_pos, small_neg}

-- ---- marks

abbrev pub operand_marks : Operand → List Mark
operand_marks (Numeric n) = units_marks n.units n.scale
operand_marks (Str s) = STRING s.name ∷ []
operand_marks (Day s) = FIXED fixed.Date ∷ (STRING s.name ∷ [])

abbrev pub sign_of : Comparison → Fixed
sign_of cmps.Eq = fixed.Equal
sign_of cmps.Ne = fixed.NotEqual
sign_of cmps.Lt = fixed.Less
sign_of cmps.Le = fixed.LessEqual
sign_of cmps.Gt = fixed.Greater
sign_of cmps.Ge = fixed.GreaterEqual

abbrev pub more_marks : {A : Type 0} → (A → List Mark) → List A → List Mark
more_marks f [] = []
more_marks f (x ∷ xs) = FIXED fixed.Comma ∷ (f x ++ more_marks f xs)

abbrev pub listed_marks : {A : Type 0} → (A → List Mark) → List A → List Mark
listed_marks f [] = []
listed_marks f (x ∷ xs) = f x ++ more_marks f xs

abbrev pub between_marks : Operand → Operand → List Mark
between_marks low high = FIXED fixed.Between ∷ (operand_marks low ++ (FIXED fixed.And ∷ operand_marks high))

abbrev pub members_marks : List Operand → List Mark
members_marks vs = FIXED fixed.In ∷ (FIXED fixed.Open ∷ (listed_marks operand_marks vs ++ (FIXED fixed.Close ∷ [])))

abbrev pub negated_marks : Pred → List Mark → List Mark
negated_marks (Between c low high) w = NAME c.name ∷ (FIXED fixed.Not ∷ between_marks low high)
negated_marks (OneOf c vs) w = NAME c.name ∷ (FIXED fixed.Not ∷ members_marks vs)
negated_marks (IsNull c) w = NAME c.name ∷ (FIXED fixed.Is ∷ (FIXED fixed.Not ∷ (FIXED fixed.Null ∷ [])))
negated_marks _ w = FIXED fixed.Not ∷ w

abbrev pub pred_marks : Side → Pred → List Mark
pred_marks side (Compare c op v) = NAME c.name ∷ (FIXED (sign_of op) ∷ operand_marks v)
pred_marks side (Columns c op d) = NAME c.name ∷ (FIXED (sign_of op) ∷ (NAME d.name ∷ []))
pred_marks side (Between c low high) = NAME c.name ∷ between_marks low high
pred_marks side (OneOf c vs) = NAME c.name ∷ members_marks vs
pred_marks side (IsNull c) = NAME c.name ∷ (FIXED fixed.Is ∷ (FIXED fixed.Null ∷ []))
pred_marks side (Negation a) = negated_marks a (pred_marks Right a)
pred_marks side (Both a b) = wrapped (wraps_tight side) (pred_marks Middle a ++ (FIXED fixed.And ∷ pred_marks Right b))
pred_marks side (Either a b) = wrapped (wraps_loose side) (pred_marks Left a ++ (FIXED fixed.Or ∷ pred_marks Middle b))

-- ---- levels

abbrev pub negated_need : Pred → ℕ → ℕ
negated_need (Between c low high) n = 0
negated_need (OneOf c vs) n = 0
negated_need (IsNull c) n = 0
negated_need _ n = suc n

abbrev pub pred_need : Side → Pred → ℕ
pred_need side (Compare c op v) = 0
pred_need side (Columns c op d) = 0
pred_need side (Between c low high) = 0
pred_need side (OneOf c vs) = 0
pred_need side (IsNull c) = 0
pred_need side (Negation a) = negated_need a (pred_need Right a)
pred_need side (Both a b) = one_more (wraps_tight side) (max (pred_need Middle a) (pred_need Right b))
pred_need side (Either a b) = one_more (wraps_loose side) (max (pred_need Left a) (pred_need Middle b))

negated_most : (a : Pred) (n : ℕ) → negated_need a n ≤ suc n
negated_most (Compare c op v) n = omega arith
negated_most (Columns c op d) n = omega arith
negated_most (Between c low high) n = omega arith
negated_most (OneOf c vs) n = omega arith
negated_most (IsNull c) n = omega arith
negated_most (Negation a) n = omega arith
negated_most (Both a b) n = omega arith
negated_most (Either a b) n = omega arith

left_need : (a : Pred) → pred_need Left a ≤ pred_need Middle a
left_need (Compare c op v) = omega arith
left_need (Columns c op d) = omega arith
left_need (Between c low high) = omega arith
left_need (OneOf c vs) = omega arith
left_need (IsNull c) = omega arith
left_need (Negation a) = omega arith
left_need (Both a b) = omega arith
left_need (Either a b) = omega arith

middle_need : (a : Pred) → pred_need Middle a ≤ pred_need Right a
middle_need (Compare c op v) = omega arith
middle_need (Columns c op d) = omega arith
middle_need (Between c low high) = omega arith
middle_need (OneOf c vs) = omega arith
middle_need (IsNull c) = omega arith
middle_need (Negation a) = omega arith
middle_need (Both a b) = omega arith
middle_need (Either a b) = omega arith

right_need : (a : Pred) → pred_need Right a ≤ suc (pred_need Left a)
right_need (Compare c op v) = omega arith
right_need (Columns c op d) = omega arith
right_need (Between c low high) = omega arith
right_need (OneOf c vs) = omega arith
right_need (IsNull c) = omega arith
right_need (Negation a) = omega arith
right_need (Both a b) = omega arith
right_need (Either a b) = omega arith

-- ---- lists of which each passes

abbrev pub EachOk : {A : Type 0} → (A → Type 0) → List A → Type 0
EachOk P [] = Unit {0}
EachOk P (x ∷ xs) = P x × EachOk P xs

abbrev pub SomeOk : {A : Type 0} → (A → Type 0) → List A → Type 0
SomeOk P [] = ⊥
SomeOk P (x ∷ xs) = P x × EachOk P xs

pub each_push : {A : Type 0} (P : A → Type 0) (xs : List A) (x : A) → SomeOk P xs → P x → SomeOk P (xs ++ (x ∷ []))
each_push P [] x h k = elim h [ ]
each_push {A} P (y ∷ ys) x h k = (h.0, go ys h.1)
  where
    go : (ys : List A) → EachOk P ys → EachOk P (ys ++ (x ∷ []))
    go [] h = (k, tt)
    go (z ∷ zs) h = (h.0, go zs h.1)

-- ---- what the predicates of a sentence need

module _ (Ok : Mark → Type 0) where
  abbrev pub OperandOk : Operand → Type 0
  OperandOk (Numeric n) = UnitsOk Ok n.units n.scale
  OperandOk (Str s) = Ok (STRING s.name)
  OperandOk (Day s) = Ok (STRING s.name)

  abbrev pub PredOk : Pred → Type 0
  PredOk (Compare c op v) = Ok (NAME c.name) × OperandOk v
  PredOk (Columns c op d) = Ok (NAME c.name) × Ok (NAME d.name)
  PredOk (Between c low high) = Ok (NAME c.name) × OperandOk low × OperandOk high
  PredOk (OneOf c vs) = Ok (NAME c.name) × SomeOk OperandOk vs
  PredOk (IsNull c) = Ok (NAME c.name)
  PredOk (Negation a) = PredOk a
  PredOk (Both a b) = PredOk a × PredOk b
  PredOk (Either a b) = PredOk a × PredOk b

  string_ok : (t : Lexeme) (n : Name) → is_string t ≡ Some n → Ok (mark_at t) → Ok (STRING n.name)
  unfolding is_string
  string_ok (token p (STRING s)) n e k = let i : record { at = p; name = s } ≡ n = cc in subst (λ (x : Name). Ok (STRING x.name)) i k
  string_ok (token p (FIXED f)) n e k = absurd cc
  string_ok (token p (NUMBER u c)) n e k = absurd cc
  string_ok (token p (NAME s)) n e k = absurd cc

  -- the parts of a list with separators
  pub listed_ok : {A : Type 0} (I : Parts) (part : Rule A) (P : A → Type 0) → ((w : List Lexeme) (a : A) → AllOk Ok (marks_of w) → IsOf is_small I part w a → P a)
      → (w : List Lexeme) (xs : List A) → AllOk Ok (marks_of w) → IsOf is_small I (listed part) w xs → SomeOk P xs
  listed_ok I part P f w xs all (start {b} h) = (f w b all h, tt)
  listed_ok I part P f w xs all (further {u} {v} {t} {x} {a} {b} says h k) = each_push P a b (listed_ok I part P f u a (all_left Ok u (t ∷ v) all) h) (f v b (all_right Ok u (t ∷ v) all).1 k)

  module _ (I : Parts) where
    value_ok : (w : List Lexeme) (a : Operand) → AllOk Ok (marks_of w) → IsOf is_small I value w a → OperandOk a
    unfolding value
    value_ok w a all (inl h) = num_ok Ok I true Numeric h.2 a OperandOk (λ k ok. ok) (all_tail Ok w h.2 h.0 h.3 all) h.5
    value_ok w a all (inr (inl h)) = subst OperandOk (sym h.5.1) (string_ok h.0 h.1 h.4 (all_head Ok w h.2 h.0 h.3 all))
    value_ok w a all (inr (inr (inl h))) =
        let n = h.5 in
        let ok = all_tail Ok w h.2 h.0 h.3 all in
        let parts = all_parts Ok h.2 n.0 n.1 n.3 ok in
        subst OperandOk (sym n.5.1) (string_ok n.4.0 n.2 n.4.2 (all_head Ok n.0 [] n.4.0 n.4.1 parts.0))
    value_ok w a all (inr (inr (inr h))) = num_ok Ok I false Numeric w a OperandOk (λ k ok. ok) all h

    ranged_ok : (c : Name) (P : Pred → Type 0) → ((low high : Operand) → OperandOk low → OperandOk high → P (Between c low high)) → ((vs : List Operand) → SomeOk OperandOk vs → P (OneOf c vs))
        → (w : List Lexeme) (a : Pred) → AllOk Ok (marks_of w) → IsOf is_small I (ranged c) w a → P a
    unfolding ranged between members
    ranged_ok c P f g w a all (inl h) =
        let ok = all_tail Ok w h.2 h.0 h.3 all in
        let x = h.5 in
        let first = all_parts Ok h.2 x.0 x.1 x.3 ok in
        let y = x.5 in
        let second = all_parts Ok x.1 y.0 y.1 y.3 first.1 in
        let z = y.5 in
        let third = all_parts Ok y.1 z.0 z.1 z.3 second.1 in
        subst P (sym z.5.1) (f x.2 z.2 (value_ok x.0 x.2 first.0 x.4) (value_ok z.0 z.2 third.0 z.4))
    ranged_ok c P f g w a all (inr h) =
        let first = all_parts Ok w h.0 h.1 h.3 all in
        let x = h.5 in
        let second = all_parts Ok h.1 x.0 x.1 x.3 first.1 in
        let y = x.5 in
        let third = all_parts Ok x.1 y.0 y.1 y.3 second.1 in
        let z = y.5 in
        subst P (sym z.5.1) (g y.2 (listed_ok I value OperandOk value_ok y.0 y.2 third.0 y.4))

    compared_ok : (c : Name) (op : Comparison) (w : List Lexeme) (a : Pred) → Ok (NAME c.name) → AllOk Ok (marks_of w) → IsOf is_small I (compared c op) w a → (pred_need Right a ≤ 0) × PredOk a
    unfolding compared
    compared_ok c op w a ok all (inl h) = subst (λ a. (pred_need Right a ≤ 0) × PredOk a) (sym h.5.1) (omega arith, (ok, name_ok Ok h.0 h.1 h.4 (all_head Ok w h.2 h.0 h.3 all)))
    compared_ok c op w a ok all (inr h) =
        let parts = all_parts Ok w h.0 h.1 h.3 all in
        subst (λ a. (pred_need Right a ≤ 0) × PredOk a) (sym h.5.1) (omega arith, (ok, value_ok h.0 h.2 parts.0 h.4))

    nullness_ok : (c : Name) (w : List Lexeme) (a : Pred) → Ok (NAME c.name) → IsOf is_small I (nullness c) w a → (pred_need Right a ≤ 0) × PredOk a
    unfolding nullness
    nullness_ok c w a ok (inl h) = subst (λ a. (pred_need Right a ≤ 0) × PredOk a) (sym h.5.5.1) (omega arith, ok)
    nullness_ok c w a ok (inr h) = subst (λ a. (pred_need Right a ≤ 0) × PredOk a) (sym h.5.1) (omega arith, ok)

    condition_ok : (c : Name) (w : List Lexeme) (a : Pred) → Ok (NAME c.name) → AllOk Ok (marks_of w) → IsOf is_small I (condition c) w a → (pred_need Right a ≤ 0) × PredOk a
    unfolding condition
    condition_ok c w a ok all (inl h) =
        let n = h.5 in
        let parts = all_parts Ok h.2 n.0 n.1 n.3 (all_tail Ok w h.2 h.0 h.3 all) in
        subst (λ a. (pred_need Right a ≤ 0) × PredOk a) (sym n.5.1)
        (ranged_ok c (λ b. (pred_need Right (Negation b) ≤ 0) × PredOk (Negation b)) (λ low high p q. (omega arith, (ok, p, q))) (λ vs p. (omega arith, (ok, p))) n.0 n.2 parts.0 n.4)
    condition_ok c w a ok all (inr (inl h)) = compared_ok c h.1 h.2 a ok (all_tail Ok w h.2 h.0 h.3 all) h.5
    condition_ok c w a ok all (inr (inr (inl h))) = nullness_ok c h.2 a ok h.5
    condition_ok c w a ok all (inr (inr (inr h))) = ranged_ok c (λ b. (pred_need Right b ≤ 0) × PredOk b) (λ low high p q. (omega arith, (ok, p, q))) (λ vs p. (omega arith, (ok, p))) w a all h

    atom_ok : (w : List Lexeme) (a : Pred) → AllOk Ok (marks_of w) → IsOf is_small I atom w a → (pred_need Right a ≤ 0) × PredOk a
    unfolding atom
    atom_ok w a all h =
        let parts = all_parts Ok w h.0 h.1 h.3 all in
        condition_ok h.2 h.1 a (name_ok Ok h.4.0 h.2 h.4.2 (all_head Ok h.0 [] h.4.0 h.4.1 parts.0)) parts.1 h.5

    module _ (n : ℕ) (in_neg : (u : List Lexeme) (a : Pred) → AllOk Ok (marks_of u) → I InNeg u a → (suc (pred_need Right a) ≤ n) × PredOk a) (in_pred : (u : List Lexeme) (a : Pred) → AllOk Ok (marks_of u) → I InPred u a → (pred_need Right a ≤ n) × PredOk a) where
      pub neg_ok : (w : List Lexeme) (a : Pred) → AllOk Ok (marks_of w) → IsOf is_small I neg w a → (pred_need Right a ≤ n) × PredOk a
      unfolding neg
      neg_ok w a all (inl h) =
          let k = in_neg h.2 h.4 (all_left Ok h.2 h.3 (all_tail Ok w (h.2 ++ h.3) h.0 h.5 all)) h.7 in
          let l = negated_most h.4 (pred_need Right h.4) in
          subst (λ a. (pred_need Right a ≤ n) × PredOk a) (sym h.8.1) (omega (arith, k.0, l), k.1)
      neg_ok w a all (inr (inl h)) = subst (λ a. (pred_need Right a ≤ n) × PredOk a) (sym h.8.5.1) (in_pred h.2 h.4 (all_left Ok h.2 h.3 (all_tail Ok w (h.2 ++ h.3) h.0 h.5 all)) h.7)
      neg_ok w a all (inr (inr h)) = let k = atom_ok w a all h in (omega (arith, k.0), k.1)

      conj_ok : (w : List Lexeme) (a : Pred) → AllOk Ok (marks_of w) → IsOf is_small I conj w a → (pred_need Middle a ≤ n) × PredOk a
      unfolding conj
      conj_ok w a all (start {b} h) = let k = neg_ok w b all h in let l = middle_need b in (omega (arith, k.0, l), k.1)
      conj_ok w a all (further {u} {v} {t} {x} {a = p} {b} says h k) =
          let f = conj_ok u p (all_left Ok u (t ∷ v) all) h in
          let g = neg_ok v b (all_right Ok u (t ∷ v) all).1 k in
          (omega (arith, f.0, g.0), (f.1, g.1))

      pub pred_ok : (w : List Lexeme) (a : Pred) → AllOk Ok (marks_of w) → IsOf is_small I pred w a → (pred_need Left a ≤ n) × PredOk a
      unfolding pred
      pred_ok w a all (start {b} h) = let k = conj_ok w b all h in let l = left_need b in (omega (arith, k.0, l), k.1)
      pred_ok w a all (further {u} {v} {t} {x} {a = p} {b} says h k) =
          let f = pred_ok u p (all_left Ok u (t ∷ v) all) h in
          let g = conj_ok v b (all_right Ok u (t ∷ v) all).1 k in
          (omega (arith, f.0, g.0), (f.1, g.1))

  inside_ok : (n : ℕ) → ((u : List Lexeme) (a : Pred) → AllOk Ok (marks_of u) → Inside is_small n InNeg u a → (suc (pred_need Right a) ≤ n) × PredOk a) × ((u : List Lexeme) (a : Pred) → AllOk Ok (marks_of u) → Inside is_small n InPred u a → (pred_need Right a ≤ n) × PredOk a)
  inside_ok zero = (λ u a all h. elim h [ ], λ u a all h. elim h [ ])
  inside_ok (suc n) =
      let ih = inside_ok n in (
        λ u a all h. let k = neg_ok (Inside is_small n) n ih.0 ih.1 u a all h in (omega (arith, k.0), k.1),
        λ u a all h. let k = pred_ok (Inside is_small n) n ih.0 ih.1 u a all h in let l = right_need a in (omega (arith, k.0, l), k.1),
      )

  pub is_pred_ok : (n : ℕ) (u : List Lexeme) (a : Pred) → AllOk Ok (marks_of u) → Is is_small n pred u a → (pred_need Left a ≤ n) × PredOk a
  is_pred_ok n u a all h = pred_ok (Inside is_small n) n (inside_ok n).0 (inside_ok n).1 u a all h

-- ---- printed tokens, wherever they stand

abbrev rule_at : Side → Rule Pred
rule_at Left = pred
rule_at Middle = conj
rule_at Right = neg

Prints : ℕ → Side → Pred → List Mark → Type 0
Prints n side a ms = Spells (Is is_small n (rule_at side)) bare_pred (bare_pred a) ms

from_neg : (n : ℕ) (a : Pred) (ms : List Mark) → Prints n Right a ms → Prints n Middle a ms
unfolding Prints conj
from_neg n a ms h = sp_start is_small (Inside is_small n) (is fixed.And) (λ a. a) (λ a _ b. Both a b) neg bare_pred bare_pred (bare_pred a) (bare_pred a) ms (λ b k. k) h

from_conj : (n : ℕ) (a : Pred) (ms : List Mark) → Prints n Middle a ms → Prints n Left a ms
unfolding Prints pred
from_conj n a ms h = sp_start is_small (Inside is_small n) (is fixed.Or) (λ a. a) (λ a _ b. Either a b) conj bare_pred bare_pred (bare_pred a) (bare_pred a) ms (λ b k. k) h

at_side : (n : ℕ) (side : Side) (a : Pred) (ms : List Mark) → Prints n Right a ms → Prints n side a ms
at_side n Left a ms h = from_conj n a ms (from_neg n a ms h)
at_side n Middle a ms h = from_neg n a ms h
at_side n Right a ms h = h

closed_pred : Pred → Rule Pred
closed_pred a = next (one (is fixed.Close)) (λ _. give a)

in_parentheses : (n : ℕ) (a : Pred) (ms : List Mark) → Prints n Left a ms → Prints (suc n) Right a (FIXED fixed.Open ∷ (ms ++ (FIXED fixed.Close ∷ [])))
unfolding Prints neg is closed_pred
in_parentheses n a ms h =
    let I : Parts = Inside is_small (suc n) in
    sp_deeper_stay is_small I bare_pred (bare_pred a) (is fixed.Not) InNeg (λ a. give (Negation a)) (deeper (is fixed.Open) InPred closed_pred atom) (FIXED fixed.Open ∷ (ms ++ (FIXED fixed.Close ∷ [])))
    (sp_deeper is_small I bare_pred (bare_pred a) (is fixed.Open) (FIXED fixed.Open) InPred closed_pred atom bare_pred (bare_pred a) ms (FIXED fixed.Close ∷ []) (λ p. (p, refl)) h
    (λ b same. sp_next is_small I bare_pred (bare_pred a) (one (is fixed.Close)) (λ _. give b) gone true (FIXED fixed.Close ∷ []) []
    (sp_one is_small I gone true (is fixed.Close) (FIXED fixed.Close) (λ p. (p, refl, refl))) (λ p k. sp_give is_small I bare_pred b (bare_pred a) same)))

-- NOT before what is no condition with BETWEEN, IN or IS
not_back : (n : ℕ) (a : Pred) (ms : List Mark) → Prints n Right a ms → Prints (suc n) Right (Negation a) (FIXED fixed.Not ∷ ms)
unfolding Prints neg is
not_back n a ms h =
    let I : Parts = Inside is_small (suc n) in
    subst (λ w. Spells (Is is_small (suc n) neg) bare_pred (bare_pred (Negation a)) (FIXED fixed.Not ∷ w)) (append-nil ms)
    (sp_deeper is_small I bare_pred (bare_pred (Negation a)) (is fixed.Not) (FIXED fixed.Not) InNeg (λ a. give (Negation a)) (deeper (is fixed.Open) InPred (λ a. next (one (is fixed.Close)) (λ _. give a)) atom) bare_pred (bare_pred a) ms []
    (λ p. (p, refl)) h (λ b same. sp_give is_small I bare_pred (Negation b) (bare_pred (Negation a)) (ap Negation same)))

module _ (I : Parts) where
  numeric_back : (Ok : Mark → Type 0) (z : ℤ) (s at : ℕ) → UnitsOk Ok z s → Spells (IsOf is_small I value) bare_operand (Numeric (record { at = 0; units = z; scale = s })) (units_marks z s)
  unfolding value is
  numeric_back Ok (pos u) s at ok =
      let c : Operand = Numeric (record { at = 0; units = pos u; scale = s }) in
      let ms : List Mark = NUMBER (Some u) s ∷ [] in
      let day : ℕ → Rule Operand = λ p. next (one is_string) (λ s. give (Day (record { at = p; name = s.name }))) in
      let last : Rule Operand = number false Numeric in
      sp_stay is_small I bare_operand c (is fixed.Minus) (λ _. number true Numeric) (either is_string (λ s. give (Str s)) (either (is fixed.Date) day last)) ms
      (sp_stay is_small I bare_operand c is_string (λ s. give (Str s)) (either (is fixed.Date) day last) ms
      (sp_stay is_small I bare_operand c (is fixed.Date) day last ms (sp_number is_small I bare_operand c false u s Numeric (small_pos u ok.0) (λ p. refl))))
  numeric_back Ok (negsuc u) s at ok =
      let c : Operand = Numeric (record { at = 0; units = negsuc u; scale = s }) in
      let rest : Rule Operand = either is_string (λ s. give (Str s)) (either (is fixed.Date) (λ p. next (one is_string) (λ s. give (Day (record { at = p; name = s.name })))) (number false Numeric)) in
      sp_go is_small I bare_operand c (is fixed.Minus) (FIXED fixed.Minus) (λ _. number true Numeric) rest (NUMBER (Some (suc u)) s ∷ [])
      (λ p. (p, refl, sp_number is_small I bare_operand c true (suc u) s Numeric (small_neg u ok.0) (λ p. refl)))

  value_back : (Ok : Mark → Type 0) (v : Operand) → OperandOk Ok v → Spells (IsOf is_small I value) bare_operand (bare_operand v) (operand_marks v)
  unfolding value is is_string
  value_back Ok (Numeric n) ok = numeric_back Ok n.units n.scale n.at ok
  value_back Ok (Str t) ok =
      let c : Operand = bare_operand (Str t) in
      let rest : Rule Operand = either (is fixed.Date) (λ p. next (one is_string) (λ s. give (Day (record { at = p; name = s.name })))) (number false Numeric) in
      sp_stay is_small I bare_operand c (is fixed.Minus) (λ _. number true Numeric) (either is_string (λ s. give (Str s)) rest) (STRING t.name ∷ [])
      (sp_go is_small I bare_operand c is_string (STRING t.name) (λ s. give (Str s)) rest [] (λ p. (record { at = p; name = t.name }, refl, sp_give is_small I bare_operand (Str (record { at = p; name = t.name })) c refl)))
  value_back Ok (Day t) ok =
      let c : Operand = bare_operand (Day t) in
      let ms : List Mark = FIXED fixed.Date ∷ (STRING t.name ∷ []) in
      let day : ℕ → Rule Operand = λ p. next (one is_string) (λ s. give (Day (record { at = p; name = s.name }))) in
      let last : Rule Operand = number false Numeric in
      sp_stay is_small I bare_operand c (is fixed.Minus) (λ _. number true Numeric) (either is_string (λ s. give (Str s)) (either (is fixed.Date) day last)) ms
      (sp_stay is_small I bare_operand c is_string (λ s. give (Str s)) (either (is fixed.Date) day last) ms
      (sp_go is_small I bare_operand c (is fixed.Date) (FIXED fixed.Date) day last (STRING t.name ∷ [])
      (λ p. (
        p,
        refl,
        sp_next is_small I bare_operand c (one is_string) (λ s. give (Day (record { at = p; name = s.name }))) bare_name (bare_name t) (STRING t.name ∷ []) []
            (sp_one is_small I bare_name (bare_name t) is_string (STRING t.name) (λ q. (record { at = q; name = t.name }, refl, refl)))
            (λ s same. sp_give is_small I bare_operand (Day (record { at = p; name = s.name })) c (ap (λ (x : Name). Day (record { at = 0; name = x.name })) same)),
      ))))

  -- a keyword or sign, and what follows it
  pub fixed_back : {A C : Type 0} (view : A → C) (c : C) (k : Fixed) → ((p : ℕ) → is k (token p (FIXED k)) ≡ Some p) → (go : Rule A) (ms : List Mark) → Spells (IsOf is_small I go) view c ms → Spells (IsOf is_small I (next (one (is k)) (λ _. go))) view c (FIXED k ∷ ms)
  fixed_back view c k there go ms h =
      sp_next is_small I view c (one (is k)) (λ _. go) gone true (FIXED k ∷ []) ms (sp_one is_small I gone true (is k) (FIXED k) (λ p. (p, there p, refl))) (λ p e. h)

  -- a list with commas
  pub listed_back : {A C : Type 0} (part : Rule A) (view : A → C) (f : A → List Mark) (P : A → Type 0) → ((a : A) → P a → Spells (IsOf is_small I part) view (view a) (f a))
      → (xs : List A) → SomeOk P xs → Spells (IsOf is_small I (listed part)) (map view) (map view xs) (listed_marks f xs)
  unfolding is
  listed_back part view f P back [] h = elim h [ ]
  listed_back {A} {C} part view f P back (x ∷ xs) h =
      more (x ∷ []) (f x) (sp_start is_small I (is fixed.Comma) (λ x. x ∷ []) (λ xs _ x. xs ++ (x ∷ [])) part view (map view) (view x) (view x ∷ []) (f x) (λ b e. ap (λ y. y ∷ []) e) (back x h.0)) xs h.1
    where
      more : (acc : List A) (ms : List Mark) → Spells (IsOf is_small I (listed part)) (map view) (map view acc) ms → (ys : List A) → EachOk P ys
          → Spells (IsOf is_small I (listed part)) (map view) (map view (acc ++ ys)) (ms ++ more_marks f ys)
      more acc ms s [] k = subst (λ w. Spells (IsOf is_small I (listed part)) (map view) (map view (acc ++ [])) w) (sym (append-nil ms)) (subst (λ w. Spells (IsOf is_small I (listed part)) (map view) (map view w) ms) (sym (append-nil acc)) s)
      more acc ms s (y ∷ ys) k =
          let joined : (a : List A) (b : A) → map view a ≡ map view acc → view b ≡ view y → map view (a ++ (b ∷ [])) ≡ map view (acc ++ (y ∷ [])) =
          λ a b i j. map-append view a (b ∷ []) ∙ ap (λ w. w ++ (view b ∷ [])) i ∙ ap (λ w. map view acc ++ (w ∷ [])) j ∙ sym (map-append view acc (y ∷ [])) in
          let one_further = sp_further is_small I (is fixed.Comma) (λ x. x ∷ []) (λ xs _ x. xs ++ (x ∷ [])) part view (map view) (view y) (map view acc) (map view (acc ++ (y ∷ []))) (FIXED fixed.Comma) ms (f y) (λ p. (p, refl, joined)) s (back y k.0) in
          let rest = more (acc ++ (y ∷ [])) (ms ++ (FIXED fixed.Comma ∷ f y)) one_further ys k.1 in
          subst (λ w. Spells (IsOf is_small I (listed part)) (map view) (map view w) (ms ++ (FIXED fixed.Comma ∷ (f y ++ more_marks f ys)))) (append_assoc acc (y ∷ []) ys)
          (subst (λ w. Spells (IsOf is_small I (listed part)) (map view) (map view ((acc ++ (y ∷ [])) ++ ys)) w) (append_assoc ms (FIXED fixed.Comma ∷ f y) (more_marks f ys)) rest)

  between_back : (Ok : Mark → Type 0) (c d : Name) (low high : Operand) → bare_name d ≡ bare_name c → OperandOk Ok low → OperandOk Ok high
      → Spells (IsOf is_small I (between d)) bare_pred (bare_pred (Between c low high)) (operand_marks low ++ (FIXED fixed.And ∷ operand_marks high))
  unfolding between is
  between_back Ok c d low high same p q =
      let t : Pred = bare_pred (Between c low high) in
      sp_next is_small I bare_pred t value (λ low. next (one (is fixed.And)) (λ _. next value (λ high. give (Between d low high)))) bare_operand (bare_operand low) (operand_marks low) (FIXED fixed.And ∷ operand_marks high) (value_back Ok low p)
      (λ l el. fixed_back bare_pred t fixed.And (λ p. refl) (next value (λ high. give (Between d l high))) (operand_marks high)
      (subst (Spells (IsOf is_small I (next value (λ high. give (Between d l high)))) bare_pred t) (append-nil (operand_marks high))
      (sp_next is_small I bare_pred t value (λ high. give (Between d l high)) bare_operand (bare_operand high) (operand_marks high) [] (value_back Ok high q)
      (λ h eh. sp_give is_small I bare_pred (Between d l h) t (rw (same, el, eh) refl)))))

  members_back : (Ok : Mark → Type 0) (c d : Name) (vs : List Operand) → bare_name d ≡ bare_name c → SomeOk (OperandOk Ok) vs
      → Spells (IsOf is_small I (members d)) bare_pred (bare_pred (OneOf c vs)) (FIXED fixed.Open ∷ (listed_marks operand_marks vs ++ (FIXED fixed.Close ∷ [])))
  unfolding members is
  members_back Ok c d vs same p =
      let t : Pred = bare_pred (OneOf c vs) in
      fixed_back bare_pred t fixed.Open (λ p. refl) (next (listed value) (λ vs. next (one (is fixed.Close)) (λ _. give (OneOf d vs)))) (listed_marks operand_marks vs ++ (FIXED fixed.Close ∷ []))
      (sp_next is_small I bare_pred t (listed value) (λ vs. next (one (is fixed.Close)) (λ _. give (OneOf d vs))) (map bare_operand) (map bare_operand vs) (listed_marks operand_marks vs) (FIXED fixed.Close ∷ [])
      (listed_back value bare_operand operand_marks (OperandOk Ok) (value_back Ok) vs p)
      (λ us e. fixed_back bare_pred t fixed.Close (λ p. refl) (give (OneOf d us)) [] (sp_give is_small I bare_pred (OneOf d us) t (rw (same, e) refl))))

  ranged_between : (Ok : Mark → Type 0) (c d : Name) (low high : Operand) → bare_name d ≡ bare_name c → OperandOk Ok low → OperandOk Ok high
      → Spells (IsOf is_small I (ranged d)) bare_pred (bare_pred (Between c low high)) (between_marks low high)
  unfolding ranged is
  ranged_between Ok c d low high same p q =
      sp_go is_small I bare_pred (bare_pred (Between c low high)) (is fixed.Between) (FIXED fixed.Between) (λ _. between d) (next (one (is fixed.In)) (λ _. members d)) (operand_marks low ++ (FIXED fixed.And ∷ operand_marks high))
      (λ x. (x, refl, between_back Ok c d low high same p q))

  ranged_members : (Ok : Mark → Type 0) (c d : Name) (vs : List Operand) → bare_name d ≡ bare_name c → SomeOk (OperandOk Ok) vs
      → Spells (IsOf is_small I (ranged d)) bare_pred (bare_pred (OneOf c vs)) (members_marks vs)
  unfolding ranged is
  ranged_members Ok c d vs same p =
      sp_stay is_small I bare_pred (bare_pred (OneOf c vs)) (is fixed.Between) (λ _. between d) (next (one (is fixed.In)) (λ _. members d)) (members_marks vs)
      (fixed_back bare_pred (bare_pred (OneOf c vs)) fixed.In (λ p. refl) (members d) (FIXED fixed.Open ∷ (listed_marks operand_marks vs ++ (FIXED fixed.Close ∷ []))) (members_back Ok c d vs same p))

  -- a condition with no NOT at its front
  abbrev signed : Name → Rule Pred
  signed d = either is_cmp (λ op. compared d op) (either (is fixed.Is) (λ _. nullness d) (ranged d))

  -- a condition with BETWEEN or IN, and NOT before it
  plain_back : (d : Name) (t : Pred) (ms : List Mark) → Spells (IsOf is_small I (ranged d)) bare_pred t ms → Spells (IsOf is_small I (condition d)) bare_pred t ms
  unfolding condition
  plain_back d t ms h =
      sp_stay is_small I bare_pred t (is fixed.Not) (λ _. next (ranged d) (λ a. give (Negation a))) (signed d) ms
      (sp_stay is_small I bare_pred t is_cmp (λ op. compared d op) (either (is fixed.Is) (λ _. nullness d) (ranged d)) ms
      (sp_stay is_small I bare_pred t (is fixed.Is) (λ _. nullness d) (ranged d) ms h))

  negated_back : (d : Name) (a : Pred) (ms : List Mark) → Spells (IsOf is_small I (ranged d)) bare_pred (bare_pred a) ms → Spells (IsOf is_small I (condition d)) bare_pred (bare_pred (Negation a)) (FIXED fixed.Not ∷ ms)
  unfolding condition is
  negated_back d a ms h =
      sp_go is_small I bare_pred (bare_pred (Negation a)) (is fixed.Not) (FIXED fixed.Not) (λ _. next (ranged d) (λ a. give (Negation a))) (signed d) ms
      (λ x. (
        x,
        refl,
        subst (Spells (IsOf is_small I (next (ranged d) (λ a. give (Negation a)))) bare_pred (bare_pred (Negation a))) (append-nil ms)
            (sp_next is_small I bare_pred (bare_pred (Negation a)) (ranged d) (λ a. give (Negation a)) bare_pred (bare_pred a) ms [] h (λ b e. sp_give is_small I bare_pred (Negation b) (bare_pred (Negation a)) (ap Negation e))),
      ))

  cmp_there : (op : Comparison) (p : ℕ) → is_cmp (token p (FIXED (sign_of op))) ≡ Some op
  unfolding cmp_of
  cmp_there cmps.Eq p = refl
  cmp_there cmps.Ne p = refl
  cmp_there cmps.Lt p = refl
  cmp_there cmps.Le p = refl
  cmp_there cmps.Gt p = refl
  cmp_there cmps.Ge p = refl

  not_not : (op : Comparison) (p : ℕ) → is fixed.Not (token p (FIXED (sign_of op))) ≡ None
  unfolding is
  not_not cmps.Eq p = refl
  not_not cmps.Ne p = refl
  not_not cmps.Lt p = refl
  not_not cmps.Le p = refl
  not_not cmps.Gt p = refl
  not_not cmps.Ge p = refl

  compared_back : (d : Name) (op : Comparison) (t : Pred) (ms : List Mark) → Spells (IsOf is_small I (compared d op)) bare_pred t ms → Spells (IsOf is_small I (condition d)) bare_pred t (FIXED (sign_of op) ∷ ms)
  unfolding condition
  compared_back d op t ms h =
      sp_stay is_small I bare_pred t (is fixed.Not) (λ _. next (ranged d) (λ a. give (Negation a))) (signed d) (FIXED (sign_of op) ∷ ms)
      (sp_go is_small I bare_pred t is_cmp (FIXED (sign_of op)) (λ op. compared d op) (either (is fixed.Is) (λ _. nullness d) (ranged d)) ms (λ p. (op, cmp_there op p, h)))

  compare_back : (Ok : Mark → Type 0) (c d : Name) (op : Comparison) (v : Operand) → bare_name d ≡ bare_name c → OperandOk Ok v → Spells (IsOf is_small I (condition d)) bare_pred (bare_pred (Compare c op v)) (FIXED (sign_of op) ∷ operand_marks v)
  unfolding compared
  compare_back Ok c d op v same ok =
      let t : Pred = bare_pred (Compare c op v) in
      compared_back d op t (operand_marks v)
      (sp_stay is_small I bare_pred t is_name (λ e. give (Columns d op e)) (next value (λ v. give (Compare d op v))) (operand_marks v)
      (subst (Spells (IsOf is_small I (next value (λ v. give (Compare d op v)))) bare_pred t) (append-nil (operand_marks v))
      (sp_next is_small I bare_pred t value (λ v. give (Compare d op v)) bare_operand (bare_operand v) (operand_marks v) [] (value_back Ok v ok) (λ b e. sp_give is_small I bare_pred (Compare d op b) t (rw (same, e) refl)))))

  columns_back : (c d e : Name) (op : Comparison) → bare_name d ≡ bare_name c → Spells (IsOf is_small I (condition d)) bare_pred (bare_pred (Columns c op e)) (FIXED (sign_of op) ∷ (NAME e.name ∷ []))
  unfolding compared is_name
  columns_back c d e op same =
      let t : Pred = bare_pred (Columns c op e) in
      compared_back d op t (NAME e.name ∷ [])
      (sp_go is_small I bare_pred t is_name (NAME e.name) (λ e. give (Columns d op e)) (next value (λ v. give (Compare d op v))) [] (λ p. (record { at = p; name = e.name }, refl, sp_give is_small I bare_pred (Columns d op (record { at = p; name = e.name })) t (rw same refl))))

  -- what follows IS
  after_is : (d : Name) (t : Pred) (ms : List Mark) → Spells (IsOf is_small I (nullness d)) bare_pred t ms → Spells (IsOf is_small I (condition d)) bare_pred t (FIXED fixed.Is ∷ ms)
  unfolding condition is
  after_is d t ms h =
      sp_stay is_small I bare_pred t (is fixed.Not) (λ _. next (ranged d) (λ a. give (Negation a))) (signed d) (FIXED fixed.Is ∷ ms)
      (sp_stay is_small I bare_pred t is_cmp (λ op. compared d op) (either (is fixed.Is) (λ _. nullness d) (ranged d)) (FIXED fixed.Is ∷ ms)
      (sp_go is_small I bare_pred t (is fixed.Is) (FIXED fixed.Is) (λ _. nullness d) (ranged d) ms (λ p. (p, refl, h))))

  null_back : (d : Name) (a : Pred) (t : Pred) → bare_pred a ≡ t → Spells (IsOf is_small I (next (one (is fixed.Null)) (λ _. give a))) bare_pred t (FIXED fixed.Null ∷ [])
  unfolding is
  null_back d a t same = fixed_back bare_pred t fixed.Null (λ p. refl) (give a) [] (sp_give is_small I bare_pred a t same)

  is_null_back : (c d : Name) → bare_name d ≡ bare_name c → Spells (IsOf is_small I (condition d)) bare_pred (bare_pred (IsNull c)) (FIXED fixed.Is ∷ (FIXED fixed.Null ∷ []))
  unfolding nullness
  is_null_back c d same =
      let t : Pred = bare_pred (IsNull c) in
      after_is d t (FIXED fixed.Null ∷ [])
      (sp_stay is_small I bare_pred t (is fixed.Not) (λ _. next (one (is fixed.Null)) (λ _. give (Negation (IsNull d)))) (next (one (is fixed.Null)) (λ _. give (IsNull d))) (FIXED fixed.Null ∷ []) (null_back d (IsNull d) t (rw same refl)))

  is_not_null_back : (c d : Name) → bare_name d ≡ bare_name c → Spells (IsOf is_small I (condition d)) bare_pred (bare_pred (Negation (IsNull c))) (FIXED fixed.Is ∷ (FIXED fixed.Not ∷ (FIXED fixed.Null ∷ [])))
  unfolding nullness is
  is_not_null_back c d same =
      let t : Pred = bare_pred (Negation (IsNull c)) in
      after_is d t (FIXED fixed.Not ∷ (FIXED fixed.Null ∷ []))
      (sp_go is_small I bare_pred t (is fixed.Not) (FIXED fixed.Not) (λ _. next (one (is fixed.Null)) (λ _. give (Negation (IsNull d)))) (next (one (is fixed.Null)) (λ _. give (IsNull d))) (FIXED fixed.Null ∷ [])
      (λ p. (p, refl, null_back d (Negation (IsNull d)) t (rw same refl))))

atom_back : (n : ℕ) (c : Name) (a : Pred) (ms : List Mark) → ((d : Name) → bare_name d ≡ bare_name c → Spells (Is is_small n (condition d)) bare_pred (bare_pred a) ms) → Prints n Right a (NAME c.name ∷ ms)
unfolding Prints neg atom is_name
atom_back n c a ms h =
    let I : Parts = Inside is_small n in
    let t : Pred = bare_pred a in
    sp_deeper_stay is_small I bare_pred t (is fixed.Not) InNeg (λ a. give (Negation a)) (deeper (is fixed.Open) InPred (λ a. next (one (is fixed.Close)) (λ _. give a)) (next (one is_name) (λ c. condition c))) (NAME c.name ∷ ms)
    (sp_deeper_stay is_small I bare_pred t (is fixed.Open) InPred (λ a. next (one (is fixed.Close)) (λ _. give a)) (next (one is_name) (λ c. condition c)) (NAME c.name ∷ ms)
    (sp_next is_small I bare_pred t (one is_name) (λ c. condition c) bare_name (bare_name c) (NAME c.name ∷ []) ms (sp_one is_small I bare_name (bare_name c) is_name (NAME c.name) (λ p. (record { at = p; name = c.name }, refl, refl))) h))

loose : (n d : ℕ) (side : Side) (a : Pred) (w : List Mark) → one_more (wraps_loose side) d ≤ n → ((m : ℕ) → d ≤ m → Prints m Left a w) → Prints n side a (wrapped (wraps_loose side) w)
loose n d Left a w le h = h n le
loose zero d Middle a w le h = absurd (omega arith)
loose (suc n) d Middle a w le h = from_neg (suc n) a (wrapped true w) (in_parentheses n a w (h n (omega arith)))
loose zero d Right a w le h = absurd (omega arith)
loose (suc n) d Right a w le h = in_parentheses n a w (h n (omega arith))

tight : (n d : ℕ) (side : Side) (a : Pred) (w : List Mark) → one_more (wraps_tight side) d ≤ n → ((m : ℕ) → d ≤ m → Prints m Middle a w) → Prints n side a (wrapped (wraps_tight side) w)
tight n d Left a w le h = from_conj n a w (h n le)
tight n d Middle a w le h = h n le
tight zero d Right a w le h = absurd (omega arith)
tight (suc n) d Right a w le h = in_parentheses n a w (from_conj n a w (h n (omega arith)))

and_back : (n : ℕ) (a b : Pred) (ma mb : List Mark) → Prints n Middle a ma → Prints n Right b mb → Prints n Middle (Both a b) (ma ++ (FIXED fixed.And ∷ mb))
unfolding Prints conj is
and_back n a b ma mb h k =
    sp_further is_small (Inside is_small n) (is fixed.And) (λ a. a) (λ a _ b. Both a b) neg bare_pred bare_pred (bare_pred b) (bare_pred a) (bare_pred (Both a b)) (FIXED fixed.And) ma mb (λ p. (p, refl, λ x y i j. rw (i, j) refl)) h k

or_back : (n : ℕ) (a b : Pred) (ma mb : List Mark) → Prints n Left a ma → Prints n Middle b mb → Prints n Left (Either a b) (ma ++ (FIXED fixed.Or ∷ mb))
unfolding Prints pred is
or_back n a b ma mb h k =
    sp_further is_small (Inside is_small n) (is fixed.Or) (λ a. a) (λ a _ b. Either a b) conj bare_pred bare_pred (bare_pred b) (bare_pred a) (bare_pred (Either a b)) (FIXED fixed.Or) ma mb (λ p. (p, refl, λ x y i j. rw (i, j) refl)) h k

module _ (Ok : Mark → Type 0) where
  -- NOT, where it is no part of a condition
  not_at : (n : ℕ) (side : Side) (a : Pred) → suc (pred_need Right a) ≤ n → ((m : ℕ) → pred_need Right a ≤ m → Prints m Right a (pred_marks Right a)) → Prints n side (Negation a) (FIXED fixed.Not ∷ pred_marks Right a)
  not_at zero side a le h = absurd (omega arith)
  not_at (suc n) side a le h = at_side (suc n) side (Negation a) (FIXED fixed.Not ∷ pred_marks Right a) (not_back n a (pred_marks Right a) (h n (omega arith)))

  negation : (n : ℕ) (side : Side) (a : Pred) → pred_need side (Negation a) ≤ n → PredOk Ok a → ((m : ℕ) → pred_need Right a ≤ m → Prints m Right a (pred_marks Right a)) → Prints n side (Negation a) (negated_marks a (pred_marks Right a))
  negation n side (Between c low high) le ok h =
      at_side n side (Negation (Between c low high)) (NAME c.name ∷ (FIXED fixed.Not ∷ between_marks low high))
      (atom_back n c (Negation (Between c low high)) (FIXED fixed.Not ∷ between_marks low high) (λ d same. negated_back (Inside is_small n) d (Between c low high) (between_marks low high) (ranged_between (Inside is_small n) Ok c d low high same ok.1 ok.2)))
  negation n side (OneOf c vs) le ok h =
      at_side n side (Negation (OneOf c vs)) (NAME c.name ∷ (FIXED fixed.Not ∷ members_marks vs))
      (atom_back n c (Negation (OneOf c vs)) (FIXED fixed.Not ∷ members_marks vs) (λ d same. negated_back (Inside is_small n) d (OneOf c vs) (members_marks vs) (ranged_members (Inside is_small n) Ok c d vs same ok.1)))
  negation n side (IsNull c) le ok h =
      at_side n side (Negation (IsNull c)) (NAME c.name ∷ (FIXED fixed.Is ∷ (FIXED fixed.Not ∷ (FIXED fixed.Null ∷ []))))
      (atom_back n c (Negation (IsNull c)) (FIXED fixed.Is ∷ (FIXED fixed.Not ∷ (FIXED fixed.Null ∷ []))) (λ d same. is_not_null_back (Inside is_small n) c d same))
  negation n side (Compare c op v) le ok h = not_at n side (Compare c op v) le h
  negation n side (Columns c op d) le ok h = not_at n side (Columns c op d) le h
  negation n side (Negation a) le ok h = not_at n side (Negation a) le h
  negation n side (Both a b) le ok h = not_at n side (Both a b) le h
  negation n side (Either a b) le ok h = not_at n side (Either a b) le h

  prints : (n : ℕ) (side : Side) (a : Pred) → pred_need side a ≤ n → PredOk Ok a → Prints n side a (pred_marks side a)
  prints n side (Compare c op v) le ok =
      at_side n side (Compare c op v) (NAME c.name ∷ (FIXED (sign_of op) ∷ operand_marks v))
      (atom_back n c (Compare c op v) (FIXED (sign_of op) ∷ operand_marks v) (λ d same. compare_back (Inside is_small n) Ok c d op v same ok.1))
  prints n side (Columns c op e) le ok =
      at_side n side (Columns c op e) (NAME c.name ∷ (FIXED (sign_of op) ∷ (NAME e.name ∷ [])))
      (atom_back n c (Columns c op e) (FIXED (sign_of op) ∷ (NAME e.name ∷ [])) (λ d same. columns_back (Inside is_small n) c d e op same))
  prints n side (Between c low high) le ok =
      at_side n side (Between c low high) (NAME c.name ∷ between_marks low high)
      (atom_back n c (Between c low high) (between_marks low high) (λ d same. plain_back (Inside is_small n) d (bare_pred (Between c low high)) (between_marks low high) (ranged_between (Inside is_small n) Ok c d low high same ok.1 ok.2)))
  prints n side (OneOf c vs) le ok =
      at_side n side (OneOf c vs) (NAME c.name ∷ members_marks vs)
      (atom_back n c (OneOf c vs) (members_marks vs) (λ d same. plain_back (Inside is_small n) d (bare_pred (OneOf c vs)) (members_marks vs) (ranged_members (Inside is_small n) Ok c d vs same ok.1)))
  prints n side (IsNull c) le ok =
      at_side n side (IsNull c) (NAME c.name ∷ (FIXED fixed.Is ∷ (FIXED fixed.Null ∷ [])))
      (atom_back n c (IsNull c) (FIXED fixed.Is ∷ (FIXED fixed.Null ∷ [])) (λ d same. is_null_back (Inside is_small n) c d same))
  prints n side (Negation a) le ok = negation n side a le ok (λ m l. prints m Right a l ok)
  prints n side (Both a b) le ok =
      tight n (max (pred_need Middle a) (pred_need Right b)) side (Both a b) (pred_marks Middle a ++ (FIXED fixed.And ∷ pred_marks Right b)) le
      (λ m d. and_back m a b (pred_marks Middle a) (pred_marks Right b) (prints m Middle a (omega arith) ok.0) (prints m Right b (omega arith) ok.1))
  prints n side (Either a b) le ok =
      loose n (max (pred_need Left a) (pred_need Middle b)) side (Either a b) (pred_marks Left a ++ (FIXED fixed.Or ∷ pred_marks Middle b)) le
      (λ m d. or_back m a b (pred_marks Left a) (pred_marks Middle b) (prints m Left a (omega arith) ok.0) (prints m Middle b (omega arith) ok.1))

  pub pred_back : (n : ℕ) (a : Pred) → pred_need Left a ≤ n → PredOk Ok a → Spells (Is is_small n pred) bare_pred (bare_pred a) (pred_marks Left a)
  unfolding Prints
  pred_back n a le ok = prints n Left a le ok
