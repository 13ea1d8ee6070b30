-- At each place of the grammar the next token alone decides.
use Rattle.std.proofs.Common.{◌≡◌, ℕ, List, [], Bool, true, false, cond, Option, Some, None, ◌⊎◌, inl, inr, refl, sym, subst}
use Rattle.sql_tokens.specs.declared.token.Fixed.{Fixed}
use Rattle.sql_tokens.specs.declared.token.Fixed.TheVariants as fixed
use Rattle.sql_tokens.specs.Lexeme.{Lexeme, token, FIXED, NAME, NUMBER, STRING}
use Rattle.sql_text.specs.declared.fault.Cause.TheVariants.{TooDeep}
use Rattle.sql_text.specs.declared.tree.Comparison.{Comparison}
use Rattle.sql_text.specs.declared.tree.CallKind.{CallKind}
use Rattle.sql_text.specs.declared.tree.CallKind.TheVariants as calls
use Rattle.sql_text.specs.Tree.{Name}
use Rattle.sql_text.specs.Tree as tree
use Rattle.sql_text.specs.Number.{is, same, is_name, is_string, is_number, is_cmp, is_sum, cmp_of, call_of, sum_of}
use Rattle.sql_text.specs.Rule.{Part, InExpr, InPred, InNeg, Rule, give, one, number, either, deeper, next}
use Rattle.sql_text.specs.Grammar.{listed, factor, term, expr, value, between, members, ranged, nullness, compared, condition, atom, neg, conj, pred, argument, count, call, item, filter, grouping, direction, ordering, semicolon, source, query, rule_of}
use Rattle.sql_text.specs.Sentence.{IsLimitAt}
use Rattle.sql_text.proofs.Keywords.{same_is}
use Rattle.sql_text.proofs.Clear.{Null, First, EndsPart, Ends, Clear}

-- ---- tests

is_there : (k : Fixed) (t : Lexeme) (x : ℕ) → is k t ≡ Some x → t ≡ token x (FIXED k)
unfolding is
is_there k (token p (NAME s)) x e = absurd cc
is_there k (token p (NUMBER u c)) x e = absurd cc
is_there k (token p (STRING s)) x e = absurd cc
is_there k (token p (FIXED f)) x e = go (same f k) refl e
  where
    go : (b : Bool) → same f k ≡ b → cond b (Some p) None ≡ Some x → token p (FIXED f) ≡ token x (FIXED k)
    go true s h =
        let i : f ≡ k = same_is f k s in
        let j : p ≡ x = cc in
        cc
    go false s h = absurd cc

none_if : (k : Fixed) (t : Lexeme) → ((x : ℕ) → t ≡ token x (FIXED k) → ⊥) → is k t ≡ None
none_if k t f = go (is k t) refl
  where
    go : (o : Option ℕ) → is k t ≡ o → o ≡ None
    go None e = refl
    go (Some x) e = absurd (f x (is_there k t x e))

name_there : (t : Lexeme) (n : Name) → is_name t ≡ Some n → t ≡ token n.at (NAME n.name)
unfolding is_name
name_there (token p (NAME s)) n e = let i : record { at = p; name = s } ≡ n = cc in subst (λ (m : Name). token p (NAME s) ≡ token m.at (NAME m.name)) i refl
name_there (token p (FIXED f)) n e = absurd cc
name_there (token p (NUMBER u c)) n e = absurd cc
name_there (token p (STRING s)) n e = absurd cc

none_name : (t : Lexeme) → ((p : ℕ) (s : List ℕ) → t ≡ token p (NAME s) → ⊥) → is_name t ≡ None
none_name t f = go (is_name t) refl
  where
    go : (o : Option Name) → is_name t ≡ o → o ≡ None
    go None e = refl
    go (Some n) e = absurd (f n.at n.name (name_there t n e))

string_there : (t : Lexeme) (n : Name) → is_string t ≡ Some n → t ≡ token n.at (STRING n.name)
unfolding is_string
string_there (token p (STRING s)) n e = let i : record { at = p; name = s } ≡ n = cc in subst (λ (m : Name). token p (STRING s) ≡ token m.at (STRING m.name)) i refl
string_there (token p (FIXED f)) n e = absurd cc
string_there (token p (NUMBER u c)) n e = absurd cc
string_there (token p (NAME s)) n e = absurd cc

none_string : (t : Lexeme) → ((p : ℕ) (s : List ℕ) → t ≡ token p (STRING s) → ⊥) → is_string t ≡ None
none_string t f = go (is_string t) refl
  where
    go : (o : Option Name) → is_string t ≡ o → o ≡ None
    go None e = refl
    go (Some n) e = absurd (f n.at n.name (string_there t n e))

fixed_limit : (k : Fixed) (t : Lexeme) (x : ℕ) → is k t ≡ Some x → IsLimitAt TooDeep t
fixed_limit k t x e = rw (is_there k t x e) tt

-- a test says nothing
sees : {X : Type 0} → ((x : X) × (◌≡◌ {A = Option X} None (Some x))) → ⊥
sees {X} h = let e : ◌≡◌ {A = Option X} None (Some h.0) = h.1 in cc

or : {P Q : Type 0} → (P → ⊥) → (Q → ⊥) → P ⊎ Q → ⊥
or f g (inl p) = f p
or f g (inr q) = g q

-- the keyword with which one rule behind another begins
starts : {A : Type 0} (k : Fixed) (go : ℕ → Rule A) (E : Lexeme → Type 0) → ((x : ℕ) → E (token x (FIXED k))) → (t : Lexeme) → First (next (one (is k)) go) t → E t
starts k go E f t (inl h) = subst E (sym (is_there k t h.0 h.1)) (f h.0)
starts k go E f t (inr h) = elim h.0 [ ]

-- ---- expressions

closes : {A : Type 0} (a : A) → Clear (next (one (is fixed.Close)) (λ _. give a))
unfolding is
closes a = ((token 0 (FIXED fixed.Close), 0, refl), λ _. tt, λ b t f. absurd f)

close_expr : (x : ℕ) → EndsPart InExpr (token x (FIXED fixed.Close))
unfolding is sum_of
close_expr x = (refl, refl)

factor_clear : Clear factor
unfolding factor is is_name is_number
factor_clear = (
  λ _. tt,
  (
    λ _. tt,
    (
      λ e. closes e,
      tt,
      λ t f. none_if fixed.Open t (λ x e. sees (subst (First (number false tree.Number)) e f)),
      fixed_limit fixed.Open,
      λ e t f. starts fixed.Close (λ _. give e) (EndsPart InExpr) close_expr t f,
    ),
    λ t f. none_name t (λ p s e. or sees sees (subst (First (deeper (is fixed.Open) InExpr (λ e. next (one (is fixed.Close)) (λ _. give e)) (number false tree.Number))) e f)),
  ),
  λ t f. none_if fixed.Minus t (λ x e. or sees (or sees sees) (subst (First (either is_name (λ n. give (tree.Column n)) (deeper (is fixed.Open) InExpr (λ e. next (one (is fixed.Close)) (λ _. give e)) (number false tree.Number)))) e f)),
)

factor_ends : (t : Lexeme) → Ends factor t
unfolding factor
factor_ends t = (λ _. tt, (λ _. tt, (λ b. (λ _. tt, λ _ _. tt), λ b h. absurd h.0, tt, λ h. absurd h), λ h. absurd h), λ h. absurd h)

factor_some : Null factor → ⊥
unfolding factor
factor_some h = h

factor_begins : (t : Lexeme) → First factor t → is fixed.Star t ≡ None
unfolding factor is is_name is_number
factor_begins t f = none_if fixed.Star t (λ x e. or sees (or sees (or sees sees)) (subst (First factor) e f))

term_clear : Clear term
unfolding term
term_clear = (factor_clear, factor_some, λ t x e. factor_ends t)

no_star : (t : Lexeme) (x : Bool) → is_sum t ≡ Some x → is fixed.Star t ≡ None
unfolding sum_of
no_star t x e = none_if fixed.Star t (λ p i. sees (x, subst (λ s. is_sum s ≡ Some x) i e))

expr_clear : Clear expr
unfolding expr term
expr_clear = (term_clear, factor_some, λ t x e. (factor_ends t, no_star t x e))

expr_ends : (t : Lexeme) → EndsPart InExpr t → Ends expr t
unfolding expr term
expr_ends t h = ((factor_ends t, h.0), h.1)

-- ---- conditions on a column

value_clear : Clear value
unfolding value is is_string is_number
value_clear = (
  λ _. tt,
  (
    λ _. tt,
    (
      λ p. ((token 0 (STRING []), record { at = 0; name = [] }, refl), λ _. tt, λ b t f. absurd f),
      tt,
      λ t f. none_if fixed.Date t (λ x e. sees (subst (First (number false tree.Numeric)) e f)),
    ),
    λ t f. none_string t (λ p s e. or sees sees (subst (First (either (is fixed.Date) (λ p. next (one is_string) (λ s. give (tree.Day (record { at = p; name = s.name })))) (number false tree.Numeric))) e f)),
  ),
  λ t f. none_if fixed.Minus t (λ x e. or sees (or sees sees)
      (subst (First (either is_string (λ s. give (tree.Str s)) (either (is fixed.Date) (λ p. next (one is_string) (λ s. give (tree.Day (record { at = p; name = s.name })))) (number false tree.Numeric)))) e f)),
)

value_ends : (t : Lexeme) → Ends value t
unfolding value
value_ends t = (λ _. tt, (λ _. tt, (λ p. (λ _. tt, λ _ _. tt), tt, λ h. absurd h), λ h. absurd h), λ h. absurd h)

value_some : Null value → ⊥
unfolding value
value_some h = h

between_clear : (c : Name) → Clear (between c)
unfolding between is
between_clear c = (value_clear, λ low. ((token 0 (FIXED fixed.And), 0, refl), λ _. (value_clear, λ high. tt, λ b t f. absurd f), λ _ _ _. tt), λ low t f. value_ends t)

comma_at_close : (x : ℕ) → is fixed.Comma (token x (FIXED fixed.Close)) ≡ None
unfolding is
comma_at_close x = refl

members_clear : (c : Name) → Clear (members c)
unfolding members is
members_clear c = (
  (token 0 (FIXED fixed.Open), 0, refl),
  λ _. (
    (value_clear, value_some, λ t x e. value_ends t),
    λ vs. closes (tree.OneOf c vs),
    λ vs t f. starts fixed.Close (λ _. give (tree.OneOf c vs)) (λ s. Ends (listed value) s) (λ x. (value_ends (token x (FIXED fixed.Close)), comma_at_close x)) t f,
  ),
  λ _ _ _. tt,
)

ranged_clear : (c : Name) → Clear (ranged c)
unfolding ranged is
ranged_clear c = (
  λ _. between_clear c,
  ((token 0 (FIXED fixed.In), 0, refl), λ _. members_clear c, λ _ _ _. tt),
  λ t f. starts fixed.In (λ _. members c) (λ s. is fixed.Between s ≡ None) (λ x. refl) t f,
)

ranged_ends : (c : Name) (t : Lexeme) → Ends (ranged c) t
unfolding ranged between members
ranged_ends c t = (
  λ _. (λ low. (λ _. (λ high. tt, λ high h. value_ends t), λ _ _. tt), λ low h. value_ends t),
  (λ _. (λ _. (λ vs. (λ _. tt, λ _ _. tt), λ vs h. absurd h.0), λ _ _. tt), λ _ _. tt),
  λ h. absurd h.0,
)

nullness_clear : (c : Name) → Clear (nullness c)
unfolding nullness is
nullness_clear c = (
  λ _. ((token 0 (FIXED fixed.Null), 0, refl), λ _. tt, λ _ _ _. tt),
  ((token 0 (FIXED fixed.Null), 0, refl), λ _. tt, λ _ _ _. tt),
  λ t f. starts fixed.Null (λ _. give (tree.IsNull c)) (λ s. is fixed.Not s ≡ None) (λ x. refl) t f,
)

nullness_ends : (c : Name) (t : Lexeme) → Ends (nullness c) t
unfolding nullness
nullness_ends c t = (λ _. (λ _. tt, λ _ _. tt), (λ _. tt, λ _ _. tt), λ h. absurd h.0)

-- what begins a condition with BETWEEN or IN
ranged_begins : (c : Name) (E : Lexeme → Type 0) → ((x : ℕ) → E (token x (FIXED fixed.Between))) → ((x : ℕ) → E (token x (FIXED fixed.In))) → (t : Lexeme) → First (ranged c) t → E t
unfolding ranged
ranged_begins c E f g t (inl h) = subst E (sym (is_there fixed.Between t h.0 h.1)) (f h.0)
ranged_begins c E f g t (inr h) = starts fixed.In (λ _. members c) E g t h

value_no_name : (t : Lexeme) → First value t → is_name t ≡ None
unfolding value is is_string is_number
value_no_name t f = none_name t (λ p s e. or sees (or sees (or sees sees)) (subst (First value) e f))

compared_clear : (c : Name) (op : Comparison) → Clear (compared c op)
unfolding compared
compared_clear c op = (λ _. tt, (value_clear, λ v. tt, λ b t f. absurd f), λ t f. no_name t f)
  where
    no_name : (t : Lexeme) → First value t ⊎ (Null value × ((b : tree.Operand) × ⊥)) → is_name t ≡ None
    no_name t (inl h) = value_no_name t h
    no_name t (inr h) = elim (value_some h.0) [ ]

compared_ends : (c : Name) (op : Comparison) (t : Lexeme) → Ends (compared c op) t
unfolding compared
compared_ends c op t = (λ _. tt, (λ v. tt, λ v h. value_ends t), λ h. absurd (value_some h.0))

condition_clear : (c : Name) → Clear (condition c)
unfolding condition is cmp_of
condition_clear c = (
  λ _. (ranged_clear c, λ a. tt, λ b t f. absurd f),
  (
    λ op. compared_clear c op,
    (λ _. nullness_clear c, ranged_clear c, λ t f. ranged_begins c (λ s. is fixed.Is s ≡ None) (λ x. refl) (λ x. refl) t f),
    λ t f. no_sign t f,
  ),
  λ t f. none_if fixed.Not t (λ x e. or sees (or sees (λ h. not_there x h)) (subst (First (either is_cmp (λ op. compared c op) (either (is fixed.Is) (λ _. nullness c) (ranged c)))) e f)),
)
  where
    no_sign : (t : Lexeme) → First (either (is fixed.Is) (λ _. nullness c) (ranged c)) t → is_cmp t ≡ None
    no_sign t (inl h) = rw (is_there fixed.Is t h.0 h.1) refl
    no_sign t (inr h) = ranged_begins c (λ s. is_cmp s ≡ None) (λ x. refl) (λ x. refl) t h

    not_there : (x : ℕ) → First (ranged c) (token x (FIXED fixed.Not)) → ⊥
    not_there x h = ranged_begins c (λ s. s ≡ token x (FIXED fixed.Not) → ⊥) (λ y i. let k : fixed.Between ≡ fixed.Not = cc in cc) (λ y i. let k : fixed.In ≡ fixed.Not = cc in cc) (token x (FIXED fixed.Not)) h refl

ranged_some : (c : Name) → Null (ranged c) → ⊥
unfolding ranged
ranged_some c h = h.0

condition_ends : (c : Name) (t : Lexeme) → Ends (condition c) t
unfolding condition
condition_ends c t = (λ _. (λ a. tt, λ a h. ranged_ends c t), (λ op. compared_ends c op t, (λ _. nullness_ends c t, ranged_ends c t, λ h. absurd (ranged_some c h)), λ h. absurd (ranged_some c h)), λ h. absurd (ranged_some c h))

atom_clear : Clear atom
unfolding atom is_name
atom_clear = ((token 0 (NAME []), record { at = 0; name = [] }, refl), λ c. condition_clear c, λ _ _ _. tt)

atom_ends : (t : Lexeme) → Ends atom t
unfolding atom
atom_ends t = (λ c. condition_ends c t, λ _ _. tt)

atom_some : Null atom → ⊥
unfolding atom
atom_some h = h.0

-- ---- predicates

close_pred : (x : ℕ) → EndsPart InPred (token x (FIXED fixed.Close))
unfolding is
close_pred x = (refl, refl)

-- an atom begins with a name
atom_begins : (k : Fixed) (x : ℕ) → First atom (token x (FIXED k)) → ⊥
unfolding atom is_name
atom_begins k x f = or sees (λ h. h.0) f

neg_clear : Clear neg
unfolding neg is
neg_clear = (
  λ _. tt,
  (
    λ a. closes a,
    atom_clear,
    λ t f. none_if fixed.Open t (λ x e. atom_begins fixed.Open x (subst (First atom) e f)),
    fixed_limit fixed.Open,
    λ a t f. starts fixed.Close (λ _. give a) (EndsPart InPred) close_pred t f,
  ),
  λ t f. none_if fixed.Not t (λ x e. or sees (atom_begins fixed.Not x) (subst (First (deeper (is fixed.Open) InPred (λ a. next (one (is fixed.Close)) (λ _. give a)) atom)) e f)),
  fixed_limit fixed.Not,
  λ a t f. absurd f,
)

neg_ends : (t : Lexeme) → Ends neg t
unfolding neg
neg_ends t = (λ _. tt, λ _ _. tt, (λ a. (λ _. tt, λ _ _. tt), λ a h. absurd h.0, atom_ends t, λ h. absurd (atom_some h)), λ h. absurd (atom_some h))

neg_some : Null neg → ⊥
unfolding neg
neg_some h = atom_some h

conj_clear : Clear conj
unfolding conj
conj_clear = (neg_clear, neg_some, λ t x e. neg_ends t)

no_and : (t : Lexeme) (x : ℕ) → is fixed.Or t ≡ Some x → is fixed.And t ≡ None
unfolding is
no_and t x e = rw (is_there fixed.Or t x e) refl

pred_clear : Clear pred
unfolding pred conj
pred_clear = (conj_clear, neg_some, λ t x e. (neg_ends t, no_and t x e))

pred_ends : (t : Lexeme) → EndsPart InPred t → Ends pred t
unfolding pred conj
pred_ends t h = ((neg_ends t, h.0), h.1)

-- ---- items

argument_clear : (kind : CallKind) → Clear (argument kind)
unfolding argument
argument_clear kind = (expr_clear, λ e. closes (tree.Call kind e), λ e t f. starts fixed.Close (λ _. give (tree.Call kind e)) (Ends expr) (λ x. expr_ends (token x (FIXED fixed.Close)) (close_expr x)) t f)

argument_some : (kind : CallKind) → Null (argument kind) → ⊥
unfolding argument expr term
argument_some kind h = factor_some h.0

argument_ends : (kind : CallKind) (t : Lexeme) → Ends (argument kind) t
unfolding argument
argument_ends kind t = (λ e. (λ _. tt, λ _ _. tt), λ e h. absurd h.0)

argument_begins : (kind : CallKind) (t : Lexeme) → First (argument kind) t → is fixed.Star t ≡ None
unfolding argument expr term
argument_begins kind t (inl h) = factor_begins t h
argument_begins kind t (inr h) = elim (factor_some h.0) [ ]

count_clear : Clear count
unfolding count is
count_clear = ((token 0 (FIXED fixed.Open), 0, refl), λ _. (λ _. closes tree.CountAll, argument_clear calls.Count, λ t f. argument_begins calls.Count t f), λ _ _ _. tt)

count_ends : (t : Lexeme) → Ends count t
unfolding count
count_ends t = (λ _. (λ _. (λ _. tt, λ _ _. tt), argument_ends calls.Count t, λ h. absurd (argument_some calls.Count h)), λ _ _. tt)

call_clear : Clear call
unfolding call is call_of
call_clear = ((token 0 (FIXED fixed.Sum), calls.Sum, refl), λ kind. ((token 0 (FIXED fixed.Open), 0, refl), λ _. argument_clear kind, λ _ _ _. tt), λ _ _ _. tt)

call_some : Null call → ⊥
unfolding call
call_some h = h.0

call_ends : (t : Lexeme) → Ends call t
unfolding call
call_ends t = (λ kind. (λ _. argument_ends kind t, λ _ _. tt), λ _ _. tt)

call_begins : (t : Lexeme) → First call t → (is fixed.Count t ≡ None) × (is_name t ≡ None) × (is fixed.Star t ≡ None)
unfolding call call_of is_name
call_begins t f = (
  none_if fixed.Count t (λ x e. or sees (λ h. h.0) (subst (First call) e f)),
  none_name t (λ p s e. or sees (λ h. h.0) (subst (First call) e f)),
  none_if fixed.Star t (λ x e. or sees (λ h. h.0) (subst (First call) e f)),
)

item_clear : Clear item
unfolding item is is_name
item_clear = (
  λ _. tt,
  (λ _. count_clear, call_clear, λ t f. (call_begins t f).0),
  λ t f. no_name t f,
)
  where
    no_name : (t : Lexeme) → First (either (is fixed.Count) (λ _. count) call) t → is_name t ≡ None
    no_name t (inl h) = rw (is_there fixed.Count t h.0 h.1) refl
    no_name t (inr h) = (call_begins t h).1

item_ends : (t : Lexeme) → Ends item t
unfolding item
item_ends t = (λ _. tt, (λ _. count_ends t, call_ends t, λ h. absurd (call_some h)), λ h. absurd (call_some h))

item_some : Null item → ⊥
unfolding item
item_some h = call_some h

item_begins : (t : Lexeme) → First item t → is fixed.Star t ≡ None
unfolding item is
item_begins t (inl h) = rw (name_there t h.0 h.1) refl
item_begins t (inr (inl h)) = rw (is_there fixed.Count t h.0 h.1) refl
item_begins t (inr (inr h)) = (call_begins t h).2

-- ---- queries

filter_clear : Clear filter
unfolding filter
filter_clear = (λ _. (pred_clear, λ a. tt, λ b t f. absurd f), tt, λ t f. absurd f)

filter_ends : (t : Lexeme) → EndsPart InPred t → is fixed.Where t ≡ None → Ends filter t
unfolding filter
filter_ends t h k = (λ _. (λ a. tt, λ a _. pred_ends t h), tt, λ _. k)

grouping_clear : Clear grouping
unfolding grouping is is_name
grouping_clear = (
  λ _. ((token 0 (FIXED fixed.By), 0, refl), λ _. (((token 0 (NAME []), record { at = 0; name = [] }, refl), λ h. h, λ t x e. tt), λ ns. tt, λ b t f. absurd f), λ _ _ _. tt),
  tt,
  λ t f. absurd f,
)

direction_clear : Clear direction
unfolding direction is
direction_clear = (λ _. tt, (λ _. tt, tt, λ t f. absurd f), λ t f. no_asc t f)
  where
    no_asc : (t : Lexeme) → ((x : ℕ) × (is fixed.Desc t ≡ Some x)) ⊎ ⊥ → is fixed.Asc t ≡ None
    no_asc t (inl h) = rw (is_there fixed.Desc t h.0 h.1) refl
    no_asc t (inr h) = elim h [ ]

limit_ends : (x : ℕ) → Ends direction (token x (FIXED fixed.Limit))
unfolding direction is
limit_ends x = (λ _. tt, (λ _. tt, tt, λ _. refl), λ _. refl)

ordering_clear : Clear ordering
unfolding ordering is is_name
ordering_clear = (
  (token 0 (FIXED fixed.Order), 0, refl),
  λ _. (
    (token 0 (FIXED fixed.By), 0, refl),
    λ _. (
      (token 0 (NAME []), record { at = 0; name = [] }, refl),
      λ key. (
        direction_clear,
        λ down. ((token 0 (FIXED fixed.Limit), 0, refl), λ _. tt, λ _ _ _. tt),
        λ down t f. starts fixed.Limit (λ _. number false (λ n. tree.Ordered key down n)) (Ends direction) limit_ends t f,
      ),
      λ _ _ _. tt,
    ),
    λ _ _ _. tt,
  ),
  λ _ _ _. tt,
)

ordering_ends : (t : Lexeme) → Ends ordering t
unfolding ordering
ordering_ends t = (λ _. (λ _. (λ key. (λ down. (λ _. tt, λ _ h. absurd h), λ down h. absurd h.0), λ _ _. tt), λ _ _. tt), λ _ _. tt)

semicolon_clear : {A : Type 0} (a : A) → Clear (semicolon a)
unfolding semicolon
semicolon_clear a = (λ _. tt, tt, λ t f. absurd f)

semicolon_begins : {A : Type 0} (a : A) (E : Lexeme → Type 0) → ((x : ℕ) → E (token x (FIXED fixed.Semicolon))) → (t : Lexeme) → First (semicolon a) t → E t
unfolding semicolon
semicolon_begins a E f t (inl h) = subst E (sym (is_there fixed.Semicolon t h.0 h.1)) (f h.0)
semicolon_begins a E f t (inr h) = elim h [ ]

-- a ending, and what follows it
module _ (ending : Rule tree.Ending) (clear : Clear ending) (ends : (x : ℕ) → Ends ending (token x (FIXED fixed.Semicolon))) (behind : (t : Lexeme) → First ending t → Ends filter t) (closed : (x : ℕ) → Null ending → Ends filter (token x (FIXED fixed.Semicolon))) where
  filter_then : (f : tree.Ending → tree.Query) (t : Lexeme) → First (next ending (λ e. semicolon (f e))) t → Ends filter t
  filter_then f t (inl h) = behind t h
  filter_then f t (inr h) = semicolon_begins (f h.1.0) (λ s. Null ending → Ends filter s) closed t h.1.1 h.0

  source_clear : (head : tree.Head) → Clear (source head ending)
  unfolding source is is_name
  source_clear head = (
    (token 0 (FIXED fixed.From), 0, refl),
    λ _. (
      (token 0 (NAME []), record { at = 0; name = [] }, refl),
      λ n. (
        filter_clear,
        λ p. (clear, λ e. semicolon_clear (record { head = head; table = n; pred = p; ending = e }), λ e t f. semicolon_begins (record { head = head; table = n; pred = p; ending = e }) (Ends ending) ends t f),
        λ p t f. filter_then (λ e. record { head = head; table = n; pred = p; ending = e }) t f,
      ),
      λ _ _ _. tt,
    ),
    λ _ _ _. tt,
  )

filter_at_order : (x : ℕ) → Ends filter (token x (FIXED fixed.Order))
unfolding is
filter_at_order x = filter_ends (token x (FIXED fixed.Order)) (refl, refl) refl

filter_at_group : (x : ℕ) → Ends filter (token x (FIXED fixed.Group))
unfolding is
filter_at_group x = filter_ends (token x (FIXED fixed.Group)) (refl, refl) refl

filter_at_semicolon : (x : ℕ) → Ends filter (token x (FIXED fixed.Semicolon))
unfolding is
filter_at_semicolon x = filter_ends (token x (FIXED fixed.Semicolon)) (refl, refl) refl

ordering_begins : (t : Lexeme) → First ordering t → Ends filter t
unfolding ordering
ordering_begins t (inl h) = subst (Ends filter) (sym (is_there fixed.Order t h.0 h.1)) (filter_at_order h.0)
ordering_begins t (inr h) = elim h.0 [ ]

grouping_begins : (t : Lexeme) → First grouping t → Ends filter t
unfolding grouping
grouping_begins t (inl h) = subst (Ends filter) (sym (is_there fixed.Group t h.0 h.1)) (filter_at_group h.0)
grouping_begins t (inr h) = elim h [ ]

grouping_ends : (x : ℕ) → Ends grouping (token x (FIXED fixed.Semicolon))
unfolding grouping is
grouping_ends x = (λ _. (λ _. (λ ns. tt, λ ns _. (tt, refl)), λ _ _. tt), tt, λ _. refl)

from_ends : (x : ℕ) → Ends (listed item) (token x (FIXED fixed.From))
unfolding is
from_ends x = (item_ends (token x (FIXED fixed.From)), refl)

source_begins : (head : tree.Head) (ending : Rule tree.Ending) (t : Lexeme) → First (source head ending) t → Ends (listed item) t
unfolding source
source_begins head ending t (inl h) = subst (Ends (listed item)) (sym (is_there fixed.From t h.0 h.1)) (from_ends h.0)
source_begins head ending t (inr h) = elim h.0 [ ]

pub query_clear : Clear query
unfolding query is
query_clear = (
  (token 0 (FIXED fixed.Select), 0, refl),
  λ _. (
    λ _. source_clear ordering ordering_clear (λ x. ordering_ends (token x (FIXED fixed.Semicolon))) ordering_begins (λ x _. filter_at_semicolon x) tree.Star,
    (
      (item_clear, item_some, λ t x e. item_ends t),
      λ is. source_clear grouping grouping_clear grouping_ends grouping_begins (λ x _. filter_at_semicolon x) (tree.Items is),
      λ is t f. source_begins (tree.Items is) grouping t f,
    ),
    λ t f. no_star_first t f,
  ),
  λ _ _ _. tt,
)
  where
    no_star_first : (t : Lexeme) → First (next (listed item) (λ is. source (tree.Items is) grouping)) t → is fixed.Star t ≡ None
    no_star_first t (inl h) = item_begins t h
    no_star_first t (inr h) = elim (item_some h.0) [ ]

pub parts_clear : (p : Part) → Clear (rule_of p)
parts_clear InExpr = expr_clear
parts_clear InPred = pred_clear
parts_clear InNeg = neg_clear

pub parts_end : (p : Part) (t : Lexeme) → EndsPart p t → Ends (rule_of p) t
parts_end InExpr t h = expr_ends t h
parts_end InPred t h = pred_ends t h
parts_end InNeg t h = neg_ends t
