-- Where no value may be null, the definitions are those of two values and Kleene's three.
use Rattle.std.proofs.Common.{◌≡◌, ℕ, ◌+◌, ◌/◌, ◌≤◌, zero-le, nat_le, ◌==◌, ℤ, ◌+ℤ◌, ◌-ℤ◌, ◌*ℤ◌, Bool, true, false, cond, ◌&&◌, ◌||◌, List, [], ◌∷◌, map, inl, inr, refl, arith, subst, sym, ap, ◌∙◌, IsFalse, Some, None}
use Rattle.std.specs.Ordering.{int_eq}
use Rattle.std.proofs.lemmas.Bool.{and_from, and_left, or_right, le-leb, cond-false, true≢false}
use Rattle.interval_calc.specs.Intervals.{Interval}
use Rattle.daq_table.specs.declared.head.Ends.{Ends}
use Rattle.daq_table.specs.Tables.{Cell, IsCell, code, first_code, spread}
use Rattle.query_model.specs.declared.bounds.Nullity.TheVariants.{Never, Possibly, Always}
use Rattle.query_model.specs.declared.bounds.Truth.{Truth}
use Rattle.query_model.specs.declared.bounds.Truth.TheVariants.{False, Unknown, True}
use Rattle.query_model.specs.declared.bounds.Truths.{Truths}
use Rattle.query_model.specs.Queries.{Term, Column, Literal, Add, Sub, Mul, Condition, All, Single, Both, Either, Negation}
use Rattle.query_model.specs.declared.query.Atom.{Atom}
use Rattle.query_model.specs.declared.query.Atom.TheVariants.{Compare, CompareColumns, Between, OneOf, IsNull}
use Rattle.query_model.specs.Meaning.{of_values, val, truth, atom_truth, sql_not, sql_and, sql_or}
use Rattle.query_model.specs.Truths.{and_of, truth_over, truths_from, truths_of, truths_of_atom, truth_among, truth_of, truth_of_number, not_over, and_over, or_over, null_of, one_null, span_of}
use Rattle.query_model.specs.Answers.{groups_of}
use Rattle.query_model.specs.Bounds.{truth_of_group, pair_unless_false}
use Rattle.query_model.specs.Knowledge.{block, prefix_of, IsLegal}
use Rattle.query_model.specs.WithoutNull.{plain_val, plain_atom, plain_holds, plain_ranges, not_of, or_of, plain_truth_of_atom, plain_truth, plain_truth_of_group}
use Rattle.query_model.specs.Laws.{ColumnsArePlain, RowsArePlain}
use Rattle.query_model.proofs.Blocks.{plain_column, legal_cases, block_pos, zero_quotient}
use Rattle.query_model.proofs.Digits.{plain_numbers}

-- ---- columns

cell_is : (ends : Ends) (cell : Cell) → IsFalse ends.nullable → IsCell ends cell → (u : ℕ) × (cell ≡ Some u) × (u ≤ spread ends)
cell_is ends None n h = absurd (true≢false (sym h ∙ n))
cell_is ends (Some u) n h = (u, refl, h)

code_is : (ends : Ends) (u : ℕ) → IsFalse ends.nullable → code ends (Some u) ≡ u
code_is ends u n = ap (λ f. f + u) (plain_column ends n).1 ∙ omega arith

quotient_is : (ends : Ends) (read u : ℕ) → IsFalse ends.nullable → prefix_of ends read (Some u) ≡ u / block ends read
quotient_is ends read u n = ap (λ z. z / block ends read) (code_is ends u n)

legal_below : (ends : Ends) (read prefix : ℕ) → IsFalse ends.nullable → IsLegal ends read prefix → prefix ≤ spread ends / block ends read
legal_below ends read prefix n legal =
    elim (legal_cases ends read prefix legal) [
      | inl (null, z) ↦ absurd (true≢false (sym null ∙ n))
      | inr (low, high) ↦ subst (λ top. prefix ≤ top) (quotient_is ends read (spread ends) n) high
    ]

below_legal : (ends : Ends) (read prefix : ℕ) → IsFalse ends.nullable → prefix ≤ spread ends / block ends read → IsLegal ends read prefix
below_legal ends read prefix n h =
    let low : prefix_of ends read (Some 0) ≡ 0 = quotient_is ends read 0 n ∙ zero_quotient (block ends read) (block_pos ends read) in
    or_right (ends.nullable && prefix == prefix_of ends read None) _
    (and_from (nat_le (prefix_of ends read (Some 0)) prefix) (nat_le prefix (prefix_of ends read (Some (spread ends))))
    (le-leb (prefix_of ends read (Some 0)) prefix (subst (λ m. m ≤ prefix) (sym low) zero-le))
    (le-leb prefix (prefix_of ends read (Some (spread ends))) (subst (λ top. prefix ≤ top) (sym (quotient_is ends read (spread ends) n)) h)))

pub columns_are_plain : ColumnsArePlain
columns_are_plain ends n = record {
  planes = (plain_column ends n).0;
  cell = λ cell h. cell_is ends cell n h;
  code = λ u. code_is ends u n;
  legal = λ read prefix. (legal_below ends read prefix n, below_legal ends read prefix n);
  null = λ read prefix. cond-false (ends.nullable && prefix == 0) (cond (read == 0) Possibly Always) Never (and_left ends.nullable (prefix == 0) n);
  numbers = λ read prefix. plain_numbers ends.base (first_code ends) prefix (block ends read) (spread ends) (plain_column ends n).1;
}

-- ---- rows

value_is : (e : Term) (row : ℕ → ℤ) → val e (λ c. Some (row c)) ≡ Some (plain_val e row)
value_is (Column c) row = refl
value_is (Literal n) row = refl
value_is (Add a b) row = ap (λ z. of_values (λ x y. x +ℤ y) z (val b (λ c. Some (row c)))) (value_is a row) ∙ ap (of_values (λ x y. x +ℤ y) (Some (plain_val a row))) (value_is b row)
value_is (Sub a b) row = ap (λ z. of_values (λ x y. x -ℤ y) z (val b (λ c. Some (row c)))) (value_is a row) ∙ ap (of_values (λ x y. x -ℤ y) (Some (plain_val a row))) (value_is b row)
value_is (Mul a b) row = ap (λ z. of_values (λ x y. x *ℤ y) z (val b (λ c. Some (row c)))) (value_is a row) ∙ ap (of_values (λ x y. x *ℤ y) (Some (plain_val a row))) (value_is b row)

atom_is : (atom : Atom) (row : ℕ → ℤ) → atom_truth atom (λ c. Some (row c)) ≡ Some (plain_atom atom row)
atom_is (Compare c op v) row = refl
atom_is (CompareColumns l op r) row = refl
atom_is (Between c low high) row = refl
atom_is (OneOf c values) row = refl
atom_is (IsNull c) row = refl

both_true : (a b : Bool) → sql_and (Some a) (Some b) ≡ Some (a && b)
both_true true b = refl
both_true false b = refl

either_true : (a b : Bool) → sql_or (Some a) (Some b) ≡ Some (a || b)
either_true true b = refl
either_true false b = refl

condition_is : (p : Condition) (row : ℕ → ℤ) → truth p (λ c. Some (row c)) ≡ Some (plain_holds p row)
condition_is All row = refl
condition_is (Single atom) row = atom_is atom row
condition_is (Both a b) row =
    ap (λ z. sql_and z (truth b (λ c. Some (row c)))) (condition_is a row) ∙ ap (sql_and (Some (plain_holds a row))) (condition_is b row) ∙ both_true (plain_holds a row) (plain_holds b row)
condition_is (Either a b) row =
    ap (λ z. sql_or z (truth b (λ c. Some (row c)))) (condition_is a row) ∙ ap (sql_or (Some (plain_holds a row))) (condition_is b row) ∙ either_true (plain_holds a row) (plain_holds b row)
condition_is (Negation a) row = ap sql_not (condition_is a row)

-- ---- what is known

-- the truths of a statement that is never null
abbrev set_of : Truth → Truths
set_of t = truths_from Never t

set_not : (t : Truth) → not_over (set_of t) ≡ set_of (not_of t)
set_not True = refl
set_not Unknown = refl
set_not False = refl

set_and : (t u : Truth) → and_over (set_of t) (set_of u) ≡ set_of (and_of t u)
set_and True True = refl
set_and True Unknown = refl
set_and True False = refl
set_and Unknown True = refl
set_and Unknown Unknown = refl
set_and Unknown False = refl
set_and False True = refl
set_and False Unknown = refl
set_and False False = refl

set_or : (t u : Truth) → or_over (set_of t) (set_of u) ≡ set_of (or_of t u)
set_or True True = refl
set_or True Unknown = refl
set_or True False = refl
set_or Unknown True = refl
set_or Unknown Unknown = refl
set_or Unknown False = refl
set_or False True = refl
set_or False Unknown = refl
set_or False False = refl

among_set : (t : Truth) → truth_among (set_of t) ≡ t
among_set True = refl
among_set Unknown = refl
among_set False = refl

atom_known : (atom : Atom) (intervals : ℕ → Interval) → truths_of_atom atom (plain_ranges intervals) ≡ set_of (plain_truth_of_atom atom intervals)
atom_known (Compare c op v) intervals = refl
atom_known (CompareColumns l op r) intervals = refl
atom_known (Between c low high) intervals = refl
atom_known (OneOf c values) intervals = refl
atom_known (IsNull c) intervals = refl

truths_known : (p : Condition) (intervals : ℕ → Interval) → truths_of p (plain_ranges intervals) ≡ set_of (plain_truth p intervals)
truths_known All intervals = refl
truths_known (Single atom) intervals = atom_known atom intervals
truths_known (Both a b) intervals =
    ap (λ t. and_over t (truths_of b (plain_ranges intervals))) (truths_known a intervals) ∙ ap (and_over (set_of (plain_truth a intervals))) (truths_known b intervals)
    ∙ set_and (plain_truth a intervals) (plain_truth b intervals)
truths_known (Either a b) intervals =
    ap (λ t. or_over t (truths_of b (plain_ranges intervals))) (truths_known a intervals) ∙ ap (or_over (set_of (plain_truth a intervals))) (truths_known b intervals)
    ∙ set_or (plain_truth a intervals) (plain_truth b intervals)
truths_known (Negation a) intervals = ap not_over (truths_known a intervals) ∙ set_not (plain_truth a intervals)

condition_known : (p : Condition) (intervals : ℕ → Interval) → truth_of p (plain_ranges intervals) ≡ plain_truth p intervals
condition_known p intervals = ap truth_among (truths_known p intervals) ∙ among_set (plain_truth p intervals)

group_known : (cs : List ℕ) (key : List ℤ) (intervals : ℕ → Interval) → truth_of_group cs (map (λ k. Some k) key) (plain_ranges intervals) ≡ plain_truth_of_group cs key intervals
group_known [] key intervals = refl
group_known (c ∷ cs) [] intervals = refl
group_known (c ∷ cs) (k ∷ ks) intervals = ap (and_of (truth_over (intervals c) (λ x. int_eq x k))) (group_known cs ks intervals)

never_null : (e : Term) (intervals : ℕ → Interval) → null_of e (plain_ranges intervals) ≡ Never
never_null (Column c) intervals = refl
never_null (Literal n) intervals = refl
never_null (Add a b) intervals = ap (λ w. one_null w (null_of b (plain_ranges intervals))) (never_null a intervals) ∙ never_null b intervals
never_null (Sub a b) intervals = ap (λ w. one_null w (null_of b (plain_ranges intervals))) (never_null a intervals) ∙ never_null b intervals
never_null (Mul a b) intervals = ap (λ w. one_null w (null_of b (plain_ranges intervals))) (never_null a intervals) ∙ never_null b intervals

and_true : (t : Truth) → and_of t True ≡ t
and_true True = refl
and_true Unknown = refl
and_true False = refl

pub rows_are_plain : RowsArePlain
rows_are_plain = record {
  value = value_is;
  condition = condition_is;
  known = condition_known;
  pair = λ query item key intervals.
      (let counts = and_of (truth_of query.pred (plain_ranges intervals)) (truth_of_group (groups_of query.shape) (map (λ k. Some k) key) (plain_ranges intervals)) in
      ap (λ t. pair_unless_false t (span_of item.arg (plain_ranges intervals)))
      (ap (λ w. and_of counts (truth_of_number w)) (never_null item.arg intervals) ∙ and_true counts
      ∙ ap (λ t. and_of t (truth_of_group (groups_of query.shape) (map (λ k. Some k) key) (plain_ranges intervals))) (condition_known query.pred intervals)
      ∙ ap (and_of (plain_truth query.pred intervals)) (group_known (groups_of query.shape) key intervals)));
}
