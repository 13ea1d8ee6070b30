-- Typed comparisons with a written value, by how it stands to the value of the row.
use Rattle.std.proofs.Common.{◌≡◌, ℕ, ℤ, pos, negsuc, ◌-ℤ◌, ◌≤ℤ◌, ◌<ℤ◌, false, not, Some, None, refl, sym, ap, ◌∙◌, arith}
use Rattle.std.proofs.lemmas.Int.{ints}
use Rattle.std.specs.Prelude.{int_le, int_lt}
use Rattle.std.specs.Cmp.{int_ranks}
use Rattle.std.specs.declared.cmp.Ordering.{Ordering}
use Rattle.std.specs.declared.cmp.Ordering.TheVariants.{Less, Equal, Greater}
use Rattle.std.specs.Ordering.{MatchOrdering, int_cmp, int_eq, is_eq, is_lt, is_gt}
use Rattle.query_model.specs.Meaning.{Row, atom_truth, compares}
use Rattle.query_model.specs.declared.query.Atom.{Atom}
use Rattle.query_model.specs.declared.query.Atom.TheVariants as atoms
use Rattle.sql_text.specs.declared.tree.Comparison.{Comparison}
use Rattle.sql_text.specs.declared.tree.Comparison.TheVariants.{Eq, Ne, Lt, Le, Gt, Ge}
use Rattle.sql_typing.specs.Typing.{compared_before, no_rank, op_of}
use Rattle.sql_meaning.specs.Conditions.{passes}

-- the number is a rank below p or from p on, and no name is equal
abbrev pub StandsBefore : ℕ → ℤ → Ordering → Type 0
StandsBefore p z o = MatchOrdering o (z <ℤ pos p) ⊥ (pos p ≤ℤ z) × (pos 0 ≤ℤ z)

-- what is typed of a written value says of the number z of a column how its value stands to the written one
pub record IsPlaced (atom : ℕ → Comparison → Atom) (from to one z : ℤ) (o : Ordering) : Type 0 where
  pub compared : (c : ℕ) (op : Comparison) (w : Row) → w c ≡ Some z → atom_truth (atom c op) w ≡ Some (passes op o)
  pub low : int_le from z ≡ passes Ge o
  pub high : int_le z to ≡ passes Le o
  pub member : int_eq z one ≡ passes Eq o

-- a comparison with null is null
abbrev pub KeepsNull : (ℕ → Comparison → Atom) → Type 0
KeepsNull atom = (c : ℕ) (op : Comparison) (w : Row) → w c ≡ None → atom_truth (atom c op) w ≡ None

-- ---- numbers

less_by : (x y : ℤ) (o : Ordering) → MatchOrdering o (x <ℤ y) (x ≡ y) (y <ℤ x) → int_lt x y ≡ is_lt o
less_by x y Less h = grind (arith, ints)
less_by x y Equal h = grind (arith, ints)
less_by x y Greater h = grind (arith, ints)

pub more_by : (x y : ℤ) (o : Ordering) → MatchOrdering o (x <ℤ y) (x ≡ y) (y <ℤ x) → int_lt y x ≡ is_gt o
more_by x y Less h = grind (arith, ints)
more_by x y Equal h = grind (arith, ints)
more_by x y Greater h = grind (arith, ints)

at_most_by : (x y : ℤ) (o : Ordering) → MatchOrdering o (x <ℤ y) (x ≡ y) (y <ℤ x) → int_le x y ≡ not (is_gt o)
at_most_by x y Less h = grind (arith, ints)
at_most_by x y Equal h = grind (arith, ints)
at_most_by x y Greater h = grind (arith, ints)

at_least_by : (x y : ℤ) (o : Ordering) → MatchOrdering o (x <ℤ y) (x ≡ y) (y <ℤ x) → int_le y x ≡ not (is_lt o)
at_least_by x y Less h = grind (arith, ints)
at_least_by x y Equal h = grind (arith, ints)
at_least_by x y Greater h = grind (arith, ints)

-- an operator on numbers is that on their order
pub op_is : (op : Comparison) (x y : ℤ) → compares (op_of op) x y ≡ passes op (int_cmp x y)
op_is Eq x y = refl
op_is Ne x y = refl
op_is Lt x y = less_by x y (int_cmp x y) (int_ranks x y)
op_is Le x y = at_most_by x y (int_cmp x y) (int_ranks x y)
op_is Gt x y = more_by x y (int_cmp x y) (int_ranks x y)
op_is Ge x y = at_least_by x y (int_cmp x y) (int_ranks x y)

-- ---- a text that is no name

no_name : (z : ℤ) → pos 0 ≤ℤ z → int_eq z no_rank ≡ false
no_name (pos n) h = refl
no_name (negsuc n) h = absurd (omega (arith, ints))

not_equal : (z : ℤ) (p : ℕ) (o : Ordering) → StandsBefore p z o → is_eq o ≡ false
not_equal z p Less h = refl
not_equal z p Equal h = elim h.0 [ ]
not_equal z p Greater h = refl

less_before : (z : ℤ) (p : ℕ) (o : Ordering) → StandsBefore p z o → int_lt z (pos p) ≡ is_lt o
less_before z p Less h = let lt : z <ℤ pos p = h.0 in grind (arith, ints)
less_before z p Equal h = elim h.0 [ ]
less_before z p Greater h = let le : pos p ≤ℤ z = h.0 in grind (arith, ints)

least_before : (z : ℤ) (p : ℕ) (o : Ordering) → StandsBefore p z o → int_le (pos p) z ≡ is_gt o
least_before z p Less h = let lt : z <ℤ pos p = h.0 in grind (arith, ints)
least_before z p Equal h = elim h.0 [ ]
least_before z p Greater h = let le : pos p ≤ℤ z = h.0 in grind (arith, ints)

not_more : (z : ℤ) (p : ℕ) (o : Ordering) → StandsBefore p z o → not (is_gt o) ≡ is_lt o
not_more z p Less h = refl
not_more z p Equal h = elim h.0 [ ]
not_more z p Greater h = refl

not_less : (z : ℤ) (p : ℕ) (o : Ordering) → StandsBefore p z o → not (is_lt o) ≡ is_gt o
not_less z p Less h = refl
not_less z p Equal h = elim h.0 [ ]
not_less z p Greater h = refl

-- ---- comparisons

before_is : (p : ℕ) (z : ℤ) (o : Ordering) → StandsBefore p z o → (c : ℕ) (op : Comparison) (w : Row) → w c ≡ Some z
    → atom_truth (compared_before c op p) w ≡ Some (passes op o)
before_is p z o h c Eq w e = rw e (ap Some (no_name z h.1 ∙ sym (not_equal z p o h)))
before_is p z o h c Ne w e = rw e (ap (λ b. Some (not b)) (no_name z h.1 ∙ sym (not_equal z p o h)))
before_is p z o h c Lt w e = rw e (ap Some (less_before z p o h))
before_is p z o h c Le w e = rw e (ap Some (less_before z p o h ∙ sym (not_more z p o h)))
before_is p z o h c Gt w e = rw e (ap Some (least_before z p o h))
before_is p z o h c Ge w e = rw e (ap Some (least_before z p o h ∙ sym (not_less z p o h)))

pub before_null : (p : ℕ) → KeepsNull (λ c op. compared_before c op p)
before_null p c Eq w e = rw e refl
before_null p c Ne w e = rw e refl
before_null p c Lt w e = rw e refl
before_null p c Le w e = rw e refl
before_null p c Gt w e = rw e refl
before_null p c Ge w e = rw e refl

pub at_null : (v : ℤ) → KeepsNull (λ c op. atoms.Compare c (op_of op) v)
at_null v c op w e = rw e refl

below_end : (z : ℤ) (p : ℕ) → int_le z (pos p -ℤ pos 1) ≡ int_lt z (pos p)
below_end z p = grind (arith, ints)

pub before_placed : (p : ℕ) (z : ℤ) (o : Ordering) → StandsBefore p z o → IsPlaced (λ c op. compared_before c op p) (pos p) (pos p -ℤ pos 1) no_rank z o
before_placed p z o h = record {
  compared = before_is p z o h;
  low = least_before z p o h ∙ sym (not_less z p o h);
  high = below_end z p ∙ (less_before z p o h ∙ sym (not_more z p o h));
  member = no_name z h.1 ∙ sym (not_equal z p o h);
}

pub at_placed : (v z : ℤ) (o : Ordering) → int_cmp z v ≡ o → IsPlaced (λ c op. atoms.Compare c (op_of op) v) v v v z o
at_placed v z o h = record {
  compared = λ c op w e. rw e (ap Some (op_is op z v ∙ ap (passes op) h));
  low = op_is Ge z v ∙ ap (passes Ge) h;
  high = op_is Le z v ∙ ap (passes Le) h;
  member = op_is Eq z v ∙ ap (passes Eq) h;
}
