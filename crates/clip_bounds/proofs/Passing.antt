-- Where a condition with a clip holds, the column has a number of the clip.
use Rattle.std.proofs.Common.{◌≡◌, ℕ, ℤ, pos, negsuc, ◌+ℤ◌, ◌-ℤ◌, ◌≤ℤ◌, int_lt, int_le, Bool, true, false, ◌&&◌, ◌==◌, refl, sym, ap, subst, ◌∙◌, arith, IsTrue, Option, Some, None}
use Rattle.std.specs.Ordering.{int_eq}
use Rattle.std.specs.Int.{int_max}
use Rattle.std.proofs.lemmas.Bool.{and_from, and_parts, cond_both, eqb-true, false≢true}
use Rattle.std.proofs.lemmas.Int.{ints, clamps}
use Rattle.std.proofs.lemmas.Option.{same_Some}
use Rattle.interval_calc.specs.Intervals.{Interval, Within}
use Rattle.query_model.specs.declared.bounds.Truth.TheVariants.{True}
use Rattle.query_model.specs.declared.bounds.Truths.{Truths}
use Rattle.query_model.specs.declared.query.Atom.{Atom}
use Rattle.query_model.specs.declared.query.Atom.TheVariants.{Compare, CompareColumns, Between, OneOf, IsNull}
use Rattle.query_model.specs.declared.query.Comparison.{Comparison}
use Rattle.query_model.specs.declared.query.Comparison.TheVariants.{Eq, Ne, Lt, Le, Gt, Ge}
use Rattle.query_model.specs.Meaning.{Row, atom_truth, between, holds, is_sql_true, of_value, sql_and, truth}
use Rattle.query_model.specs.Queries.{Condition, All, Single, Both, Either, Negation}
use Rattle.query_model.specs.Truths.{IsIn, MayBe, Range, Ranges, may_be_number, truth_of, truths_of, truths_of_atom, truths_over}
use Rattle.query_model.specs.Laws.{NoneEmpty}
use Rattle.query_model.proofs.Integers.{equal_when, when_equal}
use Rattle.query_model.proofs.Members.{over_reached}
use Rattle.query_model.proofs.Numbers.{Allows}
use Rattle.query_model.proofs.Rows.{placed, truth_allows}
use Rattle.clip_bounds.specs.declared.clip.Clip.{Clip}
use Rattle.clip_bounds.specs.Clips.{IsLong, before, behind, clip_in, clip_of_atom, clip_of_comparison, common, common_of, if_of}

-- the numbers of a clip
abbrev pub range_of_clip : Clip → Interval
range_of_clip clip = record { low = clip.low; high = clip.high }

pub no_clip : (clip : Clip) → None ≡ Some clip → ⊥
no_clip clip e = cc

no_truth : (b : Bool) → None ≡ Some b → ⊥
no_truth b e = cc

-- ---- atoms

-- the atom holds at the numbers of the clip and no others
pub record IsTestOf (atom : Atom) (clip : Clip) (test : ℤ → Bool) : Type 0 where
  pub value : (row : Row) → atom_truth atom row ≡ of_value test (row clip.column)
  pub known : (ranges : Ranges) → truths_of_atom atom ranges ≡ truths_over (ranges clip.column) test
  pub passes : (x : ℤ) → IsLong x → test x ≡ true → Within (range_of_clip clip) x
  pub within : (x : ℤ) → IsLong x → Within (range_of_clip clip) x → test x ≡ true

abbrev pub HasTest : Atom → Clip → Type 0
HasTest atom clip = (test : ℤ → Bool) × IsTestOf atom clip test

before_less : (x v : ℤ) → int_lt x v ≡ true → x ≤ℤ before v
before_less x v h =
    cond_both (int_lt (negsuc 170141183460469231731687303715884105727) v) (v -ℤ pos 1) v (λ w. x ≤ℤ w) (λ t. grind (arith, ints)) (λ f. grind (arith, ints))

less_before : (x v : ℤ) → IsLong x → x ≤ℤ before v → int_lt x v ≡ true
less_before x v long =
    cond_both (int_lt (negsuc 170141183460469231731687303715884105727) v) (v -ℤ pos 1) v (λ w. x ≤ℤ w → int_lt x v ≡ true) (λ t h. grind (arith, ints))
    (λ f h. (let least = long.0 in grind (arith, ints)))

behind_greater : (x v : ℤ) → int_lt v x ≡ true → behind v ≤ℤ x
behind_greater x v h =
    cond_both (int_lt v (pos 170141183460469231731687303715884105727)) (v +ℤ pos 1) v (λ w. w ≤ℤ x) (λ t. grind (arith, ints)) (λ f. grind (arith, ints))

greater_behind : (x v : ℤ) → IsLong x → behind v ≤ℤ x → int_lt v x ≡ true
greater_behind x v long =
    cond_both (int_lt v (pos 170141183460469231731687303715884105727)) (v +ℤ pos 1) v (λ w. w ≤ℤ x → int_lt v x ≡ true) (λ t h. grind (arith, ints))
    (λ f h. (let greatest = long.1 in grind (arith, ints)))

le_from : (x y : ℤ) → int_le x y ≡ true → x ≤ℤ y
le_from x y h = grind (arith, ints)

to_le : (x y : ℤ) → x ≤ℤ y → int_le x y ≡ true
to_le x y h = grind (arith, ints)

test_of_comparison : (c : ℕ) (op : Comparison) (v : ℤ) (clip : Clip) → clip_of_comparison c op v ≡ Some clip → HasTest (Compare c op v) clip
test_of_comparison c Eq v clip e = subst (HasTest (Compare c Eq v)) (same_Some _ clip e) (
  (λ x. int_eq x v),
  record {
    value = λ row. refl;
    known = λ ranges. refl;
    passes = λ x long t. (let same = equal_when x v t in record { above = omega (arith, ints); below = omega (arith, ints) });
    within = λ x long w. (let low = w.above in let high = w.below in when_equal x v (omega (arith, ints)));
  },
)
test_of_comparison c Ne v clip e = absurd (no_clip clip e)
test_of_comparison c Lt v clip e = subst (HasTest (Compare c Lt v)) (same_Some _ clip e) (
  (λ x. int_lt x v),
  record {
    value = λ row. refl;
    known = λ ranges. refl;
    passes = λ x long t. record { above = long.0; below = before_less x v t };
    within = λ x long w. less_before x v long w.below;
  },
)
test_of_comparison c Le v clip e = subst (HasTest (Compare c Le v)) (same_Some _ clip e) (
  (λ x. int_le x v),
  record {
    value = λ row. refl;
    known = λ ranges. refl;
    passes = λ x long t. record { above = long.0; below = le_from x v t };
    within = λ x long w. to_le x v w.below;
  },
)
test_of_comparison c Gt v clip e = subst (HasTest (Compare c Gt v)) (same_Some _ clip e) (
  (λ x. int_lt v x),
  record {
    value = λ row. refl;
    known = λ ranges. refl;
    passes = λ x long t. record { above = behind_greater x v t; below = long.1 };
    within = λ x long w. greater_behind x v long w.above;
  },
)
test_of_comparison c Ge v clip e = subst (HasTest (Compare c Ge v)) (same_Some _ clip e) (
  (λ x. int_le v x),
  record {
    value = λ row. refl;
    known = λ ranges. refl;
    passes = λ x long t. record { above = le_from v x t; below = long.1 };
    within = λ x long w. to_le v x w.above;
  },
)

test_of_atom : (atom : Atom) (clip : Clip) → clip_of_atom atom ≡ Some clip → HasTest atom clip
test_of_atom (Compare c op v) clip e = test_of_comparison c op v clip e
test_of_atom (CompareColumns l op r) clip e = absurd (no_clip clip e)
test_of_atom (Between c low high) clip e = subst (HasTest (Between c low high)) (same_Some _ clip e) (
  between low high,
  record {
    value = λ row. refl;
    known = λ ranges. refl;
    passes = λ x long t. (let parts = and_parts (int_le low x) (int_le x high) t in record { above = le_from low x parts.0; below = le_from x high parts.1 });
    within = λ x long w. and_from (int_le low x) (int_le x high) (to_le low x w.above) (to_le x high w.below);
  },
)
test_of_atom (OneOf c values) clip e = absurd (no_clip clip e)
test_of_atom (IsNull c) clip e = absurd (no_clip clip e)

-- ---- conditions

-- a clip of the column is that of an atom
of_column : (c : ℕ) (o : Option Clip) (clip : Clip) → if_of c o ≡ Some clip → (o ≡ Some clip) × (clip.column ≡ c)
of_column c None clip e = absurd (no_clip clip e)
of_column c (Some own) clip e =
    cond_both (own.column == c) (Some own) None (λ o. o ≡ Some clip → (Some own ≡ Some clip) × (clip.column ≡ c))
    (λ t same. (same, subst (λ (k : Clip). k.column ≡ c) (same_Some own clip same) (eqb-true own.column c t))) (λ f same. absurd (no_clip clip same)) e

-- what holds of each of two clips and of what both let through holds of what is taken of them
of_both : (P : Clip → Type 0) → ((a b : Clip) → P a → P b → P (common a b)) → (o p : Option Clip) (clip : Clip) → common_of o p ≡ Some clip →
    ((a : Clip) → o ≡ Some a → P a) → ((b : Clip) → p ≡ Some b → P b) → P clip
of_both P both None p clip e f g = g clip e
of_both P both (Some a) None clip e f g = f clip e
of_both P both (Some a) (Some b) clip e f g = subst P (same_Some _ clip e) (both a b (f a refl) (g b refl))

pub column_of_clip : (p : Condition) (c : ℕ) (clip : Clip) → clip_in p c ≡ Some clip → clip.column ≡ c
column_of_clip All c clip e = absurd (no_clip clip e)
column_of_clip (Single atom) c clip e = (of_column c (clip_of_atom atom) clip e).1
column_of_clip (Both a b) c clip e =
    of_both (λ (k : Clip). k.column ≡ c) (λ x y f g. f) (clip_in a c) (clip_in b c) clip e (λ k f. column_of_clip a c k f) (λ k f. column_of_clip b c k f)
column_of_clip (Either a b) c clip e = absurd (no_clip clip e)
column_of_clip (Negation a) c clip e = absurd (no_clip clip e)

-- an atom of the clip, by the column's own number
pub atom_of : (atom : Atom) (c : ℕ) (clip : Clip) → if_of c (clip_of_atom atom) ≡ Some clip → HasTest atom clip × (clip.column ≡ c)
atom_of atom c clip e = (let own = of_column c (clip_of_atom atom) clip e in (test_of_atom atom clip own.0, own.1))

-- both sides of an AND that holds do
pub both_hold : (x y : Option Bool) → is_sql_true (sql_and x y) ≡ (is_sql_true x && is_sql_true y)
both_hold None None = refl
both_hold None (Some true) = refl
both_hold None (Some false) = refl
both_hold (Some false) y = refl
both_hold (Some true) y = refl

-- the number of a value at which a test holds
number_passing : (test : ℤ → Bool) (v : Option ℤ) → is_sql_true (of_value test v) ≡ true → (x : ℤ) × (v ≡ Some x) × (test x ≡ true)
number_passing test None h = absurd (false≢true h)
number_passing test (Some x) h = (x, refl, h)

-- a number of the column, which lies in the clip if it is one of 64 bits
abbrev pub HasNumber : Clip → Option ℤ → Type 0
HasNumber clip v = (x : ℤ) × (v ≡ Some x) × (IsLong x → Within (range_of_clip clip) x)

both_numbers : (v : Option ℤ) (a b : Clip) → HasNumber a v → HasNumber b v → HasNumber (common a b) v
both_numbers v a b (x, is, in_a) (y, also, in_b) =
    let same : y ≡ x = same_Some y x (sym also ∙ is) in
    (x, is, λ long. of_both_ranges (in_a long) (subst (λ z. IsLong z → Within (range_of_clip b) z) same in_b long))
  where
    of_both_ranges : Within (range_of_clip a) x → Within (range_of_clip b) x → Within (range_of_clip (common a b)) x
    of_both_ranges f g =
        let low = f.above in
        let high = f.below in
        let above = g.above in
        let below = g.below in
        record { above = omega (arith, ints, clamps); below = omega (arith, ints, clamps) }

pub holds_within : (p : Condition) (c : ℕ) (clip : Clip) (row : Row) → clip_in p c ≡ Some clip → holds p row ≡ true → HasNumber clip (row c)
holds_within All c clip row e h = absurd (no_clip clip e)
holds_within (Single atom) c clip row e h =
    let own = atom_of atom c clip e in
    let test = own.0.0 in
    let is = own.0.1 in
    let found = number_passing test (row clip.column) (ap is_sql_true (sym (is.value row)) ∙ h) in
    (found.0, ap row (sym own.1) ∙ found.1, λ long. is.passes found.0 long found.2)
holds_within (Both a b) c clip row e h =
    let sides = and_parts (holds a row) (holds b row) (sym (both_hold (truth a row) (truth b row)) ∙ h) in
    of_both (λ k. HasNumber k (row c)) (both_numbers (row c)) (clip_in a c) (clip_in b c) clip e
    (λ k f. holds_within a c k row f sides.0) (λ k f. holds_within b c k row f sides.1)
holds_within (Either a b) c clip row e h = absurd (no_clip clip e)
holds_within (Negation a) c clip row e h = absurd (no_clip clip e)

-- ---- ranges of numbers

-- the range may have a number, and lies wholly on neither side of the clip
record Touches (clip : Clip) (range : Range) : Type 0 where
  pub number : IsTrue (may_be_number range.null)
  pub low : range.numbers.low ≤ℤ clip.high
  pub high : clip.low ≤ℤ range.numbers.high

both_touch : (range : Range) (a b : Clip) → Touches a range → Touches b range → Touches (common a b) range
both_touch range a b f g =
    let low = f.low in
    let high = f.high in
    let also = g.low in
    let too = g.high in
    record { number = f.number; low = omega (arith, ints, clamps); high = omega (arith, ints, clamps) }

touched : (clip : Clip) (range : Range) (test : ℤ → Bool) → ((x : ℤ) → Within range.numbers x → IsLong x) → ((x : ℤ) → IsLong x → test x ≡ true → Within (range_of_clip clip) x) →
    (v : Option ℤ) × IsIn range v × (of_value test v ≡ Some true) → Touches clip range
touched clip range test long passes (None, m, e) = absurd (no_truth true e)
touched clip range test long passes (Some x, m, e) =
    let within = passes x (long x m.1) (same_Some (test x) true e) in
    let above = within.above in
    let below = within.below in
    let low = m.1.above in
    let high = m.1.below in
    record { number = m.0; low = omega (arith, ints); high = omega (arith, ints) }

-- where the condition may hold, the range of the column touches the clip
may_touch : (p : Condition) (c : ℕ) (clip : Clip) (ranges : Ranges) → clip_in p c ≡ Some clip → NoneEmpty ranges → ((x : ℤ) → Within (ranges c).numbers x → IsLong x) → IsTrue (truths_of p ranges).may_hold → Touches clip (ranges c)
may_touch All c clip ranges e o long h = absurd (no_clip clip e)
may_touch (Single atom) c clip ranges e o long h =
    let own = atom_of atom c clip e in
    let test = own.0.0 in
    let is = own.0.1 in
    let may : MayBe (truths_over (ranges clip.column) test) (Some true) = subst (λ (t : Truths). IsTrue t.may_hold) (is.known ranges) h in
    touched clip (ranges c) test long is.passes (subst (λ d. (v : Option ℤ) × IsIn (ranges d) v × (of_value test v ≡ Some true)) own.1 (over_reached (ranges clip.column) test (Some true) (o clip.column) may))
may_touch (Both a b) c clip ranges e o long h =
    let sides = and_parts (truths_of a ranges).may_hold (truths_of b ranges).may_hold h in
    of_both (λ k. Touches k (ranges c)) (both_touch (ranges c)) (clip_in a c) (clip_in b c) clip e
    (λ k f. may_touch a c k ranges f o long sides.0) (λ k f. may_touch b c k ranges f o long sides.1)
may_touch (Either a b) c clip ranges e o long h = absurd (no_clip clip e)
may_touch (Negation a) c clip ranges e o long h = absurd (no_clip clip e)

-- the clip has numbers
abbrev pub HasNumbers : Clip → Type 0
HasNumbers clip = clip.low ≤ℤ clip.high

-- a number of the range which lies in the clip
pub record HasNumberIn (clip : Clip) (range : Range) : Type 0 where
  pub number : ℤ
  pub there : IsIn range (Some number)
  pub within : Within (range_of_clip clip) number

-- of a clip that has numbers there is then one in the range
pub may_hold_within : (p : Condition) (c : ℕ) (clip : Clip) (ranges : Ranges) → clip_in p c ≡ Some clip → HasNumbers clip → NoneEmpty ranges → ((x : ℤ) → Within (ranges c).numbers x → IsLong x) →
    IsTrue (truths_of p ranges).may_hold → HasNumberIn clip (ranges c)
may_hold_within p c clip ranges e full o long h =
    let touches = may_touch p c clip ranges e o long h in
    let low = touches.low in
    let high = touches.high in
    let ordered = o c in
    let number = int_max (ranges c).numbers.low clip.low in
    record {
      number = number;
      there = (touches.number, record { above = omega (arith, ints, clamps); below = omega (arith, ints, clamps) });
      within = record { above = omega (arith, ints, clamps); below = omega (arith, ints, clamps) };
    }

-- where it surely holds, each value of the range is such a number
pub surely_within : (p : Condition) (c : ℕ) (clip : Clip) (ranges : Ranges) (v : Option ℤ) → clip_in p c ≡ Some clip → NoneEmpty ranges → truth_of p ranges ≡ True → IsIn (ranges c) v → HasNumber clip v
surely_within p c clip ranges v e o sure within =
    let row = placed ranges c v o within in
    let holding : holds p row.0 ≡ true = subst (λ t. Allows t (holds p row.0)) sure (truth_allows p ranges row.0 row.1) in
    subst (HasNumber clip) row.2 (holds_within p c clip row.0 e holding)
