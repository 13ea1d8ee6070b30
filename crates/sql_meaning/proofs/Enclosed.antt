-- Intervals that admit a typed answer contain what is asked for.
use Rattle.std.proofs.Common.{◌≡◌, ℕ, ℤ, ◌≤ℤ◌, true, false, List, Option, Some, None, refl, sym, ap, ◌∙◌, arith, IsTrue, slice_get}
use Rattle.std.proofs.lemmas.Bool.{true≢false}
use Rattle.std.proofs.lemmas.Cmp.{alike_right, int_cmp_total}
use Rattle.std.proofs.lemmas.Int.{ints}
use Rattle.std.proofs.lemmas.Option.{none-some}
use Rattle.std.specs.Prelude.{int_lt}
use Rattle.std.specs.Cmp.{int_ranks}
use Rattle.std.specs.Cmp.Lexicographic.{slice_cmp, nat_list_cmp_total}
use Rattle.std.specs.declared.cmp.Ordering.{Ordering}
use Rattle.std.specs.declared.cmp.Ordering.TheVariants.{Less, Equal, Greater}
use Rattle.std.specs.Ordering.{int_cmp, nat_cmp, is_eq, is_gt, is_some_and}
use Rattle.daq_table.specs.declared.head.ColumnHead.{ColumnHead}
use Rattle.query_model.specs.Bounds.{Admits}
use Rattle.query_model.specs.declared.bounds.Bound.{Bound}
use Rattle.query_model.specs.declared.query.Face.{Face}
use Rattle.query_model.specs.declared.query.Face.TheVariants as faces
use Rattle.sql_meaning.specs.Values.{Value, Number, Day, Text, compare, compare_decimals, unless_null}
use Rattle.sql_meaning.specs.Answers.{is_after, is_same}
use Rattle.sql_meaning.specs.Rows.{shown, value_of}
use Rattle.sql_meaning.specs.Laws.{ContainsValue, IntervalsMeanTheirTrees, IsShownAs}
use Rattle.sql_meaning.proofs.Answered.{answers_mean}
use Rattle.sql_meaning.proofs.Order.{decimals_ordered}
use Rattle.sql_meaning.proofs.Readings.{columns_read}
use Rattle.sql_meaning.proofs.Spots.{more_by}
use Rattle.sql_meaning.proofs.Truths.{numbers_alike}

pub equal_is : (o : Ordering) → is_eq o ≡ true → o ≡ Equal
equal_is Less h = absurd cc
equal_is Equal h = refl
equal_is Greater h = absurd cc

-- ---- values that are one compare alike

pub compare_right : (x u w : Value) → is_some_and is_eq (compare x u) ≡ true → compare w x ≡ compare w u
compare_right (Number a) (Number b) (Number c) h = ap Some (alike_right decimals_ordered a b c (equal_is (compare_decimals a b) h))
compare_right (Number a) (Number b) (Day e) h = refl
compare_right (Number a) (Number b) (Text t) h = refl
compare_right (Number a) (Day e) w h = absurd cc
compare_right (Number a) (Text t) w h = absurd cc
compare_right (Day d) (Number b) w h = absurd cc
compare_right (Day d) (Day e) (Number c) h = refl
compare_right (Day d) (Day e) (Day f) h = ap Some (alike_right int_cmp_total d e f (equal_is (int_cmp d e) h))
compare_right (Day d) (Day e) (Text t) h = refl
compare_right (Day d) (Text t) w h = absurd cc
compare_right (Text s) (Number b) w h = absurd cc
compare_right (Text s) (Day e) w h = absurd cc
compare_right (Text s) (Text t) (Number c) h = refl
compare_right (Text s) (Text t) (Day f) h = refl
compare_right (Text s) (Text t) (Text r) h = ap Some (alike_right nat_list_cmp_total s t r (equal_is (slice_cmp nat_cmp s t) h))

pub compare_left : (x u w : Value) → is_some_and is_eq (compare x u) ≡ true → compare x w ≡ compare u w
compare_left (Number a) (Number b) (Number c) h = ap Some (decimals_ordered.congr a b c (equal_is (compare_decimals a b) h))
compare_left (Number a) (Number b) (Day e) h = refl
compare_left (Number a) (Number b) (Text t) h = refl
compare_left (Number a) (Day e) w h = absurd cc
compare_left (Number a) (Text t) w h = absurd cc
compare_left (Day d) (Number b) w h = absurd cc
compare_left (Day d) (Day e) (Number c) h = refl
compare_left (Day d) (Day e) (Day f) h = ap Some (int_cmp_total.congr d e f (equal_is (int_cmp d e) h))
compare_left (Day d) (Day e) (Text t) h = refl
compare_left (Day d) (Text t) w h = absurd cc
compare_left (Text s) (Number b) w h = absurd cc
compare_left (Text s) (Day e) w h = absurd cc
compare_left (Text s) (Text t) (Number c) h = refl
compare_left (Text s) (Text t) (Day f) h = refl
compare_left (Text s) (Text t) (Text r) h = ap Some (nat_list_cmp_total.congr s t r (equal_is (slice_cmp nat_cmp s t) h))

-- ---- numbers under one face are in the order of what they show

of_column : (o : Option ColumnHead) (x y : ℤ) (u v : Value) → value_of o (Some x) ≡ Some u → value_of o (Some y) ≡ Some v → compare u v ≡ Some (int_cmp x y)
of_column None x y u v e f = absurd (none-some u e)
of_column (Some column) x y u v e f = (columns_read column.kind column.names column.is_column.ascending).in_order x y u v e f

pub in_order : (table : List ColumnHead) (columns : List ℕ) (face : Face) (x y : ℤ) (u v : Value) → shown table columns face x ≡ Some u → shown table columns face y ≡ Some v → compare u v ≡ Some (int_cmp x y)
in_order table columns (faces.Number s) x y u v e f = numbers_alike s s x y u v refl e f
in_order table columns (faces.OfColumn c) x y u v e f = of_column (unless_null (slice_get table) (slice_get columns c)) x y u v e f

at_most : (x y : ℤ) → x ≤ℤ y → is_gt (int_cmp x y) ≡ false
at_most x y h =
    let e : int_lt y x ≡ false = grind (arith, ints) in
    sym (more_by x y (int_cmp x y) (int_ranks x y)) ∙ e

-- ---- intervals

module _ (table : List ColumnHead) (columns : List ℕ) (face : Face) (bound : Bound) where
  low_is : (z : ℤ) (x v u : Value) → shown table columns face z ≡ Some x → is_some_and is_eq (compare x v) ≡ true → bound.lo ≤ℤ z → shown table columns face bound.lo ≡ Some u → is_after u v ≡ false
  low_is z x v u shows same le e =
      ap (is_some_and is_gt) (sym (compare_right x v u same) ∙ in_order table columns face bound.lo z u x e shows) ∙ at_most bound.lo z le

  high_is : (z : ℤ) (x v u : Value) → shown table columns face z ≡ Some x → is_some_and is_eq (compare x v) ≡ true → z ≤ℤ bound.hi → shown table columns face bound.hi ≡ Some u → is_after v u ≡ false
  high_is z x v u shows same le e =
      ap (is_some_and is_gt) (sym (compare_left x v u same) ∙ in_order table columns face z bound.hi x u shows e) ∙ at_most z bound.hi le

  some_within : (z : ℤ) (v : Value) (o : Option Value) → shown table columns face z ≡ o → IsTrue (is_same o (Some v)) → Admits bound (Some z) → ContainsValue (shown table columns face) bound (Some v)
  some_within z v None shows same h = absurd (true≢false (sym same))
  some_within z v (Some x) shows same h = (h.0, (λ u e. low_is z x v u shows same h.1 e), (λ u e. high_is z x v u shows same h.2 e))

  within : (o : Option ℤ) (v : Option Value) → IsShownAs (shown table columns face) o v → Admits bound o → ContainsValue (shown table columns face) bound v
  within None v is h = rw is h
  within (Some z) v is h = rw is.1 (some_within z is.0 (shown table columns face z) refl is.2 h)

pub intervals_mean : IntervalsMeanTheirTrees
intervals_mean q head query cells one item t bound is values asked one_in admitted =
    within head.columns query.columns t.face bound _ _ (answers_mean q head query cells one item t is values asked one_in) admitted
