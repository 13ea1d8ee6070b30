-- Intervals of numbers, as intervals of values.
use Rattle.std.proofs.Common.{◌≡◌, ◌≢◌, ℕ, ℤ, ◌≤ℤ◌, true, false, List, Option, Some, None, not, refl, sym, ap, subst, ◌∙◌, arith, IsTrue}
use Rattle.std.proofs.lemmas.Bool.{true≢false}
use Rattle.std.proofs.lemmas.Int.{ints}
use Rattle.std.proofs.lemmas.Option.{same_Some}
use Rattle.std.specs.Prelude.{int_lt}
use Rattle.std.specs.Cmp.{int_ranks}
use Rattle.std.specs.Ordering.{int_cmp, is_gt, is_some_and}
use Rattle.daq_table.specs.declared.head.ColumnHead.{ColumnHead}
use Rattle.query_model.specs.Bounds.{Admits, IsNested}
use Rattle.query_model.specs.declared.bounds.Bound.{Bound}
use Rattle.query_model.specs.declared.bounds.Nullity.{Nullity}
use Rattle.query_model.specs.declared.bounds.Nullity.TheVariants.{Always, Never, Possibly}
use Rattle.query_model.specs.declared.query.Face.{Face}
use Rattle.sql_meaning.specs.Values.{Value}
use Rattle.sql_meaning.specs.Answers.{is_same}
use Rattle.sql_meaning.specs.Rows.{shown}
use Rattle.sql_meaning.specs.Laws.{IsShownAs}
use Rattle.sql_meaning.proofs.Enclosed.{compare_left, compare_right, in_order}
use Rattle.sql_meaning.proofs.Spots.{more_by}
use Rattle.sql_headline.specs.Intervals.{Encloses, Interval, IsAlone, IsAtMost, LiesInside, is_at_most}

not_above : (x y : ℤ) → x ≤ℤ y → not (is_gt (int_cmp x y)) ≡ true
not_above x y h =
    let e : int_lt y x ≡ false = grind (arith, ints) in
    ap not (sym (more_by x y (int_cmp x y) (int_ranks x y)) ∙ e)

pub never : (w : Nullity) → w ≢ Possibly → w ≢ Always → w ≡ Never
never Never h g = refl
never Possibly h g = absurd (h refl)
never Always h g = absurd (g refl)

pub always : (w : Nullity) → w ≢ Possibly → w ≢ Never → w ≡ Always
always Never h g = absurd (g refl)
always Possibly h g = absurd (h refl)
always Always h g = refl

module _ (table : List ColumnHead) (columns : List ℕ) (face : Face) where
  abbrev shows : ℤ → Option Value
  shows = shown table columns face

  abbrev pub interval_of : Bound → Interval
  interval_of bound = record { null = bound.null; low = shows bound.lo; high = shows bound.hi }

  pub at_most : (x y : ℤ) → x ≤ℤ y → IsAtMost (shows x) (shows y)
  at_most x y h u v e f = ap (is_some_and (λ o. not (is_gt o))) (in_order table columns face x y u v e f) ∙ not_above x y h

  low_end : (x z : ℤ) (w v : Value) → x ≤ℤ z → shows z ≡ Some w → IsTrue (is_same (Some w) (Some v)) → IsAtMost (shows x) (Some v)
  low_end x z w v h e same u t f g =
      subst (λ s. IsTrue (is_at_most u s)) (same_Some v t g)
      (ap (is_some_and (λ o. not (is_gt o))) (sym (compare_right w v u same) ∙ in_order table columns face x z u w f e) ∙ not_above x z h)

  high_end : (x z : ℤ) (w v : Value) → z ≤ℤ x → shows z ≡ Some w → IsTrue (is_same (Some w) (Some v)) → IsAtMost (Some v) (shows x)
  high_end x z w v h e same t u g f =
      subst (λ s. IsTrue (is_at_most s u)) (same_Some v t g)
      (ap (is_some_and (λ o. not (is_gt o))) (sym (compare_left w v u same) ∙ in_order table columns face z x w u e f) ∙ not_above z x h)

  value_enclosed : (bound : Bound) (z : ℤ) (v : Value) (o : Option Value) → shows z ≡ o → IsTrue (is_same o (Some v)) → Admits bound (Some z) → Encloses (interval_of bound) (Some v)
  value_enclosed bound z v None e same h = absurd (true≢false (sym same))
  value_enclosed bound z v (Some w) e same h = (h.0, low_end bound.lo z w v h.1 e same, high_end bound.hi z w v h.2 e same)

  pub enclosed : (bound : Bound) (o : Option ℤ) (v : Option Value) → IsShownAs shows o v → Admits bound o → Encloses (interval_of bound) v
  enclosed bound None v is h = rw is h
  enclosed bound (Some z) v is h = rw is.1 (value_enclosed bound z is.0 (shows z) refl is.2 h)

  pub inside : (old new : Bound) → IsNested old new → LiesInside (interval_of old) (interval_of new)
  inside old new nested = record {
    null = nested.null;
    full = nested.full;
    low = λ h. at_most old.lo new.lo (nested.lo h);
    high = λ h. at_most new.hi old.hi (nested.hi h);
  }

  pub alone : (bound : Bound) (o : Option ℤ) (v : Option Value) → IsShownAs shows o v → Admits bound o → bound.null ≢ Possibly
      → (bound.null ≢ Always → (o ≡ Some bound.lo) × (o ≡ Some bound.hi)) → IsAlone (interval_of bound) v
  alone bound None v is h told ends = rw is (always bound.null told h)
  alone bound (Some z) v is h told ends =
      let e = ends h.0 in
      rw is.1 (
        never bound.null told h.0,
        subst (λ n. IsTrue (is_same (shows n) (Some is.0))) (same_Some z bound.lo e.0) is.2,
        subst (λ n. IsTrue (is_same (shows n) (Some is.0))) (same_Some z bound.hi e.1) is.2,
      )
