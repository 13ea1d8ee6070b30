-- Bounds of averages whose ends are put apart say the same, and look exact only where no average is told.
use Rattle.std.proofs.Common.{◌≡◌, ◌≢◌, ℕ, ◌+◌, ◌<◌, ℤ, ◌+ℤ◌, Bool, true, false, ◌==◌, List, [], ◌∷◌, refl, arith, subst, sym, ◌∙◌, IsTrue, Option, Some, None, if◌then◌else◌}
use Rattle.std.specs.List.{list_all}
use Rattle.std.specs.Ordering.{int_eq}
use Rattle.std.proofs.lemmas.Bool.{and_from, and_parts, eqb-false}
use Rattle.std.proofs.lemmas.Int.{ints}
use Rattle.interval_calc.specs.Intervals.{Fraction}
use Rattle.query_model.specs.declared.bounds.Nullity.{Nullity}
use Rattle.query_model.specs.declared.bounds.Nullity.TheVariants.{Never, Possibly, Always}
use Rattle.query_model.specs.Bounds.{AdmitsAverage, AverageBound, IsNestedAverage}
use Rattle.shard_bounds.specs.Averages.{added_up, apart, apart_by, combined_average, doubled, exact_by, exactly, hull_by, hull_of_averages, is_exact, is_one_fraction, no_average, sums_of, IsDivisible, AreDivisible}
use Rattle.shard_bounds.proofs.FractionOrder.{IsAtMost, at_most-refl, at_most-trans, spread, spread_left}
use Rattle.shard_bounds.proofs.Hulls.{hulls_divide}

-- ---- nesting goes on

pub nested-refl : (bound : AverageBound) → IsNestedAverage bound bound
nested-refl bound = record { null = λ w. w; full = λ w. w; lo = λ w. at_most-refl bound.lo; hi = λ w. at_most-refl bound.hi }

pub nested-trans : (a b c : AverageBound) → IsDivisible b → IsNestedAverage a b → IsNestedAverage b c → IsNestedAverage a c
nested-trans a b c d p q = record {
  null = λ w. p.null (q.null w);
  full = λ w. p.full (q.full w);
  lo = λ w. at_most-trans a.lo b.lo c.lo d.lo (p.lo (q.full w)) (q.lo w);
  hi = λ w. at_most-trans c.hi b.hi a.hi d.hi (q.hi w) (p.hi (q.full w));
}

-- what a bound admits, a bound round it admits
pub nested_admits : (outer inner : AverageBound) (x : Option (ℤ × ℕ)) → IsDivisible inner → IsNestedAverage outer inner → AdmitsAverage inner x → AdmitsAverage outer x
nested_admits outer inner None d p h = p.null h
nested_admits outer inner (Some (s, n)) d p h =
    let v : Fraction = record { num = s; den = n } in
    (p.full h.0, at_most-trans outer.lo inner.lo v d.lo (p.lo h.0) h.1, at_most-trans v inner.hi outer.hi d.hi h.2 (p.hi h.0))

-- each of two bounds lies within the other
pub record AreSame (a b : AverageBound) : Type 0 where
  pub within : IsNestedAverage a b
  pub round : IsNestedAverage b a

pub same : (a : AverageBound) → AreSame a a
same a = record { within = nested-refl a; round = nested-refl a }

-- ---- ends that are put apart

pub as_much : (f : Fraction) → IsAtMost f (doubled f) × IsAtMost (doubled f) f
as_much f =
    let s = spread f.num f.den f.den in
    let t = spread_left f.num f.num f.den in
    (omega (arith, ints), omega (arith, ints))

not_always : (w : Nullity) → w ≡ Never → w ≢ Always
not_always w e f = differ (sym e ∙ f)
  where
    differ : ◌≡◌ {A = Nullity} Never Always → ⊥
    differ q = cc

same_by : (w : Nullity) (one : Bool) (bound : AverageBound) → bound.null ≡ w → AreSame bound (apart_by w one bound)
same_by Never true bound e = record {
  within = record { null = λ n. absurd (n refl); full = λ n. not_always bound.null e; lo = λ n. at_most-refl bound.lo; hi = λ n. (as_much bound.hi).1 };
  round = record { null = λ n. absurd (n e); full = λ n. λ z. cc; lo = λ n. at_most-refl bound.lo; hi = λ n. (as_much bound.hi).0 };
}
same_by Never false bound e = same bound
same_by Possibly one bound e = same bound
same_by Always one bound e = same bound

pub apart_same : (bound : AverageBound) → AreSame bound (apart bound)
apart_same bound = same_by bound.null (is_one_fraction bound) bound refl

divides_by : (w : Nullity) (one : Bool) (bound : AverageBound) → IsDivisible bound → IsDivisible (apart_by w one bound)
divides_by Never true bound d = let some = d.hi in record { lo = d.lo; hi = omega arith }
divides_by Never false bound d = d
divides_by Possibly one bound d = d
divides_by Always one bound d = d

pub apart_divides : (bound : AverageBound) → IsDivisible bound → IsDivisible (apart bound)
apart_divides bound d = divides_by bound.null (is_one_fraction bound) bound d

pub aparts_nest : (a b : AverageBound) → IsDivisible a → IsDivisible b → IsNestedAverage a b → IsNestedAverage (apart a) (apart b)
aparts_nest a b da db n = nested-trans (apart a) a (apart b) da (apart_same a).round (nested-trans a b (apart b) db n (apart_same b).within)

-- ---- denominators over all shards

exactly_by : (none : Bool) (sum : Fraction) → (sum.den == 0) ≡ none → IsDivisible (if none then no_average else record { null = Never; lo = sum; hi = sum })
exactly_by true sum e = record { lo = omega arith; hi = omega arith }
exactly_by false sum e = let some : sum.den ≢ 0 = eqb-false sum.den 0 e in record { lo = omega (arith, some); hi = omega (arith, some) }

combined_by : (exact : Bool) (bounds : List AverageBound) → AreDivisible bounds →
    IsDivisible (if exact then exactly (added_up (sums_of bounds)) else apart (hull_of_averages bounds))
combined_by true bounds d = exactly_by ((added_up (sums_of bounds)).den == 0) (added_up (sums_of bounds)) refl
combined_by false bounds d = apart_divides (hull_of_averages bounds) (hulls_divide bounds d)

pub combined_divides : (bounds : List AverageBound) → AreDivisible bounds → IsDivisible (combined_average bounds)
combined_divides bounds d = combined_by (list_all is_exact bounds) bounds d

-- ---- no average is told

not_twice : (a b : ℕ) → 0 < b → IsTrue (a == (b + b)) → IsTrue (a == b) → ⊥
not_twice a b some t e = grind arith

never_looks : (one : Bool) (bound : AverageBound) → is_one_fraction bound ≡ one → IsDivisible bound → IsTrue (is_one_fraction (apart_by Never one bound)) → ⊥
never_looks true bound is d t =
    let twice = and_parts (int_eq bound.lo.num (bound.hi.num +ℤ bound.hi.num)) (bound.lo.den == (bound.hi.den + bound.hi.den)) t in
    let once = and_parts (int_eq bound.lo.num bound.hi.num) (bound.lo.den == bound.hi.den) is in
    not_twice bound.lo.den bound.hi.den d.hi twice.1 once.1
never_looks false bound is d t = no (is_one_fraction bound) is t
  where
    no : (b : Bool) → b ≡ false → IsTrue b → ⊥
    no b f s = cc

looks_by : (w : Nullity) (one : Bool) (bound : AverageBound) → bound.null ≡ w → is_one_fraction bound ≡ one → IsDivisible bound →
    IsTrue (is_exact (apart_by w one bound)) → bound.null ≡ Always
looks_by Never true bound e is d t = absurd (never_looks true bound is d t)
looks_by Never false bound e is d t =
    absurd (never_looks false bound is d (subst (λ (w : Nullity). IsTrue (exact_by w (is_one_fraction bound))) e t))
looks_by Possibly one bound e is d t = absurd (no (subst (λ (w : Nullity). IsTrue (exact_by w (is_one_fraction bound))) e t))
  where
    no : IsTrue false → ⊥
    no s = cc
looks_by Always one bound e is d t = e

pub apart_looks : (bound : AverageBound) → IsDivisible bound → IsTrue (is_exact (apart bound)) → bound.null ≡ Always
apart_looks bound d t = looks_by bound.null (is_one_fraction bound) bound refl refl d t

-- ---- shards without an average

exact_when : (w : Nullity) (one : Bool) → w ≡ Always → IsTrue (exact_by w one)
exact_when w one e = subst (λ v. IsTrue (exact_by v one)) (sym e) refl

no_hull_by : (v w : Nullity) (a b : AverageBound) → a.null ≡ v → b.null ≡ w → (hull_by v w a b).null ≡ Always → (a.null ≡ Always) × (b.null ≡ Always)
no_hull_by Always w a b e f n = (e, n)
no_hull_by Never Never a b e f n = absurd (cc)
no_hull_by Never Possibly a b e f n = absurd (cc)
no_hull_by Never Always a b e f n = (n, f)
no_hull_by Possibly Never a b e f n = absurd (cc)
no_hull_by Possibly Possibly a b e f n = absurd (cc)
no_hull_by Possibly Always a b e f n = (n, f)

pub no_hull : (bounds : List AverageBound) → (hull_of_averages bounds).null ≡ Always → IsTrue (list_all is_exact bounds)
no_hull [] n = refl
no_hull (bound ∷ bounds) n =
    let both = no_hull_by bound.null (hull_of_averages bounds).null bound (hull_of_averages bounds) refl refl n in
    and_from (is_exact bound) (list_all is_exact bounds) (exact_when bound.null (is_one_fraction bound) both.0) (no_hull bounds both.1)
