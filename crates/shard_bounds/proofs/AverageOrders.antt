-- One shard, and the order of shards, for averages.
use Rattle.std.proofs.Common.{◌≡◌, ◌≢◌, ℕ, ◌+◌, ◌<◌, ℤ, pos, ◌+ℤ◌, Bool, true, false, cond, ◌&&◌, ◌==◌, List, [], ◌∷◌, ◌⊎◌, inl, inr, refl, arith, subst, sym, ap, ◌∙◌, IsTrue, IsFalse}
use Rattle.std.specs.List.{list_all}
use Rattle.std.specs.Ordering.{int_eq}
use Rattle.std.proofs.lemmas.Bool.{cases_Bool, and_parts}
use Rattle.std.proofs.lemmas.Int.{ints}
use Rattle.interval_calc.specs.Intervals.{Fraction}
use Rattle.query_model.specs.declared.bounds.Nullity.{Nullity}
use Rattle.query_model.specs.declared.bounds.Nullity.TheVariants.{Never, Possibly, Always}
use Rattle.query_model.specs.Bounds.{AverageBound, IsNestedAverage}
use Rattle.query_model.proofs.Integers.{equal_when}
use Rattle.shard_bounds.specs.Averages.{apart, apart_by, is_exact, fraction_by, sums_of, added_up, exactly, combined_average, hull_of_two, hull_of_averages, no_average, IsDivisible, AreDivisible}
use Rattle.shard_bounds.specs.Combined.{Reordered}
use Rattle.shard_bounds.specs.Combined.Reordered.{same, swapped, farther, both}
use Rattle.shard_bounds.specs.Laws.{OneAverageIsAll, OrderOfAveragesIsFree}
use Rattle.shard_bounds.proofs.EqualEnds.{aparts_nest, nested-refl, nested-trans}
use Rattle.shard_bounds.proofs.FractionOrder.{IsAtMost, at_most-trans}
use Rattle.shard_bounds.proofs.Hulls.{null_of_hull, hull_is_null, IsRound, round_first, round_second, IsEndOfTwo, ends_are, hull_divides, hulls_divide, two_nest}
use Rattle.shard_bounds.proofs.Orders.{folded, filter_map-reordered}

-- ---- one shard

pub same_average : (a b : AverageBound) → a.null ≡ b.null → a.lo ≡ b.lo → a.hi ≡ b.hi → a ≡ b
same_average a b n l h =
    let make : Nullity → Fraction → Fraction → AverageBound = λ n l h. record { null = n; lo = l; hi = h } in
    ap (λ n. make n a.lo a.hi) n ∙ ap (λ l. make b.null l a.hi) l ∙ ap (make b.null b.lo) h

pub same_fraction : (a b : Fraction) → a.num ≡ b.num → a.den ≡ b.den → a ≡ b
same_fraction a b n d =
    let make : ℤ → ℕ → Fraction = λ n d. record { num = n; den = d } in
    ap (λ n. make n a.den) n ∙ ap (make b.num) d

pub positive : (n : ℕ) → 0 < n → (n == 0) ≡ false
positive n h = grind arith

pub equal_numbers : (m n : ℕ) → IsTrue (m == n) → m ≡ n
equal_numbers m n t = grind arith

true_and : (b : Bool) → (b && true) ≡ b
true_and true = refl
true_and false = refl

one_sum : (lo : Fraction) → 0 < lo.den → exactly (added_up (lo ∷ [])) ≡ record { null = Never; lo = lo; hi = lo }
one_sum lo h =
    let e : added_up (lo ∷ []) ≡ lo = same_fraction (added_up (lo ∷ [])) lo (omega (arith, ints)) (omega arith) in
    ap exactly e ∙ ap (λ b. cond b no_average (record { null = Never; lo = lo; hi = lo })) (positive lo.den h)

one_by : (w : Nullity) (lo hi : Fraction) → 0 < lo.den → (w ≡ Always → (lo ≡ record { num = pos 0; den = 1 }) × (hi ≡ record { num = pos 0; den = 1 })) →
    combined_average (record { null = w; lo = lo; hi = hi } ∷ []) ≡ record { null = w; lo = lo; hi = hi }
one_by Never lo hi h z =
    ap (λ b. cond b (exactly (added_up (lo ∷ []))) (apart bound)) (true_and looks) ∙ either (cases_Bool looks)
  where
    bound : AverageBound
    bound = record { null = Never; lo = lo; hi = hi }

    looks : Bool
    looks = int_eq lo.num hi.num && (lo.den == hi.den)

    either : IsTrue looks ⊎ IsFalse looks → cond looks (exactly (added_up (lo ∷ []))) (apart bound) ≡ bound
    either (inl t) =
        let parts = and_parts (int_eq lo.num hi.num) (lo.den == hi.den) t in
        ap (λ b. cond b (exactly (added_up (lo ∷ []))) (apart bound)) t ∙ one_sum lo h
        ∙ ap (λ (f : Fraction). record { null = Never; lo = lo; hi = f }) (same_fraction lo hi (equal_when lo.num hi.num parts.0) (equal_numbers lo.den hi.den parts.1))
    either (inr f) = ap (λ b. cond b (exactly (added_up (lo ∷ []))) (apart_by Never b bound)) f
one_by Possibly lo hi h z = refl
one_by Always lo hi h z = same_average _ _ refl (sym (z refl).0) (sym (z refl).1)

pub one_average_is_all : OneAverageIsAll
one_average_is_all bound d z = one_by bound.null bound.lo bound.hi d.lo z

-- ---- round what is round

-- what is round a bound that is round another
round-trans : (a b c : AverageBound) → IsDivisible b → IsRound a b → IsRound b c → IsRound a c
round-trans a b c d p q = record { full = p.full; lo = at_most-trans a.lo b.lo c.lo d.lo p.lo q.lo; hi = at_most-trans c.hi b.hi a.hi d.hi q.hi p.hi }

-- ---- neighbours change places

module _ (a b h : AverageBound) (da : IsDivisible a) (db : IsDivisible b) (dh : IsDivisible h) where
  round_a : a.null ≢ Always → IsRound (hull_of_two a (hull_of_two b h)) a
  round_a w = round_first a.null (hull_of_two b h).null a (hull_of_two b h) refl refl w

  round_b : b.null ≢ Always → IsRound (hull_of_two a (hull_of_two b h)) b
  round_b w =
      let inner = round_first b.null h.null b h refl refl w in
      round-trans (hull_of_two a (hull_of_two b h)) (hull_of_two b h) b (hull_divides b.null h.null b h db dh) (round_second a.null (hull_of_two b h).null a (hull_of_two b h) refl refl inner.full) inner

  round_h : h.null ≢ Always → IsRound (hull_of_two a (hull_of_two b h)) h
  round_h w =
      let inner = round_second b.null h.null b h refl refl w in
      round-trans (hull_of_two a (hull_of_two b h)) (hull_of_two b h) h (hull_divides b.null h.null b h db dh) (round_second a.null (hull_of_two b h).null a (hull_of_two b h) refl refl inner.full) inner

  low_inner : (x : Fraction) → IsEndOfTwo a h (λ c. c.lo) x → ((hull_of_two a (hull_of_two b h)).null ≢ Always) × IsAtMost (hull_of_two a (hull_of_two b h)).lo x
  low_inner x (inl (w, e)) = ((round_a w).full, subst (λ y. IsAtMost (hull_of_two a (hull_of_two b h)).lo y) (sym e) (round_a w).lo)
  low_inner x (inr (w, e)) = ((round_h w).full, subst (λ y. IsAtMost (hull_of_two a (hull_of_two b h)).lo y) (sym e) (round_h w).lo)

  low_in : (x : Fraction) → IsEndOfTwo b (hull_of_two a h) (λ c. c.lo) x → ((hull_of_two a (hull_of_two b h)).null ≢ Always) × IsAtMost (hull_of_two a (hull_of_two b h)).lo x
  low_in x (inl (w, e)) = ((round_b w).full, subst (λ y. IsAtMost (hull_of_two a (hull_of_two b h)).lo y) (sym e) (round_b w).lo)
  low_in x (inr (w, e)) = low_inner x (subst (IsEndOfTwo a h (λ c. c.lo)) (sym e) (ends_are a.null h.null a h refl refl w).0)

  high_inner : (x : Fraction) → IsEndOfTwo a h (λ c. c.hi) x → IsAtMost x (hull_of_two a (hull_of_two b h)).hi
  high_inner x (inl (w, e)) = subst (λ y. IsAtMost y (hull_of_two a (hull_of_two b h)).hi) (sym e) (round_a w).hi
  high_inner x (inr (w, e)) = subst (λ y. IsAtMost y (hull_of_two a (hull_of_two b h)).hi) (sym e) (round_h w).hi

  high_in : (x : Fraction) → IsEndOfTwo b (hull_of_two a h) (λ c. c.hi) x → IsAtMost x (hull_of_two a (hull_of_two b h)).hi
  high_in x (inl (w, e)) = subst (λ y. IsAtMost y (hull_of_two a (hull_of_two b h)).hi) (sym e) (round_b w).hi
  high_in x (inr (w, e)) = high_inner x (subst (IsEndOfTwo a h (λ c. c.hi)) (sym e) (ends_are a.null h.null a h refl refl w).1)

  swap_null : (hull_of_two b (hull_of_two a h)).null ≢ Never → (hull_of_two a (hull_of_two b h)).null ≢ Never
  swap_null w =
      let outer = null_of_hull b.null (hull_of_two a h).null b (hull_of_two a h) refl refl w in
      let inner = null_of_hull a.null h.null a h refl refl outer.1 in
      hull_is_null a.null (hull_of_two b h).null a (hull_of_two b h) refl refl inner.0 (hull_is_null b.null h.null b h refl refl outer.0 inner.1)

  swap_nests : IsNestedAverage (hull_of_two a (hull_of_two b h)) (hull_of_two b (hull_of_two a h))
  swap_nests = record {
    null = swap_null;
    full = λ w. (low_in _ (ends_are b.null (hull_of_two a h).null b (hull_of_two a h) refl refl w).0).0;
    lo = λ w. (low_in _ (ends_are b.null (hull_of_two a h).null b (hull_of_two a h) refl refl w).0).1;
    hi = λ w. high_in _ (ends_are b.null (hull_of_two a h).null b (hull_of_two a h) refl refl w).1;
  }

-- each hull lies within the other
pub record SayTheSame (a b : List AverageBound) : Type 0 where
  pub divide : AreDivisible b
  pub there : IsNestedAverage (hull_of_averages a) (hull_of_averages b)
  pub back : IsNestedAverage (hull_of_averages b) (hull_of_averages a)

hulls-reordered : (bounds others : List AverageBound) → AreDivisible bounds → Reordered bounds others → SayTheSame bounds others
hulls-reordered bounds others d (same zs) = record { divide = d; there = nested-refl (hull_of_averages zs); back = nested-refl (hull_of_averages zs) }
hulls-reordered bounds others d (swapped x y zs) =
    let h = hull_of_averages zs in
    let dh = hulls_divide zs d.1.1 in
    record { divide = (d.1.0, (d.0, d.1.1)); there = swap_nests x y h d.0 d.1.0 dh; back = swap_nests y x h d.1.0 d.0 dh }
hulls-reordered bounds others d (farther x us vs r) =
    let rest = hulls-reordered us vs d.1 r in
    record {
      divide = (d.0, rest.divide);
      there = two_nest x (hull_of_averages us) x (hull_of_averages vs) d.0 (hulls_divide us d.1) (nested-refl x) rest.there;
      back = two_nest x (hull_of_averages vs) x (hull_of_averages us) d.0 (hulls_divide vs rest.divide) (nested-refl x) rest.back;
    }
hulls-reordered bounds others d (both us vs ws r q) =
    let first = hulls-reordered us vs d r in
    let second = hulls-reordered vs ws first.divide q in
    record {
      divide = second.divide;
      there = nested-trans (hull_of_averages us) (hull_of_averages vs) (hull_of_averages ws) (hulls_divide vs first.divide) first.there second.there;
      back = nested-trans (hull_of_averages ws) (hull_of_averages vs) (hull_of_averages us) (hulls_divide vs first.divide) second.back first.back;
    }

-- ---- sums

and_free : (a b c : Bool) → (a && (b && c)) ≡ (b && (a && c))
and_free true true c = refl
and_free true false c = refl
and_free false true c = refl
and_free false false c = refl

exact-reordered : (bounds others : List AverageBound) → Reordered bounds others → list_all is_exact bounds ≡ list_all is_exact others
exact-reordered bounds others r = folded (list_all is_exact) (λ x b. is_exact x && b) (λ x xs. refl) (λ x y b. and_free (is_exact x) (is_exact y) b) bounds others r

add_one : Fraction → Fraction → Fraction
add_one f s = record { num = f.num +ℤ s.num; den = f.den + s.den }

added_more : (f : Fraction) (fs : List Fraction) → added_up (f ∷ fs) ≡ add_one f (added_up fs)
unfolding add_one
added_more f fs = refl

add_free : (f g s : Fraction) → add_one f (add_one g s) ≡ add_one g (add_one f s)
unfolding add_one
add_free f g s = same_fraction (add_one f (add_one g s)) (add_one g (add_one f s)) (omega (arith, ints)) (omega arith)

sums-reordered : (bounds others : List AverageBound) → Reordered bounds others → added_up (sums_of bounds) ≡ added_up (sums_of others)
sums-reordered bounds others r =
    folded added_up add_one added_more add_free (sums_of bounds) (sums_of others) (filter_map-reordered (λ b. fraction_by b.null b.lo) bounds others r)

pub order_of_averages_is_free : OrderOfAveragesIsFree
order_of_averages_is_free bounds others d r =
    let hulls = hulls-reordered bounds others d r in
    let looks = exact-reordered bounds others r in
    let sums = ap exactly (sums-reordered bounds others r) in
    let pick : Bool → List AverageBound → AverageBound = λ b bs. cond b (exactly (added_up (sums_of bs))) (apart (hull_of_averages bs)) in
    elim (cases_Bool (list_all is_exact bounds)) [
      | inl t ↦
          (let one : combined_average bounds ≡ exactly (added_up (sums_of bounds)) = ap (λ b. pick b bounds) t in
          let other : combined_average others ≡ exactly (added_up (sums_of others)) = ap (λ b. pick b others) (sym looks ∙ t) in
          let equal : combined_average bounds ≡ combined_average others = one ∙ sums ∙ sym other in (
            subst (λ b. IsNestedAverage (combined_average bounds) b) equal (nested-refl (combined_average bounds)),
            subst (λ b. IsNestedAverage b (combined_average bounds)) equal (nested-refl (combined_average bounds)),
          ))
      | inr f ↦
          (let hull = hull_of_averages bounds in
          let others_hull = hull_of_averages others in
          let one : combined_average bounds ≡ apart hull = ap (λ b. pick b bounds) f in
          let other : combined_average others ≡ apart others_hull = ap (λ b. pick b others) (sym looks ∙ f) in
          let divides = hulls_divide bounds d in
          let others_divide = hulls_divide others hulls.divide in (
            subst (λ b. IsNestedAverage b (combined_average others)) (sym one)
                (subst (λ b. IsNestedAverage (apart hull) b) (sym other) (aparts_nest hull others_hull divides others_divide hulls.there)),
            subst (λ b. IsNestedAverage b (combined_average bounds)) (sym other)
                (subst (λ b. IsNestedAverage (apart others_hull) b) (sym one) (aparts_nest others_hull hull others_divide divides hulls.back)),
          ))
    ]
