-- The average over all shards lies between the least and the greatest of the shards' averages.
use Rattle.std.proofs.Common.{◌≡◌, ◌≢◌, ℕ, ◌<◌, ℤ, ◌+ℤ◌, List, [], ◌∷◌, ◌++◌, ◌⊎◌, inl, inr, length, refl, arith, subst, sym, ap, ◌∙◌, Some}
use Rattle.std.proofs.lemmas.Bool.{cond_both}
use Rattle.std.proofs.lemmas.Int.{ints}
use Rattle.interval_calc.specs.Intervals.{Fraction}
use Rattle.query_model.specs.declared.bounds.Nullity.{Nullity}
use Rattle.query_model.specs.declared.bounds.Nullity.TheVariants.{Never, Possibly, Always}
use Rattle.query_model.specs.Answers.{total, average}
use Rattle.query_model.specs.Bounds.{AverageBound, AdmitsAverage, IsNestedAverage}
use Rattle.shard_bounds.specs.Averages.{lesser, greater, hull_by, hull_of_two, hull_of_averages, IsDivisible, AreDivisible}
use Rattle.shard_bounds.specs.Combined.{together}
use Rattle.shard_bounds.specs.Laws.{HullsContain, HullsNest}
use Rattle.shard_bounds.proofs.Answers.{length-append}
use Rattle.shard_bounds.proofs.FractionOrder.{IsAtMost, at_most-trans, at_most-refl, at_most-added, added-at_most, lesser-below, greater-above}

-- ---- one of two fractions

pub lesser_is : (a b : Fraction) → (lesser a b ≡ a) ⊎ (lesser a b ≡ b)
lesser_is a b = cond_both _ a b (λ m. (m ≡ a) ⊎ (m ≡ b)) (λ t. inl refl) (λ f. inr refl)

pub greater_is : (a b : Fraction) → (greater a b ≡ a) ⊎ (greater a b ≡ b)
greater_is a b = cond_both _ b a (λ m. (m ≡ a) ⊎ (m ≡ b)) (λ t. inr refl) (λ f. inl refl)

-- ---- what a hull of two is like

-- where both may be NULL, so may the hull, and the other way round
pub null_of_hull : (v w : Nullity) (a b : AverageBound) → a.null ≡ v → b.null ≡ w → (hull_by v w a b).null ≢ Never → (a.null ≢ Never) × (b.null ≢ Never)
null_of_hull Never Never a b e f n = absurd (n refl)
null_of_hull Never Possibly a b e f n = absurd (n refl)
null_of_hull Never Always a b e f n = absurd (n e)
null_of_hull Possibly Never a b e f n = absurd (n refl)
null_of_hull Possibly Possibly a b e f n = ((λ q. apart (sym e ∙ q)), (λ q. apart (sym f ∙ q)))
  where
    apart : ◌≡◌ {A = Nullity} Possibly Never → ⊥
    apart q = cc
null_of_hull Possibly Always a b e f n = (n, (λ q. apart (sym f ∙ q)))
  where
    apart : ◌≡◌ {A = Nullity} Always Never → ⊥
    apart q = cc
null_of_hull Always w a b e f n = ((λ q. apart (sym e ∙ q)), n)
  where
    apart : ◌≡◌ {A = Nullity} Always Never → ⊥
    apart q = cc

pub hull_is_null : (v w : Nullity) (a b : AverageBound) → a.null ≡ v → b.null ≡ w → a.null ≢ Never → b.null ≢ Never → (hull_by v w a b).null ≢ Never
hull_is_null Never w a b e f m n = absurd (m e)
hull_is_null Possibly Never a b e f m n = absurd (n f)
hull_is_null Possibly Possibly a b e f m n = λ q. cc
hull_is_null Possibly Always a b e f m n = m
hull_is_null Always w a b e f m n = n

-- where one may have an answer, the hull lies round it
pub record IsRound (hull bound : AverageBound) : Type 0 where
  pub full : hull.null ≢ Always
  pub lo : IsAtMost hull.lo bound.lo
  pub hi : IsAtMost bound.hi hull.hi

pub round_first : (v w : Nullity) (a b : AverageBound) → a.null ≡ v → b.null ≡ w → a.null ≢ Always → IsRound (hull_by v w a b) a
round_first Never Never a b e f n = record { full = λ q. cc; lo = (lesser-below a.lo b.lo).0; hi = (greater-above a.hi b.hi).0 }
round_first Never Possibly a b e f n = record { full = λ q. cc; lo = (lesser-below a.lo b.lo).0; hi = (greater-above a.hi b.hi).0 }
round_first Never Always a b e f n = record { full = n; lo = at_most-refl a.lo; hi = at_most-refl a.hi }
round_first Possibly Never a b e f n = record { full = λ q. cc; lo = (lesser-below a.lo b.lo).0; hi = (greater-above a.hi b.hi).0 }
round_first Possibly Possibly a b e f n = record { full = λ q. cc; lo = (lesser-below a.lo b.lo).0; hi = (greater-above a.hi b.hi).0 }
round_first Possibly Always a b e f n = record { full = n; lo = at_most-refl a.lo; hi = at_most-refl a.hi }
round_first Always w a b e f n = absurd (n e)

pub round_second : (v w : Nullity) (a b : AverageBound) → a.null ≡ v → b.null ≡ w → b.null ≢ Always → IsRound (hull_by v w a b) b
round_second Never Never a b e f n = record { full = λ q. cc; lo = (lesser-below a.lo b.lo).1; hi = (greater-above a.hi b.hi).1 }
round_second Never Possibly a b e f n = record { full = λ q. cc; lo = (lesser-below a.lo b.lo).1; hi = (greater-above a.hi b.hi).1 }
round_second Never Always a b e f n = absurd (n f)
round_second Possibly Never a b e f n = record { full = λ q. cc; lo = (lesser-below a.lo b.lo).1; hi = (greater-above a.hi b.hi).1 }
round_second Possibly Possibly a b e f n = record { full = λ q. cc; lo = (lesser-below a.lo b.lo).1; hi = (greater-above a.hi b.hi).1 }
round_second Possibly Always a b e f n = absurd (n f)
round_second Always w a b e f n = record { full = n; lo = at_most-refl b.lo; hi = at_most-refl b.hi }

-- an end of a hull is an end of one that may have an answer
abbrev pub IsEndOfTwo : AverageBound → AverageBound → (AverageBound → Fraction) → Fraction → Type 0
IsEndOfTwo a b end x = ((a.null ≢ Always) × (x ≡ end a)) ⊎ ((b.null ≢ Always) × (x ≡ end b))

choose_end : (a b : AverageBound) (end : AverageBound → Fraction) (x : Fraction) → a.null ≢ Always → b.null ≢ Always → (x ≡ end a) ⊎ (x ≡ end b) → IsEndOfTwo a b end x
choose_end a b end x m n (inl e) = inl (m, e)
choose_end a b end x m n (inr e) = inr (n, e)

module _ (a b : AverageBound) (m : a.null ≢ Always) (n : b.null ≢ Always) where
  two_ends : IsEndOfTwo a b (λ c. c.lo) (lesser a.lo b.lo) × IsEndOfTwo a b (λ c. c.hi) (greater a.hi b.hi)
  two_ends = (choose_end a b (λ c. c.lo) _ m n (lesser_is a.lo b.lo), choose_end a b (λ c. c.hi) _ m n (greater_is a.hi b.hi))

not_always_never : (w : Nullity) → w ≡ Never → w ≢ Always
not_always_never w e f = apart (sym e ∙ f)
  where
    apart : ◌≡◌ {A = Nullity} Never Always → ⊥
    apart q = cc

not_always_possibly : (w : Nullity) → w ≡ Possibly → w ≢ Always
not_always_possibly w e f = apart (sym e ∙ f)
  where
    apart : ◌≡◌ {A = Nullity} Possibly Always → ⊥
    apart q = cc

pub ends_are : (v w : Nullity) (a b : AverageBound) → a.null ≡ v → b.null ≡ w → (hull_by v w a b).null ≢ Always →
    IsEndOfTwo a b (λ c. c.lo) (hull_by v w a b).lo × IsEndOfTwo a b (λ c. c.hi) (hull_by v w a b).hi
ends_are Never Never a b e f n = two_ends a b (not_always_never a.null e) (not_always_never b.null f)
ends_are Never Possibly a b e f n = two_ends a b (not_always_never a.null e) (not_always_possibly b.null f)
ends_are Never Always a b e f n = (inl (n, refl), inl (n, refl))
ends_are Possibly Never a b e f n = two_ends a b (not_always_possibly a.null e) (not_always_never b.null f)
ends_are Possibly Possibly a b e f n = two_ends a b (not_always_possibly a.null e) (not_always_possibly b.null f)
ends_are Possibly Always a b e f n = (inl (n, refl), inl (n, refl))
ends_are Always w a b e f n = (inr (n, refl), inr (n, refl))

-- ---- denominators

lesser_divides : (a b : Fraction) → 0 < a.den → 0 < b.den → 0 < (lesser a b).den
lesser_divides a b m n = cond_both _ a b (λ c. 0 < c.den) (λ t. m) (λ f. n)

greater_divides : (a b : Fraction) → 0 < a.den → 0 < b.den → 0 < (greater a b).den
greater_divides a b m n = cond_both _ b a (λ c. 0 < c.den) (λ t. n) (λ f. m)

two_divide : (w : Nullity) (a b : AverageBound) → IsDivisible a → IsDivisible b → IsDivisible (record { null = w; lo = lesser a.lo b.lo; hi = greater a.hi b.hi })
two_divide w a b m n = record { lo = lesser_divides a.lo b.lo m.lo n.lo; hi = greater_divides a.hi b.hi m.hi n.hi }

pub hull_divides : (v w : Nullity) (a b : AverageBound) → IsDivisible a → IsDivisible b → IsDivisible (hull_by v w a b)
hull_divides Never Never a b m n = two_divide Never a b m n
hull_divides Never Possibly a b m n = two_divide Never a b m n
hull_divides Never Always a b m n = m
hull_divides Possibly Never a b m n = two_divide Never a b m n
hull_divides Possibly Possibly a b m n = two_divide Possibly a b m n
hull_divides Possibly Always a b m n = m
hull_divides Always w a b m n = n

pub hulls_divide : (bounds : List AverageBound) → AreDivisible bounds → IsDivisible (hull_of_averages bounds)
hulls_divide [] d = record { lo = omega arith; hi = omega arith }
hulls_divide (bound ∷ bounds) d = hull_divides bound.null (hull_of_averages bounds).null bound (hull_of_averages bounds) d.0 (hulls_divide bounds d.1)

-- ---- contains

pub total-append : (xs ys : List ℤ) → total (xs ++ ys) ≡ total xs +ℤ total ys
total-append [] ys = omega (arith, ints)
total-append (x ∷ xs) ys = (let rest = total-append xs ys in omega (arith, ints))

append-nil : (xs : List ℤ) → xs ++ [] ≡ xs
append-nil [] = refl
append-nil (x ∷ xs) = ap (λ ys. x ∷ ys) (append-nil xs)

-- an average that lies in a bound lies in what is round it
widen : (hull bound : AverageBound) (s : ℤ) (n : ℕ) → IsDivisible bound → IsRound hull bound → AdmitsAverage bound (Some (s, n)) → AdmitsAverage hull (Some (s, n))
widen hull bound s n d r h =
    let value : Fraction = record { num = s; den = n } in
    (r.full, at_most-trans hull.lo bound.lo value d.lo r.lo h.1, at_most-trans value bound.hi hull.hi d.hi h.2 r.hi)

two_contain : (a b : AverageBound) (xs ys : List ℤ) → IsDivisible a → IsDivisible b → AdmitsAverage a (average xs) → AdmitsAverage b (average ys) → AdmitsAverage (hull_of_two a b) (average (xs ++ ys))
two_contain a b [] [] m n h k = hull_is_null a.null b.null a b refl refl h k
two_contain a b [] (y ∷ ys) m n h k = widen (hull_of_two a b) b (total (y ∷ ys)) (length (y ∷ ys)) n (round_second a.null b.null a b refl refl k.0) k
two_contain a b (x ∷ xs) [] m n h k =
    subst (λ zs. AdmitsAverage (hull_of_two a b) (average zs)) (sym (append-nil (x ∷ xs)))
    (widen (hull_of_two a b) a (total (x ∷ xs)) (length (x ∷ xs)) m (round_first a.null b.null a b refl refl h.0) h)
two_contain a b (x ∷ xs) (y ∷ ys) m n h k =
    let hull = hull_of_two a b in
    let first = widen hull a (total (x ∷ xs)) (length (x ∷ xs)) m (round_first a.null b.null a b refl refl h.0) h in
    let second = widen hull b (total (y ∷ ys)) (length (y ∷ ys)) n (round_second a.null b.null a b refl refl k.0) k in
    let one : Fraction = record { num = total (x ∷ xs); den = length (x ∷ xs) } in
    let other : Fraction = record { num = total (y ∷ ys); den = length (y ∷ ys) } in
    subst (λ s. AdmitsAverage hull (Some (s, length (x ∷ xs ++ y ∷ ys)))) (sym (total-append (x ∷ xs) (y ∷ ys)))
    (subst (λ n. AdmitsAverage hull (Some (total (x ∷ xs) +ℤ total (y ∷ ys), n))) (sym (length-append (x ∷ xs) (y ∷ ys)))
    (first.0, at_most-added hull.lo one other first.1 second.1, added-at_most one other hull.hi first.2 second.2))

pub hulls_contain : HullsContain
hulls_contain [] [] d h = λ e. cc
hulls_contain [] (values ∷ shards) d h = absurd h
hulls_contain (bound ∷ bounds) [] d h = absurd h
hulls_contain (bound ∷ bounds) (values ∷ shards) d h =
    two_contain bound (hull_of_averages bounds) values (together shards) d.0 (hulls_divide bounds d.1) h.0 (hulls_contain bounds shards d.1 h.1)

-- ---- nested

module _ (a b a' b' : AverageBound) (m : IsDivisible a) (n : IsDivisible b) (p : IsNestedAverage a a') (q : IsNestedAverage b b') where
  low_kept : IsEndOfTwo a' b' (λ c. c.lo) (hull_of_two a' b').lo → (hull_of_two a b).null ≢ Always × IsAtMost (hull_of_two a b).lo (hull_of_two a' b').lo
  low_kept (inl (w, e)) =
      let round = round_first a.null b.null a b refl refl (p.full w) in
      (round.full, subst (λ x. IsAtMost (hull_of_two a b).lo x) (sym e) (at_most-trans (hull_of_two a b).lo a.lo a'.lo m.lo round.lo (p.lo w)))
  low_kept (inr (w, e)) =
      let round = round_second a.null b.null a b refl refl (q.full w) in
      (round.full, subst (λ x. IsAtMost (hull_of_two a b).lo x) (sym e) (at_most-trans (hull_of_two a b).lo b.lo b'.lo n.lo round.lo (q.lo w)))

  high_kept : IsEndOfTwo a' b' (λ c. c.hi) (hull_of_two a' b').hi → IsAtMost (hull_of_two a' b').hi (hull_of_two a b).hi
  high_kept (inl (w, e)) =
      let round = round_first a.null b.null a b refl refl (p.full w) in
      subst (λ x. IsAtMost x (hull_of_two a b).hi) (sym e) (at_most-trans a'.hi a.hi (hull_of_two a b).hi m.hi (p.hi w) round.hi)
  high_kept (inr (w, e)) =
      let round = round_second a.null b.null a b refl refl (q.full w) in
      subst (λ x. IsAtMost x (hull_of_two a b).hi) (sym e) (at_most-trans b'.hi b.hi (hull_of_two a b).hi n.hi (q.hi w) round.hi)

  pub two_nest : IsNestedAverage (hull_of_two a b) (hull_of_two a' b')
  two_nest = record {
    null = λ w. (let both = null_of_hull a'.null b'.null a' b' refl refl w in hull_is_null a.null b.null a b refl refl (p.null both.0) (q.null both.1));
    full = λ w. (low_kept (ends_are a'.null b'.null a' b' refl refl w).0).0;
    lo = λ w. (low_kept (ends_are a'.null b'.null a' b' refl refl w).0).1;
    hi = λ w. high_kept (ends_are a'.null b'.null a' b' refl refl w).1;
  }

pub hulls_nest : HullsNest
hulls_nest [] [] d c h = record { null = λ w. w; full = λ w. w; lo = λ w. absurd (w refl); hi = λ w. absurd (w refl) }
hulls_nest [] (new ∷ news) d c h = absurd h
hulls_nest (old ∷ olds) [] d c h = absurd h
hulls_nest (old ∷ olds) (new ∷ news) d c h =
    two_nest old (hull_of_averages olds) new (hull_of_averages news) d.0 (hulls_divide olds d.1) h.0 (hulls_nest olds news d.1 c.1 h.1)
