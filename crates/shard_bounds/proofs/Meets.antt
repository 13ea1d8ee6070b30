-- What lies in two bounds of an average.
use Rattle.std.proofs.Common.{◌≡◌, ◌≢◌, ℕ, ℤ, [], ◌∷◌, inl, inr, refl, arith, subst, sym, ◌∙◌, Option, None, Some}
use Rattle.std.proofs.lemmas.Bool.{cond_both}
use Rattle.std.proofs.lemmas.Int.{ints}
use Rattle.interval_calc.specs.Intervals.{Fraction}
use Rattle.query_model.specs.declared.bounds.Nullity.{Nullity}
use Rattle.query_model.specs.declared.bounds.Nullity.TheVariants.{Never, Possibly, Always}
use Rattle.query_model.specs.Bounds.{AverageBound, AdmitsAverage, IsNestedAverage}
use Rattle.shard_bounds.specs.Averages.{lesser, greater, meet_by, meet_of_two, within, AreDivisible, TellsAverage}
use Rattle.shard_bounds.specs.Laws.{MeetsStand}
use Rattle.shard_bounds.proofs.FractionOrder.{IsAtMost, lesser-below, greater-above}
use Rattle.shard_bounds.proofs.EqualEnds.{nested-trans}
use Rattle.shard_bounds.proofs.Hulls.{greater_is, lesser_is}

-- ---- the words

-- where there is an answer for certain, each bound may have one
some_first : (a b : AverageBound) (x : Option (ℤ × ℕ)) → a.null ≡ Always → b.null ≡ Never → AdmitsAverage a x → AdmitsAverage b x → ⊥
some_first a b None e f h k = k f
some_first a b (Some v) e f h k = h.0 e

-- ---- contains

-- an end of the two
low_of : (a b x : Fraction) → IsAtMost a x → IsAtMost b x → IsAtMost (greater b a) x
low_of a b x h k = elim (greater_is b a) [ inl e ↦ subst (λ z. IsAtMost z x) (sym e) k | inr e ↦ subst (λ z. IsAtMost z x) (sym e) h ]

high_of : (a b x : Fraction) → IsAtMost x a → IsAtMost x b → IsAtMost x (lesser a b)
high_of a b x h k = elim (lesser_is a b) [ inl e ↦ subst (λ z. IsAtMost x z) (sym e) h | inr e ↦ subst (λ z. IsAtMost x z) (sym e) k ]

contain_by : (v w : Nullity) (a b : AverageBound) (x : Option (ℤ × ℕ)) → a.null ≡ v → b.null ≡ w → AdmitsAverage a x → AdmitsAverage b x → AdmitsAverage (meet_by v w a b) x
contain_by Always w a b x e f h k = h
contain_by Never Always a b x e f h k = k
contain_by Possibly Always a b x e f h k = k
contain_by Never Never a b None e f h k = λ q. h e
contain_by Never Never a b (Some (s, n)) e f h k =
    let v : Fraction = record { num = s; den = n } in ((λ q. cc), low_of a.lo b.lo v h.1 k.1, high_of a.hi b.hi v h.2 k.2)
contain_by Never Possibly a b None e f h k = λ q. h e
contain_by Never Possibly a b (Some (s, n)) e f h k =
    let v : Fraction = record { num = s; den = n } in ((λ q. cc), low_of a.lo b.lo v h.1 k.1, high_of a.hi b.hi v h.2 k.2)
contain_by Possibly Never a b None e f h k = λ q. k f
contain_by Possibly Never a b (Some (s, n)) e f h k =
    let v : Fraction = record { num = s; den = n } in ((λ q. cc), low_of a.lo b.lo v h.1 k.1, high_of a.hi b.hi v h.2 k.2)
contain_by Possibly Possibly a b None e f h k = λ q. cc
contain_by Possibly Possibly a b (Some (s, n)) e f h k =
    let v : Fraction = record { num = s; den = n } in ((λ q. cc), low_of a.lo b.lo v h.1 k.1, high_of a.hi b.hi v h.2 k.2)

contains : (a b : AverageBound) (x : Option (ℤ × ℕ)) → AdmitsAverage a x → AdmitsAverage b x → AdmitsAverage (meet_of_two a b) x
contains a b x h k = contain_by a.null b.null a b x refl refl h k

-- ---- within each

within_nests : (w : Nullity) (a b : AverageBound) → (w ≢ Never → a.null ≢ Never) → (w ≢ Never → b.null ≢ Never) → a.null ≢ Always → b.null ≢ Always →
    IsNestedAverage a (within w a b) × IsNestedAverage b (within w a b)
within_nests w a b n m f g = (
  record { null = n; full = λ q. f; lo = λ q. (greater-above b.lo a.lo).1; hi = λ q. (lesser-below a.hi b.hi).0 },
  record { null = m; full = λ q. g; lo = λ q. (greater-above b.lo a.lo).0; hi = λ q. (lesser-below a.hi b.hi).1 },
)

self : (a : AverageBound) → a.null ≡ Always → IsNestedAverage a a
self a e = record { null = λ n. n; full = λ n. n; lo = λ n. absurd (n e); hi = λ n. absurd (n e) }

-- no answer lies within a bound that may have none
none_nests : (a b : AverageBound) → b.null ≡ Always → a.null ≢ Never → IsNestedAverage a b
none_nests a b e n = record { null = λ q. n; full = λ q. absurd (q e); lo = λ q. absurd (q e); hi = λ q. absurd (q e) }

not_never : (w : Nullity) → w ≡ Possibly → w ≢ Never
not_never w e f = apart (sym e ∙ f)
  where
    apart : ◌≡◌ {A = Nullity} Possibly Never → ⊥
    apart q = cc

not_always : (v w : Nullity) → w ≡ v → v ≢ Always → w ≢ Always
not_always v w e n f = n (sym e ∙ f)

narrow_by : (v w : Nullity) (a b : AverageBound) (x : Option (ℤ × ℕ)) → a.null ≡ v → b.null ≡ w → AdmitsAverage a x → AdmitsAverage b x →
    IsNestedAverage a (meet_by v w a b) × IsNestedAverage b (meet_by v w a b)
narrow_by Always w a b x e f h k = (self a e, none_nests b a e (λ g. some_first a b x e g h k))
narrow_by Never Always a b x e f h k = absurd (some_first b a x f e k h)
narrow_by Possibly Always a b x e f h k = (none_nests a b f (not_never a.null e), self b f)
narrow_by Never Never a b x e f h k =
    within_nests Never a b (λ n. absurd (n refl)) (λ n. absurd (n refl)) (not_always Never a.null e (λ q. cc)) (not_always Never b.null f (λ q. cc))
narrow_by Never Possibly a b x e f h k =
    within_nests Never a b (λ n. absurd (n refl)) (λ n. absurd (n refl)) (not_always Never a.null e (λ q. cc)) (not_always Possibly b.null f (λ q. cc))
narrow_by Possibly Never a b x e f h k =
    within_nests Never a b (λ n. absurd (n refl)) (λ n. absurd (n refl)) (not_always Possibly a.null e (λ q. cc)) (not_always Never b.null f (λ q. cc))
narrow_by Possibly Possibly a b x e f h k =
    within_nests Possibly a b (λ n. not_never a.null e) (λ n. not_never b.null f) (not_always Possibly a.null e (λ q. cc)) (not_always Possibly b.null f (λ q. cc))

pub narrow : (a b : AverageBound) (x : Option (ℤ × ℕ)) → AdmitsAverage a x → AdmitsAverage b x → IsNestedAverage a (meet_of_two a b) × IsNestedAverage b (meet_of_two a b)
narrow a b x h k = narrow_by a.null b.null a b x refl refl h k

-- ---- nested

-- what lies within two bounds lies within their meet
in_both : (v w : Nullity) (a b c : AverageBound) → a.null ≡ v → b.null ≡ w → IsNestedAverage a c → IsNestedAverage b c → IsNestedAverage (meet_by v w a b) c
in_both Always w a b c e f p q = p
in_both Never Always a b c e f p q = q
in_both Possibly Always a b c e f p q = q
in_both Never Never a b c e f p q = record {
  null = λ n. absurd (p.null n e);
  full = λ n. λ z. cc;
  lo = λ n. low_of a.lo b.lo c.lo (p.lo n) (q.lo n);
  hi = λ n. high_of a.hi b.hi c.hi (p.hi n) (q.hi n);
}
in_both Never Possibly a b c e f p q = record {
  null = λ n. absurd (p.null n e);
  full = λ n. λ z. cc;
  lo = λ n. low_of a.lo b.lo c.lo (p.lo n) (q.lo n);
  hi = λ n. high_of a.hi b.hi c.hi (p.hi n) (q.hi n);
}
in_both Possibly Never a b c e f p q = record {
  null = λ n. absurd (q.null n f);
  full = λ n. λ z. cc;
  lo = λ n. low_of a.lo b.lo c.lo (p.lo n) (q.lo n);
  hi = λ n. high_of a.hi b.hi c.hi (p.hi n) (q.hi n);
}
in_both Possibly Possibly a b c e f p q = record {
  null = λ n. λ z. cc;
  full = λ n. λ z. cc;
  lo = λ n. low_of a.lo b.lo c.lo (p.lo n) (q.lo n);
  hi = λ n. high_of a.hi b.hi c.hi (p.hi n) (q.hi n);
}

nests : (a b new other : AverageBound) (x : Option (ℤ × ℕ)) → AreDivisible (new ∷ other ∷ []) → IsNestedAverage a new → IsNestedAverage b other →
    AdmitsAverage new x → AdmitsAverage other x → IsNestedAverage (meet_of_two a b) (meet_of_two new other)
nests a b new other x d p q h k =
    let both = narrow new other x h k in
    let meet = meet_of_two new other in
    in_both a.null b.null a b meet refl refl (nested-trans a new meet d.0 p both.0) (nested-trans b other meet d.1.0 q both.1)

-- ---- tells

first_low : (a b : Fraction) → IsAtMost b a → greater b a ≡ a
first_low a b h = cond_both _ a b (λ m. m ≡ a) (λ t. refl) (λ f. absurd (omega (arith, ints)))

first_high : (a b : Fraction) → IsAtMost a b → lesser a b ≡ a
first_high a b h = cond_both _ a b (λ m. m ≡ a) (λ t. refl) (λ f. absurd (omega (arith, ints)))

tell_by : (v w : Nullity) (a b : AverageBound) (s : ℤ) (n : ℕ) → a.null ≡ v → b.null ≡ w → TellsAverage a (Some (s, n)) → AdmitsAverage b (Some (s, n)) → TellsAverage (meet_by v w a b) (Some (s, n))
tell_by Always w a b s n e f h k = h
tell_by Never Always a b s n e f h k = absurd (k.0 f)
tell_by Possibly Always a b s n e f h k = absurd (k.0 f)
tell_by Never Never a b s n e f h k =
    (refl, first_low a.lo b.lo (subst (λ z. IsAtMost b.lo z) (sym h.1) k.1) ∙ h.1, first_high a.hi b.hi (subst (λ z. IsAtMost z b.hi) (sym h.2) k.2) ∙ h.2)
tell_by Never Possibly a b s n e f h k =
    (refl, first_low a.lo b.lo (subst (λ z. IsAtMost b.lo z) (sym h.1) k.1) ∙ h.1, first_high a.hi b.hi (subst (λ z. IsAtMost z b.hi) (sym h.2) k.2) ∙ h.2)
tell_by Possibly w a b s n e f h k = absurd (not_never a.null e h.0)

none_by : (v w : Nullity) (a b : AverageBound) → a.null ≡ v → v ≡ Always → (meet_by v w a b).null ≡ Always
none_by Always w a b e f = e
none_by Never w a b e f = absurd (cc)
none_by Possibly w a b e f = absurd (cc)

tells : (a b : AverageBound) (x : Option (ℤ × ℕ)) → TellsAverage a x → AdmitsAverage b x → TellsAverage (meet_of_two a b) x
tells a b None h k = none_by a.null b.null a b refl h
tells a b (Some (s, n)) h k = tell_by a.null b.null a b s n refl refl h k

pub meets_stand : MeetsStand
meets_stand = record { contain = contains; nest = nests; tell = tells; narrow = narrow }
