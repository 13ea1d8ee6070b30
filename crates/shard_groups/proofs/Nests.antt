-- Later reports give narrower lines and bounds.
use Rattle.std.proofs.Common.{◌≡◌, ◌≢◌, ℤ, pos, ◌≤ℤ◌, List, [], ◌∷◌, refl, arith, subst, inl, inr, ◌⊎◌}
use Rattle.std.specs.Int.{int_max, int_min}
use Rattle.std.proofs.lemmas.Int.{clamps, ints}
use Rattle.query_model.specs.declared.bounds.Bound.{Bound}
use Rattle.query_model.specs.declared.bounds.Nullity.{Nullity}
use Rattle.query_model.specs.declared.bounds.Nullity.TheVariants.{Never, Possibly, Always}
use Rattle.query_model.specs.declared.query.ItemKind.{ItemKind}
use Rattle.query_model.specs.declared.query.ItemKind.TheVariants.{Count, Sum, Min, Max, Avg}
use Rattle.query_model.specs.Bounds.{IsNested}
use Rattle.shard_bounds.specs.Combined.{IsBoundOf}
use Rattle.shard_groups.specs.Groups.{no_rows, uncertain, wider, wider_by}
use Rattle.shard_groups.specs.Laws.{IsCellBound, IsUncertain}
use Rattle.shard_groups.proofs.Uncertain.{IsLoose, loose}

-- ---- bounds

low_under : (l m v : ℤ) → l ≤ℤ v → int_min l m ≤ℤ v
low_under l m v p = omega (arith, ints, clamps, p)

low_under_right : (l m v : ℤ) → m ≤ℤ v → int_min l m ≤ℤ v
low_under_right l m v p = omega (arith, ints, clamps, p)

high_over : (h k v : ℤ) → v ≤ℤ h → v ≤ℤ int_max h k
high_over h k v p = omega (arith, ints, clamps, p)

high_over_right : (h k v : ℤ) → v ≤ℤ k → v ≤ℤ int_max h k
high_over_right h k v p = omega (arith, ints, clamps, p)

-- both ends of two bounds lie within those of a third
low_both : (l x y : ℤ) → l ≤ℤ x → l ≤ℤ y → l ≤ℤ int_min x y
low_both l x y p q = omega (arith, ints, clamps, p, q)

high_both : (h x y : ℤ) → x ≤ℤ h → y ≤ℤ h → int_max x y ≤ℤ h
high_both h x y p q = omega (arith, ints, clamps, p, q)

-- what lies within a bound lies within the wider one
left_by : (w v : Nullity) (l h m k : ℤ) (q : Bound) → v ≢ Never → IsNested (record { null = w; lo = l; hi = h }) q →
    IsNested (wider_by w v (record { null = w; lo = l; hi = h }) (record { null = v; lo = m; hi = k })) q
left_by Always v l h m k q n p = record {
  null = λ t. n;
  full = λ t. absurd (p.full t refl);
  lo = λ t. absurd (p.full t refl);
  hi = λ t. absurd (p.full t refl);
}
left_by Never Always l h m k q n p = record { null = λ t e. cc; full = λ t e. cc; lo = p.lo; hi = p.hi }
left_by Never Never l h m k q n p = absurd (n refl)
left_by Never Possibly l h m k q n p = record {
  null = λ t e. cc;
  full = λ t e. cc;
  lo = λ t. low_under l m q.lo (p.lo t);
  hi = λ t. high_over h k q.hi (p.hi t);
}
left_by Possibly Always l h m k q n p = record { null = λ t e. cc; full = λ t e. cc; lo = p.lo; hi = p.hi }
left_by Possibly Never l h m k q n p = absurd (n refl)
left_by Possibly Possibly l h m k q n p = record {
  null = λ t e. cc;
  full = λ t e. cc;
  lo = λ t. low_under l m q.lo (p.lo t);
  hi = λ t. high_over h k q.hi (p.hi t);
}

right_by : (w v : Nullity) (l h m k : ℤ) (q : Bound) → v ≢ Never → IsNested (record { null = v; lo = m; hi = k }) q →
    IsNested (wider_by w v (record { null = w; lo = l; hi = h }) (record { null = v; lo = m; hi = k })) q
right_by Always v l h m k q n p = p
right_by Never Always l h m k q n p = record {
  null = λ t e. cc;
  full = λ t. absurd (p.full t refl);
  lo = λ t. absurd (p.full t refl);
  hi = λ t. absurd (p.full t refl);
}
right_by Never Never l h m k q n p = absurd (n refl)
right_by Never Possibly l h m k q n p = record {
  null = λ t e. cc;
  full = λ t e. cc;
  lo = λ t. low_under_right l m q.lo (p.lo t);
  hi = λ t. high_over_right h k q.hi (p.hi t);
}
right_by Possibly Always l h m k q n p = record {
  null = λ t e. cc;
  full = λ t. absurd (p.full t refl);
  lo = λ t. absurd (p.full t refl);
  hi = λ t. absurd (p.full t refl);
}
right_by Possibly Never l h m k q n p = absurd (n refl)
right_by Possibly Possibly l h m k q n p = record {
  null = λ t e. cc;
  full = λ t e. cc;
  lo = λ t. low_under_right l m q.lo (p.lo t);
  hi = λ t. high_over_right h k q.hi (p.hi t);
}

-- two bounds that lie within one that is uncertain
both_by : (w v : Nullity) (b : Bound) (l h m k : ℤ) → b.null ≢ Never → IsNested b (record { null = w; lo = l; hi = h }) →
    IsNested b (record { null = v; lo = m; hi = k }) →
    IsNested b (wider_by w v (record { null = w; lo = l; hi = h }) (record { null = v; lo = m; hi = k }))
both_by Always v b l h m k n p q = q
both_by Never Always b l h m k n p q = record { null = λ t. n; full = λ t. p.full (λ e. cc); lo = λ t. p.lo (λ e. cc); hi = λ t. p.hi (λ e. cc) }
both_by Possibly Always b l h m k n p q = record { null = λ t. n; full = λ t. p.full (λ e. cc); lo = λ t. p.lo (λ e. cc); hi = λ t. p.hi (λ e. cc) }
both_by Never Never b l h m k n p q = record {
  null = λ t. n;
  full = λ t. p.full (λ e. cc);
  lo = λ t. low_both b.lo l m (p.lo (λ e. cc)) (q.lo (λ e. cc));
  hi = λ t. high_both b.hi h k (p.hi (λ e. cc)) (q.hi (λ e. cc));
}
both_by Never Possibly b l h m k n p q = record {
  null = λ t. n;
  full = λ t. p.full (λ e. cc);
  lo = λ t. low_both b.lo l m (p.lo (λ e. cc)) (q.lo (λ e. cc));
  hi = λ t. high_both b.hi h k (p.hi (λ e. cc)) (q.hi (λ e. cc));
}
both_by Possibly Never b l h m k n p q = record {
  null = λ t. n;
  full = λ t. p.full (λ e. cc);
  lo = λ t. low_both b.lo l m (p.lo (λ e. cc)) (q.lo (λ e. cc));
  hi = λ t. high_both b.hi h k (p.hi (λ e. cc)) (q.hi (λ e. cc));
}
both_by Possibly Possibly b l h m k n p q = record {
  null = λ t. n;
  full = λ t. p.full (λ e. cc);
  lo = λ t. low_both b.lo l m (p.lo (λ e. cc)) (q.lo (λ e. cc));
  hi = λ t. high_both b.hi h k (p.hi (λ e. cc)) (q.hi (λ e. cc));
}

pub not_always : (w : Nullity) → w ≡ Never → w ≢ Always
not_always Never e = λ f. cc
not_always Possibly e = absurd (let f : ◌≡◌ {A = Nullity} Possibly Never = e in cc)
not_always Always e = absurd (let f : ◌≡◌ {A = Nullity} Always Never = e in cc)

pub counts_full : (b : Bound) → IsCellBound Count b → b.null ≢ Always
counts_full b is = not_always b.null (is.is_bound.count refl)

from_zero : (lo v : ℤ) → lo ≡ pos 0 → pos 0 ≤ℤ v → lo ≤ℤ v
from_zero lo v e p = omega (arith, ints, e, p)

within_left : (kind : ItemKind) (a b q : Bound) → IsLoose kind b → IsCellBound kind q → IsNested a q → IsNested (wider kind a b) q
within_left Count a b q n is p = record {
  null = λ t. absurd (t (is.is_bound.count refl));
  full = λ t e. cc;
  lo = λ t. from_zero b.lo q.lo n.1 (is.counts refl);
  hi = λ t. high_over a.hi b.hi q.hi (p.hi t);
}
within_left Sum a b q n is p = left_by a.null b.null a.lo a.hi b.lo b.hi q n p
within_left Min a b q n is p = left_by a.null b.null a.lo a.hi b.lo b.hi q n p
within_left Max a b q n is p = left_by a.null b.null a.lo a.hi b.lo b.hi q n p
within_left Avg a b q n is p = left_by a.null b.null a.lo a.hi b.lo b.hi q n p

within_right : (kind : ItemKind) (a b q : Bound) → IsLoose kind b → IsCellBound kind q → IsNested b q → IsNested (wider kind a b) q
within_right Count a b q n is p = record {
  null = λ t. absurd (t (is.is_bound.count refl));
  full = λ t e. cc;
  lo = λ t. from_zero b.lo q.lo n.1 (is.counts refl);
  hi = λ t. high_over_right a.hi b.hi q.hi (p.hi t);
}
within_right Sum a b q n is p = right_by a.null b.null a.lo a.hi b.lo b.hi q n p
within_right Min a b q n is p = right_by a.null b.null a.lo a.hi b.lo b.hi q n p
within_right Max a b q n is p = right_by a.null b.null a.lo a.hi b.lo b.hi q n p
within_right Avg a b q n is p = right_by a.null b.null a.lo a.hi b.lo b.hi q n p

-- one of the bounds has it within
abbrev pub SomeNests : List Bound → Bound → Type 0
SomeNests [] q = ⊥
SomeNests (b ∷ bounds) q = IsNested b q ⊎ SomeNests bounds q

pub uncertain_nests : (kind : ItemKind) (bounds : List Bound) (q : Bound) → IsCellBound kind q → SomeNests bounds q → IsNested (uncertain kind bounds) q
uncertain_nests kind [] q is some = absurd some
uncertain_nests kind (b ∷ bounds) q is (inl p) = within_left kind b (uncertain kind bounds) q (loose kind bounds) is p
uncertain_nests kind (b ∷ bounds) q is (inr some) =
    within_right kind b (uncertain kind bounds) q (loose kind bounds) is (uncertain_nests kind bounds q is some)

-- ---- what lies within a bound that is uncertain

abbrev pub AllNested : ItemKind → Bound → List Bound → Type 0
AllNested kind b [] = Unit {0}
AllNested kind b (q ∷ bounds) = (IsCellBound kind q × IsNested b q) × AllNested kind b bounds

-- what is known of the bound
pub record IsOpen (kind : ItemKind) (b : Bound) : Type 0 where
  pub uncertain : IsUncertain kind b
  pub count : kind ≡ Count → (b.null ≢ Always) × (pos 0 ≤ℤ b.hi)

none_nested : (kind : ItemKind) (b : Bound) → IsOpen kind b → IsNested b (no_rows kind)
none_nested Count b is = record {
  null = λ t. absurd (t refl);
  full = λ t. (is.count refl).0;
  lo = λ t. from_zero b.lo (pos 0) is.uncertain (omega (arith, ints));
  hi = λ t. (is.count refl).1;
}
none_nested Sum b is = record { null = λ t. is.uncertain; full = λ t. absurd (t refl); lo = λ t. absurd (t refl); hi = λ t. absurd (t refl) }
none_nested Min b is = record { null = λ t. is.uncertain; full = λ t. absurd (t refl); lo = λ t. absurd (t refl); hi = λ t. absurd (t refl) }
none_nested Max b is = record { null = λ t. is.uncertain; full = λ t. absurd (t refl); lo = λ t. absurd (t refl); hi = λ t. absurd (t refl) }
none_nested Avg b is = record { null = λ t. is.uncertain; full = λ t. absurd (t refl); lo = λ t. absurd (t refl); hi = λ t. absurd (t refl) }

both_nested : (kind : ItemKind) (b a r : Bound) → IsOpen kind b → IsLoose kind r → IsCellBound kind a → IsNested b a → IsNested b r → IsNested b (wider kind a r)
both_nested Count b a r is n own p q = record {
  null = λ t. absurd (t refl);
  full = λ t. (is.count refl).0;
  lo = λ t. q.lo (not_always r.null n.0);
  hi = λ t. high_both b.hi a.hi r.hi (p.hi (counts_full a own)) (q.hi (not_always r.null n.0));
}
both_nested Sum b a r is n own p q = both_by a.null r.null b a.lo a.hi r.lo r.hi is.uncertain p q
both_nested Min b a r is n own p q = both_by a.null r.null b a.lo a.hi r.lo r.hi is.uncertain p q
both_nested Max b a r is n own p q = both_by a.null r.null b a.lo a.hi r.lo r.hi is.uncertain p q
both_nested Avg b a r is n own p q = both_by a.null r.null b a.lo a.hi r.lo r.hi is.uncertain p q

pub nests_uncertain : (kind : ItemKind) (b : Bound) (bounds : List Bound) → IsOpen kind b → AllNested kind b bounds → IsNested b (uncertain kind bounds)
nests_uncertain kind b [] is all = none_nested kind b is
nests_uncertain kind b (q ∷ bounds) is all =
    both_nested kind b q (uncertain kind bounds) is (loose kind bounds) all.0.0 all.0.1 (nests_uncertain kind b bounds is all.1)

-- the uncertain bound is open itself
open_loose : (kind : ItemKind) (b : Bound) → IsLoose kind b → IsOpen kind b
open_loose Count b n = record { uncertain = n.1; count = λ e. (not_always b.null n.0, n.2) }
open_loose Sum b n = record { uncertain = n; count = λ e. absurd (let f : ◌≡◌ {A = ItemKind} Sum Count = e in cc) }
open_loose Min b n = record { uncertain = n; count = λ e. absurd (let f : ◌≡◌ {A = ItemKind} Min Count = e in cc) }
open_loose Max b n = record { uncertain = n; count = λ e. absurd (let f : ◌≡◌ {A = ItemKind} Max Count = e in cc) }
open_loose Avg b n = record { uncertain = n; count = λ e. absurd (let f : ◌≡◌ {A = ItemKind} Avg Count = e in cc) }

pub uncertain_open : (kind : ItemKind) (bounds : List Bound) → IsOpen kind (uncertain kind bounds)
uncertain_open kind bounds = open_loose kind (uncertain kind bounds) (loose kind bounds)

-- a cell's bound that is uncertain is open
pub open_cell : (kind : ItemKind) (b : Bound) → IsCellBound kind b → IsUncertain kind b → IsOpen kind b
open_cell Count b is u = record {
  uncertain = u;
  count = λ e. (counts_full b is, let o = is.is_bound.ends (counts_full b is) in subst (λ (z : ℤ). z ≤ℤ b.hi) u o);
}
open_cell Sum b is u = record { uncertain = u; count = λ e. absurd (let f : ◌≡◌ {A = ItemKind} Sum Count = e in cc) }
open_cell Min b is u = record { uncertain = u; count = λ e. absurd (let f : ◌≡◌ {A = ItemKind} Min Count = e in cc) }
open_cell Max b is u = record { uncertain = u; count = λ e. absurd (let f : ◌≡◌ {A = ItemKind} Max Count = e in cc) }
open_cell Avg b is u = record { uncertain = u; count = λ e. absurd (let f : ◌≡◌ {A = ItemKind} Avg Count = e in cc) }

-- ---- uncertain bounds are bounds as a report gives them

record IsOrdered (b : Bound) : Type 0 where
  pub ends : b.null ≢ Always → b.lo ≤ℤ b.hi
  pub none : b.null ≡ Always → (b.lo ≡ pos 0) × (b.hi ≡ pos 0)

wide_ends : (l h m k : ℤ) → l ≤ℤ h → int_min l m ≤ℤ int_max h k
wide_ends l h m k p = omega (arith, ints, clamps, p)

ordered_by : (w v : Nullity) (l h m k : ℤ) → (w ≢ Always → l ≤ℤ h) → IsOrdered (record { null = v; lo = m; hi = k }) →
    IsOrdered (wider_by w v (record { null = w; lo = l; hi = h }) (record { null = v; lo = m; hi = k }))
ordered_by Always v l h m k p o = o
ordered_by Never Always l h m k p o = record { ends = λ t. p (λ e. cc); none = λ e. absurd (let f : ◌≡◌ {A = Nullity} Possibly Always = e in cc) }
ordered_by Possibly Always l h m k p o = record { ends = λ t. p (λ e. cc); none = λ e. absurd (let f : ◌≡◌ {A = Nullity} Possibly Always = e in cc) }
ordered_by Never Never l h m k p o =
    record { ends = λ t. wide_ends l h m k (p (λ e. cc)); none = λ e. absurd (let f : ◌≡◌ {A = Nullity} Possibly Always = e in cc) }
ordered_by Never Possibly l h m k p o =
    record { ends = λ t. wide_ends l h m k (p (λ e. cc)); none = λ e. absurd (let f : ◌≡◌ {A = Nullity} Possibly Always = e in cc) }
ordered_by Possibly Never l h m k p o =
    record { ends = λ t. wide_ends l h m k (p (λ e. cc)); none = λ e. absurd (let f : ◌≡◌ {A = Nullity} Possibly Always = e in cc) }
ordered_by Possibly Possibly l h m k p o =
    record { ends = λ t. wide_ends l h m k (p (λ e. cc)); none = λ e. absurd (let f : ◌≡◌ {A = Nullity} Possibly Always = e in cc) }

bound_from : (kind : ItemKind) (b : Bound) → (kind ≡ Count → ⊥) → IsOrdered b → IsBoundOf kind b
bound_from kind b other o = record { ends = o.ends; none = o.none; count = λ e. absurd (other e) }

ordered_from : (kind : ItemKind) (b : Bound) → IsBoundOf kind b → IsOrdered b
ordered_from kind b is = record { ends = is.ends; none = is.none }

zero_ends : (b : ℤ) → pos 0 ≤ℤ b → (l : ℤ) → l ≡ pos 0 → l ≤ℤ b
zero_ends b p l e = omega (arith, ints, p, e)

wider_is : (kind : ItemKind) (a b : Bound) → IsLoose kind b → IsBoundOf kind a → IsBoundOf kind b → IsBoundOf kind (wider kind a b)
wider_is Count a b n is own = record {
  ends = λ t. high_over_right a.hi b.hi b.lo (zero_ends b.hi n.2 b.lo n.1);
  none = λ e. absurd (let f : ◌≡◌ {A = Nullity} Never Always = e in cc);
  count = λ e. refl;
}
wider_is Sum a b n is own =
    bound_from Sum (wider Sum a b) (λ e. let f : ◌≡◌ {A = ItemKind} Sum Count = e in cc) (ordered_by a.null b.null a.lo a.hi b.lo b.hi is.ends (ordered_from Sum b own))
wider_is Min a b n is own =
    bound_from Min (wider Min a b) (λ e. let f : ◌≡◌ {A = ItemKind} Min Count = e in cc) (ordered_by a.null b.null a.lo a.hi b.lo b.hi is.ends (ordered_from Min b own))
wider_is Max a b n is own =
    bound_from Max (wider Max a b) (λ e. let f : ◌≡◌ {A = ItemKind} Max Count = e in cc) (ordered_by a.null b.null a.lo a.hi b.lo b.hi is.ends (ordered_from Max b own))
wider_is Avg a b n is own =
    bound_from Avg (wider Avg a b) (λ e. let f : ◌≡◌ {A = ItemKind} Avg Count = e in cc) (ordered_by a.null b.null a.lo a.hi b.lo b.hi is.ends (ordered_from Avg b own))

nothing_is : (kind : ItemKind) → (kind ≡ Count → ⊥) → IsBoundOf kind (record { null = Always; lo = pos 0; hi = pos 0 })
nothing_is kind other = record { ends = λ t. absurd (t refl); none = λ e. (refl, refl); count = λ e. absurd (other e) }

no_rows_is : (kind : ItemKind) → IsBoundOf kind (no_rows kind)
no_rows_is Count = record { ends = λ t. omega (arith, ints); none = λ e. (refl, refl); count = λ e. refl }
no_rows_is Sum = nothing_is Sum (λ e. let f : ◌≡◌ {A = ItemKind} Sum Count = e in cc)
no_rows_is Min = nothing_is Min (λ e. let f : ◌≡◌ {A = ItemKind} Min Count = e in cc)
no_rows_is Max = nothing_is Max (λ e. let f : ◌≡◌ {A = ItemKind} Max Count = e in cc)
no_rows_is Avg = nothing_is Avg (λ e. let f : ◌≡◌ {A = ItemKind} Avg Count = e in cc)

abbrev pub AllBounds : ItemKind → List Bound → Type 0
AllBounds kind [] = Unit {0}
AllBounds kind (b ∷ bounds) = IsCellBound kind b × AllBounds kind bounds

pub uncertain_is : (kind : ItemKind) (bounds : List Bound) → AllBounds kind bounds → IsBoundOf kind (uncertain kind bounds)
uncertain_is kind [] all = no_rows_is kind
uncertain_is kind (b ∷ bounds) all = wider_is kind b (uncertain kind bounds) (loose kind bounds) all.0.is_bound (uncertain_is kind bounds all.1)
