-- Bounds of which each may tell the answer.
use Rattle.std.proofs.Common.{◌≡◌, ◌≢◌, ℤ, pos, ◌≤ℤ◌, List, [], ◌∷◌, length, refl, arith, inl, inr, ◌⊎◌, Option, Some, None}
use Rattle.std.specs.Int.{int_max, int_min}
use Rattle.std.proofs.lemmas.Int.{clamps, ints}
use Rattle.query_model.specs.declared.bounds.Bound.{Bound}
use Rattle.query_model.specs.declared.bounds.Nullity.{Nullity}
use Rattle.query_model.specs.declared.bounds.Nullity.TheVariants.{Never, Possibly, Always}
use Rattle.query_model.specs.declared.query.ItemKind.{ItemKind}
use Rattle.query_model.specs.declared.query.ItemKind.TheVariants.{Count, Sum, Min, Max, Avg}
use Rattle.query_model.specs.Answers.{answer}
use Rattle.query_model.specs.Bounds.{Admits}
use Rattle.shard_groups.specs.Groups.{no_rows, uncertain, wider, wider_by}

-- one of the bounds admits it
abbrev pub SomeAdmits : List Bound → Option ℤ → Type 0
SomeAdmits [] a = ⊥
SomeAdmits (b ∷ bs) a = (Admits b a) ⊎ (SomeAdmits bs a)

low_min : (x y : ℤ) → int_min x y ≤ℤ x
low_min x y = omega (arith, ints, clamps)

low_min_right : (x y : ℤ) → int_min x y ≤ℤ y
low_min_right x y = omega (arith, ints, clamps)

high_max : (x y : ℤ) → x ≤ℤ int_max x y
high_max x y = omega (arith, ints, clamps)

high_max_right : (x y : ℤ) → y ≤ℤ int_max x y
high_max_right x y = omega (arith, ints, clamps)

below : (x y z : ℤ) → x ≤ℤ y → y ≤ℤ z → x ≤ℤ z
below x y z p q = omega (arith, ints)

wide_left : (l h m k : ℤ) (v : ℤ) → (l ≤ℤ v) × (v ≤ℤ h) → (int_min l m ≤ℤ v) × (v ≤ℤ int_max h k)
wide_left l h m k v e = (below (int_min l m) l v (low_min l m) e.0, below v h (int_max h k) e.1 (high_max h k))

wide_right : (l h m k : ℤ) (v : ℤ) → (m ≤ℤ v) × (v ≤ℤ k) → (int_min l m ≤ℤ v) × (v ≤ℤ int_max h k)
wide_right l h m k v e = (below (int_min l m) m v (low_min_right l m) e.0, below v k (int_max h k) e.1 (high_max_right h k))

-- a bound that has answers admits what the wider one does
left_by : (w v : Nullity) (l h m k : ℤ) (a : Option ℤ) → v ≢ Never → Admits (record { null = w; lo = l; hi = h }) a →
    Admits (wider_by w v (record { null = w; lo = l; hi = h }) (record { null = v; lo = m; hi = k })) a
left_by Always v l h m k None n p = n
left_by Always v l h m k (Some x) n p = absurd (p.0 refl)
left_by Never Always l h m k None n p = λ e. cc
left_by Never Always l h m k (Some x) n p = ((λ e. cc), p.1, p.2)
left_by Never Never l h m k a n p = absurd (n refl)
left_by Never Possibly l h m k None n p = λ e. cc
left_by Never Possibly l h m k (Some x) n p = (let e = wide_left l h m k x (p.1, p.2) in ((λ q. cc), e.0, e.1))
left_by Possibly Always l h m k None n p = λ e. cc
left_by Possibly Always l h m k (Some x) n p = ((λ e. cc), p.1, p.2)
left_by Possibly Never l h m k a n p = absurd (n refl)
left_by Possibly Possibly l h m k None n p = λ e. cc
left_by Possibly Possibly l h m k (Some x) n p = (let e = wide_left l h m k x (p.1, p.2) in ((λ q. cc), e.0, e.1))

right_by : (w v : Nullity) (l h m k : ℤ) (a : Option ℤ) → v ≢ Never → Admits (record { null = v; lo = m; hi = k }) a →
    Admits (wider_by w v (record { null = w; lo = l; hi = h }) (record { null = v; lo = m; hi = k })) a
right_by Always v l h m k a n p = p
right_by Never Always l h m k None n p = λ e. cc
right_by Never Always l h m k (Some x) n p = absurd (p.0 refl)
right_by Never Never l h m k a n p = absurd (n refl)
right_by Never Possibly l h m k None n p = λ e. cc
right_by Never Possibly l h m k (Some x) n p = (let e = wide_right l h m k x (p.1, p.2) in ((λ q. cc), e.0, e.1))
right_by Possibly Always l h m k None n p = λ e. cc
right_by Possibly Always l h m k (Some x) n p = absurd (p.0 refl)
right_by Possibly Never l h m k a n p = absurd (n refl)
right_by Possibly Possibly l h m k None n p = λ e. cc
right_by Possibly Possibly l h m k (Some x) n p = (let e = wide_right l h m k x (p.1, p.2) in ((λ q. cc), e.0, e.1))

-- what is known of any bound of this kind
abbrev pub IsLoose : ItemKind → Bound → Type 0
IsLoose Count b = (b.null ≡ Never) × (b.lo ≡ pos 0) × (pos 0 ≤ℤ b.hi)
IsLoose Sum b = b.null ≢ Never
IsLoose Min b = b.null ≢ Never
IsLoose Max b = b.null ≢ Never
IsLoose Avg b = b.null ≢ Never

loose_by : (w v : Nullity) (a b : Bound) → b.null ≢ Never → (wider_by w v a b).null ≢ Never
loose_by Always v a b n = n
loose_by Never Always a b n = λ e. cc
loose_by Never Never a b n = λ e. cc
loose_by Never Possibly a b n = λ e. cc
loose_by Possibly Always a b n = λ e. cc
loose_by Possibly Never a b n = λ e. cc
loose_by Possibly Possibly a b n = λ e. cc

loose_more : (kind : ItemKind) (a b : Bound) → IsLoose kind b → IsLoose kind (wider kind a b)
loose_more Count a b n = (refl, n.1, below (pos 0) b.hi (int_max a.hi b.hi) n.2 (high_max_right a.hi b.hi))
loose_more Sum a b n = loose_by a.null b.null a b n
loose_more Min a b n = loose_by a.null b.null a b n
loose_more Max a b n = loose_by a.null b.null a b n
loose_more Avg a b n = loose_by a.null b.null a b n

loose_none : (kind : ItemKind) → IsLoose kind (no_rows kind)
loose_none Count = (refl, refl, omega (arith, ints))
loose_none Sum = λ e. cc
loose_none Min = λ e. cc
loose_none Max = λ e. cc
loose_none Avg = λ e. cc

pub loose : (kind : ItemKind) (bounds : List Bound) → IsLoose kind (uncertain kind bounds)
loose kind [] = loose_none kind
loose kind (b ∷ bounds) = loose_more kind b (uncertain kind bounds) (loose kind bounds)

not_always : (w : Nullity) → w ≡ Never → w ≢ Always
not_always Never e = λ f. cc
not_always Possibly e = absurd (let f : ◌≡◌ {A = Nullity} Possibly Never = e in cc)
not_always Always e = absurd (let f : ◌≡◌ {A = Nullity} Always Never = e in cc)

counted : (values : List ℤ) (lo : ℤ) → lo ≡ pos 0 → lo ≤ℤ pos (length values)
counted values lo e = omega (arith, ints)

admits_left : (kind : ItemKind) (a b : Bound) (values : List ℤ) → IsLoose kind b → Admits a (answer kind values) → Admits (wider kind a b) (answer kind values)
admits_left Count a b values n p = ((λ e. cc), counted values b.lo n.1, below (pos (length values)) a.hi (int_max a.hi b.hi) p.2 (high_max a.hi b.hi))
admits_left Sum a b values n p = left_by a.null b.null a.lo a.hi b.lo b.hi (answer Sum values) n p
admits_left Min a b values n p = left_by a.null b.null a.lo a.hi b.lo b.hi (answer Min values) n p
admits_left Max a b values n p = left_by a.null b.null a.lo a.hi b.lo b.hi (answer Max values) n p
admits_left Avg a b values n p = left_by a.null b.null a.lo a.hi b.lo b.hi (answer Avg values) n p

admits_right : (kind : ItemKind) (a b : Bound) (values : List ℤ) → IsLoose kind b → Admits b (answer kind values) → Admits (wider kind a b) (answer kind values)
admits_right Count a b values n p = ((λ e. cc), p.1, below (pos (length values)) b.hi (int_max a.hi b.hi) p.2 (high_max_right a.hi b.hi))
admits_right Sum a b values n p = right_by a.null b.null a.lo a.hi b.lo b.hi (answer Sum values) n p
admits_right Min a b values n p = right_by a.null b.null a.lo a.hi b.lo b.hi (answer Min values) n p
admits_right Max a b values n p = right_by a.null b.null a.lo a.hi b.lo b.hi (answer Max values) n p
admits_right Avg a b values n p = right_by a.null b.null a.lo a.hi b.lo b.hi (answer Avg values) n p

pub uncertain_admits : (kind : ItemKind) (bounds : List Bound) (values : List ℤ) → SomeAdmits bounds (answer kind values) →
    Admits (uncertain kind bounds) (answer kind values)
uncertain_admits kind [] values some = absurd some
uncertain_admits kind (b ∷ bounds) values (inl p) = admits_left kind b (uncertain kind bounds) values (loose kind bounds) p
uncertain_admits kind (b ∷ bounds) values (inr some) =
    admits_right kind b (uncertain kind bounds) values (loose kind bounds) (uncertain_admits kind bounds values some)

-- and it admits that no row counts
pub admits_none : (kind : ItemKind) (b : Bound) → IsLoose kind b → Admits b (answer kind [])
admits_none Count b n = (not_always b.null n.0, counted [] b.lo n.1, n.2)
admits_none Sum b n = n
admits_none Min b n = n
admits_none Max b n = n
admits_none Avg b n = n
