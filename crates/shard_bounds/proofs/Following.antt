-- The bound of an average that follows from those of the sum and of the number of values.
use Rattle.std.proofs.Common.{◌≡◌, ◌≢◌, ℕ, ◌+◌, ◌-◌, ◌<◌, ◌≤◌, ℤ, pos, ◌*ℤ◌, ◌≤ℤ◌, int_le, List, [], ◌∷◌, length, Some, refl, sym, ap, subst, ◌∙◌, arith, if◌then◌else◌}
use Rattle.std.proofs.lemmas.Bool.{cond_both}
use Rattle.std.proofs.lemmas.Int.{ints, clamps}
use Rattle.query_model.proofs.Integers.{times_pos}
use Rattle.query_model.specs.declared.bounds.Bound.{Bound}
use Rattle.query_model.specs.declared.bounds.Nullity.{Nullity}
use Rattle.query_model.specs.declared.bounds.Nullity.TheVariants.{Never, Possibly, Always}
use Rattle.query_model.specs.declared.query.ItemKind.TheVariants.{Count, Sum}
use Rattle.query_model.specs.Answers.{answer, average, total}
use Rattle.query_model.specs.Bounds.{Admits, AdmitsAverage, IsNested, IsNestedAverage}
use Rattle.shard_bounds.specs.Averages.{average_by, average_from, values_at, TellsAverage}
use Rattle.shard_bounds.specs.Laws.{AveragesFollow, Tells}
use Rattle.shard_bounds.proofs.FractionOrder.{spread}

-- ---- products

-- a number that is not negative, so often or more often
more : (a : ℤ) (m n : ℕ) → pos 0 ≤ℤ a → m ≤ n → (a *ℤ pos m) ≤ℤ (a *ℤ pos n)
more a m n up h =
    let e : n ≡ m + (n - m) = omega (arith, h) in
    let s = ap (λ j. a *ℤ pos j) e ∙ spread a m (n - m) in
    let t = times_pos (pos 0) a (n - m) up in
    let z : pos 0 *ℤ pos (n - m) ≡ pos 0 = omega (arith, ints) in
    omega (arith, ints)

-- and one that is not above 0
less : (a : ℤ) (m n : ℕ) → a ≤ℤ pos 0 → m ≤ n → (a *ℤ pos n) ≤ℤ (a *ℤ pos m)
less a m n down h =
    let e : n ≡ m + (n - m) = omega (arith, h) in
    let s = ap (λ j. a *ℤ pos j) e ∙ spread a m (n - m) in
    let t = times_pos a (pos 0) (n - m) down in
    let z : pos 0 *ℤ pos (n - m) ≡ pos 0 = omega (arith, ints) in
    omega (arith, ints)

chain : (x y z : ℤ) → x ≤ℤ y → y ≤ℤ z → x ≤ℤ z
chain x y z h k = omega (arith, ints)

-- ---- how many values

enough : (end : ℤ) (n : ℕ) → pos n ≤ℤ end → n ≤ values_at end
enough end n h = omega (arith, ints, clamps)

few : (end : ℤ) (n : ℕ) → 0 < n → end ≤ℤ pos n → values_at end ≤ n
few end n some h = omega (arith, ints, clamps)

kept : (low high : ℤ) → low ≤ℤ high → values_at low ≤ values_at high
kept low high h = omega (arith, ints, clamps)

own : (n : ℕ) → 0 < n → values_at (pos n) ≡ n
own n some = omega (arith, ints, clamps)

-- ---- contains: a sum s of n values

low_contains : (a s lo hi : ℤ) (n : ℕ) → 0 < n → a ≤ℤ s → lo ≤ℤ pos n → pos n ≤ℤ hi → (a *ℤ pos n) ≤ℤ (s *ℤ pos (values_at (if int_le (pos 0) a then hi else lo)))
low_contains a s lo hi n some below above up =
    cond_both (int_le (pos 0) a) hi lo (λ e. (a *ℤ pos n) ≤ℤ (s *ℤ pos (values_at e)))
    (λ t. chain _ _ _ (times_pos a s n below) (more s n (values_at hi) (omega (arith, ints)) (enough hi n up)))
    (λ f. chain _ _ _ (less a (values_at lo) n (omega (arith, ints)) (few lo n some above)) (times_pos a s (values_at lo) below))

high_contains : (s c lo hi : ℤ) (n : ℕ) → 0 < n → s ≤ℤ c → lo ≤ℤ pos n → pos n ≤ℤ hi → (s *ℤ pos (values_at (if int_le (pos 0) c then lo else hi))) ≤ℤ (c *ℤ pos n)
high_contains s c lo hi n some below above up =
    cond_both (int_le (pos 0) c) lo hi (λ e. (s *ℤ pos (values_at e)) ≤ℤ (c *ℤ pos n))
    (λ t. chain _ _ _ (times_pos s c (values_at lo) below) (more c (values_at lo) n (omega (arith, ints)) (few lo n some above)))
    (λ f. chain _ _ _ (less s n (values_at hi) (omega (arith, ints)) (enough hi n up)) (times_pos s c n below))

contain_by : (w : Nullity) (sum count : Bound) (s : ℤ) (n : ℕ) → 0 < n → w ≢ Always → sum.lo ≤ℤ s → s ≤ℤ sum.hi → count.lo ≤ℤ pos n → pos n ≤ℤ count.hi →
    AdmitsAverage (average_by w sum count) (Some (s, n))
contain_by Never sum count s n some full low high few enough =
    (full, low_contains sum.lo s count.lo count.hi n some low few enough, high_contains s sum.hi count.lo count.hi n some high few enough)
contain_by Possibly sum count s n some full low high few enough =
    (full, low_contains sum.lo s count.lo count.hi n some low few enough, high_contains s sum.hi count.lo count.hi n some high few enough)
contain_by Always sum count s n some full low high few enough = absurd (full refl)

word_is : (w : Nullity) (sum count : Bound) → (average_by w sum count).null ≡ w
word_is Never sum count = refl
word_is Possibly sum count = refl
word_is Always sum count = refl

contains : (sum count : Bound) (values : List ℤ) → Admits sum (answer Sum values) → Admits count (answer Count values) → AdmitsAverage (average_from sum count) (average values)
contains sum count [] h k = subst (λ w. w ≢ Never) (sym (word_is sum.null sum count)) h
contains sum count (v ∷ vs) h k = contain_by sum.null sum count (total (v ∷ vs)) (length (v ∷ vs)) (omega arith) h.0 h.1 h.2 k.1 k.2

-- ---- nested

low_nests : (a b lo hi lo' hi' : ℤ) → a ≤ℤ b → lo ≤ℤ lo' → hi' ≤ℤ hi →
    (a *ℤ pos (values_at (if int_le (pos 0) b then hi' else lo'))) ≤ℤ (b *ℤ pos (values_at (if int_le (pos 0) a then hi else lo)))
low_nests a b lo hi lo' hi' le up down =
    cond_both (int_le (pos 0) a) hi lo (λ e. (a *ℤ pos (values_at (if int_le (pos 0) b then hi' else lo'))) ≤ℤ (b *ℤ pos (values_at e)))
    (λ t. cond_both (int_le (pos 0) b) hi' lo' (λ e. (a *ℤ pos (values_at e)) ≤ℤ (b *ℤ pos (values_at hi)))
    (λ u. chain _ _ _ (times_pos a b (values_at hi') le) (more b (values_at hi') (values_at hi) (omega (arith, ints)) (kept hi' hi down)))
    (λ g. absurd (omega (arith, ints))))
    (λ f. cond_both (int_le (pos 0) b) hi' lo' (λ e. (a *ℤ pos (values_at e)) ≤ℤ (b *ℤ pos (values_at lo)))
    (λ u. chain _ _ _ (chain _ _ _ (less a 0 (values_at hi') (omega (arith, ints)) (omega arith)) (times_pos a b 0 le)) (more b 0 (values_at lo) (omega (arith, ints)) (omega arith)))
    (λ g. chain _ _ _ (less a (values_at lo) (values_at lo') (omega (arith, ints)) (kept lo lo' up)) (times_pos a b (values_at lo) le)))

high_nests : (b c lo hi lo' hi' : ℤ) → b ≤ℤ c → lo ≤ℤ lo' → hi' ≤ℤ hi →
    (b *ℤ pos (values_at (if int_le (pos 0) c then lo else hi))) ≤ℤ (c *ℤ pos (values_at (if int_le (pos 0) b then lo' else hi')))
high_nests b c lo hi lo' hi' le up down =
    cond_both (int_le (pos 0) b) lo' hi' (λ e. (b *ℤ pos (values_at (if int_le (pos 0) c then lo else hi))) ≤ℤ (c *ℤ pos (values_at e)))
    (λ t. cond_both (int_le (pos 0) c) lo hi (λ e. (b *ℤ pos (values_at e)) ≤ℤ (c *ℤ pos (values_at lo')))
    (λ u. chain _ _ _ (times_pos b c (values_at lo) le) (more c (values_at lo) (values_at lo') (omega (arith, ints)) (kept lo lo' up)))
    (λ g. absurd (omega (arith, ints))))
    (λ f. cond_both (int_le (pos 0) c) lo hi (λ e. (b *ℤ pos (values_at e)) ≤ℤ (c *ℤ pos (values_at hi')))
    (λ u. chain _ _ _ (chain _ _ _ (less b 0 (values_at lo) (omega (arith, ints)) (omega arith)) (times_pos b c 0 le)) (more c 0 (values_at hi') (omega (arith, ints)) (omega arith)))
    (λ g. chain _ _ _ (times_pos b c (values_at hi) le) (less c (values_at hi') (values_at hi) (omega (arith, ints)) (kept hi' hi down))))

module _ (sum count new_sum new_count : Bound) (p : IsNested sum new_sum) (up : count.lo ≤ℤ new_count.lo) (down : new_count.hi ≤ℤ count.hi) where
  lows : new_sum.null ≢ Always → (sum.lo *ℤ pos (values_at (if int_le (pos 0) new_sum.lo then new_count.hi else new_count.lo)))
      ≤ℤ (new_sum.lo *ℤ pos (values_at (if int_le (pos 0) sum.lo then count.hi else count.lo)))
  lows n = low_nests sum.lo new_sum.lo count.lo count.hi new_count.lo new_count.hi (p.lo n) up down

  highs : new_sum.null ≢ Always → (new_sum.hi *ℤ pos (values_at (if int_le (pos 0) sum.hi then count.lo else count.hi)))
      ≤ℤ (sum.hi *ℤ pos (values_at (if int_le (pos 0) new_sum.hi then new_count.lo else new_count.hi)))
  highs n = high_nests new_sum.hi sum.hi count.lo count.hi new_count.lo new_count.hi (p.hi n) up down

  nest_by : (v w : Nullity) → sum.null ≡ v → new_sum.null ≡ w → (w ≢ Never → v ≢ Never) → (w ≢ Always → v ≢ Always) → (w ≢ Always → new_sum.null ≢ Always) →
      IsNestedAverage (average_by v sum count) (average_by w new_sum new_count)
  nest_by Never Never e f null full some = record { null = null; full = full; lo = λ n. lows (some n); hi = λ n. highs (some n) }
  nest_by Never Possibly e f null full some = record { null = null; full = full; lo = λ n. lows (some n); hi = λ n. highs (some n) }
  nest_by Never Always e f null full some = record { null = null; full = full; lo = λ n. absurd (n refl); hi = λ n. absurd (n refl) }
  nest_by Possibly Never e f null full some = record { null = null; full = full; lo = λ n. lows (some n); hi = λ n. highs (some n) }
  nest_by Possibly Possibly e f null full some = record { null = null; full = full; lo = λ n. lows (some n); hi = λ n. highs (some n) }
  nest_by Possibly Always e f null full some = record { null = null; full = full; lo = λ n. absurd (n refl); hi = λ n. absurd (n refl) }
  nest_by Always Never e f null full some = absurd (full (λ q. cc) refl)
  nest_by Always Possibly e f null full some = absurd (full (λ q. cc) refl)
  nest_by Always Always e f null full some = record { null = null; full = full; lo = λ n. absurd (n refl); hi = λ n. absurd (n refl) }

nests : (sum count new_sum new_count : Bound) → IsNested sum new_sum → IsNested count new_count → new_count.null ≢ Always →
    IsNestedAverage (average_from sum count) (average_from new_sum new_count)
nests sum count new_sum new_count p q some =
    nest_by sum count new_sum new_count p (q.lo some) (q.hi some) sum.null new_sum.null refl refl p.null p.full (λ n. n)

-- ---- tells

same_ends : (w : Nullity) (sum count : Bound) (s : ℤ) (n : ℕ) → 0 < n → w ≡ Never → sum.lo ≡ s → sum.hi ≡ s → count.lo ≡ pos n → count.hi ≡ pos n →
    TellsAverage (average_by w sum count) (Some (s, n))
same_ends Never sum count s n some e low high few enough =
    let at : (b : ℤ) → b ≡ pos n → values_at b ≡ n = λ b h. ap values_at h ∙ own n some in (
      refl,
      ap (λ z. record { num = z; den = values_at (if int_le (pos 0) sum.lo then count.hi else count.lo) }) low
          ∙ ap (λ d. record { num = s; den = d }) (cond_both (int_le (pos 0) sum.lo) count.hi count.lo (λ b. values_at b ≡ n) (λ t. at count.hi enough) (λ f. at count.lo few)),
      ap (λ z. record { num = z; den = values_at (if int_le (pos 0) sum.hi then count.lo else count.hi) }) high
          ∙ ap (λ d. record { num = s; den = d }) (cond_both (int_le (pos 0) sum.hi) count.lo count.hi (λ b. values_at b ≡ n) (λ t. at count.lo few) (λ f. at count.hi enough)),
    )
same_ends Possibly sum count s n some e low high few enough = absurd (cc)
same_ends Always sum count s n some e low high few enough = absurd (cc)

tells : (sum count : Bound) (values : List ℤ) → Tells sum (answer Sum values) → Tells count (answer Count values) → TellsAverage (average_from sum count) (average values)
tells sum count [] h k = word_is sum.null sum count ∙ h
tells sum count (v ∷ vs) h k = same_ends sum.null sum count (total (v ∷ vs)) (length (v ∷ vs)) (omega arith) h.0 h.1 h.2 k.1 k.2

pub averages_follow : AveragesFollow
averages_follow = record { contain = contains; nest = nests; tell = tells }
