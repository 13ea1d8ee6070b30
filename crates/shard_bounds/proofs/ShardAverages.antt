-- Averages over shards of a table, each under a knowledge of its own.
use Rattle.std.proofs.Common.{◌≡◌, ◌≢◌, ℕ, ◌<◌, ◌≤◌, max, ℤ, pos, int_le, Bool, true, false, cond, List, [], ◌∷◌, inl, inr, length, map, filter, refl, arith, subst, sym, ap, ◌∙◌, IsTrue, Option, Some, None}
use Rattle.std.proofs.lemmas.Bool.{cases_Bool, cond_both, false≢true, and_parts}
use Rattle.std.proofs.lemmas.Int.{ints}
use Rattle.daq_table.specs.Tables.{Cells}
use Rattle.interval_calc.specs.Intervals.{Fraction}
use Rattle.query_model.specs.declared.bounds.Nullity.{Nullity}
use Rattle.query_model.specs.declared.bounds.Nullity.TheVariants.{Never, Possibly, Always}
use Rattle.query_model.specs.declared.query.ItemKind.TheVariants.{Count, Sum}
use Rattle.query_model.specs.Answers.{average}
use Rattle.query_model.specs.Bounds.{Pair, AdmitsAverage, AverageBound, IsNested, IsNestedAverage, nullity_of, some_certain, certain_count, least_sum, greatest_sum, bound_of, average_bound_of}
use Rattle.query_model.specs.Knowledge.{IsKnowledge, taken}
use Rattle.query_model.specs.Laws.{ArePairs}
use Rattle.query_model.proofs.Averages.{average_bounds_contain, average_bounds_nest}
use Rattle.query_model.proofs.Exact.{words_become_exact, average_bounds_become_exact}
use Rattle.query_model.proofs.Integers.{equal_when}
use Rattle.query_model.proofs.ListBounds.{nullity_of-no_pair}
use Rattle.query_model.proofs.Nesting.{bounds_nest, taken_is_knowledge}
use Rattle.query_model.proofs.Queries.{pairs_ordered, values_chosen}
use Rattle.shard_bounds.specs.Averages.{is_exact, IsDivisible, AreDivisible, ReportsAverage, TellsAverage}
use Rattle.shard_bounds.specs.Laws.{AreAveragesReported, AreAveragesTold, AreNestedReports, IsNestedReport}
use Rattle.shard_bounds.specs.Shards.{Shard, AreAnyKnown, AreCompletions, values_at, values_in, pairs_at, average_reported, IsReadOn, AreReadOn, AreAllRead, ShardsContainAverages, ShardsNestAverages, ShardsBecomeExactAverages}
use Rattle.shard_bounds.proofs.AverageNests.{averages_nest}
use Rattle.shard_bounds.proofs.EqualEnds.{nested-refl}
use Rattle.shard_bounds.proofs.AverageOrders.{same_average}
use Rattle.shard_bounds.proofs.ExactAverages.{combinations_report_averages, combinations_tell_averages}
use Rattle.shard_bounds.proofs.ListAverages.{exact_is_certain, same_divisors, divisor_is, same_number, lists_report_averages}
use Rattle.shard_bounds.proofs.Unions.{lists_give_bounds}

-- ---- a list whose average is told keeps it

few_certain : (ps : List Pair) → certain_count ps ≤ length ps
few_certain [] = omega arith
few_certain (p ∷ ps) =
    let rest = few_certain ps in
    cond_both p.certain (p ∷ filter (λ q. q.certain) ps) (filter (λ q. q.certain) ps) (λ qs. length qs ≤ length (p ∷ ps)) (λ _. omega arith) (λ _. omega arith)

one_certain : (ps : List Pair) → IsTrue (some_certain ps) → 1 ≤ certain_count ps
one_certain [] t = absurd (false≢true t)
one_certain (p ∷ ps) t =
    elim (cases_Bool p.certain) [
      | inl c ↦ rw c (omega arith)
      | inr c ↦ (let t' : IsTrue (some_certain ps) = rw c at t in rw c (one_certain ps t'))
    ]

never_by : (w : Nullity) → (w ≢ Never → ⊥) → w ≡ Never
never_by Never h = refl
never_by Possibly h = absurd (h (λ e. cc))
never_by Always h = absurd (h (λ e. cc))

not_always : (p : Pair) (ps : List Pair) → nullity_of (p ∷ ps) ≢ Always
not_always p ps e = apart (nullity_of-no_pair (p ∷ ps) e)
  where
    apart : p ∷ ps ≡ [] → ⊥
    apart q = cc

kept_by : (ps qs : List Pair) → ArePairs qs → IsNestedAverage (average_bound_of ps) (average_bound_of qs) → IsNested (bound_of Sum ps) (bound_of Sum qs) → IsNested (bound_of Count ps) (bound_of Count qs) →
    IsTrue (is_exact (average_bound_of ps)) → average_bound_of qs ≡ average_bound_of ps
kept_by [] [] o n sums counts t = refl
kept_by [] (q ∷ qs) o n sums counts t = absurd (n.full (not_always q qs) refl)
kept_by (p ∷ ps) [] o n sums counts t =
    let s = exact_is_certain (some_certain (p ∷ ps)) _ t in
    absurd (n.null (λ e. cc) (ap (λ b. cond b Never Possibly) s.0))
kept_by (p ∷ ps) (q ∷ qs) o n sums counts t =
    let old = p ∷ ps in
    let new = q ∷ qs in
    let s = exact_is_certain (some_certain old) _ t in
    let same = and_parts _ _ s.1 in
    let ends : least_sum old ≡ greatest_sum old = equal_when (least_sum old) (greatest_sum old) same.0 in
    let few = max (certain_count old) 1 in
    let divisors = same_number _ _ same.1 in
    let one : few ≡ length old =
    same_divisors (int_le (pos 0) (least_sum old)) few (length old) (divisors ∙ ap (λ z. cond (int_le (pos 0) z) few (length old)) (sym ends)) in
    let never : (average_bound_of old).null ≡ Never = ap (λ b. cond b Never Possibly) s.0 in
    let still : (average_bound_of new).null ≡ Never = never_by (average_bound_of new).null (λ w. n.null w never) in
    let fewest = counts.lo (λ e. cc) in
    let most = counts.hi (λ e. cc) in
    let within = few_certain new in
    let certain = one_certain old s.0 in
    let few' = max (certain_count new) 1 in
    let count : few' ≡ length old = omega (arith, ints) in
    let long : length new ≡ length old = omega (arith, ints) in
    let low = sums.lo (not_always q qs) in
    let high = sums.hi (not_always q qs) in
    let order = (lists_give_bounds Sum new (λ e. cc) o).ends (not_always q qs) in
    let low_is : least_sum new ≡ least_sum old = omega (arith, ints) in
    let high_is : greatest_sum new ≡ greatest_sum old = omega (arith, ints) in
    let make : ℤ → ℕ → Fraction = λ n d. record { num = n; den = d } in
    same_average (average_bound_of new) (average_bound_of old) (still ∙ sym never)
    (ap (λ z. make z (average_bound_of new).lo.den) low_is
    ∙ ap (make (least_sum old)) (divisor_is (int_le (pos 0) (least_sum new)) few' (length new) (length old) count long ∙ sym (divisor_is (int_le (pos 0) (least_sum old)) few (length old) (length old) one refl)))
    (ap (λ z. make z (average_bound_of new).hi.den) high_is
    ∙ ap (make (greatest_sum old)) (divisor_is (int_le (pos 0) (greatest_sum new)) (length new) few' (length old) long count ∙ sym (divisor_is (int_le (pos 0) (greatest_sum old)) (length old) few (length old) refl one)))

-- ---- denominators

divides_by : (b : Bool) (m n : ℕ) → 0 < m → 0 < n → 0 < cond b m n
divides_by true m n h k = h
divides_by false m n h k = k

list_divides : (ps : List Pair) → IsDivisible (average_bound_of ps)
list_divides [] = record { lo = omega arith; hi = omega arith }
list_divides (p ∷ ps) = record {
  lo = divides_by (int_le (pos 0) (least_sum (p ∷ ps))) (length (p ∷ ps)) (max (certain_count (p ∷ ps)) 1) (omega arith) (omega arith);
  hi = divides_by (int_le (pos 0) (greatest_sum (p ∷ ps))) (max (certain_count (p ∷ ps)) 1) (length (p ∷ ps)) (omega arith) (omega arith);
}

all_divide : (shards : List Shard) → AreDivisible (map average_reported shards)
all_divide [] = tt
all_divide (shard ∷ shards) = (list_divides (pairs_at shard), all_divide shards)

-- ---- contains

reports_of : (shards : List Shard) (tables : List Cells) → AreAnyKnown shards → AreCompletions shards tables → AreAveragesReported (map average_reported shards) (values_in shards tables)
reports_of [] [] h c = tt
reports_of [] (cells ∷ more) h c = absurd c
reports_of (shard ∷ shards) [] h c = absurd c
reports_of (shard ∷ shards) (cells ∷ more) h c =
    let give = values_chosen shard.query shard.item shard.key shard.frame shard.known cells h.0 c.0 in (
      subst (λ values. ReportsAverage (average_reported shard) (average values)) give.2
          (lists_report_averages (pairs_at shard) give.0 (pairs_ordered shard.query shard.item shard.key shard.frame shard.known h.0) give.1),
      reports_of shards more h.1 c.1,
    )

pub shards_contain_averages : ShardsContainAverages
shards_contain_averages shards tables h c = (combinations_report_averages (map average_reported shards) (values_in shards tables) (all_divide shards) (reports_of shards tables h c)).admits

-- ---- nested

stays : (old new : Shard) → IsKnowledge old.frame old.known → IsReadOn old new → IsNestedReport (average_reported old) (average_reported new)
stays old new h (inl same) =
    subst (λ s. IsNestedReport (average_reported old) (average_reported s)) (sym same) (record { nested = nested-refl (average_reported old); kept = λ t. refl })
stays old new h (inr (c, bits, can, is)) =
    let item = old.item in
    let nested = average_bounds_nest old.query item old.key old.frame old.known c bits h can in
    let sums = bounds_nest old.query (record item { kind = Sum }) old.key old.frame old.known c bits (λ e. cc) h can in
    let counts = bounds_nest old.query (record item { kind = Count }) old.key old.frame old.known c bits (λ e. cc) h can in
    let later : Shard = record old { known = taken old.known c bits } in
    subst (λ s. IsNestedReport (average_reported old) (average_reported s)) (sym is)
    (record {
      nested = nested;
      kept = kept_by (pairs_at old) (pairs_at later)
          (pairs_ordered old.query item old.key old.frame (taken old.known c bits) (taken_is_knowledge old.frame old.known c bits h can)) nested sums counts;
    })

all_stay : (olds news : List Shard) → AreAnyKnown olds → AreReadOn olds news → AreNestedReports (map average_reported olds) (map average_reported news)
all_stay [] [] h r = tt
all_stay [] (new ∷ news) h r = r
all_stay (old ∷ olds) [] h r = r
all_stay (old ∷ olds) (new ∷ news) h r = (stays old new h.0 r.0, all_stay olds news h.1 r.1)

pub shards_nest_averages : ShardsNestAverages
shards_nest_averages olds news h r = averages_nest (map average_reported olds) (map average_reported news) (all_divide olds) (all_divide news) (all_stay olds news h r)

-- ---- exact

word_of_average : (ps : List Pair) → (average_bound_of ps).null ≡ nullity_of ps
word_of_average [] = refl
word_of_average (p ∷ ps) = refl

tells_by_word : (bound : AverageBound) (a : Option (ℤ × ℕ)) (w : Nullity) → bound.null ≡ w → w ≢ Possibly → AdmitsAverage bound a →
    (bound.null ≢ Always → (a ≡ Some (bound.lo.num, bound.lo.den)) × (a ≡ Some (bound.hi.num, bound.hi.den))) → TellsAverage bound a
tells_by_word bound a Possibly e d h is = absurd (d refl)
tells_by_word bound a Never e d h is =
    let ends = is (λ f. apart (sym e ∙ f)) in
    let one : bound.hi ≡ bound.lo = ap (λ (p : ℤ × ℕ). record { num = p.0; den = p.1 }) (some_same (bound.hi.num, bound.hi.den) (bound.lo.num, bound.lo.den) (sym ends.1 ∙ ends.0)) in
    subst (TellsAverage bound) (sym ends.0) (e, refl, one)
  where
    apart : ◌≡◌ {A = Nullity} Never Always → ⊥
    apart q = cc

    some_same : (x y : ℤ × ℕ) → ◌≡◌ {A = Option (ℤ × ℕ)} (Some x) (Some y) → x ≡ y
    some_same x y q = cc
tells_by_word bound None Always e d h is = e
tells_by_word bound (Some v) Always e d h is = absurd (h.0 e)

all_told : (shards : List Shard) (tables : List Cells) → AreAnyKnown shards → AreAllRead shards → AreCompletions shards tables → AreAveragesTold (map average_reported shards) (values_in shards tables)
all_told [] [] h all c = tt
all_told [] (cells ∷ more) h all c = absurd c
all_told (shard ∷ shards) [] h all c = absurd c
all_told (shard ∷ shards) (cells ∷ more) h all c = (
  tells_by_word (average_reported shard) (average (values_at shard cells)) (average_reported shard).null refl
      (λ e. words_become_exact shard.query shard.item shard.key shard.frame shard.known h.0 all.0 (sym (word_of_average (pairs_at shard)) ∙ e))
      (average_bounds_contain shard.query shard.item shard.key shard.frame shard.known cells h.0 c.0)
      (average_bounds_become_exact shard.query shard.item shard.key shard.frame shard.known cells h.0 all.0 c.0),
  all_told shards more h.1 all.1 c.1,
)

pub shards_become_exact_averages : ShardsBecomeExactAverages
shards_become_exact_averages shards tables h all c = combinations_tell_averages (map average_reported shards) (values_in shards tables) (all_told shards tables h all c)
