-- That what a combined report says of an average is certain, where the sum and the number of its values stand beside it.
use Rattle.std.proofs.Common.{◌≡◌, ◌≢◌, ℕ, zero, suc, ◌+◌, ◌<◌, max, ℤ, true, IsTrue, List, [], ◌∷◌, map, slice_get, Bool, false, Option, Some, refl, sym, ap, subst, ◌∙◌, arith}
use Rattle.std.proofs.lemmas.Option.{none-some}
use Rattle.interval_calc.specs.Intervals.{Fraction}
use Rattle.narrow_averages.specs.Beside.{AdmitValues, BesidesStand, average_beside, can_double, is_counted}
use Rattle.narrow_averages.proofs.Besides.{beside_divides}
use Rattle.query_kinds.specs.declared.beside.Beside.{Beside}
use Rattle.query_model.specs.Bounds.{Admits, AdmitsAverage, AverageBound, IsNested, IsNestedAverage}
use Rattle.query_model.specs.declared.bounds.Bound.{Bound}
use Rattle.query_model.specs.declared.query.ItemKind.{ItemKind}
use Rattle.query_model.specs.declared.query.ItemKind.TheVariants.{Count, Sum, Avg}
use Rattle.report_text.specs.declared.answers.Answer.{Answer}
use Rattle.report_text.specs.declared.answers.Answer.TheVariants.{Average}
use Rattle.report_text.specs.declared.averages.ShownAverage.{ShownAverage}
use Rattle.shard_bounds.specs.Averages.{IsDivisible, ReportsAverage, TellsAverage, average_from, combined_average, meet_of_two}
use Rattle.shard_bounds.specs.Combined as shards
use Rattle.shard_bounds.specs.Combined.{together}
use Rattle.shard_bounds.specs.Laws.{AveragesNest, CombinationsContain, CombinationsNest, CombinationsReportAverages, CombinationsTell, Tells}
use Rattle.shard_bounds.proofs.AverageOrders.{same_average, same_fraction}
use Rattle.shard_bounds.proofs.EqualEnds.{combined_divides}
use Rattle.report_parts.proofs.Certain.{all_divisible, averages, divisible}
use Rattle.report_parts.proofs.Headlines.{certain_by, next_reports, printed_first, printed_item, reported, said_in}
use Rattle.report_parts.specs.Beside.{answer_beside, narrowed}
use Rattle.report_parts.specs.Combined.{AreAlike, answer_over, are_alike, average_of, bound_of, decimals_in, entry_over, fraction_of, ratio_of, shared_form, shown_average}
use Rattle.report_parts.specs.Entries.{entry_at}
use Rattle.report_parts.specs.Headline.{AreCertainAverages, AreCertainBeside, CombinedBesidesAreCertain, DoAveragesNest, IsCertainOver}
use Rattle.report_parts.specs.Reports.{entries_over}
use Rattle.report_parts.specs.Rounds.{answers_in, entries_in}
use Rattle.report_parts.specs.Told.{Told}
use Rattle.report_parts.specs.declared.entry.Entry.{Entry}

-- ---- a bound that is shown, and read back

one_at_least : (n : ℕ) → 0 < n → max n 1 ≡ n
one_at_least n h = omega (arith, h)

back : (decimals : ℕ) (f : Fraction) → 0 < f.den → fraction_of (ratio_of decimals f) ≡ f
back decimals f h = same_fraction (fraction_of (ratio_of decimals f)) f refl (one_at_least f.den h)

shown_back : (decimals : ℕ) (bound : AverageBound) → IsDivisible bound → average_of (Average (shown_average decimals bound)) ≡ bound
shown_back decimals bound d =
    same_average (average_of (Average (shown_average decimals bound))) bound refl (back decimals bound.lo d.lo) (back decimals bound.hi d.hi)

-- ---- what is said of the three items

got : (entries : List Entry) (item : ℕ) (entry : Entry) → slice_get entries item ≡ Some entry → entry_at item entries ≡ entry
got [] item entry e = absurd (none-some _ e)
got (first ∷ entries) zero entry e = cc
got (first ∷ entries) (suc item) entry e = got entries item entry e

said_of : (round item : ℕ) (kinds : List ItemKind) (kind : ItemKind) (parts : List Told) → slice_get kinds item ≡ Some kind →
    (entry_at item (entries_over round 0 kinds parts)).answer ≡ answer_over kind (answers_in round item parts)
said_of round item kinds kind parts e =
    ap (λ (entry : Entry). entry.answer)
    (got (entries_over round 0 kinds parts) item (entry_over kind (entries_in round item parts)) (printed_first round item kinds kind parts e))

-- the narrower bound, from what is said of all parts
abbrev beside_bound : ℕ → ℕ → Beside → List Told → AverageBound
beside_bound round item beside parts =
    average_beside (bound_of (answer_over Sum (answers_in round beside.sum parts))) (bound_of (answer_over Count (answers_in round beside.count parts)))
    (average_of (answer_over Avg (answers_in round item parts)))

-- and what the parts' averages give alone
abbrev average_in : ℕ → ℕ → List Told → AverageBound
average_in round item parts = combined_average (map average_of (answers_in round item parts))

-- what is read of the answer over all parts is what the parts' averages give
plain_is : (round item : ℕ) (parts : List Told) → IsDivisible (average_in round item parts) → average_of (answer_over Avg (answers_in round item parts)) ≡ average_in round item parts
plain_is round item parts d = shown_back (decimals_in (shared_form (answers_in round item parts))) (average_in round item parts) d

-- where the sum is written alike, the answer is the narrower bound
pub narrowed_is : (alike : Bool) (sum count : Bound) (shown : ShownAverage) → alike ≡ true → IsDivisible (average_of (Average shown)) →
    average_of (narrowed alike sum count shown) ≡ average_beside sum count (average_of (Average shown))
narrowed_is true sum count shown e d =
    shown_back shown.low.sum.decimals (average_beside sum count (average_of (Average shown))) (beside_divides sum count (average_of (Average shown)) d)
narrowed_is false sum count shown e d = absurd (cc)

answer_is : (round item : ℕ) (beside : Beside) (parts : List Told) →
    AreAlike (answer_over Avg (answers_in round item parts) ∷ answer_over Sum (answers_in round beside.sum parts) ∷ []) →
    average_of (answer_beside (answer_over Sum (answers_in round beside.sum parts)) (answer_over Count (answers_in round beside.count parts)) (answer_over Avg (answers_in round item parts)))
    ≡ beside_bound round item beside parts
answer_is round item beside parts alike =
    narrowed_is (are_alike (answer_over Avg (answers_in round item parts) ∷ answer_over Sum (answers_in round beside.sum parts) ∷ []))
    (bound_of (answer_over Sum (answers_in round beside.sum parts))) (bound_of (answer_over Count (answers_in round beside.count parts)))
    (shown_average (decimals_in (shared_form (answers_in round item parts))) (average_in round item parts)) alike
    (divisible (answer_over Avg (answers_in round item parts)))

-- so it is in the block
said_is : (round item : ℕ) (beside : Beside) (kinds : List ItemKind) (parts : List Told) → slice_get kinds beside.sum ≡ Some Sum → slice_get kinds beside.count ≡ Some Count →
    AreAlike (answer_over Avg (answers_in round item parts) ∷ answer_over Sum (answers_in round beside.sum parts) ∷ []) →
    average_of (said_in (Some beside) round item Avg kinds parts).answer ≡ beside_bound round item beside parts
said_is round item beside kinds parts of_sum of_count alike =
    ap (λ (sum : Answer). average_of (answer_beside sum (entry_at beside.count (entries_over round 0 kinds parts)).answer (answer_over Avg (answers_in round item parts))))
    (said_of round beside.sum kinds Sum parts of_sum)
    ∙ ap (λ (count : Answer). average_of (answer_beside (answer_over Sum (answers_in round beside.sum parts)) count (answer_over Avg (answers_in round item parts))))
    (said_of round beside.count kinds Count parts of_count)
    ∙ answer_is round item beside parts alike

-- ---- it is certain

-- bounds of a sum, of a number of values and of an average in a round and in the next, and those beside them
module _ (stand : BesidesStand) (tables : List (List ℤ)) (sum count new_sum new_count : Bound) (other new_other said new : AverageBound)
    (is : said ≡ average_beside sum count other) (is_new : new ≡ average_beside new_sum new_count new_other) (d : IsDivisible other) (e : IsDivisible new_other)
    (h : AdmitValues sum count other (together tables)) (k : AdmitValues new_sum new_count new_other (together tables)) where
  said_contains : AdmitsAverage said (shards.average_over tables)
  said_contains = subst (λ (b : AverageBound). AdmitsAverage b (shards.average_over tables)) (sym is) (stand.contain sum count other (together tables) d h)

  said_reports : ReportsAverage other (shards.average_over tables) → IsTrue (can_double (meet_of_two (average_from sum count) other).hi) →
      ReportsAverage said (shards.average_over tables)
  said_reports own fits =
      subst (λ (b : AverageBound). ReportsAverage b (shards.average_over tables)) (sym is) (stand.report sum count other (together tables) d h own fits)

  said_nests : IsNested sum new_sum → IsNested count new_count → IsNestedAverage other new_other → IsNestedAverage said new
  said_nests p q r =
      subst (λ (b : AverageBound). IsNestedAverage b new) (sym is)
      (subst (λ (b : AverageBound). IsNestedAverage (average_beside sum count other) b) (sym is_new)
      (stand.nest sum count new_sum new_count other new_other (together tables) (d, (e, tt)) p q r k))

  said_narrow : IsNestedAverage other said
  said_narrow = subst (λ (b : AverageBound). IsNestedAverage other b) (sym is) (stand.narrow sum count other (together tables) d h)

  said_tells : IsTrue (is_counted count) → Tells sum (shards.answer_over Sum tables) → Tells count (shards.answer_over Count tables) →
      TellsAverage said (shards.average_over tables)
  said_tells few p q = subst (λ (b : AverageBound). TellsAverage b (shards.average_over tables)) (sym is) (stand.tell sum count other (together tables) few p q h.other_admits)

pub admit_values : (sum count : Bound) (other : AverageBound) (tables : List (List ℤ)) → Admits sum (shards.answer_over Sum tables) →
    Admits count (shards.answer_over Count tables) → AdmitsAverage other (shards.average_over tables) → AdmitValues sum count other (together tables)
admit_values sum count other tables p q r = record { sum_admits = p; count_admits = q; other_admits = r }

pub no_average_sum : Sum ≢ Avg
no_average_sum e = cc

pub no_average_count : Count ≢ Avg
no_average_count e = cc

module _ (contains : CombinationsContain) (nests : CombinationsNest) (tells : CombinationsTell) (item : ℕ) (beside : Beside) (parts : List Told) (tables : List (List ℤ))
    (kinds : List ItemKind) (h : AreCertainBeside item beside kinds parts tables) where
  sums : (round : ℕ) → IsCertainOver Sum (answers_in round beside.sum parts) (answers_in (round + 1) beside.sum parts) tables
  sums round = certain_by contains nests tells (λ entry. entry.answer) round beside.sum Sum parts tables no_average_sum h.sums

  counts : (round : ℕ) → IsCertainOver Count (answers_in round beside.count parts) (answers_in (round + 1) beside.count parts) tables
  counts round = certain_by contains nests tells (λ entry. entry.answer) round beside.count Count parts tables no_average_count h.counts

-- ---- the average alone

plain_divides : (round item : ℕ) (parts : List Told) → IsDivisible (average_in round item parts)
plain_divides round item parts = combined_divides (map average_of (answers_in round item parts)) (all_divisible (answers_in round item parts))

plain_reports : CombinationsReportAverages → (round item : ℕ) (parts : List Told) (tables : List (List ℤ)) → AreCertainAverages item parts tables →
    ReportsAverage (average_of (answer_over Avg (answers_in round item parts))) (shards.average_over tables)
plain_reports reports round item parts tables own =
    subst (λ (b : AverageBound). ReportsAverage b (shards.average_over tables)) (sym (plain_is round item parts (plain_divides round item parts)))
    (averages reports (answers_in round item parts) tables (reported round item parts tables own))

plain_nests : AveragesNest → (round item : ℕ) (parts : List Told) → DoAveragesNest item parts →
    IsNestedAverage (average_of (answer_over Avg (answers_in round item parts))) (average_of (answer_over Avg (answers_in (round + 1) item parts)))
plain_nests narrow round item parts k =
    subst (λ (b : AverageBound). IsNestedAverage b (average_of (answer_over Avg (answers_in (round + 1) item parts)))) (sym (plain_is round item parts (plain_divides round item parts)))
    (subst (λ (b : AverageBound). IsNestedAverage (average_in round item parts) b) (sym (plain_is (round + 1) item parts (plain_divides (round + 1) item parts)))
    (narrow (map average_of (answers_in round item parts)) (map average_of (answers_in (round + 1) item parts))
    (all_divisible (answers_in round item parts)) (all_divisible (answers_in (round + 1) item parts)) (next_reports round item parts k)))

pub besides_certain : CombinationsContain → CombinationsNest → CombinationsTell → CombinationsReportAverages → AveragesNest → BesidesStand → CombinedBesidesAreCertain
besides_certain contains nests tells reports narrow stand item beside shape parts tables round totals there stands own h =
    let a = sums contains nests tells item beside parts tables shape.kinds h round in
    let b = counts contains nests tells item beside parts tables shape.kinds h round in
    let a' = sums contains nests tells item beside parts tables shape.kinds h (round + 1) in
    let b' = counts contains nests tells item beside parts tables shape.kinds h (round + 1) in
    let is = said_is round item beside shape.kinds parts h.sum_there h.count_there (h.alike round) in
    let is' = said_is (round + 1) item beside shape.kinds parts h.sum_there h.count_there (h.alike (round + 1)) in
    let x = plain_reports reports round item parts tables own in
    let x' = plain_reports reports (round + 1) item parts tables own in
    let sum = bound_of (answer_over Sum (answers_in round beside.sum parts)) in
    let count = bound_of (answer_over Count (answers_in round beside.count parts)) in
    let sum' = bound_of (answer_over Sum (answers_in (round + 1) beside.sum parts)) in
    let count' = bound_of (answer_over Count (answers_in (round + 1) beside.count parts)) in
    let other = average_of (answer_over Avg (answers_in round item parts)) in
    let other' = average_of (answer_over Avg (answers_in (round + 1) item parts)) in
    let said = average_of (said_in (Some beside) round item Avg shape.kinds parts).answer in
    let said' = average_of (said_in (Some beside) (round + 1) item Avg shape.kinds parts).answer in
    let d = divisible (answer_over Avg (answers_in round item parts)) in
    let d' = divisible (answer_over Avg (answers_in (round + 1) item parts)) in
    let k = admit_values sum count other tables a.contains b.contains x.admits in
    let k' = admit_values sum' count' other' tables a'.contains b'.contains x'.admits in
    record {
      entry = said_in (Some beside) round item Avg shape.kinds parts;
      next = said_in (Some beside) (round + 1) item Avg shape.kinds parts;
      printed = printed_item round item shape Avg parts totals there ∙ ap (λ (o : Option Beside). Some (said_in o round item Avg shape.kinds parts)) stands;
      printed_next = printed_item (round + 1) item shape Avg parts totals there ∙ ap (λ (o : Option Beside). Some (said_in o (round + 1) item Avg shape.kinds parts)) stands;
      contains = said_contains stand tables sum count sum' count' other other' said said' is is' d d' k k';
      reports = λ room. said_reports stand tables sum count sum' count' other other' said said' is is' d d' k k' x room;
      nests = λ m. said_nests stand tables sum count sum' count' other other' said said' is is' d d' k k' a.nests b.nests (plain_nests narrow round item parts m);
      narrow = subst (λ (b : AverageBound). IsNestedAverage b said) (plain_is round item parts (plain_divides round item parts))
          (said_narrow stand tables sum count sum' count' other other' said said' is is' d d' k k');
      exact = λ few p q. said_tells stand tables sum count sum' count' other other' said said' is is' d d' k k' few (a.exact p) (b.exact q);
    }
