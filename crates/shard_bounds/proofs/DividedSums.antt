-- The bound of an average from the bounds of the sum and of the number of values.
use Rattle.std.proofs.Common.{◌≡◌, ℕ, max, ℤ, pos, int_le, Bool, true, false, cond, List, [], ◌∷◌, length, map, refl, ap, arith, ◌∙◌, if◌then◌else◌}
use Rattle.std.proofs.lemmas.Int.{ints, clamps}
use Rattle.query_model.specs.declared.bounds.Bound.{Bound}
use Rattle.query_model.specs.declared.bounds.Nullity.TheVariants.{Never, Possibly}
use Rattle.query_model.specs.declared.query.ItemKind.TheVariants.{Count, Sum}
use Rattle.query_model.specs.Bounds.{Pair, certain_count, greatest_sum, least_sum, some_certain, bound_of, average_bound_of}
use Rattle.shard_bounds.specs.Averages.{average_by, average_from, divided, values_at}
use Rattle.shard_bounds.specs.Combined.{combined}
use Rattle.shard_bounds.specs.Laws.{flattened, SumsGiveAverages}
use Rattle.shard_bounds.proofs.Unions.{nothing_is_lost}

by_word : (b : Bool) (sum count : Bound) → average_by (cond b Never Possibly) sum count ≡ divided (cond b Never Possibly) sum count
by_word true sum count = refl
by_word false sum count = refl

moved : (t : Bool) (a b : ℤ) (m n : ℕ) → values_at a ≡ m → values_at b ≡ n → values_at (if t then a else b) ≡ (if t then m else n)
moved true a b m n h k = h
moved false a b m n h k = k

-- with these numbers of values
both : (b : Bool) (low high few many : ℤ) (fewest most : ℕ) → values_at few ≡ fewest → values_at many ≡ most →
    divided (cond b Never Possibly) (record { null = cond b Never Possibly; lo = low; hi = high }) (record { null = Never; lo = few; hi = many })
    ≡ record {
      null = cond b Never Possibly;
      lo = record { num = low; den = if int_le (pos 0) low then most else fewest };
      hi = record { num = high; den = if int_le (pos 0) high then fewest else most };
    }
both b low high few many fewest most h k =
    ap (λ d. record { null = cond b Never Possibly; lo = record { num = low; den = d }; hi = record { num = high; den = values_at (if int_le (pos 0) high then few else many) } })
    (moved (int_le (pos 0) low) many few most fewest k h)
    ∙ ap (λ d. record { null = cond b Never Possibly; lo = record { num = low; den = if int_le (pos 0) low then most else fewest }; hi = record { num = high; den = d } })
    (moved (int_le (pos 0) high) few many fewest most h k)

of_list : (ps : List Pair) → average_from (bound_of Sum ps) (bound_of Count ps) ≡ average_bound_of ps
of_list [] = refl
of_list (p ∷ ps) =
    let all = p ∷ ps in
    let fewest : values_at (pos (certain_count all)) ≡ max (certain_count all) 1 = omega (arith, ints, clamps) in
    let most : values_at (pos (length all)) ≡ length all = omega (arith, ints, clamps) in
    by_word (some_certain all) (bound_of Sum all) (bound_of Count all)
    ∙ both (some_certain all) (least_sum all) (greatest_sum all) (pos (certain_count all)) (pos (length all)) _ _ fewest most

pub sums_give_averages : SumsGiveAverages
sums_give_averages pss h =
    ap (λ sum. average_from sum (combined Count (map (bound_of Count) pss))) (nothing_is_lost Sum pss (λ e. cc) h)
    ∙ ap (average_from (bound_of Sum (flattened pss))) (nothing_is_lost Count pss (λ e. cc) h)
    ∙ of_list (flattened pss)
