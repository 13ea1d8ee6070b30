-- One digit more: the rows at a place are parted, and counted.
use Rattle.std.proofs.Common.{◌≡◌, ℕ, ◌+◌, ◌-◌, ◌*◌, ◌<◌, ◌≤◌, Bool, true, false, cond, not, ◌&&◌, ◌||◌, nat_eq, nat_lt, List, length, count_by, refl, sym, ap, subst, ◌∙◌, arith}
use Rattle.std.proofs.lemmas.Bool.Decides.{nat_tests}
use Rattle.plane_kernels.specs.Rows.{kept_rows}
use Rattle.topk_bounds.specs.declared.cut.Cut.{Cut}
use Rattle.topk_bounds.specs.declared.cut.Share.{Share}
use Rattle.topk_bounds.specs.Standings.{count_rows, is_in}
use Rattle.topk_bounds.specs.Cuts.{Begins, HaveRows, IsCut, KeepsFirsts, PassesFirsts, is_later, next_place}
use Rattle.topk_bounds.proofs.Counting.{count_mask, count_none, count_parts, count_same, one_if}
use Rattle.std.specs.Simd.Lanes.{zip2}
use Rattle.std.proofs.lemmas.Simd.{length-zip2}
use Rattle.topk_bounds.proofs.Marks.{in_both, in_kept, kept_length, kept_parts}

-- ---- places by one digit more

next_eq : (p t : ℕ) (l m : Bool) → nat_eq (2 * p + one_if l) (2 * t + one_if m) ≡ (nat_eq p t && cond m l (not l))
next_eq p t true true = grind (arith, nat_tests)
next_eq p t true false = grind (arith, nat_tests)
next_eq p t false true = grind (arith, nat_tests)
next_eq p t false false = grind (arith, nat_tests)

next_lt : (p t : ℕ) (l m : Bool) → nat_lt (2 * p + one_if l) (2 * t + one_if m) ≡ (nat_lt p t || (nat_eq p t && (m && not l)))
next_lt p t true true = grind (arith, nat_tests)
next_lt p t true false = grind (arith, nat_tests)
next_lt p t false true = grind (arith, nat_tests)
next_lt p t false false = grind (arith, nat_tests)

-- ---- digits

same_digit : (first digit b : Bool) → cond (is_later first digit) (is_later first b) (not (is_later first b)) ≡ cond digit b (not b)
same_digit true true true = refl
same_digit true true false = refl
same_digit true false true = refl
same_digit true false false = refl
same_digit false true true = refl
same_digit false true false = refl
same_digit false false true = refl
same_digit false false false = refl

first_stays : (first b : Bool) → (is_later first first && not (is_later first b)) ≡ false
first_stays true b = refl
first_stays false b = refl

later_moves : (first b : Bool) → (is_later first (not first) && not (is_later first b)) ≡ cond first b (not b)
later_moves true true = refl
later_moves true false = refl
later_moves false true = refl
later_moves false false = refl

grouped : (a b c : Bool) → ((a && b) && c) ≡ (a && (b && c))
grouped true b c = refl
grouped false b c = refl

other_digit : (first b : Bool) → cond (not first) b (not b) ≡ not (cond first b (not b))
other_digit true true = refl
other_digit true false = refl
other_digit false true = refl
other_digit false false = refl

-- what is before a place or at it, but for what is at it without a digit
passed : (a : Bool) (p t : ℕ) (m : Bool) → (((a && nat_lt p t) || (a && nat_eq p t)) && not ((a && nat_eq p t) && not m)) ≡ (a && (nat_lt p t || (nat_eq p t && m)))
passed true p t true = grind (arith, nat_tests)
passed true p t false = grind (arith, nat_tests)
passed false p t m = refl

no_more : (l e : Bool) → (l || (e && false)) ≡ l
no_more true e = refl
no_more false true = refl
no_more false false = refl

-- rows before a place, and some of those at it
ahead_more : (s v : Bool) (p t : ℕ) → one_if (s && nat_lt p t) + one_if ((s && nat_eq p t) && v) ≡ one_if (s && (nat_lt p t || (nat_eq p t && v)))
ahead_more true true p t = grind (arith, nat_tests)
ahead_more true false p t = grind (arith, nat_tests)
ahead_more false v p t = refl

pub both_digits : (first : Bool) (rows plane : List Bool) → length plane ≡ length rows → count_by (λ b. b) (kept_rows first rows plane) + count_by (λ b. b) (kept_rows (not first) rows plane) ≡ count_by (λ b. b) rows
both_digits true rows plane e = kept_parts rows plane e
both_digits false rows plane e = omega (arith, kept_parts rows plane e)

-- ---- a cut

-- where nothing is chosen all rows have one place
pub begun : (counted among : List Bool) (limit there : ℕ) (place : ℕ → ℕ) (cut : Cut) → ((r : ℕ) → place r ≡ 0) → length counted ≡ length among → 1 ≤ limit → limit ≤ there → Begins counted among cut there →
    IsCut counted among limit place cut (record { wanted = limit; there = there })
begun counted among limit there place cut none same some enough begins = record {
  at = 0;
  rows = begins.rows;
  before = λ r h. begins.before r h ∙ not_below (is_in among r) (place r);
  level = λ r h. ap (λ l. is_in l r) begins.level ∙ level_of (is_in among r) (place r) (none r);
  counts = λ r h. ap (λ l. is_in l r) begins.counts ∙ level_of (is_in counted r) (place r) (none r);
  ahead = ap (λ n. n + limit) (count_none (λ r. is_in counted r && nat_lt (place r) 0) (length among) (λ r h. sym (not_below (is_in counted r) (place r)))) ∙ omega arith;
  there = begins.total ∙ ap (count_by (λ b. b)) (sym begins.counts);
  wanted = enough;
  some = some;
}
  where
    not_below : (b : Bool) (p : ℕ) → false ≡ (b && nat_lt p 0)
    not_below true p = grind (arith, nat_tests)
    not_below false p = refl

    level_of : (b : Bool) (p : ℕ) → p ≡ 0 → b ≡ (b && nat_eq p 0)
    level_of true p e = grind (arith, nat_tests)
    level_of false p e = refl

-- by places that are the same
pub cut_same : (counted among : List Bool) (limit : ℕ) (place other : ℕ → ℕ) (cut : Cut) (share : Share) → ((r : ℕ) → r < length among → place r ≡ other r) →
    IsCut counted among limit place cut share → IsCut counted among limit other cut share
cut_same counted among limit place other cut share same is = record {
  at = is.at;
  rows = is.rows;
  before = λ r h. is.before r h ∙ ap (λ p. is_in among r && nat_lt p is.at) (same r h);
  level = λ r h. is.level r h ∙ ap (λ p. is_in among r && nat_eq p is.at) (same r h);
  counts = λ r h. is.counts r h ∙ ap (λ p. is_in counted r && nat_eq p is.at) (same r h);
  ahead = ap (λ n. n + share.wanted) (count_same (λ r. is_in counted r && nat_lt (other r) is.at) (λ r. is_in counted r && nat_lt (place r) is.at) (length among) (λ r h. ap (λ p. is_in counted r && nat_lt p is.at) (sym (same r h)))) ∙ is.ahead;
  there = is.there;
  wanted = is.wanted;
  some = is.some;
}

-- as many rows as before
module _ (plane : List Bool) (first : Bool) (old new : Cut) (rows : HaveRows (length plane) old) where
  pub keeps_rows : KeepsFirsts plane first old new → HaveRows (length plane) new
  keeps_rows keeps = record {
    before = ap length keeps.before ∙ rows.before;
    level = ap length keeps.level ∙ kept_length old.level plane (sym rows.level) first ∙ rows.level;
    counted = ap length keeps.counted ∙ kept_length old.counted plane (sym rows.counted) first ∙ rows.counted;
  }

  pub passes_rows : PassesFirsts plane first old new → HaveRows (length plane) new
  passes_rows passes =
      let both : length (zip2 (λ a b. a || b) old.before old.level) ≡ length plane = length-zip2 (λ a b. a || b) old.before old.level (rows.before ∙ sym rows.level) ∙ rows.before in
      let level : length new.level ≡ length plane = ap length passes.level ∙ kept_length old.level plane (sym rows.level) (not first) ∙ rows.level in
      record {
        before = ap length passes.before ∙ length-zip2 (λ a b. a && not b) (zip2 (λ a b. a || b) old.before old.level) new.level (both ∙ sym level) ∙ both;
        level = level;
        counted = ap length passes.counted ∙ kept_length old.counted plane (sym rows.counted) (not first) ∙ rows.counted;
      }

module _ (counted among : List Bool) (limit : ℕ) (place : ℕ → ℕ) (plane : List Bool) (first : Bool) (old new : Cut) (share : Share) (rows : length among ≡ length plane) (is : IsCut counted among limit place old share) where
  abbrev next : ℕ → ℕ
  next = next_place place plane first

  abbrev next_at : Bool → ℕ
  next_at digit = 2 * is.at + one_if (is_later first digit)

  long : (mask : List Bool) → length mask ≡ length among → length plane ≡ length mask
  long mask e = sym rows ∙ sym e

  -- rows at the place that have the digit are those at the next place
  kept_at : (digit : Bool) (wide narrow : List Bool) (r : ℕ) → length narrow ≡ length among → r < length among → is_in narrow r ≡ (is_in wide r && nat_eq (place r) is.at) →
      is_in (kept_rows digit narrow plane) r ≡ (is_in wide r && nat_eq (next r) (next_at digit))
  kept_at digit wide narrow r e h at =
      let b = is_in plane r in
      in_kept narrow plane (long narrow e) digit r (omega arith)
      ∙ ap (λ n. n && cond digit b (not b)) at
      ∙ grouped (is_in wide r) (nat_eq (place r) is.at) (cond digit b (not b))
      ∙ ap (λ d. is_in wide r && (nat_eq (place r) is.at && d)) (sym (same_digit first digit b))
      ∙ ap (λ d. is_in wide r && d) (sym (next_eq (place r) is.at (is_later first b) (is_later first digit)))

  -- how many counted rows have a digit
  kept_count : (digit : Bool) → count_by (λ b. b) (kept_rows digit old.counted plane) ≡ count_rows (length among) (λ r. is_in old.counted r && cond digit (is_in plane r) (not (is_in plane r)))
  kept_count digit =
      let same = long old.counted is.rows.counted in
      let all : length (kept_rows digit old.counted plane) ≡ length among = kept_length old.counted plane same digit ∙ is.rows.counted in
      count_mask (kept_rows digit old.counted plane) ∙ ap (λ n. count_rows n (is_in (kept_rows digit old.counted plane))) all
      ∙ count_same (is_in (kept_rows digit old.counted plane)) (λ r. is_in old.counted r && cond digit (is_in plane r) (not (is_in plane r))) (length among) (λ r h. in_kept old.counted plane same digit r (omega (arith, is.rows.counted)))

  abbrev now_ahead : ℕ
  now_ahead = count_rows (length among) (λ r. is_in counted r && nat_lt (place r) is.at)

  -- by the digit that comes first no row more comes before the place
  row_stays : (mask : List Bool) (r : ℕ) → (is_in mask r && nat_lt (next r) (next_at first)) ≡ (is_in mask r && nat_lt (place r) is.at)
  row_stays mask r =
      ap (λ d. is_in mask r && d) (next_lt (place r) is.at (is_later first (is_in plane r)) (is_later first first))
      ∙ ap (λ d. is_in mask r && (nat_lt (place r) is.at || (nat_eq (place r) is.at && d))) (first_stays first (is_in plane r))
      ∙ ap (λ d. is_in mask r && d) (no_more (nat_lt (place r) is.at) (nat_eq (place r) is.at))

  ahead_stays : count_rows (length among) (λ r. is_in counted r && nat_lt (next r) (next_at first)) ≡ now_ahead
  ahead_stays = count_same (λ r. is_in counted r && nat_lt (next r) (next_at first)) (λ r. is_in counted r && nat_lt (place r) is.at) (length among) (λ r h. row_stays counted r)

  -- by the other digit those that have the first do
  row_moves : (r : ℕ) → r < length among →
      one_if (is_in counted r && nat_lt (place r) is.at) + one_if (is_in old.counted r && cond first (is_in plane r) (not (is_in plane r))) ≡ one_if (is_in counted r && nat_lt (next r) (next_at (not first)))
  row_moves r h =
      let b = is_in plane r in
      ap (λ c. one_if (is_in counted r && nat_lt (place r) is.at) + one_if (c && cond first b (not b))) (is.counts r h)
      ∙ ahead_more (is_in counted r) (cond first b (not b)) (place r) is.at
      ∙ ap (λ d. one_if (is_in counted r && (nat_lt (place r) is.at || (nat_eq (place r) is.at && d)))) (sym (later_moves first b))
      ∙ ap (λ d. one_if (is_in counted r && d)) (sym (next_lt (place r) is.at (is_later first b) (is_later first (not first))))

  ahead_moves : now_ahead + count_by (λ b. b) (kept_rows first old.counted plane) ≡ count_rows (length among) (λ r. is_in counted r && nat_lt (next r) (next_at (not first)))
  ahead_moves =
      ap (λ n. now_ahead + n) (kept_count first)
      ∙ count_parts (λ r. is_in counted r && nat_lt (place r) is.at) (λ r. is_in old.counted r && cond first (is_in plane r) (not (is_in plane r))) (λ r. is_in counted r && nat_lt (next r) (next_at (not first))) (length among) row_moves

  had : HaveRows (length plane) old
  had = subst (λ n. HaveRows n old) rows is.rows

  pub cut_stays : (firsts : ℕ) → firsts ≡ count_by (λ b. b) (kept_rows first old.counted plane) → share.wanted ≤ firsts → KeepsFirsts plane first old new →
      IsCut counted among limit (next_place place plane first) new (record { wanted = share.wanted; there = firsts })
  cut_stays firsts are enough keeps = record {
    at = next_at first;
    rows = subst (λ n. HaveRows n new) (sym rows) (keeps_rows plane first old new had keeps);
    before = λ r h. ap (λ l. is_in l r) keeps.before ∙ is.before r h ∙ sym (row_stays among r);
    level = λ r h. ap (λ l. is_in l r) keeps.level ∙ kept_at first among old.level r is.rows.level h (is.level r h);
    counts = λ r h. ap (λ l. is_in l r) keeps.counted ∙ kept_at first counted old.counted r is.rows.counted h (is.counts r h);
    ahead = ap (λ n. n + share.wanted) ahead_stays ∙ is.ahead;
    there = are ∙ ap (count_by (λ b. b)) (sym keeps.counted);
    wanted = enough;
    some = is.some;
  }

  -- the rows that are passed come before
  module _ (passes : PassesFirsts plane first old new) where
    both_rows : length (zip2 (λ a b. a || b) old.before old.level) ≡ length among
    both_rows = length-zip2 (λ a b. a || b) old.before old.level (is.rows.before ∙ sym is.rows.level) ∙ is.rows.before

    level_rows : length new.level ≡ length among
    level_rows = ap length passes.level ∙ kept_length old.level plane (long old.level is.rows.level) (not first) ∙ is.rows.level

    passed_at : (r : ℕ) → r < length among → is_in new.before r ≡ (is_in among r && nat_lt (next r) (next_at (not first)))
    passed_at r h =
        let b = is_in plane r in
        let lt = nat_lt (place r) is.at in
        let eq = nat_eq (place r) is.at in
        ap (λ l. is_in l r) passes.before
        ∙ in_both (λ a b. a && not b) (zip2 (λ a b. a || b) old.before old.level) new.level r (omega (arith, both_rows)) (level_rows ∙ sym both_rows)
        ∙ ap (λ n. n && not (is_in new.level r)) (in_both (λ a b. a || b) old.before old.level r (omega (arith, is.rows.before)) (is.rows.level ∙ sym is.rows.before))
        ∙ ap (λ n. (n || is_in old.level r) && not (is_in new.level r)) (is.before r h)
        ∙ ap (λ n. ((is_in among r && lt) || n) && not (is_in new.level r)) (is.level r h)
        ∙ ap (λ n. ((is_in among r && lt) || (is_in among r && eq)) && not n)
        (ap (λ l. is_in l r) passes.level ∙ in_kept old.level plane (long old.level is.rows.level) (not first) r (omega (arith, is.rows.level)) ∙ ap (λ n. n && cond (not first) b (not b)) (is.level r h))
        ∙ ap (λ d. ((is_in among r && lt) || (is_in among r && eq)) && not ((is_in among r && eq) && d)) (other_digit first b)
        ∙ passed (is_in among r) (place r) is.at (cond first b (not b))
        ∙ ap (λ d. is_in among r && (lt || (eq && d))) (sym (later_moves first b))
        ∙ ap (λ d. is_in among r && d) (sym (next_lt (place r) is.at (is_later first b) (is_later first (not first))))

    pub cut_moves : (firsts : ℕ) → firsts ≡ count_by (λ b. b) (kept_rows first old.counted plane) → firsts < share.wanted →
        IsCut counted among limit (next_place place plane first) new (record { wanted = share.wanted - firsts; there = share.there - firsts })
    cut_moves firsts are few =
        let parts = both_digits first old.counted plane (long old.counted is.rows.counted) in
        let moved : now_ahead + firsts ≡ count_rows (length among) (λ r. is_in counted r && nat_lt (next r) (next_at (not first))) = ap (λ n. now_ahead + n) are ∙ ahead_moves in
        let total : now_ahead + share.wanted ≡ limit = is.ahead in
        let left : share.there - firsts ≡ count_by (λ b. b) (kept_rows (not first) old.counted plane) = omega (arith, parts, are, is.there) in
        record {
          at = next_at (not first);
          rows = subst (λ n. HaveRows n new) (sym rows) (passes_rows plane first old new had passes);
          before = passed_at;
          level = λ r h. ap (λ l. is_in l r) passes.level ∙ kept_at (not first) among old.level r is.rows.level h (is.level r h);
          counts = λ r h. ap (λ l. is_in l r) passes.counted ∙ kept_at (not first) counted old.counted r is.rows.counted h (is.counts r h);
          ahead = ap (λ n. n + (share.wanted - firsts)) (sym moved) ∙ omega (arith, total, few);
          there = left ∙ ap (count_by (λ b. b)) (sym passes.counted);
          wanted = omega (arith, is.wanted);
          some = omega (arith, few);
        }
