-- The rows before a cut, and the wanted ones at it, are those that few rows come before.
use Rattle.std.proofs.Common.{◌≡◌, ℕ, ◌+◌, ◌<◌, ◌≤◌, Bool, true, false, cond, not, ◌&&◌, ◌||◌, nat_eq, nat_le, nat_lt, List, length, count_by, position, Some, inl, inr, refl, sym, ap, subst, ◌∙◌, arith, IsTrue}
use Rattle.std.proofs.lemmas.Bool.{and_parts, cases_Bool, cases_eq, cases_lt, cond-true, cond-false, eq-eqb, eqb-true, false≢true}
use Rattle.std.proofs.lemmas.Bool.Decides.{nat_tests}
use Rattle.std.proofs.lemmas.List.Quantifiers.{position-Some}
use Rattle.std.specs.Simd.Lanes.{zip2}
use Rattle.known_column.specs.Columns.{KnownColumn, range_at, rows_of_column}
use Rattle.known_column.specs.RowBlocks.{IsKnownColumn}
use Rattle.topk_bounds.specs.declared.cut.Cut.{Cut}
use Rattle.topk_bounds.specs.declared.cut.Share.{Share}
use Rattle.topk_bounds.specs.declared.rivals.Rivals.{Rivals}
use Rattle.topk_bounds.specs.declared.rivals.Rivals.TheVariants.{Must, May}
use Rattle.topk_bounds.specs.Standings.{comes, count_rows, is_in, rivals_of}
use Rattle.topk_bounds.specs.Cuts.{AreNested, FindsFirst, HaveOneRange, HaveRows, IsCut, Settles, are_wanted, is_wide}
use Rattle.topk_bounds.specs.Stopping.{StopsAt, is_reached}
use Rattle.topk_bounds.proofs.Counting.{count_below, count_mask, count_none, count_only, count_parts, count_same, count_up, one_if}
use Rattle.topk_bounds.proofs.Marks.{in_both}
use Rattle.topk_bounds.proofs.Places.{comes_by_place, is_may, one_range, place_of}

-- ---- tests at a row

-- it comes before another by its place, or at one place by a tie
abbrev rival_test : Bool → Bool → ℕ → ℕ → Bool → Bool
rival_test same counts p q tie = not same && counts && (nat_lt p q || (nat_eq p q && tie))

few_before : (same counts tie : Bool) (p q at : ℕ) → q < at → one_if (rival_test same counts p q tie) ≤ one_if (counts && nat_lt p at)
few_before true counts tie p q at h = omega arith
few_before false false tie p q at h = omega arith
few_before false true true p q at h = grind (arith, nat_tests)
few_before false true false p q at h = grind (arith, nat_tests)

many_before : (same counts tie : Bool) (p q at : ℕ) → at < q → (IsTrue same → p ≡ q) → one_if (counts && nat_le p at) ≤ one_if (rival_test same counts p q tie)
many_before same false tie p q at h e = omega arith
many_before true true tie p q at h e = (let z = e refl in grind (arith, nat_tests))
many_before false true true p q at h e = grind (arith, nat_tests)
many_before false true false p q at h e = grind (arith, nat_tests)

below_or_at : (counts : Bool) (p at : ℕ) → one_if (counts && nat_lt p at) + one_if (counts && nat_eq p at) ≡ one_if (counts && nat_le p at)
below_or_at true p at = grind (arith, nat_tests)
below_or_at false p at = refl

tied_before : (same counts tie : Bool) (p q : ℕ) → (IsTrue same → p ≡ q) → one_if (counts && nat_lt p q) + one_if ((counts && nat_eq p q) && (not same && tie)) ≡ one_if (rival_test same counts p q tie)
tied_before true false tie p q e = refl
tied_before false false tie p q e = refl
tied_before true true tie p q e = (let z = e refl in grind (arith, nat_tests))
tied_before false true true p q e = grind (arith, nat_tests)
tied_before false true false p q e = grind (arith, nat_tests)

where_in : (b c d : Bool) → (IsTrue b → c ≡ d) → (b && c) ≡ (b && d)
where_in true c d h = h refl
where_in false c d h = refl

with_true : (b : Bool) → b ≡ (b && true)
with_true true = refl
with_true false = refl

with_nothing : (a b : Bool) → a ≡ (a || (b && false))
with_nothing true b = refl
with_nothing false true = refl
with_nothing false false = refl

-- ---- a row before the cut, at it and past it

chosen : (a l e t v : Bool) → (IsTrue a → (l || (e && t)) ≡ v) → ((a && l) || ((a && e) && t)) ≡ (a && v)
chosen true l e t v h = h refl
chosen false l e t v h = refl

before_cut : (q at : ℕ) (tail : Bool) (n limit : ℕ) → q < at → n < limit → (nat_lt q at || (nat_eq q at && tail)) ≡ nat_lt n limit
before_cut q at true n limit h k = grind (arith, nat_tests)
before_cut q at false n limit h k = grind (arith, nat_tests)

past_cut : (q at : ℕ) (tail : Bool) (n limit : ℕ) → at < q → limit ≤ n → (nat_lt q at || (nat_eq q at && tail)) ≡ nat_lt n limit
past_cut q at true n limit h k = grind (arith, nat_tests)
past_cut q at false n limit h k = grind (arith, nat_tests)

at_cut : (q at : ℕ) (tail : Bool) → q ≡ at → (nat_lt q at || (nat_eq q at && tail)) ≡ tail
at_cut q at true h = grind (arith, nat_tests)
at_cut q at false h = grind (arith, nat_tests)

module _ (rivals : Rivals) (down : Bool) (key : KnownColumn) (known : IsKnownColumn key) (counted among : List Bool) (limit : ℕ) (rows : length among ≡ rows_of_column key) where
  abbrev n : ℕ
  n = length among

  abbrev place : ℕ → ℕ
  place = place_of down key

  abbrev tie : ℕ → ℕ → Bool
  tie x y = cond (is_wide (range_at key x)) (is_may rivals) (nat_lt y x)

  abbrev tests : ℕ → ℕ → Bool
  tests x y = rival_test (nat_eq y x) (is_in counted y) (place y) (place x) (tie x y)

  -- the rows that come before row x, by their places
  counts_are : (x : ℕ) → x < n → rivals_of rivals down key counted x ≡ count_rows n (tests x)
  counts_are x h =
      ap (λ k. count_rows k (λ y. not (nat_eq y x) && is_in counted y && comes rivals down (range_at key y) y (range_at key x) x)) (sym rows)
      ∙ count_same (λ y. not (nat_eq y x) && is_in counted y && comes rivals down (range_at key y) y (range_at key x) x) (tests x) n
      (λ y k. ap (λ b. not (nat_eq y x) && is_in counted y && b) (comes_by_place down key known rivals y x (subst (λ m. y < m) rows k) (subst (λ m. x < m) rows h)))

  one_place : (x y : ℕ) → IsTrue (nat_eq y x) → place y ≡ place x
  one_place x y t = ap place (eqb-true y x t)

  module _ (cut : Cut) (share : Share) (is : IsCut counted among limit place cut share) where
    abbrev ahead : ℕ
    ahead = count_rows n (λ r. is_in counted r && nat_lt (place r) is.at)

    there_are : share.there ≡ count_rows n (is_in cut.counted)
    there_are = is.there ∙ count_mask cut.counted ∙ ap (λ k. count_rows k (is_in cut.counted)) is.rows.counted

    few : (x : ℕ) → x < n → place x < is.at → rivals_of rivals down key counted x < limit
    few x h less =
        let up = count_up (tests x) (λ r. is_in counted r && nat_lt (place r) is.at) n (λ y k. few_before (nat_eq y x) (is_in counted y) (tie x y) (place y) (place x) is.at less) in
        omega (arith, counts_are x h, up, is.ahead, is.some)

    many : (x : ℕ) → x < n → is.at < place x → limit ≤ rivals_of rivals down key counted x
    many x h more =
        let at_it : share.there ≡ count_rows n (λ r. is_in counted r && nat_eq (place r) is.at) = there_are ∙ count_same (is_in cut.counted) (λ r. is_in counted r && nat_eq (place r) is.at) n is.counts in
        let parts = count_parts (λ r. is_in counted r && nat_lt (place r) is.at) (λ r. is_in counted r && nat_eq (place r) is.at) (λ r. is_in counted r && nat_le (place r) is.at) n (λ y k. below_or_at (is_in counted y) (place y) is.at) in
        let up = count_up (λ r. is_in counted r && nat_le (place r) is.at) (tests x) n (λ y k. many_before (nat_eq y x) (is_in counted y) (tie x y) (place y) (place x) is.at more (one_place x y)) in
        omega (arith, counts_are x h, up, parts, at_it, is.ahead, is.wanted)

    -- at the cut those before it come before, and those of the ties
    tied_count : (x : ℕ) → x < n → place x ≡ is.at → ahead + count_rows n (λ y. is_in cut.counted y && (not (nat_eq y x) && tie x y)) ≡ rivals_of rivals down key counted x
    tied_count x h e =
        ap (λ k. ahead + k) (count_same (λ y. is_in cut.counted y && (not (nat_eq y x) && tie x y)) (λ y. (is_in counted y && nat_eq (place y) is.at) && (not (nat_eq y x) && tie x y)) n
        (λ y k. ap (λ b. b && (not (nat_eq y x) && tie x y)) (is.counts y k)))
        ∙ subst (λ at. count_rows n (λ r. is_in counted r && nat_lt (place r) at) + count_rows n (λ y. (is_in counted y && nat_eq (place y) at) && (not (nat_eq y x) && tie x y)) ≡ count_rows n (tests x)) e
        (count_parts (λ r. is_in counted r && nat_lt (place r) (place x)) (λ y. (is_in counted y && nat_eq (place y) (place x)) && (not (nat_eq y x) && tie x y)) (tests x) n
        (λ y k. tied_before (nat_eq y x) (is_in counted y) (tie x y) (place y) (place x) (one_place x y)))
        ∙ sym (counts_are x h)

    -- the wanted rows at the cut
    abbrev tail : ℕ → Bool
    tail x = cond (is_wide (range_at key x)) (are_wanted rivals share) (is_reached share.wanted cut.counted x)

    narrow_ties : (x : ℕ) → x < n → is_wide (range_at key x) ≡ false → count_rows n (λ y. is_in cut.counted y && (not (nat_eq y x) && tie x y)) ≡ count_rows x (is_in cut.counted)
    narrow_ties x h narrow =
        count_same (λ y. is_in cut.counted y && (not (nat_eq y x) && tie x y)) (λ y. is_in cut.counted y && nat_lt y x) n
        (λ y k. ap (λ w. is_in cut.counted y && (not (nat_eq y x) && cond w (is_may rivals) (nat_lt y x))) narrow ∙ ap (λ b. is_in cut.counted y && b) (other y x))
        ∙ count_below (is_in cut.counted) x n (omega arith)
      where
        other : (y x : ℕ) → (not (nat_eq y x) && nat_lt y x) ≡ nat_lt y x
        other y x = grind (arith, nat_tests)

    wide_ties : (x : ℕ) → is_wide (range_at key x) ≡ true →
        count_rows n (λ y. is_in cut.counted y && (not (nat_eq y x) && tie x y)) ≡ count_rows n (λ y. is_in cut.counted y && (not (nat_eq y x) && is_may rivals))
    wide_ties x wide = count_same (λ y. is_in cut.counted y && (not (nat_eq y x) && tie x y)) (λ y. is_in cut.counted y && (not (nat_eq y x) && is_may rivals)) n
        (λ y k. ap (λ w. is_in cut.counted y && (not (nat_eq y x) && cond w (is_may rivals) (nat_lt y x))) wide)

    other_ties : (c : Rivals) (x : ℕ) → x < n → (IsTrue (is_may c) → IsTrue (is_in cut.counted x)) →
        nat_lt (count_rows n (λ y. is_in cut.counted y && (not (nat_eq y x) && is_may c))) share.wanted ≡ are_wanted c share
    other_ties Must x h there =
        (let none : count_rows n (λ y. is_in cut.counted y && (not (nat_eq y x) && false)) ≡ 0 = count_none (λ y. is_in cut.counted y && (not (nat_eq y x) && false)) n (λ y k. nothing (is_in cut.counted y) (not (nat_eq y x))) in
        some (count_rows n (λ y. is_in cut.counted y && (not (nat_eq y x) && false))) share.wanted none is.some)
      where
        nothing : (a b : Bool) → (a && (b && false)) ≡ false
        nothing true true = refl
        nothing true false = refl
        nothing false b = refl

        some : (k w : ℕ) → k ≡ 0 → 0 < w → nat_lt k w ≡ true
        some k w z h = grind (arith, nat_tests)
    other_ties May x h there =
        (let parts = count_parts (λ y. is_in cut.counted y && (not (nat_eq y x) && true)) (λ y. nat_eq y x) (is_in cut.counted) n (λ y k. but_one (is_in cut.counted y) (nat_eq y x) (λ t. subst (λ r. IsTrue (is_in cut.counted r)) (sym (eqb-true y x t)) (there refl))) in
        less (count_rows n (λ y. is_in cut.counted y && (not (nat_eq y x) && true))) share.wanted share.there (omega (arith, parts, count_only x n h, there_are)))
      where
        but_one : (c same : Bool) → (IsTrue same → IsTrue c) → one_if (c && (not same && true)) + one_if same ≡ one_if c
        but_one true true h = refl
        but_one true false h = refl
        but_one false true h = absurd (false≢true (h refl))
        but_one false false h = refl

        less : (k w t : ℕ) → k + 1 ≡ t → nat_lt k w ≡ nat_le t w
        less k w t e = grind (arith, nat_tests)

    tail_is : (x : ℕ) → x < n → place x ≡ is.at → (IsTrue (is_may rivals) → IsTrue (is_in cut.counted x)) → tail x ≡ nat_lt (rivals_of rivals down key counted x) limit
    tail_is x h e there =
        let g = count_rows n (λ y. is_in cut.counted y && (not (nat_eq y x) && tie x y)) in
        let by_ties : nat_lt g share.wanted ≡ nat_lt (rivals_of rivals down key counted x) limit = less ahead g share.wanted (rivals_of rivals down key counted x) limit (tied_count x h e) is.ahead in
        elim (cases_Bool (is_wide (range_at key x))) [
          | inl wide ↦ cond-true (is_wide (range_at key x)) (are_wanted rivals share) (is_reached share.wanted cut.counted x) wide ∙ sym (other_ties rivals x h there) ∙ ap (λ k. nat_lt k share.wanted) (sym (wide_ties x wide)) ∙ by_ties
          | inr narrow ↦ cond-false (is_wide (range_at key x)) (are_wanted rivals share) (is_reached share.wanted cut.counted x) narrow ∙ ap (λ k. nat_lt k share.wanted) (sym (narrow_ties x h narrow)) ∙ by_ties
        ]
      where
        less : (a g w r l : ℕ) → a + g ≡ r → a + w ≡ l → nat_lt g w ≡ nat_lt r l
        less a g w r l e f = grind (arith, nat_tests)

    -- a row at the cut is one of those that are counted there
    counted_there : (c : Rivals) (x : ℕ) → x < n → place x ≡ is.at → AreNested c counted among → IsTrue (is_in among x) → IsTrue (is_may c) → IsTrue (is_in cut.counted x)
    counted_there Must x h e nested t m = absurd (false≢true m)
    counted_there May x h e nested t m = is.counts x h ∙ ap (λ b. b && nat_eq (place x) is.at) (nested x t) ∙ eq-eqb (place x) is.at e

    pub cut_finds : (found : List Bool) → Settles rivals key share cut found → AreNested rivals counted among → FindsFirst rivals down key counted among limit found
    cut_finds found settles nested x x_in =
        let h : x < n = subst (λ m. x < m) (sym rows) x_in in
        settles x x_in
        ∙ ap (λ b. b || (is_in cut.level x && tail x)) (is.before x h)
        ∙ ap (λ b. (is_in among x && nat_lt (place x) is.at) || (b && tail x)) (is.level x h)
        ∙ chosen (is_in among x) (nat_lt (place x) is.at) (nat_eq (place x) is.at) (tail x) (nat_lt (rivals_of rivals down key counted x) limit)
        (λ t. elim (cases_lt (place x) is.at) [
          | inl less ↦ before_cut (place x) is.at (tail x) (rivals_of rivals down key counted x) limit less (few x h less)
          | inr more ↦ elim (cases_eq (place x) is.at) [
            | inl e ↦ at_cut (place x) is.at (tail x) e ∙ tail_is x h e (counted_there rivals x h e nested t)
            | inr other ↦ past_cut (place x) is.at (tail x) (rivals_of rivals down key counted x) limit (omega (arith, more, other)) (many x h (omega (arith, more, other)))
          ]
        ])

    -- the rows at the cut have one range
    pub cut_is_one : HaveOneRange key cut
    cut_is_one x y xh yh at_level at_counted =
        let x_in : x < n = subst (λ m. x < m) (sym rows) xh in
        let y_in : y < n = subst (λ m. y < m) (sym rows) yh in
        let xs = and_parts (is_in among x) (nat_eq (place x) is.at) (sym (is.level x x_in) ∙ at_level) in
        let ys = and_parts (is_in counted y) (nat_eq (place y) is.at) (sym (is.counts y y_in) ∙ at_counted) in
        one_range down key known x y xh yh (eqb-true (place x) is.at xs.1 ∙ sym (eqb-true (place y) is.at ys.1))

  -- where fewer rows are counted than are wanted
  pub all_found : length counted ≡ length among → count_by (λ b. b) counted < limit → FindsFirst rivals down key counted among limit among
  all_found same few x x_in =
      let h : x < n = subst (λ m. x < m) (sym rows) x_in in
      let up = count_up (tests x) (is_in counted) n (λ y k. only (nat_eq y x) (is_in counted y) (nat_lt (place y) (place x) || (nat_eq (place y) (place x) && tie x y))) in
      let all : count_by (λ b. b) counted ≡ count_rows n (is_in counted) = count_mask counted ∙ ap (λ k. count_rows k (is_in counted)) same in
      still (is_in among x) (rivals_of rivals down key counted x) limit (omega (arith, counts_are x h, up, all, few))
    where
      only : (s c t : Bool) → one_if (not s && c && t) ≤ one_if c
      only true c t = omega arith
      only false true true = omega arith
      only false true false = omega arith
      only false false t = omega arith

      still : (a : Bool) (k l : ℕ) → k < l → a ≡ (a && nat_lt k l)
      still true k l h = grind (arith, nat_tests)
      still false k l h = refl

-- ---- the wanted rows of a level are put to those before it

module _ (rivals : Rivals) (key : KnownColumn) (cut : Cut) (share : Share) (rows : HaveRows (rows_of_column key) cut) (one : HaveOneRange key cut) (row : ℕ) (is : position (λ b. b) cut.counted ≡ Some row) where
  row_in : row < rows_of_column key
  row_in = (let found = position-Some (λ b. b) cut.counted row false is in omega (arith, found.0, rows.counted))

  abbrev wanted_at : ℕ → Bool
  wanted_at x = cond (is_wide (range_at key x)) (are_wanted rivals share) (is_reached share.wanted cut.counted x)

  -- the rows of the level are as wide as the first of them that is counted
  wanted_as : (x : ℕ) (w : Bool) → x < rows_of_column key → is_wide (range_at key row) ≡ w → IsTrue (is_in cut.level x) → wanted_at x ≡ cond w (are_wanted rivals share) (is_reached share.wanted cut.counted x)
  wanted_as x w h e t =
      ap (λ b. cond b (are_wanted rivals share) (is_reached share.wanted cut.counted x)) (ap is_wide (one x row h row_in t (position-Some (λ b. b) cut.counted row false is).1) ∙ e)

  pub settles_narrow : (level found : List Bool) → is_wide (range_at key row) ≡ false → length level ≡ length cut.level → StopsAt share.wanted cut.counted cut.level level → found ≡ zip2 (λ a b. a || b) level cut.before →
      Settles rivals key share cut found
  settles_narrow level found narrow same stops put x h =
      ap (λ l. is_in l x) put ∙ in_both (λ a b. a || b) level cut.before x (omega (arith, rows.level, same)) (rows.before ∙ sym rows.level ∙ sym same)
      ∙ turned (is_in level x) (is_in cut.before x)
      ∙ ap (λ b. is_in cut.before x || b) (stops x (omega (arith, rows.level)) ∙ where_in (is_in cut.level x) (is_reached share.wanted cut.counted x) (wanted_at x) (λ t. sym (wanted_as x false h narrow t)))
    where
      turned : (a b : Bool) → (a || b) ≡ (b || a)
      turned true true = refl
      turned true false = refl
      turned false true = refl
      turned false false = refl

  pub settles_all : (found : List Bool) → is_wide (range_at key row) ≡ true → are_wanted rivals share ≡ true → found ≡ zip2 (λ a b. a || b) cut.before cut.level → Settles rivals key share cut found
  settles_all found wide all put x h =
      ap (λ l. is_in l x) put ∙ in_both (λ a b. a || b) cut.before cut.level x (omega (arith, rows.before)) (rows.level ∙ sym rows.before)
      ∙ ap (λ b. is_in cut.before x || b) (with_true (is_in cut.level x) ∙ where_in (is_in cut.level x) true (wanted_at x) (λ t. sym (wanted_as x true h wide t ∙ all)))

  pub settles_none : (found : List Bool) → is_wide (range_at key row) ≡ true → are_wanted rivals share ≡ false → found ≡ cut.before → Settles rivals key share cut found
  settles_none found wide none put x h =
      ap (λ l. is_in l x) put ∙ with_nothing (is_in cut.before x) (is_in cut.level x) ∙ ap (λ b. is_in cut.before x || b) (where_in (is_in cut.level x) false (wanted_at x) (λ t. sym (wanted_as x true h wide t ∙ none)))
