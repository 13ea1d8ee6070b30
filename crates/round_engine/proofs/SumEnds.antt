-- What rows add to an end of a sum: each lemma holds for the least sum and for the greatest.
use Rattle.std.proofs.Common.{◌≡◌, ℕ, ◌<◌, ℤ, pos, ◌≤ℤ◌, ◌+ℤ◌, int_le, int_lt, Bool, true, false, ◌||◌, cond, List, [], ◌∷◌, length, map, filter, inl, inr, refl, sym, ap, ◌∙◌, arith}
use Rattle.std.specs.Int.{int_max, int_min}
use Rattle.std.specs.List.{list_any}
use Rattle.std.specs.Option.{unwrap_or}
use Rattle.std.proofs.lemmas.Bool.{cases_Bool, false≢true, or_left, or_parts, or_right}
use Rattle.std.proofs.lemmas.Int.{ints, clamps}
use Rattle.interval_calc.specs.Intervals.{Interval}
use Rattle.aggregates.specs.Widening.{widens}
use Rattle.aggregates.specs.declared.ends.End.{End}
use Rattle.aggregates.specs.declared.ends.End.TheVariants.{Low, High}
use Rattle.aggregates.specs.Selections.{end_at, end_of, has_row}
use Rattle.aggregates.proofs.BoundFacts.{greatest_or_zero, high_sum_stands, least_or_zero, lone_high, lone_low, low_sum_stands, same_numbers}
use Rattle.known_column.specs.Columns.{KnownColumn, numbers_at}
use Rattle.query_model.specs.Answers.{greatest, least, total}
use Rattle.query_model.specs.Bounds.{Pair, certain_count, high_share, highs, low_share, lows}
use Rattle.query_model.proofs.ListBounds.{keeps_high, keeps_low}
use Rattle.round_engine.specs.Selected.{pair_in}
use Rattle.round_engine.specs.SumEnds.{ends_of, outermost, share_at, sum_at}
use Rattle.round_engine.proofs.Rows.{no_element, passed, skipped}

-- ---- one pair

-- the pair of a row
abbrev pair : Bool → Interval → Pair
pair certain numbers = record { certain = certain; low = numbers.low; high = numbers.high }

-- it adds its number where it counts for certain or widens the sum
share_is : (e : End) (m : Bool) (i : Interval) → share_at e (pair m i) ≡ cond (widens e (end_of e i) || m) (end_of e i) (pos 0)
share_is Low true i = elim (cases_Bool (int_lt i.low (pos 0))) [ inl t ↦ rw t refl | inr f ↦ rw f refl ]
share_is Low false i = elim (cases_Bool (int_lt i.low (pos 0))) [ inl t ↦ rw t (omega (arith, ints, clamps, t)) | inr f ↦ rw f (omega (arith, ints, clamps, f)) ]
share_is High true i = elim (cases_Bool (int_lt (pos 0) i.high)) [ inl t ↦ rw t refl | inr f ↦ rw f refl ]
share_is High false i = elim (cases_Bool (int_lt (pos 0) i.high)) [ inl t ↦ rw t (omega (arith, ints, clamps, t)) | inr f ↦ rw f (omega (arith, ints, clamps, f)) ]

-- a number that is not below 0 is what it adds to the high end
pub high_stays : (m : Bool) (low base : ℤ) (n : ℕ) → pos 0 ≤ℤ base → share_at High (record { certain = m; low = low; high = base +ℤ pos n }) ≡ base +ℤ pos n
high_stays true low base n above = refl
high_stays false low base n above = omega (arith, ints, clamps, above)

-- where some pair keeps the shares, their sum stands
abbrev pub keeps : End → Pair → Bool
keeps Low p = keeps_low p
keeps High p = keeps_high p

row_keeps : (e : End) (m : Bool) (i : Interval) → (widens e (end_of e i) || m) ≡ true → keeps e (pair m i) ≡ true
row_keeps Low true i h = refl
row_keeps Low false i h =
    elim (cases_Bool (int_lt i.low (pos 0))) [
      | inl t ↦ sym (let e : true ≡ int_le i.low (pos 0) = omega (arith, ints, t) in e)
      | inr f ↦ absurd (false≢true (ap (λ b. b || false) (sym f) ∙ h))
    ]
row_keeps High true i h = refl
row_keeps High false i h =
    elim (cases_Bool (int_lt (pos 0) i.high)) [
      | inl t ↦ sym (let e : true ≡ int_le (pos 0) i.high = omega (arith, ints, t) in e)
      | inr f ↦ absurd (false≢true (ap (λ b. b || false) (sym f) ∙ h))
    ]

shares_stand : (e : End) (ps : List Pair) → list_any (keeps e) ps ≡ true → total (map (share_at e) ps) ≡ sum_at e ps
shares_stand Low ps h = rw h refl
shares_stand High ps h = rw h refl

-- ---- the outermost number

abbrev pub furthest : End → List Pair → ℤ
furthest Low ps = least (lows ps)
furthest High ps = greatest (highs ps)

pub outermost_or_zero : (e : End) (ps : List Pair) → unwrap_or (outermost e (ends_of e ps)) (pos 0) ≡ furthest e ps
outermost_or_zero Low ps = least_or_zero (lows ps)
outermost_or_zero High ps = greatest_or_zero (highs ps)

-- it widens no sum where no pair's number does
none_stays : (e : End) → widens e (furthest e []) ≡ false
none_stays Low = refl
none_stays High = refl

one_stays : (e : End) (m : Bool) (i : Interval) → widens e (end_of e i) ≡ false → widens e (furthest e (pair m i ∷ [])) ≡ false
one_stays Low m i h = h
one_stays High m i h = h

both_stay : (e : End) (m : Bool) (i : Interval) (q : Pair) (ps : List Pair) → widens e (end_of e i) ≡ false → widens e (furthest e (q ∷ ps)) ≡ false → widens e (furthest e (pair m i ∷ q ∷ ps)) ≡ false
both_stay Low m i q ps h k =
    elim (cases_Bool (int_lt (int_min i.low (least (lows (q ∷ ps)))) (pos 0))) [
      | inl t ↦ absurd (omega (arith, ints, clamps, h, k, t))
      | inr f ↦ f
    ]
both_stay High m i q ps h k =
    elim (cases_Bool (int_lt (pos 0) (int_max i.high (greatest (highs (q ∷ ps)))))) [
      | inl t ↦ absurd (omega (arith, ints, clamps, h, k, t))
      | inr f ↦ f
    ]

-- then it stands alone, if no pair is certain and the shares come to nothing
alone_of_none : (e : End) → furthest e [] ≡ sum_at e []
alone_of_none Low = refl
alone_of_none High = refl

alone_of_some : (e : End) (p : Pair) (ps : List Pair) → certain_count (p ∷ ps) ≡ 0 → widens e (furthest e (p ∷ ps)) ≡ false → total (map (share_at e) (p ∷ ps)) ≡ pos 0 → furthest e (p ∷ ps) ≡ sum_at e (p ∷ ps)
alone_of_some Low p ps none stays sum =
    let low = least (lows (p ∷ ps)) in
    elim (cases_Bool (int_lt (pos 0) low)) [
      | inl positive ↦ lone_low (p ∷ ps) low refl none (omega (arith, ints, positive))
      | inr other ↦
          (let same : low ≡ total (map low_share (p ∷ ps)) = omega (arith, ints, stays, other, sum) in
          same ∙ low_sum_stands (p ∷ ps) (λ no_certain m is. (let found : m ≡ low = same_numbers m low is in omega (arith, ints, found, other))))
    ]
alone_of_some High p ps none stays sum =
    let high = greatest (highs (p ∷ ps)) in
    elim (cases_Bool (int_lt high (pos 0))) [
      | inl negative ↦ lone_high (p ∷ ps) high refl none (omega (arith, ints, negative))
      | inr other ↦
          (let same : high ≡ total (map high_share (p ∷ ps)) = omega (arith, ints, stays, other, sum) in
          same ∙ high_sum_stands (p ∷ ps) (λ no_certain m is. (let found : m ≡ high = same_numbers m high is in omega (arith, ints, found, other))))
    ]

-- ---- the pairs of some rows, of which a mask's count for certain

total_if : (b : Bool) (f : ℕ → ℤ) (r : ℕ) (rs : List ℕ) → total (map f (cond b (r ∷ rs) rs)) ≡ cond b (f r) (pos 0) +ℤ total (map f rs)
total_if true f r rs = refl
total_if false f r rs = omega (arith, ints)

module _ (e : End) (column : KnownColumn) (must : List Bool) where
  -- the rows whose numbers are added up: those that count for certain, and those that widen the sum
  abbrev pub adds : ℕ → Bool
  adds r = widens e (end_at e column r) || has_row must r

  pub shares : (rs : List ℕ) → total (map (share_at e) (map (pair_in column must) rs)) ≡ total (map (end_at e column) (filter adds rs))
  shares [] = refl
  shares (r ∷ rs) =
      ap (λ z. z +ℤ total (map (share_at e) (map (pair_in column must) rs))) (share_is e (has_row must r) (numbers_at column r))
      ∙ ap (λ z. cond (adds r) (end_at e column r) (pos 0) +ℤ z) (shares rs)
      ∙ sym (total_if (adds r) (end_at e column) r (filter adds rs))

  -- where some row is added up, the sum of the shares stands
  some_keeps : (rs : List ℕ) → 0 < length (filter adds rs) → list_any (keeps e) (map (pair_in column must) rs) ≡ true
  some_keeps [] some = absurd (omega arith)
  some_keeps (r ∷ rs) some =
      elim (cases_Bool (adds r)) [
        | inl t ↦ or_left (keeps e (pair_in column must r)) (list_any (keeps e) (map (pair_in column must) rs)) (row_keeps e (has_row must r) (numbers_at column r) t)
        | inr f ↦ (let rest : 0 < length (filter adds rs) = omega (arith, some, skipped (adds r) r (filter adds rs) f) in or_right (keeps e (pair_in column must r)) (list_any (keeps e) (map (pair_in column must) rs)) (some_keeps rs rest))
      ]

  pub stands : (rs : List ℕ) → 0 < length (filter adds rs) → total (map (share_at e) (map (pair_in column must) rs)) ≡ sum_at e (map (pair_in column must) rs)
  stands rs some = shares_stand e (map (pair_in column must) rs) (some_keeps rs some)

  -- where no row is, the outermost number stands alone
  none_adds : (rs : List ℕ) → length (filter adds rs) ≡ 0 → (certain_count (map (pair_in column must) rs) ≡ 0) × (widens e (furthest e (map (pair_in column must) rs)) ≡ false)
  none_adds [] none = (refl, none_stays e)
  none_adds (r ∷ []) none =
      elim (cases_Bool (adds r)) [
        | inl t ↦ absurd (omega (arith, none, passed (adds r) r [] t))
        | inr f ↦ (let parts = or_parts (widens e (end_at e column r)) (has_row must r) f in (rw parts.1 refl, one_stays e (has_row must r) (numbers_at column r) parts.0))
      ]
  none_adds (r ∷ s ∷ rs) none =
      elim (cases_Bool (adds r)) [
        | inl t ↦ absurd (omega (arith, none, passed (adds r) r (filter adds (s ∷ rs)) t))
        | inr f ↦
            (let parts = or_parts (widens e (end_at e column r)) (has_row must r) f in
            let rest = none_adds (s ∷ rs) (sym (skipped (adds r) r (filter adds (s ∷ rs)) f) ∙ none) in
            (rw parts.1 rest.0, both_stay e (has_row must r) (numbers_at column r) (pair_in column must s) (map (pair_in column must) rs) parts.0 rest.1))
      ]

  pub alone : (rs : List ℕ) → length (filter adds rs) ≡ 0 → furthest e (map (pair_in column must) rs) ≡ sum_at e (map (pair_in column must) rs)
  alone [] none = alone_of_none e
  alone (r ∷ rs) none =
      let facts = none_adds (r ∷ rs) none in
      let no_rows : filter adds (r ∷ rs) ≡ [] = no_element (filter adds (r ∷ rs)) none in
      alone_of_some e (pair_in column must r) (map (pair_in column must) rs) facts.0 facts.1 (shares (r ∷ rs) ∙ ap (λ xs. total (map (end_at e column) xs)) no_rows)
