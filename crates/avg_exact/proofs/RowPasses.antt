-- Passes over the rows, row by row.
use Rattle.std.proofs.Common.{◌≡◌, ℕ, suc, ◌+◌, ◌-◌, ◌*◌, ◌^◌, ◌<◌, ◌≤◌, ℤ, pos, negsuc, nat_abs, ◌*ℤ◌, ◌+ℤ◌, Bool, true, false, cond, ◌||◌, List, [], ◌∷◌, length, slice_get, refl, arith, filter, IfSome, Option, Some, None, FitsSigned, subst, sym, ap, ◌∙◌, inl, inr}
use Rattle.std.specs.Int.{int_max, int_min, w128}
use Rattle.std.specs.List.{cons_option}
use Rattle.std.specs.Option.{option_map}
use Rattle.std.proofs.Math.Nat.{mul-le-mul_left, mul-le-mul_right}
use Rattle.std.proofs.lemmas.Bool.{cond_both, cases_Bool}
use Rattle.std.proofs.lemmas.Int.{ints, clamps}
use Rattle.std.proofs.lemmas.Option.{slice_get-get_or}
use Rattle.interval_calc.specs.declared.Fraction.{Fraction}
use Rattle.interval_calc.specs.Intervals.{Interval}
use Rattle.query_model.specs.declared.bounds.Nullity.{Nullity}
use Rattle.query_model.specs.declared.bounds.Truth.{Truth}
use Rattle.query_model.specs.declared.bounds.Truth.TheVariants.{False, Unknown, True}
use Rattle.query_model.specs.Queries.{Aggregate}
use Rattle.query_model.specs.Answers.{every_row, total}
use Rattle.query_model.specs.Bounds.{Pair, highs, pair_of, pair_unless_false}
use Rattle.query_model.specs.Knowledge.{ranges_of}
use Rattle.query_model.specs.Truths.{and_of, null_of, span_of, truth_of, truth_of_number}
use Rattle.query_model.specs.Validity.{declared_ranges}
use Rattle.query_model.proofs.Queries.{ranges_ordered}
use Rattle.query_model.proofs.Spans.{span_inside, declared_outside}
use Rattle.round_engine.specs.Stages.{Stage}
use Rattle.round_engine.proofs.RowPairs.{plain_pair}
use Rattle.avg_exact.specs.declared.passes.End.{End}
use Rattle.avg_exact.specs.declared.passes.End.TheVariants.{Low, High}
use Rattle.avg_exact.specs.declared.passes.RowValue.{RowValue}
use Rattle.avg_exact.specs.declared.passes.Tally.{Tally}
use Rattle.avg_exact.specs.ExactAverages.{Cut}
use Rattle.avg_exact.specs.Passes.{FitsProduct, FitsRow, IsAveraged, all_rows, certainty_of, end_value, greatest_high, greatest_of, is_counted, is_taken, is_uncertain, item_at, least_of, least_taken, rows_from, seen, seen_at, size_at, taken_value, takes_value, tally_of, uncertain_count, value_of, with_row}

-- ---- one row

-- a fact on an item that is there
pub of_item : (stage : Stage) (item : ℕ) (fact : Aggregate → Type 0) → item < length stage.query.items → IfSome (slice_get stage.query.items item) fact → fact (item_at stage item)
of_item stage item fact there h = subst (λ o. IfSome o fact) (slice_get-get_or stage.query.items item every_row there) h

by_word : (end : End) (t : Truth) (span : Interval) →
    option_map value_of (option_map (seen end) (pair_unless_false t span)) ≡ option_map (λ (c : Bool). record { certain = c; value = end_value end span }) (certainty_of t)
by_word Low False span = refl
by_word Low Unknown span = refl
by_word Low True span = refl
by_word High False span = refl
by_word High Unknown span = refl
by_word High True span = refl

-- what a pass needs of a row, by what is known of the row
pub row_value : (stage : Stage) (item : ℕ) (end : End) (r : ℕ) (truth : Truth) (missing : Nullity) (span : Interval) → IsAveraged stage item →
    truth ≡ truth_of stage.query.pred (ranges_of stage.frame stage.known r) →
    IfSome (slice_get stage.query.items item) (λ i. missing ≡ null_of i.arg (ranges_of stage.frame stage.known r)) →
    IfSome (slice_get stage.query.items item) (λ i. span ≡ span_of i.arg (ranges_of stage.frame stage.known r)) →
    option_map value_of (seen_at stage item end r) ≡ option_map (λ (c : Bool). record { certain = c; value = end_value end span }) (certainty_of (and_of truth (truth_of_number missing)))
row_value stage item end r truth missing span averaged t n s =
    let i = item_at stage item in
    let ranges = ranges_of stage.frame stage.known r in
    let null = of_item stage item (λ i. missing ≡ null_of i.arg ranges) averaged.is_item n in
    let lies = of_item stage item (λ i. span ≡ span_of i.arg ranges) averaged.is_item s in
    let pair : pair_of stage.query i [] ranges ≡ pair_unless_false (and_of truth (truth_of_number missing)) span =
    plain_pair stage.query i ranges averaged.plain
    ∙ ap (λ u. pair_unless_false (and_of u (truth_of_number (null_of i.arg ranges))) (span_of i.arg ranges)) (sym t)
    ∙ ap (λ u. pair_unless_false (and_of truth (truth_of_number u)) (span_of i.arg ranges)) (sym null)
    ∙ ap (pair_unless_false (and_of truth (truth_of_number missing))) (sym lies) in
    ap (λ o. option_map value_of (option_map (seen end) o)) pair ∙ by_word end (and_of truth (truth_of_number missing)) span

-- ---- sizes

-- both ends of a row's span are no further from 0 than the declared ones
pub span_small : (stage : Stage) (item r : ℕ) (span : Interval) → IsAveraged stage item → r < stage.frame.rows →
    IfSome (slice_get stage.query.items item) (λ i. span ≡ span_of i.arg (ranges_of stage.frame stage.known r)) →
    (nat_abs span.low ≤ size_at stage item) × (nat_abs span.high ≤ size_at stage item)
span_small stage item r span averaged r_in s =
    let i = item_at stage item in
    let ranges = ranges_of stage.frame stage.known r in
    let lies = of_item stage item (λ i. span ≡ span_of i.arg ranges) averaged.is_item s in
    let inside = span_inside i.arg ranges (declared_ranges stage.frame) (ranges_ordered stage.frame stage.known r averaged.knowledge r_in) (declared_outside stage.frame stage.known r) in
    let ordered = inside.ordered in
    let low = inside.inside.low in
    let high = inside.inside.high in
    let at_low = ap (λ (s : Interval). s.low) lies in
    let at_high = ap (λ (s : Interval). s.high) lies in
    (omega (arith, ints), omega (arith, ints))

size_below : (n m : ℕ) → 1 ≤ n → n * m ≤ n * n * m
size_below n m h = (let more = mul-le-mul_right (n * m) h in omega arith)

small_size : (n m : ℕ) → FitsSigned w128 (pos (2 * n * n * m)) → 1 ≤ n → m < 2 ^ 127
small_size n m fits h =
    let f = fits.sfits in
    let one = mul-le-mul_right m h in
    let two = size_below n m h in
    omega arith

abs_fits : (z : ℤ) (m : ℕ) → nat_abs z ≤ m → m < 2 ^ 127 → FitsSigned w128 z
abs_fits (pos n) m h f = record { sfits = omega (arith, ints) }
abs_fits (negsuc n) m h f = record { sfits = omega (arith, ints) }

-- a sum of at most so many values fits
sum_small : (n m k : ℕ) (z : ℤ) → FitsSigned w128 (pos (2 * n * n * m)) → 1 ≤ n → k ≤ n → nat_abs z ≤ k * m → FitsSigned w128 z
sum_small n m k z fits some few h =
    let f = fits.sfits in
    let one = mul-le-mul_right m few in
    let two = size_below n m some in
    abs_fits z (k * m) h (omega arith)

size_of_product : (z : ℤ) (d : ℕ) → nat_abs (z *ℤ pos d) ≡ nat_abs z * d
size_of_product (pos n) d = omega (arith, ints)
size_of_product (negsuc n) d = omega (arith, ints)

product_small : (n m d : ℕ) (v : ℤ) → FitsSigned w128 (pos (2 * n * n * m)) → 1 ≤ n → d ≤ n → nat_abs v ≤ m → FitsSigned w128 (v *ℤ pos d)
product_small n m d v fits some few h =
    let f = fits.sfits in
    let one = mul-le-mul_right d h in
    let two = mul-le-mul_left m few in
    let three = size_below n m some in
    let is = size_of_product v d in
    abs_fits (v *ℤ pos d) (nat_abs v * d) (omega arith) (omega arith)

pub size_fits : (stage : Stage) (item r : ℕ) → IsAveraged stage item → r < stage.frame.rows → size_at stage item < 2 ^ 127
size_fits stage item r averaged r_in = small_size stage.frame.rows (size_at stage item) averaged.fits (omega arith)

pub value_fits : (stage : Stage) (item r d : ℕ) (v : ℤ) → IsAveraged stage item → r < stage.frame.rows → d ≤ stage.frame.rows → nat_abs v ≤ size_at stage item → FitsSigned w128 (v *ℤ pos d)
value_fits stage item r d v averaged r_in few small = product_small stage.frame.rows (size_at stage item) d v averaged.fits (omega arith) few small

-- a tally of the first rows
pub record IsSmallTally (stage : Stage) (item r : ℕ) (tally : Tally) : Type 0 where
  pub sum : nat_abs tally.sum ≤ r * size_at stage item
  pub rows : tally.rows ≤ r
  pub taken : tally.taken ≤ r

fits_product : (stage : Stage) (item r : ℕ) (over : Option Fraction) (row : RowValue) → IsAveraged stage item → r < stage.frame.rows →
    IfSome over (λ f. f.den ≤ stage.frame.rows) → nat_abs row.value ≤ size_at stage item → FitsProduct over row
fits_product stage item r None row averaged r_in few small = tt
fits_product stage item r (Some f) row averaged r_in few small = value_fits stage item r f.den row.value averaged r_in few small

pub fits_row : (stage : Stage) (item r : ℕ) (over : Option Fraction) (row : Option RowValue) (tally : Tally) → IsAveraged stage item → r < stage.frame.rows →
    IfSome over (λ f. f.den ≤ stage.frame.rows) → IfSome row (λ v. nat_abs v.value ≤ size_at stage item) → IsSmallTally stage item r tally → FitsRow over row tally
fits_row stage item r over None tally averaged r_in few small t = tt
fits_row stage item r over (Some v) tally averaged r_in few small t =
    let sum = t.sum in
    let rows = t.rows in
    let taken = t.taken in
    let most = averaged.few in
    let apart : nat_abs (tally.sum +ℤ v.value) ≤ nat_abs tally.sum + nat_abs v.value = omega (arith, ints) in (
      fits_product stage item r over v averaged r_in few small,
      sum_small stage.frame.rows (size_at stage item) (suc r) (tally.sum +ℤ v.value) averaged.fits (omega arith) (omega arith) (omega arith),
      omega arith,
      omega arith,
    )

share_size : (b : Bool) (x : ℤ) (m : ℕ) → nat_abs x ≤ m → nat_abs (cond b x (pos 0)) ≤ m
share_size true x m h = h
share_size false x m h = omega (arith, ints)

one_or_none : (b : Bool) → cond b 1 0 ≤ 1
one_or_none true = omega arith
one_or_none false = omega arith

pub small_with_row : (stage : Stage) (item r : ℕ) (over : Option Fraction) (row : Option RowValue) (tally : Tally) →
    IfSome row (λ v. nat_abs v.value ≤ size_at stage item) → IsSmallTally stage item r tally → IsSmallTally stage item (r + 1) (with_row over row tally)
small_with_row stage item r over None tally small t =
    let sum = t.sum in
    let rows = t.rows in
    let taken = t.taken in
    record { sum = omega arith; rows = omega arith; taken = omega arith }
small_with_row stage item r over (Some v) tally small t =
    let sum = t.sum in
    let rows = t.rows in
    let taken = t.taken in
    let counted = v.certain || takes_value over v in
    let share = share_size counted v.value (size_at stage item) small in
    let apart : nat_abs (tally.sum +ℤ cond counted v.value (pos 0)) ≤ nat_abs tally.sum + nat_abs (cond counted v.value (pos 0)) = omega (arith, ints) in
    let one = one_or_none counted in
    let two = one_or_none (takes_value over v) in
    record { sum = omega arith; rows = omega arith; taken = omega arith }

-- ---- loops over the rows

-- the rows that are left: one, and the others
pub rows_step : (stage : Stage) (item : ℕ) (end : End) (r : ℕ) → r < stage.frame.rows →
    rows_from stage item end r (stage.frame.rows - r) ≡ cons_option (seen_at stage item end r) (rows_from stage item end (r + 1) (stage.frame.rows - (r + 1)))
rows_step stage item end r r_in =
    let more : stage.frame.rows - r ≡ suc (stage.frame.rows - (r + 1)) = omega arith in
    ap (rows_from stage item end r) more

-- two tallies together
abbrev pub together : Tally → Tally → Tally
together t u = record { sum = t.sum +ℤ u.sum; rows = t.rows + u.rows; taken = t.taken + u.taken }

pub same_tally : (a b : Tally) → a.sum ≡ b.sum → a.rows ≡ b.rows → a.taken ≡ b.taken → a ≡ b
same_tally a b s r t = grind (arith, s, r, t)

tally_step : (over : Option Fraction) (p : Pair) (ps : List Pair) (t : Tally) →
    together (with_row over (Some (value_of p)) t) (tally_of over ps) ≡ together t (tally_of over (p ∷ ps))
tally_step over p ps t =
    same_tally (together (with_row over (Some (value_of p)) t) (tally_of over ps)) (together t (tally_of over (p ∷ ps)))
    (cond_both (is_counted over p) (p ∷ filter (is_counted over) ps) (filter (is_counted over) ps)
    (λ qs. (t.sum +ℤ cond (is_counted over p) p.high (pos 0)) +ℤ total (highs (filter (is_counted over) ps)) ≡ t.sum +ℤ total (highs qs))
    (λ b. rw b (omega (arith, ints))) (λ b. rw b (omega (arith, ints))))
    (counted (is_counted over) t.rows)
    (counted (is_taken over) t.taken)
  where
    counted : (test : Pair → Bool) (n : ℕ) → (n + cond (test p) 1 0) + length (filter test ps) ≡ n + length (filter test (p ∷ ps))
    counted test n = elim (cases_Bool (test p)) [ inl b ↦ rw b (omega arith) | inr b ↦ rw b (omega arith) ]

-- the tally so far with that of the rows that are left is that of all
abbrev pub HasTally : Stage → ℕ → End → Option Fraction → ℕ → Tally → Type 0
HasTally stage item end over r t =
    together t (tally_of over (rows_from stage item end r (stage.frame.rows - r))) ≡ tally_of over (all_rows stage item end)

with_rest : (over : Option Fraction) (s : Option Pair) (ps : List Pair) (t : Tally) →
    together (with_row over (option_map value_of s) t) (tally_of over ps) ≡ together t (tally_of over (cons_option s ps))
with_rest over None ps t = refl
with_rest over (Some p) ps t = tally_step over p ps t

pub tally_goes_on : (stage : Stage) (item : ℕ) (end : End) (over : Option Fraction) (r : ℕ) (row : Option RowValue) (t : Tally) → r < stage.frame.rows →
    row ≡ option_map value_of (seen_at stage item end r) → HasTally stage item end over r t → HasTally stage item end over (r + 1) (with_row over row t)
tally_goes_on stage item end over r row t r_in e h =
    let rest = rows_from stage item end (r + 1) (stage.frame.rows - (r + 1)) in
    ap (λ o. together (with_row over o t) (tally_of over rest)) e
    ∙ with_rest over (seen_at stage item end r) rest t
    ∙ ap (λ ps. together t (tally_of over ps)) (sym (rows_step stage item end r r_in)) ∙ h

-- ---- the least and the greatest

min_assoc : (x y z : ℤ) → int_min (int_min x y) z ≡ int_min x (int_min y z)
min_assoc x y z = omega (arith, ints, clamps)

max_assoc : (x y z : ℤ) → int_max (int_max x y) z ≡ int_max x (int_max y z)
max_assoc x y z = omega (arith, ints, clamps)

least_assoc : (a b c : Cut) → least_of (least_of a b) c ≡ least_of a (least_of b c)
least_assoc None b c = refl
least_assoc (Some x) None c = refl
least_assoc (Some x) (Some y) None = refl
least_assoc (Some x) (Some y) (Some z) = ap (λ v. Some v) (min_assoc x y z)

greatest_assoc : (a b c : Cut) → greatest_of (greatest_of a b) c ≡ greatest_of a (greatest_of b c)
greatest_assoc None b c = refl
greatest_assoc (Some x) None c = refl
greatest_assoc (Some x) (Some y) None = refl
greatest_assoc (Some x) (Some y) (Some z) = ap (λ v. Some v) (max_assoc x y z)

abbrev pub HasLeast : Stage → ℕ → End → Fraction → ℕ → Cut → Type 0
HasLeast stage item end over r c = least_of c (least_taken over (rows_from stage item end r (stage.frame.rows - r))) ≡ least_taken over (all_rows stage item end)

abbrev pub HasGreatest : Stage → ℕ → End → ℕ → Cut → Type 0
HasGreatest stage item end r c = greatest_of c (greatest_high (rows_from stage item end r (stage.frame.rows - r))) ≡ greatest_high (all_rows stage item end)

least_rest : (over : Fraction) (s : Option Pair) (ps : List Pair) → least_of (taken_value over (option_map value_of s)) (least_taken over ps) ≡ least_taken over (cons_option s ps)
least_rest over None ps = refl
least_rest over (Some p) ps = refl

greatest_rest : (s : Option Pair) (ps : List Pair) → greatest_of (option_map (λ (v : RowValue). v.value) (option_map value_of s)) (greatest_high ps) ≡ greatest_high (cons_option s ps)
greatest_rest None ps = refl
greatest_rest (Some p) ps = refl

pub least_goes_on : (stage : Stage) (item : ℕ) (end : End) (over : Fraction) (r : ℕ) (row : Option RowValue) (c : Cut) → r < stage.frame.rows →
    row ≡ option_map value_of (seen_at stage item end r) → HasLeast stage item end over r c → HasLeast stage item end over (r + 1) (least_of c (taken_value over row))
least_goes_on stage item end over r row c r_in e h =
    let rest = rows_from stage item end (r + 1) (stage.frame.rows - (r + 1)) in
    ap (λ o. least_of (least_of c (taken_value over o)) (least_taken over rest)) e
    ∙ least_assoc c (taken_value over (option_map value_of (seen_at stage item end r))) (least_taken over rest)
    ∙ ap (least_of c) (least_rest over (seen_at stage item end r) rest ∙ ap (least_taken over) (sym (rows_step stage item end r r_in))) ∙ h

pub greatest_goes_on : (stage : Stage) (item : ℕ) (end : End) (r : ℕ) (row : Option RowValue) (c : Cut) → r < stage.frame.rows →
    row ≡ option_map value_of (seen_at stage item end r) → HasGreatest stage item end r c → HasGreatest stage item end (r + 1) (greatest_of c (option_map (λ (v : RowValue). v.value) row))
greatest_goes_on stage item end r row c r_in e h =
    let rest = rows_from stage item end (r + 1) (stage.frame.rows - (r + 1)) in
    ap (λ o. greatest_of (greatest_of c (option_map (λ (v : RowValue). v.value) o)) (greatest_high rest)) e
    ∙ greatest_assoc c (option_map (λ (v : RowValue). v.value) (option_map value_of (seen_at stage item end r))) (greatest_high rest)
    ∙ ap (greatest_of c) (greatest_rest (seen_at stage item end r) rest ∙ ap greatest_high (sym (rows_step stage item end r r_in))) ∙ h

-- ---- sizes of what is found

pub end_small : (end : End) (span : Interval) (m : ℕ) → nat_abs span.low ≤ m → nat_abs span.high ≤ m → nat_abs (end_value end span) ≤ m
end_small Low span m l h = omega (arith, ints)
end_small High span m l h = h

min_small : (x y : ℤ) → nat_abs x < 2 ^ 127 → nat_abs y < 2 ^ 127 → nat_abs (int_min x y) < 2 ^ 127
min_small x y h g = omega (arith, ints, clamps)

max_small : (x y : ℤ) → nat_abs x < 2 ^ 127 → nat_abs y < 2 ^ 127 → nat_abs (int_max x y) < 2 ^ 127
max_small x y h g = omega (arith, ints, clamps)

-- a number that may be there can be negated
abbrev pub CutTurns : Cut → Type 0
CutTurns c = IfSome c (λ v. nat_abs v < 2 ^ 127)

pub least_turns : (a b : Cut) → CutTurns a → CutTurns b → CutTurns (least_of a b)
least_turns None b h g = g
least_turns (Some x) None h g = h
least_turns (Some x) (Some y) h g = min_small x y h g

pub greatest_turns : (a b : Cut) → CutTurns a → CutTurns b → CutTurns (greatest_of a b)
greatest_turns None b h g = g
greatest_turns (Some x) None h g = h
greatest_turns (Some x) (Some y) h g = max_small x y h g

pub value_turns : (m : ℕ) (row : Option RowValue) → m < 2 ^ 127 → IfSome row (λ v. nat_abs v.value ≤ m) → CutTurns (option_map (λ (v : RowValue). v.value) row)
value_turns m None top small = tt
value_turns m (Some v) top small = omega arith

pub taken_turns : (m : ℕ) (over : Fraction) (row : Option RowValue) → m < 2 ^ 127 → IfSome row (λ v. nat_abs v.value ≤ m) → CutTurns (taken_value over row)
taken_turns m over None top small = tt
taken_turns m over (Some v) top small = cond_both (takes_value (Some over) v) (Some v.value) None CutTurns (λ _. omega arith) (λ _. tt)

pub value_product : (stage : Stage) (item r d : ℕ) (row : Option RowValue) → IsAveraged stage item → r < stage.frame.rows → d ≤ stage.frame.rows →
    IfSome row (λ v. nat_abs v.value ≤ size_at stage item) → IfSome row (λ v. FitsSigned w128 (v.value *ℤ pos d))
value_product stage item r d None averaged r_in few small = tt
value_product stage item r d (Some v) averaged r_in few small = value_fits stage item r d v.value averaged r_in few small

-- ---- uncertain rows

abbrev pub HasUncertain : Stage → ℕ → End → ℕ → ℕ → Type 0
HasUncertain stage item end r n = n + uncertain_count (rows_from stage item end r (stage.frame.rows - r)) ≡ uncertain_count (all_rows stage item end)

uncertain_rest : (n : ℕ) (s : Option Pair) (ps : List Pair) → (n + cond (is_uncertain (option_map value_of s)) 1 0) + uncertain_count ps ≡ n + uncertain_count (cons_option s ps)
uncertain_rest n None ps = omega arith
uncertain_rest n (Some p) ps = elim (cases_Bool p.certain) [ inl b ↦ rw b (omega arith) | inr b ↦ rw b (omega arith) ]

pub uncertain_goes_on : (stage : Stage) (item : ℕ) (end : End) (r : ℕ) (row : Option RowValue) (n : ℕ) → r < stage.frame.rows →
    row ≡ option_map value_of (seen_at stage item end r) → HasUncertain stage item end r n → HasUncertain stage item end (r + 1) (n + cond (is_uncertain row) 1 0)
uncertain_goes_on stage item end r row n r_in e h =
    let rest = rows_from stage item end (r + 1) (stage.frame.rows - (r + 1)) in
    ap (λ o. (n + cond (is_uncertain o) 1 0) + uncertain_count rest) e
    ∙ uncertain_rest n (seen_at stage item end r) rest
    ∙ ap (λ ps. n + uncertain_count ps) (sym (rows_step stage item end r r_in)) ∙ h

pub uncertain_few : (stage : Stage) (item r n : ℕ) (b : Bool) → IsAveraged stage item → r < stage.frame.rows → n ≤ r → n + cond b 1 0 ≤ r + 1
uncertain_few stage item r n b averaged r_in few = (let one = one_or_none b in omega arith)
