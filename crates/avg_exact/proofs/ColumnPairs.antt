-- The pairs of an average over a bare column, by lists of its rows.
use Rattle.std.proofs.Common.{◌≡◌, ℕ, zero, suc, ◌+◌, ◌<◌, ◌≤◌, nat_le, ℤ, pos, ◌+ℤ◌, Bool, true, false, cond, not, ◌&&◌, ◌||◌, List, [], ◌∷◌, length, map, filter, get_or, count_by, Option, Some, None, refl, arith, subst, sym, ap, ◌∙◌}
use Rattle.std.specs.List.{cons_option, filter_map, range_with_len}
use Rattle.std.specs.Option.{option_map}
use Rattle.std.specs.Simd.Lanes.{zip2}
use Rattle.std.proofs.lemmas.Bool.{true≢false}
use Rattle.std.proofs.lemmas.Bool.Decides.{nat_tests}
use Rattle.std.proofs.lemmas.Int.{ints}
use Rattle.std.proofs.lemmas.List.{length-map}
use Rattle.std.proofs.lemmas.List.FromFn.{get_or-map-range_with_len}
use Rattle.std.proofs.lemmas.Simd.{get_or-zip2}
use Rattle.interval_calc.specs.Intervals.{Interval}
use Rattle.interval_calc.specs.declared.Fraction.{Fraction}
use Rattle.query_model.specs.declared.bounds.Nullity.{Nullity}
use Rattle.query_model.specs.declared.bounds.Nullity.TheVariants.{Never, Possibly, Always}
use Rattle.query_model.specs.declared.bounds.Truth.{Truth}
use Rattle.query_model.specs.declared.bounds.Truth.TheVariants.{False, Unknown, True}
use Rattle.query_model.specs.Answers.{total}
use Rattle.query_model.specs.Bounds.{Pair, highs, pair_unless_false}
use Rattle.query_model.specs.Knowledge.{range_of, ranges_of}
use Rattle.query_model.specs.Truths.{and_of, may_be_number, truth_of, truth_of_number}
use Rattle.known_column.specs.Columns.{number_of}
use Rattle.aggregates.specs.Selections.{has_row, rows_in}
use Rattle.round_engine.specs.Stages.{Stage}
use Rattle.round_engine.proofs.Rows.{count_rows}
use Rattle.avg_exact.specs.declared.passes.End.{End}
use Rattle.avg_exact.specs.declared.passes.End.TheVariants.{Low, High}
use Rattle.avg_exact.specs.declared.passes.Tally.{Tally}
use Rattle.avg_exact.specs.declared.planes.Part.TheVariants.{Certain, Reached}
use Rattle.avg_exact.specs.Blocks.{IsOverColumn, IsThreshold, IsValued, column_of, is_sure_row, is_unsure_row, lies_above, part_rows, reaches, rows_with, value_in}
use Rattle.avg_exact.specs.ExactAverages.{negative}
use Rattle.avg_exact.specs.Measures.{end_total}
use Rattle.avg_exact.specs.Passes.{all_rows, end_value, is_counted, is_taken, seen, seen_at, tally_of, uncertain_count}
use Rattle.avg_exact.specs.Ways.{part_tally, taken_tally}
use Rattle.avg_exact.proofs.Reaching.{all_pass}
use Rattle.avg_exact.proofs.RowPasses.{same_tally}
use Rattle.avg_exact.proofs.RowLists.{column_pair, long, long_part, long_rows}

-- ---- the pairs that pass a test, and the rows of a list

-- a row that may give a pair is on the list where its pair passes, and this is its value
abbrev pub Agrees : (Pair → Bool) → Option Pair → Bool → ℤ → Type 0
Agrees test None has value = has ≡ false
Agrees test (Some p) has value = (test p ≡ has) × (p.high ≡ value)

kept_step : (test : Pair → Bool) (o : Option Pair) (ps : List Pair) (v : ℕ → ℤ) (r : ℕ) (b : Bool) (rs : List ℕ) → Agrees test o b (v r) →
    highs (filter test ps) ≡ map v rs → highs (filter test (cons_option o ps)) ≡ map v (cond b (r ∷ rs) rs)
kept_step test None ps v r b rs e same = same ∙ ap (λ b. map v (cond b (r ∷ rs) rs)) (sym e)
kept_step test (Some p) ps v r true rs e same = ap (λ b. highs (cond b (p ∷ filter test ps) (filter test ps))) e.0 ∙ ap (λ z. z ∷ highs (filter test ps)) e.1 ∙ ap (λ l. v r ∷ l) same
kept_step test (Some p) ps v r false rs e same = ap (λ b. highs (cond b (p ∷ filter test ps) (filter test ps))) e.0 ∙ same

kept : (test : Pair → Bool) (f : ℕ → Option Pair) (has : ℕ → Bool) (v : ℕ → ℤ) (a n : ℕ) → ((r : ℕ) → a ≤ r → r < a + n → Agrees test (f r) (has r) (v r)) →
    highs (filter test (filter_map f (range_with_len a n))) ≡ map v (filter has (range_with_len a n))
kept test f has v a zero each = refl
kept test f has v a (suc n) each =
    kept_step test (f a) (filter_map f (range_with_len (a + 1) n)) v a (has a) (filter has (range_with_len (a + 1) n)) (each a (omega arith) (omega arith))
    (kept test f has v (a + 1) n (λ r above below. each r (omega arith) (omega arith)))

no_rows : (a n : ℕ) → filter (λ r. false) (range_with_len a n) ≡ []
no_rows a zero = refl
no_rows a (suc n) = no_rows (a + 1) n

-- ---- what one row gives, by what is known of it

sure_agrees : (end : End) (t : Truth) (span : Interval) →
    Agrees (λ p. p.certain) (option_map (seen end) (pair_unless_false t span)) (is_sure_row (option_map (seen High) (pair_unless_false t span))) (end_value end span)
sure_agrees Low False span = refl
sure_agrees Low Unknown span = (refl, refl)
sure_agrees Low True span = (refl, refl)
sure_agrees High False span = refl
sure_agrees High Unknown span = (refl, refl)
sure_agrees High True span = (refl, refl)

unsure_agrees : (end : End) (t : Truth) (span : Interval) →
    Agrees (λ p. not p.certain) (option_map (seen end) (pair_unless_false t span)) (is_unsure_row (option_map (seen High) (pair_unless_false t span))) (end_value end span)
unsure_agrees Low False span = refl
unsure_agrees Low Unknown span = (refl, refl)
unsure_agrees Low True span = (refl, refl)
unsure_agrees High False span = refl
unsure_agrees High Unknown span = (refl, refl)
unsure_agrees High True span = (refl, refl)

-- an uncertain row that may have a value is taken where it lies above the fraction
taken_agrees : (f : Fraction) (end : End) (b : Bool) (t : Truth) (w : Nullity) (span : Interval) → (may_be_number w ≡ true → lies_above f (end_value end span) ≡ b) →
    Agrees (is_taken (Some f)) (option_map (seen end) (pair_unless_false (and_of t (truth_of_number w)) span))
    (is_unsure_row (option_map (seen High) (pair_unless_false (and_of t (truth_of_number w)) span)) && b) (end_value end span)
taken_agrees f Low b False w span above = refl
taken_agrees f High b False w span above = refl
taken_agrees f Low b Unknown Never span above = (above refl, refl)
taken_agrees f High b Unknown Never span above = (above refl, refl)
taken_agrees f Low b Unknown Possibly span above = (above refl, refl)
taken_agrees f High b Unknown Possibly span above = (above refl, refl)
taken_agrees f Low b Unknown Always span above = refl
taken_agrees f High b Unknown Always span above = refl
taken_agrees f Low b True Never span above = (refl, refl)
taken_agrees f High b True Never span above = (refl, refl)
taken_agrees f Low b True Possibly span above = (above refl, refl)
taken_agrees f High b True Possibly span above = (above refl, refl)
taken_agrees f Low b True Always span above = refl
taken_agrees f High b True Always span above = refl

-- ---- an end at the rows of a list

module _ (stage : Stage) (item c : ℕ) (over : IsOverColumn stage item c) (end : End) where
  -- the value of a row at the end
  abbrev pub row_value : ℕ → ℤ
  row_value r = value_in end (column_of stage c) (get_or (column_of stage c).known.prefixes r 0)

  span : ℕ → Interval
  span r = (ranges_of stage.frame stage.known r c).numbers

  null : ℕ → Nullity
  null r = (ranges_of stage.frame stage.known r c).null

  seen_is : (e : End) (r : ℕ) → seen_at stage item e r
      ≡ option_map (seen e) (pair_unless_false (and_of (truth_of stage.query.pred (ranges_of stage.frame stage.known r)) (truth_of_number (ranges_of stage.frame stage.known r c).null)) (ranges_of stage.frame stage.known r c).numbers)
  seen_is e r = ap (option_map (seen e)) (column_pair stage item c over r)

  -- the rows of a list of rows that pass a test
  has_tested : (test : Option Pair → Bool) (r : ℕ) → r < stage.frame.rows → has_row (rows_with stage item test) r ≡ test (seen_at stage item High r)
  has_tested test r there = get_or-map-range_with_len (λ r. test (seen_at stage item High r)) 0 stage.frame.rows r r false there (omega arith)

  in_list : (test : Pair → Bool) (rows : List Bool) → length rows ≡ stage.frame.rows →
      ((r : ℕ) → r < stage.frame.rows → Agrees test (seen_at stage item end r) (has_row rows r) (row_value r)) →
      highs (filter test (all_rows stage item end)) ≡ map (λ r. row_value r) (rows_in rows)
  in_list test rows is each =
      kept test (seen_at stage item end) (has_row rows) (λ r. row_value r) 0 stage.frame.rows (λ r above below. each r (omega arith))
      ∙ ap (λ n. map (λ r. row_value r) (filter (has_row rows) (range_with_len 0 n))) (sym is)

  pub sure_list : highs (filter (λ p. p.certain) (all_rows stage item end)) ≡ map (λ r. row_value r) (rows_in (rows_with stage item is_sure_row))
  sure_list =
      in_list (λ p. p.certain) (rows_with stage item is_sure_row) (long_rows stage item c over is_sure_row)
      (λ r there. let t = and_of (truth_of stage.query.pred (ranges_of stage.frame stage.known r)) (truth_of_number (ranges_of stage.frame stage.known r c).null) in
      subst (λ o. Agrees (λ p. p.certain) o (has_row (rows_with stage item is_sure_row) r) (row_value r)) (sym (seen_is end r))
      (subst (λ b. Agrees (λ p. p.certain) (option_map (seen end) (pair_unless_false t (ranges_of stage.frame stage.known r c).numbers)) b (row_value r))
      (sym (has_tested is_sure_row r there ∙ ap is_sure_row (seen_is High r))) (sure_agrees end t (ranges_of stage.frame stage.known r c).numbers)))

  pub unsure_list : highs (filter (λ p. not p.certain) (all_rows stage item end)) ≡ map (λ r. row_value r) (rows_in (rows_with stage item is_unsure_row))
  unsure_list =
      in_list (λ p. not p.certain) (rows_with stage item is_unsure_row) (long_rows stage item c over is_unsure_row)
      (λ r there. let t = and_of (truth_of stage.query.pred (ranges_of stage.frame stage.known r)) (truth_of_number (ranges_of stage.frame stage.known r c).null) in
      subst (λ o. Agrees (λ p. not p.certain) o (has_row (rows_with stage item is_unsure_row) r) (row_value r)) (sym (seen_is end r))
      (subst (λ b. Agrees (λ p. not p.certain) (option_map (seen end) (pair_unless_false t (ranges_of stage.frame stage.known r c).numbers)) b (row_value r))
      (sym (has_tested is_unsure_row r there ∙ ap is_unsure_row (seen_is High r))) (unsure_agrees end t (ranges_of stage.frame stage.known r c).numbers)))

  taken_row : (f : Fraction) (b : Bool) (r : ℕ) → (may_be_number (ranges_of stage.frame stage.known r c).null ≡ true → lies_above f (row_value r) ≡ b) →
      Agrees (is_taken (Some f)) (seen_at stage item end r) (is_unsure_row (seen_at stage item High r) && b) (row_value r)
  taken_row f b r above =
      let span = (ranges_of stage.frame stage.known r c).numbers in
      let t = truth_of stage.query.pred (ranges_of stage.frame stage.known r) in
      let w = (ranges_of stage.frame stage.known r c).null in
      subst (λ o. Agrees (is_taken (Some f)) o (is_unsure_row (seen_at stage item High r) && b) (row_value r)) (sym (seen_is end r))
      (subst (λ o. Agrees (is_taken (Some f)) (option_map (seen end) (pair_unless_false (and_of t (truth_of_number w)) span)) (is_unsure_row o && b) (row_value r))
      (sym (seen_is High r)) (taken_agrees f end b t w span above))

  valued : (r : ℕ) → r < stage.frame.rows → may_be_number (ranges_of stage.frame stage.known r c).null ≡ true → IsValued (column_of stage c) (get_or (column_of stage c).known.prefixes r 0)
  valued r there some = (over.averaged.knowledge.legal c r over.column there, some)

  pub taken_list : (f : Fraction) (t : ℕ) → IsThreshold (column_of stage c) end f (Some t) →
      highs (filter (is_taken (Some f)) (all_rows stage item end)) ≡ map (λ r. row_value r) (rows_in (part_rows stage item c (Reached end t)))
  taken_list f t threshold =
      let column = column_of stage c in
      let unsure = rows_with stage item is_unsure_row in
      let test = λ (p : ℕ). reaches end t (number_of column.ends column.known.read p) in
      in_list (is_taken (Some f)) (part_rows stage item c (Reached end t)) (long_part stage item c over (Reached end t))
      (λ r there. let p = get_or column.known.prefixes r 0 in
      let all = long_rows stage item c over is_unsure_row in
      let wide = long stage item c over in
      let here : has_row (part_rows stage item c (Reached end t)) r ≡ (has_row unsure r && test p) =
      get_or-zip2 (λ has p. has && test p) unsure column.known.prefixes r false 0 false (omega (arith, all)) (omega (arith, wide)) in
      subst (λ b. Agrees (is_taken (Some f)) (seen_at stage item end r) b (row_value r))
      (sym (here ∙ ap (λ b. b && test p) (has_tested is_unsure_row r there)))
      (taken_row f (test p) r (λ some. threshold.1 p (valued r there some))))

  pub none_taken : (f : Fraction) → IsThreshold (column_of stage c) end f None → filter (is_taken (Some f)) (all_rows stage item end) ≡ []
  none_taken f threshold =
      no_highs (filter (is_taken (Some f)) (all_rows stage item end))
      (kept (is_taken (Some f)) (seen_at stage item end) (λ r. false) (λ r. row_value r) 0 stage.frame.rows
      (λ r above below. subst (λ b. Agrees (is_taken (Some f)) (seen_at stage item end r) b (row_value r)) (and_false (is_unsure_row (seen_at stage item High r)))
      (taken_row f false r (λ some. threshold (get_or (column_of stage c).known.prefixes r 0) (valued r (omega arith) some))))
      ∙ ap (map (λ r. row_value r)) (no_rows 0 stage.frame.rows))
    where
      and_false : (b : Bool) → (b && false) ≡ false
      and_false true = refl
      and_false false = refl

      no_highs : (ps : List Pair) → highs ps ≡ [] → ps ≡ []
      no_highs [] e = refl
      no_highs (p ∷ ps) e = absurd (omega (arith, ap length e))

  -- ---- what the rows of a list come to

  negated_total : (f : ℕ → ℤ) (rs : List ℕ) → total (map (λ r. negative (f r)) rs) ≡ negative (total (map f rs))
  negated_total f [] = omega (arith, ints)
  negated_total f (r ∷ rs) = (let rest = negated_total f rs in omega (arith, ints, rest))

pub listed_total : (stage : Stage) (item c : ℕ) (over : IsOverColumn stage item c) (end : End) (rows : List Bool) →
    total (map (λ r. row_value stage item c over end r) (rows_in rows)) ≡ end_total end (column_of stage c) rows
listed_total stage item c over Low rows = negated_total stage item c over Low (λ r. (range_of (column_of stage c).ends (column_of stage c).known.read (get_or (column_of stage c).known.prefixes r 0)).numbers.low) (rows_in rows)
listed_total stage item c over High rows = refl

pub listed_count : (ps : List Pair) (v : ℕ → ℤ) (rows : List Bool) → highs ps ≡ map v (rows_in rows) → length ps ≡ count_by (λ b. b) rows
listed_count ps v rows e = sym (as_many ps) ∙ ap length e ∙ length-map (rows_in rows) v ∙ sym (count_rows rows)
  where
    as_many : (ps : List Pair) → length (highs ps) ≡ length ps
    as_many [] = refl
    as_many (p ∷ ps) = ap suc (as_many ps)

-- ---- tallies

-- the certain pairs and the taken ones
none_without : (ps : List Pair) → filter (is_taken None) ps ≡ []
none_without [] = refl
none_without (p ∷ ps) = none_without ps

taken_apart : (over : Option Fraction) (p : Pair) → p.certain ≡ true → is_taken over p ≡ false
taken_apart None p e = refl
taken_apart (Some f) p e = ap (λ b. not b && lies_above f p.high) e

pushed : (b : Bool) (p : Pair) (qs : List Pair) → total (highs (cond b (p ∷ qs) qs)) ≡ cond b p.high (pos 0) +ℤ total (highs qs)
pushed true p qs = refl
pushed false p qs = omega (arith, ints)

one_more : (b : Bool) (p : Pair) (qs : List Pair) → length (cond b (p ∷ qs) qs) ≡ cond b 1 0 + length qs
one_more true p qs = omega arith
one_more false p qs = omega arith

either_value : (b t : Bool) (z : ℤ) → (b ≡ true → t ≡ false) → cond (b || t) z (pos 0) ≡ cond b z (pos 0) +ℤ cond t z (pos 0)
either_value true true z h = absurd (true≢false (h refl))
either_value true false z h = omega (arith, ints)
either_value false true z h = omega (arith, ints)
either_value false false z h = omega (arith, ints)

either_count : (b t : Bool) → (b ≡ true → t ≡ false) → cond {A = ℕ} (b || t) 1 0 ≡ cond {A = ℕ} b 1 0 + cond {A = ℕ} t 1 0
either_count true true h = absurd (true≢false (h refl))
either_count true false h = refl
either_count false true h = refl
either_count false false h = refl

pub split_total : (over : Option Fraction) (ps : List Pair) →
    total (highs (filter (is_counted over) ps)) ≡ total (highs (filter (λ p. p.certain) ps)) +ℤ total (highs (filter (is_taken over) ps))
split_total over [] = omega (arith, ints)
split_total over (p ∷ ps) =
    let rest = split_total over ps in
    let all = pushed (is_counted over p) p (filter (is_counted over) ps) in
    let sure = pushed p.certain p (filter (λ p. p.certain) ps) in
    let taken = pushed (is_taken over p) p (filter (is_taken over) ps) in
    let here = either_value p.certain (is_taken over p) p.high (taken_apart over p) in
    parts (total (highs (filter (is_counted over) ps))) (total (highs (filter (λ p. p.certain) ps))) (total (highs (filter (is_taken over) ps))) (total (highs (filter (is_counted over) (p ∷ ps))))
    (total (highs (filter (λ p. p.certain) (p ∷ ps)))) (total (highs (filter (is_taken over) (p ∷ ps)))) (cond (is_counted over p) p.high (pos 0)) (cond p.certain p.high (pos 0)) (cond (is_taken over p) p.high (pos 0))
    all sure taken here rest
  where
    parts : (a b c a' b' c' x y z : ℤ) → a' ≡ x +ℤ a → b' ≡ y +ℤ b → c' ≡ z +ℤ c → x ≡ y +ℤ z → a ≡ b +ℤ c → a' ≡ b' +ℤ c'
    parts a b c a' b' c' x y z e f g h i = omega (arith, ints)

pub split_count : (over : Option Fraction) (ps : List Pair) → length (filter (is_counted over) ps) ≡ length (filter (λ p. p.certain) ps) + length (filter (is_taken over) ps)
split_count over [] = refl
split_count over (p ∷ ps) =
    let rest = split_count over ps in
    let all = one_more (is_counted over p) p (filter (is_counted over) ps) in
    let sure = one_more p.certain p (filter (λ p. p.certain) ps) in
    let taken = one_more (is_taken over p) p (filter (is_taken over) ps) in
    let here = either_count p.certain (is_taken over p) (taken_apart over p) in
    omega (arith, rest, all, sure, taken, here)

at_least_zero : (n : ℕ) → nat_le 0 n ≡ true
at_least_zero n = grind (arith, nat_tests)

pub every_row : (number : ℕ → ℕ) (rows : List Bool) (ps : List ℕ) → length rows ≡ length ps → zip2 (λ has p. has && reaches High 0 (number p)) rows ps ≡ rows
every_row number rows ps e = sym (all_pass (λ p. reaches High 0 (number p)) rows ps e (λ r h has. at_least_zero (number (get_or ps r 0))))

module _ (stage : Stage) (item c : ℕ) (over : IsOverColumn stage item c) (end : End) where
  -- of the certain rows
  pub sure_tally : part_tally end (column_of stage c) Certain (rows_with stage item is_sure_row) ≡ tally_of None (all_rows stage item end)
  sure_tally =
      let ps = all_rows stage item end in
      let rows = rows_with stage item is_sure_row in
      let list = sure_list stage item c over end in
      let none = none_without ps in
      let sum = split_total None ps in
      let count = split_count None ps in
      let total_none : total (highs (filter (is_taken None) ps)) ≡ pos 0 = ap (λ qs. total (highs qs)) none in
      let count_none : length (filter (is_taken None) ps) ≡ 0 = ap length none in
      let value = ap total list ∙ listed_total stage item c over end rows in
      let number = listed_count (filter (λ p. p.certain) ps) (λ r. row_value stage item c over end r) rows list in
      same_tally (part_tally end (column_of stage c) Certain rows) (tally_of None ps) (omega (arith, ints, sum, total_none, value)) (omega (arith, count, count_none, number)) (sym count_none)

  -- of the uncertain rows that the end reaches
  pub taken_is : (f : Fraction) (t : ℕ) → IsThreshold (column_of stage c) end f (Some t) →
      part_tally end (column_of stage c) (Reached end t) (part_rows stage item c (Reached end t)) ≡ taken_tally f (all_rows stage item end)
  taken_is f t threshold =
      let ps = all_rows stage item end in
      let rows = part_rows stage item c (Reached end t) in
      let list = taken_list stage item c over end f t threshold in
      let number = listed_count (filter (is_taken (Some f)) ps) (λ r. row_value stage item c over end r) rows list in
      same_tally (part_tally end (column_of stage c) (Reached end t) rows) (taken_tally f ps) (sym (ap total list ∙ listed_total stage item c over end rows)) (sym number) (sym number)

  pub none_is : (f : Fraction) → IsThreshold (column_of stage c) end f None → record { sum = pos 0; rows = 0; taken = 0 } ≡ taken_tally f (all_rows stage item end)
  none_is f threshold = ap (λ (qs : List Pair). tally_with qs) (sym (none_taken stage item c over end f threshold))
    where
      tally_with : List Pair → Tally
      tally_with qs = record { sum = total (highs qs); rows = length qs; taken = length qs }

  -- both
  pub both_tally : (f : Fraction) (s t : Tally) → s ≡ tally_of None (all_rows stage item end) → t ≡ taken_tally f (all_rows stage item end) →
      record { sum = s.sum +ℤ t.sum; rows = s.rows + t.rows; taken = t.taken } ≡ tally_of (Some f) (all_rows stage item end)
  both_tally f s t e g =
      let ps = all_rows stage item end in
      let none = none_without ps in
      let total_none : total (highs (filter (is_taken None) ps)) ≡ pos 0 = ap (λ qs. total (highs qs)) none in
      let count_none : length (filter (is_taken None) ps) ≡ 0 = ap length none in
      let sure_sum = ap (λ (u : Tally). u.sum) e in
      let sure_rows = ap (λ (u : Tally). u.rows) e in
      let taken_sum = ap (λ (u : Tally). u.sum) g in
      let taken_rows = ap (λ (u : Tally). u.rows) g in
      same_tally (record { sum = s.sum +ℤ t.sum; rows = s.rows + t.rows; taken = t.taken }) (tally_of (Some f) ps)
      (omega (arith, ints, sure_sum, taken_sum, split_total None ps, split_total (Some f) ps, total_none))
      (omega (arith, sure_rows, taken_rows, split_count None ps, split_count (Some f) ps, count_none))
      (ap (λ (u : Tally). u.taken) g)

  -- of the uncertain rows there are as many as uncertain pairs
  pub all_unsure : count_by (λ b. b) (rows_with stage item is_unsure_row) ≡ uncertain_count (all_rows stage item end)
  all_unsure =
      sym (listed_count (filter (λ p. not p.certain) (all_rows stage item end)) (λ r. row_value stage item c over end r) (rows_with stage item is_unsure_row) (unsure_list stage item c over end))
