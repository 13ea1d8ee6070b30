-- What an item keeps of rows whose values are known to lie in one span, by how many they are.
use Rattle.std.proofs.Common.{◌≡◌, ℕ, suc, ◌-◌, ◌<◌, ◌≤◌, ◌==◌, ℤ, pos, ◌+ℤ◌, ◌*ℤ◌, Bool, true, false, cond, List, [], ◌∷◌, length, map, get_or, Some, None, refl, ap, sym, subst, ◌∙◌, arith, if◌then◌else◌}
use Rattle.std.specs.declared.option.Option.{Option}
use Rattle.std.specs.Int.{int_max, int_min}
use Rattle.std.specs.List.{AllByRecursion, cons_option, filter, filter_map}
use Rattle.std.proofs.Math.IntN.{suc_ℤ, *ℤ_comm, *ℤ-zero, suc_ℤ-*ℤ}
use Rattle.std.proofs.lemmas.Bool.Decides.{nat_tests}
use Rattle.std.proofs.lemmas.Int.{ints, clamps}
use Rattle.std.proofs.lemmas.List.{length-map}
use Rattle.interval_calc.specs.Intervals.{Interval, difference_of, product_of, sum_of}
use Rattle.known_column.specs.KnownTables.{KnownTable, column_at}
use Rattle.kleene_filter.proofs.Parting.{no_prefix}
use Rattle.known_column.specs.Columns.{KnownColumn, range_at, rows_of_column}
use Rattle.known_column.specs.RowBlocks.{IsKnownColumn}
use Rattle.query_model.specs.declared.query.ItemKind.TheVariants.{Max, Min}
use Rattle.query_model.specs.Answers.{answer, greatest, least, total}
use Rattle.query_model.specs.Bounds.{Pair, certain_count, certain_highs, certain_lows, high_share, highs, low_share, lows}
use Rattle.query_model.specs.Knowledge.{IsLegal, range_of, ranges_of}
use Rattle.query_model.specs.Queries.{Add, Column, Mul, Sub, Term}
use Rattle.query_model.specs.Truths.{Range, null_of, one_null, span_of}
use Rattle.aggregates.proofs.Adding.{few_certain}
use Rattle.round_engine.specs.Counts.{AreAlike, HaveSpan}

-- ---- columns of which no plane is read

range_unread : (column : KnownColumn) (row : ℕ) → IsKnownColumn column → column.known.read ≡ 0 → row < rows_of_column column → range_at column row ≡ range_of column.ends 0 0
range_unread column row sound none below =
    let p = get_or column.known.prefixes row 0 in
    let first : p ≡ 0 = no_prefix column.ends p (subst (λ n. IsLegal column.ends n p) none (sound.legal row 0 below)) in
    ap (λ n. range_of column.ends n p) none ∙ ap (λ q. range_of column.ends 0 q) first

-- one range is that of all rows
pub one_range : (column : KnownColumn) (r q : ℕ) → IsKnownColumn column → column.known.read ≡ 0 → r < rows_of_column column → q < rows_of_column column → range_at column r ≡ range_at column q
one_range column r q sound none r_in q_in = range_unread column r sound none r_in ∙ sym (range_unread column q sound none q_in)

module _ (columns : KnownTable) where
  pub alike_column : (c : ℕ) (known : KnownColumn) → known ≡ column_at columns c → rows_of_column known ≡ columns.frame.rows →
      ((r q : ℕ) → r < rows_of_column known → q < rows_of_column known → range_at known r ≡ range_at known q) → AreAlike columns (Column c)
  alike_column c known is rows same = λ r q r_in q_in.
      let there : range_at (column_at columns c) r ≡ range_at (column_at columns c) q = subst (λ (k : KnownColumn). range_at k r ≡ range_at k q) is (same r q (omega (arith, rows, r_in)) (omega (arith, rows, q_in))) in
      (ap (λ (x : Range). x.null) there, ap (λ (x : Range). x.numbers) there)

  module _ (a b : Term) (first : AreAlike columns a) (second : AreAlike columns b) where
    null_alike : (r q : ℕ) → r < columns.frame.rows → q < columns.frame.rows → one_null (null_of a (ranges_of columns.frame columns.known r)) (null_of b (ranges_of columns.frame columns.known r)) ≡ one_null (null_of a (ranges_of columns.frame columns.known q)) (null_of b (ranges_of columns.frame columns.known q))
    null_alike r q r_in q_in = ap (λ n. one_null n (null_of b (ranges_of columns.frame columns.known r))) (first r q r_in q_in).0 ∙ ap (one_null (null_of a (ranges_of columns.frame columns.known q))) (second r q r_in q_in).0

    span_alike : (op : Interval → Interval → Interval) (r q : ℕ) → r < columns.frame.rows → q < columns.frame.rows → op (span_of a (ranges_of columns.frame columns.known r)) (span_of b (ranges_of columns.frame columns.known r)) ≡ op (span_of a (ranges_of columns.frame columns.known q)) (span_of b (ranges_of columns.frame columns.known q))
    span_alike op r q r_in q_in = ap (λ i. op i (span_of b (ranges_of columns.frame columns.known r))) (first r q r_in q_in).1 ∙ ap (op (span_of a (ranges_of columns.frame columns.known q))) (second r q r_in q_in).1

    pub alike_sum : AreAlike columns (Add a b)
    alike_sum = λ r q r_in q_in. (null_alike r q r_in q_in, span_alike sum_of r q r_in q_in)

    pub alike_difference : AreAlike columns (Sub a b)
    alike_difference = λ r q r_in q_in. (null_alike r q r_in q_in, span_alike difference_of r q r_in q_in)

    pub alike_product : AreAlike columns (Mul a b)
    alike_product = λ r q r_in q_in. (null_alike r q r_in q_in, span_alike product_of r q r_in q_in)

-- ---- ends of one number

abbrev AreAll : ℤ → List ℤ → Type 0
AreAll e xs = AllByRecursion (λ x. x ≡ e) xs

abbrev pub end_of : ℕ → ℤ → Option ℤ
end_of n e = if n == 0 then None else Some e

least_all : (e x : ℤ) (xs : List ℤ) → x ≡ e → AreAll e xs → least (x ∷ xs) ≡ e
least_all e x [] is all = is
least_all e x (y ∷ ys) is all =
    let rest = least_all e y ys all.0 all.1 in
    ap (λ z. int_min z (least (y ∷ ys))) is ∙ ap (int_min e) rest ∙ omega (arith, ints, clamps)

greatest_all : (e x : ℤ) (xs : List ℤ) → x ≡ e → AreAll e xs → greatest (x ∷ xs) ≡ e
greatest_all e x [] is all = is
greatest_all e x (y ∷ ys) is all =
    let rest = greatest_all e y ys all.0 all.1 in
    ap (λ z. int_max z (greatest (y ∷ ys))) is ∙ ap (int_max e) rest ∙ omega (arith, ints, clamps)

some_end : (n : ℕ) (e : ℤ) → Some e ≡ end_of (suc n) e
some_end n e = (let is : (suc n == 0) ≡ false = grind (arith, nat_tests) in rw is refl)

-- an end that is kept while no row counts for certain
pub ended : (certain all kept : ℕ) (e : ℤ) → kept ≡ cond (certain == 0) all 0 → end_of kept e ≡ (if certain == 0 then end_of all e else None)
ended certain all kept e is = ap (λ n. end_of n e) is ∙ either (certain == 0)
  where
    either : (none : Bool) → end_of (cond none all 0) e ≡ (if none then end_of all e else None)
    either true = refl
    either false = refl

least_of : (e : ℤ) (xs : List ℤ) → AreAll e xs → answer Min xs ≡ end_of (length xs) e
least_of e [] all = refl
least_of e (x ∷ xs) all = ap Some (least_all e x xs all.0 all.1) ∙ some_end (length xs) e

greatest_of : (e : ℤ) (xs : List ℤ) → AreAll e xs → answer Max xs ≡ end_of (length xs) e
greatest_of e [] all = refl
greatest_of e (x ∷ xs) all = ap Some (greatest_all e x xs all.0 all.1) ∙ some_end (length xs) e

-- ---- the rows' ends

module _ (f : Pair → ℤ) (e : ℤ) where
  abbrev Have : List Pair → Type 0
  Have ps = AllByRecursion (λ p. f p ≡ e) ps

  ends_all : (ps : List Pair) → Have ps → AreAll e (map f ps)
  ends_all [] have = tt
  ends_all (p ∷ ps) have = (have.0, ends_all ps have.1)

  abbrev certain_ends : List Pair → List ℤ
  certain_ends ps = filter_map (λ p. if p.certain then Some (f p) else None) ps

  certain_more : (certain : Bool) (x : ℤ) (xs : List ℤ) (p : Pair) (ps : List Pair) → x ≡ e → AreAll e xs → length xs ≡ length ps →
      AreAll e (cons_option (if certain then Some x else None) xs) × (length (cons_option (if certain then Some x else None) xs) ≡ length (if certain then p ∷ ps else ps))
  certain_more true x xs p ps is all same = ((is, all), ap suc same)
  certain_more false x xs p ps is all same = (all, same)

  certain_all : (ps : List Pair) → Have ps → AreAll e (certain_ends ps) × (length (certain_ends ps) ≡ certain_count ps)
  certain_all [] have = (tt, refl)
  certain_all (p ∷ ps) have =
      let rest = certain_all ps have.1 in
      certain_more p.certain (f p) (certain_ends ps) p (filter (λ q. q.certain) ps) have.0 rest.0 rest.1

module _ (span : Interval) where
  lows_are : (ps : List Pair) → HaveSpan span ps → AllByRecursion (λ p. p.low ≡ span.low) ps
  lows_are [] have = tt
  lows_are (p ∷ ps) have = (have.0.0, lows_are ps have.1)

  highs_are : (ps : List Pair) → HaveSpan span ps → AllByRecursion (λ p. p.high ≡ span.high) ps
  highs_are [] have = tt
  highs_are (p ∷ ps) have = (have.0.1, highs_are ps have.1)

  module _ (ps : List Pair) (have : HaveSpan span ps) where
    pub least_low : answer Min (lows ps) ≡ end_of (length ps) span.low
    least_low = least_of span.low (lows ps) (ends_all (λ p. p.low) span.low ps (lows_are ps have)) ∙ ap (λ n. end_of n span.low) (length-map ps (λ p. p.low))

    pub greatest_high : answer Max (highs ps) ≡ end_of (length ps) span.high
    greatest_high = greatest_of span.high (highs ps) (ends_all (λ p. p.high) span.high ps (highs_are ps have)) ∙ ap (λ n. end_of n span.high) (length-map ps (λ p. p.high))

    pub least_certain_high : answer Min (certain_highs ps) ≡ end_of (certain_count ps) span.high
    least_certain_high =
        let are = certain_all (λ p. p.high) span.high ps (highs_are ps have) in
        least_of span.high (certain_highs ps) are.0 ∙ ap (λ n. end_of n span.high) are.1

    pub greatest_certain_low : answer Max (certain_lows ps) ≡ end_of (certain_count ps) span.low
    greatest_certain_low =
        let are = certain_all (λ p. p.low) span.low ps (lows_are ps have) in
        greatest_of span.low (certain_lows ps) are.0 ∙ ap (λ n. end_of n span.low) are.1

-- ---- sums

-- a number once more
once_more : (z : ℤ) (n : ℕ) → (z *ℤ pos (suc n)) ≡ (z *ℤ pos n) +ℤ z
once_more z n = *ℤ_comm z (suc_ℤ (pos n)) ∙ suc_ℤ-*ℤ (pos n) z ∙ ap (λ k. k +ℤ z) (*ℤ_comm (pos n) z)

module _ (share : Pair → ℤ) (a b : ℤ) where
  abbrev AreShares : List Pair → Type 0
  AreShares ps = AllByRecursion (λ p. share p ≡ (if p.certain then a else b)) ps

  share_more : (certain : Bool) (x sum : ℤ) (p : Pair) (ps : List Pair) (n : ℕ) → length ps ≤ n → x ≡ (if certain then a else b) → sum ≡ (a *ℤ pos (length ps)) +ℤ (b *ℤ pos (n - length ps)) →
      x +ℤ sum ≡ (a *ℤ pos (length (if certain then p ∷ ps else ps))) +ℤ (b *ℤ pos (suc n - length (if certain then p ∷ ps else ps)))
  share_more true x sum p ps n few here rest =
      let k = length ps in
      let next : n - k ≡ suc n - suc k = omega arith in
      let others : (b *ℤ pos (n - k)) ≡ b *ℤ pos (suc n - suc k) = ap (λ m. b *ℤ pos m) next in
      let more = once_more a k in
      omega (arith, ints, here, rest, more, others)
  share_more false x sum p ps n few here rest =
      let k = length ps in
      let next : suc n - k ≡ suc (n - k) = omega (arith, few) in
      let more : (b *ℤ pos (suc n - k)) ≡ (b *ℤ pos (n - k)) +ℤ b = ap (λ m. b *ℤ pos m) next ∙ once_more b (n - k) in
      omega (arith, ints, here, rest, more)

  shares : (ps : List Pair) → AreShares ps → total (map share ps) ≡ (a *ℤ pos (certain_count ps)) +ℤ (b *ℤ pos (length ps - certain_count ps))
  shares [] are = (let first = *ℤ-zero a in let second = *ℤ-zero b in omega (arith, ints, first, second))
  shares (p ∷ ps) are = share_more p.certain (share p) (total (map share ps)) p (filter (λ q. q.certain) ps) (length ps) (few_certain ps) are.0 (shares ps are.1)

module _ (span : Interval) where
  low_shares : (ps : List Pair) → HaveSpan span ps → AreShares low_share span.low (int_min span.low (pos 0)) ps
  low_shares [] have = tt
  low_shares (p ∷ ps) have = (ap (λ z. if p.certain then z else int_min z (pos 0)) have.0.0, low_shares ps have.1)

  high_shares : (ps : List Pair) → HaveSpan span ps → AreShares high_share span.high (int_max span.high (pos 0)) ps
  high_shares [] have = tt
  high_shares (p ∷ ps) have = (ap (λ z. if p.certain then z else int_max z (pos 0)) have.0.1, high_shares ps have.1)

  module _ (ps : List Pair) (have : HaveSpan span ps) where
    pub low_sum : total (map low_share ps) ≡ (span.low *ℤ pos (certain_count ps)) +ℤ (int_min span.low (pos 0) *ℤ pos (length ps - certain_count ps))
    low_sum = shares low_share span.low (int_min span.low (pos 0)) ps (low_shares ps have)

    pub high_sum : total (map high_share ps) ≡ (span.high *ℤ pos (certain_count ps)) +ℤ (int_max span.high (pos 0) *ℤ pos (length ps - certain_count ps))
    high_sum = shares high_share span.high (int_max span.high (pos 0)) ps (high_shares ps have)
