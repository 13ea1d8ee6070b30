-- The numbers that the first planes of two columns make, and their products, added up over the rows of a mask.
use Rattle.std.proofs.Common.{◌≡◌, ℕ, suc, ◌+◌, ◌-◌, ◌/◌, ◌^◌, ◌<◌, ◌≤◌, max, ℤ, pos, ◌+ℤ◌, ◌-ℤ◌, ◌*ℤ◌, FitsSigned, Bool, true, false, ◌&&◌, not, cond, List, [], ◌∷◌, length, count_by, ap, sym, ◌∙◌, arith}
use Rattle.std.specs.Simd.Lanes.{zip2}
use Rattle.std.specs.Int.{w128}
use Rattle.std.proofs.lemmas.Int.{ints, int_wrap_fits}
use Rattle.daq_table.specs.Tables.{ends_at}
use Rattle.aggregates.specs.ExtremeRows.{number_at}
use Rattle.aggregates.proofs.NumberRows.{first_plane}
use Rattle.known_column.specs.KnownTables.{IsKnownTable, KnownTable, column_at}
use Rattle.query_model.specs.Knowledge.{known_at}
use Rattle.product_sums.specs.declared.pair_sums.Pair.{Pair}
use Rattle.product_sums.specs.declared.pair_sums.PairSums.{PairSums}
use Rattle.product_sums.specs.Fetched.{ones_of}
use Rattle.product_sums.specs.KeptProducts.{ArePairSums, IsPair, first_number, first_sum, no_sums, turned_pair, turned_sums}
use Rattle.product_sums.specs.Products.{sum_over}
use Rattle.product_sums.proofs.Distributing.{swapped}
use Rattle.product_sums.proofs.KeptProducts.{kept_first, kept_next, kept_started}
use Rattle.product_sums.proofs.Residues.{wrapped}
use Rattle.product_sums.proofs.RowSums.{over_none, over_same}

pub alone : (z : ℤ) → z *ℤ pos 1 ≡ z
alone z = omega (arith, ints)

pub nothing : pos 0 ≡ wrapped (pos 0)
nothing = (let fits : FitsSigned w128 (pos 0) = record { sfits = omega arith } in sym (int_wrap_fits w128 (pos 0) fits))

-- ---- rows that moved

-- what rows add to a sum that came, and take off that left
pub over_moved : (old new : List Bool) (f : ℕ → ℤ) → length new ≡ length old →
    sum_over new f ≡ (sum_over old f +ℤ sum_over (zip2 (λ a b. a && not b) new old) f) -ℤ sum_over (zip2 (λ a b. a && not b) old new) f
over_moved [] [] f same = omega (arith, ints)
over_moved [] (b ∷ new) f same = absurd (omega (arith, same))
over_moved (a ∷ old) [] f same = absurd (omega (arith, same))
over_moved (a ∷ old) (b ∷ new) f same =
    ap (λ z. cond b (f 0) (pos 0) +ℤ z) (over_moved old new (λ r. f (suc r)) (omega (arith, same)))
    ∙ first a b (f 0) (sum_over old (λ r. f (suc r))) (sum_over (zip2 (λ a b. a && not b) new old) (λ r. f (suc r))) (sum_over (zip2 (λ a b. a && not b) old new) (λ r. f (suc r)))
  where
    first : (a b : Bool) (x o n l : ℤ) → cond b x (pos 0) +ℤ ((o +ℤ n) -ℤ l) ≡ ((cond a x (pos 0) +ℤ o) +ℤ (cond (b && not a) x (pos 0) +ℤ n)) -ℤ (cond (a && not b) x (pos 0) +ℤ l)
    first true true x o n l = omega (arith, ints)
    first true false x o n l = omega (arith, ints)
    first false true x o n l = omega (arith, ints)
    first false false x o n l = omega (arith, ints)

-- ---- the sums

-- each row's number, once
pub once : (table : KnownTable) (mask : List Bool) (c k : ℕ) → first_sum table mask c (λ r. pos 1) k ≡ sum_over mask (λ r. pos (number_at (column_at table c) r / 2 ^ k))
once table mask c k = over_same mask (λ r. pos (number_at (column_at table c) r / 2 ^ k) *ℤ pos 1) (λ r. pos (number_at (column_at table c) r / 2 ^ k)) (λ r has. alone (pos (number_at (column_at table c) r / 2 ^ k)))

module _ (table : KnownTable) (mask : List Bool) (pair : Pair) where
  -- the other way round
  pub turned_are : (sums : PairSums) → ArePairSums table mask pair sums → ArePairSums table mask (turned_pair pair) (turned_sums sums)
  turned_are sums are = record {
    rows = are.rows;
    first_read = are.second_read;
    second_read = are.first_read;
    first = are.second;
    second = are.first;
    both = are.both
        ∙ ap wrapped (over_same mask (λ r. pos (first_number table pair.first sums.first_read r) *ℤ pos (first_number table pair.second sums.second_read r))
        (λ r. pos (first_number table pair.second sums.second_read r) *ℤ pos (first_number table pair.first sums.first_read r))
        (λ r has. swapped (pos (first_number table pair.first sums.first_read r)) (pos (first_number table pair.second sums.second_read r))));
  }

  -- of no row
  pub none_are : (sums : PairSums) → length mask ≡ table.frame.rows → count_by (λ b. b) mask ≡ 0 → sums.first_read ≤ (known_at table.known pair.first).read → sums.second_read ≤ (known_at table.known pair.second).read →
      sums.first ≡ pos 0 → sums.second ≡ pos 0 → sums.both ≡ pos 0 → ArePairSums table mask pair sums
  none_are sums long none first second is_first is_second is_both = record {
    rows = long;
    first_read = first;
    second_read = second;
    first = is_first ∙ nothing ∙ ap wrapped (sym (over_none mask (λ r. pos (first_number table pair.first sums.first_read r)) none));
    second = is_second ∙ nothing ∙ ap wrapped (sym (over_none mask (λ r. pos (first_number table pair.second sums.second_read r)) none));
    both = is_both ∙ nothing
        ∙ ap wrapped (sym (over_none mask (λ r. pos (first_number table pair.first sums.first_read r) *ℤ pos (first_number table pair.second sums.second_read r)) none));
  }

  module _ (known : IsKnownTable table) (is : IsPair table pair) (long : length mask ≡ table.frame.rows) where
    abbrev reads : ℕ
    reads = (known_at table.known pair.first).read

    -- planes before the first digit tell nothing
    pub started_are : (sums begun : PairSums) → ArePairSums table mask pair sums → begun.first_read ≡ max (first_plane (ends_at table.frame pair.first) reads) sums.first_read → begun.first_read ≤ reads →
        begun.second_read ≡ sums.second_read → begun.first ≡ sums.first → begun.second ≡ sums.second → begun.both ≡ sums.both → ArePairSums table mask pair begun
    started_are sums begun are from within same_read same_first same_second same_both =
        let f : ℕ → ℤ = λ r. pos (first_number table pair.second sums.second_read r) in
        record {
          rows = long;
          first_read = within;
          second_read = omega (arith, same_read, are.second_read);
          first = same_first ∙ are.first
              ∙ ap wrapped (sym (once table mask pair.first (reads - sums.first_read)) ∙ kept_started table known mask long pair.first is.first (λ r. pos 1) sums.first_read begun.first_read from ∙ once table mask pair.first (reads - begun.first_read));
          second = same_second ∙ are.second ∙ ap (λ n. wrapped (sum_over mask (λ r. pos (first_number table pair.second n r)))) (sym same_read);
          both = same_both ∙ are.both ∙ ap wrapped (kept_started table known mask long pair.first is.first f sums.first_read begun.first_read from)
              ∙ ap (λ n. wrapped (sum_over mask (λ r. pos (first_number table pair.first begun.first_read r) *ℤ pos (first_number table pair.second n r)))) (sym same_read);
        }

    -- no plane that was counted gives nothing, over whichever rows
    pub unread_are : (sums : PairSums) → sums ≡ no_sums → ArePairSums table mask pair sums
    unread_are sums is_none =
        let no_first : sums.first_read ≡ 0 = ap (λ (s : PairSums). s.first_read) is_none in
        let no_second : sums.second_read ≡ 0 = ap (λ (s : PairSums). s.second_read) is_none in
        let others : ℕ = (known_at table.known pair.second).read in
        let f : ℕ → ℤ = λ r. pos (first_number table pair.second sums.second_read r) in
        let few_first : sums.first_read ≤ first_plane (ends_at table.frame pair.first) reads = omega (arith, no_first) in
        let few_second : sums.second_read ≤ first_plane (ends_at table.frame pair.second) others = omega (arith, no_second) in
        record {
          rows = long;
          first_read = omega (arith, no_first);
          second_read = omega (arith, no_second);
          first = ap (λ (s : PairSums). s.first) is_none ∙ nothing
              ∙ ap wrapped (sym (sym (once table mask pair.first (reads - sums.first_read)) ∙ kept_first table known mask long pair.first is.first (λ r. pos 1) sums.first_read few_first));
          second = ap (λ (s : PairSums). s.second) is_none ∙ nothing
              ∙ ap wrapped (sym (sym (once table mask pair.second (others - sums.second_read)) ∙ kept_first table known mask long pair.second is.second (λ r. pos 1) sums.second_read few_second));
          both = ap (λ (s : PairSums). s.both) is_none ∙ nothing ∙ ap wrapped (sym (kept_first table known mask long pair.first is.first f sums.first_read few_first));
        }

    -- a plane more of the first column
    pub first_next : (j : ℕ) → first_plane (ends_at table.frame pair.first) reads ≤ j → j < reads →
        sum_over mask (λ r. pos (first_number table pair.first (j + 1) r))
        ≡ (sum_over mask (λ r. pos (first_number table pair.first j r)) *ℤ pos 2) +ℤ sum_over (zip2 (λ a b. a && b) mask (ones_of (column_at table pair.first) j)) (λ r. pos 1)
    first_next j from below =
        let ones = zip2 (λ a b. a && b) mask (ones_of (column_at table pair.first) j) in
        sym (once table mask pair.first (reads - (j + 1))) ∙ kept_next table known mask long pair.first is.first (λ r. pos 1) j from below
        ∙ ap (λ z. (z *ℤ pos 2) +ℤ sum_over ones (λ r. pos 1)) (once table mask pair.first (reads - j))

    pub both_next : (j more : ℕ) → first_plane (ends_at table.frame pair.first) reads ≤ j → j < reads →
        sum_over mask (λ r. pos (first_number table pair.first (j + 1) r) *ℤ pos (first_number table pair.second more r))
        ≡ (sum_over mask (λ r. pos (first_number table pair.first j r) *ℤ pos (first_number table pair.second more r)) *ℤ pos 2)
        +ℤ sum_over (zip2 (λ a b. a && b) mask (ones_of (column_at table pair.first) j)) (λ r. pos (first_number table pair.second more r))
    both_next j more from below = kept_next table known mask long pair.first is.first (λ r. pos (first_number table pair.second more r)) j from below
