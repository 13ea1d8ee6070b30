-- A search for an extreme that passes over the blocks in which it cannot stand, and what is kept of it.
use Rattle.std.proofs.Common.{◌≡◌, ℕ, ◌+◌, ◌-◌, ◌*◌, ◌/◌, ◌^◌, ◌<◌, ◌≤◌, cond, Bool, true, false, List, length, get_or, ◌⊎◌, Option, None, Some, inl, inr, refl, sym, ap, subst, ◌∙◌, arith}
use Rattle.std.specs.Option.{option_map}
use Rattle.std.specs.Prelude.{IfSome}
use Rattle.std.proofs.Math.Nat.{div-one}
use Rattle.std.proofs.lemmas.Bool.{cases_eq, false≢true}
use Rattle.std.proofs.lemmas.List.{get_or-set_other, length-set}
use Rattle.std.proofs.lemmas.Option.{IfSome_then}
use Rattle.query_model.specs.Knowledge.{longer}
use Rattle.known_column.specs.Columns.{KnownColumn, number_of, read_further, rows_of_column}
use Rattle.known_column.specs.RowBlocks.{IsKnownColumn}
use Rattle.known_column.proofs.Growing.{length-longer}
use Rattle.known_column.proofs.RowDigits.{longer_at}
use Rattle.aggregates.specs.declared.extreme_rows.Candidate.{Candidate}
use Rattle.aggregates.specs.declared.extreme_rows.Extreme.{Extreme}
use Rattle.aggregates.specs.declared.kept_extreme.KeptExtreme.{KeptExtreme}
use Rattle.aggregates.specs.ExtremeRows.{is_further, number_at, number_so_far, IsAsFar, IsBehind, IsBestAmong, IsBestOf, IsExtreme, IsExtremeRow, Reaches}
use Rattle.aggregates.specs.KeptExtremes.{kept_number, row_so_far, HasLeft, HoldCandidates, IsSearched}
use Rattle.aggregates.specs.Selections.{has_row, IsPartOf}
use Rattle.aggregates.proofs.BlockWords.{best_further, best_stays, far_itself, far_onward, further_onward, row_within, whole_further}
use Rattle.aggregates.proofs.EarlyNumbers.{early_row}
use Rattle.aggregates.proofs.KeptSums.{first_digits}

-- ---- numbers as far out as others

reaches_itself : (extreme : Extreme) (a : Option ℕ) → Reaches extreme a a
reaches_itself extreme None = tt
reaches_itself extreme (Some a) = far_itself extreme a

pub reaches_onward : (extreme : Extreme) (a b c : Option ℕ) → Reaches extreme a b → Reaches extreme b c → Reaches extreme a c
reaches_onward extreme a b None f g = tt
reaches_onward extreme a None (Some c) f g = absurd g
reaches_onward extreme None (Some b) (Some c) f g = absurd f
reaches_onward extreme (Some a) (Some b) (Some c) f g = far_onward extreme a b c f g

behind_onward : (extreme : Extreme) (a b : Option ℕ) (n : ℕ) → Reaches extreme a b → IsBehind extreme b n → IsBehind extreme a n
behind_onward extreme a None n far behind = absurd behind
behind_onward extreme None (Some b) n far behind = absurd far
behind_onward extreme (Some a) (Some b) n far behind = further_onward extreme a b n far behind

-- ---- a search

-- a block outside
pub skipped : (extreme : Extreme) (column : KnownColumn) (may must : List Bool) (block : ℕ) (kept : KeptExtreme) (best : Option Candidate) → HoldCandidates extreme column may must kept → has_row kept.blocks block ≡ false →
    IsSearched extreme column may (512 * block) kept best → IsSearched extreme column may (512 * block + 512) kept best
skipped extreme column may must block kept best hold off is = record {
  among = best_stays extreme column may block best (λ r from below has.
      let at : 512 * block + (r - 512 * block) ≡ r = omega (arith, from) in
      behind_onward extreme (number_so_far best) (kept_number column kept) (number_at column r) is.reaches
      (subst (λ r. IsBehind extreme (kept_number column kept) (number_at column r)) at (hold.behind block (r - 512 * block) (omega (arith, from, below)) off (ap (has_row may) at ∙ has))))
      is.among;
  reaches = is.reaches;
}

-- a block with a row that is as far out
pub found_further : (extreme : Extreme) (column : KnownColumn) (mask : List Bool) (block : ℕ) (kept : KeptExtreme) (best : Option Candidate) (found new : Candidate) → (new ≡ found) ⊎ (Some new ≡ best) →
    IsAsFar extreme new.number found.number → Reaches extreme (Some new.number) (number_so_far best) → IsBestOf extreme column mask (512 * block) (512 * block + 512) found →
    IsSearched extreme column mask (512 * block) kept best → IsSearched extreme column mask (512 * block + 512) kept (Some new)
found_further extreme column mask block kept best found new one far reaches of is = record {
  among = best_further extreme column mask block best found new one far reaches is.among of;
  reaches = reaches_onward extreme (Some new.number) (number_so_far best) (kept_number column kept) reaches is.reaches;
}

-- the number of the best so far is that of its row
best_number : (extreme : Extreme) (column : KnownColumn) (mask : List Bool) (to : ℕ) (best : Option Candidate) → IsBestAmong extreme column mask 0 to best → option_map (number_at column) (row_so_far best) ≡ number_so_far best
best_number extreme column mask to None is = refl
best_number extreme column mask to (Some b) is = ap Some (sym is.number)

-- a block whose rows lie behind the best
pub passed : (extreme : Extreme) (column : KnownColumn) (may must : List Bool) (block : ℕ) (old new : KeptExtreme) (best : Option Candidate) → HoldCandidates extreme column may must old →
    ((r : ℕ) → 512 * block ≤ r → r < 512 * block + 512 → has_row may r ≡ true → IsBehind extreme (number_so_far best) (number_at column r)) → (new ≡ old) ⊎ HasLeft must best block old new →
    IsSearched extreme column may (512 * block) old best → HoldCandidates extreme column may must new × IsSearched extreme column may (512 * block + 512) new best
passed extreme column may must block old new best hold behind left is = by_left left
  where
    here : IsBestAmong extreme column may 0 (512 * block + 512) best
    here = best_stays extreme column may block best behind is.among

    some_counts : (best : Option Candidate) → IfSome best (λ c. has_row must c.row ≡ true) → IfSome (row_so_far best) (λ row. has_row must row ≡ true)
    some_counts None counts = tt
    some_counts (Some b) counts = counts

    by_left : (new ≡ old) ⊎ HasLeft must best block old new → HoldCandidates extreme column may must new × IsSearched extreme column may (512 * block + 512) new best
    by_left (inl same) = (subst (HoldCandidates extreme column may must) (sym same) hold, subst (λ k. IsSearched extreme column may (512 * block + 512) k best) (sym same) (record { among = here; reaches = is.reaches }))
    by_left (inr h) =
        let number : kept_number column new ≡ number_so_far best = ap (option_map (number_at column)) h.row ∙ best_number extreme column may (512 * block) best is.among in
        let count : length new.blocks ≡ length old.blocks = ap length h.blocks ∙ length-set old.blocks block false in (
          record {
            room = omega (arith, hold.room, count);
            tight = omega (arith, hold.tight, count);
            counts = subst (λ row. IfSome row (λ r. has_row must r ≡ true)) (sym h.row) (some_counts best h.counts);
            behind = λ other j few off has. subst (λ n. IsBehind extreme n (number_at column (512 * other + j))) (sym number) (elim (cases_eq other block) [
              | inl same ↦
                  (let at : 512 * other + j ≡ 512 * block + j = ap (λ b. 512 * b + j) same in
                  behind (512 * other + j) (omega (arith, at)) (omega (arith, at, few)) has)
              | inr others ↦
                  behind_onward extreme (number_so_far best) (kept_number column old) (number_at column (512 * other + j)) is.reaches
                  (hold.behind other j few (sym (get_or-set_other old.blocks block other false false others) ∙ ap (λ l. has_row l other) (sym h.blocks) ∙ off) has)
            ]);
          },
          record { among = here; reaches = subst (Reaches extreme (number_so_far best)) (sym number) (reaches_itself extreme (number_so_far best)) },
        )

-- all blocks
pub searched_all : (extreme : Extreme) (column : KnownColumn) (mask : List Bool) (to : ℕ) (kept : KeptExtreme) (best : Option Candidate) → length mask ≤ to → IsSearched extreme column mask to kept best →
    IsExtremeRow extreme column mask (row_so_far best)
searched_all extreme column mask to kept best all is = by_best best is.among
  where
    none_past : (r : ℕ) → ((r < to) → has_row mask r ≡ false) → (b : Bool) → has_row mask r ≡ b → has_row mask r ≡ false
    none_past r below true e = below (omega (arith, row_within mask r e, all))
    none_past r below false e = e

    by_best : (best : Option Candidate) → IsBestAmong extreme column mask 0 to best → IsExtremeRow extreme column mask (row_so_far best)
    by_best None is = λ r. none_past r (is r (omega arith)) (has_row mask r) refl
    by_best (Some b) is = record {
      has = is.has;
      furthest = λ r has. subst (λ n. IsAsFar extreme n (number_at column r)) is.number (is.furthest r (omega arith) (omega (arith, row_within mask r has, all)) has);
    }

-- ---- the rows that surely count

-- blocks in which no row that may count can be extreme have none that surely counts and can
pub hold_some : (extreme : Extreme) (column : KnownColumn) (may must : List Bool) (kept : KeptExtreme) → IsPartOf must may → HoldCandidates extreme column may must kept → HoldCandidates extreme column must must kept
hold_some extreme column may must kept part hold = record {
  room = omega (arith, hold.room, part.rows);
  tight = omega (arith, hold.tight, part.rows);
  counts = hold.counts;
  behind = λ block j few off has. hold.behind block j few off (part.nested (512 * block + j) has);
}

-- the extreme row of those that surely count is kept
pub keeps_extreme : (extreme : Extreme) (column : KnownColumn) (may must : List Bool) (old new : KeptExtreme) → HoldCandidates extreme column may must old → new.blocks ≡ old.blocks → IsExtremeRow extreme column must new.row →
    HoldCandidates extreme column may must new
keeps_extreme extreme column may must old new hold blocks is = record {
  room = omega (arith, hold.room, ap length blocks);
  tight = omega (arith, hold.tight, ap length blocks);
  counts = some_counts new.row is;
  behind = λ block j few off has. behind_onward extreme (kept_number column new) (kept_number column old) (number_at column (512 * block + j)) (reaches old.row new.row hold.counts is)
      (hold.behind block j few (ap (λ l. has_row l block) (sym blocks) ∙ off) has);
}
  where
    some_counts : (row : Option ℕ) → IsExtremeRow extreme column must row → IfSome row (λ r. has_row must r ≡ true)
    some_counts None is = tt
    some_counts (Some r) is = is.has

    reaches : (old new : Option ℕ) → IfSome old (λ r. has_row must r ≡ true) → IsExtremeRow extreme column must new → Reaches extreme (option_map (number_at column) new) (option_map (number_at column) old)
    reaches None new counts is = tt
    reaches (Some o) None counts is = false≢true (sym (is o) ∙ counts)
    reaches (Some o) (Some n) counts is = is.furthest o counts

-- an extreme row of all rows that is one of some is extreme among these
pub some_of_all : (extreme : Extreme) (column : KnownColumn) (may must : List Bool) (row : ℕ) → IsPartOf must may → has_row must row ≡ true → IsExtreme extreme column may row → IsExtremeRow extreme column must (Some row)
some_of_all extreme column may must row part has is = record { has = has; furthest = λ r h. is.furthest r (part.nested r h) }

pub none_some : (extreme : Extreme) (column : KnownColumn) (may must : List Bool) → IsPartOf must may → IsExtremeRow extreme column may None → IsExtremeRow extreme column must None
none_some extreme column may must part none = λ r. by_bit r (has_row must r) refl
  where
    by_bit : (r : ℕ) (b : Bool) → has_row must r ≡ b → has_row must r ≡ false
    by_bit r true e = absurd (false≢true (sym (none r) ∙ part.nested r e))
    by_bit r false e = e

-- ---- after a plane

-- rows have left those that may count, and rows have come to those that surely do
pub record HaveMoved (may must later_may later_must : List Bool) : Type 0 where
  pub rows : length later_may ≡ length may
  pub left : (row : ℕ) → has_row later_may row ≡ true → has_row may row ≡ true
  pub came : (row : ℕ) → has_row must row ≡ true → has_row later_must row ≡ true

-- numbers of these rows stay in their order
abbrev pub StayInOrder : Extreme → KnownColumn → List Bool → List Bool → KnownColumn → Type 0
StayInOrder extreme column must may later =
    (r s : ℕ) → has_row must r ≡ true → has_row may s ≡ true → is_further extreme (number_at column r) (number_at column s) ≡ true → is_further extreme (number_at later r) (number_at later s) ≡ true

-- no block comes back
pub hold_later : (extreme : Extreme) (column later : KnownColumn) (may must later_may later_must : List Bool) (kept : KeptExtreme) → HoldCandidates extreme column may must kept → HaveMoved may must later_may later_must →
    StayInOrder extreme column must later_may later → HoldCandidates extreme later later_may later_must kept
hold_later extreme column later may must later_may later_must kept hold moved order = record {
  room = omega (arith, hold.room, moved.rows);
  tight = omega (arith, hold.tight, moved.rows);
  counts = IfSome_then kept.row hold.counts (λ row has. moved.came row has);
  behind = λ block j few off has. by_row kept.row hold.counts (512 * block + j) has (hold.behind block j few off (moved.left (512 * block + j) has));
}
  where
    by_row : (row : Option ℕ) → IfSome row (λ r. has_row must r ≡ true) → (s : ℕ) → has_row later_may s ≡ true → IsBehind extreme (option_map (number_at column) row) (number_at column s) → IsBehind extreme (option_map (number_at later) row) (number_at later s)
    by_row None counts s has behind = absurd behind
    by_row (Some r) counts s has behind = order r s counts has behind

-- a digit more does not change the first ones
number_before : (column : KnownColumn) (bits : List Bool) (r : ℕ) → IsKnownColumn (read_further column bits) → length bits ≡ rows_of_column column → r < rows_of_column column →
    number_at (read_further column bits) r / 2 ^ 1 ≡ number_at column r
number_before column bits r known long within =
    let ends = column.ends in
    let read = column.known.read in
    let ps = column.known.prefixes in
    let p = get_or ps r 0 in
    let b = get_or bits r false in
    let q = get_or (longer ps bits) r 0 in
    let is : q ≡ 2 * p + cond b 1 0 = longer_at ps bits r within long in
    let one : (read + 1) - read ≡ 1 = omega arith in
    let below : r < length (longer ps bits) = omega (arith, within, length-longer ps bits long) in
    let half : q / 2 ^ 1 ≡ p = ap (λ n. n / 2 ^ 1) is ∙ first_digits p 0 b ∙ div-one p in
    let early : number_of ends read (q / 2 ^ 1) ≡ number_of ends (read + 1) q / 2 ^ 1 =
    subst (λ k. number_of ends read (q / 2 ^ k) ≡ number_of ends (read + 1) q / 2 ^ k) one (early_row ends (read + 1) read q known.some_read (omega arith) (known.legal r 0 below)) in
    sym early ∙ ap (number_of ends read) half

pub order_stays : (extreme : Extreme) (column : KnownColumn) (bits must may : List Bool) → IsKnownColumn (read_further column bits) → length bits ≡ rows_of_column column → length must ≡ rows_of_column column → length may ≡ rows_of_column column →
    StayInOrder extreme column must may (read_further column bits)
order_stays extreme column bits must may known long long_must long_may r s has_r has_s further =
    let a = number_at (read_further column bits) r in
    let b = number_at (read_further column bits) s in
    let first = number_before column bits r known long (omega (arith, row_within must r has_r, long_must)) in
    let second = number_before column bits s known long (omega (arith, row_within may s has_s, long_may)) in
    let ahead : is_further extreme (a / 2 ^ 1) (number_at column s) ≡ true = ap (λ n. is_further extreme n (number_at column s)) first ∙ further in
    whole_further extreme a b (number_at column s) 1 ahead (subst (IsAsFar extreme (number_at column s)) (sym second) (far_itself extreme (number_at column s)))
