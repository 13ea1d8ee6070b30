-- Rows that conditions under OR add.
use Rattle.std.proofs.Common.{◌≡◌, ℕ, ℤ, zero, suc, ◌+◌, ◌*◌, ◌<◌, Bool, true, false, ◌||◌, ◌&&◌, List, [], ◌∷◌, length, map, count_by, cond, get_or, if◌then◌else◌, inl, inr, sym, ap, refl, ◌∙◌, arith}
use Rattle.std.specs.Simd.Lanes.{zip2}
use Rattle.std.proofs.lemmas.Bool.{cases_lt, false≢true}
use Rattle.std.proofs.lemmas.List.{get_or_past}
use Rattle.std.proofs.lemmas.List.FromFn.{fill_by_all}
use Rattle.std.proofs.lemmas.List.Sums.{sum_by-cons}
use Rattle.std.proofs.lemmas.Simd.{get_or-zip2, map-map}
use Rattle.daq_table.specs.Tables.{rows_of}
use Rattle.query_model.specs.declared.bounds.Truth.TheVariants.{False, Unknown, True}
use Rattle.query_model.specs.declared.bounds.Truths.{Truths}
use Rattle.query_model.specs.declared.query.Comparison.{Comparison}
use Rattle.query_model.specs.Meaning.{compares}
use Rattle.query_model.specs.Queries.{Condition}
use Rattle.query_model.specs.Truths.{or_over, truth_among, truths_over}
use Rattle.known_column.specs.Columns.{KnownColumn, range_at, rows_of_column}
use Rattle.known_column.specs.KnownTables.{KnownTable}
use Rattle.known_column.specs.RowBlocks.{IsKnownColumn}
use Rattle.kleene_filter.specs.declared.parted.Sides.{Sides}
use Rattle.kleene_filter.specs.Filters.{is_certain, is_possible, truth_at, truths_at, truths_under, AreRightWhereSame, AreSettled}
use Rattle.kleene_filter.specs.Parted.{equal_at, HasSides}
use Rattle.kleene_filter.specs.Unions.{AddsRows, MayFail}
use Rattle.kleene_filter.proofs.Parting.{side_at_best}
use Rattle.kleene_filter.proofs.Unread.{may_hold_is_possible}

-- ---- one comparison

-- it adds the rows with the number's own prefix
pub adds_equal : (column : KnownColumn) (op : Comparison) (value : ℤ) (s : Sides) (old new : List Bool) → HasSides column op value s → IsKnownColumn column → MayFail column op s → length new ≡ length old →
    ((row : ℕ) → row < rows_of_column column → get_or new row false ≡ (get_or old row false || equal_at s row)) →
    AddsRows (rows_of_column column) (λ row. truths_over (range_at column row) (λ x. compares op x value)) old new
adds_equal column op value s old new has known may long told = record {
  rows = long;
  fails = λ row below. ap (λ (t : Truths). t.may_fail) (side_at_best column op value s row has known below may.unknown may.less may.greater may.plain);
  added = λ row below. told row below ∙ ap (λ b. get_or old row false || b) (sym (ap (λ (t : Truths). t.may_hold) (side_at_best column op value s row has known below may.unknown may.less may.greater may.plain)));
}

pub in_either : (old own : List Bool) (row : ℕ) → length own ≡ length old → row < length old → get_or (zip2 (λ a b. a || b) old own) row false ≡ (get_or old row false || get_or own row false)
in_either old own row long below = get_or-zip2 (λ a b. a || b) old own row false false false below (omega (arith, long, below))

pub or_none : (b : Bool) → b ≡ (b || false)
or_none true = refl
or_none false = refl

-- ---- two conditions beside OR

grouped : (x y z : Bool) → ((x || y) || z) ≡ (x || (y || z))
grouped true y z = refl
grouped false y z = refl

both_fail : (x y : Bool) → x ≡ true → y ≡ true → (x && y) ≡ true
both_fail x y h k = ap (λ b. b && y) h ∙ k

pub adds_both : (count : ℕ) (one other : ℕ → Truths) (old middle new : List Bool) → AddsRows count one old middle → AddsRows count other middle new → AddsRows count (λ row. or_over (one row) (other row)) old new
adds_both count one other old middle new first second = record {
  rows = second.rows ∙ first.rows;
  fails = λ row below. both_fail (one row).may_fail (other row).may_fail (first.fails row below) (second.fails row below);
  added = λ row below. second.added row below ∙ ap (λ b. b || (other row).may_hold) (first.added row below) ∙ grouped (get_or old row false) (one row).may_hold (other row).may_hold;
}

-- ---- a condition that may fail at each row

pub not_certain : (t : Truths) → t.may_fail ≡ true → is_certain (truth_among t) ≡ false
not_certain t fails = by_parts t.may_hold t.may_fail t.may_be_null fails
  where
    by_parts : (hold fail null : Bool) → fail ≡ true → is_certain (if hold then (if fail || null then Unknown else True) else False) ≡ false
    by_parts true true null h = refl
    by_parts true false null h = absurd (false≢true h)
    by_parts false fail null h = refl

-- a mask that has no row
pub none_counted : (mask : List Bool) (k : ℕ) → count_by (λ b. b) mask ≡ 0 → get_or mask k false ≡ false
none_counted [] k none = refl
none_counted (true ∷ mask) k none = absurd (omega (arith, sum_by-cons (λ b. cond b 1 0) true mask, none))
none_counted (false ∷ mask) zero none = refl
none_counted (false ∷ mask) (suc k) none = none_counted mask k (omega (arith, sum_by-cons (λ b. cond b 1 0) false mask, none))

-- where no row was certain and the rows at which the condition may hold are added to none, the bits are those of what is known of it
pub certain_none : (pred : Condition) (table : KnownTable) (must none new : List Bool) → AddsRows table.frame.rows (truths_at pred table) none new → length must ≡ table.frame.rows → count_by (λ b. b) must ≡ 0 →
    must ≡ map is_certain (truths_under pred table)
certain_none pred table must none new adds long empty =
    fill_by_all (λ row. is_certain (truth_at pred table row)) must table.frame.rows false long
    (λ k below. none_counted must k empty ∙ sym (not_certain (truths_at pred table k) (adds.fails k below)))
    ∙ sym (map-map is_certain (truth_at pred table) (rows_of table.frame))

pub possible_at : (pred : Condition) (table : KnownTable) (none new : List Bool) → AddsRows table.frame.rows (truths_at pred table) none new → count_by (λ b. b) none ≡ 0 →
    (k : ℕ) → k < table.frame.rows → get_or new k false ≡ is_possible (truth_at pred table k)
possible_at pred table none new adds empty k below =
    adds.added k below ∙ ap (λ b. b || (truths_at pred table k).may_hold) (none_counted none k empty) ∙ may_hold_is_possible (truths_at pred table k)

pub possible_added : (pred : Condition) (table : KnownTable) (none new : List Bool) → AddsRows table.frame.rows (truths_at pred table) none new → length none ≡ table.frame.rows → count_by (λ b. b) none ≡ 0 →
    new ≡ map is_possible (truths_under pred table)
possible_added pred table none new adds long empty =
    fill_by_all (λ row. is_possible (truth_at pred table row)) new table.frame.rows false (adds.rows ∙ long)
    (λ k below. possible_at pred table none new adds empty k below)
    ∙ sym (map-map is_possible (truth_at pred table) (rows_of table.frame))

-- and the blocks that were decided still are
pub still_settled : (pred : Condition) (table : KnownTable) (must may new undecided : List Bool) → AddsRows table.frame.rows (truths_at pred table) must new → length must ≡ table.frame.rows → count_by (λ b. b) must ≡ 0 →
    AreRightWhereSame pred table 0 must may → AreSettled must may undecided → AreSettled must new undecided
still_settled pred table must may new undecided adds long empty right settled = record {
  room = settled.room;
  tight = settled.tight;
  same = λ block j h off.
      (let k = 512 * block + j in
      let same = settled.same block j h off in
      elim (cases_lt k table.frame.rows) [
        | inl below ↦ same ∙ (right k (omega arith) below same).possible ∙ sym (possible_at pred table must new adds empty k below)
        | inr past ↦ get_or_past must k false (omega (arith, past, long)) ∙ sym (get_or_past new k false (omega (arith, past, long, adds.rows)))
      ]);
}
