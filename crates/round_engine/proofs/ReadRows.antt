-- A row of a column of which the next plane is read, and the cells that it is counted in.
use Rattle.std.proofs.Common.{◌≡◌, ◌≢◌, ℕ, zero, suc, ◌+◌, ◌-◌, ◌*◌, ◌/◌, ◌%◌, ◌^◌, ◌<◌, ◌≤◌, ◌==◌, ◌&&◌, not, min, ℤ, pos, negsuc, ◌+ℤ◌, ◌≤ℤ◌, unsigned_abs, IsTrue, Bool, true, false, cond, List, [], ◌∷◌, ◌++◌, length, get_or, Some, None, refl, ap, sym, subst, ◌∙◌, arith, if◌then◌else◌}
use Rattle.std.specs.List.{sum}
use Rattle.std.proofs.lemmas.Bool.{false≢true, or_parts}
use Rattle.std.proofs.lemmas.Int.{ints}
use Rattle.std.proofs.Math.Nat.{pow-suc}
use Rattle.daq_table.specs.Tables.{planes, spread, width}
use Rattle.interval_calc.specs.Intervals.{Interval}
use Rattle.known_column.specs.Columns.{KnownColumn, is_at_top, missing_at, number_of, numbers_at, read_further, rows_of_column}
use Rattle.known_column.specs.KnownTables.{column_at}
use Rattle.known_column.specs.RowBlocks.{IsKnownColumn}
use Rattle.known_column.proofs.CodeDigits.{least_plain}
use Rattle.query_model.specs.declared.bounds.Nullity.TheVariants.{Never}
use Rattle.query_model.specs.declared.bounds.Truth.{Truth}
use Rattle.query_model.specs.declared.bounds.Truth.TheVariants.{False, Unknown, True}
use Rattle.query_model.specs.Answers.{groups_of}
use Rattle.query_model.specs.Bounds.{Pair, pair_unless_false}
use Rattle.query_model.specs.Groups.{cell_of, holds_one_key, pairs_in_cell_below}
use Rattle.query_model.specs.Knowledge.{longer, ranges_of}
use Rattle.query_model.specs.Meaning.{columns_of_pred}
use Rattle.query_model.specs.Queries.{Aggregate, Column}
use Rattle.query_model.specs.Truths.{Ranges, and_of, may_be_number, null_of, span_of, truth_of, truth_of_number}
use Rattle.kleene_filter.specs.Filters.{is_certain, is_possible, stands_in}
use Rattle.kleene_filter.proofs.Tracking.{known_at_column}
use Rattle.row_groups.specs.Partition.{is_group}
use Rattle.row_values.specs.declared.short.ShortInterval.{ShortInterval}
use Rattle.row_values.proofs.NumberRanges.{number_few, unread_digits}
use Rattle.row_values.proofs.ShortRows.{range_there}
use Rattle.digit_sums.specs.declared.ends.DigitEnds.{DigitEnds}
use Rattle.digit_sums.specs.declared.ones.RowBits.{RowBits}
use Rattle.digit_sums.specs.Digits.{AreEndsOf, high_by, low_by, top_digits}
use Rattle.digit_sums.specs.Ones.{AreRead, IsRowRead, with_row}
use Rattle.digit_sums.proofs.Digits.{high_is}
use Rattle.digit_sums.proofs.ReadCells.{read_more}
use Rattle.round_engine.specs.CellAnswers.{moves_rows, pair_in_own_cell}
use Rattle.round_engine.specs.Cells.{cells_in}
use Rattle.round_engine.specs.DigitCells.{IsOverColumn}
use Rattle.round_engine.specs.KeptSums.{columns_of}
use Rattle.round_engine.specs.ReadCells.{IsBefore, IsReadFrom}
use Rattle.round_engine.specs.Stages.{IsOpenStage, Stage, stepped}
use Rattle.round_engine.proofs.CellKept.{cell_still, counts_still, keys_still, rows_stay}
use Rattle.round_engine.proofs.CellPairs.{pairs_elsewhere, pairs_with_row, pairs_without_row}
use Rattle.round_engine.proofs.DigitCells.{digits_fit, digits_span, never_missing}
use Rattle.round_engine.proofs.KeptSums.{column_longer}
use Rattle.round_engine.proofs.SetBits.{same_counts}
use Rattle.round_engine.proofs.Unmoved.{pred_unmoved}

-- a prefix is followed by the row's bit
further : (ps : List ℕ) (bits : List Bool) (row : ℕ) → row < length ps → row < length bits → get_or (longer ps bits) row 0 ≡ 2 * get_or ps row 0 + cond (get_or bits row false) 1 0
further [] bits row below long = absurd (omega arith)
further (p ∷ ps) [] row below long = absurd (omega arith)
further (p ∷ ps) (b ∷ bits) zero below long = refl
further (p ∷ ps) (b ∷ bits) (suc row) below long = further ps bits row (omega (arith, below)) (omega (arith, long))

weigh : (p u : ℕ) (one : Bool) → (2 * p + cond one 1 0) * 2 ^ u ≡ p * 2 ^ (u + 1) + cond one (2 ^ u) 0
weigh p u true = (let next : u + 1 ≡ suc u = omega arith in let w : 2 ^ (u + 1) ≡ 2 ^ u * 2 = ap (λ k. 2 ^ k) next ∙ pow-suc 2 u in let m : p * 2 ^ (u + 1) ≡ p * (2 ^ u * 2) = ap (λ k. p * k) w in omega (arith, m))
weigh p u false = (let next : u + 1 ≡ suc u = omega arith in let w : 2 ^ (u + 1) ≡ 2 ^ u * 2 = ap (λ k. 2 ^ k) next ∙ pow-suc 2 u in let m : p * 2 ^ (u + 1) ≡ p * (2 ^ u * 2) = ap (λ k. p * k) w in omega (arith, m))

-- ---- the numbers of a row

module _ (old : KnownColumn) (bits : List Bool) (ends : DigitEnds) (are : AreEndsOf (read_further old bits) ends) (was : IsKnownColumn old) (now : IsKnownColumn (read_further old bits)) (row : ℕ) (below : row < rows_of_column old) (longs : length bits ≡ rows_of_column old) (same_rows : rows_of_column (read_further old bits) ≡ rows_of_column old) where
  abbrev p : ℕ
  p = get_or old.known.prefixes row 0

  abbrev one : Bool
  one = get_or bits row false

  abbrev n : ℕ
  n = get_or (read_further old bits).known.prefixes row 0

  n_is : n ≡ 2 * p + cond one 1 0
  n_is = further old.known.prefixes bits row below (omega (arith, below, longs))

  plain : old.ends.nullable ≡ false
  plain = are.never_null

  there : row < rows_of_column (read_further old bits)
  there = omega (arith, below, same_rows)

  number : n ≡ number_of old.ends (old.known.read + 1) n
  number = (let least = least_plain old.ends (old.known.read + 1) plain in omega (arith, least))

  number_before : p ≡ number_of old.ends old.known.read p
  number_before = (let least = least_plain old.ends old.known.read plain in omega (arith, least))

  left : ends.unread + 1 ≡ unread_digits old.ends old.known.read
  left =
      let all : planes old.ends ≡ width old.ends = ap (λ b. width old.ends + cond b 1 0) plain ∙ omega arith in
      let some = now.some_read in
      omega (arith, are.unread, all, some)

  low_before : (numbers_at old row).low ≡ ends.base +ℤ pos (p * 2 ^ (ends.unread + 1))
  low_before =
      let u = ends.unread + 1 in
      let few = number_few old.ends old.known.read p was.some_read (was.legal row 0 below) in
      let fits : p * 2 ^ u ≡ number_of old.ends old.known.read p * 2 ^ unread_digits old.ends old.known.read = ap (λ k. k * 2 ^ u) number_before ∙ ap (λ k. number_of old.ends old.known.read p * 2 ^ k) left in
      let within : p * 2 ^ u ≤ spread old.ends = omega (arith, few, fits) in
      let span : ShortInterval = record { lo = ends.base +ℤ pos (p * 2 ^ u); hi = ends.base +ℤ pos (min (p * 2 ^ u + (2 ^ u - 1)) (spread old.ends)); ordered = omega (arith, ints, within) } in
      let at = range_there old row p u span was.some_read (was.legal row 0 below) number_before left
      (ap (λ z. z +ℤ pos (p * 2 ^ u)) are.base) (ap (λ z. z +ℤ pos (min (p * 2 ^ u + (2 ^ u - 1)) (spread old.ends))) are.base) in
      ap (λ (i : Interval). i.low) (sym (at.exact (subst (λ null. IsTrue (may_be_number null)) (sym (never_missing old row plain)) refl)))

  span_now : numbers_at (read_further old bits) row ≡ record { low = low_by ends n; high = high_by ends n }
  span_now = digits_span (read_further old bits) ends are now row there n number

  top_is : is_at_top old.ends (old.known.read + 1) n ≡ (n == top_digits ends)
  top_is =
      let none : cond old.ends.nullable (2 ^ width old.ends) 0 + spread old.ends ≡ ends.spread = ap (λ b. cond b (2 ^ width old.ends) 0 + spread old.ends) plain ∙ omega (arith, are.spread_is) in
      ap (λ k. n == k / 2 ^ (planes old.ends - (old.known.read + 1))) none ∙ ap (λ k. n == ends.spread / 2 ^ k) (sym are.unread)

  -- what the plane tells of the row
  pub row_read : (certain : Bool) (top : Bool) → top ≡ is_at_top old.ends (old.known.read + 1) n →
      IsRowRead ends one top (record { certain = certain; low = (numbers_at old row).low; high = (numbers_at old row).high })
      (record { certain = certain; low = (numbers_at (read_further old bits) row).low; high = (numbers_at (read_further old bits) row).high })
  row_read certain top is = record {
    certain = refl;
    never_negative = (let never = ends.above in omega (arith, ints, never, low_before));
    low =
        (let weight : n * 2 ^ ends.unread ≡ p * 2 ^ (ends.unread + 1) + cond one (2 ^ ends.unread) 0 = ap (λ k. k * 2 ^ ends.unread) n_is ∙ weigh p ends.unread one in
        let low : (numbers_at (read_further old bits) row).low ≡ low_by ends n = ap (λ (i : Interval). i.low) span_now in
        low ∙ omega (arith, ints, weight, low_before));
    high =
        (let low : (numbers_at (read_further old bits) row).low ≡ low_by ends n = ap (λ (i : Interval). i.low) span_now in
        ap (λ (i : Interval). i.high) span_now ∙ high_is ends n (digits_fit (read_further old bits) ends are now row there n number)
        ∙ ap (λ b. low_by ends n +ℤ pos (cond b (ends.spread % 2 ^ ends.unread) (2 ^ ends.unread - 1))) (sym (is ∙ top_is))
        ∙ ap (λ z. z +ℤ pos (cond top (ends.spread % 2 ^ ends.unread) (2 ^ ends.unread - 1))) (sym low));
  }

-- a plane that moves no rows leaves as many cells
pub cells_still : (stage : Stage) (column : ℕ) (bits : List Bool) (before : Stage) → IsReadFrom stage column bits before → cells_in stage ≡ cells_in before
cells_still stage column bits before step =
    ap cells_in step.read ∙ ap (λ ks. 2 ^ sum ks) (counts_still before.frame before.known column bits (groups_of before.query.shape) (rows_stay before.query column step.stays))

-- ---- the cells of a row

-- a row that is not counted changes no count
pub uncounted : (bits : RowBits) → with_row bits false false ≡ bits
uncounted bits = same_counts (bits.ones + 0) bits.ones (bits.at_top + 0) bits.at_top (omega arith) (omega arith)

natural : (z : ℤ) (h : ℕ) → pos 0 ≤ℤ z → unsigned_abs z ≡ h → z ≡ pos h
natural (pos n) h least is = ap pos is
natural (negsuc n) h least is = absurd (omega (arith, ints, least))

-- no row of a column that is never negative ends below 0
never_below : (ends : DigitEnds) (one top : Bool) (p q : Pair) → IsRowRead ends one top p q → pos 0 ≤ℤ q.high
never_below ends one top p q read = (let least = read.never_negative in let low = read.low in let high = read.high in omega (arith, ints, least, low, high))

module _ (before stage : Stage) (item : Aggregate) (ends : DigitEnds) (single : List Bool) (row : ℕ) (same : cell_of stage.known (groups_of stage.query.shape) row ≡ cell_of before.known (groups_of before.query.shape) row) where
  abbrev pub Reads : ℕ → ℕ → RowBits → ℕ → Type 0
  Reads cell n bits highs = AreRead ends (get_or single cell false) (pairs_in_cell_below before.query item cell before.frame before.known n) (pairs_in_cell_below stage.query item cell stage.frame stage.known n) bits highs

  -- a cell that the row is not in
  pub read_elsewhere : (cell : ℕ) (bits : RowBits) (highs : ℕ) → cell ≢ cell_of stage.known (groups_of stage.query.shape) row → Reads cell row bits highs → Reads cell (row + 1) bits highs
  read_elsewhere cell bits highs other read =
      subst (λ ps. AreRead ends (get_or single cell false) ps (pairs_in_cell_below stage.query item cell stage.frame stage.known (row + 1)) bits highs) (sym (pairs_elsewhere before item row cell (λ e. other (e ∙ sym same))))
      (subst (λ qs. AreRead ends (get_or single cell false) (pairs_in_cell_below before.query item cell before.frame before.known row) qs bits highs) (sym (pairs_elsewhere stage item row cell other)) read)

  -- a row that may count, in its own cell
  counted : (sure alone certain : Bool) (old new : Interval) (one top : Bool) (h : ℕ) (bits : RowBits) (highs : ℕ) → certain ≡ (sure && alone) →
      pair_in_own_cell before item row ≡ Some (record { certain = certain; low = old.low; high = old.high }) → pair_in_own_cell stage item row ≡ Some (record { certain = certain; low = new.low; high = new.high }) →
      IsRowRead ends one top (record { certain = certain; low = old.low; high = old.high }) (record { certain = certain; low = new.low; high = new.high }) →
      (sure ≡ false → (unsigned_abs new.high ≡ h) × (h ≤ 549755813887)) →
      (cell : ℕ) → cell ≡ cell_of stage.known (groups_of stage.query.shape) row → get_or single cell false ≡ alone → Reads cell row bits highs →
      Reads cell (row + 1) (with_row bits (sure && one) (sure && top)) (highs + cond sure 0 h)
  counted sure alone certain old new one top h bits highs is was now row_read ended cell here told read =
      let p : Pair = record { certain = certain; low = old.low; high = old.high } in
      let q : Pair = record { certain = certain; low = new.low; high = new.high } in
      let there = cell_of stage.known (groups_of stage.query.shape) row in
      let before_row : pairs_in_cell_below before.query item there before.frame before.known (row + 1) ≡ pairs_in_cell_below before.query item there before.frame before.known row ++ p ∷ [] =
      subst (λ c. pairs_in_cell_below before.query item c before.frame before.known (row + 1) ≡ pairs_in_cell_below before.query item c before.frame before.known row ++ p ∷ []) (sym same) (pairs_with_row before item row p was) in
      let after_row = pairs_with_row stage item row q now in
      let b = get_or single there false in
      let own : get_or single there false ≡ alone = subst (λ c. get_or single c false ≡ alone) here told in
      let bits_now = with_row bits (sure && one) (sure && top) in
      subst (λ c. Reads c (row + 1) bits_now (highs + cond sure 0 h)) (sym here)
      (subst (λ ps. AreRead ends b ps (pairs_in_cell_below stage.query item there stage.frame stage.known (row + 1)) bits_now (highs + cond sure 0 h)) (sym before_row)
      (subst (λ qs. AreRead ends b (pairs_in_cell_below before.query item there before.frame before.known row ++ p ∷ []) qs bits_now (highs + cond sure 0 h)) (sym after_row)
      (read_more ends b sure one top h _ _ bits highs p q row_read (λ unsure. (natural new.high h (never_below ends one top p q row_read) (ended unsure).0, (ended unsure).1)) (is ∙ ap (λ x. sure && x) (sym own)) (subst (λ c. Reads c row bits highs) here read))))

  uncounted_here : (cell : ℕ) (bits : RowBits) (highs : ℕ) → pair_in_own_cell before item row ≡ None → pair_in_own_cell stage item row ≡ None → Reads cell row bits highs → Reads cell (row + 1) bits highs
  uncounted_here cell bits highs was now read =
      subst (λ ps. AreRead ends (get_or single cell false) ps (pairs_in_cell_below stage.query item cell stage.frame stage.known (row + 1)) bits highs) (sym (pairs_without_row before item row was cell))
      (subst (λ qs. AreRead ends (get_or single cell false) (pairs_in_cell_below before.query item cell before.frame before.known row) qs bits highs) (sym (pairs_without_row stage item row now cell)) read)

  -- the cell that it is in, by what is known of the condition there
  pub read_here : (holds : Truth) (alone : Bool) (old new : Interval) (may must one top : Bool) (h : ℕ) (bits : RowBits) (highs : ℕ) → may ≡ is_possible holds → must ≡ is_certain holds →
      pair_in_own_cell before item row ≡ pair_unless_false (and_of (and_of holds (if alone then True else Unknown)) (truth_of_number Never)) old →
      pair_in_own_cell stage item row ≡ pair_unless_false (and_of (and_of holds (if alone then True else Unknown)) (truth_of_number Never)) new →
      ((certain : Bool) → IsRowRead ends one top (record { certain = certain; low = old.low; high = old.high }) (record { certain = certain; low = new.low; high = new.high })) →
      ((may && not must) ≡ true → (unsigned_abs new.high ≡ h) × (h ≤ 549755813887)) →
      (cell : ℕ) → cell ≡ cell_of stage.known (groups_of stage.query.shape) row → get_or single cell false ≡ alone → Reads cell row bits highs →
      Reads cell (row + 1) (with_row bits (must && one) (must && top)) (highs + cond (may && not must) h 0)
  read_here False alone old new may must one top h bits highs may_is must_is was now row_read ended cell here told read =
      let nothing : highs ≡ highs + 0 = omega arith in
      subst (λ m. Reads cell (row + 1) (with_row bits (m && one) (m && top)) (highs + cond (may && not m) h 0)) (sym must_is)
      (subst (λ m. Reads cell (row + 1) (with_row bits false false) (highs + cond (m && true) h 0)) (sym may_is)
      (subst (λ n. Reads cell (row + 1) (with_row bits false false) n) nothing
      (subst (λ k. Reads cell (row + 1) k highs) (sym (uncounted bits)) (uncounted_here cell bits highs was now read))))
  read_here Unknown true old new may must one top h bits highs may_is must_is was now row_read ended cell here told read =
      subst (λ m. Reads cell (row + 1) (with_row bits (m && one) (m && top)) (highs + cond (may && not m) h 0)) (sym must_is)
      (subst (λ m. Reads cell (row + 1) (with_row bits false false) (highs + cond (m && true) h 0)) (sym may_is)
      (counted false true false old new one top h bits highs refl was now (row_read false) (λ f. ended (ap (λ m. m && not must) may_is ∙ ap not must_is)) cell here told read))
  read_here Unknown false old new may must one top h bits highs may_is must_is was now row_read ended cell here told read =
      subst (λ m. Reads cell (row + 1) (with_row bits (m && one) (m && top)) (highs + cond (may && not m) h 0)) (sym must_is)
      (subst (λ m. Reads cell (row + 1) (with_row bits false false) (highs + cond (m && true) h 0)) (sym may_is)
      (counted false false false old new one top h bits highs refl was now (row_read false) (λ f. ended (ap (λ m. m && not must) may_is ∙ ap not must_is)) cell here told read))
  read_here True true old new may must one top h bits highs may_is must_is was now row_read ended cell here told read =
      subst (λ m. Reads cell (row + 1) (with_row bits (m && one) (m && top)) (highs + cond (may && not m) h 0)) (sym must_is)
      (subst (λ m. Reads cell (row + 1) (with_row bits one top) (highs + cond (m && false) h 0)) (sym may_is)
      (counted true true true old new one top h bits highs refl was now (row_read true) (λ f. absurd (false≢true (sym f))) cell here told read))
  read_here True false old new may must one top h bits highs may_is must_is was now row_read ended cell here told read =
      subst (λ m. Reads cell (row + 1) (with_row bits (m && one) (m && top)) (highs + cond (may && not m) h 0)) (sym must_is)
      (subst (λ m. Reads cell (row + 1) (with_row bits one top) (highs + cond (m && false) h 0)) (sym may_is)
      (counted true false false old new one top h bits highs refl was now (row_read false) (λ f. absurd (false≢true (sym f))) cell here told read))

-- ---- a row of a stage

module _ (before : Stage) (c : ℕ) (bits : List Bool) (item : Aggregate) (ends : DigitEnds) (single : List Bool) (was : IsOpenStage before) (arg : item.arg ≡ Column c) (stays : moves_rows before.query c ≡ false) (within : c < length before.frame.columns) (longs : length bits ≡ before.frame.rows) (row : ℕ) (below : row < before.frame.rows) where
  abbrev after : Stage
  after = stepped before c bits

  abbrev old : KnownColumn
  old = column_at (columns_of before) c

  abbrev next : KnownColumn
  next = read_further old bits

  abbrev groups : List ℕ
  groups = groups_of before.query.shape

  next_is : column_at (columns_of after) c ≡ next
  next_is = column_longer before c c bits was within refl

  pub same : cell_of after.known groups row ≡ cell_of before.known groups row
  same = cell_still before.frame before.known c bits row groups (rows_stay before.query c stays)

  abbrev new_ranges : Ranges
  new_ranges = ranges_of before.frame after.known row

  abbrev old_ranges : Ranges
  old_ranges = ranges_of before.frame before.known row

  abbrev holds : Truth
  holds = truth_of before.query.pred new_ranges

  abbrev alone : Bool
  alone = holds_one_key groups new_ranges

  abbrev counts : Truth
  counts = and_of (and_of holds (if alone then True else Unknown)) (truth_of_number Never)

  pair_after : old.ends.nullable ≡ false → pair_in_own_cell after item row ≡ pair_unless_false counts (numbers_at next row)
  pair_after plain =
      ap (λ e. pair_unless_false (and_of (and_of holds (if alone then True else Unknown)) (truth_of_number (null_of e new_ranges))) (span_of e new_ranges)) arg
      ∙ ap (λ (w : KnownColumn). pair_unless_false (and_of (and_of holds (if alone then True else Unknown)) (truth_of_number (missing_at w row))) (numbers_at w row)) next_is
      ∙ ap (λ n. pair_unless_false (and_of (and_of holds (if alone then True else Unknown)) (truth_of_number n)) (numbers_at next row)) (never_missing next row plain)

  pair_before : old.ends.nullable ≡ false → pair_in_own_cell before item row ≡ pair_unless_false counts (numbers_at old row)
  pair_before plain =
      let t = truth_of before.query.pred old_ranges in
      let one = holds_one_key groups old_ranges in
      ap (λ e. pair_unless_false (and_of (and_of t (if one then True else Unknown)) (truth_of_number (null_of e old_ranges))) (span_of e old_ranges)) arg
      ∙ ap (λ n. pair_unless_false (and_of (and_of t (if one then True else Unknown)) (truth_of_number n)) (numbers_at old row)) (never_missing old row plain)
      ∙ ap (λ v. pair_unless_false (and_of (and_of v (if one then True else Unknown)) (truth_of_number Never)) (numbers_at old row))
      (sym (pred_unmoved before.query.pred before.frame before.known c bits row (or_parts (stands_in (columns_of_pred before.query.pred) c) (is_group groups c) stays).0))
      ∙ ap (λ b. pair_unless_false (and_of (and_of holds (if b then True else Unknown)) (truth_of_number Never)) (numbers_at old row)) (sym (keys_still before.frame before.known c bits row groups (rows_stay before.query c stays)))

  module _ (now : IsOpenStage after) (are : AreEndsOf (column_at (columns_of after) c) ends) where
    known_before : IsKnownColumn old
    known_before = known_at_column (columns_of before) c (record { few_rows = was.open_query.few_rows; knowledge = was.knowledge }) within

    known_now : IsKnownColumn next
    known_now = subst IsKnownColumn next_is (known_at_column (columns_of after) c (record { few_rows = now.open_query.few_rows; knowledge = now.knowledge }) within)

    ends_now : AreEndsOf next ends
    ends_now = subst (λ w. AreEndsOf w ends) next_is are

    -- the row in its cell
    pub row_in_cell : (may must top : Bool) (h : ℕ) (counted : RowBits) (highs : ℕ) → may ≡ is_possible holds → must ≡ is_certain holds →
        top ≡ is_at_top old.ends (column_at (columns_of after) c).known.read (get_or (column_at (columns_of after) c).known.prefixes row 0) →
        ((may && not must) ≡ true → (unsigned_abs (span_of item.arg new_ranges).high ≡ h) × (h ≤ 549755813887)) →
        (cell : ℕ) → cell ≡ cell_of after.known groups row → get_or single cell false ≡ alone → Reads before after item ends single row same cell row counted highs →
        Reads before after item ends single row same cell (row + 1) (with_row counted (must && get_or bits row false) (must && top)) (highs + cond (may && not must) h 0)
    row_in_cell may must top h counted highs may_is must_is top_is ended cell here told read =
        let rows_were = was.knowledge.rows c within in
        let rows_are : rows_of_column next ≡ before.frame.rows = ap rows_of_column (sym next_is) ∙ now.knowledge.rows c within in
        let at : top ≡ is_at_top old.ends (old.known.read + 1) (get_or next.known.prefixes row 0) = top_is ∙ ap (λ (w : KnownColumn). is_at_top old.ends w.known.read (get_or w.known.prefixes row 0)) next_is in
        let numbers : span_of item.arg new_ranges ≡ numbers_at next row = ap (λ e. span_of e new_ranges) arg ∙ ap (λ (w : KnownColumn). numbers_at w row) next_is in
        read_here before after item ends single row same holds alone (numbers_at old row) (numbers_at next row) may must (get_or bits row false) top h counted highs may_is must_is
        (pair_before ends_now.never_null) (pair_after ends_now.never_null)
        (λ certain. row_read old bits ends ends_now known_before known_now row (omega (arith, below, rows_were)) (omega (arith, longs, rows_were)) (omega (arith, rows_are, rows_were)) certain top at)
        (λ unsure. subst (λ (i : Interval). (unsigned_abs i.high ≡ h) × (h ≤ 549755813887)) numbers (ended unsure))
        cell here told read

    -- and in another
    pub row_elsewhere : (cell : ℕ) (counted : RowBits) (highs : ℕ) → cell ≢ cell_of after.known groups row → Reads before after item ends single row same cell row counted highs → Reads before after item ends single row same cell (row + 1) counted highs
    row_elsewhere cell counted highs other read = read_elsewhere before after item ends single row same cell counted highs other read

the_column : (a b : ℕ) → Column a ≡ Column b → a ≡ b
the_column a b e = cc

-- the same at a stage of which another is told to be the one before
module _ (stage : Stage) (item : Aggregate) (bits : List Bool) (before : Stage) (is : IsBefore stage item bits before) (now : IsOpenStage stage) (known : KnownColumn) (over : IsOverColumn item (columns_of stage) known) (ends : DigitEnds) (are : AreEndsOf known ends) (single : List Bool) (longs : length bits ≡ stage.frame.rows) (row : ℕ) (below : row < stage.frame.rows) where
  abbrev c : ℕ
  c = is.column

  abbrev then_stage : Stage
  then_stage = stepped before c bits

  known_is : known ≡ column_at (columns_of then_stage) c
  known_is = over.is ∙ ap (column_at (columns_of stage)) (the_column over.column c (sym over.arg ∙ is.arg)) ∙ ap (λ (s : Stage). column_at (columns_of s) c) is.step.read

  inside : c < length before.frame.columns
  inside = subst (λ (s : Stage). c < length s.frame.columns) is.step.read (subst (λ k. k < length stage.frame.columns) (the_column over.column c (sym over.arg ∙ is.arg)) over.within)

  rows_is : stage.frame.rows ≡ before.frame.rows
  rows_is = ap (λ (s : Stage). s.frame.rows) is.step.read

  abbrev ReadsAt : Stage → ℕ → ℕ → RowBits → ℕ → Type 0
  ReadsAt s cell n counted highs = AreRead ends (get_or single cell false) (pairs_in_cell_below before.query item cell before.frame before.known n) (pairs_in_cell_below s.query item cell s.frame s.known n) counted highs

  pub stage_row : (may must top : Bool) (h : ℕ) (counted : RowBits) (highs : ℕ) → may ≡ is_possible (truth_of stage.query.pred (ranges_of stage.frame stage.known row)) →
      must ≡ is_certain (truth_of stage.query.pred (ranges_of stage.frame stage.known row)) → top ≡ is_at_top known.ends known.known.read (get_or known.known.prefixes row 0) →
      ((may && not must) ≡ true → (unsigned_abs (span_of item.arg (ranges_of stage.frame stage.known row)).high ≡ h) × (h ≤ 549755813887)) →
      (cell : ℕ) → cell ≡ cell_of stage.known (groups_of stage.query.shape) row → get_or single cell false ≡ holds_one_key (groups_of stage.query.shape) (ranges_of stage.frame stage.known row) →
      ReadsAt stage cell row counted highs → ReadsAt stage cell (row + 1) (with_row counted (must && get_or bits row false) (must && top)) (highs + cond (may && not must) h 0)
  stage_row may must top h counted highs may_is must_is top_is ended cell here told read =
      let bit = get_or bits row false in
      subst (λ s. ReadsAt s cell (row + 1) (with_row counted (must && bit) (must && top)) (highs + cond (may && not must) h 0)) (sym is.step.read)
      (row_in_cell before c bits item ends single is.step.open_stage is.arg is.step.stays inside (longs ∙ rows_is) row (omega (arith, below, rows_is)) (subst IsOpenStage is.step.read now) (subst (λ w. AreEndsOf w ends) known_is are)
      may must top h counted highs (may_is ∙ ap (λ (s : Stage). is_possible (truth_of s.query.pred (ranges_of s.frame s.known row))) is.step.read)
      (must_is ∙ ap (λ (s : Stage). is_certain (truth_of s.query.pred (ranges_of s.frame s.known row))) is.step.read)
      (top_is ∙ ap (λ (w : KnownColumn). is_at_top w.ends w.known.read (get_or w.known.prefixes row 0)) known_is)
      (λ unsure. subst (λ (s : Stage). (unsigned_abs (span_of item.arg (ranges_of s.frame s.known row)).high ≡ h) × (h ≤ 549755813887)) is.step.read (ended unsure))
      cell (here ∙ ap (λ (s : Stage). cell_of s.known (groups_of s.query.shape) row) is.step.read)
      (told ∙ ap (λ (s : Stage). holds_one_key (groups_of s.query.shape) (ranges_of s.frame s.known row)) is.step.read) (subst (λ s. ReadsAt s cell row counted highs) is.step.read read))

  pub stage_elsewhere : (cell : ℕ) (counted : RowBits) (highs : ℕ) → cell ≢ cell_of stage.known (groups_of stage.query.shape) row → ReadsAt stage cell row counted highs → ReadsAt stage cell (row + 1) counted highs
  stage_elsewhere cell counted highs other read =
      subst (λ s. ReadsAt s cell (row + 1) counted highs) (sym is.step.read)
      (row_elsewhere before c bits item ends single is.step.open_stage is.arg is.step.stays inside (longs ∙ rows_is) row (omega (arith, below, rows_is)) (subst IsOpenStage is.step.read now) (subst (λ w. AreEndsOf w ends) known_is are)
      cell counted highs (λ e. other (e ∙ sym (ap (λ (s : Stage). cell_of s.known (groups_of s.query.shape) row) is.step.read))) (subst (λ s. ReadsAt s cell row counted highs) is.step.read read))
