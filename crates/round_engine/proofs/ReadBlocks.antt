-- A block of rows of which the next plane is read: the words that tell its rows, and what its rows add to the counts of their cells.
use Rattle.std.proofs.Common.{◌≡◌, ◌≢◌, ℕ, ◌+◌, ◌*◌, ◌%◌, ◌^◌, ◌<◌, ◌≤◌, ◌-◌, ◌==◌, ◌&&◌, ◌||◌, not, unsigned_abs, Bool, true, false, cond, IsTrue, List, length, get_or, slice_get, Some, inl, inr, refl, ap, sym, subst, ◌∙◌, arith}
use Rattle.std.specs.Int.{bit_not, w64}
use Rattle.std.specs.Int.Bits.{bit_and, bit_or, mask_lt}
use Rattle.std.proofs.lemmas.Bool.{cases_eq, false≢true}
use Rattle.std.proofs.lemmas.Nat.{and_le_l, and_mask}
use Rattle.std.proofs.Math.Nat.{pow-le-pow_right}
use Rattle.std.proofs.lemmas.Nat.Bits.{bit_at_ones}
use Rattle.std.proofs.lemmas.Option.{get_or_from_slice_get, same_Some, slice_get-get_or}
use Rattle.digit_sums.specs.declared.ends.DigitEnds.{DigitEnds}
use Rattle.digit_sums.specs.declared.ones.RowBits.{RowBits}
use Rattle.digit_sums.specs.Digits.{AreEndsOf}
use Rattle.digit_sums.specs.Ones.{AreRead, CountedBits, with_row}
use Rattle.kleene_filter.specs.Filters.{is_certain, is_possible}
use Rattle.kleene_filter.proofs.WordBits.{digit-and, digit-or}
use Rattle.known_column.specs.Columns.{KnownColumn, count_in_block, missing_at}
use Rattle.plane_kernels.specs.Rows.{digit_at}
use Rattle.query_model.specs.declared.bounds.Nullity.TheVariants.{Never}
use Rattle.query_model.specs.declared.bounds.Truth.{Truth}
use Rattle.query_model.specs.declared.bounds.Truth.TheVariants.{False, Unknown, True}
use Rattle.query_model.specs.Groups.{pairs_in_cell_below}
use Rattle.query_model.specs.Knowledge.{IsKnowledge, ranges_of}
use Rattle.query_model.specs.Laws.{PairsAreFew}
use Rattle.query_model.specs.Queries.{Aggregate}
use Rattle.query_model.specs.Truths.{may_be_number, null_of, span_of, truth_of}
use Rattle.row_groups.specs.Partition.{AreCellsFrom, CellsTellKeys, RowCells}
use Rattle.round_engine.specs.declared.read_cells.BlockWords.{BlockWords}
use Rattle.round_engine.specs.CellAnswers.{IsParted}
use Rattle.round_engine.specs.DigitCells.{IsOverColumn}
use Rattle.round_engine.specs.KeptSums.{columns_of}
use Rattle.round_engine.specs.ReadCells.{AreBlockCells, AreBlockWords, AreReadBelow, IsBefore, IsRowAdded}
use Rattle.round_engine.specs.Stages.{IsOpenStage, Stage}
use Rattle.round_engine.proofs.CellKept.{parted_rows}
use Rattle.round_engine.proofs.CellRows.{cell_counted, cell_is, cell_single}
use Rattle.round_engine.proofs.DigitCells.{never_missing}
use Rattle.round_engine.proofs.ReadRows.{stage_elsewhere, stage_row, uncounted}
use Rattle.round_engine.proofs.SetBits.{digit-not}

-- the first bits of a word
pub first_low : (first word n : ℕ) → first ≡ word % 2 ^ n → first < 2 ^ n
first_low first word n is = subst (λ k. k < 2 ^ n) (and_mask word n ∙ sym is) (mask_lt word n)

pub digit-first : (n word r : ℕ) → r < n → digit_at r (word % 2 ^ n) ≡ digit_at r word
digit-first n word r below =
    ap (digit_at r) (sym (and_mask word n)) ∙ digit-and r word (2 ^ n - 1) ∙ ap (λ k. digit_at r word && (k == 1)) (bit_at_ones n r below) ∙ kept (digit_at r word)
  where
    kept : (b : Bool) → (b && true) ≡ b
    kept true = refl
    kept false = refl

-- ---- the words of a block and its rows in their cells

quiet_bits : (must one top : Bool) → (must && (one || top)) ≡ false → ((must && one) ≡ false) × ((must && top) ≡ false)
quiet_bits false one top none = (refl, refl)
quiet_bits true true top none = absurd (false≢true (sym none))
quiet_bits true false top none = (refl, none)

-- the cells of a block, as they were read, are those of its rows
pub block_cells : (stage : Stage) (cells : RowCells) (single : List Bool) → IsParted stage cells single → IsKnowledge stage.frame stage.known → CellsTellKeys → (number : ℕ) (block : List ℕ) → AreCellsFrom (64 * number) cells.cells block →
    AreBlockCells stage single number block
block_cells stage cells single parted knowledge tell number block read = record {
  is = λ r below. cell_is stage cells single parted knowledge (64 * number + r) (within r below) (get_or block r 0) (there r below);
  inside = λ r below. cell_counted stage cells single parted knowledge (64 * number + r) (within r below) (get_or block r 0) (there r below);
  alone = λ r below. get_or_from_slice_get single (get_or block r 0) _ false (cell_single stage cells single parted knowledge (64 * number + r) (within r below) tell (get_or block r 0) (there r below));
}
  where
    within : (r : ℕ) → r < count_in_block number stage.frame.rows → 64 * number + r < stage.frame.rows
    within r below = omega (arith, below)

    there : (r : ℕ) → r < count_in_block number stage.frame.rows → slice_get cells.cells (64 * number + r) ≡ Some (get_or block r 0)
    there r below = read r (omega (arith, below)) (omega (arith, within r below, parted_rows stage cells single parted))

module _ (stage : Stage) (known : KnownColumn) (bits : List Bool) (number : ℕ) (words : BlockWords) (are : AreBlockWords stage known bits number words) where
  abbrev pub sure_word : ℕ
  sure_word = bit_and words.must (bit_or words.ones words.top)

  abbrev pub unsure_word : ℕ
  unsure_word = bit_and words.may (bit_not w64 words.must)

  abbrev block_rows : ℕ
  block_rows = count_in_block number stage.frame.rows

  must_word : words.must < 18446744073709551616
  must_word =
      let two : 1 ≤ 2 = omega arith in
      let few : block_rows ≤ 64 = omega arith in
      let most : 2 ^ block_rows ≤ 2 ^ 64 = pow-le-pow_right two few in
      omega (arith, are.must_fits, most)

  pub sure_fits : sure_word < 2 ^ block_rows
  sure_fits = omega (arith, and_le_l words.must (bit_or words.ones words.top), are.must_fits)

  pub unsure_fits : unsure_word < 2 ^ block_rows
  unsure_fits = omega (arith, and_le_l words.may (bit_not w64 words.must), are.may_fits)

  unsure_bit : (r : ℕ) → r < block_rows → digit_at r unsure_word ≡ (digit_at r words.may && not (digit_at r words.must))
  unsure_bit r below = digit-and r words.may (bit_not w64 words.must) ∙ ap (λ b. digit_at r words.may && b) (digit-not r words.must must_word (omega (arith, below)))

  sure_bit : (r : ℕ) → digit_at r sure_word ≡ (digit_at r words.must && (digit_at r words.ones || digit_at r words.top))
  sure_bit r = digit-and r words.must (bit_or words.ones words.top) ∙ ap (λ b. digit_at r words.must && b) (digit-or r words.ones words.top)

  -- a row that adds nothing: it surely counts and has no bit and is not at top, or does not count
  pub record IsQuiet (r : ℕ) : Type 0 where
    pub ones : (digit_at r words.must && digit_at r words.ones) ≡ false
    pub tops : (digit_at r words.must && digit_at r words.top) ≡ false
    pub ends : (digit_at r words.may && not (digit_at r words.must)) ≡ false

  pub quiet : (r : ℕ) → r < block_rows → digit_at r sure_word ≡ false → digit_at r unsure_word ≡ false → IsQuiet r
  quiet r below sure unsure =
      let parts = quiet_bits (digit_at r words.must) (digit_at r words.ones) (digit_at r words.top) (sym (sure_bit r) ∙ sure) in
      record { ones = parts.0; tops = parts.1; ends = sym (unsure_bit r below) ∙ unsure }

  -- a row of the first word surely counts, and one that surely counts may count
  pub sure_there : (r : ℕ) → digit_at r sure_word ≡ true → digit_at r words.must ≡ true
  sure_there r bit = first_of (digit_at r words.must) (digit_at r words.ones || digit_at r words.top) (sym (sure_bit r) ∙ bit)
    where
      first_of : (m o : Bool) → (m && o) ≡ true → m ≡ true
      first_of true o h = refl
      first_of false o h = h

  pub may_there : (r : ℕ) → r < block_rows → digit_at r words.must ≡ true → digit_at r words.may ≡ true
  may_there r below must = are.may_bit r below ∙ possible (truth_of stage.query.pred (ranges_of stage.frame stage.known (64 * number + r))) (sym (are.must_bit r below) ∙ must)
    where
      possible : (t : Truth) → is_certain t ≡ true → is_possible t ≡ true
      possible False h = h
      possible Unknown h = refl
      possible True h = refl

  pub unsure_there : (r : ℕ) → r < block_rows → digit_at r unsure_word ≡ true → digit_at r words.may ≡ true
  unsure_there r below bit = first_of (digit_at r words.may) (not (digit_at r words.must)) (sym (unsure_bit r below) ∙ bit)
    where
      first_of : (m o : Bool) → (m && o) ≡ true → m ≡ true
      first_of true o h = refl
      first_of false o h = h

-- a column that is never null gives a value at each row
pub never_null : (stage : Stage) (item : Aggregate) (known : KnownColumn) → IsOverColumn item (columns_of stage) known → known.ends.nullable ≡ false → (row : ℕ) →
    IsTrue (may_be_number (null_of item.arg (ranges_of stage.frame stage.known row)))
never_null stage item known over plain row =
    let none : null_of item.arg (ranges_of stage.frame stage.known row) ≡ Never =
    ap (λ e. null_of e (ranges_of stage.frame stage.known row)) over.arg ∙ ap (λ (w : KnownColumn). missing_at w row) (sym over.is) ∙ never_missing known row plain in
    subst (λ n. IsTrue (may_be_number n)) (sym none) refl

swapped : (may must : Bool) (h : ℕ) → may ≡ true → cond (may && not must) h 0 ≡ cond must 0 h
swapped true true h is = refl
swapped true false h is = refl
swapped false must h is = absurd (false≢true is)

module _ (stage : Stage) (item : Aggregate) (bits : List Bool) (before : Stage) (is : IsBefore stage item bits before) (now : IsOpenStage stage) (known : KnownColumn) (over : IsOverColumn item (columns_of stage) known) (ends : DigitEnds) (are : AreEndsOf known ends) (single : List Bool) (longs : length bits ≡ stage.frame.rows) (number : ℕ) (words : BlockWords) (told : AreBlockWords stage known bits number words) (cells : List ℕ) (own : AreBlockCells stage single number cells) where
  abbrev pub ReadTo : CountedBits → ℕ → Type 0
  ReadTo counted r = AreReadBelow before stage item ends single (64 * number + r) counted

  module _ (r : ℕ) (below : r < count_in_block number stage.frame.rows) where
    abbrev row : ℕ
    row = 64 * number + r

    abbrev there : ℕ
    there = get_or cells r 0

    within : row < stage.frame.rows
    within = omega (arith, below)

    next : row + 1 ≡ 64 * number + (r + 1)
    next = omega arith

    -- what is counted of the row's cell
    own_row : (h : ℕ) (counted : RowBits) (highs : ℕ) → ((digit_at r words.may && not (digit_at r words.must)) ≡ true → (unsigned_abs (span_of item.arg (ranges_of stage.frame stage.known row)).high ≡ h) × (h ≤ 549755813887)) →
        AreRead ends (get_or single there false) (pairs_in_cell_below before.query item there before.frame before.known row) (pairs_in_cell_below stage.query item there stage.frame stage.known row) counted highs →
        AreRead ends (get_or single there false) (pairs_in_cell_below before.query item there before.frame before.known (row + 1)) (pairs_in_cell_below stage.query item there stage.frame stage.known (row + 1))
        (with_row counted (digit_at r words.must && digit_at r words.ones) (digit_at r words.must && digit_at r words.top)) (highs + cond (digit_at r words.may && not (digit_at r words.must)) h 0)
    own_row h counted highs ended read =
        subst (λ b. AreRead ends (get_or single there false) (pairs_in_cell_below before.query item there before.frame before.known (row + 1)) (pairs_in_cell_below stage.query item there stage.frame stage.known (row + 1))
        (with_row counted (digit_at r words.must && b) (digit_at r words.must && digit_at r words.top)) (highs + cond (digit_at r words.may && not (digit_at r words.must)) h 0)) (sym (told.one_bit r below))
        (stage_row stage item bits before is now known over ends are single longs row within (digit_at r words.may) (digit_at r words.must) (digit_at r words.top) h counted highs (told.may_bit r below) (told.must_bit r below) (told.top_bit r below)
        ended there (own.is r below) (own.alone r below) read)

    other_row : (cell : ℕ) (counted : RowBits) (highs : ℕ) → cell ≢ there →
        AreRead ends (get_or single cell false) (pairs_in_cell_below before.query item cell before.frame before.known row) (pairs_in_cell_below stage.query item cell stage.frame stage.known row) counted highs →
        AreRead ends (get_or single cell false) (pairs_in_cell_below before.query item cell before.frame before.known (row + 1)) (pairs_in_cell_below stage.query item cell stage.frame stage.known (row + 1)) counted highs
    other_row cell counted highs away read =
        stage_elsewhere stage item bits before is now known over ends are single longs row within cell counted highs (λ e. away (e ∙ sym (own.is r below))) read

    -- a row that adds nothing
    pub row_passed : IsQuiet stage known bits number words told r → (counts : CountedBits) → ReadTo counts r → ReadTo counts (r + 1)
    row_passed still counts read = subst (λ n. AreReadBelow before stage item ends single n counts) next (record {
      cells = read.cells;
      highs = read.highs;
      each = λ cell counted highs at at_high. elim (cases_eq cell there) [
        | inl same ↦
            (let nothing : highs + 0 ≡ highs = omega arith in
            let start = subst (λ k. AreRead ends (get_or single k false) (pairs_in_cell_below before.query item k before.frame before.known row) (pairs_in_cell_below stage.query item k stage.frame stage.known row) counted highs) same (read.each cell counted highs at at_high) in
            let more = own_row 0 counted highs (λ yes. absurd (false≢true (sym still.ends ∙ yes))) start in
            subst (λ k. AreRead ends (get_or single k false) (pairs_in_cell_below before.query item k before.frame before.known (row + 1)) (pairs_in_cell_below stage.query item k stage.frame stage.known (row + 1)) counted highs) (sym same)
            (subst (λ n. AreRead ends (get_or single there false) (pairs_in_cell_below before.query item there before.frame before.known (row + 1)) (pairs_in_cell_below stage.query item there stage.frame stage.known (row + 1)) counted n) (ap (λ b. highs + cond b 0 0) still.ends ∙ nothing)
            (subst (λ k. AreRead ends (get_or single there false) (pairs_in_cell_below before.query item there before.frame before.known (row + 1)) (pairs_in_cell_below stage.query item there stage.frame stage.known (row + 1)) k (highs + cond (digit_at r words.may && not (digit_at r words.must)) 0 0))
            (ap (λ b. with_row counted b (digit_at r words.must && digit_at r words.top)) still.ones ∙ ap (with_row counted false) still.tops ∙ uncounted counted) more)))
        | inr away ↦ other_row cell counted highs away (read.each cell counted highs at at_high)
      ];
    })

    -- a row that was counted in its cell
    pub row_added : PairsAreFew → (h : ℕ) (old new : CountedBits) → digit_at r words.may ≡ true → h ≤ 549755813887 →
        ((digit_at r words.may && not (digit_at r words.must)) ≡ true → (unsigned_abs (span_of item.arg (ranges_of stage.frame stage.known row)).high ≡ h) × (h ≤ 549755813887)) →
        IsRowAdded old new there (digit_at r words.must) (digit_at r words.ones) (digit_at r words.top) h → ReadTo old r → ReadTo new (r + 1)
    row_added few h old new may small ended added read = subst (λ n. AreReadBelow before stage item ends single n new) next (record {
      cells = added.cells ∙ read.cells;
      highs = added.highs ∙ read.highs;
      each = λ cell counted highs at at_high. elim (cases_eq cell there) [
        | inl same ↦
            (let d : RowBits = record { ones = 0; at_top = 0 } in
            let counted_before = get_or old.cells there d in
            let high_before = get_or old.highs there 0 in
            let at_old : slice_get old.cells there ≡ Some counted_before = slice_get-get_or old.cells there d (omega (arith, own.inside r below, read.cells)) in
            let at_old_high : slice_get old.highs there ≡ Some high_before = slice_get-get_or old.highs there 0 (omega (arith, own.inside r below, read.highs)) in
            let start = read.each there counted_before high_before at_old at_old_high in
            let most = (few before.query item before.frame before.known row).in_cell there in
            let rows = now.open_query.few_rows in
            let fits = start.fits in
            let now_bits = added.counted counted_before (omega (arith, start.few, most, within, rows)) (omega (arith, start.some, most, within, rows)) at_old in
            let now_high = added.ended high_before (omega (arith, fits, most, within, rows, small)) at_old_high in
            let bits_is : with_row counted_before (digit_at r words.must && digit_at r words.ones) (digit_at r words.must && digit_at r words.top) ≡ counted = same_Some _ counted (sym now_bits ∙ ap (slice_get new.cells) (sym same) ∙ at) in
            let high_is : high_before + cond (digit_at r words.must) 0 h ≡ highs = same_Some _ highs (sym now_high ∙ ap (slice_get new.highs) (sym same) ∙ at_high) in
            subst (λ k. AreRead ends (get_or single k false) (pairs_in_cell_below before.query item k before.frame before.known (row + 1)) (pairs_in_cell_below stage.query item k stage.frame stage.known (row + 1)) counted highs) (sym same)
            (subst (λ n. AreRead ends (get_or single there false) (pairs_in_cell_below before.query item there before.frame before.known (row + 1)) (pairs_in_cell_below stage.query item there stage.frame stage.known (row + 1)) counted n)
            (ap (λ n. high_before + n) (swapped (digit_at r words.may) (digit_at r words.must) h may) ∙ high_is)
            (subst (λ k. AreRead ends (get_or single there false) (pairs_in_cell_below before.query item there before.frame before.known (row + 1)) (pairs_in_cell_below stage.query item there stage.frame stage.known (row + 1)) k (high_before + cond (digit_at r words.may && not (digit_at r words.must)) h 0)) bits_is
            (own_row h counted_before high_before ended start))))
        | inr away ↦
            other_row cell counted highs away
            (read.each cell counted highs (sym (added.others cell away) ∙ at) (sym (added.other_highs cell away) ∙ at_high))
      ];
    })
