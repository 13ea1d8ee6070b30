-- An item's pairs of the rows of a block, at once.
use Rattle.std.proofs.Common.{append-nil, ◌≡◌, ℕ, zero, suc, ◌+◌, ◌-◌, ◌*◌, ◌<◌, ◌≤◌, min, Bool, false, not, ◌&&◌, List, [], ◌∷◌, ◌++◌, length, map, take, drop, slice_get, get_or, Option, Some, None, IsTrue, refl, ap, sym, subst, ◌∙◌, arith, pos, length-append, length-take, if◌then◌else◌}
use Rattle.std.proofs.lemmas.Int.{ints}
use Rattle.std.specs.List.{filter_map, range_with_len}
use Rattle.std.specs.Option.{option_map}
use Rattle.std.proofs.lemmas.Option.{slice_get-get_or}
use Rattle.interval_calc.specs.Intervals.{Interval, interval_of}
use Rattle.interval_calc.specs.declared.Interval as code
use Rattle.plane_kernels.specs.Rows.{bits_of, digit_at}
use Rattle.query_model.specs.declared.bounds.Nullity.{Nullity}
use Rattle.query_model.specs.declared.bounds.Nullity.TheVariants.{Never, Possibly, Always}
use Rattle.query_model.specs.declared.bounds.Truth.{Truth}
use Rattle.query_model.specs.declared.bounds.Truth.TheVariants.{False, Unknown, True}
use Rattle.query_model.specs.declared.query.Shape.TheVariants.{Plain}
use Rattle.query_model.specs.Queries.{Condition, Aggregate, Query}
use Rattle.query_model.specs.Bounds.{Pair, pair_unless_false, pairs_below}
use Rattle.query_model.specs.Knowledge.{IsKnowledge, ranges_of}
use Rattle.query_model.specs.Laws.{PairsAreFew, SumsFit, SumsOfItemsFit}
use Rattle.query_model.specs.Truths.{and_of, may_be_null, may_be_number, null_of, span_of, truth_of, truth_of_number}
use Rattle.query_model.specs.Validity.{FitsItem, IsSumKind}
use Rattle.known_column.specs.Columns.{count_in_block}
use Rattle.known_column.specs.KnownTables.{KnownTable}
use Rattle.kleene_filter.specs.Filters.{is_certain, is_possible, truth_at, truths_under}
use Rattle.kleene_filter.proofs.Parting.{mask_bit}
use Rattle.kleene_filter.proofs.WordBits.{digit-zero}
use Rattle.row_values.specs.declared.block_values.BlockValues.{BlockValues}
use Rattle.row_values.specs.BlockValues.{AreValues}
use Rattle.aggregates.specs.BlockPairs.{AreAllAdded, MayAddAll, pair_in, pairs_in}
use Rattle.aggregates.specs.Runnings.{StandsFor, Tallies}
use Rattle.aggregates.specs.Tallies.{pair_with}
use Rattle.aggregates.proofs.BlockAdding.{parts_of}
use Rattle.round_engine.specs.Engines.{stage_of}
use Rattle.round_engine.specs.Stages.{Stage}
use Rattle.round_engine.specs.Totals.{IsFilledBelow, pair_at}
use Rattle.round_engine.proofs.RowPairs.{bit_at_row, pair_impossible, plain_pair, rows_of_mask}

-- ---- lists of what rows give

-- what two functions give of rows, one by one
pub given_alike : (f g : ℕ → Option Pair) (a b n : ℕ) → ((r : ℕ) → r < n → f (a + r) ≡ g (b + r)) → filter_map f (range_with_len a n) ≡ filter_map g (range_with_len b n)
given_alike f g a b zero same = refl
given_alike f g a b (suc n) same = by_first (f a) (g b) refl refl first (given_alike f g (a + 1) (b + 1) n (λ r below. ap f (next a r) ∙ same (suc r) (omega arith) ∙ ap g (sym (next b r))))
  where
    next : (a r : ℕ) → a + 1 + r ≡ a + suc r
    next a r = omega arith

    first : f a ≡ g b
    first = (let left : a ≡ a + 0 = omega arith in let right : b + 0 ≡ b = omega arith in ap f left ∙ same 0 (omega arith) ∙ ap g right)

    by_first : (x y : Option Pair) → f a ≡ x → g b ≡ y → f a ≡ g b → filter_map f (range_with_len (a + 1) n) ≡ filter_map g (range_with_len (b + 1) n) → filter_map f (a ∷ range_with_len (a + 1) n) ≡ filter_map g (b ∷ range_with_len (b + 1) n)
    by_first None None e h s rest = rw (e, h) rest
    by_first None (Some q) e h s rest = absurd (none_some q (sym e ∙ s ∙ h))
      where
        none_some : (q : Pair) → None ≡ Some q → ⊥
        none_some q e = cc
    by_first (Some p) y e h s rest = rw (e, sym s ∙ e) (ap (λ ps. p ∷ ps) rest)

none_given : (f : ℕ → Option Pair) (a n : ℕ) → ((r : ℕ) → r < n → f (a + r) ≡ None) → filter_map f (range_with_len a n) ≡ []
none_given f a zero none = refl
none_given f a (suc n) none = (let first = (let start : a ≡ a + 0 = omega arith in ap f start ∙ none 0 (omega arith)) in rw first (none_given f (a + 1) n (λ r below. (let next : a + 1 + r ≡ a + suc r = omega arith in ap f next ∙ none (suc r) (omega arith)))))

-- ---- the pair of a row, by bits

by_words : (t : Truth) (n : Nullity) (span : code.Interval) (i : Interval) → (IsTrue (may_be_number n) → interval_of span ≡ i) →
    (if is_possible t && may_be_number n then Some (pair_with (is_certain t && not (may_be_null n)) span) else None) ≡ pair_unless_false (and_of t (truth_of_number n)) i
by_words False n span i lies = refl
by_words Unknown Never span i lies = ap (pair_unless_false Unknown) (lies refl)
by_words Unknown Possibly span i lies = ap (pair_unless_false Unknown) (lies refl)
by_words Unknown Always span i lies = refl
by_words True Never span i lies = ap (pair_unless_false True) (lies refl)
by_words True Possibly span i lies = ap (pair_unless_false Unknown) (lies refl)
by_words True Always span i lies = refl

pair_by_words : (may must : ℕ) (spans : List code.Interval) (r : ℕ) (span : code.Interval) (b c : Bool) → digit_at r may ≡ b → digit_at r must ≡ c → slice_get spans r ≡ Some span →
    pair_in may must spans r ≡ (if b then Some (pair_with c span) else None)
pair_by_words may must spans r span b c e f at =
    ap (λ (x : Bool). if x then option_map (pair_with (digit_at r must)) (slice_get spans r) else None) e ∙ ap (λ (y : Bool). if b then option_map (pair_with y) (slice_get spans r) else None) f
    ∙ ap (λ o. if b then option_map (pair_with c) o else None) at

-- a bit of a filter's word is what it says of the row
pub filter_bit : (f : Truth → Bool) (mask : List Bool) (truths : List Truth) (pred : Condition) (columns : KnownTable) (word number r : ℕ) → mask ≡ map f truths → truths ≡ truths_under pred columns →
    bits_of (min 64 (length mask - 64 * number)) word ≡ take 64 (drop (64 * number) mask) → r < count_in_block number columns.frame.rows → digit_at r word ≡ f (truth_at pred columns (64 * number + r))
filter_bit f mask truths pred columns word number r is judged read below =
    let rows = rows_of_mask f mask truths pred columns is judged in
    let row = 64 * number + r in
    mask_bit mask word number r read (omega (arith, below)) (omega (arith, below, rows))
    ∙ bit_at_row f mask truths pred columns row (get_or mask row false) is judged (omega (arith, below)) (slice_get-get_or mask row false (omega (arith, below, rows)))

-- the words of a filter have the rows of a block at which a condition may hold, and at which it surely does
pub record AreFilterWords (query : Query) (columns : KnownTable) (number may must : ℕ) : Type 0 where
  pub may_bit : (r : ℕ) → r < count_in_block number columns.frame.rows → digit_at r may ≡ is_possible (truth_at query.pred columns (64 * number + r))
  pub must_bit : (r : ℕ) → r < count_in_block number columns.frame.rows → digit_at r must ≡ is_certain (truth_at query.pred columns (64 * number + r))

taken_same : {A : Type 0} (n : ℕ) (xs : List A) (r : ℕ) → r < n → slice_get (take n xs) r ≡ slice_get xs r
taken_same zero xs r h = absurd (omega arith)
taken_same (suc n) [] r h = refl
taken_same (suc n) (x ∷ xs) zero h = refl
taken_same (suc n) (x ∷ xs) (suc r) h = taken_same n xs r (omega arith)

module _ (query : Query) (item : Aggregate) (columns : KnownTable) (number : ℕ) (plain : query.shape ≡ Plain) where
  abbrev pub give : ℕ → Option Pair
  give = pair_at (stage_of query columns) item

  abbrev pub pairs_to : ℕ → List Pair
  pairs_to n = pairs_below query item [] columns.frame columns.known n

  abbrev pub block_end : ℕ
  block_end = min (64 * number + 64) columns.frame.rows

  end_is : 64 * number < columns.frame.rows → 64 * number + count_in_block number columns.frame.rows ≡ block_end
  end_is within = omega (arith, within)

  -- no row of a block has a pair where none may pass
  pub block_passed : (may : ℕ) → 64 * number < columns.frame.rows → may ≡ 0 → ((r : ℕ) → r < count_in_block number columns.frame.rows → digit_at r may ≡ is_possible (truth_at query.pred columns (64 * number + r))) →
      pairs_to block_end ≡ pairs_to (64 * number)
  block_passed may within none bits =
      let count = count_in_block number columns.frame.rows in
      ap pairs_to (sym (end_is within)) ∙ parts_of give (64 * number) count
      ∙ ap (λ ps. pairs_to (64 * number) ++ ps) (none_given give (64 * number) count (λ r below.
      pair_impossible query item (ranges_of columns.frame columns.known (64 * number + r)) plain (sym (bits r below) ∙ ap (digit_at r) none ∙ digit-zero r)))
      ∙ append-nil (pairs_to (64 * number))

  module _ (values : BlockValues) (may must count : ℕ) (within : 64 * number < columns.frame.rows) (rows : count ≡ count_in_block number columns.frame.rows) (long : length values.spans ≡ 64)
      (words : AreFilterWords query columns number may must) (read : AreValues item.arg columns number values) (both_may both_must : ℕ)
      (may_is : (r : ℕ) → digit_at r both_may ≡ (digit_at r may && digit_at r values.possible)) (must_is : (r : ℕ) → digit_at r both_must ≡ (digit_at r must && digit_at r values.sure)) where
    abbrev pub block_spans : List code.Interval
    block_spans = take count values.spans

    row_pair : (zero_span : code.Interval) (r : ℕ) → r < count → pair_in both_may both_must block_spans r ≡ give (64 * number + r)
    row_pair zero_span r below =
        let in_block : r < count_in_block number columns.frame.rows = omega (arith, rows, below) in
        let ranges = ranges_of columns.frame columns.known (64 * number + r) in
        let t = truth_of query.pred ranges in
        let n = null_of item.arg ranges in
        let span = get_or values.spans r zero_span in
        let at : slice_get values.spans r ≡ Some span = slice_get-get_or values.spans r zero_span (omega (arith, in_block, long)) in
        let may_bit : digit_at r both_may ≡ (is_possible t && may_be_number n) = may_is r ∙ ap (λ b. b && digit_at r values.possible) (words.may_bit r in_block) ∙ ap (λ b. is_possible t && b) (read.possible r in_block) in
        let must_bit : digit_at r both_must ≡ (is_certain t && not (may_be_null n)) = must_is r ∙ ap (λ b. b && digit_at r values.sure) (words.must_bit r in_block) ∙ ap (λ b. is_certain t && b) (read.sure r in_block) in
        pair_by_words both_may both_must block_spans r span (is_possible t && may_be_number n) (is_certain t && not (may_be_null n)) may_bit must_bit (taken_same count values.spans r below ∙ at)
        ∙ by_words t n span (span_of item.arg ranges) (read.spans r span in_block at) ∙ sym (plain_pair query item ranges plain)

    abbrev pub block_pairs : List Pair
    block_pairs = pairs_in both_may both_must block_spans

    pub pairs_with_block : pairs_to block_end ≡ pairs_to (64 * number) ++ block_pairs
    pairs_with_block =
        let zero_span : code.Interval = record { lo = pos 0; hi = pos 0; ordered = omega (arith, ints) } in
        let in_count = count_in_block number columns.frame.rows in
        let long_is : length block_spans ≡ in_count = (let taken = length-take count values.spans in omega (arith, taken, rows, long)) in
        let alike : block_pairs ≡ filter_map give (range_with_len (64 * number) in_count) =
        ap (λ k. filter_map (pair_in both_may both_must block_spans) (range_with_len 0 k)) long_is
        ∙ given_alike (pair_in both_may both_must block_spans) give 0 (64 * number) in_count (λ r below. (let start : 0 + r ≡ r = omega arith in ap (pair_in both_may both_must block_spans) start ∙ row_pair zero_span r (omega (arith, below, rows)))) in
        ap pairs_to (sym (end_is within)) ∙ parts_of give (64 * number) in_count ∙ ap (λ ps. pairs_to (64 * number) ++ ps) (sym alike)

    -- the cell may get the block's pairs, and stands then for those below the next block
    pub may_add_block : PairsAreFew → SumsOfItemsFit → columns.frame.rows ≤ 16777216 → IsKnowledge columns.frame columns.known → FitsItem columns.frame item → (running : Tallies) →
        IsFilledBelow (stage_of query columns) item (64 * number) running → MayAddAll running 0 block_pairs
    may_add_block few sums small knowledge fits running filled = record {
      pairs = pairs_to (64 * number);
      stands = filled.stands;
      may_get = record {
        few =
            (let most = (few query item columns.frame columns.known block_end).of_key [] in
            let all = ap length pairs_with_block in
            let parts = length-append (pairs_to (64 * number)) block_pairs in
            omega (arith, most, all, parts, small));
        fits = λ summed. subst SumsFit pairs_with_block ((sums query item columns.frame columns.known knowledge (subst IsSumKind filled.kind summed) fits).below [] block_end (omega arith));
      };
    }

    pub filled_block : (old new : Tallies) → IsFilledBelow (stage_of query columns) item (64 * number) old → AreAllAdded old new 0 block_pairs → IsFilledBelow (stage_of query columns) item block_end new
    filled_block old new filled added = record {
      kind = added.kind ∙ filled.kind;
      room = added.room ∙ filled.room;
      cells = added.count ∙ filled.cells;
      stands = subst (StandsFor new 0) (sym pairs_with_block) (added.appended (pairs_to (64 * number)) filled.stands);
    }

-- it is filled further where no row between has a pair
pub filled_further : (stage : Stage) (item : Aggregate) (m n : ℕ) (running : Tallies) → IsFilledBelow stage item m running →
    pairs_below stage.query item [] stage.frame stage.known n ≡ pairs_below stage.query item [] stage.frame stage.known m → IsFilledBelow stage item n running
filled_further stage item m n running filled same = record {
  kind = filled.kind;
  room = filled.room;
  cells = filled.cells;
  stands = subst (StandsFor running 0) (sym same) filled.stands;
}
