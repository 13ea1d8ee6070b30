-- Lists of rows: as masks, in blocks, and by what each row gives.
use Rattle.std.proofs.Common.{◌≡◌, ℕ, zero, suc, ◌+◌, ◌-◌, ◌*◌, ◌<◌, ◌≤◌, min, Bool, true, false, cond, not, ◌&&◌, List, [], ◌∷◌, length, map, take, drop, get_or, count_by, refl, arith, Option, subst, sym, ap, ◌∙◌}
use Rattle.std.specs.List.{range_with_len}
use Rattle.std.specs.Option.{option_map}
use Rattle.std.specs.Simd.Lanes.{zip2}
use Rattle.std.proofs.Math.Seq.{take-add}
use Rattle.std.proofs.lemmas.List.Sums.{sum_by-append}
use Rattle.std.proofs.lemmas.Bool.{false≢true}
use Rattle.std.proofs.lemmas.List.{drop-map, length-drop, length-map, length-take, take-map}
use Rattle.std.proofs.lemmas.List.FromFn.{fill_by_all, get_or-map-range_with_len, length-map-range_with_len}
use Rattle.std.proofs.lemmas.Simd.{length-zip2}
use Rattle.interval_calc.specs.Intervals.{Interval}
use Rattle.daq_table.specs.Tables.{width}
use Rattle.query_model.specs.declared.bounds.Nullity.{Nullity}
use Rattle.query_model.specs.declared.bounds.Nullity.TheVariants.{Never, Possibly, Always}
use Rattle.query_model.specs.declared.bounds.Truth.{Truth}
use Rattle.query_model.specs.declared.bounds.Truth.TheVariants.{False, Unknown, True}
use Rattle.query_model.specs.Bounds.{Pair, pair_of, pair_unless_false}
use Rattle.query_model.specs.Knowledge.{ranges_of}
use Rattle.query_model.specs.Truths.{and_of, may_be_null, may_be_number, null_of, span_of, truth_of, truth_of_number}
use Rattle.kleene_filter.specs.Filters.{is_certain, is_possible, truth_at, truths_under}
use Rattle.known_column.specs.Columns.{KnownColumn, is_sure, rows_where}
use Rattle.known_column.specs.Columns as columns
use Rattle.known_column.specs.RowBlocks.{IsKnownColumn}
use Rattle.aggregates.specs.Selections.{IsSound, block_of, has_row}
use Rattle.aggregates.proofs.BlockSums.{column_block, counts_block}
use Rattle.aggregates.proofs.BlockWords.{row_within}
use Rattle.aggregates.proofs.EndSums.{Counts}
use Rattle.aggregates.proofs.MaskSums.{count_both-le}
use Rattle.known_column.specs.KnownTables.{KnownTable, column_at}
use Rattle.round_engine.specs.Stages.{Stage}
use Rattle.round_engine.proofs.RowPairs.{plain_pair}
use Rattle.avg_exact.specs.declared.passes.End.TheVariants.{High}
use Rattle.avg_exact.specs.declared.planes.Part.{Part}
use Rattle.avg_exact.specs.declared.planes.Part.TheVariants.{Certain, Reached}
use Rattle.avg_exact.specs.Blocks.{IsOverColumn, MarkUncertain, column_of, is_passed_over, is_sure_row, is_unsure_row, part_rows, reaches, rows_with}
use Rattle.avg_exact.specs.Passes.{item_at, seen, seen_at}
use Rattle.plane_kernels.proofs.WordSteps.{zip2_of_mapped}

-- ---- lists, two at a time

take-zip2 : {A B C : Type 0} (f : A → B → C) (n : ℕ) (xs : List A) (ys : List B) → take n (zip2 f xs ys) ≡ zip2 f (take n xs) (take n ys)
take-zip2 f zero xs ys = refl
take-zip2 f (suc n) [] ys = refl
take-zip2 f (suc n) (x ∷ xs) [] = refl
take-zip2 f (suc n) (x ∷ xs) (y ∷ ys) = ap (λ l. f x y ∷ l) (take-zip2 f n xs ys)

no_second : {A B C : Type 0} (f : A → B → C) (xs : List A) → zip2 f xs [] ≡ []
no_second f [] = refl
no_second f (x ∷ xs) = refl

drop-zip2 : {A B C : Type 0} (f : A → B → C) (n : ℕ) (xs : List A) (ys : List B) → drop n (zip2 f xs ys) ≡ zip2 f (drop n xs) (drop n ys)
drop-zip2 f zero xs ys = refl
drop-zip2 f (suc n) [] ys = refl
drop-zip2 f (suc n) (x ∷ xs) [] = sym (no_second f (drop n xs))
drop-zip2 f (suc n) (x ∷ xs) (y ∷ ys) = drop-zip2 f n xs ys

-- a block of both is what the blocks are together
pub block-zip2 : {A B C : Type 0} (f : A → B → C) (block : ℕ) (xs : List A) (ys : List B) → block_of block (zip2 f xs ys) ≡ zip2 f (block_of block xs) (block_of block ys)
block-zip2 f block xs ys = ap (take 512) (drop-zip2 f (512 * block) xs ys) ∙ take-zip2 f 512 (drop (512 * block) xs) (drop (512 * block) ys)

pub length-block : {A : Type 0} (block : ℕ) (xs : List A) → length (block_of block xs) ≡ min 512 (length xs - 512 * block)
length-block block xs = length-take 512 (drop (512 * block) xs) ∙ ap (min 512) (length-drop (512 * block) xs)

-- a block of what a function gives
pub block-map : {A B : Type 0} (f : A → B) (block : ℕ) (xs : List A) → block_of block (map f xs) ≡ map f (block_of block xs)
block-map f block xs = ap (take 512) (drop-map f (512 * block) xs) ∙ take-map f 512 (drop (512 * block) xs)

zip2_maps : {A : Type 0} (g : Bool → Bool → Bool) (f h : A → Bool) (xs : List A) → zip2 g (map f xs) (map h xs) ≡ map (λ x. g (f x) (h x)) xs
zip2_maps g f h [] = refl
zip2_maps g f h (x ∷ xs) = ap (λ l. g (f x) (h x) ∷ l) (zip2_maps g f h xs)

rows_same : (f g : ℕ → Bool) (a n : ℕ) → ((r : ℕ) → a ≤ r → r < a + n → f r ≡ g r) → map f (range_with_len a n) ≡ map g (range_with_len a n)
rows_same f g a zero same = refl
rows_same f g a (suc n) same =
    ap (λ b. b ∷ map f (range_with_len (a + 1) n)) (same a (omega arith) (omega arith))
    ∙ ap (λ l. g a ∷ l) (rows_same f g (a + 1) n (λ r above below. same r (omega arith) (omega arith)))

-- ---- what a row gives, by what is known of the condition and of the column

sure_by_word : (t : Truth) (w : Nullity) (span : Interval) → (is_certain t && not (may_be_null w)) ≡ is_sure_row (option_map (seen High) (pair_unless_false (and_of t (truth_of_number w)) span))
sure_by_word False w span = refl
sure_by_word Unknown Never span = refl
sure_by_word Unknown Possibly span = refl
sure_by_word Unknown Always span = refl
sure_by_word True Never span = refl
sure_by_word True Possibly span = refl
sure_by_word True Always span = refl

unsure_by_word : (t : Truth) (w : Nullity) (span : Interval) →
    ((is_possible t && may_be_number w) && not (is_certain t && not (may_be_null w))) ≡ is_unsure_row (option_map (seen High) (pair_unless_false (and_of t (truth_of_number w)) span))
unsure_by_word False w span = refl
unsure_by_word Unknown Never span = refl
unsure_by_word Unknown Possibly span = refl
unsure_by_word Unknown Always span = refl
unsure_by_word True Never span = refl
unsure_by_word True Possibly span = refl
unsure_by_word True Always span = refl

module _ (stage : Stage) (item c : ℕ) (over : IsOverColumn stage item c) where
  -- the pair of a row of the column
  pub column_pair : (r : ℕ) →
      pair_of stage.query (item_at stage item) [] (ranges_of stage.frame stage.known r)
      ≡ pair_unless_false (and_of (truth_of stage.query.pred (ranges_of stage.frame stage.known r)) (truth_of_number (ranges_of stage.frame stage.known r c).null)) (ranges_of stage.frame stage.known r c).numbers
  column_pair r =
      let ranges = ranges_of stage.frame stage.known r in
      plain_pair stage.query (item_at stage item) ranges over.averaged.plain
      ∙ ap (λ e. pair_unless_false (and_of (truth_of stage.query.pred ranges) (truth_of_number (null_of e ranges))) (span_of e ranges)) over.arg

  pub long : length (column_of stage c).known.prefixes ≡ stage.frame.rows
  long = over.averaged.knowledge.rows c over.column

  -- the rows of the column that pass a test, as a list over all rows
  tested : (test : ℕ → Bool) → map test (column_of stage c).known.prefixes ≡ map (λ r. test (get_or (column_of stage c).known.prefixes r 0)) (range_with_len 0 stage.frame.rows)
  tested test =
      let ps = (column_of stage c).known.prefixes in
      ap (map test) (fill_by_all (λ r. get_or ps r 0) ps stage.frame.rows 0 long (λ k below. refl)) ∙ map_twice test (λ r. get_or ps r 0) (range_with_len 0 stage.frame.rows)
    where
      map_twice : (f : ℕ → Bool) (g : ℕ → ℕ) (xs : List ℕ) → map f (map g xs) ≡ map (λ x. f (g x)) xs
      map_twice f g [] = refl
      map_twice f g (x ∷ xs) = ap (λ l. f (g x) ∷ l) (map_twice f g xs)

  null : ℕ → Nullity
  null r = (ranges_of stage.frame stage.known r c).null

  -- the certain rows are those of both masks
  pub certain_is : (must sure : List Bool) → must ≡ map (λ r. is_certain (truth_of stage.query.pred (ranges_of stage.frame stage.known r))) (range_with_len 0 stage.frame.rows) →
      sure ≡ rows_where is_sure (column_of stage c) → zip2 (λ a b. a && b) must sure ≡ rows_with stage item is_sure_row
  certain_is must sure m s =
      let rows = range_with_len 0 stage.frame.rows in
      let column = column_of stage c in
      let tests = s ∙ tested (is_sure column.ends column.known.read) in
      ap (λ l. zip2 (λ a b. a && b) l sure) m ∙ ap (zip2 (λ a b. a && b) (map (λ r. is_certain (truth_of stage.query.pred (ranges_of stage.frame stage.known r))) rows)) tests
      ∙ zip2_maps (λ a b. a && b) (λ r. is_certain (truth_of stage.query.pred (ranges_of stage.frame stage.known r))) (λ r. is_sure column.ends column.known.read (get_or column.known.prefixes r 0)) rows
      ∙ rows_same (λ r. is_certain (truth_of stage.query.pred (ranges_of stage.frame stage.known r)) && is_sure column.ends column.known.read (get_or column.known.prefixes r 0)) (λ r. is_sure_row (seen_at stage item High r)) 0 stage.frame.rows
      (λ r above below. sure_by_word (truth_of stage.query.pred (ranges_of stage.frame stage.known r)) (ranges_of stage.frame stage.known r c).null (ranges_of stage.frame stage.known r c).numbers
      ∙ ap (λ o. is_sure_row (option_map (seen High) o)) (sym (column_pair r)))

  -- the uncertain rows those that may give a value and are not certain
  pub uncertain_is : (may possible : List Bool) → may ≡ map (λ r. is_possible (truth_of stage.query.pred (ranges_of stage.frame stage.known r))) (range_with_len 0 stage.frame.rows) →
      possible ≡ rows_where columns.is_possible (column_of stage c) →
      zip2 (λ a b. a && not b) (zip2 (λ a b. a && b) may possible) (rows_with stage item is_sure_row) ≡ rows_with stage item is_unsure_row
  uncertain_is may possible m s =
      let rows = range_with_len 0 stage.frame.rows in
      let column = column_of stage c in
      let tests = s ∙ tested (columns.is_possible column.ends column.known.read) in
      let one = λ (r : ℕ). is_possible (truth_of stage.query.pred (ranges_of stage.frame stage.known r)) in
      let two = λ (r : ℕ). columns.is_possible column.ends column.known.read (get_or column.known.prefixes r 0) in
      ap (λ l. zip2 (λ a b. a && not b) (zip2 (λ a b. a && b) l possible) (rows_with stage item is_sure_row)) m
      ∙ ap (λ l. zip2 (λ a b. a && not b) (zip2 (λ a b. a && b) (map one rows) l) (rows_with stage item is_sure_row)) tests
      ∙ ap (λ l. zip2 (λ a b. a && not b) l (rows_with stage item is_sure_row)) (zip2_maps (λ a b. a && b) one two rows)
      ∙ zip2_maps (λ a b. a && not b) (λ r. one r && two r) (λ r. is_sure_row (seen_at stage item High r)) rows
      ∙ rows_same (λ r. (one r && two r) && not (is_sure_row (seen_at stage item High r))) (λ r. is_unsure_row (seen_at stage item High r)) 0 stage.frame.rows
      (λ r above below. ap (λ o. (one r && two r) && not (is_sure_row (option_map (seen High) o))) (column_pair r)
      ∙ ap (λ b. (one r && two r) && not b) (sym (sure_by_word (truth_of stage.query.pred (ranges_of stage.frame stage.known r)) (ranges_of stage.frame stage.known r c).null (ranges_of stage.frame stage.known r c).numbers))
      ∙ unsure_by_word (truth_of stage.query.pred (ranges_of stage.frame stage.known r)) (ranges_of stage.frame stage.known r c).null (ranges_of stage.frame stage.known r c).numbers
      ∙ ap (λ o. is_unsure_row (option_map (seen High) o)) (sym (column_pair r)))

  -- a mask of truths, as a list over all rows
  truths_are : (test : Truth → Bool) (mask : List Bool) (truths : List Truth) → mask ≡ map test truths →
      truths ≡ truths_under stage.query.pred (record { frame = stage.frame; known = stage.known }) →
      mask ≡ map (λ r. test (truth_of stage.query.pred (ranges_of stage.frame stage.known r))) (range_with_len 0 stage.frame.rows)
  truths_are test mask truths m t =
      m ∙ ap (map test) t ∙ mapped (range_with_len 0 stage.frame.rows)
    where
      mapped : (rs : List ℕ) → map test (map (truth_at stage.query.pred (record { frame = stage.frame; known = stage.known })) rs) ≡ map (λ r. test (truth_of stage.query.pred (ranges_of stage.frame stage.known r))) rs
      mapped [] = refl
      mapped (r ∷ rs) = ap (λ l. test (truth_of stage.query.pred (ranges_of stage.frame stage.known r)) ∷ l) (mapped rs)

  pub long_mask : (test : Truth → Bool) (mask : List Bool) (truths : List Truth) → mask ≡ map test truths →
      truths ≡ truths_under stage.query.pred (record { frame = stage.frame; known = stage.known }) → length mask ≡ stage.frame.rows
  long_mask test mask truths m t = ap length (truths_are test mask truths m t) ∙ length-map-range_with_len (λ r. test (truth_of stage.query.pred (ranges_of stage.frame stage.known r))) 0 stage.frame.rows

  pub long_marks : (test : ℕ → Bool) (mask : List Bool) → mask ≡ map test (column_of stage c).known.prefixes → length mask ≡ stage.frame.rows
  long_marks test mask m = ap length m ∙ length-map (column_of stage c).known.prefixes test ∙ long

  pub long_rows : (test : Option Pair → Bool) → length (rows_with stage item test) ≡ stage.frame.rows
  long_rows test = length-map-range_with_len (λ r. test (seen_at stage item High r)) 0 stage.frame.rows

  pub certain_in_block : (block : ℕ) (must sure : List Bool) (truths : List Truth) → must ≡ map is_certain truths →
      truths ≡ truths_under stage.query.pred (record { frame = stage.frame; known = stage.known }) → sure ≡ rows_where is_sure (column_of stage c) →
      zip2 (λ a b. a && b) (block_of block must) (block_of block sure) ≡ block_of block (rows_with stage item is_sure_row)
  certain_in_block block must sure truths m t s =
      sym (block-zip2 (λ a b. a && b) block must sure) ∙ ap (block_of block) (certain_is must sure (truths_are is_certain must truths m t) s)

  pub uncertain_in_block : (block : ℕ) (may possible : List Bool) (truths : List Truth) → may ≡ map is_possible truths →
      truths ≡ truths_under stage.query.pred (record { frame = stage.frame; known = stage.known }) → possible ≡ rows_where columns.is_possible (column_of stage c) →
      zip2 (λ a b. a && not b) (zip2 (λ a b. a && b) (block_of block may) (block_of block possible)) (block_of block (rows_with stage item is_sure_row))
      ≡ block_of block (rows_with stage item is_unsure_row)
  uncertain_in_block block may possible truths m t s =
      ap (λ l. zip2 (λ a b. a && not b) l (block_of block (rows_with stage item is_sure_row))) (sym (block-zip2 (λ a b. a && b) block may possible))
      ∙ sym (block-zip2 (λ a b. a && not b) block (zip2 (λ a b. a && b) may possible) (rows_with stage item is_sure_row))
      ∙ ap (block_of block) (uncertain_is may possible (truths_are is_possible may truths m t) s)

  -- the column that an engine lends
  pub lent_column : (table : KnownTable) (column : KnownColumn) → table ≡ record { frame = stage.frame; known = stage.known } → column ≡ column_at table c → column ≡ column_of stage c
  lent_column table column t k = k ∙ ap (λ t. column_at t c) t

  pub lent_sound : (table : KnownTable) (column : KnownColumn) → table ≡ record { frame = stage.frame; known = stage.known } → column ≡ column_at table c →
      IsKnownColumn column → width column.ends ≤ 64 → IsSound (column_of stage c)
  lent_sound table column t k known few = subst IsSound (lent_column table column t k) (record { known = known; digits = few })

  -- the rows of a list may have values
  sure_value : (t : Truth) (w : Nullity) (span : Interval) → is_sure_row (option_map (seen High) (pair_unless_false (and_of t (truth_of_number w)) span)) ≡ true → may_be_number w ≡ true
  sure_value t Never span h = refl
  sure_value t Possibly span h = refl
  sure_value False Always span h = h
  sure_value Unknown Always span h = h
  sure_value True Always span h = h

  unsure_value : (t : Truth) (w : Nullity) (span : Interval) → is_unsure_row (option_map (seen High) (pair_unless_false (and_of t (truth_of_number w)) span)) ≡ true → may_be_number w ≡ true
  unsure_value t Never span h = refl
  unsure_value t Possibly span h = refl
  unsure_value False Always span h = h
  unsure_value Unknown Always span h = h
  unsure_value True Always span h = h

  has_tested : (test : Option Pair → Bool) (r : ℕ) → has_row (rows_with stage item test) r ≡ true → test (seen_at stage item High r) ≡ true
  has_tested test r has =
      let r_in : r < stage.frame.rows = omega (arith, row_within (rows_with stage item test) r has, long_rows test) in
      sym (get_or-map-range_with_len (λ r. test (seen_at stage item High r)) 0 stage.frame.rows r r false r_in (omega arith)) ∙ has

  pub sure_counts : IsSound (column_of stage c) → Counts (column_of stage c) (rows_with stage item is_sure_row)
  sure_counts sound = record {
    sound = sound;
    rows = long_rows is_sure_row ∙ sym long;
    values = λ r has. sure_value (truth_of stage.query.pred (ranges_of stage.frame stage.known r)) (ranges_of stage.frame stage.known r c).null (ranges_of stage.frame stage.known r c).numbers
        (ap (λ o. is_sure_row (option_map (seen High) o)) (sym (column_pair r)) ∙ has_tested is_sure_row r has);
  }

  pub unsure_counts : IsSound (column_of stage c) → Counts (column_of stage c) (rows_with stage item is_unsure_row)
  unsure_counts sound = record {
    sound = sound;
    rows = long_rows is_unsure_row ∙ sym long;
    values = λ r has. unsure_value (truth_of stage.query.pred (ranges_of stage.frame stage.known r)) (ranges_of stage.frame stage.known r c).null (ranges_of stage.frame stage.known r c).numbers
        (ap (λ o. is_unsure_row (option_map (seen High) o)) (sym (column_pair r)) ∙ has_tested is_unsure_row r has);
  }

  pub part_counts : (part : Part) → IsSound (column_of stage c) → Counts (column_of stage c) (part_rows stage item c part)
  part_counts Certain sound = sure_counts sound
  part_counts (Reached end t) sound =
      let column = column_of stage c in
      let all = unsure_counts sound in
      record {
        sound = sound;
        rows = length-zip2 (λ has p. has && reaches end t (columns.number_of column.ends column.known.read p)) (rows_with stage item is_unsure_row) column.known.prefixes all.rows ∙ all.rows;
        values = λ r has. all.values r (fewer (λ p. reaches end t (columns.number_of column.ends column.known.read p)) (rows_with stage item is_unsure_row) column.known.prefixes r has);
      }
    where
      first_of : (a b : Bool) → (a && b) ≡ true → a ≡ true
      first_of true b h = refl
      first_of false b h = h

      fewer : (test : ℕ → Bool) (rows : List Bool) (ps : List ℕ) (r : ℕ) → has_row (zip2 (λ has p. has && test p) rows ps) r ≡ true → has_row rows r ≡ true
      fewer test [] ps r h = h
      fewer test (b ∷ rows) [] r h = absurd (false≢true h)
      fewer test (b ∷ rows) (p ∷ ps) zero h = first_of b (test p) h
      fewer test (b ∷ rows) (p ∷ ps) (suc r) h = fewer test rows ps r h

  -- what a column that is lent tells of its planes
  pub record Lends (known : KnownColumn) (from to : ℕ) : Type 0 where
    pub from_is : from ≡ min (cond (column_of stage c).ends.nullable 1 0) (column_of stage c).known.read
    pub to_is : to ≡ (column_of stage c).known.read
    pub sound : IsSound (column_of stage c)

  pub lends : (table : KnownTable) (known : KnownColumn) (from to : ℕ) → table ≡ record { frame = stage.frame; known = stage.known } → known ≡ column_at table c →
      from ≡ min (cond known.ends.nullable 1 0) known.known.read → to ≡ known.known.read → IsSound known → Lends known from to
  lends table known from to t k f e sound =
      let is = lent_column table known t k in
      record {
        from_is = f ∙ ap (λ (column : KnownColumn). min (cond column.ends.nullable 1 0) column.known.read) is;
        to_is = e ∙ ap (λ (column : KnownColumn). column.known.read) is;
        sound = subst IsSound is sound;
      }

  -- the digits of a block's rows in a plane
  pub digits_are : (table : KnownTable) (known : KnownColumn) (block j : ℕ) (plane digits : List Bool) → table ≡ record { frame = stage.frame; known = stage.known } → known ≡ column_at table c →
      plane ≡ map (columns.digit_of known.known.read j) known.known.prefixes → digits ≡ block_of block plane →
      digits ≡ map (columns.digit_of (column_of stage c).known.read j) (block_of block (column_of stage c).known.prefixes)
  digits_are table known block j plane digits t k p d =
      d ∙ ap (block_of block) (p ∙ ap (λ (column : KnownColumn). map (columns.digit_of column.known.read j) column.known.prefixes) (lent_column table known t k))
      ∙ block-map (columns.digit_of (column_of stage c).known.read j) block (column_of stage c).known.prefixes

  -- the counts of a block
  pub unsure_block_counts : (block : ℕ) → IsSound (column_of stage c) → Counts (column_block (column_of stage c) block) (block_of block (rows_with stage item is_unsure_row))
  unsure_block_counts block sound = counts_block (column_of stage c) (rows_with stage item is_unsure_row) block (unsure_counts sound)

  pub part_block_counts : (part : Part) (block : ℕ) → IsSound (column_of stage c) → Counts (column_block (column_of stage c) block) (block_of block (part_rows stage item c part))
  part_block_counts part block sound = counts_block (column_of stage c) (part_rows stage item c part) block (part_counts part sound)

  pub long_part : (part : Part) → length (part_rows stage item c part) ≡ stage.frame.rows
  long_part Certain = long_rows is_sure_row
  long_part (Reached end t) =
      let column = column_of stage c in
      length-zip2 (λ has p. has && reaches end t (columns.number_of column.ends column.known.read p)) (rows_with stage item is_unsure_row) column.known.prefixes (long_rows is_unsure_row ∙ sym long)
      ∙ long_rows is_unsure_row

  -- a block that is passed over has no row of the part
  pub passed_over : (part : Part) (blocks : List Bool) (block : ℕ) → MarkUncertain stage item blocks → 512 * block < stage.frame.rows → is_passed_over part blocks block ≡ true →
      count_by (λ b. b) (block_of block (part_rows stage item c part)) ≡ 0
  passed_over Certain blocks block marks there e = absurd (false≢true e)
  passed_over (Reached end t) blocks block marks there e =
      let column = column_of stage c in
      let test = λ (p : ℕ). reaches end t (columns.number_of column.ends column.known.read p) in
      let unsure = block_of block (rows_with stage item is_unsure_row) in
      let none = marks block there (unmarked (get_or blocks block false) e) in
      let few = count_both-le unsure (map test (block_of block column.known.prefixes)) in
      let is : block_of block (part_rows stage item c (Reached end t)) ≡ zip2 (λ a b. a && b) unsure (map test (block_of block column.known.prefixes)) =
      block-zip2 (λ has p. has && test p) block (rows_with stage item is_unsure_row) column.known.prefixes ∙ sym (zip2_of_mapped (λ a b. a && b) test unsure (block_of block column.known.prefixes)) in
      ap (count_by (λ b. b)) is ∙ omega (arith, none, few)
    where
      unmarked : (b : Bool) → not b ≡ true → b ≡ false
      unmarked true e = sym e
      unmarked false e = refl

-- ---- counts, block by block

pub next_count : (block : ℕ) (rows : List Bool) → count_by (λ b. b) (take (512 * (block + 1)) rows) ≡ count_by (λ b. b) (take (512 * block) rows) + count_by (λ b. b) (block_of block rows)
next_count block rows =
    let next : 512 * (block + 1) ≡ 512 * block + 512 = omega arith in
    ap (λ n. count_by (λ b. b) (take n rows)) next ∙ ap (count_by (λ b. b)) (take-add (512 * block) 512 rows)
    ∙ sum_by-append (λ b. cond b 1 0) (take (512 * block) rows) (block_of block rows)
