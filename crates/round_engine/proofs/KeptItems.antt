-- What is kept of items: where nothing is read, and after the next plane of a column.
use Rattle.std.proofs.Common.{◌≡◌, ℕ, ◌+◌, ◌<◌, Bool, true, false, not, ◌&&◌, List, [], ◌∷◌, ◌++◌, length, length-append, get_or, map, take, Option, None, Some, refl, sym, ap, subst, ◌∙◌, arith}
use Rattle.std.specs.Prelude.{IfSome}
use Rattle.std.specs.Simd.Lanes.{zip2}
use Rattle.std.proofs.lemmas.Bool.{false≢true, true≢false}
use Rattle.std.proofs.lemmas.List.{get_or-map, length-map, take_more}
use Rattle.std.proofs.lemmas.List.FromFn.{length-map-range_with_len}
use Rattle.std.proofs.lemmas.Option.{IfSome_then}
use Rattle.std.proofs.lemmas.Simd.{get_or-zip2, length-zip2}
use Rattle.aggregates.specs.declared.kept_extreme.KeptExtreme.{KeptExtreme}
use Rattle.aggregates.specs.KeptExtremes.{HoldCandidates}
use Rattle.aggregates.specs.Selections.{has_row}
use Rattle.aggregates.proofs.BlockWords.{row_within}
use Rattle.aggregates.proofs.KeptExtremes.{hold_later, order_stays, HaveMoved, StayInOrder}
use Rattle.kleene_filter.specs.Filters.{is_certain, is_possible, truth_at, truths_under}
use Rattle.kleene_filter.proofs.Decided.{bit_under}
use Rattle.kleene_filter.proofs.Tracking.{known_at_column}
use Rattle.known_column.specs.Columns as column_is
use Rattle.known_column.specs.Columns.{KnownColumn, is_sure, rows_of_column, rows_where}
use Rattle.known_column.specs.KnownTables.{IsKnownTable, column_at}
use Rattle.known_column.specs.RowBlocks.{IsKnownColumn}
use Rattle.query_model.specs.declared.bounds.Truth.{Truth}
use Rattle.query_model.specs.declared.bounds.Truth.TheVariants.{False, Unknown, True}
use Rattle.query_model.specs.declared.query.ItemKind.{ItemKind}
use Rattle.query_model.specs.Knowledge.{CanTake, ranges_of}
use Rattle.query_model.specs.Queries.{Aggregate, Column}
use Rattle.query_model.specs.Truths.{IsNarrower, Range, may_be_null}
use Rattle.query_model.proofs.Nesting.{ranges_narrower, taken_is_knowledge, truth_refines, Refines}
use Rattle.query_model.proofs.Numbers.{low_within}
use Rattle.query_model.proofs.Queries.{ranges_ordered}
use Rattle.round_engine.specs.declared.answers.Answers.{Answers}
use Rattle.round_engine.specs.declared.answers.Answers.TheVariants.{Totals}
use Rattle.round_engine.specs.declared.kept_items.KeptItem.{KeptItem}
use Rattle.round_engine.specs.declared.totals.Totals as declared
use Rattle.round_engine.specs.Engines.{AreAnswers, StoodBefore}
use Rattle.round_engine.specs.KeptItems.{AreKept, HoldItems, IsExtremeOf, IsOpenKept, extreme_of, may_give, surely_give}
use Rattle.round_engine.specs.KeptSums.{columns_of}
use Rattle.round_engine.specs.Stages.{IsOpenStage, Stage, stepped}
use Rattle.round_engine.proofs.KeptSums.{column_after, column_longer, column_there, held_sum, sum_stays}
use Rattle.round_engine.proofs.Openings.{agree_push}

pub opened_more : (rows : ℕ) (items : List Aggregate) (i : ℕ) (item : Aggregate) (kept : List KeptItem) (new : KeptItem) → i < length items → item ≡ get_or items i item → HoldItems rows (take i items) kept →
    IsOpenKept rows new → HoldItems rows (take (i + 1) items) (kept ++ new ∷ [])
opened_more rows items i item kept new within there opened room =
    let more : take (i + 1) items ≡ take i items ++ item ∷ [] = take_more items i item within ∙ ap (λ x. take i items ++ x ∷ []) (sym there) in
    let count : length (kept ++ new ∷ []) ≡ length (take i items ++ item ∷ []) = simp length-append (omega (arith, opened.count)) in
    subst (λ xs. HoldItems rows xs (kept ++ new ∷ [])) (sym more) (record {
      count = count;
      each = agree_push (λ (it : Aggregate) (k : KeptItem). IsOpenKept rows k) (take i items) kept item new opened.count opened.each room;
    })

-- ---- the rows that may give a value, and those that surely do

-- those of truths and of prefixes that pass a test
abbrev both_tests : (Truth → Bool) → (ℕ → Bool) → List Truth → List ℕ → List Bool
both_tests f g truths prefixes = zip2 (λ a b. a && b) (map f truths) (map g prefixes)

both_rows : (f : Truth → Bool) (g : ℕ → Bool) (truths : List Truth) (prefixes : List ℕ) → length truths ≡ length prefixes → length (both_tests f g truths prefixes) ≡ length truths
both_rows f g truths prefixes long = length-zip2 (λ a b. a && b) (map f truths) (map g prefixes) (length-map truths f ∙ long ∙ sym (length-map prefixes g)) ∙ length-map truths f

both : (a b : Bool) → a ≡ true → b ≡ true → (a && b) ≡ true
both true true e f = refl
both true false e f = f
both false b e f = e

parts : (a b : Bool) → (a && b) ≡ true → (a ≡ true) × (b ≡ true)
parts true b e = (refl, e)
parts false b e = absurd (false≢true e)

module _ (stage : Stage) (c : ℕ) (is : IsOpenStage stage) (there : c < length stage.frame.columns) where
  abbrev truths : List Truth
  truths = truths_under stage.query.pred (columns_of stage)

  abbrev column : KnownColumn
  column = column_at (columns_of stage) c

  abbrev read : ℕ
  read = column.known.read

  few : length truths ≡ stage.frame.rows
  few = length-map-range_with_len (truth_at stage.query.pred (columns_of stage)) 0 stage.frame.rows

  rows_are : rows_of_column column ≡ stage.frame.rows
  rows_are = is.knowledge.rows c there

  pub may_rows : length (may_give stage c) ≡ stage.frame.rows
  may_rows = both_rows is_possible (column_is.is_possible column.ends read) truths column.known.prefixes (few ∙ sym rows_are) ∙ few

  pub sure_rows : length (surely_give stage c) ≡ stage.frame.rows
  sure_rows = both_rows is_certain (is_sure column.ends read) truths column.known.prefixes (few ∙ sym rows_are) ∙ few

  -- whether a row is one of them
  row_of : (f : Truth → Bool) (g : ℕ → Bool) (r : ℕ) → r < stage.frame.rows → has_row (both_tests f g truths column.known.prefixes) r ≡ (f (truth_at stage.query.pred (columns_of stage) r) && g (get_or column.known.prefixes r 0))
  row_of f g r within =
      let long = length-map truths f in
      let wide = length-map column.known.prefixes g in
      get_or-zip2 (λ a b. a && b) (map f truths) (map g column.known.prefixes) r false false false (omega (arith, within, long, few)) (omega (arith, within, wide, rows_are))
      ∙ ap (λ b. b && get_or (map g column.known.prefixes) r false) (bit_under f stage.query.pred (columns_of stage) r within)
      ∙ ap (λ b. f (truth_at stage.query.pred (columns_of stage) r) && b) (get_or-map g column.known.prefixes r 0 false (omega (arith, within, rows_are)))

  row_has : (f : Truth → Bool) (g : ℕ → Bool) (r : ℕ) → r < stage.frame.rows → has_row (both_tests f g truths column.known.prefixes) r ≡ true →
      (f (truth_at stage.query.pred (columns_of stage) r) ≡ true) × (g (get_or column.known.prefixes r 0) ≡ true)
  row_has f g r within has = parts (f (truth_at stage.query.pred (columns_of stage) r)) (g (get_or column.known.prefixes r 0)) (sym (row_of f g r within) ∙ has)

  has_both : (f : Truth → Bool) (g : ℕ → Bool) (r : ℕ) → r < stage.frame.rows → f (truth_at stage.query.pred (columns_of stage) r) ≡ true → g (get_or column.known.prefixes r 0) ≡ true →
      has_row (both_tests f g truths column.known.prefixes) r ≡ true
  has_both f g r within first second = row_of f g r within ∙ both (f (truth_at stage.query.pred (columns_of stage) r)) (g (get_or column.known.prefixes r 0)) first second

-- ---- after a plane

possible_before : (new old : Truth) → Refines new old → is_possible new ≡ true → is_possible old ≡ true
possible_before new True r e = refl
possible_before new Unknown r e = refl
possible_before True False r e = absurd (true≢false (r true refl))
possible_before Unknown False r e = absurd (true≢false (r true tt))
possible_before False False r e = e

certain_stays : (new old : Truth) → Refines new old → is_certain old ≡ true → is_certain new ≡ true
certain_stays True old r e = refl
certain_stays Unknown True r e = absurd (false≢true (r false tt))
certain_stays False True r e = absurd (false≢true (r false refl))
certain_stays new Unknown r e = absurd (false≢true e)
certain_stays new False r e = absurd (false≢true e)

sure_stays : (new old : Range) → IsNarrower new old → not (may_be_null old.null) ≡ true → not (may_be_null new.null) ≡ true
sure_stays new old is e = by_bit (may_be_null new.null) refl
  where
    opposite : (b : Bool) → not b ≡ true → b ≡ false
    opposite true e = sym e
    opposite false e = refl

    by_bit : (b : Bool) → may_be_null new.null ≡ b → not b ≡ true
    by_bit true null = absurd (false≢true (sym (opposite (may_be_null old.null) e) ∙ is.values None null))
    by_bit false null = refl

module _ (before : Stage) (column : ℕ) (bits : List Bool) (is : IsOpenStage before) (legal : CanTake before.frame before.known column bits) (c : ℕ) (there : c < length before.frame.columns) where
  abbrev after : Stage
  after = stepped before column bits

  still_open : IsOpenStage after
  still_open = record { open_query = is.open_query; knowledge = taken_is_knowledge before.frame before.known column bits is.knowledge legal }

  narrower : (r : ℕ) → r < before.frame.rows → IsNarrower (ranges_of before.frame after.known r c) (ranges_of before.frame before.known r c)
  narrower r within = ranges_narrower before.frame before.known column bits r is.knowledge legal within c

  refines : (r : ℕ) → r < before.frame.rows → Refines (truth_at before.query.pred (columns_of after) r) (truth_at before.query.pred (columns_of before) r)
  refines r within =
      truth_refines before.query.pred (ranges_of before.frame after.known r) (ranges_of before.frame before.known r) (ranges_ordered before.frame after.known r still_open.knowledge within)
      (ranges_narrower before.frame before.known column bits r is.knowledge legal within)

  -- rows leave those that may give a value, and come to those that surely do
  moved : HaveMoved (may_give before c) (surely_give before c) (may_give after c) (surely_give after c)
  moved = record {
    rows = may_rows after c still_open there ∙ sym (may_rows before c is there);
    left = λ r has.
        let within : r < before.frame.rows = omega (arith, row_within (may_give after c) r has, may_rows after c still_open there) in
        let tests = row_has after c still_open there is_possible (column_is.is_possible (column_at (columns_of after) c).ends (column_at (columns_of after) c).known.read) r within has in
        let number = (narrower r within).values (Some (ranges_of before.frame after.known r c).numbers.low)
        (tests.1, low_within (ranges_of before.frame after.known r c).numbers (ranges_ordered before.frame after.known r still_open.knowledge within c)) in
        has_both before c is there is_possible (column_is.is_possible (column_at (columns_of before) c).ends (column_at (columns_of before) c).known.read) r within
        (possible_before (truth_at before.query.pred (columns_of after) r) (truth_at before.query.pred (columns_of before) r) (refines r within) tests.0) number.0;
    came = λ r has.
        let within : r < before.frame.rows = omega (arith, row_within (surely_give before c) r has, sure_rows before c is there) in
        let tests = row_has before c is there is_certain (is_sure (column_at (columns_of before) c).ends (column_at (columns_of before) c).known.read) r within has in
        has_both after c still_open there is_certain (is_sure (column_at (columns_of after) c).ends (column_at (columns_of after) c).known.read) r within
        (certain_stays (truth_at before.query.pred (columns_of after) r) (truth_at before.query.pred (columns_of before) r) (refines r within) tests.0)
        (sure_stays (ranges_of before.frame after.known r c) (ranges_of before.frame before.known r c) (narrower r within) tests.1);
  }

  pub extreme_stays : (kind : ItemKind) (kept : KeptExtreme) → length bits ≡ before.frame.rows → IsExtremeOf before kind c kept → IsExtremeOf after kind c kept
  extreme_stays kind kept long hold =
      hold_later (extreme_of kind) (column_at (columns_of before) c) (column_at (columns_of after) c) (may_give before c) (surely_give before c) (may_give after c) (surely_give after c) kept hold moved order
    where
      count : rows_of_column (column_at (columns_of before) c) ≡ before.frame.rows
      count = is.knowledge.rows c there

      order : StayInOrder (extreme_of kind) (column_at (columns_of before) c) (surely_give before c) (may_give after c) (column_at (columns_of after) c)
      order = column_after (λ k. StayInOrder (extreme_of kind) (column_at (columns_of before) c) (surely_give before c) (may_give after c) k) before column c bits is there (λ r s has_r has_s further. further)
          (λ here.
          let table : IsKnownTable (columns_of after) = record { few_rows = is.open_query.few_rows; knowledge = still_open.knowledge } in
          let known_further = subst IsKnownColumn (column_longer before column c bits is there here) (known_at_column (columns_of after) c table there) in
          order_stays (extreme_of kind) (column_at (columns_of before) c) bits (surely_give before c) (may_give after c) known_further (long ∙ sym count) (sure_rows before c is there ∙ sym count) (may_rows after c still_open there ∙ sym count))

-- ---- all items

-- of columns of which nothing is read
pub held_items : (stage : Stage) (kept : List KeptItem) → IsOpenStage stage → HoldItems stage.frame.rows stage.query.items kept → AreKept stage kept
held_items stage kept is held = record {
  count = held.count;
  each = λ i item k at_item at_kept.
      let opened = held.each i item k at_item at_kept in
      let there : (c : ℕ) → item.arg ≡ Column c → c < length stage.frame.columns = λ c arg. column_there stage i item c is at_item arg in
      record {
        sum = held_sum stage item k.sum opened.sum (λ c arg. is.knowledge.rows c (there c arg));
        extreme = IfSome_then k.extreme opened.extreme (λ e all c arg. all (extreme_of item.kind) (column_at (columns_of stage) c) (may_give stage c) (surely_give stage c) (may_rows stage c is (there c arg)));
      };
}

-- after the next plane of a column
pub items_stay : (before : Stage) (column : ℕ) (bits : List Bool) (kept : List KeptItem) → IsOpenStage before → length bits ≡ before.frame.rows → CanTake before.frame before.known column bits → AreKept before kept →
    AreKept (stepped before column bits) kept
items_stay before column bits kept is long legal are = record {
  count = are.count;
  each = λ i item k at_item at_kept.
      let told = are.each i item k at_item at_kept in
      let there : (c : ℕ) → item.arg ≡ Column c → c < length before.frame.columns = λ c arg. column_there before i item c is at_item arg in
      record {
        sum = sum_stays before column bits item k.sum is long legal there told.sum;
        extreme = IfSome_then k.extreme told.extreme (λ e hold c arg. extreme_stays before column bits is legal c (there c arg) item.kind e long (hold c arg));
      };
}

pub items_stood : (stage : Stage) (column : ℕ) (bits : List Bool) (answers : Answers) (totals : declared.Totals) → StoodBefore stage column bits answers → answers ≡ Totals totals → AreKept stage totals.kept.items
items_stood stage column bits answers totals stood form =
    let are = subst (AreAnswers stood.before) form stood.answered in
    subst (λ (s : Stage). AreKept s totals.kept.items) (sym stood.read) (items_stay stood.before column bits totals.kept.items stood.open_stage stood.rows stood.legal are.4)

-- ---- the masks of a column's rows

-- masks of truths and of what is known of the column are those of the stage
pub gives_are : (stage : Stage) (c : ℕ) (known : KnownColumn) (held : List Truth) (may must : List Bool) → known ≡ column_at (columns_of stage) c → held ≡ truths_under stage.query.pred (columns_of stage) →
    may ≡ zip2 (λ a b. a && b) (map is_possible held) (rows_where column_is.is_possible known) → must ≡ zip2 (λ a b. a && b) (map is_certain held) (rows_where is_sure known) → (may ≡ may_give stage c) × (must ≡ surely_give stage c)
gives_are stage c known held may must is judged may_is must_is = (
  may_is ∙ ap (λ ts. zip2 (λ a b. a && b) (map is_possible ts) (rows_where column_is.is_possible known)) judged
      ∙ ap (zip2 (λ a b. a && b) (map is_possible (truths_under stage.query.pred (columns_of stage)))) (ap (rows_where column_is.is_possible) is),
  must_is ∙ ap (λ ts. zip2 (λ a b. a && b) (map is_certain ts) (rows_where is_sure known)) judged
      ∙ ap (zip2 (λ a b. a && b) (map is_certain (truths_under stage.query.pred (columns_of stage)))) (ap (rows_where is_sure) is),
)

-- what is kept of an extreme, by these masks
abbrev HoldBy : ItemKind → KeptExtreme → KnownColumn → List Bool → List Bool → Type 0
HoldBy kind kept known may must = HoldCandidates (extreme_of kind) known may must kept

move_facts : (P : KnownColumn → List Bool → List Bool → Type 0) (k k' : KnownColumn) (a a' b b' : List Bool) → k ≡ k' → a ≡ a' → b ≡ b' → P k' a' b' → P k a b
move_facts P k k' a a' b b' e f g h = subst (λ x. P x a b) (sym e) (subst (λ x. P k' x b) (sym f) (subst (λ x. P k' a' x) (sym g) h))

pub extreme_told : (stage : Stage) (c : ℕ) (kind : ItemKind) (kept : Option KeptExtreme) (known : KnownColumn) (may must : List Bool) → known ≡ column_at (columns_of stage) c → (may ≡ may_give stage c) × (must ≡ surely_give stage c) →
    IfSome kept (IsExtremeOf stage kind c) → IfSome kept (HoldCandidates (extreme_of kind) known may must)
extreme_told stage c kind kept known may must is gives told =
    IfSome_then kept told (λ e hold. move_facts (HoldBy kind e) known (column_at (columns_of stage) c) may (may_give stage c) must (surely_give stage c) is gives.0 gives.1 hold)

pub extreme_kept : (stage : Stage) (c : ℕ) (kind : ItemKind) (kept : Option KeptExtreme) (known : KnownColumn) (may must : List Bool) → known ≡ column_at (columns_of stage) c → (may ≡ may_give stage c) × (must ≡ surely_give stage c) →
    IfSome kept (HoldCandidates (extreme_of kind) known may must) → IfSome kept (IsExtremeOf stage kind c)
extreme_kept stage c kind kept known may must is gives told =
    IfSome_then kept told (λ e hold. move_facts (HoldBy kind e) (column_at (columns_of stage) c) known (may_give stage c) may (surely_give stage c) must (sym is) (sym gives.0) (sym gives.1) hold)
