-- What a ranking keeps: the standing of each row, at each stage.
use Rattle.std.proofs.Common.{◌≡◌, ◌≢◌, ℕ, zero, suc, ◌+◌, ◌<◌, Bool, true, false, cond, not, ◌&&◌, ◌||◌, nat_eq, nat_le, nat_lt, List, [], ◌∷◌, length, map, count_by, get_or, slice_get, Some, IsTrue, if◌then◌else◌, inl, inr, refl, sym, ap, subst, ◌∙◌, arith}
use Rattle.std.specs.List.{list_all}
use Rattle.std.proofs.Math.Path.{fun_ext}
use Rattle.std.proofs.lemmas.Bool.{cases_Bool, false≢true}
use Rattle.std.proofs.lemmas.Bool.Decides.{nat_tests}
use Rattle.std.proofs.lemmas.List.{ext_get_or, get_or-map, get_or-set_other, get_or-set_same, length-map}
use Rattle.std.proofs.lemmas.List.Sums.{sum_by-cons}
use Rattle.std.proofs.lemmas.List.FromFn.{get_or-map-range_with_len, length-map-range_with_len}
use Rattle.std.proofs.lemmas.Option.{get_or_from_slice_get}
use Rattle.daq_table.specs.Tables.{Frame, ends_at, rows_of}
use Rattle.kleene_filter.specs.Filters.{is_certain, is_possible, stands_in, truths_under}
use Rattle.known_column.specs.Columns.{KnownColumn, read_further, rows_of_column}
use Rattle.query_model.specs.declared.bounds.Standing.{Standing}
use Rattle.query_model.specs.declared.bounds.Standing.TheVariants.{Certain, Possible, Excluded}
use Rattle.query_model.specs.declared.bounds.Truth.{Truth}
use Rattle.query_model.specs.declared.bounds.Truth.TheVariants.{False, Unknown, True}
use Rattle.query_model.specs.declared.query.Shape.{Shape}
use Rattle.query_model.specs.declared.query.Shape.TheVariants.{Top}
use Rattle.query_model.specs.Queries.{Query}
use Rattle.query_model.specs.Knowledge.{ColumnKnowledge, Knowledge, known_at, longer_column, ranges_of, taken}
use Rattle.query_model.specs.Meaning.{columns_of_pred}
use Rattle.query_model.specs.Ranking.{Order, comes_before, first_end, last_end, order_of, rows_with, standing_under, truth_at}
use Rattle.query_model.specs.Truths.{Range, is_false, is_true}
use Rattle.query_model.specs.Validity.{sort_key}
use Rattle.topk_bounds.specs.Searches.{AreSearching, HasJudged, SearchesGoOn}
use Rattle.topk_bounds.specs.Standings as standings
use Rattle.topk_bounds.specs.Standings.{IsJudged, Judged, StandingsStand, is_in, standing_by, standings_by}
use Rattle.round_engine.specs.declared.ranking.Ranking.{Ranking}
use Rattle.round_engine.specs.Rankings.{IsRanking, WasRanking, column_in, rows_passing, standings_under}
use Rattle.round_engine.specs.Stages.{IsOpenShape, Stage, stepped}
use Rattle.round_engine.proofs.Unmoved.{pred_unmoved, range_unmoved}

-- ---- the rows that pass

certain_is_possible : (t : Truth) → IsTrue (is_certain t) → IsTrue (is_possible t)
certain_is_possible False h = h
certain_is_possible Unknown h = absurd (false≢true h)
certain_is_possible True h = h

within_each : (truths : List Truth) (r : ℕ) → IsTrue (is_in (map is_certain truths) r) → IsTrue (is_in (map is_possible truths) r)
within_each [] r h = h
within_each (t ∷ ts) zero h = certain_is_possible t h
within_each (t ∷ ts) (suc r) h = within_each ts r h

-- each row that surely passes may pass
pub rows_within : (truths : List Truth) (must may : List Bool) → must ≡ map is_certain truths → may ≡ map is_possible truths → (r : ℕ) → IsTrue (is_in must r) → IsTrue (is_in may r)
rows_within truths must may is_must is_may r h = subst (λ m. IsTrue (is_in m r)) (sym is_may) (within_each truths r (subst (λ m. IsTrue (is_in m r)) is_must h))

abbrev truths_in : Stage → List Truth
truths_in stage = truths_under stage.query.pred (record { frame = stage.frame; known = stage.known })

truths_count : (stage : Stage) → length (truths_in stage) ≡ stage.frame.rows
truths_count stage = length-map-range_with_len (truth_at stage.query.pred stage.frame stage.known) 0 stage.frame.rows

passing_count : (test : Truth → Bool) (stage : Stage) → length (rows_passing test stage) ≡ stage.frame.rows
passing_count test stage = length-map (truths_in stage) test ∙ truths_count stage

passing_at : (test : Truth → Bool) (stage : Stage) (r : ℕ) → r < stage.frame.rows → is_in (rows_passing test stage) r ≡ test (truth_at stage.query.pred stage.frame stage.known r)
passing_at test stage r within =
    let truth = truth_at stage.query.pred stage.frame stage.known r in
    get_or-map test (truths_in stage) r truth false (omega (arith, truths_count stage))
    ∙ ap test (get_or-map-range_with_len (truth_at stage.query.pred stage.frame stage.known) 0 stage.frame.rows r r truth within (omega arith))

true_is_certain : (t : Truth) → is_certain t ≡ is_true t
true_is_certain False = refl
true_is_certain Unknown = refl
true_is_certain True = refl

not_false_is_possible : (t : Truth) → is_possible t ≡ not (is_false t)
not_false_is_possible False = refl
not_false_is_possible Unknown = refl
not_false_is_possible True = refl

-- ---- judged

pub standings_count : (stage : Stage) → length (standings_under stage) ≡ stage.frame.rows
standings_count stage = length-map-range_with_len (standing_under stage.query stage.frame stage.known) 0 stage.frame.rows

module _ (stage : Stage) (ranking : Ranking) (rows : rows_of_column (column_in stage ranking.key) ≡ stage.frame.rows) (shape : stage.query.shape ≡ Top ranking.key ranking.top.down ranking.top.limit) where
  abbrev judged_rows : Judged
  judged_rows = record {
    limit = ranking.top.limit;
    down = ranking.top.down;
    must = rows_passing is_certain stage;
    may = rows_passing is_possible stage;
    key = column_in stage ranking.key;
  }

  -- what is judged is what is known
  are_judged : IsJudged stage.query.pred (order_of stage.query.shape) stage.frame stage.known judged_rows
  are_judged = record {
    limit = ap (λ s. (order_of s).limit) (sym shape);
    down = ap (λ s. (order_of s).down) (sym shape);
    rows = rows;
    must = λ r h. passing_at is_certain stage r h ∙ true_is_certain (truth_at stage.query.pred stage.frame stage.known r);
    may = λ r h. passing_at is_possible stage r h ∙ not_false_is_possible (truth_at stage.query.pred stage.frame stage.known r);
    ranges = λ r h. ap (λ s. ranges_of stage.frame stage.known r (order_of s).key) (sym shape);
  }

  standings_judged : StandingsStand → standings_by judged_rows ≡ standings_under stage
  standings_judged stand =
      let here : length (standings_by judged_rows) ≡ stage.frame.rows = length-map-range_with_len (standing_by judged_rows) 0 (rows_of_column judged_rows.key) ∙ rows in
      ext_get_or Excluded (standings_by judged_rows) (standings_under stage) (here ∙ sym (standings_count stage))
      (λ r h.
      let within : r < stage.frame.rows = omega (arith, h, here) in
      get_or-map-range_with_len (standing_by judged_rows) 0 (rows_of_column judged_rows.key) r r Excluded (omega (arith, within, rows)) (omega arith)
      ∙ stand stage.query.pred (order_of stage.query.shape) stage.frame stage.known judged_rows r are_judged within
      ∙ sym (get_or-map-range_with_len (standing_under stage.query stage.frame stage.known) 0 stage.frame.rows r r Excluded within (omega arith)))

  -- where it judged by these rows and the sort key, its standings are those of the stage
  pub ranking_judged : StandingsStand → (must may : List Bool) (key : KnownColumn) → must ≡ rows_passing is_certain stage → may ≡ rows_passing is_possible stage → key ≡ column_in stage ranking.key →
      HasJudged ranking.top must may key → IsRanking stage ranking
  ranking_judged stand must may key is_must is_may is_key has =
      let judged = subst (λ (k : KnownColumn). HasJudged ranking.top (rows_passing is_certain stage) (rows_passing is_possible stage) k) is_key
      (subst (λ (l : List Bool). HasJudged ranking.top (rows_passing is_certain stage) l key) is_may (subst (λ (l : List Bool). HasJudged ranking.top l may key) is_must has)) in
      let standings = judged.standings ∙ standings_judged stand in
      record { holds = record { order = shape; rows = ap length standings ∙ standings_count stage }; standings = standings; judged = judged }

-- ---- a plane that neither the condition nor the sort key reads

-- the standing of a row, by the truths and the ranges of all
standing_given : Order → Frame → (ℕ → Truth) → (ℕ → Range) → ℕ → Standing
standing_given order frame truth range x =
    if is_false (truth x)
    || nat_le order.limit
    (rows_with frame (λ y. not (nat_eq y x) && is_true (truth y) && comes_before order.down (last_end order.down (range y)) y (first_end order.down (range x)) x))
    then Excluded
    else (if is_true (truth x)
    && nat_lt
    (rows_with frame (λ y. not (nat_eq y x) && not (is_false (truth y)) && comes_before order.down (first_end order.down (range y)) y (last_end order.down (range x)) x))
    order.limit
    then Certain else Possible)

given : (query : Query) (frame : Frame) (known : Knowledge) (x : ℕ) →
    standing_under query frame known x ≡ standing_given (order_of query.shape) frame (truth_at query.pred frame known) (λ r. ranges_of frame known r (sort_key query.shape)) x
unfolding standing_given
given query frame known x = refl

standing_unmoved : (query : Query) (frame : Frame) (known : Knowledge) (c : ℕ) (bits : List Bool) → stands_in (columns_of_pred query.pred) c ≡ false → sort_key query.shape ≢ c → (x : ℕ) →
    standing_under query frame (taken known c bits) x ≡ standing_under query frame known x
standing_unmoved query frame known c bits unread other x =
    given query frame (taken known c bits) x
    ∙ ap (λ truth. standing_given (order_of query.shape) frame truth (λ r. ranges_of frame (taken known c bits) r (sort_key query.shape)) x) (fun_ext (λ r. pred_unmoved query.pred frame known c bits r unread))
    ∙ ap (λ range. standing_given (order_of query.shape) frame (truth_at query.pred frame known) range x) (fun_ext (λ r. range_unmoved frame known c bits r (sort_key query.shape) other))
    ∙ sym (given query frame known x)

-- the rows that pass stay
passing_stays : (test : Truth → Bool) (before : Stage) (c : ℕ) (bits : List Bool) → stands_in (columns_of_pred before.query.pred) c ≡ false → rows_passing test (stepped before c bits) ≡ rows_passing test before
passing_stays test before c bits unread = ap (λ f. map test (map f (rows_of before.frame))) (fun_ext (λ r. pred_unmoved before.query.pred before.frame before.known c bits r unread))

-- another column stays
column_stays : (before : Stage) (c : ℕ) (bits : List Bool) (k : ℕ) → k ≢ c → column_in (stepped before c bits) k ≡ column_in before k
column_stays before c bits k other =
    ap (λ (w : ColumnKnowledge). record { ends = ends_at before.frame k; known = w }) (get_or-set_other before.known c k (longer_column (known_at before.known c) bits) (record { read = 0; prefixes = [] }) other)

-- and the column itself has its next plane
column_follows : (before : Stage) (c : ℕ) (bits : List Bool) → c < length before.known → column_in (stepped before c bits) c ≡ read_further (column_in before c) bits
column_follows before c bits within =
    ap (λ (w : ColumnKnowledge). record { ends = ends_at before.frame c; known = w }) (get_or-set_same before.known c (longer_column (known_at before.known c) bits) (record { read = 0; prefixes = [] }) within)

pub order_stays : (stage : Stage) (column : ℕ) (bits : List Bool) (ranking : Ranking) → WasRanking stage column bits ranking → stage.query.shape ≡ Top ranking.key ranking.top.down ranking.top.limit
order_stays stage column bits ranking was = ap (λ (s : Stage). s.query.shape) was.read ∙ was.stood.holds.order

-- the condition does not read the column
abbrev pub IsUnread : Stage → ℕ → Type 0
IsUnread stage c = stands_in (columns_of_pred stage.query.pred) c ≡ false

module _ (stage : Stage) (column : ℕ) (bits : List Bool) (ranking : Ranking) (was : WasRanking stage column bits ranking) (unread : IsUnread stage column) where
  free : IsUnread was.before column
  free = ap (λ (s : Stage). stands_in (columns_of_pred s.query.pred) column) (sym was.read) ∙ unread

  -- the standings stay
  pub ranking_stays : ranking.key ≢ column → IsRanking stage ranking
  ranking_stays other =
      let before = was.before in
      let key : sort_key before.query.shape ≡ ranking.key = ap sort_key was.stood.holds.order in
      let apart : sort_key before.query.shape ≢ column = λ e. other (sym key ∙ e) in
      subst (λ (s : Stage). IsRanking s ranking) (sym was.read) (record {
        holds = record { order = was.stood.holds.order; rows = was.stood.holds.rows };
        standings = was.stood.standings ∙ ap (λ f. map f (rows_of before.frame)) (fun_ext (λ r. sym (standing_unmoved before.query before.frame before.known column bits free apart r)));
        judged = subst (λ (k : KnownColumn). HasJudged ranking.top (rows_passing is_certain (stepped before column bits)) (rows_passing is_possible (stepped before column bits)) k)
            (sym (column_stays before column bits ranking.key other))
            (subst (λ (l : List Bool). HasJudged ranking.top (rows_passing is_certain (stepped before column bits)) l (column_in before ranking.key)) (sym (passing_stays is_possible before column bits free))
            (subst (λ (l : List Bool). HasJudged ranking.top l (rows_passing is_possible before) (column_in before ranking.key)) (sym (passing_stays is_certain before column bits free)) was.stood.judged));
      })

  key_in : ranking.key < length was.before.frame.columns
  key_in = (subst (λ (shape : Shape). IsOpenShape was.before.frame was.before.query shape) was.stood.holds.order was.open_stage.open_query.shape).0

  -- the searches go on
  abbrev GoesOn : Stage → Type 0
  GoesOn s = (going : AreSearching ranking.top (column_in s ranking.key)) × (going.must ≡ rows_passing is_certain s) × (going.may ≡ rows_passing is_possible s)

  pub goes_on : SearchesGoOn → column ≡ ranking.key → GoesOn stage
  goes_on law same =
      let before = was.before in
      let knowledge = was.open_stage.knowledge in
      let column_rows : rows_of_column (column_in before ranking.key) ≡ before.frame.rows = knowledge.rows ranking.key key_in in
      let inside : column < length before.known = subst (λ c. c < length before.known) (sym same) (omega (arith, key_in, knowledge.columns)) in
      let follows : column_in (stepped before column bits) ranking.key ≡ read_further (column_in before ranking.key) bits =
      subst (λ k. column_in (stepped before column bits) k ≡ read_further (column_in before k) bits) same (column_follows before column bits inside) in
      let (going, must, may) =
      law ranking.top (rows_passing is_certain before) (rows_passing is_possible before) (column_in before ranking.key) bits was.stood.judged
      (passing_count is_certain before ∙ sym column_rows) (passing_count is_possible before ∙ sym column_rows) (was.rows ∙ sym column_rows)
      (rows_within (truths_in before) (rows_passing is_certain before) (rows_passing is_possible before) refl refl) in
      subst GoesOn (sym was.read)
      (subst (λ (k : KnownColumn). (g : AreSearching ranking.top k) × (g.must ≡ rows_passing is_certain (stepped before column bits)) × (g.may ≡ rows_passing is_possible (stepped before column bits))) (sym follows)
      (going, must ∙ sym (passing_stays is_certain before column bits free), may ∙ sym (passing_stays is_possible before column bits free)))

-- ---- what is told of the rows

map_both : {X Y Z : Type 0} (f : X → Y) (g : Y → Z) (xs : List X) → map g (map f xs) ≡ map (λ x. g (f x)) xs
map_both f g [] = refl
map_both f g (x ∷ xs) = ap (λ rest. g (f x) ∷ rest) (map_both f g xs)

-- the rows whose standing passes a test
pub rows_standing : (stage : Stage) (ranking : Ranking) (test : Standing → Bool) (mask : List Bool) → IsRanking stage ranking → mask ≡ map test ranking.top.standings →
    mask ≡ map (λ r. test (standing_under stage.query stage.frame stage.known r)) (rows_of stage.frame)
rows_standing stage ranking test mask is told = told ∙ ap (map test) is.standings ∙ map_both (standing_under stage.query stage.frame stage.known) test (rows_of stage.frame)

not_none : (n : ℕ) → nat_eq (1 + n) 0 ≡ false
not_none n = grind (arith, nat_tests)

none_possible : (f : ℕ → Standing) (rows : List ℕ) → nat_eq (count_by (λ b. b) (map (λ r. standings.is_possible (f r)) rows)) 0 ≡ list_all (λ r. not (standings.is_possible (f r))) rows
none_possible f [] = refl
none_possible f (r ∷ rows) =
    elim (cases_Bool (standings.is_possible (f r))) [
      | inl t ↦ rw t (ap (λ n. nat_eq n 0) (sum_by-cons (λ b. cond b 1 0) true (map (λ r. standings.is_possible (f r)) rows)) ∙ not_none (count_by (λ b. b) (map (λ r. standings.is_possible (f r)) rows)))
      | inr f' ↦ rw f' (none_possible f rows)
    ]

-- whether no row is possible
pub none_is_possible : (stage : Stage) (ranking : Ranking) (mask : List Bool) (count : ℕ) → IsRanking stage ranking → mask ≡ map standings.is_possible ranking.top.standings → count ≡ count_by (λ b. b) mask →
    nat_eq count 0 ≡ list_all (λ r. not (standings.is_possible (standing_under stage.query stage.frame stage.known r))) (rows_of stage.frame)
none_is_possible stage ranking mask count is told counted =
    ap (λ n. nat_eq n 0) (counted ∙ ap (count_by (λ b. b)) (rows_standing stage ranking standings.is_possible mask is told))
    ∙ none_possible (standing_under stage.query stage.frame stage.known) (rows_of stage.frame)

-- the standing of a row
pub standing_at : (stage : Stage) (ranking : Ranking) (r : ℕ) (standing : Standing) → IsRanking stage ranking → r < stage.frame.rows → slice_get ranking.top.standings r ≡ Some standing →
    standing ≡ standing_under stage.query stage.frame stage.known r
standing_at stage ranking r standing is within told =
    sym (get_or_from_slice_get ranking.top.standings r standing standing told) ∙ ap (λ xs. get_or xs r standing) is.standings
    ∙ get_or-map-range_with_len (standing_under stage.query stage.frame stage.known) 0 stage.frame.rows r r standing within (omega arith)
