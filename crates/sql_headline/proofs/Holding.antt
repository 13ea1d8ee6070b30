-- The intervals of a run hold the answers.
use Rattle.std.proofs.Common.{◌≡◌, ◌≢◌, ℕ, ◌+◌, ◌≤◌, false, List, length, Some, inl, inr, sym, ap, subst, ◌∙◌, slice_get}
use Rattle.std.proofs.lemmas.Bool.{true≢false}
use Rattle.std.proofs.lemmas.Option.{none-some, same_Some}
use Rattle.daq_table.specs.Tables.{Cells, frame_of}
use Rattle.daq_table.specs.declared.head.ColumnHead.{ColumnHead}
use Rattle.daq_report.specs.Intervals.{bound_text}
use Rattle.plane_schedule.specs.declared.policy.Plan.{Plan}
use Rattle.query_model.specs.Answers.{Key}
use Rattle.query_model.specs.Bounds.{bound_under}
use Rattle.query_model.specs.Queries.{Aggregate}
use Rattle.query_model.specs.Worlds.{answer_on}
use Rattle.query_model.specs.declared.bounds.Bound.{Bound}
use Rattle.query_model.specs.declared.query.ItemKind.TheVariants as kinds
use Rattle.round_engine.specs.Cells.{bound_in_cell}
use Rattle.round_engine.specs.Promises.{IsCertainBound}
use Rattle.sql_text.specs.declared.tree.CallKind.TheVariants as calls
use Rattle.sql_text.specs.Tree as tree
use Rattle.sql_typing.specs.Typing.{counted, typed_call, typed_item}
use Rattle.sql_meaning.specs.Answers.{answer}
use Rattle.sql_meaning.specs.Rows.{shown}
use Rattle.sql_meaning.specs.Laws.{IsAsked, IsShownAs}
use Rattle.sql_meaning.proofs.Answered.{answers_mean}
use Rattle.sql_meaning.proofs.Shares.{typed_as}
use Rattle.table_rounds.specs.Headline.{IsKeyOn}
use Rattle.sql_headline.specs.Intervals.{Interval, Shows}
use Rattle.sql_headline.specs.Lines.{IsShownFor}
use Rattle.sql_headline.specs.Worlds.{IsGroupOf, IsWorld, Run, stage_at}
use Rattle.sql_headline.specs.Headline.{HoldsAnswers, IntervalsHoldAnswers, is_average, rows_in}
use Rattle.sql_headline.proofs.Begun.{IsSure, Laws, agrees, certain, no_parts, own_cell, sure}
use Rattle.sql_headline.proofs.Ends.{alone, enclosed, inside, interval_of}
use Rattle.sql_headline.proofs.Shown.{shown_interval}

-- what is no average is typed as none
pub typed_kind : (table : List ColumnHead) (columns : List ℕ) (item : tree.Item) (t : Aggregate) → typed_item table columns item ≡ Some t → is_average item ≡ false → t.kind ≢ kinds.Avg
typed_kind table columns (tree.Plain n) t e other h = none-some t e
typed_kind table columns tree.CountAll t e other h = absurd cc
  where
    same : kinds.Count ≡ kinds.Avg
    same = ap (λ (a : Aggregate). a.kind) (same_Some counted t e) ∙ h
typed_kind table columns (tree.Call calls.Count x) t e other h = absurd cc
  where
    same : kinds.Count ≡ kinds.Avg
    same = ap (λ (a : Aggregate). a.kind) (same_Some (typed_call table columns calls.Count x) t e) ∙ h
typed_kind table columns (tree.Call calls.Sum x) t e other h = absurd cc
  where
    same : kinds.Sum ≡ kinds.Avg
    same = ap (λ (a : Aggregate). a.kind) (same_Some (typed_call table columns calls.Sum x) t e) ∙ h
typed_kind table columns (tree.Call calls.Min x) t e other h = absurd cc
  where
    same : kinds.Min ≡ kinds.Avg
    same = ap (λ (a : Aggregate). a.kind) (same_Some (typed_call table columns calls.Min x) t e) ∙ h
typed_kind table columns (tree.Call calls.Max x) t e other h = absurd cc
  where
    same : kinds.Max ≡ kinds.Avg
    same = ap (λ (a : Aggregate). a.kind) (same_Some (typed_call table columns calls.Max x) t e) ∙ h
typed_kind table columns (tree.Call calls.Avg x) t e other h = true≢false other

module _ (law : Laws) (run : Run) (plan : Plan) (is : IsSure run plan) (item : tree.Item) (typed : Aggregate) (key : Key) (asked : IsAsked run.text run.query item typed)
    (on : IsKeyOn run.query (frame_of run.head) key) where
  pub there : slice_get run.query.items asked.place ≡ Some typed
  there = asked.in_query

  abbrev pub bound : ℕ → Bound
  bound round = bound_under run.query typed key (stage_at run round).frame (stage_at run round).known

  pub is_certain : typed.kind ≢ kinds.Avg → (round : ℕ) → round ≤ length run.reads → IsCertainBound (stage_at run round) typed key (frame_of run.head)
  is_certain plain round h = ((certain law run plan is).certain round h key on asked.place typed there).bound plain

  pub meant : (round : ℕ) (world : Cells) (one : ℕ) → IsWorld run round world → IsGroupOf run world key one
      → IsShownAs (shown run.head.columns run.query.columns typed.face) (answer_on run.query typed key (frame_of run.head) world) (answer item (rows_in run world one))
  meant round world one is_world group =
      subst (λ (k : Key). IsShownAs (shown run.head.columns run.query.columns typed.face) (answer_on run.query typed k (frame_of run.head) world) (answer item (rows_in run world one)))
      (sym group.same) (answers_mean run.text run.head run.query world one item typed is.typed is_world.has_values asked group.row)

  abbrev pub interval : ℕ → Interval
  interval round = interval_of run.head.columns run.query.columns typed.face (bound round)

  pub shows_key : (round : ℕ) → round ≤ length run.reads → (text : List ℕ) → IsShownFor run.head (stage_at run round) typed key text → Shows (interval round) text
  shows_key round h text (inl all) =
      subst (Shows (interval round))
      (ap (λ (k : Key). bound_text run.head run.query typed.face (bound_under run.query typed k (stage_at run round).frame (stage_at run round).known)) (no_parts (frame_of run.head) run.query key on all.0) ∙ sym all.1)
      (shown_interval run.head run.query typed.face (bound round))
  shows_key round h text (inr told) =
      let has = (certain law run plan is).in_cells round h key on in
      let cell = own_cell (stage_at run round) key told.0 has told.1 in
      subst (Shows (interval round))
      (ap (bound_text run.head run.query typed.face) (sym (has.speaks.bound typed))
      ∙ sym (subst (λ c. text ≡ bound_text run.head run.query typed.face (bound_in_cell (stage_at run round) typed c)) cell told.2))
      (shown_interval run.head run.query typed.face (bound round))

  pub holds : typed.kind ≢ kinds.Avg → HoldsAnswers run item typed key
  holds plain = record {
    intervals = interval;
    shown = shows_key;
    encloses = λ round h world one is_world group.
        enclosed run.head.columns run.query.columns typed.face (bound round) _ _ (meant round world one is_world group)
        ((is_certain plain round h).contains world (agrees law run plan is round h world is_world));
    nested = λ round h.
        inside run.head.columns run.query.columns typed.face (bound round) (bound (round + 1))
        (((certain law run plan is).nested round h key on asked.place typed there).bound plain);
    exact = λ round h done world one is_world group.
        let bounded = is_certain plain round h in
        let same_world = agrees law run plan is round h world is_world in
        alone run.head.columns run.query.columns typed.face (bound round) _ _ (meant round world one is_world group) (bounded.contains world same_world) (bounded.told done)
        (λ some. bounded.exact done some world same_world);
  }

pub intervals_hold : Laws → IntervalsHoldAnswers
intervals_hold law run plan item typed key is asked other on =
    holds law run plan (sure law run plan is) item typed key asked on
    (typed_kind run.head.columns run.query.columns item typed (typed_as run.text run.head run.query item typed is.typed asked) other)
