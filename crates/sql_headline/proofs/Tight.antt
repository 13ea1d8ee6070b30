-- Each end of the interval of an item that attains its ends is the answer in some world.
use Rattle.std.proofs.Common.{◌≡◌, ◌≢◌, ℕ, ◌≤◌, ℤ, Bool, true, false, length, Option, Some, None, IsTrue, refl, sym, ap, subst, ◌∙◌}
use Rattle.std.proofs.lemmas.Bool.{true≢false}
use Rattle.std.specs.Prelude.{⊤}
use Rattle.daq_report.specs.Extras.{is_average}
use Rattle.daq_table.specs.Tables.{Cells, frame_of}
use Rattle.plane_schedule.specs.declared.policy.Plan.{Plan}
use Rattle.query_model.specs.Answers.{Key}
use Rattle.query_model.specs.Bounds.{IsExtremes, Occurs, WordIsRight, bound_under}
use Rattle.query_model.specs.Queries.{Aggregate}
use Rattle.query_model.specs.Worlds.{AgreesWith, answer_on}
use Rattle.query_model.specs.declared.bounds.Bound.{Bound}
use Rattle.query_model.specs.declared.bounds.Nullity.TheVariants.{Always, Possibly}
use Rattle.query_model.specs.declared.query.ItemKind.{ItemKind}
use Rattle.query_model.specs.declared.query.ItemKind.TheVariants as kinds
use Rattle.sql_text.specs.Tree as tree
use Rattle.sql_meaning.specs.Answers.{answer, group_of, is_same}
use Rattle.sql_meaning.specs.Attained.{AttainsEnds, HasTexts}
use Rattle.sql_meaning.specs.Conditions.{Row}
use Rattle.sql_meaning.specs.Laws.{HasValues, IsAsked, IsShownAs}
use Rattle.sql_meaning.specs.Rows.{row_at, rows_at, shown}
use Rattle.sql_meaning.specs.Values.{Value}
use Rattle.sql_meaning.proofs.Answered.{answers_mean_across}
use Rattle.sql_meaning.proofs.Attained.{attains_ends}
use Rattle.table_rounds.specs.Headline.{IsKeyOn}
use Rattle.sql_headline.specs.Intervals.{Interval}
use Rattle.sql_headline.specs.Spans.{Span, shares, values}
use Rattle.sql_headline.specs.Worlds.{IsGroupOf, IsWorld, Run, stage_at}
use Rattle.sql_headline.proofs.Begun.{IsSure, Laws}
use Rattle.sql_headline.proofs.Ends.{interval_of}
use Rattle.sql_headline.proofs.Holding as holding
use Rattle.sql_headline.proofs.Spanned.{span_by, span_for}
use Rattle.sql_headline.proofs.Worlds.{has_planes, has_values}

module _ (run : Run) (round : ℕ) (item : tree.Item) (one : Row) where
  -- in some world the item has this value, over the rows that have the values of a row in the columns of GROUP BY
  pub record IsReached (v : Option Value) : Type 0 where
    pub world : Cells
    pub is_world : IsWorld run round world
    pub is : IsTrue (is_same v (answer item (group_of run.text one (rows_at run.head world))))

  pub record AreEndsReached (interval : Interval) : Type 0 where
    pub low : interval.null ≢ Always → IsReached interval.low
    pub high : interval.null ≢ Always → IsReached interval.high
    pub null : interval.null ≡ Possibly → IsReached None

  -- of an average this is not said
  abbrev pub IsSpanReached : Span → Type 0
  IsSpanReached (values interval) = AreEndsReached interval
  IsSpanReached (shares averages) = ⊤

no_average : (kind : ItemKind) → is_average kind ≡ false → kind ≢ kinds.Avg
no_average kind e same = true≢false (sym (ap is_average same) ∙ e)

-- of the group of a row of a table
module _ (law : Laws) (run : Run) (plan : Plan) (is : IsSure run plan) (item : tree.Item) (t : Aggregate) (asked : IsAsked run.text run.query item t) (key : Key) (on : IsKeyOn run.query (frame_of run.head) key)
    (base : Cells) (of_base : HasValues run.head base) (one : ℕ) (group : IsGroupOf run base key one) (texts : HasTexts run.head) (round : ℕ) (h : round ≤ length run.reads) where
  abbrev shows : ℤ → Option Value
  shows = shown run.head.columns run.query.columns t.face

  abbrev bound : Bound
  bound = bound_under run.query t key (stage_at run round).frame (stage_at run round).known

  abbrev Agrees : Cells → Type 0
  Agrees = AgreesWith run.query (frame_of run.head) (stage_at run round).known

  abbrev answered : Cells → Option ℤ
  answered = answer_on run.query t key (frame_of run.head)

  abbrev written : Cells → Option Value
  written world = answer item (group_of run.text (row_at run.head base one) (rows_at run.head world))

  abbrev Reached : Option Value → Type 0
  Reached = IsReached run round item (row_at run.head base one)

  means : (world : Cells) → IsWorld run round world → IsShownAs shows (answered world) (written world)
  means world is_world =
      subst (λ (k : Key). IsShownAs shows (answer_on run.query t k (frame_of run.head) world) (written world)) (sym group.same)
      (answers_mean_across run.text run.head run.query world base one item t is.typed is_world.has_values of_base asked group.row)

  world_of : (world : Cells) → Agrees world → IsWorld run round world
  world_of world agrees = record { has_planes = has_planes law run plan is round h world agrees; has_values = has_values run.head world texts agrees.table }

  shown_there : (a : Option ℤ) (occurs : Occurs Agrees answered a) → IsShownAs shows a (written occurs.0)
  shown_there a occurs = subst (λ x. IsShownAs shows x (written occurs.0)) occurs.2 (means occurs.0 (world_of occurs.0 occurs.1))

  end_reached : (z : ℤ) → Occurs Agrees answered (Some z) → Reached (shows z)
  end_reached z occurs =
      let at = shown_there (Some z) occurs in
      record { world = occurs.0; is_world = world_of occurs.0 occurs.1; is = subst (λ v. IsTrue (is_same (shows z) v)) (sym at.1) at.2 }

  null_reached : Occurs Agrees answered None → Reached None
  null_reached occurs =
      let at = shown_there None occurs in
      record { world = occurs.0; is_world = world_of occurs.0 occurs.1; is = subst (λ v. IsTrue (is_same None v)) (sym at) refl }

  -- so are the ends of a bound that is the extremes
  pub ends_reached : (of : Bound) → IsExtremes Agrees answered of → AreEndsReached run round item (row_at run.head base one) (interval_of run.head.columns run.query.columns t.face of)
  ends_reached of ends = record {
    low = λ some. end_reached of.lo (ends.lo some);
    high = λ some. end_reached of.hi (ends.hi some);
    null = λ possible. null_reached (subst (λ n. WordIsRight Agrees answered n) possible ends.null);
  }

  extremes : AttainsEnds run.head run.text item → t.kind ≢ kinds.Avg → IsExtremes Agrees answered bound
  extremes attains kind = (holding.is_certain law run plan is item t key asked on kind round h).tight (attains_ends run.text run.head run.query is.typed item t asked attains)

  span_reached : (average : Bool) → is_average t.kind ≡ average → AttainsEnds run.head run.text item → IsSpanReached run round item (row_at run.head base one) (span_by average run t key (stage_at run round))
  span_reached true e attains = tt
  span_reached false e attains = ends_reached bound (extremes attains (no_average t.kind e))

  pub reached : AttainsEnds run.head run.text item → IsSpanReached run round item (row_at run.head base one) (span_for run t key round)
  reached = span_reached (is_average t.kind) refl
