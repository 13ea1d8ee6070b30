-- Where the answers of items lie by the lines behind theirs, clipped or as exact averages.
use Rattle.std.proofs.Common.{◌≡◌, ℕ, ◌+◌, ◌<◌, ◌≤◌, true, false, List, [], length, Some, sym, ap, subst}
use Rattle.std.specs.List.{filter_map}
use Rattle.avg_exact.specs.ExactAverages.{ends_of}
use Rattle.avg_exact.specs.Promises.{IsCertainExact, exact_at}
use Rattle.clip_bounds.specs.Clipped.{IsCertainClip, clipped_in}
use Rattle.clip_bounds.specs.Clips.{clip_of}
use Rattle.clip_bounds.specs.declared.clip.Clip.{Clip}
use Rattle.daq_report.specs.Extras.{is_average}
use Rattle.daq_report.specs.Intervals.{average_text, bound_text}
use Rattle.daq_table.specs.Tables.{Cells, frame_of}
use Rattle.plane_schedule.specs.declared.policy.Plan.{Plan}
use Rattle.query_model.specs.Answers.{groups_of}
use Rattle.query_model.specs.Attaining.{AttainsTruths}
use Rattle.query_model.specs.Bounds.{AverageBound, average_under, bound_under}
use Rattle.query_model.specs.Queries.{Aggregate}
use Rattle.query_model.specs.Worlds.{average_on}
use Rattle.query_model.specs.declared.bounds.Bound.{Bound}
use Rattle.query_model.specs.declared.query.Face.{Face}
use Rattle.query_model.specs.declared.query.Shape.TheVariants.{Plain}
use Rattle.sql_text.specs.declared.tree.CallKind.TheVariants as calls
use Rattle.sql_text.specs.Tree as tree
use Rattle.sql_meaning.specs.Answers.{answer}
use Rattle.sql_meaning.specs.Attained.{AttainsKeys, HasTexts}
use Rattle.sql_meaning.specs.Expressions.{value}
use Rattle.sql_meaning.specs.Laws.{HasValues, IsAsked}
use Rattle.sql_meaning.specs.Rows.{row_at}
use Rattle.sql_meaning.proofs.Attained.{attains_truths}
use Rattle.sql_meaning.proofs.Shares.{typed_as}
use Rattle.table_rounds.specs.Headline.{IsClippedItem, IsKeyOn, IsPlainAverage}
use Rattle.sql_headline.specs.Headline as text
use Rattle.sql_headline.specs.Headline.{rows_in}
use Rattle.sql_headline.specs.Intervals.{EnclosesShare, IsShareAlone, ShareLiesInside, ShowsShares}
use Rattle.sql_headline.specs.Spans.{IsIt, IsShown, LiesIn, Narrows, Span, answered, of_value, shares, values}
use Rattle.sql_headline.specs.Worlds.{IsDone, IsGroupOf, IsWorld, Run, stage_at}
use Rattle.sql_headline.proofs.Averaged as averaged
use Rattle.sql_headline.proofs.Begun.{IsSure, Laws, agrees, certain}
use Rattle.sql_headline.proofs.Ends.{alone, enclosed, inside, interval_of}
use Rattle.sql_headline.proofs.Holding as holding
use Rattle.sql_headline.proofs.Sectioned.{places_of}
use Rattle.sql_headline.proofs.Shown.{shown_interval}
use Rattle.sql_headline.proofs.Spanned.{no_average, span_by, span_for}
use Rattle.sql_headline.proofs.Tight.{IsSpanReached, ends_reached}

-- ---- spans, and the texts that show them

abbrev pub clip_span : Run → Aggregate → Clip → ℕ → Span
clip_span run t clip round = values (interval_of run.head.columns run.query.columns t.face (clipped_in (stage_at run round) t clip))

abbrev pub clip_text : Run → Aggregate → Clip → ℕ → List ℕ
clip_text run t clip round = bound_text run.head run.query t.face (clipped_in (stage_at run round) t clip)

abbrev pub exact_ends : Run → Aggregate → ℕ → AverageBound
exact_ends run t round = ends_of (exact_at (stage_at run round) t)

abbrev pub exact_span : Run → Aggregate → ℕ → Span
exact_span run t round = shares (averaged.shares_of (places_of t.face) (exact_ends run t round))

abbrev pub exact_text : Run → Aggregate → ℕ → List ℕ
exact_text run t round = average_text run.head run.query t.face (exact_ends run t round)

-- what they say of an item over all rows
pub record IsRetold (run : Run) (item : tree.Item) (t : Aggregate) (spans : ℕ → Span) (texts : ℕ → List ℕ) : Type 0 where
  pub shown : (round : ℕ) → IsShown (spans round) (texts round)
  pub lies : (round : ℕ) → round ≤ length run.reads → (world : Cells) (one : ℕ) → IsWorld run round world → IsGroupOf run world [] one →
      LiesIn (spans round) (answered item (rows_in run world one))
  pub narrows : (round : ℕ) → round < length run.reads → Narrows (spans round) (spans (round + 1))
  pub is_it : (round : ℕ) → round ≤ length run.reads → IsDone run round → (world : Cells) (one : ℕ) → IsWorld run round world → IsGroupOf run world [] one →
      IsIt (spans round) (answered item (rows_in run world one))
  -- they lie inside those of the item's own lines
  pub within : (round : ℕ) → round ≤ length run.reads → Narrows (span_for run t [] round) (spans round)

module _ (law : Laws) (run : Run) (plan : Plan) (is : IsSure run plan) (t : Aggregate) (on : IsKeyOn run.query (frame_of run.head) []) (shape : run.query.shape ≡ Plain) where
  -- ---- clipped

  module _ (item : tree.Item) (asked : IsAsked run.text run.query item t) (clip : Clip) (clips : clip_of run.query t ≡ Some clip) where
    abbrev bound : ℕ → Bound
    bound round = clipped_in (stage_at run round) t clip

    is_clipped : IsClippedItem run.query asked.place t clip
    is_clipped = record { there = asked.in_query; clipped = clips }

    is_certain : (round : ℕ) → round ≤ length run.reads → IsCertainClip (stage_at run round) t clip (frame_of run.head)
    is_certain round h = (certain law run plan is).clips round h asked.place t clip is_clipped

    pub clipped : (other : text.is_average item ≡ false) → ((rows : List _) → answered item rows ≡ of_value (answer item rows)) → IsRetold run item t (clip_span run t clip) (clip_text run t clip)
    clipped other same =
        let plain : is_average t.kind ≡ false = no_average t.kind (holding.typed_kind run.head.columns run.query.columns item t (typed_as run.text run.head run.query item t is.typed asked) other) in
        record {
          shown = λ round. shown_interval run.head run.query t.face (bound round);
          lies = λ round h world one is_world group.
              subst (λ a. LiesIn (clip_span run t clip round) a) (sym (same (rows_in run world one)))
              (enclosed run.head.columns run.query.columns t.face (bound round) _ _ (holding.meant law run plan is item t [] asked on round world one is_world group)
              ((is_certain round h).contains world (agrees law run plan is round h world is_world)));
          narrows = λ round h.
              inside run.head.columns run.query.columns t.face (bound round) (bound (round + 1)) ((certain law run plan is).clips_nested round h asked.place t clip is_clipped);
          is_it = λ round h done world one is_world group.
              let same_world = agrees law run plan is round h world is_world in
              subst (λ a. IsIt (clip_span run t clip round) a) (sym (same (rows_in run world one)))
              (alone run.head.columns run.query.columns t.face (bound round) _ _ (holding.meant law run plan is item t [] asked on round world one is_world group)
              ((is_certain round h).contains world same_world) ((is_certain round h).told done) (λ some. (is_certain round h).exact done some world same_world));
          within = λ round h.
              subst (λ b. Narrows (span_by b run t [] (stage_at run round)) (clip_span run t clip round)) (sym plain)
              (inside run.head.columns run.query.columns t.face (bound_under run.query t [] (stage_at run round).frame (stage_at run round).known) (bound round) (is_certain round h).within);
        }

    -- each end is the answer in some world where WHERE attains its truths
    pub clip_reached : (base : Cells) → HasValues run.head base → (one : ℕ) → IsGroupOf run base [] one → HasTexts run.head → (round : ℕ) → round ≤ length run.reads →
        AttainsKeys run.head run.text → IsSpanReached run round item (row_at run.head base one) (clip_span run t clip round)
    clip_reached base of_base one group texts round h attains =
        let truths : AttainsTruths run.query.pred [] = subst (λ s. AttainsTruths run.query.pred (groups_of s)) shape (attains_truths run.text run.head run.query is.typed attains) in
        ends_reached law run plan is item t asked [] on base of_base one group texts round h (bound round) ((is_certain round h).tight truths)

  -- ---- averages

  module _ (e : tree.Expr) (asked : IsAsked run.text run.query (tree.Call calls.Avg e) t) where
    abbrev scale : ℕ
    scale = averaged.scale law run plan is e t [] asked on

    average : is_average t.kind ≡ true
    average = ap is_average (averaged.kind_is law run plan is e t [] asked on)

    places : ◌≡◌ {A = ℕ} scale (places_of t.face)
    places = ap places_of (sym (averaged.face_is law run plan is e t [] asked on))

    is_plain : IsPlainAverage run.query asked.place t
    is_plain = record { plain = shape; there = asked.in_query; average = averaged.kind_is law run plan is e t [] asked on }

    is_exact : (round : ℕ) → round ≤ length run.reads → IsCertainExact (stage_at run round) t (frame_of run.head)
    is_exact round h = (certain law run plan is).averages round h asked.place t is_plain

    abbrev ends : ℕ → AverageBound
    ends = exact_ends run t

    pub exact : IsRetold run (tree.Call calls.Avg e) t (exact_span run t) (exact_text run t)
    exact = record {
      shown = λ round.
          subst (λ s. ShowsShares (averaged.shares_of s (ends round)) (average_text run.head run.query t.face (ends round))) places
          (subst (λ (f : Face). ShowsShares (averaged.shares_of scale (ends round)) (average_text run.head run.query f (ends round))) (sym (averaged.face_is law run plan is e t [] asked on))
          (averaged.shown_shares run.head run.query scale (ends round)));
      lies = λ round h world one is_world group.
          subst (λ s. EnclosesShare (averaged.shares_of s (ends round)) (text.average_in run e world one)) places
          (averaged.enclosed run.head.columns run.query.columns scale (ends round) (average_on run.query t [] (frame_of run.head) world) (filter_map (value e) (rows_in run world one))
          (averaged.meant law run plan is e t [] asked on round world one is_world group)
          ((is_exact round h).contains world (agrees law run plan is round h world is_world)));
      narrows = λ round h.
          subst (λ s. ShareLiesInside (averaged.shares_of s (ends round)) (averaged.shares_of s (ends (round + 1)))) places
          (averaged.inside scale (ends round) (ends (round + 1)) ((certain law run plan is).averages_nested round h asked.place t is_plain));
      is_it = λ round h done world one is_world group.
          let same_world = agrees law run plan is round h world is_world in
          subst (λ s. IsShareAlone (averaged.shares_of s (ends round)) (text.average_in run e world one)) places
          (averaged.alone run.head.columns run.query.columns scale (ends round) (average_on run.query t [] (frame_of run.head) world) (filter_map (value e) (rows_in run world one))
          (averaged.meant law run plan is e t [] asked on round world one is_world group)
          ((is_exact round h).contains world same_world) ((is_exact round h).told done) (λ some. (is_exact round h).exact done some world same_world));
      within = λ round h.
          subst (λ b. Narrows (span_by b run t [] (stage_at run round)) (exact_span run t round)) (sym average)
          (subst (λ s. ShareLiesInside (averaged.shares_of s (average_under run.query t [] (stage_at run round).frame (stage_at run round).known)) (averaged.shares_of s (ends round))) places
          (averaged.inside scale (average_under run.query t [] (stage_at run round).frame (stage_at run round).known) (ends round) (is_exact round h).within));
    }
