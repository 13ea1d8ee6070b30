-- A report of totals holds the answers.
use Rattle.std.proofs.Common.{◌≡◌, ℕ, ◌+◌, ◌<◌, ◌≤◌, ◌&&◌, append-nil, Bool, true, false, if◌then◌else◌, List, [], ◌++◌, filter, length, map, Option, Some, None, IsTrue, inl, inr, refl, sym, ap, subst, ◌∙◌, slice_get}
use Rattle.std.proofs.lemmas.List.{append_assoc}
use Rattle.std.proofs.lemmas.Option.{same_Some}
use Rattle.std.specs.Option.{option_map}
use Rattle.std.specs.Prelude.{◌⊎◌, codes, decimal}
use Rattle.avg_exact.specs.Promises.{exact_at}
use Rattle.clip_bounds.specs.Clipped.{clipped_in}
use Rattle.clip_bounds.specs.Clips.{clip_of}
use Rattle.clip_bounds.specs.declared.clip.Clip.{Clip}
use Rattle.command_line.specs.Commands.{Options}
use Rattle.daq_report.specs.Extras.{clip_at, clip_line, exact_lines, extra_lines, is_average, taken_lines, unless_always}
use Rattle.daq_table.specs.Tables.{Cells, frame_of}
use Rattle.daq_table.specs.declared.table_head.Head.{Head}
use Rattle.plane_schedule.specs.declared.policy.Extras.{Extras}
use Rattle.query_model.specs.Answers.{groups_of}
use Rattle.query_model.specs.Groups.{IsKey}
use Rattle.query_model.specs.Projection.{projected_frame}
use Rattle.query_model.specs.Queries.{Aggregate, Query}
use Rattle.query_model.specs.declared.query.Shape.{Shape}
use Rattle.query_model.specs.declared.query.Shape.TheVariants.{Plain}
use Rattle.sql_headline.proofs.Averaged.{kind_is}
use Rattle.sql_headline.proofs.Begun.{IsSure, Laws}
use Rattle.sql_headline.proofs.Holding.{typed_kind}
use Rattle.sql_headline.proofs.Items as items
use Rattle.sql_headline.proofs.Lined.{blocks_have}
use Rattle.sql_headline.proofs.Retold as retold
use Rattle.sql_headline.proofs.Retold.{IsRetold, clip_reached, clip_span, clip_text, clipped, exact_span, exact_text}
use Rattle.sql_headline.proofs.Spanned.{no_average, span_for, spanned}
use Rattle.sql_headline.proofs.Tight.{IsReached, IsSpanReached, reached}
use Rattle.sql_headline.proofs.Worlds.{has_values}
use Rattle.sql_headline.specs.Headline as text
use Rattle.sql_headline.specs.Lined.{AreLines, lines_of}
use Rattle.sql_headline.specs.Worlds as held
use Rattle.sql_headline.specs.Worlds.{stage_at}
use Rattle.query_model.specs.Meaning.{is_sql_true}
use Rattle.sql_headline.specs.Spans.{IsShown, Span, answered, of_value, shares, values}
use Rattle.sql_meaning.specs.Answers.{answer, are_one_group, asked, group_of, grouping, is_same}
use Rattle.sql_meaning.specs.Attained.{AttainsEnds, AttainsKeys, HasTexts}
use Rattle.sql_meaning.specs.Conditions.{Row, truth_of_where}
use Rattle.sql_meaning.specs.Rows.{row_at, rows_at}
use Rattle.sql_meaning.specs.Values.{Value}
use Rattle.sql_meaning.specs.Laws.{HasValues, IsAsked, numbers_at}
use Rattle.sql_meaning.proofs.Shares.{typed_as}
use Rattle.sql_text.specs.declared.tree.CallKind.TheVariants as calls
use Rattle.sql_text.specs.Tree as tree
use Rattle.sql_text.specs.Tree.{Call, CountAll, Expr, Item}
use Rattle.sql_typing.specs.Typing.{columns_of, typed_ending, typed_head, typed_items}
use Rattle.table_rounds.specs.Headline.{IsKeyOn}
use Rattle.table_rounds.specs.Rounds.{Planes, column_read}
use Rattle.run_headline.specs.Asked.{wanted_by}
use Rattle.run_headline.specs.Answers.{HasNone, Holds, HoldsAgain, IsBehind, IsTightAverage, IsTightSpan}
use Rattle.run_headline.specs.Printed.{HoldsTotals, line_of_round}
use Rattle.run_headline.proofs.Averages.{averages_reached}
use Rattle.run_headline.proofs.Ran as rounds
use Rattle.run_headline.proofs.Ran.{IsRan}
use Rattle.run_headline.proofs.Tight.{tight}

module _ (law : Laws) (q : tree.Query) (head : Head) (bits : Planes) (options : Options) (ran : IsRan q head bits options) (plain : q.ending ≡ tree.Nothing) where
  abbrev run : held.Run
  run = rounds.run law q head bits options ran

  shape_is : ran.query.shape ≡ Plain
  shape_is = ap (λ (w : Query). w.shape) ran.typed.same ∙ ap (typed_ending head.columns (columns_of head.columns q)) plain

  -- there is one key, that of no parts
  on : IsKeyOn ran.query (frame_of head) []
  on = subst (λ s. IsKey (projected_frame ran.query (frame_of head)) (groups_of s) []) (sym shape_is) tt

  group_is : (world : Cells) (one : ℕ) → held.IsGroupOf run world [] one
  group_is world one = record {
    row = λ some. absurd (some (ap grouping plain));
    same = sym (ap (λ (s : Shape). map (numbers_at ran.query head world one) (groups_of s)) shape_is);
  }

  lined : (round : ℕ) → (texts : List (List ℕ)) × AreLines head (stage_at run round) texts
  lined round = blocks_have head (stage_at run round) shape_is

  abbrev texts : ℕ → List (List ℕ)
  texts round = (lined round).0

  abbrev besides : ℕ → List (List ℕ)
  besides round = ((lined round).1.wanted ran.plan.listing ran.plan.extras round (column_read ran.reads round)).0

  lines_are : (round : ℕ) → rounds.block law q head bits options ran round ≡ line_of_round (rounds.reading law q head bits options ran) round ++ lines_of 1 (texts round) (besides round)
  lines_are round =
      rounds.block_is law q head bits options ran round ∙ ((lined round).1.wanted ran.plan.listing ran.plan.extras round (column_read ran.reads round)).3
      ∙ ap (λ l. l ++ lines_of 1 (texts round) (besides round)) (rounds.line_is law q head bits options ran round)

  whole : typed_items head.columns (columns_of head.columns q) q.ending q.head ≡ typed_head head.columns (columns_of head.columns q) q.head
  whole = ap (λ e. typed_items head.columns (columns_of head.columns q) e q.head) plain

  -- one row names all rows, as another does
  one_group : (one other : Row) (rows : List Row) → group_of q one rows ≡ group_of q other rows
  one_group one other rows =
      ap (λ e. filter (λ row. is_sql_true (truth_of_where q.pred row) && are_one_group e row one) rows) plain
      ∙ sym (ap (λ e. filter (λ row. is_sql_true (truth_of_where q.pred row) && are_one_group e row other) rows) plain)

  reached_for : (round : ℕ) (item : Item) (one other : Row) (v : Option Value) → IsReached run round item one v → IsReached run round item other v
  reached_for round item one other v at = record { world = at.world; is_world = at.is_world; is = subst (λ rows. IsTrue (is_same v (answer item rows))) (one_group one other (rows_at head at.world)) at.is }

  span_for_row : (round : ℕ) (item : Item) (one other : Row) (span : Span) → IsSpanReached run round item one span → IsSpanReached run round item other span
  span_for_row round item one other (shares averages) ends = tt
  span_for_row round item one other (values interval) ends = record {
    low = λ some. reached_for round item one other interval.low (ends.low some);
    high = λ some. reached_for round item one other interval.high (ends.high some);
    null = λ possible. reached_for round item one other _ (ends.null possible);
  }

  -- what is reached over all rows of the table is tight, whichever row is named
  span_tight : (round : ℕ) → round ≤ length ran.reads → (item : Item) (one : Row) (span : Span) → IsSpanReached run round item (row_at head run.cells 0) span → IsTightSpan (rounds.reading law q head bits options ran) round item one span
  span_tight round h item one span ends = tight law q head bits options ran round h item one span (span_for_row round item (row_at head run.cells 0) one span ends)

  sure : IsSure run ran.plan
  sure = rounds.sure law q head bits options ran

  own_values : HasTexts head → (round : ℕ) → round ≤ length ran.reads → HasValues head run.cells
  own_values texts round h = has_values head run.cells texts (sure.certain.itself round h).table

  within : (round : ℕ) → round ≤ length (rounds.columns law q head bits options ran) → round ≤ length ran.reads
  within round h = subst (λ n. round ≤ n) (rounds.as_long law q head bits options ran) h

  holds : (place : ℕ) (item : Item) → slice_get (asked q.head) place ≡ Some item → Holds (rounds.reading law q head bits options ran) item (AttainsEnds head q item) (λ round. slice_get (texts round) place)
  holds place item found =
      let t = items.is_typed q head ran.query ran.typed whole place item found in
      let own = spanned law run ran.plan sure t.0 [] on item t.1 in
      let there : slice_get ran.query.items place ≡ Some t.0 = subst (λ k. slice_get ran.query.items k ≡ Some t.0) t.2 t.1.in_query in
      record {
        spans = span_for run t.0 [];
        shown = λ round h text e. (let told = (lined round).1.shown place t.0 text there e in own.shown round (within round h) text told.0 told.1);
        lies = λ round world one is_world. own.lies round (within round is_world.within) world one (rounds.world_is law q head bits options ran round world is_world) (group_is world one);
        narrows = λ round h. own.narrows round (subst (λ n. round < n) (rounds.as_long law q head bits options ran) h);
        exact = λ round all world one is_world.
            own.is_it round (within round is_world.within) (rounds.done_is law q head bits options ran round all) world one (rounds.world_is law q head bits options ran round world is_world) (group_is world one);
        tight = λ round h attains texts one.
            span_tight round (within round h) item one (span_for run t.0 [] round) (reached law run ran.plan sure item t.0 t.1 [] on run.cells (own_values texts round (within round h)) 0 (group_is run.cells 0) texts round (within round h) attains);
      }

  -- ---- what stands behind

  abbrev extra : ℕ → ℕ → Aggregate → List ℕ
  extra place round t = extra_lines head (stage_at run round) ran.plan.extras (place + 1) t

  behind_is : (place : ℕ) (t : Aggregate) → slice_get ran.query.items place ≡ Some t → (round : ℕ) → slice_get (besides round) place ≡ Some (extra place round t)
  behind_is place t there round = ((lined round).1.wanted ran.plan.listing ran.plan.extras round (column_read ran.reads round)).2 place t there

  -- spans that are told again hold the answer
  holds_again : (item : Item) (t : Aggregate) (spans : ℕ → Span) (texts : ℕ → List ℕ) → IsRetold run item t spans texts
      → ((round : ℕ) → round ≤ length ran.reads → AttainsKeys head q → HasTexts head → IsSpanReached run round item (row_at head run.cells 0) (spans round))
      → (front : List ℕ) (rows : ℕ → List ℕ) (behind : ℕ → Option (List ℕ)) → ((round : ℕ) → behind round ≡ Some (front ++ (texts round ++ (codes "\n" ++ rows round))))
      → HoldsAgain (rounds.reading law q head bits options ran) item (span_for run t []) front rows behind
  holds_again item t spans texts told ends front rows behind line = record {
    texts = texts;
    line = line;
    holds = record {
      spans = spans;
      shown = λ round h text e. subst (IsShown (spans round)) (same_Some (texts round) text e) (told.shown round);
      lies = λ round world one is_world. told.lies round (within round is_world.within) world one (rounds.world_is law q head bits options ran round world is_world) (group_is world one);
      narrows = λ round h. told.narrows round (subst (λ n. round < n) (rounds.as_long law q head bits options ran) h);
      exact = λ round all world one is_world.
          told.is_it round (within round is_world.within) (rounds.done_is law q head bits options ran round all) world one (rounds.world_is law q head bits options ran round world is_world) (group_is world one);
      tight = λ round h attains some one. span_tight round (within round h) item one (spans round) (ends round (within round h) attains some);
    };
    within = λ round h. told.within round (within round h);
  }

  abbrev chosen : Bool → Bool → Bool → List ℕ → List ℕ → List ℕ
  chosen average exact clip one other = if average then (if exact then one else []) else (if clip then other else [])

  module _ (place : ℕ) (t : Aggregate) (there : slice_get ran.query.items place ≡ Some t) where
    abbrev behind : ℕ → Option (List ℕ)
    behind round = slice_get (besides round) place

    abbrev exact_part : ℕ → List ℕ
    exact_part round = exact_lines head run.query (place + 1) t.face (exact_at (stage_at run round) t)

    abbrev clip_part : ℕ → List ℕ
    clip_part round = clip_line head run.query (place + 1) t.face (clip_at (stage_at run round) t)

    by_options : (average : Bool) → is_average t.kind ≡ average → (round : ℕ) → behind round ≡ Some (chosen average options.exact options.clip (exact_part round) (clip_part round))
    by_options average e round =
        behind_is place t there round
        ∙ ap (λ k. Some (chosen k ran.plan.extras.exact ran.plan.extras.clip (exact_part round) (clip_part round))) e
        ∙ ap (λ (x : Extras). Some (chosen average x.exact x.clip (exact_part round) (clip_part round))) ran.extras

    no_exact : is_average t.kind ≡ true → options.exact ≡ false → HasNone behind
    no_exact e off round = by_options true e round ∙ ap (λ x. Some (chosen true x options.clip (exact_part round) (clip_part round))) off

    no_clip : is_average t.kind ≡ false → options.clip ≡ false → HasNone behind
    no_clip e off round = by_options false e round ∙ ap (λ x. Some (chosen false options.exact x (exact_part round) (clip_part round))) off

    told_exact : (e : Expr) → IsAsked q ran.query (Call calls.Avg e) t → is_average t.kind ≡ true → options.exact ≡ true
        → (rows : ℕ → List ℕ) × (told : HoldsAgain (rounds.reading law q head bits options ran) (Call calls.Avg e) (span_for run t []) (decimal (place + 1) ++ codes " exact ") rows behind)
        × ((round : ℕ) → round ≤ length (rounds.columns law q head bits options ran) → AttainsEnds head q (Call calls.Avg e) → HasTexts head → IsTightAverage (rounds.reading law q head bits options ran) round e (told.holds.spans round))
    unfolding holds_again
    told_exact e asked average on_exact =
        let rows : ℕ → List ℕ = λ round. unless_always (exact_at (stage_at run round) t).null (taken_lines head run.query (place + 1) t.face (exact_at (stage_at run round) t)) in
        let front : List ℕ = decimal (place + 1) ++ codes " exact " in (
          rows,
          holds_again (Call calls.Avg e) t (exact_span run t) (exact_text run t) (retold.exact law run ran.plan sure t on shape_is e asked) (λ round h attains some. tt) front rows behind
              (λ round. by_options true average round ∙ ap (λ x. Some (chosen true x options.clip (exact_part round) (clip_part round))) on_exact
              ∙ ap Some (append_assoc front (exact_text run t round ++ codes "\n") (rows round) ∙ ap (λ l. front ++ l) (append_assoc (exact_text run t round) (codes "\n") (rows round)))),
          λ round h attains some. averages_reached law q head bits options ran on shape_is (λ world. group_is world 0) e t asked some round (within round h) attains,
        )

    -- the item has a clip, or none
    told_clip : (item : Item) → IsAsked q ran.query item t → text.is_average item ≡ false → ((rows : List Row) → answered item rows ≡ of_value (answer item rows)) → is_average t.kind ≡ false → options.clip ≡ true
        → (clip : Option Clip) → clip_of ran.query t ≡ clip
        → HasNone behind ⊎ HoldsAgain (rounds.reading law q head bits options ran) item (span_for run t []) (decimal (place + 1) ++ codes " clip ") (λ round. []) behind
    told_clip item asked other same plain on_clip None e =
        inl (λ round. by_options false plain round ∙ ap (λ x. Some (chosen false options.exact x (exact_part round) (clip_part round))) on_clip
        ∙ ap (λ c. Some (clip_line head run.query (place + 1) t.face (option_map (clipped_in (stage_at run round) t) c))) e)
    told_clip item asked other same plain on_clip (Some clip) e =
        let front : List ℕ = decimal (place + 1) ++ codes " clip " in
        inr (holds_again item t (clip_span run t clip) (clip_text run t clip) (clipped law run ran.plan sure t on shape_is item asked clip e other same)
        (λ round h attains some. clip_reached law run ran.plan sure t on shape_is item asked clip e run.cells (own_values some round h) 0 (group_is run.cells 0) some round h attains) front (λ round. []) behind
        (λ round. by_options false plain round ∙ ap (λ x. Some (chosen false options.exact x (exact_part round) (clip_part round))) on_clip
        ∙ ap (λ c. Some (clip_line head run.query (place + 1) t.face (option_map (clipped_in (stage_at run round) t) c))) e
        ∙ ap (λ l. Some (front ++ (clip_text run t clip round ++ l))) (sym (append-nil (codes "\n")))))

    of_value_item : (item : Item) → IsAsked q ran.query item t → text.is_average item ≡ false → ((rows : List Row) → answered item rows ≡ of_value (answer item rows))
        → (options.clip ≡ false → HasNone behind)
        × (options.clip ≡ true → HasNone behind
        ⊎ HoldsAgain (rounds.reading law q head bits options ran) item (span_for run t []) (decimal (place + 1) ++ codes " clip ") (λ round. []) behind)
    of_value_item item asked other same =
        let plain : is_average t.kind ≡ false = no_average t.kind (typed_kind head.columns ran.query.columns item t (typed_as q head ran.query item t ran.typed asked) other) in
        (no_clip plain, λ on_clip. told_clip item asked other same plain on_clip (clip_of ran.query t) refl)

    behind_item : (item : Item) → IsAsked q ran.query item t → IsBehind (rounds.reading law q head bits options ran) (wanted_by options) place item (span_for run t []) behind
    behind_item (tree.Plain n) asked = of_value_item (tree.Plain n) asked refl (λ rows. refl)
    behind_item CountAll asked = of_value_item CountAll asked refl (λ rows. refl)
    behind_item (Call calls.Count e) asked = of_value_item (Call calls.Count e) asked refl (λ rows. refl)
    behind_item (Call calls.Sum e) asked = of_value_item (Call calls.Sum e) asked refl (λ rows. refl)
    behind_item (Call calls.Min e) asked = of_value_item (Call calls.Min e) asked refl (λ rows. refl)
    behind_item (Call calls.Max e) asked = of_value_item (Call calls.Max e) asked refl (λ rows. refl)
    behind_item (Call calls.Avg e) asked =
        let average : is_average t.kind ≡ true = ap is_average (kind_is law run ran.plan sure e t [] asked on) in
        (no_exact average, told_exact e asked average)

  behind_of : (place : ℕ) (item : Item) (found : slice_get (asked q.head) place ≡ Some item) → IsBehind (rounds.reading law q head bits options ran) (wanted_by options) place item (holds place item found).spans (λ round. slice_get (besides round) place)
  unfolding holds
  behind_of place item found =
      let t = items.is_typed q head ran.query ran.typed whole place item found in
      behind_item place t.0 (subst (λ k. slice_get ran.query.items k ≡ Some t.0) t.2 t.1.in_query) item t.1

  pub told : HoldsTotals (rounds.reading law q head bits options ran) (wanted_by options) (rounds.block law q head bits options ran)
  told = record {
    texts = texts;
    besides = besides;
    lines = lines_are;
    as_many = λ round. (lined round).1.as_many ∙ items.as_many q head ran.query ran.typed whole;
    holds = holds;
    behind = behind_of;
  }
