-- Where the answers of items lie, for each key.
use Rattle.std.proofs.Common.{◌≡◌, ◌≢◌, ℕ, ◌+◌, ◌<◌, ◌≤◌, Bool, true, false, List, length, refl, sym, ap, subst, ◌∙◌}
use Rattle.std.specs.List.{filter_map}
use Rattle.daq_report.specs.Extras.{is_average}
use Rattle.daq_table.specs.Tables.{Cells, frame_of}
use Rattle.plane_schedule.specs.declared.policy.Plan.{Plan}
use Rattle.query_model.specs.Answers.{Key}
use Rattle.query_model.specs.Bounds.{average_under, bound_under}
use Rattle.query_model.specs.Queries.{Aggregate, Query}
use Rattle.query_model.specs.Worlds.{average_on}
use Rattle.query_model.specs.declared.query.ItemKind.{ItemKind}
use Rattle.query_model.specs.declared.query.ItemKind.TheVariants as kinds
use Rattle.round_engine.specs.Cells.{SpeaksFor}
use Rattle.round_engine.specs.Stages.{Stage}
use Rattle.sql_text.specs.declared.tree.CallKind.TheVariants as calls
use Rattle.sql_text.specs.Tree as tree
use Rattle.sql_meaning.specs.Answers.{answer}
use Rattle.sql_meaning.specs.Expressions.{value}
use Rattle.sql_meaning.specs.Laws.{IsAsked}
use Rattle.sql_meaning.proofs.Shares.{typed_as}
use Rattle.table_rounds.specs.Headline.{IsKeyOn}
use Rattle.sql_headline.specs.Headline as text
use Rattle.sql_headline.specs.Headline.{rows_in}
use Rattle.sql_headline.specs.Intervals.{EnclosesShare, IsShareAlone, ShareLiesInside, ShowsShares}
use Rattle.sql_headline.specs.Lines.{IsAverageShownFor, IsCellOf, IsShownFor}
use Rattle.sql_headline.specs.Spans.{IsIt, IsShown, LiesIn, Narrows, Span, answered, of_value, shares, values}
use Rattle.sql_headline.specs.Worlds.{IsDone, IsGroupOf, IsWorld, Run, stage_at}
use Rattle.sql_headline.proofs.Averaged as averaged
use Rattle.sql_headline.proofs.Begun.{IsSure, Laws, agrees, certain, own_cell}
use Rattle.sql_headline.proofs.Ends.{alone, enclosed, inside, interval_of}
use Rattle.sql_headline.proofs.Holding as holding
use Rattle.sql_headline.proofs.Sectioned as sectioned
use Rattle.sql_headline.proofs.Sectioned.{places_of}

-- where the answer of an item lies at a stage, for a key
abbrev pub span_by : Bool → Run → Aggregate → Key → Stage → Span
span_by true run t key stage = shares (averaged.shares_of (places_of t.face) (average_under run.query t key stage.frame stage.known))
span_by false run t key stage = values (interval_of run.head.columns run.query.columns t.face (bound_under run.query t key stage.frame stage.known))

abbrev pub span_for : Run → Aggregate → Key → ℕ → Span
span_for run t key round = span_by (is_average t.kind) run t key (stage_at run round)

-- what these spans say of an item
pub record IsSpanned (run : Run) (item : tree.Item) (t : Aggregate) (key : Key) : Type 0 where
  pub shown : (round : ℕ) → round ≤ length run.reads → (text : List ℕ) → (t.kind ≢ kinds.Avg → IsShownFor run.head (stage_at run round) t key text) →
      (t.kind ≡ kinds.Avg → IsAverageShownFor run.head (stage_at run round) t key text) → IsShown (span_for run t key round) text
  pub lies : (round : ℕ) → round ≤ length run.reads → (world : Cells) (one : ℕ) → IsWorld run round world → IsGroupOf run world key one →
      LiesIn (span_for run t key round) (answered item (rows_in run world one))
  pub narrows : (round : ℕ) → round < length run.reads → Narrows (span_for run t key round) (span_for run t key (round + 1))
  pub is_it : (round : ℕ) → round ≤ length run.reads → IsDone run round → (world : Cells) (one : ℕ) → IsWorld run round world → IsGroupOf run world key one →
      IsIt (span_for run t key round) (answered item (rows_in run world one))

-- what is asked is an average where what is typed is one
pub no_average : (kind : ItemKind) → kind ≢ kinds.Avg → is_average kind ≡ false
no_average kinds.Count other = refl
no_average kinds.Sum other = refl
no_average kinds.Min other = refl
no_average kinds.Max other = refl
no_average kinds.Avg other = absurd (other refl)

module _ (law : Laws) (run : Run) (plan : Plan) (is : IsSure run plan) (t : Aggregate) (key : Key) (on : IsKeyOn run.query (frame_of run.head) key) where
  module _ (item : tree.Item) (asked : IsAsked run.text run.query item t) (other : text.is_average item ≡ false) (same : (rows : List _) → answered item rows ≡ of_value (answer item rows)) where
    kind_is : t.kind ≢ kinds.Avg
    kind_is = holding.typed_kind run.head.columns run.query.columns item t (typed_as run.text run.head run.query item t is.typed asked) other

    plain : is_average t.kind ≡ false
    plain = no_average t.kind kind_is

    of_values : IsSpanned run item t key
    of_values = record {
      shown = λ round h text value share.
          subst (λ b. IsShown (span_by b run t key (stage_at run round)) text) (sym plain)
          (holding.shows_key law run plan is item t key asked on round h text (value kind_is));
      lies = λ round h world one is_world group.
          subst (λ a. LiesIn (span_for run t key round) a) (sym (same (rows_in run world one)))
          (subst (λ b. LiesIn (span_by b run t key (stage_at run round)) (of_value (answer item (rows_in run world one)))) (sym plain)
          (enclosed run.head.columns run.query.columns t.face (holding.bound law run plan is item t key asked on round) _ _ (holding.meant law run plan is item t key asked on round world one is_world group)
          ((holding.is_certain law run plan is item t key asked on kind_is round h).contains world (agrees law run plan is round h world is_world))));
      narrows = λ round h.
          subst (λ b. Narrows (span_by b run t key (stage_at run round)) (span_by b run t key (stage_at run (round + 1)))) (sym plain)
          (inside run.head.columns run.query.columns t.face (holding.bound law run plan is item t key asked on round) (holding.bound law run plan is item t key asked on (round + 1))
          (((certain law run plan is).nested round h key on asked.place t asked.in_query).bound kind_is));
      is_it = λ round h done world one is_world group.
          let bounded = holding.is_certain law run plan is item t key asked on kind_is round h in
          let same_world = agrees law run plan is round h world is_world in
          subst (λ a. IsIt (span_for run t key round) a) (sym (same (rows_in run world one)))
          (subst (λ b. IsIt (span_by b run t key (stage_at run round)) (of_value (answer item (rows_in run world one)))) (sym plain)
          (alone run.head.columns run.query.columns t.face (holding.bound law run plan is item t key asked on round) _ _ (holding.meant law run plan is item t key asked on round world one is_world group)
          (bounded.contains world same_world) (bounded.told done) (λ some. bounded.exact done some world same_world)));
    }

  module _ (e : tree.Expr) (asked : IsAsked run.text run.query (tree.Call calls.Avg e) t) where
    average : is_average t.kind ≡ true
    average = ap is_average (averaged.kind_is law run plan is e t key asked on)

    places : ◌≡◌ {A = ℕ} (averaged.scale law run plan is e t key asked on) (places_of t.face)
    places = ap places_of (sym (averaged.face_is law run plan is e t key asked on))

    of_shares : IsSpanned run (tree.Call calls.Avg e) t key
    of_shares =
        let scale = averaged.scale law run plan is e t key asked on in
        let bound = averaged.bound law run plan is e t key asked on in
        record {
          shown = λ round h text value share.
              subst (λ b. IsShown (span_by b run t key (stage_at run round)) text) (sym average)
              (subst (λ s. ShowsShares (averaged.shares_of s (bound round)) text) places
              (averaged.shows_key law run plan is e t key asked on round h text (share (averaged.kind_is law run plan is e t key asked on))));
          lies = λ round h world one is_world group.
              subst (λ b. LiesIn (span_by b run t key (stage_at run round)) (answered (tree.Call calls.Avg e) (rows_in run world one))) (sym average)
              (subst (λ s. EnclosesShare (averaged.shares_of s (bound round)) (text.average_in run e world one)) places
              (averaged.enclosed run.head.columns run.query.columns scale (bound round) (average_on run.query t key (frame_of run.head) world) (filter_map (value e) (rows_in run world one))
              (averaged.meant law run plan is e t key asked on round world one is_world group)
              ((averaged.is_certain law run plan is e t key asked on round h).contains world (agrees law run plan is round h world is_world))));
          narrows = λ round h.
              subst (λ b. Narrows (span_by b run t key (stage_at run round)) (span_by b run t key (stage_at run (round + 1)))) (sym average)
              (subst (λ s. ShareLiesInside (averaged.shares_of s (bound round)) (averaged.shares_of s (bound (round + 1)))) places
              (averaged.inside scale (bound round) (bound (round + 1))
              (((certain law run plan is).nested round h key on asked.place t asked.in_query).average (averaged.kind_is law run plan is e t key asked on))));
          is_it = λ round h done world one is_world group.
              let bounded = averaged.is_certain law run plan is e t key asked on round h in
              let same_world = agrees law run plan is round h world is_world in
              subst (λ b. IsIt (span_by b run t key (stage_at run round)) (answered (tree.Call calls.Avg e) (rows_in run world one))) (sym average)
              (subst (λ s. IsShareAlone (averaged.shares_of s (bound round)) (text.average_in run e world one)) places
              (averaged.alone run.head.columns run.query.columns scale (bound round) (average_on run.query t key (frame_of run.head) world) (filter_map (value e) (rows_in run world one))
              (averaged.meant law run plan is e t key asked on round world one is_world group)
              (bounded.contains world same_world) (bounded.told done) (λ some. bounded.exact done some world same_world)));
        }

  pub spanned : (item : tree.Item) → IsAsked run.text run.query item t → IsSpanned run item t key
  spanned (tree.Plain n) asked = of_values (tree.Plain n) asked refl (λ rows. refl)
  spanned tree.CountAll asked = of_values tree.CountAll asked refl (λ rows. refl)
  spanned (tree.Call calls.Count e) asked = of_values (tree.Call calls.Count e) asked refl (λ rows. refl)
  spanned (tree.Call calls.Sum e) asked = of_values (tree.Call calls.Sum e) asked refl (λ rows. refl)
  spanned (tree.Call calls.Avg e) asked = of_shares e asked
  spanned (tree.Call calls.Min e) asked = of_values (tree.Call calls.Min e) asked refl (λ rows. refl)
  spanned (tree.Call calls.Max e) asked = of_values (tree.Call calls.Max e) asked refl (λ rows. refl)

  same_span : (b : Bool) (stage : Stage) (cell : ℕ) → stage.query ≡ run.query → SpeaksFor stage cell key → sectioned.span_by run.head stage b cell t ≡ span_by b run t key stage
  same_span true stage cell same speaks =
      ap (λ bound. shares (averaged.shares_of (places_of t.face) bound)) (speaks.average t)
      ∙ ap (λ (w : Query). shares (averaged.shares_of (places_of t.face) (average_under w t key stage.frame stage.known))) same
  same_span false stage cell same speaks =
      ap (λ bound. values (interval_of run.head.columns stage.query.columns t.face bound)) (speaks.bound t)
      ∙ ap (λ (w : Query). values (interval_of run.head.columns w.columns t.face (bound_under w t key stage.frame stage.known))) same

  -- what is shown of a cell of the key is where its answers lie
  pub in_cell : (round cell : ℕ) → round ≤ length run.reads → IsCellOf (stage_at run round) key cell → sectioned.span_of run.head (stage_at run round) cell t ≡ span_for run t key round
  in_cell round cell h own =
      let has = (certain law run plan is).in_cells round h key on in
      ap (λ c. sectioned.span_of run.head (stage_at run round) c t) (own_cell (stage_at run round) key cell has own)
      ∙ same_span (is_average t.kind) (stage_at run round) has.cell refl has.speaks
