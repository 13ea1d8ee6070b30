-- The bounds of rounds are certain, of each table that has the planes read.
use Rattle.std.proofs.Common.{◌≡◌, ℕ, ◌+◌, ◌<◌, ◌≤◌, Bool, Some, List, length, get_or, sym, ap, ◌∙◌, subst, arith}
use Rattle.daq_table.specs.Tables.{Cells, Frame, IsTable}
use Rattle.plane_schedule.specs.declared.policy.Plan.{Plan}
use Rattle.query_model.specs.Answers.{Key, every_row}
use Rattle.query_model.specs.Bounds.{pairs}
use Rattle.query_model.specs.Knowledge.{CanTake, IsKnowledge, Knowledge, known_of, plane_of, taken}
use Rattle.query_model.specs.Laws.{AverageBoundsBecomeExactOnTables, AverageBoundsContainOnTables, AverageBoundsNest, BoundsAreExtremesOnTables, BoundsBecomeExactOnTables, BoundsContainOnTables, BoundsNest, CompletionsAreSelections, PlanesAreTaken, RangesNest, ResultsAreToldOnTables, StandingsAreRightOnTables, StandingsBecomeExact, StandingsNest, TableAgrees, TablesAgree, WordsBecomeExact}
use Rattle.query_model.specs.Projection.{projected}
use Rattle.query_model.specs.Ranking.{order_of}
use Rattle.query_model.specs.Worlds.{AgreesWith, NamesColumns}
use Rattle.query_model.specs.declared.query.Item.{Item}
use Rattle.query_model.specs.declared.query.TypedQuery.{TypedQuery}
use Rattle.round_engine.specs.Promises.{IsCertain, IsCertainKey, IsCertainStanding, LiesWithin, StandingsStay}
use Rattle.round_engine.specs.Stages.{Stage}
use Rattle.round_engine.proofs.Certain.{word_of_average, word_of_bound}
use Rattle.avg_exact.specs.Laws.{ExactAveragesAreCertain, ExactAveragesNest}
use Rattle.clip_bounds.specs.Clips.{clip_of}
use Rattle.clip_bounds.specs.ClipLaws.{ClipsAreCertain, ClipsNest}
use Rattle.clip_bounds.specs.declared.clip.Clip.{Clip}
use Rattle.table_rounds.specs.Headline.{AreCertain, AreOfLongs, ClipLiesWithin, ExactLiesWithin, IsCertainValue, ValueLiesWithin, RoundsAreCertain, stage_of}
use Rattle.table_rounds.specs.Rounds.{AreRounds, counts_after, stage_after, stage_with}
use Rattle.table_rounds.proofs.Agreeing.{table_tells}
use Rattle.table_rounds.proofs.Counts.{next_counts}
use Rattle.table_rounds.proofs.Keys.{CellLaws, has_cell}
use Rattle.table_rounds.proofs.LongNumbers.{long_part}
use Rattle.table_rounds.proofs.OfTables.{same_rounds}
use Rattle.table_rounds.proofs.Reached.{chosen_column, chosen_unread, columns_of_part, few_rounds, has_plane, is_part, part_of, reads_after}

-- the laws of values, of bounds, of keys and of standings
pub record Laws : Type 0 where
  pub values : CompletionsAreSelections
  pub cells : CellLaws
  pub results : ResultsAreToldOnTables
  pub words : WordsBecomeExact
  pub standings : StandingsAreRightOnTables
  pub settled : StandingsBecomeExact
  pub keep : StandingsNest
  pub agree : TablesAgree
  pub taking : PlanesAreTaken
  pub contain : BoundsContainOnTables
  pub extremes : BoundsAreExtremesOnTables
  pub exact : BoundsBecomeExactOnTables
  pub nest_ranges : RangesNest
  pub nest : BoundsNest
  pub contain_averages : AverageBoundsContainOnTables
  pub exact_averages : AverageBoundsBecomeExactOnTables
  pub nest_averages : AverageBoundsNest
  pub clips : ClipsAreCertain
  pub nest_clips : ClipsNest
  pub exact_ends : ExactAveragesAreCertain
  pub nest_exact_ends : ExactAveragesNest

module _ (law : Laws) (plan : Plan) (query : TypedQuery) (frame : Frame) (cells : Cells) (named : NamesColumns query frame)
    (longs : AreOfLongs frame) (table : IsTable frame cells) where
  -- what is told under a knowledge
  abbrev at : Knowledge → Stage
  at known = record { query = query; frame = part_of query frame; known = known }

  -- of one item
  item_is_certain : (known : Knowledge) (item : Item) (key : Key) → IsKnowledge (part_of query frame) known → IsCertain (at known) item key frame
  item_is_certain known item key is_known =
      let part = part_of query frame in
      let its = is_part query frame named in
      record {
        bound = λ plain. record {
          contains = λ world agrees. law.contain query item key frame part known world plain its is_known agrees;
          tight = λ attains. law.extremes query item key frame part known plain attains its is_known;
          exact = λ read full world agrees. law.exact query item key frame part known world plain its is_known read agrees full;
          told = λ read. word_of_bound item.kind (pairs query item key part known) (law.words query item key part known is_known read);
        };
        average = λ _. record {
          contains = λ world agrees. law.contain_averages query item key frame part known world its is_known agrees;
          exact = λ read full world agrees. law.exact_averages query item key frame part known world its is_known read agrees full;
          told = λ read. word_of_average (pairs query item key part known) (law.words query item key part known is_known read);
        };
      }

  value_is_certain : (known : Knowledge) (r c : ℕ) → IsKnowledge (part_of query frame) known → r < frame.rows → c < length query.columns → IsCertainValue (at known) frame r c
  value_is_certain known r c is_known r_in c_in world agrees =
      (law.values (part_of query frame) known is_known).within (projected query world) agrees.part r c r_in (subst (λ n. c < n) (sym (columns_of_part query frame)) c_in)

  key_is_certain : (known : Knowledge) (key : Key) → IsKnowledge (part_of query frame) known → IsCertainKey (at known) key frame
  key_is_certain known key is_known = record {
    told = law.results query key frame (part_of query frame) known (is_part query frame named) is_known;
    exact = law.words query every_row key (part_of query frame) known is_known;
  }

  standing_is_certain : (known : Knowledge) (r : ℕ) → IsKnowledge (part_of query frame) known → r < frame.rows → IsCertainStanding (at known) r frame
  standing_is_certain known r is_known r_in = record {
    right = law.standings query frame (part_of query frame) known r (is_part query frame named) is_known r_in;
    exact = λ read. law.settled query.pred (order_of query.shape) (part_of query frame) known r is_known read r_in;
  }

  -- what the table's planes tell after rounds is what is known of it
  tells : (reads : List ℕ) → AreRounds plan query frame (plane_of frame cells) reads → (round : ℕ) → round ≤ length reads →
      stage_after query frame (plane_of frame cells) reads round ≡ stage_with query frame cells (counts_after query reads round)
  tells reads rounds round h =
      table_tells law.taking query frame cells named table (counts_after query reads round) (reads_after plan query frame (plane_of frame cells) reads rounds round h)

  agrees : (reads : List ℕ) → AreRounds plan query frame (plane_of frame cells) reads → (round : ℕ) → round ≤ length reads →
      TableAgrees query frame (part_of query frame) cells (counts_after query reads round)
  agrees reads rounds round h =
      law.agree query frame (part_of query frame) cells (counts_after query reads round) (is_part query frame named) table (reads_after plan query frame (plane_of frame cells) reads rounds round h)

  -- a round that is not the last reads a plane
  record OneMore (reads : List ℕ) (round : ℕ) : Type 0 where
    pub column : ℕ
    pub bits : List Bool
    pub knowledge : IsKnowledge (part_of query frame) (stage_of query frame cells reads round).known
    pub can : CanTake (part_of query frame) (stage_of query frame cells reads round).known column bits
    pub next : stage_of query frame cells reads (round + 1) ≡ at (taken (stage_of query frame cells reads round).known column bits)

  one_more : (reads : List ℕ) → AreRounds plan query frame (plane_of frame cells) reads → (round : ℕ) → round < length reads → OneMore reads round
  one_more reads rounds round h =
      let part = part_of query frame in
      let counts = counts_after query reads round in
      let known = known_of part (projected query cells) counts in
      let w = chosen_unread plan query frame (plane_of frame cells) reads rounds round h in
      let c = get_or reads round 0 in
      let are = reads_after plan query frame (plane_of frame cells) reads rounds round (omega arith) in
      let bits = plane_of part (projected query cells) c (get_or counts c 0) in
      let here = agrees reads rounds round (omega arith) in
      let (can, same, next) = law.taking part (projected query cells) counts c here.table are w.column (has_plane query frame (plane_of frame cells) counts c w) in
      let counted = next_counts query reads round h (chosen_column plan query frame (plane_of frame cells) reads rounds round h) in
      let old : stage_of query frame cells reads round ≡ at known = tells reads rounds round (omega arith) in
      record {
        column = c;
        bits = bits;
        knowledge = rounds.legal round (omega arith);
        can = subst (λ (s : Stage). CanTake part s.known c bits) (sym old) can;
        next = tells reads rounds (round + 1) (omega arith) ∙ ap (λ counts. at (known_of part (projected query cells) counts)) counted
            ∙ ap at (sym same) ∙ ap (λ (s : Stage). at (taken s.known c bits)) (sym old);
      }

  -- a bound after one plane more lies within the one before
  item_is_nested : (reads : List ℕ) (round : ℕ) → OneMore reads round → (item : Item) (key : Key) →
      LiesWithin (stage_of query frame cells reads round) (stage_of query frame cells reads (round + 1)) item key
  item_is_nested reads round more item key =
      let part = part_of query frame in
      let known = (stage_of query frame cells reads round).known in
      subst (λ s. LiesWithin (stage_of query frame cells reads round) s item key) (sym more.next) (record {
        bound = λ plain. law.nest query item key part known more.column more.bits plain more.knowledge more.can;
        average = λ _. law.nest_averages query item key part known more.column more.bits more.knowledge more.can;
      })

  -- so do the range of a value, a clipped bound, and the exact ends of an average
  value_is_nested : (reads : List ℕ) (round : ℕ) → OneMore reads round → (row column : ℕ) → row < frame.rows →
      ValueLiesWithin (stage_of query frame cells reads round) (stage_of query frame cells reads (round + 1)) row column
  value_is_nested reads round more row column row_in =
      let known = (stage_of query frame cells reads round).known in
      subst (λ s. ValueLiesWithin (stage_of query frame cells reads round) s row column) (sym more.next)
      (law.nest_ranges (part_of query frame) known more.column more.bits row column more.knowledge more.can row_in)

  clip_is_nested : (reads : List ℕ) (round : ℕ) → OneMore reads round → (item : Item) (clip : Clip) → clip_of query item ≡ Some clip →
      ClipLiesWithin (stage_of query frame cells reads round) (stage_of query frame cells reads (round + 1)) item clip
  clip_is_nested reads round more item clip has =
      let part = part_of query frame in
      let known = (stage_of query frame cells reads round).known in
      subst (λ s. ClipLiesWithin (stage_of query frame cells reads round) s item clip) (sym more.next)
      (law.nest_clips query item clip part known more.column more.bits has (long_part query frame named longs clip.column) more.knowledge more.can)

  average_is_nested : (reads : List ℕ) (round : ℕ) → OneMore reads round → (item : Item) →
      ExactLiesWithin (stage_of query frame cells reads round) (stage_of query frame cells reads (round + 1)) item
  average_is_nested reads round more item =
      let known = (stage_of query frame cells reads round).known in
      subst (λ s. ExactLiesWithin (stage_of query frame cells reads round) s item) (sym more.next)
      (law.nest_exact_ends query item (part_of query frame) known more.column more.bits more.knowledge more.can)

  -- certain and excluded rows stay so
  standings_stay : (reads : List ℕ) (round : ℕ) → OneMore reads round →
      StandingsStay (stage_of query frame cells reads round) (stage_of query frame cells reads (round + 1))
  standings_stay reads round more =
      subst (StandingsStay (stage_of query frame cells reads round)) (sym more.next)
      (λ r r_in. law.keep query.pred (order_of query.shape) (part_of query frame) (stage_of query frame cells reads round).known more.column more.bits r more.knowledge more.can r_in)

  pub are_certain : (reads : List ℕ) → AreRounds plan query frame (plane_of frame cells) reads → AreCertain query frame cells reads
  are_certain reads rounds = record {
    itself = λ round h. subst (λ (s : Stage). AgreesWith query frame s.known cells) (sym (tells reads rounds round h)) (agrees reads rounds round h).agrees;
    values = λ round h row column row_in column_in. value_is_certain (stage_of query frame cells reads round).known row column (rounds.legal round h) row_in column_in;
    certain = λ round h key is i item there. item_is_certain (stage_of query frame cells reads round).known item key (rounds.legal round h);
    values_nested = λ round h row column row_in. value_is_nested reads round (one_more reads rounds round h) row column row_in;
    nested = λ round h key is i item there. item_is_nested reads round (one_more reads rounds round h) item key;
    clips = λ round h i item clip is.
        law.clips (stage_of query frame cells reads round) item clip frame is.clipped (is_part query frame named)
        (long_part query frame named longs clip.column) (rounds.legal round h);
    clips_nested = λ round h i item clip is. clip_is_nested reads round (one_more reads rounds round h) item clip is.clipped;
    averages = λ round h i item is.
        law.exact_ends (stage_of query frame cells reads round) item frame (is_part query frame named) (rounds.legal round h);
    averages_nested = λ round h i item is. average_is_nested reads round (one_more reads rounds round h) item;
    results = λ round h key is. key_is_certain (stage_of query frame cells reads round).known key (rounds.legal round h);
    in_cells = λ round h key is. has_cell law.cells (stage_of query frame cells reads round) (rounds.legal round h) key is;
    standings = λ top round h row row_in. standing_is_certain (stage_of query frame cells reads round).known row (rounds.legal round h) row_in;
    kept = λ top round h. standings_stay reads round (one_more reads rounds round h);
    few = few_rounds plan query frame (plane_of frame cells) reads rounds;
  }

pub rounds_are_certain : Laws → RoundsAreCertain
rounds_are_certain law plan query frame bits reads cells named longs rounds has =
    are_certain law plan query frame cells named longs has.table reads (same_rounds query frame bits reads cells has plan rounds)
