-- A query that was answered round by round: the worlds of its rounds, and the lines and blocks of its report.
use Rattle.std.proofs.Common.{◌≡◌, ℕ, zero, suc, ◌<◌, ◌≤◌, ◌==◌, cond, List, [], ◌∷◌, ◌++◌, length, map, take, get_or, Option, Some, None, IfSome, IsSome, refl, sym, ap, subst, ◌∙◌, arith, slice_get, count_by}
use Rattle.std.proofs.lemmas.List.{get_or_default, length-map, take-map}
use Rattle.std.proofs.lemmas.List.Sums.{sum_by-take-le}
use Rattle.std.proofs.lemmas.Option.{get_or_from_slice_get, none-some, slice_get-get_or, slice_get-map, slice_get_within}
use Rattle.std.specs.List.{AllByRecursion}
use Rattle.std.specs.Option.{option_map}
use Rattle.std.specs.Prelude.{codes, decimal}
use Rattle.command_line.specs.Commands.{Options}
use Rattle.daq_cli.specs.Report.{block_of, blocks_below, end_line, ending_line, query_line, rounds_text, shown_rounds}
use Rattle.daq_cli.specs.Questions.{extras_of}
use Rattle.daq_report.specs.Intervals.{name_of}
use Rattle.daq_report.specs.Blocks.{block_text, planes_text, round_line}
use Rattle.daq_table.specs.Tables.{Cells, Frame, ends_at, frame_of, planes}
use Rattle.daq_table.specs.declared.head.ColumnHead.{ColumnHead}
use Rattle.daq_table.specs.declared.table_head.Head.{Head}
use Rattle.multi_session.proofs.Keeping.{stands_once}
use Rattle.plane_schedule.specs.declared.policy.Ending.{Ending}
use Rattle.plane_schedule.specs.declared.policy.Plan.{Plan}
use Rattle.query_model.specs.Knowledge.{known_at, plane_of}
use Rattle.query_model.specs.Queries.{Query}
use Rattle.query_model.specs.Worlds.{NamesColumns}
use Rattle.sql_headline.specs.Worlds as held
use Rattle.sql_headline.specs.Worlds.{Run, stage_at}
use Rattle.sql_headline.proofs.Begun.{IsSure, Laws}
use Rattle.sql_print.specs.Printed.{printed}
use Rattle.sql_text.specs.Tree as tree
use Rattle.sql_typing.proofs.Distinct.{seen_all}
use Rattle.sql_typing.specs.Names.{mentions, names_in, place_of}
use Rattle.sql_typing.specs.Refusals.{IsTyped}
use Rattle.sql_typing.specs.Typing.{columns_of}
use Rattle.table_rounds.proofs.Counts.{count_of, count_there}
use Rattle.table_rounds.proofs.Going.{take_all}
use Rattle.table_rounds.proofs.Lists.{all_there}
use Rattle.table_rounds.proofs.OfTables.{same_rounds, same_stages}
use Rattle.table_rounds.proofs.Reached.{chosen_column, columns_of_part, ends_there, part_of, read_there}
use Rattle.table_rounds.specs.Headline.{AreCertain}
use Rattle.table_rounds.specs.Rounds.{AreAllRounds, HasPlanes, Planes, column_read, counts_after}
use Rattle.run_headline.specs.Printed.{HasBlocks, blocks_before, column_text}
use Rattle.run_headline.specs.Readings.{IsAllRead, IsWorld, Reading, count_read}
use Rattle.run_headline.proofs.Counts.{as_many, counted_in, fewer, first_below}

-- ---- the text

-- a line for the end
pub end_is : (o : Option Ending) → IsSome o → (ending : Ending) × (end_line o ≡ ending_line ending)
end_is None some = absurd cc
end_is (Some ending) some = (ending, refl)

pub same_before : (block : List ℕ → ℕ → List ℕ) (reads : List ℕ) (n : ℕ) → blocks_below block reads n ≡ blocks_before (block reads) n
unfolding blocks_below
same_before block reads zero = refl
same_before block reads (suc n) = ap (λ l. l ++ block reads n) (same_before block reads n)

-- what holds of the column of each name holds of each that is mentioned
all_mentioned : (P : ℕ → Type 0) (table : List ColumnHead) (ns : List tree.Name) → AllByRecursion (λ n. IfSome (place_of table n.name) P) ns →
    AllByRecursion (λ m. IfSome m.column P) (mentions table ns)
all_mentioned P table [] h = tt
all_mentioned P table (n ∷ ns) h = (h.0, all_mentioned P table ns h.1)

-- the query is typed so, and these are all rounds of a plan of the options over planes, which a table has
pub record IsRan (q : tree.Query) (head : Head) (bits : Planes) (options : Options) : Type 0 where
  pub query : Query
  pub plan : Plan
  pub reads : List ℕ
  pub cells : Cells
  pub typed : IsTyped q head query
  pub rounds : AreAllRounds plan query (frame_of head) bits reads
  pub has : HasPlanes query (frame_of head) bits (counts_after query reads (length reads)) cells
  pub certain : AreCertain query (frame_of head) cells reads
  pub listing : plan.listing ≡ options.listing
  pub extras : plan.extras ≡ extras_of options

module _ (law : Laws) (q : tree.Query) (head : Head) (bits : Planes) (options : Options) (ran : IsRan q head bits options) where
  abbrev pub query : Query
  query = ran.query

  abbrev pub reads : List ℕ
  reads = ran.reads

  abbrev pub frame : Frame
  frame = frame_of head

  abbrev pub run : Run
  run = record { text = q; head = head; cells = ran.cells; query = query; reads = reads }

  pub sure : IsSure run ran.plan
  sure = record { typed = ran.typed; rounds = same_rounds query frame bits reads ran.cells ran.has ran.plan ran.rounds.rounds; certain = ran.certain }

  -- the place of a column of the query in the table
  abbrev place : ℕ → ℕ
  place c = get_or query.columns c 0

  abbrev pub columns : List ℕ
  columns = map place reads

  abbrev pub reading : Reading
  reading = record { text = q; head = head; bits = bits; columns = columns }

  pub as_long : length columns ≡ length reads
  as_long = length-map reads place

  named : NamesColumns query frame
  named = law.name head query (law.valid q head query ran.typed)

  -- ---- planes

  few_read : (round c : ℕ) → count_of reads round c ≤ count_read reading round (place c)
  few_read round c = subst (λ l. count_of reads round c ≤ count_by (λ p. p == place c) l) (sym (take-map place round reads)) (fewer place c (take round reads))

  counts_grow : (round c : ℕ) → c < length query.columns → get_or (counts_after query reads round) c 0 ≤ get_or (counts_after query reads (length reads)) c 0
  counts_grow round c h =
      let here = count_there query reads round c 0 h in
      let all = count_there query reads (length reads) c 0 h in
      let whole = ap (count_by (λ d. d == c)) (take_all reads) in
      let few = sum_by-take-le (λ d. cond (d == c) 1 0) reads round in
      omega (arith, here, all, whole, few)

  pub world_is : (round : ℕ) (world : Cells) → IsWorld reading round world → held.IsWorld run round world
  world_is round world is = record {
    has_planes = record {
      table = is.table;
      same = λ c number h lt.
          let here = count_there query reads round c 0 h in
          let few = few_read round c in
          let grow = counts_grow round c h in
          is.same (place c) number (omega (arith, here, few, lt)) ∙ sym (ran.has.same c number h (omega (arith, grow, lt)));
    };
    has_values = is.has_values;
  }

  apart : (c : ℕ) → c < length query.columns → (d : ℕ) → d < length query.columns → place d ≡ place c → d ≡ c
  apart c h d k e = stands_once query.columns named.distinct d c k h e

  counts_are : (round c : ℕ) → c < length query.columns → count_of reads round c ≡ count_read reading round (place c)
  counts_are round c h =
      as_many place c (length query.columns) (apart c h) (take round reads)
      (first_below (length query.columns) round reads (chosen_column ran.plan query frame bits reads ran.rounds.rounds))
      ∙ ap (count_by (λ p. p == place c)) (sym (take-map place round reads))

  all_read : (round : ℕ) → IsAllRead reading round → (number column : ℕ) → slice_get (columns_of head.columns q) number ≡ Some column →
      count_read reading round column ≡ planes (ends_at frame column)
  all_read round all number column there =
      all_there (λ c. count_read reading round c ≡ planes (ends_at frame c)) (columns_of head.columns q) number column
      (seen_all (λ c. count_read reading round c ≡ planes (ends_at frame c)) [] (mentions head.columns (names_in q)) tt
      (all_mentioned (λ c. count_read reading round c ≡ planes (ends_at frame c)) head.columns (names_in q) all)) there

  pub done_is : (round : ℕ) → IsAllRead reading round → held.IsDone run round
  done_is round all c h =
      let inside : c < length query.columns = subst (λ n. c < n) (columns_of_part query frame) h in
      let own : slice_get (columns_of head.columns q) c ≡ Some (place c) = ap (λ (w : Query). slice_get w.columns c) (sym ran.typed.same) ∙ slice_get-get_or query.columns c 0 inside in
      read_there query frame (plane_of frame ran.cells) (counts_after query reads round) c h ∙ count_there query reads round c 0 inside ∙ counts_are round c inside
      ∙ all_read round all c (place c) own ∙ ap planes (ends_there query frame c inside)

  -- a world of the run is one of the reading
  pub world_back : (round : ℕ) → round ≤ length reads → (world : Cells) → held.IsWorld run round world → IsWorld reading round world
  world_back round h world is = record {
    within = subst (λ n. round ≤ n) (sym as_long) h;
    table = is.has_planes.table;
    same = λ column number lt.
        let at = counted_in place column number (take round reads) (subst (λ l. number < count_by (λ p. p == column) l) (take-map place round reads) lt) in
        let c = get_or (take round reads) at.0 0 in
        let c_in : c < length query.columns = first_below (length query.columns) round reads (chosen_column ran.plan query frame bits reads ran.rounds.rounds) at.0 at.1 in
        let here = count_there query reads round c 0 c_in in
        let grow = counts_grow round c c_in in
        let same_count = counts_are round c c_in in
        let read : number < count_read reading round (place c) = subst (λ n. number < count_read reading round n) (sym at.2) lt in
        subst (λ n. plane_of frame world n number ≡ bits n number) at.2
        (is.has_planes.same c number c_in (omega (arith, here, same_count, read)) ∙ ran.has.same c number c_in (omega (arith, here, same_count, read, grow)));
    has_values = is.has_values;
  }

  -- ---- blocks

  abbrev pub block : ℕ → List ℕ
  block = block_of head ran.plan query bits reads

  pub block_is : (round : ℕ) → block round ≡ block_text head ran.plan.listing ran.plan.extras (stage_at run round) round (column_read reads round)
  block_is round = ap (λ s. block_text head ran.plan.listing ran.plan.extras s round (column_read reads round)) (same_stages query frame bits reads ran.cells ran.has round)

  -- the line of a round
  abbrev first_line : ℕ → Option ℕ → List ℕ
  first_line round last = codes "round " ++ (decimal round ++ (column_text reading round last ++ codes "\n"))

  -- the column that a round read is one of the query
  last_inside : (round c : ℕ) → column_read reads round ≡ Some c → c < length query.columns
  last_inside zero c e = absurd (none-some c e)
  last_inside (suc before) c e =
      subst (λ n. n < length query.columns) (get_or_from_slice_get reads before c 0 e)
      (chosen_column ran.plan query frame bits reads ran.rounds.rounds before (slice_get_within reads before c e))

  last_there : (round : ℕ) → column_read columns round ≡ option_map place (column_read reads round)
  last_there zero = refl
  last_there (suc before) = slice_get-map place reads before

  column_told : (round c : ℕ) → c < length query.columns → planes_text head (stage_at run round) c ≡ column_text reading round (Some (place c))
  column_told round c h =
      let name = ap (λ p. name_of (slice_get head.columns p)) (get_or_default query.columns c (length head.columns) 0 h) in
      let inside : c < length (part_of query frame).columns = subst (λ n. c < n) (sym (columns_of_part query frame)) h in
      let read = read_there query frame (plane_of frame ran.cells) (counts_after query reads round) c inside ∙ count_there query reads round c 0 h ∙ counts_are round c h in
      let all = ap planes (sym (ends_there query frame c h)) in
      ap (λ n. codes " " ++ (n ++ (codes " " ++ (decimal (known_at (stage_at run round).known c).read ++ (codes "/" ++ decimal (planes (ends_at (part_of query frame) c))))))) name
      ∙ ap (λ n. codes " " ++ (name_of (slice_get head.columns (place c)) ++ (codes " " ++ (decimal n ++ (codes "/" ++ decimal (planes (ends_at (part_of query frame) c))))))) read
      ∙ ap (λ n. codes " " ++ (name_of (slice_get head.columns (place c)) ++ (codes " " ++ (decimal (count_read reading round (place c)) ++ (codes "/" ++ decimal n))))) all

  by_last : (round : ℕ) (last : Option ℕ) → column_read reads round ≡ last → round_line head (stage_at run round) round last ≡ first_line round (option_map place last)
  by_last round None e = refl
  by_last round (Some c) e = ap (λ t. codes "round " ++ (decimal round ++ (t ++ codes "\n"))) (column_told round c (last_inside round c e))

  pub line_is : (round : ℕ) → round_line head (stage_at run round) round (column_read reads round) ≡ first_line round (column_read columns round)
  line_is round = by_last round (column_read reads round) refl ∙ ap (first_line round) (sym (last_there round))

  pub has_blocks : (text : List ℕ) → text ≡ query_line (printed q) ++ rounds_text (shown_rounds head ran.plan query bits) reads → HasBlocks q block (length columns) text
  has_blocks text e =
      let end = end_is _ ran.rounds.ended in
      record {
        ending = end.0;
        is = subst (λ n. text ≡ query_line (printed q) ++ (blocks_before block n ++ (block n ++ ending_line end.0))) (sym as_long)
            (e ∙ ap (λ l. query_line (printed q) ++ (l ++ (block (length reads) ++ end_line ((shown_rounds head ran.plan query bits).course.ending reads (length reads))))) (same_before (block_of head ran.plan query bits) reads (length reads))
            ∙ ap (λ l. query_line (printed q) ++ (blocks_before block (length reads) ++ (block (length reads) ++ l))) end.1);
      }
