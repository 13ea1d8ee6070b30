-- What the values of a row may be, in each round: their ranges narrow, and are one value in the end.
use Rattle.std.proofs.Common.{◌≡◌, ℕ, ◌+◌, ◌<◌, ◌≤◌, List, [], ◌∷◌, length, map, Some, None, refl, sym, ap, subst, ◌∙◌, arith}
use Rattle.std.proofs.lemmas.Int.{ints}
use Rattle.std.specs.List.{AllByRecursion}
use Rattle.daq_report.specs.Rankings.{bound_of_range}
use Rattle.daq_table.specs.Tables.{Cells, Frame, cell_at, ends_at, frame_of, row_of}
use Rattle.plane_schedule.specs.declared.policy.Plan.{Plan}
use Rattle.query_model.proofs.Blocks.{cell_same, range_ordered}
use Rattle.query_model.proofs.Exact.{IsSingleRange, ranges_single}
use Rattle.query_model.specs.Groups.{HasPrefixes, counts_of, parts_of}
use Rattle.query_model.specs.Knowledge.{IsCompletion, Knowledge, known_at, prefix_at, prefix_of, range_of, ranges_of}
use Rattle.query_model.specs.Truths.{IsNarrower, Range}
use Rattle.query_model.specs.declared.query.Face.TheVariants.{OfColumn}
use Rattle.row_groups.specs.Partition.{counts_of_parts, part_under, ranges_of_cell, ranges_of_prefixes}
use Rattle.table_rounds.proofs.Reached.{columns_of_part, part_of}
use Rattle.sql_headline.specs.Intervals.{Interval, LiesInside}
use Rattle.sql_headline.specs.Worlds.{IsDone, Run, stage_at}
use Rattle.sql_headline.proofs.Begun.{IsSure, Laws, certain, knowledge}
use Rattle.sql_headline.proofs.Ends.{at_most, interval_of}
use Rattle.sql_headline.proofs.GroupParts.{null_in, null_out, number_in, number_out}

module _ (law : Laws) (run : Run) (plan : Plan) (is : IsSure run plan) where
  abbrev pub range : ℕ → ℕ → ℕ → Range
  range round row c = ranges_of (stage_at run round).frame (stage_at run round).known row c

  abbrev pub interval_at : ℕ → ℕ → ℕ → Interval
  interval_at round row c = interval_of run.head.columns run.query.columns (OfColumn c) (bound_of_range (range round row c))

  in_part : (c : ℕ) → c < length run.query.columns → c < length (part_of run.query (frame_of run.head)).columns
  in_part c h = subst (λ n. c < n) (sym (columns_of_part run.query (frame_of run.head))) h

  pub narrows_at : (round row c : ℕ) → round < length run.reads → row < run.head.rows → c < length run.query.columns → LiesInside (interval_at round row c) (interval_at (round + 1) row c)
  narrows_at round row c h row_in c_in =
      let narrower : IsNarrower (range (round + 1) row c) (range round row c) = (certain law run plan is).values_nested round h row c row_in in
      let after : round + 1 ≤ length run.reads = omega (arith, h) in
      let legal = (knowledge law run plan is (round + 1) after).legal c row (in_part c c_in) row_in in
      let stage = stage_at run (round + 1) in
      let low_high = range_ordered (ends_at (part_of run.query (frame_of run.head)) c) (known_at stage.known c).read (prefix_at stage.known c row) legal in
      let new = range (round + 1) row c in
      record {
        null = λ some. null_out (range round row c).null (narrower.values None (null_in new.null some));
        full = λ some. number_out (range round row c).null (narrower.values (Some new.numbers.low) (number_in new.null some, record { above = omega (arith, ints); below = low_high })).0;
        low = λ some. at_most run.head.columns run.query.columns (OfColumn c) (range round row c).numbers.low new.numbers.low narrower.numbers.low;
        high = λ some. at_most run.head.columns run.query.columns (OfColumn c) new.numbers.high (range round row c).numbers.high narrower.numbers.high;
      }

  pub single_at : (round row c : ℕ) → round ≤ length run.reads → row < run.head.rows → IsDone run round → IsSingleRange (range round row c)
  single_at round row c h row_in done = ranges_single (part_of run.query (frame_of run.head)) (stage_at run round).known row (knowledge law run plan is round h) done row_in c

-- ---- the ranges of the cell of a row's key

counts_under : (frame : Frame) (known : Knowledge) (cs : List ℕ) → counts_of_parts (map (part_under frame known) cs) ≡ counts_of known cs
counts_under frame known [] = refl
counts_under frame known (c ∷ cs) = ap (λ l. (known_at known c).read ∷ l) (counts_under frame known cs)

-- the prefixes of a row's key are those of the row
ranges_are : (frame : Frame) (known : Knowledge) (cells : Cells) (row : ℕ) → IsCompletion frame known cells → row < frame.rows → (cs ps : List ℕ) → AllByRecursion (λ c. c < length frame.columns) cs →
    HasPrefixes frame known cs ps (map (row_of frame cells row) cs) → ranges_of_prefixes (map (part_under frame known) cs) ps ≡ map (ranges_of frame known row) cs
ranges_are frame known cells row completion row_in [] [] within h = refl
ranges_are frame known cells row completion row_in [] (p ∷ ps) within h = absurd h
ranges_are frame known cells row completion row_in (c ∷ cs) [] within h = absurd h
ranges_are frame known cells row completion row_in (c ∷ cs) (p ∷ ps) within h =
    let ends = ends_at frame c in
    let read = (known_at known c).read in
    let same : p ≡ prefix_at known c row = sym h.2 ∙ ap (prefix_of ends read) (cell_same ends h.0 (cell_at cells c row) h.1) ∙ completion.agrees c row within.0 row_in in
    ap (λ n. range_of ends read n ∷ ranges_of_prefixes (map (part_under frame known) cs) ps) same
    ∙ ap (λ l. ranges_of frame known row c ∷ l) (ranges_are frame known cells row completion row_in cs ps within.1 h.3)

pub cell_ranges : (frame : Frame) (known : Knowledge) (cells : Cells) (row cell : ℕ) (cs : List ℕ) → IsCompletion frame known cells → row < frame.rows → AllByRecursion (λ c. c < length frame.columns) cs →
    HasPrefixes frame known cs (parts_of (counts_of known cs) cell) (map (row_of frame cells row) cs) → ranges_of_cell (map (part_under frame known) cs) cell ≡ map (ranges_of frame known row) cs
cell_ranges frame known cells row cell cs completion row_in within h =
    ap (λ ks. ranges_of_prefixes (map (part_under frame known) cs) (parts_of ks cell)) (counts_under frame known cs)
    ∙ ranges_are frame known cells row completion row_in cs (parts_of (counts_of known cs) cell) within h
