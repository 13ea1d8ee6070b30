-- A report of rows in an order holds the first rows.
use Rattle.std.proofs.Common.{◌≡◌, ℕ, ◌+◌, ◌<◌, ◌≤◌, nat_abs, Bool, List, ◌++◌, length, refl, ap, subst, ◌∙◌, if◌then◌else◌}
use Rattle.std.specs.List.{flat_map, range_with_len}
use Rattle.command_line.specs.Commands.{Options}
use Rattle.daq_report.specs.Rankings.{is_untold, lists_possible, standing_at, untold_line}
use Rattle.daq_table.specs.declared.table_head.Head.{Head}
use Rattle.query_model.specs.declared.bounds.Standing.{Standing}
use Rattle.query_model.specs.declared.bounds.Standing.TheVariants.{Certain, Excluded, Possible}
use Rattle.sql_headline.proofs.Begun.{Laws}
use Rattle.sql_headline.proofs.Ranked as ranked
use Rattle.sql_headline.proofs.Resulted.{tells_row}
use Rattle.sql_headline.specs.Results.{TellsRow}
use Rattle.sql_headline.specs.Worlds as held
use Rattle.sql_headline.specs.Worlds.{stage_at}
use Rattle.sql_text.specs.Tree as tree
use Rattle.sql_text.specs.Tree.{Name}
use Rattle.sql_text.specs.declared.tree.Num.{Num}
use Rattle.table_rounds.specs.Rounds.{Planes, column_read}
use Rattle.run_headline.specs.Rankings.{HasRows, HoldsRows, HoldsRanking, Place, certain_count, counts_line, line_for, possible_count}
use Rattle.run_headline.specs.Printed.{line_of_round}
use Rattle.run_headline.specs.Readings.{Reading}
use Rattle.run_headline.proofs.Ran as rounds
use Rattle.run_headline.proofs.Ran.{IsRan}

line_is : (list : Bool) (row : ℕ) (text : List ℕ) (standing : Standing) → ranked.line_by list row text standing ≡ line_for list row text standing
line_is list row text Certain = refl
line_is list row text Possible = refl
line_is list row text Excluded = refl

module _ (law : Laws) (q : tree.Query) (head : Head) (bits : Planes) (options : Options) (ran : IsRan q head bits options)
    (key : Name) (down : Bool) (limit : Num) (ordered : q.ending ≡ tree.Ordered key down limit) where
  abbrev run : held.Run
  run = rounds.run law q head bits options ran

  abbrev reading : Reading
  reading = rounds.reading law q head bits options ran

  abbrev places : ℕ → ℕ → Place
  places round row = record {
    standing = standing_at (stage_at run round) row;
    key = ranked.interval law run ran.plan (rounds.sure law q head bits options ran) key down limit ordered round row;
  }

  within : (round : ℕ) → round ≤ length reading.columns → round ≤ length ran.reads
  within round h = subst (λ n. round ≤ n) (rounds.as_long law q head bits options ran) h

  row_told : (row : ℕ) → row < head.rows → TellsRow run key down limit row
  row_told row row_in = tells_row law run ran.plan (rounds.sure law q head bits options ran) key down limit row ordered row_in

  holds : HoldsRows reading key down limit places
  holds = record {
    certain = λ round row row_in word world is_world. (row_told row row_in).certain round (within round is_world.within) word world (rounds.world_is law q head bits options ran round world is_world);
    excluded = λ round row row_in word world is_world. (row_told row row_in).excluded round (within round is_world.within) word world (rounds.world_is law q head bits options ran round world is_world);
    stays = λ round row h row_in.
        ranked.stays law run ran.plan (rounds.sure law q head bits options ran) key down limit ordered round row (subst (λ n. round < n) (rounds.as_long law q head bits options ran) h) row_in;
    lies = λ round row row_in world is_world.
        ranked.lies_there law run ran.plan (rounds.sure law q head bits options ran) key down limit ordered round row (within round is_world.within) row_in world
        (rounds.world_is law q head bits options ran round world is_world);
    narrows = λ round row h row_in.
        ranked.narrows law run ran.plan (rounds.sure law q head bits options ran) key down limit ordered round row (subst (λ n. round < n) (rounds.as_long law q head bits options ran) h) row_in;
    alone = λ round row row_in all world is_world.
        ranked.alone_there law run ran.plan (rounds.sure law q head bits options ran) key down limit ordered round row (within round is_world.within) row_in (rounds.done_is law q head bits options ran round all) world
        (rounds.world_is law q head bits options ran round world is_world);
    exact = λ round row h row_in all. (row_told row row_in).exact round (within round h) (rounds.done_is law q head bits options ran round all);
  }

  abbrev texts : ℕ → ℕ → List ℕ
  texts round row = ranked.text law run ran.plan (rounds.sure law q head bits options ran) key down limit ordered round row

  abbrev list : Bool
  list = lists_possible ran.plan.listing

  -- what is told of the rows, by their lines
  abbrev told_by : ℕ → List ℕ → List ℕ
  told_by round lines =
      let standings = standing_at (stage_at run round) in
      if is_untold ran.plan.listing (certain_count head.rows standings + possible_count head.rows standings) then untold_line (nat_abs limit.units)
      else (counts_line limit head.rows standings ++ lines)

  has_rows : (round : ℕ) → HasRows reading ran.plan.listing limit round (places round) (rounds.block law q head bits options ran round)
  has_rows round = record {
    texts = texts round;
    shown = ranked.shown law run ran.plan (rounds.sure law q head bits options ran) key down limit ordered round;
    is = rounds.block_is law q head bits options ran round
        ∙ ranked.block_is law run ran.plan (rounds.sure law q head bits options ran) key down limit ordered ran.plan.listing ran.plan.extras round (column_read ran.reads round)
        ∙ ap (λ l. l ++ told_by round (flat_map (λ row. ranked.line_by list row (texts round row) (standing_at (stage_at run round) row)) (range_with_len 0 head.rows)))
        (rounds.line_is law q head bits options ran round)
        ∙ ap (λ l. line_of_round reading round ++ told_by round l)
        (ranked.flat_same (λ row. ranked.line_by list row (texts round row) (standing_at (stage_at run round) row)) (λ row. line_for list row (texts round row) (standing_at (stage_at run round) row))
        (λ row. line_is list row (texts round row) (standing_at (stage_at run round) row)) (range_with_len 0 head.rows));
  }

  pub told : HoldsRanking reading options.listing key down limit (rounds.block law q head bits options ran)
  told = record {
    places = places;
    shown = λ round. subst (λ listing. HasRows reading listing limit round (places round) (rounds.block law q head bits options ran round)) ran.listing (has_rows round);
    holds = holds;
  }
