-- A report of groups holds the groups.
use Rattle.std.proofs.Common.{◌≡◌, ℕ, zero, suc, ◌+◌, ◌<◌, ◌≤◌, ◌==◌, cond, List, [], ◌∷◌, ◌++◌, length, take, ap, subst, ◌∙◌, arith, count_by}
use Rattle.std.proofs.lemmas.List.Sums.{sum_by-cons}
use Rattle.std.specs.List.{AllZip}
use Rattle.command_line.specs.Commands.{Options}
use Rattle.daq_table.specs.Tables.{Cells}
use Rattle.daq_table.specs.declared.table_head.Head.{Head}
use Rattle.sql_headline.proofs.Begun.{Laws}
use Rattle.sql_headline.proofs.Grouped as grouping
use Rattle.sql_headline.proofs.LeftOpen.{left_open}
use Rattle.sql_headline.proofs.Tight.{IsSpanReached}
use Rattle.sql_headline.specs.Sections.{Section}
use Rattle.sql_headline.specs.Spans.{Span}
use Rattle.sql_headline.specs.Worlds as held
use Rattle.sql_meaning.specs.Answers.{asked}
use Rattle.sql_meaning.specs.Attained.{AttainsEnds}
use Rattle.sql_meaning.specs.Conditions.{Row}
use Rattle.sql_meaning.specs.Rows.{row_at}
use Rattle.sql_text.specs.Tree as tree
use Rattle.sql_text.specs.Tree.{Item, Name}
use Rattle.table_rounds.specs.Rounds.{Planes, column_read}
use Rattle.run_headline.specs.Answers.{IsTightSpan}
use Rattle.run_headline.specs.Groups.{HasSections, HoldsGroups, HoldsSections}
use Rattle.run_headline.specs.Readings.{IsWorld, Reading, count_read}
use Rattle.run_headline.proofs.Ran as rounds
use Rattle.run_headline.proofs.Ran.{IsRan}
use Rattle.run_headline.proofs.Tight.{tight}

-- ---- worlds of the round before

one_first : (c : ℕ) (n : ℕ) (xs : List ℕ) → count_by (λ d. d == c) (take n xs) ≤ count_by (λ d. d == c) (take (suc n) xs)
one_first c n [] = by n
  where
    by : (n : ℕ) → count_by (λ d. d == c) (take n []) ≤ count_by (λ d. d == c) (take (suc n) [])
    by zero = omega arith
    by (suc n) = omega arith
one_first c zero (x ∷ xs) = omega arith
one_first c (suc n) (x ∷ xs) =
    let a = sum_by-cons (λ d. cond (d == c) 1 0) x (take n xs) in
    let b = sum_by-cons (λ d. cond (d == c) 1 0) x (take (suc n) xs) in
    let rest = one_first c n xs in
    omega (arith, a, b, rest)

pub world_before : (reading : Reading) (round : ℕ) (world : Cells) → IsWorld reading (round + 1) world → IsWorld reading round world
world_before reading round world is =
    let next : suc round ≡ round + 1 = omega arith in
    let in_time = is.within in
    record {
      within = omega (arith, in_time);
      table = is.table;
      same = λ column number lt.
          let few : count_read reading round column ≤ count_read reading (round + 1) column = subst (λ n. count_read reading round column ≤ count_read reading n column) next (one_first column round reading.columns) in
          is.same column number (omega (arith, lt, few));
      has_values = is.has_values;
    }

-- ---- the report

module _ (law : Laws) (q : tree.Query) (head : Head) (bits : Planes) (options : Options) (ran : IsRan q head bits options) (names : List Name) (grouped : q.ending ≡ tree.Grouped names) where
  abbrev run : held.Run
  run = rounds.run law q head bits options ran

  abbrev reading : Reading
  reading = rounds.reading law q head bits options ran

  abbrev sections : ℕ → List Section
  sections round = grouping.sections_at law run ran.plan (rounds.sure law q head bits options ran) names grouped round

  within : (round : ℕ) → round ≤ length reading.columns → round ≤ length ran.reads
  within round h = subst (λ n. round ≤ n) (rounds.as_long law q head bits options ran) h

  world_is : (round : ℕ) (world : Cells) → IsWorld reading round world → held.IsWorld run round world
  world_is round world is = rounds.world_is law q head bits options ran round world is

  each_tight : (round : ℕ) → round ≤ length ran.reads → (one : Row) (spans : List Span) (items : List Item) → AllZip (λ span item. AttainsEnds head q item → IsSpanReached run round item one span) spans items
      → AllZip (λ span item. AttainsEnds head q item → IsTightSpan reading round item one span) spans items
  each_tight round h one [] [] each = tt
  each_tight round h one [] (item ∷ items) each = absurd each
  each_tight round h one (span ∷ spans) [] each = absurd each
  each_tight round h one (span ∷ spans) (item ∷ items) each = ((λ attains. tight law q head bits options ran round h item one span (each.0 attains)), each_tight round h one spans items each.1)

  holds : HoldsGroups reading sections
  holds = record {
    each = λ round world row is_world counts.
        let found = grouping.each law run ran.plan (rounds.sure law q head bits options ran) names grouped round (within round is_world.within) world (world_is round world is_world) row counts.within counts.counts in
        (found.0, record { within = counts.within; there = found.1; key = found.2 });
    present = λ round section has is_present world is_world.
        let found = grouping.present law run ran.plan (rounds.sure law q head bits options ran) names grouped round (within round is_world.within) world (world_is round world is_world) section has is_present in
        (found.0, record { within = found.1; counts = found.2 }, record { within = found.1; there = has; key = found.3 });
    possible = λ round world row is_world section for word once texts.
        let two = left_open law run ran.plan (rounds.sure law q head bits options ran) names grouped round (within round is_world.within) world (world_is round world is_world) row for.within texts once section for.there for.key word in (
          (
            two.0.0,
            rounds.world_back law q head bits options ran round (within round is_world.within) two.0.0 two.0.1,
            record { row = two.0.2.row; in_result = record { within = two.0.2.within; counts = two.0.2.counts }; same = two.0.2.same },
          ),
          (
            two.1.0,
            rounds.world_back law q head bits options ran round (within round is_world.within) two.1.0 two.1.1,
            λ has. two.1.2 (record { row = has.row; within = has.in_result.within; counts = has.in_result.counts; same = has.same }),
          ),
        );
    lies = λ round world row is_world section for.
        grouping.holds law run ran.plan (rounds.sure law q head bits options ran) names grouped round (within round is_world.within) world (world_is round world is_world) row for.within section for.there for.key;
    tight = λ round world row is_world section for texts.
        each_tight round (within round is_world.within) (row_at head world row) section.spans (asked q.head)
        (grouping.tight law run ran.plan (rounds.sure law q head bits options ran) names grouped round (within round is_world.within) world (world_is round world is_world) row for.within texts section for.there for.key);
    narrows = λ round world row is_world old new for_old for_new.
        let before : round < length ran.reads = subst (λ n. round < n) (rounds.as_long law q head bits options ran) (let in_time = is_world.within in omega (arith, in_time)) in
        let old_world = world_is round world (world_before reading round world is_world) in
        let new_world = world_is (round + 1) world is_world in (
          grouping.parts_narrow law run ran.plan (rounds.sure law q head bits options ran) names grouped round before world old_world new_world row for_old.within old new for_old.there for_new.there for_old.key for_new.key,
          grouping.narrows law run ran.plan (rounds.sure law q head bits options ran) names grouped round before world old_world new_world row for_old.within old new for_old.there for_new.there for_old.key for_new.key,
        );
    exact = λ round all world row is_world section for.
        let done = rounds.done_is law q head bits options ran round all in
        let is = grouping.is_it law run ran.plan (rounds.sure law q head bits options ran) names grouped round (within round is_world.within) world (world_is round world is_world) row for.within done section for.there for.key in (
          is.0,
          grouping.parts_alone law run ran.plan (rounds.sure law q head bits options ran) names grouped round (within round is_world.within) world (world_is round world is_world) row for.within done section for.there for.key,
          is.1,
        );
  }

  has_sections : (round : ℕ) → HasSections reading round (sections round) (rounds.block law q head bits options ran round)
  has_sections round =
      let own = grouping.block_is law run ran.plan (rounds.sure law q head bits options ran) names grouped ran.plan.listing ran.plan.extras round (column_read ran.reads round) in
      record {
        text = own.0;
        are = own.2;
        is = rounds.block_is law q head bits options ran round ∙ own.1 ∙ ap (λ l. l ++ own.0) (rounds.line_is law q head bits options ran round);
      }

  pub told : HoldsSections reading (rounds.block law q head bits options ran)
  told = record { sections = sections; shown = has_sections; holds = holds }
