-- A run of rows in an order: the lines of its blocks, and where the values of the rows lie.
use Rattle.std.proofs.Common.{◌≡◌, ℕ, ◌+◌, ◌<◌, ◌≤◌, nat_abs, Bool, List, [], ◌∷◌, ◌++◌, length, Option, refl, sym, ap, subst, ◌∙◌, if◌then◌else◌}
use Rattle.std.proofs.lemmas.Option.{slice_get_within}
use Rattle.std.specs.List.{AllByRecursion, flat_map, range_with_len}
use Rattle.std.specs.Prelude.{codes}
use Rattle.daq_report.specs.Blocks.{block_text, form_text, round_line}
use Rattle.daq_report.specs.Intervals.{bound_text}
use Rattle.daq_report.specs.Rankings.{bound_of_range, certain_count, is_untold, lists_possible, possible_count, row_start, row_text, standing_at, top_line, untold_line}
use Rattle.daq_table.specs.Tables.{Cells}
use Rattle.plane_schedule.specs.declared.policy.Extras.{Extras}
use Rattle.plane_schedule.specs.declared.policy.Listing.{Listing}
use Rattle.plane_schedule.specs.declared.policy.Plan.{Plan}
use Rattle.query_model.specs.Knowledge.{ranges_of}
use Rattle.query_model.specs.Queries.{Query}
use Rattle.query_model.specs.Ranking.{StandingKept}
use Rattle.query_model.specs.Validity.{IsTop}
use Rattle.query_model.specs.Truths.{Range}
use Rattle.query_model.specs.declared.bounds.Standing.{Standing}
use Rattle.query_model.specs.declared.bounds.Standing.TheVariants.{Certain, Excluded, Possible}
use Rattle.query_model.specs.declared.query.Face.TheVariants.{OfColumn}
use Rattle.query_model.specs.declared.query.Shape.{Shape}
use Rattle.query_model.specs.declared.query.Shape.TheVariants.{Top}
use Rattle.sql_text.specs.Tree as tree
use Rattle.sql_text.specs.Tree.{Name}
use Rattle.sql_text.specs.declared.tree.Num.{Num}
use Rattle.sql_typing.specs.Names.{names_in, names_in_ending, names_in_filter, names_in_head, number_of}
use Rattle.sql_typing.specs.Typing.{columns_of, typed_ending}
use Rattle.sql_typing.proofs.Alls.{all_right}
use Rattle.sql_meaning.specs.Rows.{row_at}
use Rattle.sql_headline.specs.Intervals.{Encloses, Interval, IsAlone, LiesInside, Shows}
use Rattle.sql_headline.specs.Worlds.{IsDone, IsWorld, Run, stage_at}
use Rattle.sql_headline.proofs.Begun.{IsSure, Laws, agrees, certain}
use Rattle.sql_headline.proofs.Ends.{interval_of}
use Rattle.sql_headline.proofs.GroupParts.{is_alone, lies}
use Rattle.sql_meaning.proofs.Names.{IsKnown, IsShownIn, all_known, names_shown}
use Rattle.sql_headline.proofs.Ranges.{narrows_at, single_at}
use Rattle.sql_headline.proofs.Shown.{shown_interval}

-- ---- lines

-- the row, counted from 1, its standing, and its value
abbrev pub line_with : List ℕ → ℕ → List ℕ → List ℕ
line_with standing row text = row_start standing row ++ (text ++ codes "\n")

abbrev pub line_by : Bool → ℕ → List ℕ → Standing → List ℕ
line_by list row text Certain = line_with (codes " certain ") row text
line_by list row text Possible = if list then line_with (codes " possible ") row text else []
line_by list row text Excluded = []

pub flat_same : {X A : Type 0} (f g : X → List A) → ((x : X) → f x ≡ g x) → (xs : List X) → flat_map f xs ≡ flat_map g xs
flat_same f g each [] = refl
flat_same f g each (x ∷ xs) = ap (λ l. l ++ flat_map f xs) (each x) ∙ ap (λ l. g x ++ l) (flat_same f g each xs)

module _ (law : Laws) (run : Run) (plan : Plan) (is : IsSure run plan) (key : Name) (down : Bool) (limit : Num) (ordered : run.text.ending ≡ tree.Ordered key down limit) where
  abbrev number : ℕ
  number = number_of run.head.columns run.query.columns key.name

  shape_is : run.query.shape ≡ Top number down (nat_abs limit.units)
  shape_is =
      ap (λ (w : Query). w.shape) is.typed.same ∙ ap (typed_ending run.head.columns (columns_of run.head.columns run.text)) ordered
      ∙ ap (λ cs. Top (number_of run.head.columns cs key.name) down (nat_abs limit.units)) (sym (ap (λ (w : Query). w.columns) is.typed.same))

  of_key : (P : Name → Type 0) → AllByRecursion P (names_in run.text) → P key
  of_key P h = (subst (λ e. AllByRecursion P (names_in_ending e)) ordered (all_right P (names_in_head run.text.head ++ names_in_filter run.text.pred) (names_in_ending run.text.ending) h)).0

  known : IsKnown run.head.columns run.query.columns key
  known = of_key (IsKnown run.head.columns run.query.columns) (all_known run.text run.head run.query is.typed)

  inside : number < length run.query.columns
  inside = slice_get_within run.query.columns number known.place known.number

  abbrev range : ℕ → ℕ → Range
  range round row = ranges_of (stage_at run round).frame (stage_at run round).known row number

  -- where the value of a row lies, and its text
  abbrev pub interval : ℕ → ℕ → Interval
  interval round row = interval_of run.head.columns run.query.columns (OfColumn number) (bound_of_range (range round row))

  abbrev pub text : ℕ → ℕ → List ℕ
  text round row = bound_text run.head run.query (OfColumn number) (bound_of_range (range round row))

  pub shown : (round row : ℕ) → Shows (interval round row) (text round row)
  shown round row = shown_interval run.head run.query (OfColumn number) (bound_of_range (range round row))

  line_is : (list : Bool) (round row : ℕ) (standing : Standing) → row_text run.head (stage_at run round) number list row standing ≡ line_by list row (text round row) standing
  line_is list round row Certain = refl
  line_is list round row Possible = refl
  line_is list round row Excluded = refl

  -- where so many rows are not told a line says so, else their numbers stand before their lines
  abbrev pub told_text : Listing → ℕ → List ℕ
  told_text listing round =
      let stage = stage_at run round in
      if is_untold listing (certain_count stage + possible_count stage) then untold_line (nat_abs limit.units)
      else top_line stage (nat_abs limit.units)
      ++ flat_map (λ row. line_by (lists_possible listing) row (text round row) (standing_at stage row)) (range_with_len 0 run.head.rows)

  pub block_is : (listing : Listing) (extras : Extras) (round : ℕ) (last : Option ℕ) →
      block_text run.head listing extras (stage_at run round) round last
      ≡ round_line run.head (stage_at run round) round last ++ told_text listing round
  block_is listing extras round last =
      let stage = stage_at run round in
      let list = lists_possible listing in
      ap (λ (s : Shape). round_line run.head stage round last ++ form_text run.head listing extras stage s) shape_is
      ∙ ap (λ l. round_line run.head stage round last ++ (if is_untold listing (certain_count stage + possible_count stage)
      then untold_line (nat_abs limit.units) else top_line stage (nat_abs limit.units) ++ l))
      (flat_same (λ row. row_text run.head stage number list row (standing_at stage row)) (λ row. line_by list row (text round row) (standing_at stage row))
      (λ row. line_is list round row (standing_at stage row)) (range_with_len 0 run.head.rows))

  -- certain and excluded rows stay so
  pub stays : (round row : ℕ) → round < length run.reads → row < run.head.rows → StandingKept (standing_at (stage_at run round) row) (standing_at (stage_at run (round + 1)) row)
  stays round row h row_in = (certain law run plan is).kept (subst IsTop (sym shape_is) tt) round h row row_in

  -- ---- values

  -- the value of a row lies in its interval, in each world
  pub lies_there : (round row : ℕ) → round ≤ length run.reads → row < run.head.rows → (world : Cells) → IsWorld run round world → Encloses (interval round row) (row_at run.head world row key.name)
  lies_there round row h row_in world is_world =
      lies run.head.columns run.query.columns number (range round row) _ (row_at run.head world row key.name)
      (of_key (IsShownIn run.query run.head world row) (names_shown run.text run.head world row row_in run.query is.typed is_world.has_values))
      ((certain law run plan is).values round h row number row_in inside world (agrees law run plan is round h world is_world))

  -- with all planes read it is that value alone
  pub alone_there : (round row : ℕ) → round ≤ length run.reads → row < run.head.rows → IsDone run round → (world : Cells) → IsWorld run round world → IsAlone (interval round row) (row_at run.head world row key.name)
  alone_there round row h row_in done world is_world =
      is_alone run.head.columns run.query.columns number (range round row) _ (row_at run.head world row key.name)
      (single_at law run plan is round row number h row_in done)
      (of_key (IsShownIn run.query run.head world row) (names_shown run.text run.head world row row_in run.query is.typed is_world.has_values))
      ((certain law run plan is).values round h row number row_in inside world (agrees law run plan is round h world is_world))

  pub narrows : (round row : ℕ) → round < length run.reads → row < run.head.rows → LiesInside (interval round row) (interval (round + 1) row)
  narrows round row h row_in = narrows_at law run plan is round row number h row_in inside
