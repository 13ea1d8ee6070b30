-- Where the query attains the ends of an average, each end of the exact one is the average in some world.
use Rattle.std.proofs.Common.{◌≡◌, ℕ, ◌≤◌, ℤ, List, [], length, Option, Some, None, IsTrue, refl, sym, ap, subst, ◌∙◌}
use Rattle.std.specs.List.{filter_map}
use Rattle.std.specs.Option.{option_map}
use Rattle.avg_exact.specs.Promises.{IsCertainExact}
use Rattle.command_line.specs.Commands.{Options}
use Rattle.daq_table.specs.Tables.{Cells, frame_of}
use Rattle.daq_table.specs.declared.table_head.Head.{Head}
use Rattle.interval_calc.specs.Intervals.{Fraction}
use Rattle.query_model.specs.Bounds.{IsExtremesAverage, Occurs, WordIsRight}
use Rattle.query_model.specs.Queries.{Aggregate}
use Rattle.query_model.specs.Worlds.{AgreesWith, average_on}
use Rattle.query_model.specs.declared.query.Face.TheVariants as faces
use Rattle.query_model.specs.declared.query.Shape.TheVariants.{Plain}
use Rattle.sql_headline.proofs.Averaged as averaged
use Rattle.sql_headline.proofs.Averaged.{share_of}
use Rattle.sql_headline.proofs.Begun.{IsSure, Laws}
use Rattle.sql_headline.proofs.Retold.{exact_ends, exact_span}
use Rattle.sql_headline.proofs.Sectioned.{places_of}
use Rattle.sql_headline.proofs.Worlds.{has_planes, has_values}
use Rattle.sql_headline.specs.Headline.{rows_in}
use Rattle.sql_headline.specs.Intervals.{IsSameShare}
use Rattle.sql_headline.specs.Worlds as held
use Rattle.sql_headline.specs.Worlds.{IsGroupOf, stage_at}
use Rattle.sql_meaning.specs.Answers.{Share, average, is_same}
use Rattle.sql_meaning.specs.Attained.{AttainsEnds, HasTexts}
use Rattle.sql_meaning.specs.Expressions.{value}
use Rattle.sql_meaning.specs.Laws.{IsAsked, IsAverage}
use Rattle.sql_meaning.specs.Rows.{shown}
use Rattle.sql_meaning.specs.Values.{Number, Value}
use Rattle.sql_meaning.proofs.Attained.{attains_ends}
use Rattle.sql_meaning.proofs.Shares.{sum_is}
use Rattle.sql_text.specs.declared.tree.CallKind.TheVariants as calls
use Rattle.sql_text.specs.Tree as tree
use Rattle.table_rounds.specs.Headline.{IsKeyOn}
use Rattle.table_rounds.specs.Rounds.{Planes}
use Rattle.run_headline.specs.Answers.{IsTightAverage, OccursShare}
use Rattle.run_headline.specs.Readings.{IsWorld}
use Rattle.run_headline.proofs.Ran as rounds
use Rattle.run_headline.proofs.Ran.{IsRan}

module _ (law : Laws) (q : tree.Query) (head : Head) (bits : Planes) (options : Options) (ran : IsRan q head bits options) (on : IsKeyOn ran.query (frame_of head) []) (shape : ran.query.shape ≡ Plain)
    (groups : (world : Cells) → IsGroupOf (rounds.run law q head bits options ran) world [] 0) (e : tree.Expr) (t : Aggregate) (asked : IsAsked q ran.query (tree.Call calls.Avg e) t)
    (texts : HasTexts head) (round : ℕ) (h : round ≤ length ran.reads) where
  abbrev run : held.Run
  run = rounds.run law q head bits options ran

  sure : IsSure run ran.plan
  sure = rounds.sure law q head bits options ran

  abbrev Agrees : Cells → Type 0
  Agrees = AgreesWith ran.query (frame_of head) (stage_at run round).known

  abbrev summed : Cells → Option (ℤ × ℕ)
  summed = average_on ran.query t [] (frame_of head)

  abbrev values_in : Cells → List Value
  values_in world = filter_map (value e) (rows_in run world 0)

  abbrev scale : ℕ
  scale = averaged.scale law run ran.plan sure e t [] asked on

  places : ◌≡◌ {A = ℕ} scale (places_of t.face)
  places = ap places_of (sym (averaged.face_is law run ran.plan sure e t [] asked on))

  world_of : (world : Cells) → Agrees world → held.IsWorld run round world
  world_of world agrees = record { has_planes = has_planes law run ran.plan sure round h world agrees; has_values = has_values head world texts agrees.table }

  meant_there : (a : Option (ℤ × ℕ)) (occurs : Occurs Agrees summed a) → IsAverage (shown head.columns ran.query.columns (faces.Number scale)) a (values_in occurs.0)
  meant_there a occurs =
      subst (λ o. IsAverage (shown head.columns ran.query.columns (faces.Number scale)) o (values_in occurs.0)) occurs.2
      (averaged.meant law run ran.plan sure e t [] asked on round occurs.0 0 (world_of occurs.0 occurs.1) (groups occurs.0))

  end_reached : (end : Fraction) → Occurs Agrees summed (Some (end.num, end.den)) → OccursShare (rounds.reading law q head bits options ran) round e (share_of (places_of t.face) end)
  end_reached end occurs =
      let meant = meant_there (Some (end.num, end.den)) occurs in
      let sum = sum_is head.columns ran.query.columns scale end.num end.den (values_in occurs.0) meant in
      let found : Share = record { total = Number sum.decimal; count = end.den } in
      let total_is : IsTrue (is_same (Some (Number (record { digits = end.num; behind = scale }))) (Some (Number sum.decimal))) =
      subst (λ o. IsTrue (is_same (Some (Number (record { digits = end.num; behind = scale }))) o)) sum.same meant.0 in
      record {
        world = occurs.0;
        is_world = rounds.world_back law q head bits options ran round h occurs.0 (world_of occurs.0 occurs.1);
        found = found;
        is = ap (option_map (λ v. record { total = v; count = length (values_in occurs.0) })) sum.same ∙ ap (λ (n : ℕ). Some (record { total = Number sum.decimal; count = n })) (sym meant.1);
        same = subst (λ s. IsSameShare (share_of s end) found) places (total_is, refl);
      }

  abbrev certain : IsCertainExact (stage_at run round) t (frame_of head)
  certain = ran.certain.averages round h asked.place t (record { plain = shape; there = asked.in_query; average = averaged.kind_is law run ran.plan sure e t [] asked on })

  pub averages_reached : AttainsEnds head q (tree.Call calls.Avg e) → IsTightAverage (rounds.reading law q head bits options ran) round e (exact_span run t round)
  averages_reached attains =
      let ends : IsExtremesAverage Agrees summed (exact_ends run t round) = certain.tight (attains_ends q head ran.query ran.typed (tree.Call calls.Avg e) t asked attains) in
      record {
        low = λ some. end_reached (exact_ends run t round).lo (ends.lo some);
        high = λ some. end_reached (exact_ends run t round).hi (ends.hi some);
        null = λ possible. none_reached (subst (λ n. WordIsRight Agrees summed n) possible ends.null);
      }
    where
      none_reached : Occurs Agrees summed None → (world : Cells) × IsWorld (rounds.reading law q head bits options ran) round world × (average (values_in world) ≡ None)
      none_reached occurs = (occurs.0, rounds.world_back law q head bits options ran round h occurs.0 (world_of occurs.0 occurs.1), ap average (meant_there None occurs))
