-- The intervals of averages of a run hold the averages.
use Rattle.std.proofs.Common.{◌≡◌, ◌≢◌, ℕ, ◌+◌, ◌≤◌, ◌==◌, ℤ, true, List, length, Option, Some, None, inl, inr, refl, sym, ap, subst, ◌∙◌, IsTrue, slice_get}
use Rattle.std.proofs.lemmas.Bool.Decides.{Decides-eqb, Decides-int_eq}
use Rattle.std.proofs.lemmas.Option.{same_Some}
use Rattle.std.specs.List.{filter_map}
use Rattle.std.specs.Ordering.{int_eq}
use Rattle.interval_calc.specs.Intervals.{Fraction}
use Rattle.daq_table.specs.Tables.{Cells, frame_of}
use Rattle.daq_table.specs.declared.head.ColumnHead.{ColumnHead}
use Rattle.daq_table.specs.declared.table_head.Head.{Head}
use Rattle.daq_report.specs.Intervals.{average_text, is_same_fraction}
use Rattle.plane_schedule.specs.declared.policy.Plan.{Plan}
use Rattle.query_model.specs.Answers.{Key}
use Rattle.query_model.specs.Bounds.{AdmitsAverage, AverageBound, IsNestedAverage, average_under}
use Rattle.query_model.specs.Queries.{Aggregate, Query}
use Rattle.query_model.specs.Worlds.{average_on}
use Rattle.query_model.specs.declared.bounds.Nullity.TheVariants.{Always, Possibly}
use Rattle.query_model.specs.declared.query.Face.{Face}
use Rattle.query_model.specs.declared.query.Face.TheVariants as faces
use Rattle.query_model.specs.declared.query.ItemKind.TheVariants as kinds
use Rattle.round_engine.specs.Cells.{average_in_cell}
use Rattle.round_engine.specs.Promises.{IsCertainAverage}
use Rattle.sql_text.specs.declared.tree.CallKind.TheVariants as calls
use Rattle.sql_text.specs.Tree as tree
use Rattle.sql_typing.specs.Typing.{scale_of}
use Rattle.sql_typing.proofs.Comparisons.{and_left, and_right}
use Rattle.sql_meaning.specs.Values.{Value, Number}
use Rattle.sql_meaning.specs.Expressions.{value}
use Rattle.sql_meaning.specs.Answers.{Share, average, is_same}
use Rattle.sql_meaning.specs.Rows.{shown}
use Rattle.sql_meaning.specs.Laws.{IsAsked, IsAverage}
use Rattle.sql_meaning.proofs.Answered.{averages_mean}
use Rattle.sql_meaning.proofs.Decimals.{itself}
use Rattle.sql_meaning.proofs.Shares.{average_face, average_kind, shares_ordered, sum_is}
use Rattle.table_rounds.specs.Headline.{IsKeyOn}
use Rattle.sql_headline.specs.Intervals.{EnclosesShare, IsSameShare, IsShareAlone, ShareLiesInside, Shares, ShowsShares}
use Rattle.sql_headline.specs.Lines.{IsAverageShownFor}
use Rattle.sql_headline.specs.Worlds.{IsGroupOf, IsWorld, Run, stage_at}
use Rattle.sql_headline.specs.Headline.{HoldsAverages, IntervalsHoldAverages, rows_in}
use Rattle.sql_headline.proofs.Begun.{IsSure, Laws, agrees, certain, no_parts, own_cell, sure}
use Rattle.sql_headline.proofs.Ends.{always, never}

-- numbers of so many decimals over counts, as values over counts
abbrev pub share_of : ℕ → Fraction → Share
share_of s ratio = record { total = Number (record { digits = ratio.num; behind = s }); count = ratio.den }

abbrev pub shares_of : ℕ → AverageBound → Shares
shares_of s bound = record { null = bound.null; low = share_of s bound.lo; high = share_of s bound.hi }

pub one_share : (s : ℕ) (a b : Fraction) → is_same_fraction a b ≡ true → share_of s a ≡ share_of s b
one_share s a b h =
    let num : a.num ≡ b.num = (Decides-int_eq a.num b.num).0 (and_left (int_eq a.num b.num) (a.den == b.den) h) in
    let den : a.den ≡ b.den = (Decides-eqb a.den b.den).0 (and_right (int_eq a.num b.num) (a.den == b.den) h) in
    ap (λ n. share_of s (record { num = n; den = a.den })) num ∙ ap (λ d. share_of s (record { num = b.num; den = d })) den

pub shown_shares : (head : Head) (query : Query) (s : ℕ) (bound : AverageBound) → ShowsShares (shares_of s bound) (average_text head query (faces.Number s) bound)
shown_shares head query s bound = record { are_one = is_same_fraction bound.lo bound.hi; one = one_share s bound.lo bound.hi; written = refl }

pub inside : (s : ℕ) (old new : AverageBound) → IsNestedAverage old new → ShareLiesInside (shares_of s old) (shares_of s new)
inside s old new nested = record {
  null = nested.null;
  full = nested.full;
  low = λ h. shares_ordered s old.lo.num new.lo.num (record { digits = old.lo.num; behind = s }) (record { digits = new.lo.num; behind = s }) old.lo.den new.lo.den (itself s old.lo.num) (itself s new.lo.num) (nested.lo h);
  high = λ h. shares_ordered s new.hi.num old.hi.num (record { digits = new.hi.num; behind = s }) (record { digits = old.hi.num; behind = s }) new.hi.den old.hi.den (itself s new.hi.num) (itself s old.hi.num) (nested.hi h);
}

module _ (table : List ColumnHead) (columns : List ℕ) (s : ℕ) (bound : AverageBound) where
  pub enclosed : (o : Option (ℤ × ℕ)) (values : List Value) → IsAverage (shown table columns (faces.Number s)) o values → AdmitsAverage bound o → EnclosesShare (shares_of s bound) (average values)
  enclosed None values is h = rw is h
  enclosed (Some (sum, count)) values is h =
      let found = sum_is table columns s sum count values is in
      rw (found.same, sym is.1) (
        h.0,
        shares_ordered s bound.lo.num sum (record { digits = bound.lo.num; behind = s }) found.decimal bound.lo.den count (itself s bound.lo.num) found.stands h.1,
        shares_ordered s sum bound.hi.num found.decimal (record { digits = bound.hi.num; behind = s }) count bound.hi.den found.stands (itself s bound.hi.num) h.2,
      )

  same_share : (sum : ℤ) (count : ℕ) (end : Fraction) (v : Value) → ◌≡◌ {A = Option (ℤ × ℕ)} (Some (sum, count)) (Some (end.num, end.den)) → IsTrue (is_same (Some (Number (record { digits = sum; behind = s }))) (Some v))
      → IsSameShare (share_of s end) (record { total = v; count = count })
  same_share sum count end v e h =
      let pair : ◌≡◌ {A = ℤ × ℕ} (sum, count) (end.num, end.den) = same_Some {A = ℤ × ℕ} (sum, count) (end.num, end.den) e in
      (subst (λ (n : ℤ). IsTrue (is_same (Some (Number (record { digits = n; behind = s }))) (Some v))) (ap (λ (p : ℤ × ℕ). p.0) pair) h, sym (ap (λ (p : ℤ × ℕ). p.1) pair))

  pub alone : (o : Option (ℤ × ℕ)) (values : List Value) → IsAverage (shown table columns (faces.Number s)) o values → AdmitsAverage bound o → bound.null ≢ Possibly
      → (bound.null ≢ Always → (o ≡ Some (bound.lo.num, bound.lo.den)) × (o ≡ Some (bound.hi.num, bound.hi.den))) → IsShareAlone (shares_of s bound) (average values)
  alone None values is h told ends = rw is (always bound.null told h)
  alone (Some (sum, count)) values is h told ends =
      let found = sum_is table columns s sum count values is in
      let e = ends h.0 in
      let total_is : IsTrue (is_same (Some (Number (record { digits = sum; behind = s }))) (Some (Number found.decimal))) = subst (λ o. IsTrue (is_same (Some (Number (record { digits = sum; behind = s }))) o)) found.same is.0 in
      rw (found.same, sym is.1) (
        never bound.null told h.0,
        same_share sum count bound.lo (Number found.decimal) e.0 total_is,
        same_share sum count bound.hi (Number found.decimal) e.1 total_is,
      )

module _ (law : Laws) (run : Run) (plan : Plan) (is : IsSure run plan) (e : tree.Expr) (typed : Aggregate) (key : Key) (asked : IsAsked run.text run.query (tree.Call calls.Avg e) typed)
    (on : IsKeyOn run.query (frame_of run.head) key) where
  abbrev pub scale : ℕ
  scale = scale_of run.head.columns e

  pub face_is : typed.face ≡ faces.Number scale
  face_is = average_face run.text run.head run.query e typed is.typed asked

  pub kind_is : typed.kind ≡ kinds.Avg
  kind_is = average_kind run.text run.head run.query e typed is.typed asked

  there : slice_get run.query.items asked.place ≡ Some typed
  there = asked.in_query

  abbrev pub bound : ℕ → AverageBound
  bound round = average_under run.query typed key (stage_at run round).frame (stage_at run round).known

  pub is_certain : (round : ℕ) → round ≤ length run.reads → IsCertainAverage (stage_at run round) typed key (frame_of run.head)
  is_certain round h = ((certain law run plan is).certain round h key on asked.place typed there).average kind_is

  pub meant : (round : ℕ) (world : Cells) (one : ℕ) → IsWorld run round world → IsGroupOf run world key one
      → IsAverage (shown run.head.columns run.query.columns (faces.Number scale)) (average_on run.query typed key (frame_of run.head) world) (filter_map (value e) (rows_in run world one))
  meant round world one is_world group =
      subst (λ (f : Face). IsAverage (shown run.head.columns run.query.columns f) (average_on run.query typed key (frame_of run.head) world) (filter_map (value e) (rows_in run world one))) face_is
      (subst (λ (k : Key). IsAverage (shown run.head.columns run.query.columns typed.face) (average_on run.query typed k (frame_of run.head) world) (filter_map (value e) (rows_in run world one)))
      (sym group.same) (averages_mean run.text run.head run.query world one e typed is.typed is_world.has_values asked group.row))

  abbrev pub shares : ℕ → Shares
  shares round = shares_of scale (bound round)

  pub shown_here : (round : ℕ) → ShowsShares (shares round) (average_text run.head run.query typed.face (bound round))
  shown_here round = subst (λ (f : Face). ShowsShares (shares round) (average_text run.head run.query f (bound round))) (sym face_is) (shown_shares run.head run.query scale (bound round))

  pub shows_key : (round : ℕ) → round ≤ length run.reads → (text : List ℕ) → IsAverageShownFor run.head (stage_at run round) typed key text → ShowsShares (shares round) text
  shows_key round h text (inl all) =
      subst (ShowsShares (shares round))
      (ap (λ (k : Key). average_text run.head run.query typed.face (average_under run.query typed k (stage_at run round).frame (stage_at run round).known)) (no_parts (frame_of run.head) run.query key on all.0) ∙ sym all.1)
      (shown_here round)
  shows_key round h text (inr told) =
      let has = (certain law run plan is).in_cells round h key on in
      let cell = own_cell (stage_at run round) key told.0 has told.1 in
      subst (ShowsShares (shares round))
      (ap (average_text run.head run.query typed.face) (sym (has.speaks.average typed))
      ∙ sym (subst (λ c. text ≡ average_text run.head run.query typed.face (average_in_cell (stage_at run round) typed c)) cell told.2))
      (shown_here round)

  pub holds : HoldsAverages run e typed key
  holds = record {
    shares = shares;
    shown = shows_key;
    encloses = λ round h world one is_world group.
        enclosed run.head.columns run.query.columns scale (bound round) (average_on run.query typed key (frame_of run.head) world) (filter_map (value e) (rows_in run world one))
        (meant round world one is_world group) ((is_certain round h).contains world (agrees law run plan is round h world is_world));
    nested = λ round h. inside scale (bound round) (bound (round + 1)) (((certain law run plan is).nested round h key on asked.place typed there).average kind_is);
    exact = λ round h done world one is_world group.
        let bounded = is_certain round h in
        let same_world = agrees law run plan is round h world is_world in
        alone run.head.columns run.query.columns scale (bound round) (average_on run.query typed key (frame_of run.head) world) (filter_map (value e) (rows_in run world one))
        (meant round world one is_world group) (bounded.contains world same_world) (bounded.told done) (λ some. bounded.exact done some world same_world);
  }

pub averages_hold : Laws → IntervalsHoldAverages
averages_hold law run plan e typed key is asked on = holds law run plan (sure law run plan is) e typed key asked on
