-- `--clip` and `--exact-avg` add lines to the report of a query of totals, and leave any other as it is.
use Rattle.std.proofs.Common.{◌≡◌, ℕ, ℤ, zero, suc, ◌+◌, append-nil, Bool, true, false, if◌then◌else◌, List, [], ◌∷◌, ◌++◌, length, Option, Some, None, refl, sym, ap, subst, ◌∙◌, inl, inr}
use Rattle.std.specs.Prelude.{codes, decimal}
use Rattle.avg_exact.specs.ExactAverages.{ExactAverage, ends_of}
use Rattle.avg_exact.specs.Promises.{exact_at}
use Rattle.daq_cli.proofs.Reached.{same_below}
use Rattle.daq_cli.specs.Report.{block_of, blocks_below, end_line, query_line, report}
use Rattle.daq_report.specs.Blocks.{form_text, planes_text, round_line}
use Rattle.daq_report.specs.Extras.{clip_at, clip_line, count_text, cut_text, exact_line, exact_lines, extra_lines, front_text, is_average, taken_lines, unless_always}
use Rattle.daq_report.specs.Intervals.{average_text, bound_text}
use Rattle.daq_table.specs.Tables.{frame_of}
use Rattle.daq_table.specs.declared.table_head.Head.{Head}
use Rattle.plane_schedule.specs.Plans.{no_extras}
use Rattle.plane_schedule.specs.declared.policy.Extras.{Extras}
use Rattle.plane_schedule.specs.declared.policy.Listing.{Listing}
use Rattle.plane_schedule.specs.declared.policy.Plan.{Plan}
use Rattle.query_model.specs.Bounds.{average_under, bound_under}
use Rattle.query_model.specs.declared.bounds.Bound.{Bound}
use Rattle.query_model.specs.declared.bounds.Nullity.{Nullity}
use Rattle.query_model.specs.declared.bounds.Nullity.TheVariants.{Never, Possibly, Always}
use Rattle.query_model.specs.declared.query.Face.{Face}
use Rattle.query_model.specs.Queries.{Aggregate}
use Rattle.query_model.specs.declared.query.Shape.{Shape}
use Rattle.query_model.specs.declared.query.Shape.TheVariants.{Plain, Grouped, Top}
use Rattle.query_model.specs.declared.query.TypedQuery.{TypedQuery}
use Rattle.round_engine.specs.Stages.{Stage}
use Rattle.sql_headline.specs.Lined.{line_of}
use Rattle.table_rounds.specs.Rounds.{Planes, column_read, ending_at, stage_after}
use Rattle.run_headline.specs.Added.{AddsLines, EndsLine, same}
use Rattle.run_headline.proofs.Added.{AddsIn, AreLines, ends_behind, ends_line, in_both, lines_added, nothing_added, stays}

either : (b : Bool) (xs ys : List ℕ) → AreLines xs → AreLines ys → AreLines (if b then xs else ys)
either true xs ys p r = p
either false xs ys p r = r

lines_end : (front text : List ℕ) → EndsLine front → AreLines text → AreLines (front ++ text)
lines_end front text end (inl none) = inr (subst (λ l. EndsLine (front ++ l)) (sym none) (subst EndsLine (sym (append-nil front)) end))
lines_end front text end (inr last) = inr (ends_behind front text last)

module _ (head : Head) (stage : Stage) where
  clip_lines : (n : ℕ) (face : Face) (bound : Option Bound) → AreLines (clip_line head stage.query n face bound)
  clip_lines n face None = inl refl
  clip_lines n face (Some bound) = inr (ends_behind (front_text n (codes " clip ")) _ (ends_line _))

  cut_ends : (face : Face) (limit : List ℕ) (cut : Option ℤ) → EndsLine (cut_text head stage.query face limit cut)
  cut_ends face limit None = ends_line []
  cut_ends face limit (Some cut) = ends_behind limit _ (ends_line _)

  taken_ends : (n : ℕ) (face : Face) (end limit : List ℕ) (taken unknown : ℕ) (cut : Option ℤ) → EndsLine (front_text n end ++ (count_text taken unknown ++ cut_text head stage.query face limit cut))
  taken_ends n face end limit taken unknown cut =
      ends_behind (front_text n end) _ (ends_behind (count_text taken unknown) (cut_text head stage.query face limit cut) (cut_ends face limit cut))

  unless : (null : Nullity) (text : List ℕ) → AreLines text → AreLines (unless_always null text)
  unless Never text lines = lines
  unless Possibly text lines = lines
  unless Always text lines = inl refl

  exact_ends : (n : ℕ) (face : Face) (exact : ExactAverage) → AreLines (exact_lines head stage.query n face exact)
  exact_ends n face exact =
      lines_end (exact_line head stage.query n face (ends_of exact)) (unless_always exact.null (taken_lines head stage.query n face exact))
      (ends_behind (front_text n (codes " exact ")) _ (ends_line _))
      (unless exact.null (taken_lines head stage.query n face exact) (inr (ends_behind _ _ (taken_ends n face (codes " high takes ") (codes " at least ") exact.high_taken exact.unknown exact.high_cut))))

  extra_ends : (extras : Extras) (n : ℕ) (item : Aggregate) → AreLines (extra_lines head stage extras n item)
  extra_ends extras n item =
      either (is_average item.kind) _ _
      (either extras.exact _ [] (exact_ends n item.face (exact_at stage item)) (inl refl))
      (either extras.clip _ [] (clip_lines n item.face (clip_at stage item)) (inl refl))

  neither : (b : Bool) (xs ys : List ℕ) → xs ≡ [] → ys ≡ [] → (if b then xs else ys) ≡ []
  neither true xs ys e f = e
  neither false xs ys e f = f

  no_extra : (n : ℕ) (item : Aggregate) → extra_lines head stage no_extras n item ≡ []
  no_extra n item = neither (is_average item.kind) [] [] refl refl

  -- ---- the lines of items, and behind each these

  abbrev answer : Aggregate → List ℕ
  answer item =
      if is_average item.kind
      then average_text head stage.query item.face (average_under stage.query item [] stage.frame stage.known)
      else bound_text head stage.query item.face (bound_under stage.query item [] stage.frame stage.known)

  abbrev lined : (ℕ → Aggregate → List ℕ) → ℕ → List Aggregate → List ℕ
  lined extra n [] = []
  lined extra n (item ∷ items) = (line_of n (answer item) ++ extra n item) ++ lined extra (n + 1) items

  form_is : (listing : Listing) (extras : Extras) → form_text head listing extras stage Plain ≡ lined (extra_lines head stage extras) 1 stage.query.items
  form_is listing extras = search

  -- ---- what is added

  item_adds : (extras : Extras) (n : ℕ) (item : Aggregate) → AddsIn (line_of n (answer item) ++ extra_lines head stage no_extras n item) (line_of n (answer item) ++ extra_lines head stage extras n item)
  item_adds extras n item =
      in_both (line_of n (answer item)) (line_of n (answer item)) (extra_lines head stage no_extras n item) (extra_lines head stage extras n item)
      (stays (line_of n (answer item)) (ends_behind _ _ (ends_behind (codes " ") _ (ends_line (answer item)))))
      (subst (λ l. AddsIn l (extra_lines head stage extras n item)) (sym (no_extra n item)) (lines_added (extra_lines head stage extras n item) (extra_ends extras n item)))

  items_add : (extras : Extras) (n : ℕ) (items : List Aggregate) → AddsIn (lined (extra_lines head stage no_extras) n items) (lined (extra_lines head stage extras) n items)
  items_add extras n [] = nothing_added
  items_add extras n (item ∷ items) =
      in_both (line_of n (answer item) ++ extra_lines head stage no_extras n item) (line_of n (answer item) ++ extra_lines head stage extras n item)
      (lined (extra_lines head stage no_extras) (n + 1) items) (lined (extra_lines head stage extras) (n + 1) items) (item_adds extras n item) (items_add extras (n + 1) items)

  form_adds : (listing : Listing) (extras : Extras) → AddsIn (form_text head listing no_extras stage Plain) (form_text head listing extras stage Plain)
  form_adds listing extras =
      subst (λ l. AddsIn l (form_text head listing extras stage Plain)) (sym (form_is listing no_extras))
      (subst (AddsIn (lined (extra_lines head stage no_extras) 1 stage.query.items)) (sym (form_is listing extras)) (items_add extras 1 stage.query.items))

  line_ends : (round : ℕ) (last : Option ℕ) → EndsLine (round_line head stage round last)
  line_ends round None = ends_behind (codes "round ") _ (ends_line _)
  line_ends round (Some c) = ends_behind (codes "round ") _ (ends_behind (decimal round) _ (ends_behind (planes_text head stage c) _ (ends_line [])))

-- what each block adds the blocks of rounds add
module _ (one other : List ℕ → ℕ → List ℕ) (reads : List ℕ) (each : (round : ℕ) → AddsIn (one reads round) (other reads round)) where
  blocks_add : (n : ℕ) → AddsIn (blocks_below one reads n) (blocks_below other reads n)
  unfolding blocks_below
  blocks_add zero = nothing_added
  blocks_add (suc n) = in_both (blocks_below one reads n) (blocks_below other reads n) (one reads n) (other reads n) (blocks_add n) (each n)

abbrev bare : Plan → Plan
bare plan = record { policy = plan.policy; near = plan.near; most = plan.most; listing = plan.listing; extras = no_extras }

abbrev with_extras : Extras → Plan → Plan
with_extras extras plan = record { policy = plan.policy; near = plan.near; most = plan.most; listing = plan.listing; extras = extras }

module _ (sql : List ℕ) (head : Head) (plan : Plan) (extras : Extras) (query : TypedQuery) (bits : Planes) (reads : List ℕ) where
  abbrev stage : ℕ → Stage
  stage round = stage_after query (frame_of head) bits reads round

  abbrev line : ℕ → List ℕ
  line round = round_line head (stage round) round (column_read reads round)

  abbrev form : Extras → ℕ → Shape → List ℕ
  form extras round shape = form_text head plan.listing extras (stage round) shape

  abbrev end : List ℕ
  end = end_line (ending_at plan (stage (length reads)))

  abbrev less : List ℕ
  less = report sql head (bare plan) query bits reads

  abbrev more : List ℕ
  more = report sql head (with_extras extras plan) query bits reads

  totals : query.shape ≡ Plain → AddsLines less more
  totals plain =
      let each : (round : ℕ) → AddsIn (line round ++ form no_extras round query.shape) (line round ++ form extras round query.shape) = λ round.
      subst (λ (s : Shape). AddsIn (line round ++ form no_extras round s) (line round ++ form extras round s)) (sym plain)
      (in_both (line round) (line round) (form no_extras round Plain) (form extras round Plain) (stays (line round) (line_ends head (stage round) round (column_read reads round))) (form_adds head (stage round) plan.listing extras)) in
      stays (query_line sql) (ends_behind (codes "query ") _ (ends_line sql)) _ _
      (blocks_add (block_of head (bare plan) query bits) (block_of head (with_extras extras plan) query bits) reads each (length reads) _ _ (each (length reads) end end (same end)))

  others : ((round : ℕ) → form no_extras round query.shape ≡ form extras round query.shape) → AddsLines less more
  others alike =
      let n = length reads in
      let one = block_of head (bare plan) query bits in
      let other = block_of head (with_extras extras plan) query bits in
      let blocks : (round : ℕ) → one reads round ≡ other reads round = λ round. ap (λ t. line round ++ t) (alike round) in
      let equal : less ≡ more =
      ap (λ t. query_line sql ++ (t ++ (one reads n ++ end))) (same_below one other reads reads n (λ round h. blocks round))
      ∙ ap (λ t. query_line sql ++ (blocks_below other reads n ++ (t ++ end))) (blocks n) in
      subst (AddsLines less) equal (same less)

  by_shape : (shape : Shape) → query.shape ≡ shape → AddsLines less more
  by_shape Plain is = totals is
  by_shape (Grouped columns) is = others (λ round. ap (form no_extras round) is ∙ sym (ap (form extras round) is))
  by_shape (Top key down limit) is = others (λ round. ap (form no_extras round) is ∙ sym (ap (form extras round) is))

pub reports_add : (sql : List ℕ) (head : Head) (plan : Plan) (extras : Extras) → plan.extras ≡ no_extras → (query : TypedQuery) (bits : Planes) (reads : List ℕ) →
    AddsLines (report sql head plan query bits reads) (report sql head (with_extras extras plan) query bits reads)
reports_add sql head plan extras none query bits reads =
    subst (λ (e : Extras). AddsLines (report sql head (with_extras e plan) query bits reads) (report sql head (with_extras extras plan) query bits reads)) (sym none)
    (by_shape sql head plan extras query bits reads query.shape refl)
