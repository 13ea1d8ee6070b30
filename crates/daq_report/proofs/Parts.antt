-- The parts of the keys of a cell.
use Rattle.std.proofs.Common.{◌≡◌, ℕ, zero, suc, ◌%◌, ◌^◌, ◌<◌, List, [], ◌∷◌, length, map, sum, take, slice_get, Option, None, Some, IfSome, refl, ap, subst, ◌∙◌, arith}
use Rattle.std.proofs.lemmas.List.{length-map}
use Rattle.std.specs.List.{AllByRecursion}
use Rattle.std.specs.Simd.Lanes.{zip2}
use Rattle.interval_calc.specs.Intervals.{Interval}
use Rattle.daq_table.specs.Tables.{Frame}
use Rattle.daq_table.specs.ValueTexts.{HeadHasTexts}
use Rattle.daq_table.specs.declared.head.ColumnHead.{ColumnHead}
use Rattle.daq_table.specs.declared.table_head.Head.{Head}
use Rattle.query_model.specs.Answers.{groups_of}
use Rattle.query_model.specs.Truths.{Range}
use Rattle.query_model.specs.Validity.{FitsHead}
use Rattle.query_model.specs.declared.query.TypedQuery.{TypedQuery}
use Rattle.row_groups.specs.Partition.{counts_of_parts, range_for, ranges_of_cell}
use Rattle.row_groups.specs.declared.part.GroupPart.{GroupPart}
use Rattle.row_groups.specs.declared.prefix.PartRange.{PartRange}
use Rattle.round_engine.specs.Cells.{AreDeclared, parts_in}
use Rattle.round_engine.specs.Stages.{Stage}
use Rattle.daq_report.specs.Ends.{CanShowKey, CanShowSpan, HasNumber, IsThere}
use Rattle.daq_report.specs.Groups.{part_text}
use Rattle.daq_report.specs.Intervals.{column_of}
use Rattle.daq_report.proofs.Faces.{number_shows}

-- ---- what the parts of a key may be

ranges_long : (parts : List GroupPart) (cell : ℕ) → length (ranges_of_cell parts cell) ≡ length parts
ranges_long [] cell = refl
ranges_long (p ∷ ps) cell = ap suc (ranges_long ps (cell % 2 ^ sum (counts_of_parts ps)))

-- there is a range for each group column
pub range_for_each : (stage : Stage) (cell : ℕ) → length (ranges_of_cell (parts_in stage) cell) ≡ length (groups_of stage.query.shape)
range_for_each stage cell = ranges_long (parts_in stage) cell ∙ length-map (groups_of stage.query.shape) _

both_ends : (o : Option ColumnHead) (numbers : Interval) → IfSome o (λ column. HasNumber column numbers.low) → IfSome o (λ column. HasNumber column numbers.high) →
    IfSome o (λ column. CanShowSpan column numbers)
both_ends None numbers low high = tt
both_ends (Some column) numbers low high = record { low_end = low; high_end = high }

-- parts within their columns can be shown
pub key_shows : (head : Head) (query : TypedQuery) (part : Frame) (columns : List ℕ) (ranges : List Range) → FitsHead query part head → HeadHasTexts head →
    AllByRecursion (λ c. c < length query.columns) columns → length ranges ≡ length columns → AreDeclared part columns ranges → CanShowKey head query columns ranges
key_shows head query part [] [] fits texts below long within = tt
key_shows head query part [] (range ∷ ranges) fits texts below long within = absurd (omega (arith, long))
key_shows head query part (c ∷ cs) [] fits texts below long within = absurd (omega (arith, long))
key_shows head query part (c ∷ cs) (range ∷ ranges) fits texts below long within =
    let low = number_shows head query part c range.numbers.low fits texts below.0 within.0 in
    let high = number_shows head query part c range.numbers.high fits texts below.0 within.1 in
    (low.0, both_ends (column_of head query c) range.numbers low.1 high.1, key_shows head query part cs ranges fits texts below.1 (omega (arith, long)) within.2)

-- ---- one part

-- the part of this column stands at this place of the key
pub record IsPartAt (head : Head) (query : TypedQuery) (columns : List ℕ) (parts : List PartRange) (place c : ℕ) (part : PartRange) : Type 0 where
  pub there : IsThere head query c
  pub shows : IfSome (column_of head query c) (λ column. CanShowSpan column (range_for part).numbers)
  pub text : slice_get (zip2 (λ d range. part_text (column_of head query d) range) columns (map range_for parts)) place ≡ Some (part_text (column_of head query c) (range_for part))

pub part_at : (head : Head) (query : TypedQuery) (columns : List ℕ) (parts : List PartRange) (place c : ℕ) (part : PartRange) → CanShowKey head query columns (map range_for parts) →
    slice_get columns place ≡ Some c → slice_get parts place ≡ Some part → IsPartAt head query columns parts place c part
part_at head query [] parts place c part shows at is = absurd (cc)
part_at head query (d ∷ ds) [] place c part shows at is = absurd (cc)
part_at head query (d ∷ ds) (p ∷ ps) zero c part shows at is =
    let same : d ≡ c = cc in
    let same_part : p ≡ part = cc in
    record {
      there = subst (IsThere head query) same shows.0;
      shows = subst (λ k. IfSome (column_of head query k) (λ column. CanShowSpan column (range_for part).numbers)) same
          (subst (λ q. IfSome (column_of head query d) (λ column. CanShowSpan column (range_for q).numbers)) same_part shows.1);
      text = ap Some (ap (λ k. part_text (column_of head query k) (range_for p)) same ∙ ap (λ q. part_text (column_of head query c) (range_for q)) same_part);
    }
part_at head query (d ∷ ds) (p ∷ ps) (suc place) c part shows at is =
    let found = part_at head query ds ps place c part shows.2 at is in
    record { there = found.there; shows = found.shows; text = found.text }

-- there are as many columns as parts
pub as_many : (head : Head) (query : TypedQuery) (columns : List ℕ) (parts : List PartRange) → CanShowKey head query columns (map range_for parts) → length columns ≡ length parts
as_many head query [] [] shows = refl
as_many head query [] (p ∷ ps) shows = absurd shows
as_many head query (c ∷ cs) [] shows = absurd shows
as_many head query (c ∷ cs) (p ∷ ps) shows = ap suc (as_many head query cs ps shows.2)

-- all of them are all texts
pub all_taken : {C : Type 0} (text : ℕ → Range → C) (columns : List ℕ) (parts : List PartRange) → take (length parts) (zip2 text columns (map range_for parts)) ≡ zip2 text columns (map range_for parts)
all_taken text [] [] = refl
all_taken text [] (p ∷ ps) = refl
all_taken text (c ∷ cs) [] = refl
all_taken text (c ∷ cs) (p ∷ ps) = ap (λ l. text c (range_for p) ∷ l) (all_taken text cs ps)
