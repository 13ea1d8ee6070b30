-- That reports show the cells of groups as their lines are read back.
use Rattle.std.proofs.Common.{◌≡◌, ◌≢◌, ℕ, zero, suc, ◌<◌, ◌≤ℤ◌, List, [], ◌∷◌, ◌++◌, codes, length, map, Option, Some, None, IfSome, IsTrue, inl, inr, refl, sym, ap, subst, ◌∙◌, arith, slice_get, get_or}
use Rattle.std.proofs.lemmas.Bool.{and_parts, false≢true}
use Rattle.std.proofs.lemmas.List.{append_assoc}
use Rattle.std.proofs.lemmas.Option.{slice_get_cases}
use Rattle.interval_calc.specs.Intervals.{Interval}
use Rattle.daq_table.specs.Tables.{Frame, ends_at}
use Rattle.daq_table.specs.declared.head.ColumnHead.{ColumnHead}
use Rattle.daq_table.specs.declared.table_head.Head.{Head}
use Rattle.query_model.specs.Answers.{groups_of}
use Rattle.query_model.specs.Groups.{parts_of}
use Rattle.query_model.specs.Knowledge.{Knowledge, is_legal, known_at}
use Rattle.query_model.specs.Laws.{IllegalCellsAreEmpty}
use Rattle.query_model.specs.Truths.{Range}
use Rattle.query_model.specs.Validity.{IsValidShape}
use Rattle.query_model.specs.declared.bounds.Nullity.{Nullity}
use Rattle.query_model.specs.declared.bounds.Nullity.TheVariants.{Never, Possibly, Always}
use Rattle.query_model.specs.declared.query.TypedQuery.{TypedQuery}
use Rattle.query_model.proofs.Blocks.{range_ordered}
use Rattle.row_groups.specs.Partition.{CellsTellKeys, are_legal, counts_of_parts, part_under, ranges_of_cell, ranges_of_prefixes}
use Rattle.round_engine.specs.Cells.{AreDeclared, absence_in_cell, parts_in}
use Rattle.round_engine.specs.Stages.{Stage}
use Rattle.round_engine.proofs.DeclaredKeys.{parts_declared}
use Rattle.round_engine.proofs.Keys.{filled_is_legal}
use Rattle.daq_report.specs.Ends.{CanShowKey, CanShowSpan}
use Rattle.daq_report.specs.Groups.{cell_text, group_text, key_text}
use Rattle.daq_report.specs.Intervals.{column_of}
use Rattle.daq_report.proofs.Parts.{key_shows, range_for_each}
use Rattle.report_text.specs.Groups.{presence_text}
use Rattle.report_text.specs.Keys.{keys_text}
use Rattle.report_laws.specs.Groups.{AreGroupsOf, ArePlainParts, GroupsAreShown, HasPlainPart, IsPlainColumn, is_present, spans_of}
use Rattle.report_laws.proofs.Keys.{keys_shown}

-- ---- the ranges of a cell are in order

abbrev pub AreOrdered : List Range → Type 0
AreOrdered [] = Unit {0}
AreOrdered (range ∷ ranges) = (range.numbers.low ≤ℤ range.numbers.high) × AreOrdered ranges

pub parts_ordered : (frame : Frame) (known : Knowledge) (cs qs : List ℕ) → IsTrue (are_legal (map (part_under frame known) cs) qs) → AreOrdered (ranges_of_prefixes (map (part_under frame known) cs) qs)
parts_ordered frame known [] qs h = tt
parts_ordered frame known (c ∷ cs) [] h = absurd (false≢true h)
parts_ordered frame known (c ∷ cs) (q ∷ qs) h =
    let read = (known_at known c).read in
    let both = and_parts (is_legal (ends_at frame c) read q) (are_legal (map (part_under frame known) cs) qs) h in
    (range_ordered (ends_at frame c) read q both.0, parts_ordered frame known cs qs both.1)

-- ---- they are parts of columns that are read back

abbrev pub AllArePlain : Head → Type 0
AllArePlain head = (i : ℕ) (column : ColumnHead) → slice_get head.columns i ≡ Some column → IsPlainColumn column

same_default : (is : List ℕ) (k d : ℕ) → k < length is → get_or is k d ≡ get_or is k 0
same_default [] k d lt = absurd (omega arith)
same_default (i ∷ is) zero d lt = refl
same_default (i ∷ is) (suc k) d lt = same_default is k d (omega arith)

plain_by : (head : Head) (at : Option ColumnHead) (i : ℕ) (numbers : Interval) → AllArePlain head → slice_get head.columns i ≡ at → i < length head.columns →
    IfSome at (λ column. CanShowSpan column numbers) → numbers.low ≤ℤ numbers.high → HasPlainPart at numbers
plain_by head None i numbers plain is lt shows ordered =
    elim (slice_get_cases head.columns i).1 [ inl found ↦ absurd (let none = sym is ∙ found.2 in cc) | inr past ↦ absurd (omega (arith, lt, past)) ]
plain_by head (Some column) i numbers plain is lt shows ordered = record {
  plain = plain i column is;
  above = shows.low_end.above;
  ordered = ordered;
  below = shows.high_end.below;
}

pub are_plain : (head : Head) (query : TypedQuery) (columns : List ℕ) (ranges : List Range) → AllArePlain head → CanShowKey head query columns ranges → AreOrdered ranges →
    ArePlainParts head query columns ranges
are_plain head query [] [] plain shows ordered = tt
are_plain head query [] (range ∷ ranges) plain shows ordered = absurd shows
are_plain head query (c ∷ cs) [] plain shows ordered = absurd shows
are_plain head query (c ∷ cs) (range ∷ ranges) plain shows ordered =
    let i = get_or query.columns c (length head.columns) in
    let same : i ≡ get_or query.columns c 0 = same_default query.columns c (length head.columns) shows.0.in_query in
    let inside : i < length head.columns = subst (λ (k : ℕ). k < length head.columns) (sym same) shows.0.in_table in
    (plain_by head (column_of head query c) i range.numbers plain refl inside shows.1 ordered.0, are_plain head query cs ranges plain shows.2 ordered.1)

-- ---- the text of a cell

-- what stands behind the keys and their presence
record IsBehind (head : Head) (stage : Stage) (columns : List ℕ) (cell : ℕ) : Type 0 where
  pub items : List ℕ
  pub is : (presence : List ℕ) → group_text head stage columns cell presence
      ≡ codes "group " ++ (key_text head stage.query columns (ranges_of_cell (parts_in stage) cell) ++ (presence ++ items))

behind : (head : Head) (stage : Stage) (columns : List ℕ) (cell : ℕ) → IsBehind head stage columns cell
behind head stage columns cell = record { items = _; is = λ presence. refl }

joined : (spelled word items : List ℕ) → codes "group " ++ (spelled ++ (word ++ (codes "\n" ++ items))) ≡ (codes "group " ++ (spelled ++ word)) ++ (codes "\n" ++ items)
joined spelled word items =
    ap (λ (rest : List ℕ). codes "group " ++ rest) (sym (append_assoc spelled word (codes "\n" ++ items)))
    ∙ sym (append_assoc (codes "group ") (spelled ++ word) (codes "\n" ++ items))

text_by : (head : Head) (stage : Stage) (columns : List ℕ) (cell : ℕ) (at : IsBehind head stage columns cell) (spelled : List ℕ) →
    key_text head stage.query columns (ranges_of_cell (parts_in stage) cell) ≡ spelled → (absence : Nullity) → absence ≢ Always →
    cell_text head stage columns cell absence ≡ (codes "group " ++ (spelled ++ presence_text (is_present absence))) ++ (codes "\n" ++ at.items)
text_by head stage columns cell at spelled keys Never filled =
    at.is (codes " present\n") ∙ ap (λ (text : List ℕ). codes "group " ++ (text ++ (codes " present\n" ++ at.items))) keys ∙ joined spelled (codes " present") at.items
text_by head stage columns cell at spelled keys Possibly filled =
    at.is (codes " possible\n") ∙ ap (λ (text : List ℕ). codes "group " ++ (text ++ (codes " possible\n" ++ at.items))) keys ∙ joined spelled (codes " possible") at.items
text_by head stage columns cell at spelled keys Always filled = absurd (filled refl)

-- ---- each cell of which something is shown

module _ (empty : IllegalCellsAreEmpty) (tell : CellsTellKeys) where
  plain_parts : (head : Head) (stage : Stage) (columns : List ℕ) (cell : ℕ) → AreGroupsOf head stage columns → absence_in_cell stage cell ≢ Always →
      ArePlainParts head stage.query columns (ranges_of_cell (parts_in stage) cell)
  plain_parts head stage columns cell are filled =
      let groups = ap groups_of are.shape in
      let prefixes = parts_of (counts_of_parts (parts_in stage)) cell in
      let ranges = ranges_of_cell (parts_in stage) cell in
      let legal = filled_is_legal stage cell empty tell are.knowledge filled in
      let below = (subst (IsValidShape head stage.query) are.shape are.fits.valid.shape).0 in
      let long = range_for_each stage cell ∙ ap length groups in
      let declared = subst (λ (gs : List ℕ). AreDeclared stage.frame gs ranges) groups (parts_declared stage.frame stage.known (groups_of stage.query.shape) prefixes legal) in
      let shows = key_shows head stage.query stage.frame columns ranges are.fits (λ i column at. (are.plain i column at).texts) below long declared in
      are_plain head stage.query columns ranges are.plain shows (parts_ordered stage.frame stage.known (groups_of stage.query.shape) prefixes legal)

  pub groups_shown : GroupsAreShown
  groups_shown head stage columns cell are filled =
      let shown = keys_shown head stage.query columns (ranges_of_cell (parts_in stage) cell) are.some (plain_parts head stage columns cell are filled) in
      let at = behind head stage columns cell in
      record {
        items = at.items;
        behind = at.is;
        text = text_by head stage columns cell at (keys_text (spans_of head stage.query columns (ranges_of_cell (parts_in stage) cell))) shown.text (absence_in_cell stage cell) filled;
        is_shown = shown.are_shown;
      }
