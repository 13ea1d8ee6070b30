-- The laws of the lines over all parts, of the groups that show them.
use Rattle.std.proofs.Common.{◌≡◌, ◌∙◌, ℕ, Bool, List, ◌∷◌, [], map, sym, ap, subst, inl, inr, length, suc, ◌+◌, refl, Option}
use Rattle.query_model.specs.Bounds.{Admits, AverageBound, IsNested, IsNestedAverage}
use Rattle.query_model.specs.declared.bounds.Bound.{Bound}
use Rattle.query_model.specs.declared.query.ItemKind.{ItemKind}
use Rattle.shard_bounds.specs.Combined as answers
use Rattle.shard_bounds.specs.Combined.{answer_over}
use Rattle.shard_bounds.specs.Laws.{Tells}
use Rattle.shard_groups.proofs.Spans.{holds_more}
use Rattle.shard_bounds.specs.Averages.{ReportsAverage, TellsAverage}
use Rattle.shard_groups.specs.declared.cells.Cell.{Cell}
use Rattle.shard_groups.specs.Groups.{AreLinesOver, Said, all_keys, average_over, bound_over, is_present, keys_in, said_from, said_of}
use Rattle.shard_groups.specs.Keys.{Key, holds}
use Rattle.shard_groups.specs.Laws.{AreLater, AreLaterAverages, IsCellOf, LinesContain, LinesReportAverages, LinesNest, LinesNestAverages, LinesTell, LinesTellAverages, LinesTellKeys}
use Rattle.part_groups.specs.Cells.{told}
use Rattle.part_groups.specs.Combined.{IsCombinedReport}
use Rattle.part_groups.specs.Laws.{AreAllOf, GroupsContain, GroupsReportAverages, GroupsHaveColumns, GroupsNest, GroupsNestAverages, GroupsTell, GroupsTellAverages, GroupsTellKeys, IsGroupOf, average_in, bound_in, keys_by}
use Rattle.part_groups.specs.Shown.{group_in, shown_from}
use Rattle.part_groups.specs.Texts.{texts_over}
use Rattle.shard_groups.specs.declared.keys.Span.{Span}
use Rattle.part_groups.specs.declared.forms.EndsForm.{EndsForm}
use Rattle.part_groups.specs.declared.group.Group.{Group}
use Rattle.part_groups.proofs.Carried.{all_told, averages_certain, averages_told, shown_average, certain, counted, group_of, line_of, line_with, one_of, over_of, shown_bound, shown_same, within_of}
use Rattle.part_groups.proofs.Hulls.{AreWithin, lines_within}
use Rattle.part_groups.proofs.PartKeys.{cells_in}
use Rattle.part_groups.proofs.Whole.{same_shards}
use Rattle.part_groups.specs.Whole.{cells_by}

-- ---- the line that a group shows

are_within : (count : ℕ) (kinds : List ItemKind) (parts : List (List Group)) (groups : List Group) → AreAllOf count parts →
    (report : IsCombinedReport count kinds parts groups) → AreWithin report.columns (keys_in report.lines)
are_within count kinds parts groups are report =
    lines_within report.columns (all_keys report.are_lines.cells) (keys_in report.lines) report.are_lines.combined.lines
    (cells_in report.columns count parts report.are_lines.cells report.are_lines.tell are report.forms.columns_shared)

-- a line of the combined report, which the group shows
pub record IsOfLine (count : ℕ) (kinds : List ItemKind) (parts : List (List Group)) (groups : List Group) (report : IsCombinedReport count kinds parts groups)
    (group : Group) : Type 0 where
  pub line : Cell
  pub is : IsCellOf line report.lines
  pub shown : group ≡ group_in report.columns report.items (texts_over kinds parts) (told line)
  pub keys : (key : Key) → holds (keys_by group) key ≡ holds line.keys key

pub of_line : (count : ℕ) (kinds : List ItemKind) (parts : List (List Group)) (groups : List Group) → AreAllOf count parts →
    (report : IsCombinedReport count kinds parts groups) → (group : Group) → IsGroupOf group groups → IsOfLine count kinds parts groups report group
of_line count kinds parts groups are report group is =
    let there = line_of report.columns report.items (texts_over kinds parts) report.lines group (subst (IsGroupOf group) report.shown is) in
    let within = within_of report.columns report.lines there.line there.is (are_within count kinds parts groups are report) in
    record {
      line = there.line;
      is = there.is;
      shown = there.shown;
      keys = λ key. ap (λ (g : Group). holds (keys_by g) key) there.shown ∙ shown_same report.columns there.line.keys key within;
    }

present_of : (kinds : List ItemKind) (shards : List (List Cell)) (lines : List Cell) (line : Cell) → IsCellOf line lines → AreLinesOver kinds shards lines →
    line.present ≡ is_present line.keys shards
present_of kinds shards [] line is over = absurd is
present_of kinds shards (other ∷ lines) line (inl e) over =
    subst (λ (c : Cell). c.present ≡ is_present c.keys shards) (sym e) over.0.present
present_of kinds shards (other ∷ lines) line (inr is) over = present_of kinds shards lines line is over.1

-- the keys of a line say what it tells
told_of : (kinds : List ItemKind) (shards : List (List Cell)) (lines : List Cell) (line : Cell) → IsCellOf line lines → AreLinesOver kinds shards lines →
    told line ≡ record { keys = line.keys; present = is_present line.keys shards; items = said_from 0 kinds line.keys shards }
told_of kinds shards lines line is over =
    ap (λ (b : Bool). record { keys = line.keys; present = b; items = map said_of line.items }) (present_of kinds shards lines line is over)
    ∙ ap (λ (said : List Said). record { keys = line.keys; present = is_present line.keys shards; items = said }) (over_of kinds shards lines line is over)

same_told : (kinds : List ItemKind) (shards : List (List Cell)) (lines : List Cell) (line other : Cell) → IsCellOf line lines → IsCellOf other lines →
    AreLinesOver kinds shards lines → line.keys ≡ other.keys → told line ≡ told other
same_told kinds shards lines line other is is_other over same =
    told_of kinds shards lines line is over
    ∙ ap (λ (keys : List Span). record { keys = keys; present = is_present keys shards; items = said_from 0 kinds keys shards }) same
    ∙ sym (told_of kinds shards lines other is_other over)

-- ---- the laws

pub groups_contain : LinesContain → GroupsContain
groups_contain law count kinds parts groups kind item key tables group are report at no_average sure is has =
    let there = of_line count kinds parts groups are report group is in
    let cells = report.are_lines.cells in
    let combined = report.are_lines.combined in
    let admits = law kind item key cells tables (keys_in report.lines) there.line.keys no_average combined.lines (one_of report.lines there.line there.is)
    (sym (there.keys key) ∙ has) (certain kind item key cells parts tables report.are_lines.tell sure) in
    let same = ap (bound_in item) there.shown
    ∙ shown_bound report.columns report.items (texts_over kinds parts) kinds cells report.lines there.line kind item there.is combined.each at no_average in
    subst (λ (b : Bound). Admits b (answer_over kind tables)) (sym same) admits

pub groups_tell_keys : LinesTellKeys → GroupsTellKeys
groups_tell_keys law count kinds parts groups key counts are report sure =
    let cells = report.are_lines.cells in
    let combined = report.are_lines.combined in
    let tells = law key cells counts (keys_in report.lines) combined.lines (counted key cells parts counts report.are_lines.tell sure) in
    record {
      found = λ some.
          let found = tells.found some in
          let there = line_with report.lines found.0 key found.1 found.2 in
          let group = group_in report.columns report.items (texts_over kinds parts) (told there.line) in
          let within = within_of report.columns report.lines there.line there.is (are_within count kinds parts groups are report) in
          record {
            group = group;
            is = subst (IsGroupOf group) (sym report.shown) (group_of report.columns report.items (texts_over kinds parts) report.lines there.line there.is);
            has = shown_same report.columns there.line.keys key within ∙ there.has;
          };
      alone = λ group other is is_other has has_other.
          let one = of_line count kinds parts groups are report group is in
          let two = of_line count kinds parts groups are report other is_other in
          let same = tells.alone one.line.keys two.line.keys (one_of report.lines one.line one.is) (one_of report.lines two.line two.is)
          (sym (one.keys key) ∙ has) (sym (two.keys key) ∙ has_other) in
          one.shown
          ∙ ap (group_in report.columns report.items (texts_over kinds parts)) (same_told kinds cells report.lines one.line two.line one.is two.is combined.each same)
          ∙ sym two.shown;
      present = λ group is has present.
          let there = of_line count kinds parts groups are report group is in
          tells.present there.line.keys (one_of report.lines there.line there.is) (sym (there.keys key) ∙ has)
          (sym (present_of kinds cells report.lines there.line there.is combined.each) ∙ sym (ap (λ (g : Group). g.line.present) there.shown) ∙ present);
    }

pub groups_tell : LinesTell → GroupsTell
groups_tell law count kinds parts groups kind item key tables group are report at no_average sure is has =
    let there = of_line count kinds parts groups are report group is in
    let cells = report.are_lines.cells in
    let combined = report.are_lines.combined in
    let tells = law kind item key cells tables (keys_in report.lines) there.line.keys no_average combined.lines (one_of report.lines there.line there.is)
    (sym (there.keys key) ∙ has) (all_told kind item key cells parts tables report.are_lines.tell sure) in
    let same = ap (bound_in item) there.shown
    ∙ shown_bound report.columns report.items (texts_over kinds parts) kinds cells report.lines there.line kind item there.is combined.each at no_average in
    subst (λ (b : Bound). Tells b (answer_over kind tables)) (sym same) tells

pub groups_nest : LinesNest → GroupsNest
groups_nest law count kinds before parts olds groups kind item key old group are_before are_now report now at no_average later is_old is has_old has =
    let first = of_line count kinds before olds are_before report old is_old in
    let there = of_line count kinds parts groups are_now now group is in
    let cells = report.are_lines.cells in
    let news = now.are_lines.cells in
    let nested = law kind item key cells news (keys_in report.lines) (keys_in now.lines) first.line.keys there.line.keys no_average
    report.are_lines.combined.lines now.are_lines.combined.lines (subst (λ (olds : List (List Cell)). AreLater kind item olds news) (sym (same_shards cells before report.are_lines.tell))
    (subst (AreLater kind item (cells_by before)) (sym (same_shards news parts now.are_lines.tell)) later))
    (one_of report.lines first.line first.is) (one_of now.lines there.line there.is) (sym (first.keys key) ∙ has_old) (sym (there.keys key) ∙ has) in
    let old_same = ap (bound_in item) first.shown
    ∙ shown_bound report.columns report.items (texts_over kinds before) kinds cells report.lines first.line kind item first.is report.are_lines.combined.each at no_average in
    let same = ap (bound_in item) there.shown
    ∙ shown_bound now.columns now.items (texts_over kinds parts) kinds news now.lines there.line kind item there.is now.are_lines.combined.each at no_average in
    record {
      keys = λ k h. first.keys k ∙ holds_more there.line.keys first.line.keys k nested.keys (sym (there.keys k) ∙ h);
      bound = subst (λ (b : Bound). IsNested b (bound_in item group)) (sym old_same)
          (subst (λ (b : Bound). IsNested (bound_over kind item first.line.keys cells) b) (sym same) nested.bound);
    }

pub groups_nest_averages : LinesNestAverages → GroupsNestAverages
groups_nest_averages law count kinds before parts olds groups item key old group are_before are_now report now at later is_old is has_old has =
    let first = of_line count kinds before olds are_before report old is_old in
    let there = of_line count kinds parts groups are_now now group is in
    let cells = report.are_lines.cells in
    let news = now.are_lines.cells in
    let nested = law item key cells news (keys_in report.lines) (keys_in now.lines) first.line.keys there.line.keys
    report.are_lines.combined.lines now.are_lines.combined.lines
    (subst (λ (olds : List (List Cell)). AreLaterAverages item olds news) (sym (same_shards cells before report.are_lines.tell))
    (subst (AreLaterAverages item (cells_by before)) (sym (same_shards news parts now.are_lines.tell)) later))
    (one_of report.lines first.line first.is) (one_of now.lines there.line there.is) (sym (first.keys key) ∙ has_old) (sym (there.keys key) ∙ has) in
    let old_same = ap (average_in item) first.shown
    ∙ shown_average report.columns report.items (texts_over kinds before) kinds cells report.lines first.line item first.is report.are_lines.combined.each at in
    let same = ap (average_in item) there.shown
    ∙ shown_average now.columns now.items (texts_over kinds parts) kinds news now.lines there.line item there.is now.are_lines.combined.each at in
    record {
      keys = λ k h. first.keys k ∙ holds_more there.line.keys first.line.keys k nested.keys (sym (there.keys k) ∙ h);
      average = subst (λ (b : AverageBound). IsNestedAverage b (average_in item group)) (sym old_same)
          (subst (λ (b : AverageBound). IsNestedAverage (average_over item first.line.keys cells) b) (sym same) nested.average);
    }

pub groups_report_averages : LinesReportAverages → GroupsReportAverages
groups_report_averages law count kinds parts groups item key tables group are report at sure is has =
    let there = of_line count kinds parts groups are report group is in
    let cells = report.are_lines.cells in
    let combined = report.are_lines.combined in
    let reports = law item key cells tables (keys_in report.lines) there.line.keys combined.lines (one_of report.lines there.line there.is)
    (sym (there.keys key) ∙ has) (averages_certain item key cells parts tables report.are_lines.tell sure) in
    let same = ap (average_in item) there.shown
    ∙ shown_average report.columns report.items (texts_over kinds parts) kinds cells report.lines there.line item there.is combined.each at in
    subst (λ (b : AverageBound). ReportsAverage b (answers.average_over tables)) (sym same) reports

shown_length : (column : ℕ) (forms : List (Option EndsForm)) (spans : List Span) → length (shown_from column forms spans) ≡ length forms
shown_length column [] spans = refl
shown_length column (form ∷ forms) spans = ap suc (shown_length (column + 1) forms spans)

pub groups_have_columns : GroupsHaveColumns
groups_have_columns count kinds parts groups group report is =
    let there = line_of report.columns report.items (texts_over kinds parts) report.lines group (subst (IsGroupOf group) report.shown is) in
    ap (λ (g : Group). length g.line.keys) there.shown ∙ shown_length 0 report.columns there.line.keys ∙ report.forms.columns_shared.all

pub groups_tell_averages : LinesTellAverages → GroupsTellAverages
groups_tell_averages law count kinds parts groups item key tables group are report at sure is has =
    let there = of_line count kinds parts groups are report group is in
    let cells = report.are_lines.cells in
    let combined = report.are_lines.combined in
    let tells = law item key cells tables (keys_in report.lines) there.line.keys combined.lines (one_of report.lines there.line there.is)
    (sym (there.keys key) ∙ has) (averages_told item key cells parts tables report.are_lines.tell sure) in
    let same = ap (average_in item) there.shown
    ∙ shown_average report.columns report.items (texts_over kinds parts) kinds cells report.lines there.line item there.is combined.each at in
    subst (λ (b : AverageBound). TellsAverage b (answers.average_over tables)) (sym same) tells
