-- That what is shown of the lines over all parts is their combined report.
use Rattle.std.proofs.Common.{◌≡◌, ◌∙◌, ℕ, List, map, ap, Option}
use Rattle.query_model.specs.declared.query.ItemKind.{ItemKind}
use Rattle.report_text.specs.declared.text_answers.TextAnswer.{TextAnswer}
use Rattle.shard_groups.specs.declared.cells.Cell.{Cell}
use Rattle.shard_groups.specs.declared.keys.Span.{Span}
use Rattle.part_groups.specs.Cells.{told}
use Rattle.part_groups.specs.Combined.{AreForms, AreLinesOf, IsCombinedReport}
use Rattle.part_groups.specs.Shown.{group_in}
use Rattle.part_groups.specs.Texts.{texts_over}
use Rattle.part_groups.specs.declared.forms.EndsForm.{EndsForm}
use Rattle.part_groups.specs.declared.group.Group.{Group}

pub report_of : (count : ℕ) (kinds : List ItemKind) (parts : List (List Group)) (columns items as_columns as_items : List (Option EndsForm))
    (texts : List Span → List (Option TextAnswer)) (lines as_lines : List Cell) (groups : List Group) → as_columns ≡ columns → as_items ≡ items → texts ≡ texts_over kinds parts → as_lines ≡ lines →
    AreForms count kinds parts columns items → AreLinesOf kinds parts lines →
    groups ≡ map (λ line. group_in as_columns as_items texts (told line)) as_lines → IsCombinedReport count kinds parts groups
report_of count kinds parts columns items as_columns as_items texts lines as_lines groups c i t l forms are shown = record {
  columns = columns;
  items = items;
  forms = forms;
  lines = lines;
  are_lines = are;
  shown = shown
      ∙ ap (λ (fs : List (Option EndsForm)). map (λ line. group_in fs as_items texts (told line)) as_lines) c
      ∙ ap (λ (fs : List (Option EndsForm)). map (λ line. group_in columns fs texts (told line)) as_lines) i
      ∙ ap (λ (ts : List Span → List (Option TextAnswer)). map (λ line. group_in columns items ts (told line)) as_lines) t
      ∙ ap (λ (ls : List Cell). map (λ line. group_in columns items (texts_over kinds parts) (told line)) ls) l;
}
