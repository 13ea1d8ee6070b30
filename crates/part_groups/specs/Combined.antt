-- The report by groups over all parts.
use Rattle.std.specs.Prelude.{◌≡◌, ◌⊎◌, ℕ, List, length, map}
use Rattle.std.specs.List.{All}
use Rattle.std.specs.declared.option.Option.{Option}
use Rattle.query_model.specs.declared.query.ItemKind.{ItemKind}
use Rattle.report_text.specs.Answers.{CanBeWritten}
use Rattle.report_text.specs.declared.answers.Answer.{Answer}
use Rattle.report_text.specs.Groups.{IsShownGroup}
use Rattle.shard_groups.specs.Firsts.{IsFirstNotIn}
use Rattle.shard_groups.specs.Groups.{AreSaid, FitsSaid, IsCombined, Said}
use Rattle.shard_groups.specs.declared.cells.Cell.{Cell}
use Rattle.part_groups.specs.Cells.{told, told_by}
use Rattle.part_groups.specs.Faults.{IsFirstOther}
use Rattle.part_groups.specs.Forms.{AreAllAlike, AreSharedForms, AreWrittenAlike}
use Rattle.part_groups.specs.Shown.{group_in}
use Rattle.part_groups.specs.Texts.{texts_over}
use Rattle.part_groups.specs.declared.fault.CombineFault.{CombineFault}
use Rattle.part_groups.specs.declared.fault.CombineFault.TheVariants.{NoMemory, OtherColumn, OtherItem, TooWide}
use Rattle.part_groups.specs.declared.forms.EndsForm.{EndsForm}
use Rattle.part_groups.specs.declared.forms.Places.TheVariants.{Columns, Items}
use Rattle.part_groups.specs.declared.group.Group.{Group}

-- a report can show it
pub record IsShown (group : Group) : Type 0 where
  pub line : IsShownGroup group.line
  pub answers : All CanBeWritten group.answers

-- the lines over all parts: those of the cells that the parts' lines tell
pub record AreLinesOf (kinds : List ItemKind) (parts : List (List Group)) (lines : List Cell) : Type 0 where
  pub cells : List (List Cell)
  pub tell : map (map told) cells ≡ map (map told_by) parts
  pub combined : IsCombined kinds cells lines

-- the forms in which the parts write so many columns, and the items
pub record AreForms (count : ℕ) (kinds : List ItemKind) (parts : List (List Group)) (columns items : List (Option EndsForm)) : Type 0 where
  pub columns_shared : AreSharedForms Columns count parts columns
  pub items_shared : AreSharedForms Items (length kinds) parts items

-- the groups of the combined report: those of the lines over all parts, in the forms of the parts, with the texts of their keys
pub record IsCombinedReport (count : ℕ) (kinds : List ItemKind) (parts : List (List Group)) (groups : List Group) : Type 0 where
  pub columns : List (Option EndsForm)
  pub items : List (Option EndsForm)
  pub forms : AreForms count kinds parts columns items
  pub lines : List Cell
  pub are_lines : AreLinesOf kinds parts lines
  pub shown : groups ≡ map (λ line. group_in columns items (texts_over kinds parts) (told line)) lines

-- ---- where there is none

-- what the lines over all parts say of the items, line by line
pub record AreSaidOf (kinds : List ItemKind) (parts : List (List Group)) (said : List (List Said)) : Type 0 where
  pub cells : List (List Cell)
  pub tell : map (map told) cells ≡ map (map told_by) parts
  pub lines : AreSaid kinds cells said

-- all of it is told by numbers of the code
abbrev pub FitTogether : List ItemKind → List (List Group) → Type 0
FitTogether kinds parts = (said : List (List Said)) × AreSaidOf kinds parts said × All (All FitsSaid) said

-- in the first line of which an end leaves 128 bits, or a number of values 64, it is the first such item
abbrev pub LeavesRange : List ItemKind → List (List Group) → ℕ → Type 0
LeavesRange kinds parts item = (said : List (List Said)) × AreSaidOf kinds parts said × IsFirstNotIn FitsSaid said item

-- the answers of each group
abbrev pub answers_in : List Group → List (List Answer)
answers_in groups = map (λ group. group.answers) groups

-- in the first group of which an end has no text in the forms of the parts, it is the first such item
abbrev pub LacksText : ℕ → List ItemKind → List (List Group) → ℕ → Type 0
LacksText count kinds parts item =
    (groups : List Group) × IsCombinedReport count kinds parts groups × IsFirstNotIn CanBeWritten (answers_in groups) item

-- the first column that lines write in two forms; where there is none, the first such item; or, where there is none either, the first item
-- of the first line that is too wide, by what it says or else by its texts
abbrev pub IsCombineFault : CombineFault → ℕ → List ItemKind → List (List Group) → Type 0
IsCombineFault NoMemory count kinds parts = Unit {0}
IsCombineFault (OtherColumn column) count kinds parts = IsFirstOther Columns column count parts
IsCombineFault (OtherItem item) count kinds parts = AreAllAlike Columns count parts × IsFirstOther Items item (length kinds) parts
IsCombineFault (TooWide item) count kinds parts =
    AreWrittenAlike count kinds parts × (LeavesRange kinds parts item ⊎ (FitTogether kinds parts × LacksText count kinds parts item))

-- the same, of a step

abbrev pub IsWide : CombineFault → List ItemKind → List (List Group) → Type 0
IsWide NoMemory kinds parts = Unit {0}
IsWide (OtherColumn column) kinds parts = ⊥
IsWide (OtherItem item) kinds parts = ⊥
IsWide (TooWide item) kinds parts = LeavesRange kinds parts item
