-- The report by groups over all parts, as a function of what the parts tell.
use native.Mathlib.Omega.{arith}
use Rattle.std.specs.Prelude.{◌≡◌, ◌≢◌, ◌⊎◌, ℕ, Bool, true, false, ◌||◌, List, length, map, max, IsTrue}
use Rattle.std.specs.List.{All, list_all, range_with_len}
use Rattle.std.specs.declared.option.Option.{Option}
use Rattle.std.specs.declared.option.Option.TheVariants.{Some, None}
use Rattle.interval_calc.specs.declared.Fraction.{Fraction}
use Rattle.query_model.specs.declared.query.ItemKind.{ItemKind}
use Rattle.query_model.specs.declared.bounds.AverageBound.{AverageBound}
use Rattle.report_text.specs.Answers.{CanBeWritten}
use Rattle.report_text.specs.declared.answers.Answer.{Answer}
use Rattle.report_text.specs.declared.answers.Answer.TheVariants as report
use Rattle.report_text.specs.declared.averages.Ratio.{Ratio}
use Rattle.report_text.specs.declared.averages.ShownAverage.{ShownAverage}
use Rattle.report_text.specs.Groups.{IsShownGroup}
use Rattle.report_text.specs.declared.keys.ShownEnds.{ShownEnds}
use Rattle.report_text.specs.declared.keys.ShownEnds.TheVariants as shown
use Rattle.report_text.specs.declared.keys.ShownSpan.{ShownSpan}
use Rattle.shard_groups.specs.Firsts.{IsFirstNotIn}
use Rattle.shard_groups.specs.Found.{Line, combined_lines}
use Rattle.shard_groups.specs.Groups.{FitsSaid, Said}
use Rattle.shard_groups.specs.declared.cells.Cell.{Cell}
use Rattle.shard_groups.specs.declared.cells.ItemBound.{ItemBound}
use Rattle.shard_groups.specs.declared.cells.ItemBound.TheVariants as code
use Rattle.part_groups.specs.Cells.{Told, keys_of}
use Rattle.part_groups.specs.Combined.{FitTogether, IsCombineFault, IsCombinedReport, IsShown, answers_in}
use Rattle.part_groups.specs.Faults.{IsFirstOther}
use Rattle.part_groups.specs.Forms.{AreAllAlike, AreWrittenAlike, shared_form, told_over}
use Rattle.part_groups.specs.Shown.{group_in}
use Rattle.part_groups.specs.Texts.{texts_over}
use Rattle.part_groups.specs.declared.fault.CombineFault.{CombineFault}
use Rattle.part_groups.specs.declared.fault.CombineFault.TheVariants.{NoMemory, OtherColumn, OtherItem, TooWide}
use Rattle.part_groups.specs.declared.forms.EndsForm.{EndsForm}
use Rattle.part_groups.specs.declared.forms.Places.{Places}
use Rattle.part_groups.specs.declared.forms.Places.TheVariants.{Columns, Items}
use Rattle.part_groups.specs.declared.group.Group.{Group}

abbrev pub code_fraction : Ratio → Fraction
code_fraction ratio = record { num = ratio.sum.units; den = max ratio.rows 1; divisible = omega arith }

abbrev pub code_average : ShownAverage → AverageBound
code_average shown = record { null = shown.null; lo = code_fraction shown.low; hi = code_fraction shown.high }

abbrev pub item_by : Answer → ItemBound
item_by (report.Value shown) = code.Value shown.bound
item_by (report.Average shown) = code.Average (code_average shown)

-- the cell that the line of a group and the answers of its items tell
abbrev pub cell_by : Group → Cell
cell_by group = record { keys = keys_of group.line.keys; present = group.line.present; items = map item_by group.answers }

abbrev pub cells_by : List (List Group) → List (List Cell)
cells_by parts = map (map cell_by) parts

-- the form that the parts share of each of so many columns, or items
abbrev pub forms_over : Places → ℕ → List (List Group) → List (Option EndsForm)
forms_over places count parts = map (λ number. shared_form (told_over places number parts)) (range_with_len 0 count)

abbrev pub told_line : Line → Told
told_line line = record { keys = line.keys; present = line.present; items = line.said }

-- the groups over all parts of a query with so many group columns, and with items of these kinds
abbrev pub groups_over : ℕ → List ItemKind → List (List Group) → List Group
groups_over count kinds parts =
    map
    (λ line. group_in (forms_over Columns count parts) (forms_over Items (length kinds) parts) (texts_over kinds parts) (told_line line))
    (combined_lines kinds (cells_by parts))

-- null is allowed, or a value
abbrev pub has_value : Option ShownEnds → Bool
has_value None = false
has_value (Some (shown.Values ends)) = true
has_value (Some (shown.Texts ends)) = true
has_value (Some shown.NoText) = false

-- each column allows something: the dash of a column without texts says that it does not
abbrev pub has_key : List ShownSpan → Bool
has_key spans = list_all (λ span. span.null || has_value span.ends) spans

-- a report shows the line, and it has a key of so many parts
pub record IsKeyed (count : ℕ) (group : Group) : Type 0 where
  pub shown : IsShownGroup group.line
  pub key : IsTrue (has_key group.line.keys)
  pub columns : length group.line.keys ≡ count

abbrev pub AreKeyed : ℕ → List (List Group) → Type 0
AreKeyed count parts = All (λ groups. All (IsKeyed count) groups) parts

-- where each line has a key of so many parts, the combined report is this
abbrev pub CombinedIsWhole : Type 0
CombinedIsWhole =
    (count : ℕ) (kinds : List ItemKind) (parts : List (List Group)) (groups : List Group) → AreKeyed count parts →
    IsCombinedReport count kinds parts groups → groups ≡ groups_over count kinds parts

-- where the parts write each of so many columns in one form, and so each item, this is a combined report
abbrev pub WholeIsCombined : Type 0
WholeIsCombined =
    (count : ℕ) (kinds : List ItemKind) (parts : List (List Group)) → AreWrittenAlike count kinds parts →
    IsCombinedReport count kinds parts (groups_over count kinds parts)

-- ---- whether there is one

-- what the lines over all parts say of the items, line by line
abbrev pub said_over : List ItemKind → List (List Group) → List (List Said)
said_over kinds parts = map (λ line. line.said) (combined_lines kinds (cells_by parts))

-- the answers of each group over all parts
abbrev pub answers_over : ℕ → List ItemKind → List (List Group) → List (List Answer)
answers_over count kinds parts = answers_in (groups_over count kinds parts)

-- each column and each item is written in one form; all that the lines say is told by numbers of the code, which have texts
pub record CanBeCombined (count : ℕ) (kinds : List ItemKind) (parts : List (List Group)) : Type 0 where
  pub alike : AreWrittenAlike count kinds parts
  pub fit : All (All FitsSaid) (said_over kinds parts)
  pub written : All (All CanBeWritten) (answers_over count kinds parts)

-- in the first line of which an end leaves 128 bits, or a number of values 64, it is the first such item; where there is no such line, so
-- it is with the ends that have no text
abbrev pub IsTooWideOver : ℕ → List ItemKind → List (List Group) → ℕ → Type 0
IsTooWideOver count kinds parts item =
    IsFirstNotIn FitsSaid (said_over kinds parts) item
    ⊎ (All (All FitsSaid) (said_over kinds parts) × IsFirstNotIn CanBeWritten (answers_over count kinds parts) item)

-- the first column that lines write in two forms; where there is none, the first such item; or, where there is none either, an item that
-- is too wide
abbrev pub IsFaultOver : CombineFault → ℕ → List ItemKind → List (List Group) → Type 0
IsFaultOver NoMemory count kinds parts = Unit {0}
IsFaultOver (OtherColumn column) count kinds parts = IsFirstOther Columns column count parts
IsFaultOver (OtherItem item) count kinds parts = AreAllAlike Columns count parts × IsFirstOther Items item (length kinds) parts
IsFaultOver (TooWide item) count kinds parts = AreWrittenAlike count kinds parts × IsTooWideOver count kinds parts item

-- where each line has a key of so many parts, reports that are combined can be
abbrev pub CombinedCanBe : Type 0
CombinedCanBe =
    (count : ℕ) (kinds : List ItemKind) (parts : List (List Group)) (groups : List Group) → AreKeyed count parts →
    IsCombinedReport count kinds parts groups → FitTogether kinds parts → All IsShown groups → CanBeCombined count kinds parts

-- and where they are not, this is why
abbrev pub FaultsAreWhole : Type 0
FaultsAreWhole =
    (why : CombineFault) (count : ℕ) (kinds : List ItemKind) (parts : List (List Group)) → AreKeyed count parts →
    IsCombineFault why count kinds parts → IsFaultOver why count kinds parts

-- reports have one fault at most, and none where they can be combined
pub record FaultsAreOne : Type 0 where
  pub alone : (why other : CombineFault) (count : ℕ) (kinds : List ItemKind) (parts : List (List Group)) → why ≢ NoMemory →
      other ≢ NoMemory → IsFaultOver why count kinds parts → IsFaultOver other count kinds parts → why ≡ other
  pub none : (why : CombineFault) (count : ℕ) (kinds : List ItemKind) (parts : List (List Group)) → why ≢ NoMemory →
      IsFaultOver why count kinds parts → CanBeCombined count kinds parts → ⊥
