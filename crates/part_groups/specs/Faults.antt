-- Why the reports of parts are not combined.
use Rattle.std.specs.Prelude.{◌≡◌, ℕ, ◌<◌, List}
use Rattle.shard_groups.specs.Firsts.{IsFirstNot, IsFirstNotIn}
use Rattle.shard_groups.specs.declared.fault.GroupFault.{GroupFault}
use Rattle.shard_groups.specs.declared.fault.GroupFault.TheVariants as cells
use Rattle.report_text.specs.Answers.{CanBeWritten}
use Rattle.report_text.specs.declared.answers.Answer.{Answer}
use Rattle.part_groups.specs.Forms.{AreAlike, AreAllAlike}
use Rattle.part_groups.specs.declared.fault.CombineFault.{CombineFault}
use Rattle.part_groups.specs.declared.fault.CombineFault.TheVariants.{NoMemory, OtherColumn, OtherItem, TooWide}
use Rattle.part_groups.specs.declared.forms.Places.{Places}
use Rattle.part_groups.specs.declared.forms.Places.TheVariants.{Columns, Items}
use Rattle.part_groups.specs.declared.group.Group.{Group}

abbrev pub fault_of : GroupFault → CombineFault
fault_of (cells.TooWide item) = TooWide item
fault_of cells.NoMemory = NoMemory

abbrev pub other_form : Places → ℕ → CombineFault
other_form Columns number = OtherColumn number
other_form Items number = OtherItem number

-- two lines write that column or item in other forms, or memory ran out
abbrev pub IsFormFault : CombineFault → Places → ℕ → List (List Group) → Type 0
IsFormFault NoMemory places number parts = Unit {0}
IsFormFault (OtherColumn column) places number parts = (places ≡ Columns) × (column ≡ number) × ¬ AreAlike places number parts
IsFormFault (OtherItem item) places number parts = (places ≡ Items) × (item ≡ number) × ¬ AreAlike places number parts
IsFormFault (TooWide item) places number parts = ⊥

-- of so many columns or items it is the first that lines write in two forms
pub record IsFirstOther (places : Places) (number count : ℕ) (parts : List (List Group)) : Type 0 where
  pub there : number < count
  pub other : ¬ AreAlike places number parts
  pub before : AreAllAlike places number parts

abbrev pub IsOtherForm : CombineFault → Places → ℕ → List (List Group) → Type 0
IsOtherForm NoMemory places count parts = Unit {0}
IsOtherForm (OtherColumn column) places count parts = (places ≡ Columns) × IsFirstOther Columns column count parts
IsOtherForm (OtherItem item) places count parts = (places ≡ Items) × IsFirstOther Items item count parts
IsOtherForm (TooWide item) places count parts = ⊥

-- of these answers it is the first of which an end has no text
abbrev pub IsTextless : CombineFault → List Answer → Type 0
IsTextless NoMemory answers = Unit {0}
IsTextless (OtherColumn column) answers = ⊥
IsTextless (OtherItem item) answers = ⊥
IsTextless (TooWide item) answers = IsFirstNot CanBeWritten answers item

-- so it is of the first line that has one
abbrev pub IsTextlessIn : CombineFault → List (List Answer) → Type 0
IsTextlessIn NoMemory lines = Unit {0}
IsTextlessIn (OtherColumn column) lines = ⊥
IsTextlessIn (OtherItem item) lines = ⊥
IsTextlessIn (TooWide item) lines = IsFirstNotIn CanBeWritten lines item
