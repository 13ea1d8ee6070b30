-- Which blocks can be written, and why one is not: at the first item, or group column, that keeps it from it.
use Rattle.std.specs.Prelude.{◌≡◌, ℕ, zero, suc, ◌<◌, List, length, slice_get}
use Rattle.std.specs.declared.option.Option.{Option}
use Rattle.std.specs.declared.option.Option.TheVariants.{Some, None}
use Rattle.query_model.specs.declared.query.ItemKind.{ItemKind}
use Rattle.part_groups.specs.Whole.{CanBeCombined, IsFaultOver}
use Rattle.part_groups.specs.declared.group.Group.{Group as GroupTold}
use Rattle.part_rows.specs.Combined.{PartListing}
use Rattle.part_groups.specs.declared.fault.CombineFault.{CombineFault as GroupsFault}
use Rattle.part_groups.specs.declared.fault.CombineFault.TheVariants as groups
use Rattle.part_rows.specs.Faults.{AreAlike as AreRowsAlike, AreClear, IsRowsFault}
use Rattle.part_rows.specs.declared.fault.RowsFault.{RowsFault}
use Rattle.part_rows.specs.declared.fault.RowsFault.TheVariants as rows
use Rattle.query_kinds.specs.declared.rows.FirstRows.{FirstRows}
use Rattle.report_parts.specs.Combined.{AreAlikeEntries, FitEntries}
use Rattle.report_parts.specs.Rounds.{all_groups_in, all_listed_in, entries_in}
use Rattle.report_parts.specs.Told.{Told}
use Rattle.report_parts.specs.declared.entry.Entry.{Entry}
use Rattle.report_parts.specs.declared.fault.BlockFault.{BlockFault}
use Rattle.report_parts.specs.declared.fault.BlockFault.TheVariants.{NoMemory, OtherColumn, OtherItem, OtherForm, TooWide, UnclearTag}
use Rattle.report_parts.specs.declared.shape.Shape.{Shape}

-- ---- which can be written

-- what the parts say of an item of that kind has one form, and over all parts it fits
pub record CanBeSaid (kind : ItemKind) (entries : List Entry) : Type 0 where
  pub alike : AreAlikeEntries entries
  pub fit : FitEntries kind entries

-- so it is of each item before that place
abbrev pub CanSayBefore : ℕ → ℕ → List ItemKind → List Told → Type 0
CanSayBefore place round kinds parts =
    (item : ℕ) (kind : ItemKind) → item < place → slice_get kinds item ≡ Some kind → CanBeSaid kind (entries_in round item parts)

abbrev pub CanSayBy : ℕ → Option FirstRows → ℕ → List ItemKind → List Told → Type 0
CanSayBy zero None round kinds parts = CanSayBefore (length kinds) round kinds parts
CanSayBy zero (Some asked) round kinds parts = AreClear (all_listed_in round parts) × AreRowsAlike (all_listed_in round parts)
CanSayBy (suc columns) asked round kinds parts = CanBeCombined (suc columns) kinds (all_groups_in round parts)

-- so each block over all parts is that is written: each item can be said, or, where there are group columns, the groups of all parts can be
-- combined, or, where first rows are asked for, the tags of the parts are clear, and all keys are written in one form
abbrev pub CanSay : ℕ → Shape → List Told → Type 0
CanSay round shape parts = CanSayBy shape.columns shape.rows round shape.kinds parts

-- ---- why one is not

-- why an item of that kind cannot be said
abbrev pub IsItemFault : BlockFault → ℕ → ItemKind → List Entry → Type 0
IsItemFault (OtherColumn column) item kind entries = ⊥
IsItemFault (OtherItem place) item kind entries = (place ≡ item) × ¬ AreAlikeEntries entries
IsItemFault (TooWide place) item kind entries = (place ≡ item) × AreAlikeEntries entries × ¬ FitEntries kind entries
IsItemFault (UnclearTag part) item kind entries = ⊥
IsItemFault OtherForm item kind entries = ⊥
IsItemFault NoMemory item kind entries = Unit {0}

-- of the items the first that cannot be said, and why
pub record IsFirstFault (why : BlockFault) (round : ℕ) (kinds : List ItemKind) (parts : List Told) : Type 0 where
  pub item : ℕ
  pub kind : ItemKind
  pub there : slice_get kinds item ≡ Some kind
  pub before : CanSayBefore item round kinds parts
  pub fault : IsItemFault why item kind (entries_in round item parts)

abbrev pub IsTotalsFault : BlockFault → ℕ → List ItemKind → List Told → Type 0
IsTotalsFault (OtherColumn column) round kinds parts = IsFirstFault (OtherColumn column) round kinds parts
IsTotalsFault (OtherItem item) round kinds parts = IsFirstFault (OtherItem item) round kinds parts
IsTotalsFault (TooWide item) round kinds parts = IsFirstFault (TooWide item) round kinds parts
IsTotalsFault (UnclearTag part) round kinds parts = IsFirstFault (UnclearTag part) round kinds parts
IsTotalsFault OtherForm round kinds parts = IsFirstFault OtherForm round kinds parts
IsTotalsFault NoMemory round kinds parts = Unit {0}

-- a fault of groups
abbrev pub of_groups : GroupsFault → BlockFault
of_groups (groups.OtherColumn column) = OtherColumn column
of_groups (groups.OtherItem item) = OtherItem item
of_groups (groups.TooWide item) = TooWide item
of_groups groups.NoMemory = NoMemory

abbrev pub IsGroupsFault : BlockFault → ℕ → List ItemKind → List (List GroupTold) → Type 0
IsGroupsFault (OtherColumn column) columns kinds all = IsFaultOver (groups.OtherColumn column) columns kinds all
IsGroupsFault (OtherItem item) columns kinds all = IsFaultOver (groups.OtherItem item) columns kinds all
IsGroupsFault (TooWide item) columns kinds all = IsFaultOver (groups.TooWide item) columns kinds all
IsGroupsFault (UnclearTag part) columns kinds all = ⊥
IsGroupsFault OtherForm columns kinds all = ⊥
IsGroupsFault NoMemory columns kinds all = Unit {0}

-- a fault of first rows
abbrev pub of_rows : RowsFault → BlockFault
of_rows (rows.UnclearTag part) = UnclearTag part
of_rows rows.OtherForm = OtherForm
of_rows rows.NoMemory = NoMemory

abbrev pub IsListFault : BlockFault → List PartListing → Type 0
IsListFault (OtherColumn column) all = ⊥
IsListFault (OtherItem item) all = ⊥
IsListFault (TooWide item) all = ⊥
IsListFault (UnclearTag part) all = IsRowsFault (rows.UnclearTag part) all
IsListFault OtherForm all = IsRowsFault rows.OtherForm all
IsListFault NoMemory all = Unit {0}

abbrev pub IsFaultBy : ℕ → Option FirstRows → BlockFault → ℕ → List ItemKind → List Told → Type 0
IsFaultBy zero None why round kinds parts = IsTotalsFault why round kinds parts
IsFaultBy zero (Some asked) why round kinds parts = IsListFault why (all_listed_in round parts)
IsFaultBy (suc columns) asked why round kinds parts = IsGroupsFault why (suc columns) kinds (all_groups_in round parts)

abbrev pub IsBlockFault : BlockFault → ℕ → Shape → List Told → Type 0
IsBlockFault why round shape parts = IsFaultBy shape.columns shape.rows why round shape.kinds parts
