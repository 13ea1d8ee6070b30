-- That a fault of groups, or of first rows, is one of the block.
use Rattle.std.proofs.Common.{ℕ, List}
use Rattle.query_model.specs.declared.query.ItemKind.{ItemKind}
use Rattle.part_groups.specs.Whole.{IsFaultOver}
use Rattle.part_groups.specs.declared.fault.CombineFault.{CombineFault as GroupsFault}
use Rattle.part_groups.specs.declared.fault.CombineFault.TheVariants as groups
use Rattle.part_groups.specs.declared.group.Group.{Group as GroupTold}
use Rattle.part_rows.specs.Combined.{PartListing}
use Rattle.part_rows.specs.Faults.{IsRowsFault}
use Rattle.part_rows.specs.declared.fault.RowsFault.{RowsFault}
use Rattle.part_rows.specs.declared.fault.RowsFault.TheVariants as rows
use Rattle.report_parts.specs.Faults.{IsGroupsFault, IsListFault, of_groups, of_rows}

pub groups_fault : (own : GroupsFault) (columns : ℕ) (kinds : List ItemKind) (all : List (List GroupTold)) → IsFaultOver own columns kinds all →
    IsGroupsFault (of_groups own) columns kinds all
groups_fault (groups.OtherColumn column) columns kinds all h = h
groups_fault (groups.OtherItem item) columns kinds all h = h
groups_fault (groups.TooWide item) columns kinds all h = h
groups_fault groups.NoMemory columns kinds all h = tt

pub list_fault : (own : RowsFault) (all : List PartListing) → IsRowsFault own all → IsListFault (of_rows own) all
list_fault (rows.UnclearTag part) all h = h
list_fault rows.OtherForm all h = h
list_fault rows.NoMemory all h = tt
