-- Which typed query a tree is, and what each refusal says.
use Rattle.std.specs.Prelude.{◌≡◌, ℕ, ◌<◌, List, Some, None, slice_get}
use Rattle.std.specs.List.{AllByRecursion}
use Rattle.daq_table.specs.Tables.{Frame, frame_of}
use Rattle.daq_table.specs.declared.table_head.Head.{Head}
use Rattle.query_model.specs.Projection.{projected_frame}
use Rattle.query_model.specs.Queries.{Aggregate, Query}
use Rattle.query_model.specs.Validity.{FitsItem}
use Rattle.sql_text.specs.Tree as tree
use Rattle.sql_typing.specs.Faults.{first_fault}
use Rattle.sql_typing.specs.Typing.{typed}
use Rattle.sql_typing.specs.declared.fault.TypeFault.{TypeFault}
use Rattle.sql_typing.specs.declared.fault.TypeFault.TheVariants.{UnknownTable, UnknownColumn, TooManyColumns, TooManyItems}
use Rattle.sql_typing.specs.declared.fault.TypeFault.TheVariants.{KindsDiffer, ScaleTooFine, NotGrouped, TooManyValues}
use Rattle.sql_typing.specs.declared.fault.TypeFault.TheVariants.{LimitOutOfRange, GroupTooWide, TooWide, NoMemory}

-- no check refuses the tree, and this is what it means
pub record IsTyped (q : tree.Query) (head : Head) (query : Query) : Type 0 where
  pub faultless : first_fault head.columns q ≡ None
  pub same : query ≡ typed head.columns q
  pub fits : AllByRecursion (FitsItem (projected_frame query (frame_of head))) query.items

-- the first of the items that can leave 128 bits is at that place
abbrev pub IsFirstUnfit : Frame → List Aggregate → ℕ → Type 0
IsFirstUnfit frame items place = ((i : ℕ) (item : Aggregate) → i < place → slice_get items i ≡ Some item → FitsItem frame item)
    × ((item : Aggregate) × (slice_get items place ≡ Some item) × ¬ FitsItem frame item)

-- all checks pass but that of 128 bits
pub record IsTooWide (q : tree.Query) (head : Head) (item : ℕ) : Type 0 where
  pub faultless : first_fault head.columns q ≡ None
  pub unfit : IsFirstUnfit (projected_frame (typed head.columns q) (frame_of head)) (typed head.columns q).items item

-- what a fault says of a tree: it is the first; want of memory says nothing
abbrev pub Refuses : tree.Query → Head → TypeFault → Type 0
Refuses q head (TooWide item) = IsTooWide q head item
Refuses q head NoMemory = Unit {0}
Refuses q head (UnknownTable at) = first_fault head.columns q ≡ Some (UnknownTable at)
Refuses q head (UnknownColumn at) = first_fault head.columns q ≡ Some (UnknownColumn at)
Refuses q head TooManyColumns = first_fault head.columns q ≡ Some TooManyColumns
Refuses q head TooManyItems = first_fault head.columns q ≡ Some TooManyItems
Refuses q head (KindsDiffer at) = first_fault head.columns q ≡ Some (KindsDiffer at)
Refuses q head (ScaleTooFine at) = first_fault head.columns q ≡ Some (ScaleTooFine at)
Refuses q head (NotGrouped at) = first_fault head.columns q ≡ Some (NotGrouped at)
Refuses q head (TooManyValues at) = first_fault head.columns q ≡ Some (TooManyValues at)
Refuses q head (LimitOutOfRange at) = first_fault head.columns q ≡ Some (LimitOutOfRange at)
Refuses q head (GroupTooWide bits) = first_fault head.columns q ≡ Some (GroupTooWide bits)
