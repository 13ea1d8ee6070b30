-- How a column is stored: its dictionary, its ends and its cells.
use Rattle.std.specs.Prelude.{◌≡◌, ℕ, ℤ, pos, false, Some, List, map, slice_get}
use Rattle.daq_table.specs.Tables.{Cell, Contents, ends_of, value_of}
use Rattle.daq_table.specs.declared.head.ColumnHead.{ColumnHead}
use Rattle.daq_table.specs.declared.head.Kind.{Kind}
use Rattle.daq_table.specs.Dictionaries.{distinct, rank_of}
use Rattle.daq_table.specs.Extremes.{greatest, least}

-- the ranks of the texts in their dictionary
abbrev pub ranks_of : List (List ℕ) → List ℤ
ranks_of texts = map (λ text. pos (rank_of (distinct texts) text)) texts

-- base and top are the least and the greatest of these numbers, and the cells stand for them, none of them null
pub record Stores (name : List ℕ) (kind : Kind) (names : List (List ℕ)) (numbers : List ℤ)
    (head : ColumnHead) (cells : List Cell) : Type 0 where
  pub name_is : head.name ≡ name
  pub kind_is : head.kind ≡ kind
  pub plain : head.nullable ≡ false
  pub names_are : head.names ≡ names
  pub base : head.base ≡ least numbers
  pub top : head.top ≡ greatest numbers
  pub cells_are : map (value_of (ends_of head)) cells ≡ map Some numbers

-- the column at that place stores them
pub record HasColumn (table : Contents) (place : ℕ) (name : List ℕ) (kind : Kind) (names : List (List ℕ)) (numbers : List ℤ) : Type 0 where
  pub head : ColumnHead
  pub cells : List Cell
  pub head_is : slice_get table.head.columns place ≡ Some head
  pub cells_are : slice_get table.cells place ≡ Some cells
  pub stores : Stores name kind names numbers head cells
