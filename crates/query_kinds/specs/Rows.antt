-- The first rows in an order that a query asks for.
use Rattle.std.specs.Prelude.{◌≡◌, ℕ, List, pos, ◌≤ℤ◌, unsigned_abs}
use Rattle.std.specs.declared.option.Option.{Option}
use Rattle.std.specs.declared.option.Option.TheVariants.{Some, None}
use Rattle.query_model.specs.declared.query.ItemKind.{ItemKind}
use Rattle.sql_text.specs.declared.tree.Num.{Num}
use Rattle.sql_text.specs.Tree.{Name, Ordered, Query}
use Rattle.query_kinds.specs.Kinds.{Asks, IsNoQuery, IsQueryLine}
use Rattle.query_kinds.specs.declared.fault.KindsFault.{KindsFault}
use Rattle.query_kinds.specs.declared.fault.KindsFault.TheVariants as faults
use Rattle.query_kinds.specs.declared.rows.FirstRows.{FirstRows}

-- a number without decimals
pub record HasNumber (limit : Num) : Type 0 where
  pub whole : limit.scale ≡ 0
  pub above : pos 0 ≤ℤ limit.units

abbrev pub number_of : Num → ℕ
number_of limit = unsigned_abs limit.units

-- the query has an order, in this direction, and this limit
pub record IsByOrder (query : Query) (rows : FirstRows) : Type 0 where
  pub key : Name
  pub limit : Num
  pub ordered : query.ending ≡ Ordered key rows.down limit
  pub has_number : HasNumber limit
  pub number : rows.limit ≡ number_of limit

abbrev pub IsNotByOrder : Query → Type 0
IsNotByOrder query = (rows : FirstRows) → IsByOrder query rows → ⊥

-- the line is that of a query of these rows
pub record AsksRows (line : List ℕ) (rows : FirstRows) : Type 0 where
  pub query : Query
  pub is_line : IsQueryLine line query
  pub by_order : IsByOrder query rows

-- the line is that of a query of no first rows
pub record AsksNoRows (line : List ℕ) : Type 0 where
  pub query : Query
  pub is_line : IsQueryLine line query
  pub not_by_order : IsNotByOrder query

abbrev pub MayAskRows : List ℕ → Option FirstRows → Type 0
MayAskRows line (Some rows) = AsksRows line rows
MayAskRows line None = AsksNoRows line

abbrev pub IsRowsFault : List ℕ → KindsFault → Type 0
IsRowsFault line faults.NoQuery = IsNoQuery line
IsRowsFault line faults.NoTotals = ⊥
IsRowsFault line faults.NoMemory = Unit {0}

-- a line asks for first rows in one way at most, and then for no totals and no groups
pub record RowsAreOne : Type 0 where
  pub same : (line : List ℕ) (one other : FirstRows) → AsksRows line one → AsksRows line other → one ≡ other
  pub not_other : (line : List ℕ) (rows : FirstRows) → AsksRows line rows → AsksNoRows line → ⊥
  pub no_items : (line : List ℕ) (rows : FirstRows) (kinds : List ItemKind) (columns : ℕ) → AsksRows line rows → Asks line kinds columns → ⊥
