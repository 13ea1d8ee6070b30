-- What a follower keeps of a query, beside the columns that are lent to it.
use Rattle.std.specs.Prelude.{◌≡◌, ℕ, Bool, List}
use Rattle.daq_table.specs.declared.table_head.Head.{Head}
use Rattle.daq_table.specs.Tables.{frame_of}
use Rattle.known_column.specs.KnownTables.{KnownTable, unread_table}
use Rattle.query_model.specs.Projection.{projected_frame}
use Rattle.query_model.specs.Queries.{Query}
use Rattle.query_model.specs.Validity.{IsValid}
use Rattle.round_engine.specs.declared.follower.Follower.{Follower}
use Rattle.round_engine.specs.Engines.{IsKept, WasKept}

-- the query that a follower answers
abbrev pub query_of : Follower → Query
query_of follower = follower.query

-- the columns are those of a query that is valid on a head, and nothing is read of them
pub record AreUnreadFor (query : Query) (columns : KnownTable) : Type 0 where
  pub head : Head
  pub valid : IsValid head query
  pub unread : columns ≡ unread_table (projected_frame query (frame_of head))

-- what is kept is that of the query over these columns
abbrev pub Follows : KnownTable → Follower → Type 0
Follows columns follower = IsKept (query_of follower) columns follower.state

-- what is kept was that of before these bits were read as the next plane of a column
abbrev pub HasFollowed : KnownTable → ℕ → List Bool → Follower → Type 0
HasFollowed columns column bits follower = WasKept (query_of follower) columns column bits follower.state
