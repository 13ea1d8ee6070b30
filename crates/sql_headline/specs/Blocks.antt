-- What blocks go by: the head and the planes read, and nothing else of a table.
use Rattle.std.specs.Prelude.{◌≡◌, ℕ, List}
use Rattle.std.specs.declared.option.Option.{Option}
use Rattle.daq_report.specs.Blocks.{block_text}
use Rattle.daq_table.specs.Tables.{Cells, frame_of}
use Rattle.daq_table.specs.declared.table_head.Head.{Head}
use Rattle.plane_schedule.specs.declared.policy.Extras.{Extras}
use Rattle.plane_schedule.specs.declared.policy.Listing.{Listing}
use Rattle.query_model.specs.Knowledge.{plane_of}
use Rattle.query_model.specs.Queries.{Query}
use Rattle.table_rounds.specs.Headline.{stage_of}
use Rattle.table_rounds.specs.Rounds.{HaveSame, counts_after}

-- two tables with one head and the same planes read have the same block
abbrev pub EqualPlanesGiveEqualBlocks : Type 0
EqualPlanesGiveEqualBlocks =
    (head : Head) (query : Query) (reads : List ℕ) (round : ℕ) (one other : Cells) (listing : Listing) (extras : Extras) →
    (last : Option ℕ) →
    HaveSame query (counts_after query reads round) (plane_of (frame_of head) one) (plane_of (frame_of head) other) →
    block_text head listing extras (stage_of query (frame_of head) one reads round) round last
    ≡ block_text head listing extras (stage_of query (frame_of head) other reads round) round last
