-- Equal planes give equal blocks.
use Rattle.std.proofs.Common.{ap}
use Rattle.daq_report.specs.Blocks.{block_text}
use Rattle.daq_table.specs.Tables.{frame_of}
use Rattle.query_model.specs.Knowledge.{plane_of}
use Rattle.round_engine.specs.Stages.{Stage}
use Rattle.table_rounds.specs.Headline.{PlanesTellStages}
use Rattle.table_rounds.specs.Rounds.{counts_after}
use Rattle.sql_headline.specs.Blocks.{EqualPlanesGiveEqualBlocks}

pub same_blocks : PlanesTellStages → EqualPlanesGiveEqualBlocks
same_blocks tell head query reads round one other listing extras last same =
    ap (λ (s : Stage). block_text head listing extras s round last)
    (tell query (frame_of head) (plane_of (frame_of head) one) (plane_of (frame_of head) other) (counts_after query reads round) same)
