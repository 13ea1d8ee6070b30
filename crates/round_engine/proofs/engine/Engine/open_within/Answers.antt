use Rattle.std.proofs.Common.{ap, ◌∙◌}
use Rattle.daq_table.specs.Tables.{frame_of}
use Rattle.known_column.specs.KnownTables.{frame_at, unread_table}
use Rattle.query_model.specs.Queries.{Query}
use Rattle.round_engine.proofs.engine.Engine.open_within.Goals as goal

pub open-requires-2 : goal.open-requires-2
open-requires-2 c = record {
  unread = record {
    head = c.args.head.now;
    valid = c.requires.valid;
    unread = c.lend.ensures ∙ c.in_ok-columns.ensures
        ∙ ap (λ places. unread_table (frame_at (frame_of c.args.head.now) places)) (c.as_slice.ensures ∙ ap (λ (q : Query). q.columns) c.query.view_is);
  };
}
