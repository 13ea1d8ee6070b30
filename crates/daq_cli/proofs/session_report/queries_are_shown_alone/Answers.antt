-- By the law of its stages, and of its blocks.
use Rattle.std.proofs.Common.{◌∙◌, length, suc}
use Rattle.daq_table.specs.Tables.{frame_of}
use Rattle.table_rounds.specs.Steps.{own_reads, places_read}
use Rattle.daq_cli.proofs.ShownAlone.{listed_alike, shown_alone}
use Rattle.daq_cli.proofs.session_report.queries_are_shown_alone.Goals as goal

pub returns : goal.returns
returns c = λ plan queries head bits reads q query steps there.
    let places = places_read queries reads in
    let own = own_reads plan.near (frame_of head) bits places query (length reads) in
    record {
      rounds = (c.queries_stand_alone.ensures plan queries head bits reads q query steps there).rounds;
      blocks = shown_alone head plan query bits places (length reads) ∙ listed_alike head plan query bits own own (suc (length own));
    }
