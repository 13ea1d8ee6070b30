-- What was written is certain, and each fault is its cause.
use Rattle.command_line.specs.Values.{combine_of}
use Rattle.daq_cli.proofs.Combine.{combine_done}
use Rattle.daq_cli.proofs.commands.combine.carry_out.Goals as goal

pub returns-in-Ok-clause-done : goal.returns-in-Ok-clause-done
returns-in-Ok-clause-done g c =
    combine_done c.combined_is_certain.ensures c.combined_averages_are_certain.ensures c.combined_besides_are_certain.ensures c.combined_clips_are_certain.ensures
    c.combined_exact_averages_are_certain.ensures c.combined_groups_are_certain.ensures c.combined_rows_are_certain.ensures c.combined_texts_are_certain.ensures c.combined_text_clips_are_certain.ensures
    (combine_of c.args.asked.now) (g.S.Source.state c.args.input.now) (g.S.Source.state c.combine_reports.new.input)
    (g.K.Sink.state c.args.out.now) (g.K.Sink.state c.combine_reports.new.out) c.in-Ok.ensures.done

pub returns-in-Err-clause-refused : goal.returns-in-Err-clause-refused
returns-in-Err-clause-refused g c = record { fault = c.in-Err.fault; is = c.refused_reports.ensures; cause = c.in-Err.ensures.refused }
