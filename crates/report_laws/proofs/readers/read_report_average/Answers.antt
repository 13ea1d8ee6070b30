use Rattle.std.proofs.Common.{sym, ◌∙◌}
use Rattle.report_laws.proofs.Shown.{averages_can, averages_shown}
use Rattle.report_laws.specs.Laws.{average_of}
use Rattle.report_laws.proofs.readers.read_report_average.Goals as goal

pub returns : goal.returns
returns c = λ head query face decimals bound is_face plain e.
    c.read_average.ensures.read (average_of decimals bound) (averages_can decimals bound plain) (sym (averages_shown head query face decimals bound is_face) ∙ e)
