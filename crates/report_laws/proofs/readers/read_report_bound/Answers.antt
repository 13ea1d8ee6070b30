use Rattle.std.proofs.Common.{sym, ◌∙◌}
use Rattle.report_laws.proofs.Shown.{bounds_can, bounds_shown}
use Rattle.report_laws.specs.Laws.{shown_of}
use Rattle.report_laws.proofs.readers.read_report_bound.Goals as goal

pub returns : goal.returns
returns c = λ head query face form bound is_face plain e.
    c.read_bound.ensures.read (shown_of form bound) (bounds_can form bound plain) (sym (bounds_shown head query face form bound is_face) ∙ e)
