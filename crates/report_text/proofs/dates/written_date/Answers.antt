use Rattle.std.proofs.Common.{◌∙◌, sym, subst, to_z-of_z}
use Rattle.daq_table.specs.ValueTexts.{IsDay}
use Rattle.daq_table.proofs.DateParts.{text_of_parts, year_from}
use Rattle.report_text.proofs.dates.written_date.Goals as goal

pub written_parts-requires : goal.written_parts-requires
written_parts-requires c = year_from c.in-Ok.date (subst IsDay (sym (c.in-Ok.ensures.value ∙ to_z-of_z c.ranges.day)) c.requires)

pub returns-clause-text : goal.returns-clause-text
returns-clause-text c =
    let same = c.in-Ok.ensures.value ∙ to_z-of_z c.ranges.day in
    c.written_parts.ensures.text ∙ text_of_parts c.in-Ok.date c.args.day (year_from c.in-Ok.date (subst IsDay (sym same) c.requires)) same
