use Rattle.std.proofs.Common.{◌∙◌, sym, subst, to_z-of_z}
use Rattle.daq_table.specs.ValueTexts.{IsDay}
use Rattle.daq_table.proofs.DateParts.{text_of_parts, year_from}
use Rattle.daq_table.proofs.dates.date_text.Goals as goal

pub date_parts-requires : goal.date_parts-requires
date_parts-requires c = year_from c.in-Ok.date (subst IsDay (sym (c.in-Ok.ensures.value ∙ to_z-of_z c.ranges.day)) c.requires)

pub returns : goal.returns
returns c =
    let same = c.in-Ok.ensures.value ∙ to_z-of_z c.ranges.day in
    c.date_parts.ensures ∙ text_of_parts c.in-Ok.date c.args.day (year_from c.in-Ok.date (subst IsDay (sym same) c.requires)) same
