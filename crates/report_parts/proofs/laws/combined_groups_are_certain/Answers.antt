use Rattle.report_parts.proofs.GroupHeadlines.{groups_certain}
use Rattle.report_parts.proofs.laws.combined_groups_are_certain.Goals as goal

pub returns : goal.returns
returns c =
    groups_certain c.whole_is_combined.ensures c.groups_tell_keys.ensures c.groups_contain.ensures c.groups_nest.ensures c.groups_tell.ensures
    c.groups_report_averages.ensures c.groups_nest_averages.ensures c.groups_tell_averages.ensures
    c.groups_contain_texts.ensures c.groups_nest_texts.ensures c.groups_tell_texts.ensures c.besides_stand.ensures
