use Rattle.std.proofs.Common.{not, ap, ◌∙◌}
use Rattle.plane_file.proofs.Titles.{list_any-titles}
use Rattle.plane_file.proofs.fields.is_new.Goals as goal

pub returns : goal.returns
returns c = ap not (c.has_name.ensures ∙ list_any-titles c.args.columns.now c.args.title.now)
