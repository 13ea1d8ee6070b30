use Rattle.std.proofs.Common.{sym, ap, ◌∙◌}
use Rattle.std.specs.List.{list_all}
use Rattle.std.proofs.lemmas.List.Folds.{list_all-map}
use Rattle.query_model.specs.Groups.{is_one_value}
use Rattle.row_groups.specs.Partition.{range_for}
use Rattle.round_engine.proofs.one_key.has_one_key.Goals as goal

pub returns-in-Some : goal.returns-in-Some
returns-in-Some c = λ legal. c.are_one_value.ensures ∙ sym (list_all-map is_one_value range_for c.parts.result.now) ∙ ap (list_all is_one_value) (c.parts.ensures ∙ c.in-Some.ensures.keys)
