use Rattle.std.proofs.Common.{List, [], ◌∷◌, ◌++◌, All, ap, subst, sym, ◌∙◌}
use Rattle.std.proofs.lemmas.List.Elements.{All-push}
use Rattle.part_groups.specs.Combined.{IsShown}
use Rattle.part_groups.specs.declared.group.Group.{Group}
use Rattle.report_parts.proofs.GroupBesides.{one_more}
use Rattle.report_parts.specs.Beside.{groups_beside}
use Rattle.report_parts.proofs.group_besides.groups_beside.Goals as goal

pub loop-group-preserved : goal.loop-group-preserved
loop-group-preserved c =
    let besides = c.args.besides.now in
    let before = c.loop-group.yielded in
    let narrowed = c.in_ok-group_beside.field-0 in (
      c.in_ok-push.ensures.items ∙ ap (λ (groups : List Group). groups ++ narrowed ∷ []) c.loop-group.invariant.0
          ∙ ap (λ (group : Group). groups_beside besides before ++ group ∷ []) c.in_ok-group_beside.ensures.group
          ∙ sym (one_more besides before c.in-Some.group),
      subst (λ (groups : List Group). All IsShown groups) (sym c.in_ok-push.ensures.items)
          (All-push IsShown c.loop-group.narrowed.items narrowed c.loop-group.invariant.1 c.in_ok-group_beside.ensures.shown),
    )
