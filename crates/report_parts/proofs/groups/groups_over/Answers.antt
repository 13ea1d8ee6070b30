use Rattle.std.proofs.Common.{List, ap, subst, ◌∙◌}
use Rattle.std.proofs.lemmas.Result.{err_from_is_err_and}
use Rattle.part_groups.specs.Cells.{slices}
use Rattle.part_groups.specs.Combined.{IsCombineFault}
use Rattle.part_groups.specs.declared.group.Group.{Group}
use Rattle.report_parts.proofs.BlockFaults.{groups_fault}
use Rattle.report_parts.specs.Rounds.{all_groups_in}
use Rattle.report_parts.proofs.groups.groups_over.Goals as goal

pub returns-in_err-combine-clause-fault : goal.returns-in_err-combine-clause-fault
returns-in_err-combine-clause-fault c =
    let why = c.in_err-combine.field-0.0 in
    let columns = c.args.columns in
    let kinds = c.args.kinds.now in
    let all = all_groups_in c.args.round c.args.parts.now in
    let same = ap slices c.deref.ensures.value ∙ c.in_ok-groups.ensures in
    let p = err_from_is_err_and c.from_residual-in_err-combine.result c.from_residual-in_err-combine.ensures.1 in
    let own = subst (λ (parts : List (List Group)). IsCombineFault why columns kinds parts) same c.in_err-combine.ensures.fault in
    rw (p.1, p.2) (groups_fault why columns kinds all (c.faults_are_whole.ensures why columns kinds all c.requires.keyed own))
