use Rattle.std.proofs.Common.{rules, ◌≡◌, get_or, map, subst, sym}
use Rattle.std.proofs.lemmas.Result.{err_from_is_err_and}
use Rattle.part_groups.specs.Cells.{told}
use Rattle.part_groups.specs.Combined.{answers_in}
use Rattle.part_groups.specs.Faults.{IsTextlessIn}
use Rattle.part_groups.specs.Shown.{group_in}
use Rattle.part_groups.specs.Texts.{texts_with}
use Rattle.part_groups.specs.declared.fault.CombineFault.{CombineFault}
use Rattle.part_groups.proofs.Textless.{one_line_more, textless_line}
use Rattle.part_groups.proofs.combined.groups_in.Goals as goal

pub returns-in_err-group_in-clause-fault : goal.returns-in_err-group_in-clause-fault
returns-in_err-group_in-clause-fault c =
    let columns = c.args.columns.now in
    let items = c.args.items.now in
    let texts = texts_with c.args.kinds.now c.args.cells.now in
    let lines = c.args.lines.now in
    let line = c.line-item.result in
    let is : line ≡ get_or lines c.loop-line.line-index line = cc in
    let p = err_from_is_err_and c.from_residual-in_err-group_in.result c.from_residual-in_err-group_in.ensures.1 in
    let fault = textless_line columns items texts c.in_err-group_in.field-0.0 lines c.loop-line.line-index line c.loop-line.groups.items c.loop-line-test.true is
    c.loop-line.invariant.0 c.loop-line.invariant.1 c.in_err-group_in.ensures.fault in
    rw p.1
    (subst (λ (why : CombineFault). IsTextlessIn why (answers_in (map (λ line. group_in columns items texts (told line)) lines))) (sym p.2) fault)

pub loop-line-preserved : goal.loop-line-preserved
loop-line-preserved c =
    let texts = texts_with c.args.kinds.now c.args.cells.now in
    let lines = c.args.lines.now in
    let line = c.line-item.result in
    let is : line ≡ get_or lines c.loop-line.line-index line = cc in (
      one_line_more (λ l. group_in c.args.columns.now c.args.items.now texts (told l)) lines c.loop-line.line-index line c.loop-line.groups.items _
          c.in_ok-group_in.field-0 c.loop-line-test.true is c.loop-line.invariant.0 c.in_ok-group_in.ensures.group c.in_ok-push.ensures.items,
      search rules,
    )
