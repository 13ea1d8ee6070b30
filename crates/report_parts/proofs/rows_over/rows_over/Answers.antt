use Rattle.std.proofs.Common.{List, ap, subst, sym, ◌∙◌, All}
use Rattle.std.proofs.lemmas.Result.{err_from_is_err_and}
use Rattle.report_text.specs.RowBlocks.{RowsTold}
use Rattle.report_text.specs.Rows.{IsShownRow}
use Rattle.part_rows.specs.Combined.{PartListing, part_listings}
use Rattle.part_rows.specs.Faults.{IsRowsFault}
use Rattle.part_rows.specs.ReadBack.{AreShownParts}
use Rattle.report_parts.proofs.BlockFaults.{list_fault}
use Rattle.report_parts.proofs.Shown.{shown_here}
use Rattle.report_parts.specs.Rounds.{all_listed_in}
use Rattle.report_parts.proofs.rows_over.rows_over.Goals as goal

pub returns-in_err-combine_rows-clause-fault : goal.returns-in_err-combine_rows-clause-fault
returns-in_err-combine_rows-clause-fault c =
    let why = c.in_err-combine_rows.field-0.0 in
    let all = all_listed_in c.args.round c.args.parts.now in
    let same = ap part_listings c.deref.ensures.value ∙ c.in_ok-listed.ensures in
    let p = err_from_is_err_and c.from_residual-in_err-combine_rows.result c.from_residual-in_err-combine_rows.ensures.1 in
    rw (p.1, p.2) (list_fault why all (subst (λ (parts : List PartListing). IsRowsFault why parts) same c.in_err-combine_rows.ensures.fault))

pub returns-clause-shown : goal.returns-clause-shown
returns-clause-shown c =
    let same = ap part_listings c.deref.ensures.value ∙ c.in_ok-listed.ensures in
    let shown = subst (λ (parts : List PartListing). AreShownParts parts) (sym same) (shown_here c.args.round c.args.parts.now c.requires) in
    subst (λ (told : RowsTold). All IsShownRow told.rows) (sym c.in_ok-combine_rows.ensures.block)
    (c.lines_are_shown.ensures c.args.asked (part_listings c.deref.result.now) shown)
