use Rattle.std.proofs.Common.{◌≡◌, ap, map}
use Rattle.std.proofs.lemmas.Result.{IfOk-weaker}
use Rattle.part_groups.specs.Cells.{slices, told}
use Rattle.part_groups.specs.Combined.{IsCombinedReport}
use Rattle.part_groups.specs.Shown.{group_in}
use Rattle.part_groups.specs.Texts.{texts_with}
use Rattle.part_groups.proofs.Report.{report_of}
use Rattle.part_groups.proofs.combined.combine.Goals as goal

pub returns-clause-groups : goal.returns-clause-groups
returns-clause-groups c =
    let kinds = c.args.kinds.now in
    let parts = slices c.args.parts.now in
    let columns = c.deref.result.now in
    let items = c.deref-2.result.now in
    let lines = c.deref-3.result.now in
    let cells = c.in_ok-cells.cells in
    IfOk-weaker c.groups_in.result (λ groups. groups.items ≡ map (λ line. group_in columns items (texts_with kinds cells) (told line)) lines)
    (λ groups. IsCombinedReport c.args.columns kinds parts groups.items)
    (λ groups shown. report_of c.args.columns kinds parts c.in_ok-column_forms.column_forms.items c.in_ok-item_forms.item_forms.items columns items
    (texts_with kinds cells) c.in_ok-lines.lines.items lines groups.items c.deref.ensures.value c.deref-2.ensures.value
    (ap (texts_with kinds) c.in_ok-cells.ensures) c.deref-3.ensures.value
    (record { columns_shared = c.in_ok-column_forms.ensures.forms; items_shared = c.in_ok-item_forms.ensures.forms }) c.in_ok-lines.ensures.lines shown)
    c.groups_in.ensures.groups
