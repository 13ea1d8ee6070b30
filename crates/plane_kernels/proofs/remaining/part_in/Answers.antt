use Rattle.std.proofs.Common.{false, not, ◌∙◌}
use Rattle.std.proofs.lemmas.Option.{get_or_from_slice_get}
use Rattle.plane_kernels.specs.Rows.{kept_rows}
use Rattle.plane_kernels.proofs.RemainingRows.{none_to_add, none_to_keep, passed_over}
use Rattle.plane_kernels.proofs.remaining.part_in.Goals as goal

pub returns-then-not-get-clause-others : goal.returns-then-not-get-clause-others
returns-then-not-get-clause-others c =
    none_to_add c.args.block (not c.args.bit) c.args.others.now c.args.rows.now c.args.plane.now c.requires.others c.requires.plane
    (c.requires.blocks.none c.args.block (get_or_from_slice_get c.args.blocks.now c.args.block c.get.result false c.get.ensures ∙ c.if-not-get.true))

pub returns-then-not-get-clause-rows : goal.returns-then-not-get-clause-rows
returns-then-not-get-clause-rows c =
    let none = c.requires.blocks.none c.args.block (get_or_from_slice_get c.args.blocks.now c.args.block c.get.result false c.get.ensures ∙ c.if-not-get.true) in
    passed_over c.args.block (kept_rows c.args.bit c.args.rows.now c.args.plane.now) c.args.rows.now none (none_to_keep c.args.block c.args.bit c.args.rows.now c.args.plane.now c.requires.plane none)
