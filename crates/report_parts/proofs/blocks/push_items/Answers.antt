use Rattle.std.proofs.Common.{◌<◌, length, arith, ◌∙◌}
use Rattle.report_parts.proofs.EntryLines.{lines_go_on}
use Rattle.report_parts.proofs.blocks.push_items.Goals as goal

pub loop-place-preserved : goal.loop-place-preserved
loop-place-preserved c =
    let below : c.loop-place.place < length c.args.entries.now = omega (arith, c.loop-place-test.true) in
    let less : c.loop-place.place < length c.args.kinds.now = omega (arith, below, c.requires.count) in
    lines_go_on c.loop-place.text.items c.push_entry.new.text.items c.args.kinds.now c.args.entries.now c.loop-place.place _ _ less below
    c.index-entries-place.is c.in_ok-push_entry.ensures
    ∙ c.loop-place.invariant
