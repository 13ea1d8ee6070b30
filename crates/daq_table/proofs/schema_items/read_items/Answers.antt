use Rattle.std.proofs.Common.{◌∙◌, ◌+◌, ◌<◌, ◌≤◌, length, sym, arith, append_assoc}
use Rattle.daq_table.proofs.Items.{bad_here, declared_last, declared_more, good_last, good_more, item_within}
use Rattle.daq_table.proofs.schema_items.read_items.Goals as goal

pub returns-in-None-clause-err : goal.returns-in-None-clause-err
returns-in-None-clause-err c =
    sym c.items.invariant.good ∙ bad_here c.args.text.now c.items.at c.item_at-item.result.now c.item_at-item.ensures c.items.invariant.within (sym c.in_ok-read.ensures ∙ c.in-None.is)

pub returns-then-at-item-clause-ok : goal.returns-then-at-item-clause-ok
returns-then-at-item-clause-ok c =
    let declared = sym c.in_ok-read.ensures ∙ c.in-Some.is in
    let last = declared_last c.args.text.now c.items.at c.item_at-item.result.now c.in-Some.read c.item_at-item.ensures c.if-at-item.true declared in
    record {
      good = sym c.items.invariant.good ∙ good_last c.args.text.now c.items.at c.item_at-item.result.now c.in-Some.read c.item_at-item.ensures c.if-at-item.true declared;
      items_are = c.in_ok-push-in-Some.ensures.items ∙ rw last at c.items.invariant.declared;
    }

pub items-preserved : goal.items-preserved
items-preserved c =
    let text = c.args.text.now in
    let at = c.items.at in
    let item = c.item_at-item.result.now in
    let declared = sym c.in_ok-read.ensures ∙ c.in-Some.is in
    let within : at + length item ≤ length text = item_within text at item c.item_at-item.ensures c.items.invariant.within in
    let more : at + length item < length text = omega (arith, within, c.if-at-item.false) in
    let rest = declared_more text at item c.in-Some.read c.item_at-item.ensures c.items.invariant.within more declared in
    record {
      within = omega arith;
      good = good_more text at item c.in-Some.read c.item_at-item.ensures c.items.invariant.within more declared ∙ c.items.invariant.good;
      declared = rw (c.in_ok-push-in-Some.ensures.items, append_assoc) (rw rest at c.items.invariant.declared);
    }

pub items-smaller : goal.items-smaller
items-smaller c =
    let within = item_within c.args.text.now c.items.at c.item_at-item.result.now c.item_at-item.ensures c.items.invariant.within in
    omega (arith, within, c.if-at-item.false)
