use Rattle.std.proofs.Common.{◌<◌, length, arith, ◌∙◌}
use Rattle.std.proofs.lemmas.Option.{slice_get-get_or}
use Rattle.aggregates.specs.Runnings.{IsBlank}
use Rattle.round_engine.proofs.Kept.{item_at}
use Rattle.round_engine.proofs.Walks.{walk_end, walk_set, walk_start}
use Rattle.round_engine.proofs.totals.begin_each.Goals as goal

pub loop-i-init : goal.loop-i-init
loop-i-init c = walk_start _ _ c.args.query.now.items c.args.runnings.now c.requires

pub begin-requires : goal.begin-requires
begin-requires c =
    let walk = c.loop-i.invariant in
    let i = c.loop-i.i in
    let runnings = c.loop-i.runnings in
    let inside : i < length c.args.query.now.items = omega (arith, walk.count, c.requires.count) in
    let (item, there) = item_at c.args.query.now.items i inside in
    let before = walk.rest i item _ (omega arith) there (slice_get-get_or runnings i c.index-runnings-i.result (omega (arith, walk.count, inside))) in
    omega (arith, before.1)

pub loop-i-preserved : goal.loop-i-preserved
loop-i-preserved c =
    let walk = c.loop-i.invariant in
    let i = c.loop-i.i in
    let items = c.args.query.now.items in
    let runnings = c.loop-i.runnings in
    let new = c.begin.new.self in
    let inside : i < length items = omega (arith, walk.count, c.requires.count) in
    let (item, there) = item_at items i inside in
    let before = walk.rest i item _ (omega arith) there (slice_get-get_or runnings i c.index-runnings-i.result (omega (arith, walk.count, inside))) in
    let blank : IsBlank new item.kind 1 1 = record { kind_is = c.begin.ensures.kind_is ∙ before.0; room_is = c.begin.ensures.room_is ∙ before.1; count = c.begin.ensures.count; blank = c.begin.ensures.blank } in
    walk_set _ _ items runnings i item new there blank walk

pub returns : goal.returns
returns c = walk_end _ _ c.args.query.now.items c.loop-i.runnings c.loop-i.i (omega (arith, c.requires.count)) c.loop-i.invariant
