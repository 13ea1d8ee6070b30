use Rattle.std.proofs.Common.{◌≡◌, ◌<◌, length, get_or, ap, ◌∙◌, arith}
use Rattle.std.proofs.lemmas.Option.{slice_get-get_or}
use Rattle.query_model.specs.Queries.{Query}
use Rattle.round_engine.specs.CountedSums.{IsSetTo, told_at}
use Rattle.round_engine.specs.Engines.{stage_of}
use Rattle.round_engine.specs.Moves.{is_marked}
use Rattle.round_engine.specs.Selected.{is_by_masks}
use Rattle.round_engine.proofs.CountedSums.{set_item}
use Rattle.round_engine.proofs.Kept.{item_at}
use Rattle.round_engine.proofs.Walks.{walk_end, walk_set, walk_start}
use Rattle.round_engine.proofs.totals.set_each.Goals as goal

pub loop-i-init : goal.loop-i-init
loop-i-init c = walk_start _ _ c.args.query.now.items c.args.runnings.now c.requires.filled

pub set_told-requires : goal.set_told-requires
set_told-requires c =
    let walk = c.loop-i.invariant in
    let i = c.loop-i.i in
    let items = c.args.query.now.items in
    let read : c.as_slice-items.result.now ≡ items = c.as_slice-items.ensures ∙ ap (λ (q : Query). q.items) c.query.view_is in
    let inside : i < length items = omega (arith, c.loop-i-test.true, ap length read) in
    let (item, there) = item_at items i inside in
    let before = walk.rest i item _ (omega arith) there (slice_get-get_or c.loop-i.runnings i c.index-runnings-i.result (omega (arith, walk.count, inside))) in
    omega (arith, before.room)

pub loop-i-preserved : goal.loop-i-preserved
loop-i-preserved c =
    let walk = c.loop-i.invariant in
    let i = c.loop-i.i in
    let query = c.args.query.now in
    let columns = c.args.columns.now in
    let stage = stage_of query columns in
    let items = query.items in
    let read : c.as_slice-items.result.now ≡ items = c.as_slice-items.ensures ∙ ap (λ (q : Query). q.items) c.query.view_is in
    let inside : i < length items = omega (arith, c.loop-i-test.true, ap length read) in
    let (item, there) = item_at items i inside in
    let old = get_or c.loop-i.runnings i c.index-runnings-i.result in
    let new = c.set_told.new.running in
    let before = walk.rest i item _ (omega arith) there (slice_get-get_or c.loop-i.runnings i c.index-runnings-i.result (omega (arith, walk.count, inside))) in
    let to : IsSetTo (told_at c.args.told.now i) old new = c.set_told.ensures in
    let filled = set_item query item columns c.requires.open_stage.knowledge (told_at c.args.told.now i) old new (is_marked c.args.added.now i) (is_marked c.args.marks.now i) (is_by_masks columns.frame item)
    (c.requires.added i item there) (c.requires.told i item there) to before in
    walk_set _ _ items c.loop-i.runnings i item new there (to.kind ∙ before.kind, to.room ∙ before.room, filled) walk

pub returns-clause-filled : goal.returns-clause-filled
returns-clause-filled c =
    let items = c.args.query.now.items in
    let read : c.as_slice-items.result.now ≡ items = c.as_slice-items.ensures ∙ ap (λ (q : Query). q.items) c.query.view_is in
    let each = walk_end _ _ items c.loop-i.runnings c.loop-i.i (omega (arith, ap length read, c.loop-i-test.false)) c.loop-i.invariant in
    record { count = each.count; each = λ i item running at there. (each.each i item running at there).2 }

pub returns-clause-room : goal.returns-clause-room
returns-clause-room c =
    let items = c.args.query.now.items in
    let read : c.as_slice-items.result.now ≡ items = c.as_slice-items.ensures ∙ ap (λ (q : Query). q.items) c.query.view_is in
    let each = walk_end _ _ items c.loop-i.runnings c.loop-i.i (omega (arith, ap length read, c.loop-i-test.false)) c.loop-i.invariant in
    record { count = each.count; each = λ i item running at there. (let here = each.each i item running at there in (here.0, here.1)) }
