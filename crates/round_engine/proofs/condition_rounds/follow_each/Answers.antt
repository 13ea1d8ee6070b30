use Rattle.std.proofs.Common.{◌≡◌, ◌<◌, length, slice_get, Some, ap, ◌∙◌, arith}
use Rattle.std.proofs.lemmas.Option.{slice_get-get_or}
use Rattle.query_model.specs.Queries.{Query}
use Rattle.round_engine.specs.Engines.{stage_of}
use Rattle.round_engine.proofs.Places.{read_there}
use Rattle.round_engine.proofs.SeenRows.{each_as_before}
use Rattle.round_engine.proofs.Walks.{walk_end, walk_set, walk_start}
use Rattle.round_engine.proofs.condition_rounds.follow_each.Goals as goal

pub loop-i-init : goal.loop-i-init
loop-i-init c = record {
  same = c.requires.same;
  masks = c.requires.masks;
  walk = walk_start _ _ c.args.query.now.items c.args.runnings.now (record { count = (each_as_before (stage_of c.args.query.now c.args.columns.now) c.args.rows.column c.args.seen.now.must c.args.seen.now.may c.args.runnings.now c.requires.before).count; each = λ j item running at there. there });
  kept = walk_start _ _ c.args.query.now.items c.args.kept.now c.requires.kept;
}

pub follow_item-requires-clause-before : goal.follow_item-requires-clause-before
follow_item-requires-clause-before c =
    let each = each_as_before (stage_of c.args.query.now c.args.columns.now) c.args.rows.column c.args.seen.now.must c.args.seen.now.may c.args.runnings.now c.requires.before in
    let walk = c.loop-i.invariant.walk in
    let i = c.loop-i.i in
    let items = c.args.query.now.items in
    let item = c.index-as_slice-i.result in
    let inside : i < length items = omega (arith, walk.count, each.count) in
    let there : slice_get items i ≡ Some item = read_there items c.as_slice.result.now i item inside (c.as_slice.ensures ∙ ap (λ (q : Query). q.items) c.query.view_is) c.index-as_slice-i.is in
    each.each i item _ there (walk.rest i item _ (omega arith) there (slice_get-get_or c.loop-i.runnings i c.index-runnings-i.result (omega (arith, walk.count, inside))))

pub follow_item-requires-clause-kept : goal.follow_item-requires-clause-kept
follow_item-requires-clause-kept c =
    let each = each_as_before (stage_of c.args.query.now c.args.columns.now) c.args.rows.column c.args.seen.now.must c.args.seen.now.may c.args.runnings.now c.requires.before in
    let walk = c.loop-i.invariant.walk in
    let kept = c.loop-i.invariant.kept in
    let i = c.loop-i.i in
    let items = c.args.query.now.items in
    let item = c.index-as_slice-i.result in
    let inside : i < length items = omega (arith, walk.count, each.count) in
    let there : slice_get items i ≡ Some item = read_there items c.as_slice.result.now i item inside (c.as_slice.ensures ∙ ap (λ (q : Query). q.items) c.query.view_is) c.index-as_slice-i.is in
    kept.rest i item _ (omega arith) there (slice_get-get_or c.loop-i.kept i c.index-kept-i.result (omega (arith, kept.count, inside)))

pub loop-i-preserved : goal.loop-i-preserved
loop-i-preserved c =
    let each = each_as_before (stage_of c.args.query.now c.args.columns.now) c.args.rows.column c.args.seen.now.must c.args.seen.now.may c.args.runnings.now c.requires.before in
    let walk = c.loop-i.invariant.walk in
    let i = c.loop-i.i in
    let items = c.args.query.now.items in
    let item = c.index-as_slice-i.result in
    let inside : i < length items = omega (arith, walk.count, each.count) in
    let there : slice_get items i ≡ Some item = read_there items c.as_slice.result.now i item inside (c.as_slice.ensures ∙ ap (λ (q : Query). q.items) c.query.view_is) c.index-as_slice-i.is in
    record {
      same = c.follow_item.ensures.same;
      masks = c.follow_item.ensures.masks;
      walk = walk_set _ _ items c.loop-i.runnings i item c.follow_item.new.running there c.follow_item.ensures.stand walk;
      kept = walk_set _ _ items c.loop-i.kept i item c.follow_item.new.kept there c.follow_item.ensures.kept c.loop-i.invariant.kept;
    }

pub returns-clause-stand : goal.returns-clause-stand
returns-clause-stand c =
    let each = each_as_before (stage_of c.args.query.now c.args.columns.now) c.args.rows.column c.args.seen.now.must c.args.seen.now.may c.args.runnings.now c.requires.before in
    walk_end _ _ c.args.query.now.items c.loop-i.runnings c.loop-i.i (omega (arith, c.loop-i.invariant.walk.count, each.count)) c.loop-i.invariant.walk

pub returns-clause-kept : goal.returns-clause-kept
returns-clause-kept c =
    let each = each_as_before (stage_of c.args.query.now c.args.columns.now) c.args.rows.column c.args.seen.now.must c.args.seen.now.may c.args.runnings.now c.requires.before in
    walk_end _ _ c.args.query.now.items c.loop-i.kept c.loop-i.i (omega (arith, c.loop-i.invariant.kept.count, c.requires.kept.count, each.count)) c.loop-i.invariant.kept
