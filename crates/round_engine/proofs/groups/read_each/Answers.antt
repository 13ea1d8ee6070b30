use Rattle.std.proofs.Common.{◌≡◌, ◌<◌, length, slice_get, Some, ap, sym, subst, ◌∙◌, arith}
use Rattle.std.proofs.lemmas.Bool.{false≢true}
use Rattle.std.proofs.lemmas.Option.{slice_get-get_or}
use Rattle.query_model.specs.Queries.{Query}
use Rattle.round_engine.specs.Engines.{stage_of}
use Rattle.round_engine.specs.Stages.{Stage}
use Rattle.round_engine.proofs.Places.{read_there}
use Rattle.round_engine.proofs.ReadRows.{cells_still}
use Rattle.round_engine.proofs.Walks.{walk_end, walk_keep, walk_set, walk_start}
use Rattle.round_engine.proofs.groups.read_each.Goals as goal
use Rattle.round_engine.proofs.groups.read_each.Goals.{then-marks-i, else-marks-i}

pub loop-i-init : goal.loop-i-init
loop-i-init c = record {
  same = c.requires.same;
  masks = c.requires.masks;
  walk = walk_start _ _ c.args.query.now.items c.args.runnings.now (record { count = c.requires.others.count; each = λ j item running at there. there });
  kept = walk_start _ _ c.args.query.now.items c.args.kept.now c.requires.kept;
}

pub read_item-requires-clause-kept : goal.read_item-requires-clause-kept
read_item-requires-clause-kept c =
    let walk = c.loop-i.invariant.walk in
    let kept = c.loop-i.invariant.kept in
    let i = c.loop-i.i in
    let items = c.args.query.now.items in
    let item = c.index-as_slice-i.result in
    let inside : i < length items = omega (arith, walk.count, c.requires.others.count) in
    let there : slice_get items i ≡ Some item = read_there items c.as_slice.result.now i item inside (c.as_slice.ensures ∙ ap (λ (q : Query). q.items) c.query.view_is) c.index-as_slice-i.is in
    kept.rest i item _ (omega arith) there (slice_get-get_or c.loop-i.kept i c.index-kept-i.result (omega (arith, kept.count, inside)))

pub read_item-requires-clause-room : goal.read_item-requires-clause-room
read_item-requires-clause-room c =
    let walk = c.loop-i.invariant.walk in
    let i = c.loop-i.i in
    let items = c.args.query.now.items in
    let item = c.index-as_slice-i.result in
    let inside : i < length items = omega (arith, walk.count, c.requires.others.count) in
    let there : slice_get items i ≡ Some item = read_there items c.as_slice.result.now i item inside (c.as_slice.ensures ∙ ap (λ (q : Query). q.items) c.query.view_is) c.index-as_slice-i.is in
    let was = walk.rest i item _ (omega arith) there (slice_get-get_or c.loop-i.runnings i c.index-runnings-i.result (omega (arith, walk.count, inside))) in
    (c.requires.others.each i item _ there was).has_room

pub read_item-requires-clause-before : goal.read_item-requires-clause-before
read_item-requires-clause-before c =
    let walk = c.loop-i.invariant.walk in
    let i = c.loop-i.i in
    let items = c.args.query.now.items in
    let item = c.index-as_slice-i.result in
    let inside : i < length items = omega (arith, walk.count, c.requires.others.count) in
    let there : slice_get items i ≡ Some item = read_there items c.as_slice.result.now i item inside (c.as_slice.ensures ∙ ap (λ (q : Query). q.items) c.query.view_is) c.index-as_slice-i.is in
    let was = walk.rest i item _ (omega arith) there (slice_get-get_or c.loop-i.runnings i c.index-runnings-i.result (omega (arith, walk.count, inside))) in
    let were = c.requires.before in
    let at_before : slice_get were.before.query.items i ≡ Some item = subst (λ (s : Stage). slice_get s.query.items i ≡ Some item) were.step.read there in
    record { before = were.before; step = were.step; stood = were.stood.each i item _ at_before was }

pub read_item-requires-clause-count : goal.read_item-requires-clause-count
read_item-requires-clause-count c =
    let walk = c.loop-i.invariant.walk in
    let i = c.loop-i.i in
    let items = c.args.query.now.items in
    let item = c.index-as_slice-i.result in
    let inside : i < length items = omega (arith, walk.count, c.requires.others.count) in
    let there : slice_get items i ≡ Some item = read_there items c.as_slice.result.now i item inside (c.as_slice.ensures ∙ ap (λ (q : Query). q.items) c.query.view_is) c.index-as_slice-i.is in
    let was = walk.rest i item _ (omega arith) there (slice_get-get_or c.loop-i.runnings i c.index-runnings-i.result (omega (arith, walk.count, inside))) in
    let were = c.requires.before in
    let at_before : slice_get were.before.query.items i ≡ Some item = subst (λ (s : Stage). slice_get s.query.items i ≡ Some item) were.step.read there in
    (were.stood.each i item _ at_before was).cells ∙ sym (cells_still (stage_of c.args.query.now c.args.columns.now) c.args.rows.column c.args.rows.plane.now were.before were.step)

pub loop-i-preserved : goal.loop-i-preserved
loop-i-preserved c =
    let walk = c.loop-i.invariant.walk in
    let i = c.loop-i.i in
    let items = c.args.query.now.items in
    elim c.if-marks-i.branch [
      | then-marks-i w ↦
          (let item = w.index-as_slice-i.result in
          let inside : i < length items = omega (arith, walk.count, c.requires.others.count) in
          let there : slice_get items i ≡ Some item = read_there items w.as_slice.result.now i item inside (w.as_slice.ensures ∙ ap (λ (q : Query). q.items) c.query.view_is) w.index-as_slice-i.is in
          rw (w.runnings-is, w.masks-is, w.block-is, w.kept-is) (record {
            same = w.read_item.ensures.same;
            masks = w.read_item.ensures.masks;
            walk = walk_set _ _ items c.loop-i.runnings i item w.read_item.new.running there w.read_item.ensures.stand walk;
            kept = walk_set _ _ items c.loop-i.kept i item w.read_item.new.kept there w.read_item.ensures.kept c.loop-i.invariant.kept;
          }))
      | else-marks-i w ↦
          rw (w.runnings-is, w.masks-is, w.block-is, w.kept-is) (record {
            same = c.loop-i.invariant.same;
            masks = c.loop-i.invariant.masks;
            walk = walk_keep _ _ items c.loop-i.runnings i (λ item running at was. (c.requires.others.each i item running at was).stands (λ marked. false≢true (sym w.if-marks-i.false ∙ marked))) walk;
            kept = walk_keep _ _ items c.loop-i.kept i (λ item parts at there. there) c.loop-i.invariant.kept;
          })
    ]

pub returns-clause-stand : goal.returns-clause-stand
returns-clause-stand c = walk_end _ _ c.args.query.now.items c.loop-i.runnings c.loop-i.i (omega (arith, c.loop-i.invariant.walk.count, c.requires.others.count)) c.loop-i.invariant.walk

pub returns-clause-kept : goal.returns-clause-kept
returns-clause-kept c = walk_end _ _ c.args.query.now.items c.loop-i.kept c.loop-i.i (omega (arith, c.loop-i.invariant.walk.count, c.requires.others.count)) c.loop-i.invariant.kept
