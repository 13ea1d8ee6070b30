use Rattle.std.proofs.Common.{◌≡◌, ◌<◌, length, slice_get, Some, refl, ap, sym, ◌∙◌, arith}
use Rattle.std.proofs.lemmas.Bool.{false≢true}
use Rattle.std.proofs.lemmas.Option.{slice_get-get_or}
use Rattle.query_model.specs.Queries.{Query}
use Rattle.round_engine.proofs.Places.{read_there}
use Rattle.round_engine.proofs.Walks.{walk_end, walk_keep, walk_set, walk_start}
use Rattle.round_engine.proofs.totals.tell_each.Goals as goal
use Rattle.round_engine.proofs.totals.tell_each.Goals.{then-marks-i, else-marks-i}

pub loop-i-init : goal.loop-i-init
loop-i-init c = record { walk = walk_start _ _ c.args.query.now.items c.args.bounds.now c.requires.beside; room = c.requires.room; sums = walk_start _ _ c.args.query.now.items c.args.kept.now c.requires.kept }

pub bound_of_item-requires-clause-filled : goal.bound_of_item-requires-clause-filled
bound_of_item-requires-clause-filled c =
    let i = c.loop-i.i in
    let items = c.args.query.now.items in
    let runnings = c.args.runnings.now in
    let item = c.index-as_slice-i.result in
    let inside : i < length items = omega (arith, c.loop-i.invariant.walk.count) in
    let there : slice_get items i ≡ Some item = read_there items c.as_slice.result.now i item inside (c.as_slice.ensures ∙ ap (λ (q : Query). q.items) c.query.view_is) c.index-as_slice-i.is in
    c.requires.filled.each i item _ there (read_there runnings runnings i c.index-runnings-i.result (omega (arith, c.requires.filled.count, inside)) refl c.index-runnings-i.is) c.if-marks-i.true

pub bound_of_item-requires-clause-kept : goal.bound_of_item-requires-clause-kept
bound_of_item-requires-clause-kept c =
    let sums = c.loop-i.invariant.sums in
    let i = c.loop-i.i in
    let items = c.args.query.now.items in
    let item = c.index-as_slice-i.result in
    let inside : i < length items = omega (arith, c.loop-i.invariant.walk.count) in
    let there : slice_get items i ≡ Some item = read_there items c.as_slice.result.now i item inside (c.as_slice.ensures ∙ ap (λ (q : Query). q.items) c.query.view_is) c.index-as_slice-i.is in
    sums.rest i item _ (omega arith) there (slice_get-get_or c.loop-i.kept i c.index-kept-i.result (omega (arith, sums.count, inside)))

pub loop-i-preserved : goal.loop-i-preserved
loop-i-preserved c =
    let walk = c.loop-i.invariant.walk in
    let sums = c.loop-i.invariant.sums in
    let i = c.loop-i.i in
    let items = c.args.query.now.items in
    elim c.if-marks-i.branch [
      | then-marks-i w ↦
          (let item = w.index-as_slice-i.result in
          let inside : i < length items = omega (arith, walk.count) in
          let there : slice_get items i ≡ Some item = read_there items w.as_slice.result.now i item inside (w.as_slice.ensures ∙ ap (λ (q : Query). q.items) c.query.view_is) w.index-as_slice-i.is in
          rw (w.bounds-is, w.masks-is, w.kept-is) (record {
            walk = walk_set _ _ items c.loop-i.bounds i item w.bound_of_item.result there w.bound_of_item.ensures.bound walk;
            room = w.bound_of_item.ensures.room;
            sums = walk_set _ _ items c.loop-i.kept i item w.bound_of_item.new.kept there w.bound_of_item.ensures.kept sums;
          }))
      | else-marks-i w ↦
          rw (w.bounds-is, w.masks-is, w.kept-is) (record {
            walk = walk_keep _ _ items c.loop-i.bounds i (λ item bound at before. before (λ marked. absurd (false≢true (sym w.if-marks-i.false ∙ marked)))) walk;
            room = c.loop-i.invariant.room;
            sums = walk_keep _ _ items c.loop-i.kept i (λ item kept at before. before) sums;
          })
    ]

pub returns-clause-totals : goal.returns-clause-totals
returns-clause-totals c = walk_end _ _ c.args.query.now.items c.loop-i.bounds c.loop-i.i (omega (arith, c.loop-i.invariant.walk.count)) c.loop-i.invariant.walk

pub returns-clause-kept : goal.returns-clause-kept
returns-clause-kept c = walk_end _ _ c.args.query.now.items c.loop-i.kept c.loop-i.i (omega (arith, c.loop-i.invariant.walk.count)) c.loop-i.invariant.sums
