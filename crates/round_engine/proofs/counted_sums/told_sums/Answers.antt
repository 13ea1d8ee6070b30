use Rattle.std.proofs.Common.{◌≡◌, ◌<◌, length, length-set, slice_get, Some, ap, ◌∙◌, arith}
use Rattle.std.proofs.lemmas.Option.{slice_get-get_or}
use Rattle.query_model.specs.Queries.{Query}
use Rattle.round_engine.specs.Engines.{stage_of}
use Rattle.round_engine.proofs.CountedSums.{none_told, told_more}
use Rattle.round_engine.proofs.Places.{read_there}
use Rattle.round_engine.proofs.Walks.{walk_end, walk_keep, walk_set, walk_start}
use Rattle.round_engine.proofs.counted_sums.told_sums.Goals as goal
use Rattle.round_engine.proofs.counted_sums.told_sums.Goals.{then-marks-i, else-marks-i}

pub loop-i-init : goal.loop-i-init
loop-i-init c = record { room = c.requires.room; count = omega arith; told = none_told (stage_of c.args.query.now c.args.columns.now) 16; kept = walk_start _ _ c.args.query.now.items c.args.kept.now c.requires.kept }

pub told_sum-requires-clause-kept : goal.told_sum-requires-clause-kept
told_sum-requires-clause-kept c =
    let kept = c.loop-i.invariant.kept in
    let i = c.loop-i.i in
    let items = c.args.query.now.items in
    let item = c.index-items-i.result in
    let read : c.as_slice-items.result.now ≡ items = c.as_slice-items.ensures ∙ ap (λ (q : Query). q.items) c.query.view_is in
    let inside : i < length items = omega (arith, c.loop-i-test.true, ap length read) in
    let there : slice_get items i ≡ Some item = read_there items c.as_slice-items.result.now i item inside read c.index-items-i.is in
    kept.rest i item _ (omega arith) there (slice_get-get_or c.loop-i.kept i c.index-kept-i.result (omega (arith, kept.count, inside)))

pub loop-i-preserved : goal.loop-i-preserved
loop-i-preserved c =
    let i = c.loop-i.i in
    let items = c.args.query.now.items in
    let before = c.loop-i.invariant in
    let few = c.requires.open_stage.open_query.few_items in
    let read : c.as_slice-items.result.now ≡ items = c.as_slice-items.ensures ∙ ap (λ (q : Query). q.items) c.query.view_is in
    let inside : i < length items = omega (arith, c.loop-i-test.true, ap length read) in
    elim c.if-marks-i.branch [
      | then-marks-i w ↦
          (let item = w.index-items-i.result in
          let there : slice_get items i ≡ Some item = read_there items c.as_slice-items.result.now i item inside read w.index-items-i.is in
          rw (w.told-is, w.selection-is, w.kept-is) (record {
            room = w.told_sum.ensures.room;
            count = length-set c.loop-i.told i w.told_sum.result ∙ before.count;
            told = told_more (stage_of c.args.query.now c.args.columns.now) c.loop-i.told i item w.told_sum.result (omega (arith, before.count, few, inside)) there w.told_sum.ensures.told before.told;
            kept = walk_set _ _ items c.loop-i.kept i item w.told_sum.new.kept there w.told_sum.ensures.kept before.kept;
          }))
      | else-marks-i w ↦
          rw (w.told-is, w.selection-is, w.kept-is) (record {
            room = before.room;
            count = before.count;
            told = before.told;
            kept = walk_keep _ _ items c.loop-i.kept i (λ item product at there. there) before.kept;
          })
    ]

pub returns-clause-kept : goal.returns-clause-kept
returns-clause-kept c =
    let read = c.as_slice-items.ensures ∙ ap (λ (q : Query). q.items) c.query.view_is in
    walk_end _ _ c.args.query.now.items c.loop-i.kept c.loop-i.i (omega (arith, c.loop-i-test.false, ap length read)) c.loop-i.invariant.kept
