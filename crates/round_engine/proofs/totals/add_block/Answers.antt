use Rattle.std.proofs.Common.{◌≡◌, ◌+◌, ◌*◌, ◌<◌, min, length, slice_get, Some, ap, sym, ◌∙◌, arith}
use Rattle.std.proofs.lemmas.Bool.{false≢true}
use Rattle.std.proofs.lemmas.Option.{slice_get-get_or}
use Rattle.query_model.specs.Queries.{Query}
use Rattle.round_engine.specs.Engines.{stage_of}
use Rattle.round_engine.specs.Moves.{is_marked}
use Rattle.round_engine.specs.Totals.{IsFilledIf}
use Rattle.round_engine.proofs.Places.{read_there}
use Rattle.round_engine.proofs.Walks.{walk_end, walk_keep, walk_set, walk_start}
use Rattle.round_engine.proofs.totals.add_block.Goals as goal
use Rattle.round_engine.proofs.totals.add_block.Goals.{then-marks-i, else-marks-i}

pub loop-i-init : goal.loop-i-init
loop-i-init c = record { same = c.requires.same; walk = walk_start _ _ c.args.query.now.items c.args.runnings.now c.requires.filled }

pub fill_block-requires-clause-filled : goal.fill_block-requires-clause-filled
fill_block-requires-clause-filled c =
    let walk = c.loop-i.invariant.walk in
    let i = c.loop-i.i in
    let items = c.args.query.now.items in
    let item = c.index-as_slice-i.result in
    let inside : i < length items = omega (arith, walk.count, c.requires.filled.count) in
    let there : slice_get items i ≡ Some item = read_there items c.as_slice.result.now i item inside (c.as_slice.ensures ∙ ap (λ (q : Query). q.items) c.query.view_is) c.index-as_slice-i.is in
    (walk.rest i item _ (omega arith) there (slice_get-get_or c.loop-i.runnings i c.index-runnings-i.result (omega (arith, walk.count, inside)))).filled c.if-marks-i.true

pub loop-i-preserved : goal.loop-i-preserved
loop-i-preserved c =
    let walk = c.loop-i.invariant.walk in
    let i = c.loop-i.i in
    let items = c.args.query.now.items in
    let stage = stage_of c.args.query.now c.args.columns.now in
    let end = min (64 * c.args.number + 64) c.args.columns.now.frame.rows in
    elim c.if-marks-i.branch [
      | then-marks-i w ↦
          (let item = w.index-as_slice-i.result in
          let new = w.fill_block.new.running in
          let inside : i < length items = omega (arith, walk.count, c.requires.filled.count) in
          let there : slice_get items i ≡ Some item = read_there items w.as_slice.result.now i item inside (w.as_slice.ensures ∙ ap (λ (q : Query). q.items) c.query.view_is) w.index-as_slice-i.is in
          let filled : IsFilledIf (is_marked c.args.marks.now i) stage item end new = record { kind = w.fill_block.ensures.filled.kind; room = w.fill_block.ensures.filled.room; filled = λ marked. w.fill_block.ensures.filled } in
          record { same = rw w.block-is w.fill_block.ensures.same; walk = rw w.runnings-is (walk_set _ _ items c.loop-i.runnings i item new there filled walk) })
      | else-marks-i w ↦
          record {
            same = rw w.block-is c.loop-i.invariant.same;
            walk = rw w.runnings-is (walk_keep _ _ items c.loop-i.runnings i
                (λ item running at before. record { kind = before.kind; room = before.room; filled = λ marked. absurd (false≢true (sym w.if-marks-i.false ∙ marked)) }) walk);
          }
    ]

pub returns-clause-filled : goal.returns-clause-filled
returns-clause-filled c = walk_end _ _ c.args.query.now.items c.loop-i.runnings c.loop-i.i (omega (arith, c.loop-i.invariant.walk.count, c.requires.filled.count)) c.loop-i.invariant.walk
