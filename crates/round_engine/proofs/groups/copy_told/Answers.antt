use Rattle.std.proofs.Common.{IfSome, subst, arith}
use Rattle.std.proofs.lemmas.Option.{slice_get_within, slice_get-get_or}
use Rattle.round_engine.specs.DigitCells.{IsTold}
use Rattle.round_engine.specs.Engines.{stage_of}
use Rattle.round_engine.proofs.CellRows.{cells_fit}
use Rattle.round_engine.proofs.CompactCells.{copied_stand}
use Rattle.round_engine.proofs.ToldSums.{others_told}
use Rattle.round_engine.proofs.groups.copy_told.Goals as goal

pub copy_to-requires : goal.copy_to-requires
copy_to-requires c =
    let stage = stage_of c.args.query.now c.args.columns.now in
    let number = c.in-Some.told in
    let told : IsTold stage number c.args.masks.now.digits = subst (λ o. IfSome o (λ i. IsTold stage i c.args.masks.now.digits)) c.in-Some.is c.requires.told in
    let others = c.requires.others in
    let within = slice_get_within stage.query.items number told.item told.at in
    let here = others.each number told.item _ told.at (slice_get-get_or c.args.runnings.now number c.index-runnings-told.result (omega (arith, within, others.count))) in
    omega (arith, told.told.stand.cells, cells_fit stage c.requires.open_stage, here.has_room.room)

pub bounds-marks-told : goal.bounds-marks-told
bounds-marks-told c =
    let stage = stage_of c.args.query.now c.args.columns.now in
    let number = c.in-Some.told in
    let told : IsTold stage number c.args.masks.now.digits = subst (λ o. IfSome o (λ i. IsTold stage i c.args.masks.now.digits)) c.in-Some.is c.requires.told in
    let few = c.requires.open_stage.open_query.few_items in
    omega (arith, few, slice_get_within stage.query.items number told.item told.at)

pub returns-in-Some : goal.returns-in-Some
returns-in-Some c =
    let stage = stage_of c.args.query.now c.args.columns.now in
    let number = c.in-Some.told in
    let told : IsTold stage number c.args.masks.now.digits = subst (λ o. IfSome o (λ i. IsTold stage i c.args.masks.now.digits)) c.in-Some.is c.requires.told in
    let others = c.requires.others in
    let within = slice_get_within stage.query.items number told.item told.at in
    let here = others.each number told.item _ told.at (slice_get-get_or c.args.runnings.now number c.index-runnings-told.result (omega (arith, within, others.count))) in
    record {
      others =
          others_told stage c.args.marks.now c.args.runnings.now number told.item c.copy_to.new.running told.at
          (copied_stand stage told.item _ c.copy_to.new.running c.args.masks.now.digits.tallies here.has_room c.copy_to.ensures told.told.stand) others;
    }
