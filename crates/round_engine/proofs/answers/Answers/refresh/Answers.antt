use Rattle.round_engine.specs.Engines.{stage_of}
use Rattle.round_engine.proofs.KeptProducts.{products_stood}
use Rattle.round_engine.proofs.KeptItems.{items_stood}
use Rattle.round_engine.proofs.Openings.{still_told, stood_totals}
use Rattle.round_engine.proofs.answers.Answers.refresh.Goals as goal

pub fill-requires-clause-beside : goal.fill-requires-clause-beside
fill-requires-clause-beside c =
    let stage = stage_of c.args.query.now c.args.columns.now in
    let totals = c.in-Totals.totals in
    still_told stage c.args.column c.args.plane.now c.moved_items-moved.result totals c.moved_items-moved.ensures
    (stood_totals stage c.args.column c.args.plane.now c.args.self.now totals c.requires.before c.in-Totals.is)

pub fill-requires-clause-kept : goal.fill-requires-clause-kept
fill-requires-clause-kept c =
    items_stood (stage_of c.args.query.now c.args.columns.now) c.args.column c.args.plane.now c.args.self.now c.in-Totals.totals c.requires.before c.in-Totals.is

pub fill-requires-clause-products : goal.fill-requires-clause-products
fill-requires-clause-products c =
    products_stood (stage_of c.args.query.now c.args.columns.now) c.args.column c.args.plane.now c.args.self.now c.in-Totals.totals c.requires.open_stage c.requires.before c.in-Totals.is
