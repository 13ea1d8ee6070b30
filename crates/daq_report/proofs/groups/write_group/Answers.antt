-- The keys, what is known of them, and the items.
use Rattle.std.proofs.Common.{List, ℕ, ◌++◌, ◌∙◌, ap, codes, length, map, subst, sym}
use Rattle.outer_world.proofs.Writes.{writes_both, writes_cut}
use Rattle.outer_world.specs.Whole.{Writes}
use Rattle.query_model.specs.Answers.{groups_of}
use Rattle.query_model.specs.Truths.{Range}
use Rattle.query_model.specs.Validity.{IsValidShape}
use Rattle.query_model.specs.declared.query.TypedQuery.{TypedQuery}
use Rattle.row_groups.specs.Partition.{range_for, ranges_in, ranges_of_cell}
use Rattle.round_engine.specs.Cells.{AreDeclared, parts_in}
use Rattle.daq_report.specs.Ends.{CanShowKey}
use Rattle.daq_report.specs.Groups.{key_text}
use Rattle.daq_report.specs.Items.{items_text}
use Rattle.daq_report.specs.declared.scope.Scope.TheVariants.{InCell}
use Rattle.daq_report.proofs.Parts.{key_shows, range_for_each}
use Rattle.daq_report.proofs.groups.write_group.Goals as goal

pub write_key-requires : goal.write_key-requires
write_key-requires g c =
    let stage = c.args.engine.now in
    let columns = c.args.columns.now in
    let groups = ap groups_of c.requires.shape in
    let ranges = c.parts.ensures ∙ c.keys_of-keys.ensures.keys in
    let below = (subst (IsValidShape c.args.head.now stage.query) c.requires.shape c.requires.fits.valid.shape).0 in
    let long = ap length ranges ∙ range_for_each stage c.args.cell ∙ ap length groups in
    let within = subst (λ (l : List Range). AreDeclared stage.frame columns l) (sym c.parts.ensures)
    (subst (λ (gs : List ℕ). AreDeclared stage.frame gs (ranges_in c.keys_of-keys.result)) groups c.keys_of-keys.ensures.declared) in
    let shows = key_shows c.args.head.now stage.query stage.frame columns (map range_for c.parts.result.now) c.requires.fits c.requires.texts below long within in
    subst (λ (q : TypedQuery). CanShowKey c.args.head.now q columns (map range_for c.parts.result.now)) (sym c.query.ensures.query) shows

pub returns-in_err-write_whole : goal.returns-in_err-write_whole
returns-in_err-write_whole g c =
    let stage = c.args.engine.now in
    let key = key_text c.args.head.now stage.query c.args.columns.now (ranges_of_cell (parts_in stage) c.args.cell) in
    let rest = key ++ (c.args.presence.now ++ items_text c.args.head.now stage (InCell c.args.cell)) in
    writes_cut _ _ _ _ (codes "group ") rest c.from_residual.ensures.0 c.in_err-write_whole.ensures

pub returns-in_err-write_key : goal.returns-in_err-write_key
returns-in_err-write_key g c =
    let stage = c.args.engine.now in
    let mid = g.K.Sink.state c.write_whole.new.sink in
    let new = g.K.Sink.state c.write_key.new.out in
    let result = c.from_residual-in_err-write_key.result in
    let ranges = c.parts.ensures ∙ c.keys_of-keys.ensures.keys in
    let text : TypedQuery → List Range → List ℕ = λ q l. key_text c.args.head.now q c.args.columns.now l in
    let same = ap (λ q. text q (map range_for c.parts.result.now)) c.query.ensures.query ∙ ap (text stage.query) ranges in
    let rest = c.args.presence.now ++ items_text c.args.head.now stage (InCell c.args.cell) in
    writes_both _ _ _ _ _ (codes "group ") _ c.in_ok-write_whole.ensures
    (subst (λ (l : List ℕ). Writes result mid new (l ++ rest)) same
    (writes_cut _ _ _ _ _ rest c.from_residual-in_err-write_key.ensures.0 c.in_err-write_key.ensures))

pub returns-in_err-write_whole-2 : goal.returns-in_err-write_whole-2
returns-in_err-write_whole-2 g c =
    let stage = c.args.engine.now in
    let mid = g.K.Sink.state c.write_whole.new.sink in
    let new = g.K.Sink.state c.write_whole-2.new.sink in
    let result = c.from_residual-in_err-write_whole-2.result in
    let ranges = c.parts.ensures ∙ c.keys_of-keys.ensures.keys in
    let text : TypedQuery → List Range → List ℕ = λ q l. key_text c.args.head.now q c.args.columns.now l in
    let same = ap (λ q. text q (map range_for c.parts.result.now)) c.query.ensures.query ∙ ap (text stage.query) ranges in
    let items = items_text c.args.head.now stage (InCell c.args.cell) in
    writes_both _ _ _ _ _ (codes "group ") _ c.in_ok-write_whole.ensures
    (subst (λ (l : List ℕ). Writes result mid new (l ++ (c.args.presence.now ++ items))) same
    (writes_both _ _ _ _ _ _ _ c.in_ok-write_key.ensures
    (writes_cut _ _ _ _ c.args.presence.now items c.from_residual-in_err-write_whole-2.ensures.0 c.in_err-write_whole-2.ensures)))

pub returns : goal.returns
returns g c =
    let stage = c.args.engine.now in
    let mid = g.K.Sink.state c.write_whole.new.sink in
    let new = g.K.Sink.state c.write_items.new.out in
    let result = c.write_items.result in
    let ranges = c.parts.ensures ∙ c.keys_of-keys.ensures.keys in
    let text : TypedQuery → List Range → List ℕ = λ q l. key_text c.args.head.now q c.args.columns.now l in
    let same = ap (λ q. text q (map range_for c.parts.result.now)) c.query.ensures.query ∙ ap (text stage.query) ranges in
    let items = items_text c.args.head.now stage (InCell c.args.cell) in
    writes_both _ _ _ _ _ (codes "group ") _ c.in_ok-write_whole.ensures
    (subst (λ (l : List ℕ). Writes result mid new (l ++ (c.args.presence.now ++ items))) same
    (writes_both _ _ _ _ _ _ _ c.in_ok-write_key.ensures
    (writes_both _ _ _ _ _ c.args.presence.now items c.in_ok-write_whole-2.ensures c.write_items.ensures)))
