use Rattle.std.proofs.Common.{◌≡◌, ◌<◌, ◌≤◌, length, slice_get, Some, ap, sym, subst, ◌∙◌, arith}
use Rattle.std.proofs.lemmas.List.{take_all}
use Rattle.std.proofs.lemmas.Option.{get_or_from_slice_get}
use Rattle.query_model.specs.Queries.{Query}
use Rattle.round_engine.specs.KeptCells.{AreKeptParts, HaveKeptParts}
use Rattle.round_engine.proofs.KeptProducts.{each_more}
use Rattle.round_engine.proofs.Places.{read_there}
use Rattle.round_engine.proofs.kept_cells.open_parts.Goals as goal

pub loop-i-preserved : goal.loop-i-preserved
loop-i-preserved c =
    let i = c.loop-i.i in
    let items = c.args.query.now.items in
    let item = c.index-items-i.result in
    let read : c.as_slice-items.result.now ≡ items = c.as_slice-items.ensures ∙ ap (λ (q : Query). q.items) c.query.view_is in
    let inside : i < length items = omega (arith, c.loop-i-test.true, ap length read) in
    let there : slice_get items i ≡ Some item = read_there items c.as_slice-items.result.now i item inside read c.index-items-i.is in
    rw c.in_ok-push.ensures.items
    (each_more (AreKeptParts c.args.columns.now) items i item c.loop-i.kept.items (record { product = c.in_ok-product.product; sums = c.in_ok-sums.sums }) inside (sym (get_or_from_slice_get items i item item there)) c.loop-i.invariant
    (record { product = c.in_ok-product.ensures; sums = c.in_ok-sums.ensures }))

pub returns : goal.returns
returns c =
    let items = c.args.query.now.items in
    let read : c.as_slice-items.result.now ≡ items = c.as_slice-items.ensures ∙ ap (λ (q : Query). q.items) c.query.view_is in
    let past : length items ≤ c.loop-i.i = omega (arith, c.loop-i-test.false, ap length read) in
    subst (λ xs. HaveKeptParts c.args.columns.now xs c.loop-i.kept.items) (take_all c.loop-i.i items past) c.loop-i.invariant
