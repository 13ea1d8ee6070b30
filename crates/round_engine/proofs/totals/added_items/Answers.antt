use Rattle.std.proofs.Common.{◌≡◌, ◌<◌, ◌&&◌, not, length, length-set, slice_get, Some, ap, ◌∙◌, arith}
use Rattle.std.proofs.lemmas.Option.{slice_get_within}
use Rattle.query_model.specs.Queries.{Query}
use Rattle.round_engine.specs.CountedSums.{is_untold, told_at}
use Rattle.round_engine.specs.Selected.{is_by_masks}
use Rattle.round_engine.specs.Moves.{is_marked}
use Rattle.round_engine.proofs.Places.{marked_more, read_there}
use Rattle.round_engine.proofs.totals.added_items.Goals as goal

pub loop-i-preserved : goal.loop-i-preserved
loop-i-preserved c =
    let i = c.loop-i.i in
    let items = c.args.query.now.items in
    let item = c.index-items-i.result in
    let read : c.as_slice-items.result.now ≡ items = c.as_slice-items.ensures ∙ ap (λ (q : Query). q.items) c.query.view_is in
    let few = c.requires.open_query.few_items in
    let inside : i < length items = omega (arith, c.loop-i-test.true, ap length read) in
    let there : slice_get items i ≡ Some item = read_there items c.as_slice-items.result.now i item inside read c.index-items-i.is in
    record {
      count = length-set c.loop-i.added i _ ∙ c.loop-i.invariant.count;
      done = marked_more (λ j a. is_marked c.args.marks.now j && (not (is_by_masks c.args.columns.now.frame a) && is_untold (told_at c.args.told.now j))) items c.loop-i.added i item _ (omega (arith, c.loop-i.invariant.count, few, inside)) there
          (ap (λ b. is_marked c.args.marks.now i && (not b && c.is_untold.result)) c.is_by_masks.ensures ∙ ap (λ b. is_marked c.args.marks.now i && (not (is_by_masks c.args.columns.now.frame item) && b)) c.is_untold.ensures) c.loop-i.invariant.done;
    }

pub returns : goal.returns
returns c = λ i item at.
    let items = c.args.query.now.items in
    let read : c.as_slice-items.result.now ≡ items = c.as_slice-items.ensures ∙ ap (λ (q : Query). q.items) c.query.view_is in
    let within = slice_get_within items i item at in
    c.loop-i.invariant.done i item (omega (arith, c.loop-i-test.false, ap length read, within)) at
