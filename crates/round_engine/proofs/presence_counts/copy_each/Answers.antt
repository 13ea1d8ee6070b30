use Rattle.std.proofs.Common.{◌≡◌, ◌<◌, ℕ, true, false, length, length-set, replicate, slice_get, Some, refl, ap, ◌∙◌, arith}
use Rattle.std.proofs.lemmas.List.{get_or-replicate}
use Rattle.std.proofs.lemmas.Option.{slice_get_within, slice_get-get_or}
use Rattle.query_model.specs.Queries.{Query}
use Rattle.round_engine.specs.Engines.{stage_of}
use Rattle.round_engine.specs.Moves.{is_marked}
use Rattle.round_engine.proofs.Places.{read_there}
use Rattle.round_engine.proofs.ToldSums.{others_told}
use Rattle.round_engine.proofs.presence_counts.copy_each.Goals as goal
use Rattle.round_engine.proofs.presence_counts.copy_each.Goals.{in-Some, in_default}

all_marked : (i : ℕ) → i < 16 → is_marked (replicate 16 true) i ≡ true
all_marked i below = get_or-replicate 16 i true false below

pub loop-i-init : goal.loop-i-init
loop-i-init c = record {
  marks = refl;
  others = record {
    count = c.requires.room.count;
    each = λ i item running at at'.
        (let before = c.requires.room.each i item running at at' in
        let within = slice_get_within c.args.query.now.items i item at in
        let few = c.requires.open_stage.open_query.few_items in
        record { has_room = record { kind = before.0; room = before.1 }; stands = λ unmarked. absurd (unmarked (all_marked i (omega (arith, within, few)))) });
  };
}

pub copy_counts-requires-clause-room : goal.copy_counts-requires-clause-room
copy_counts-requires-clause-room c =
    let others = c.loop-i.invariant.others in
    let i = c.loop-i.i in
    let items = c.args.query.now.items in
    let item = c.index-as_slice-i.result in
    let inside : i < length items = omega (arith, others.count) in
    let there : slice_get items i ≡ Some item = read_there items c.as_slice.result.now i item inside (c.as_slice.ensures ∙ ap (λ (q : Query). q.items) c.query.view_is) c.index-as_slice-i.is in
    (others.each i item _ there (slice_get-get_or c.loop-i.runnings i c.index-runnings-i.result (omega (arith, others.count, inside)))).has_room

pub loop-i-preserved : goal.loop-i-preserved
loop-i-preserved c =
    let stage = stage_of c.args.query.now c.args.columns.now in
    let invariant = c.loop-i.invariant in
    let others = invariant.others in
    let i = c.loop-i.i in
    let items = c.args.query.now.items in
    let item = c.index-as_slice-i.result in
    let inside : i < length items = omega (arith, others.count) in
    let there : slice_get items i ≡ Some item = read_there items c.as_slice.result.now i item inside (c.as_slice.ensures ∙ ap (λ (q : Query). q.items) c.query.view_is) c.index-as_slice-i.is in
    elim c.match-told_values.branch [
      | in-Some w ↦
          record {
            marks = rw w.others-is (length-set c.loop-i.others i false ∙ invariant.marks);
            others = rw (w.others-is, w.runnings-is) (others_told stage c.loop-i.others c.loop-i.runnings i item w.copy_counts.new.running there w.copy_counts.ensures.stand others);
          }
      | in_default w ↦ record { marks = rw w.others-is invariant.marks; others = rw (w.others-is, w.runnings-is) others }
    ]
