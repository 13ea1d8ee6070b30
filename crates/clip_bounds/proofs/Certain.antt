-- What holds of a clipped bound on whole tables.
use Rattle.std.proofs.Common.{◌≡◌, ◌≢◌, ℤ, [], Option, Some, None, refl, ap, subst, sym, ◌∙◌, arith}
use Rattle.std.proofs.lemmas.Int.{ints}
use Rattle.daq_table.specs.Tables.{Cells, Frame}
use Rattle.query_model.specs.declared.bounds.Bound.{Bound}
use Rattle.query_model.specs.declared.bounds.Nullity.TheVariants.{Always, Possibly}
use Rattle.query_model.specs.Answers.{answer_of}
use Rattle.query_model.specs.Attaining.{AttainsTruths}
use Rattle.query_model.specs.Bounds.{Admits, IsExtremes, IsNested, Occurs, bound_of, bound_under}
use Rattle.query_model.specs.Knowledge.{IsCompletion, IsKnowledge, Knowledge}
use Rattle.query_model.specs.Projection.{projected, projected_frame}
use Rattle.query_model.specs.Queries.{Aggregate, Query}
use Rattle.query_model.specs.Worlds.{AgreesWith, IsPart, answer_on}
use Rattle.query_model.proofs.Exact.{words_become_exact}
use Rattle.query_model.proofs.Queries.{none_where_possible, tells_from_admits}
use Rattle.query_model.proofs.WholeTables.{bounds_become_exact_on_tables, completions_have_tables}
use Rattle.round_engine.proofs.Certain.{word_of_bound}
use Rattle.clip_bounds.specs.declared.clip.Clip.{Clip}
use Rattle.clip_bounds.specs.Clips.{clip_of}
use Rattle.clip_bounds.specs.Clipped.{clipped_in, clipped_pairs, clipped_under, pairs_in}
use Rattle.clip_bounds.specs.ClipLaws.{ClipsAreCertain, IsOfLongs}
use Rattle.clip_bounds.proofs.ClipBounds.{always_possibly, by_numbers, nothing_is_null, clips_are_extremes, clips_contain, clips_lie_within}
use Rattle.clip_bounds.proofs.ClippedEnds.{nullity_clipped}
use Rattle.clip_bounds.proofs.Rows.{clipped_by, not_average}

-- of a frame that is the query's part of the table
certain_there : (query : Query) (i : Aggregate) (clip : Clip) (frame : Frame) (known : Knowledge) → clip_of query i ≡ Some clip → IsOfLongs (projected_frame query frame) clip.column → IsKnowledge (projected_frame query frame) known →
    (world : Cells) → AgreesWith query frame known world → Admits (clipped_under query i clip (projected_frame query frame) known) (answer_on query i [] frame world)
certain_there query i clip frame known has longs k world agrees = clips_contain query i clip (projected_frame query frame) known (projected query world) has longs k agrees.part

extremes_there : (query : Query) (i : Aggregate) (clip : Clip) (frame part : Frame) (known : Knowledge) → clip_of query i ≡ Some clip → IsPart query frame part → IsOfLongs part clip.column → AttainsTruths query.pred [] → IsKnowledge part known →
    ((world : Cells) → AgreesWith query frame known world → Admits (clipped_under query i clip part known) (answer_on query i [] frame world)) →
    IsExtremes (AgreesWith query frame known) (answer_on query i [] frame) (clipped_under query i clip part known)
extremes_there query i clip frame part known has is longs attains k admits =
    let bound = clipped_under query i clip part known in
    let law = clips_are_extremes query i clip part known has longs attains k in
    let occurs : (a : Option ℤ) → Occurs (λ (cells : Cells). IsCompletion part known cells) (answer_of query i [] part) a → Occurs (AgreesWith query frame known) (answer_on query i [] frame) a =
    λ a found. (let whole = completions_have_tables query frame part known found.0 is found.1 in
    (whole.0, whole.1, ap (answer_of query i [] (projected_frame query frame)) whole.2 ∙ ap (λ (w : Frame). answer_of query i [] w found.0) is.same ∙ found.2)) in
    record {
      admits = admits;
      null = tells_from_admits (AgreesWith query frame known) (answer_on query i [] frame) bound bound.null refl admits
          (λ possibly. occurs None (none_where_possible (λ (cells : Cells). IsCompletion part known cells) (answer_of query i [] part) bound.null law.null possibly));
      lo = λ w. occurs (Some bound.lo) (law.lo w);
      hi = λ w. occurs (Some bound.hi) (law.hi w);
    }

-- a bound within another whose ends are the answer has these ends
same_ends : (plain bound : Bound) (a : Option ℤ) → IsNested plain bound → bound.null ≢ Always → Admits bound a → a ≡ Some plain.lo → a ≡ Some plain.hi → (a ≡ Some bound.lo) × (a ≡ Some bound.hi)
same_ends plain bound a nested some admits low high =
    let at_low : Admits bound (Some plain.lo) = subst (Admits bound) low admits in
    let at_high : Admits bound (Some plain.hi) = subst (Admits bound) high admits in
    let from = nested.lo some in
    let to = nested.hi some in
    let lower = at_low.1 in
    let upper = at_high.2 in
    let first : plain.lo ≡ bound.lo = omega (arith, ints) in
    let last : plain.hi ≡ bound.hi = omega (arith, ints) in
    (low ∙ ap (λ x. Some x) first, high ∙ ap (λ x. Some x) last)

pub clips_are_certain : ClipsAreCertain
clips_are_certain stage i clip frame has part longs k =
    let query = stage.query in
    let own = clipped_by query i clip has in
    let within = clips_lie_within query i clip stage.frame stage.known has longs k in
    let contains : (world : Cells) → AgreesWith query frame stage.known world → Admits (clipped_in stage i clip) (answer_on query i [] frame world) =
    subst (λ (w : Frame). IsOfLongs w clip.column → IsKnowledge w stage.known → (world : Cells) → AgreesWith query frame stage.known world → Admits (clipped_under query i clip w stage.known) (answer_on query i [] frame world)) part.same
    (λ longs k. certain_there query i clip frame stage.known has longs k) longs k in
    record {
      contains = contains;
      tight = λ attains. extremes_there query i clip frame stage.frame stage.known has part longs attains k contains;
      exact = λ all some world agrees. (let meets = bounds_become_exact_on_tables query i [] frame stage.frame stage.known world (not_average i.kind own.kind) part k all agrees (within.full some) in
          same_ends (bound_under query i [] stage.frame stage.known) (clipped_in stage i clip) (answer_on query i [] frame world) within some (contains world agrees) meets.0 meets.1);
      told = λ all. by_numbers clip (λ f. (bound_of i.kind (f (pairs_in stage i))).null ≢ Possibly)
          (λ full. word_of_bound i.kind (clipped_pairs stage i clip)
          (λ possibly. words_become_exact query i [] stage.frame stage.known k all (sym (nullity_clipped clip (pairs_in stage i)) ∙ possibly)))
          (λ none possibly. always_possibly (sym (nothing_is_null i.kind own.kind) ∙ possibly));
      within = within;
    }
