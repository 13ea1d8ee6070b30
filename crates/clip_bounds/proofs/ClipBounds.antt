-- The laws of clipped bounds.
use Rattle.std.proofs.Common.{◌≡◌, ◌≢◌, ℤ, ◌<ℤ◌, int_le, Bool, true, false, cond, List, [], ◌∷◌, map, IsTrue, refl, sym, ap, subst, ◌∙◌, arith, Option, Some, None}
use Rattle.std.proofs.lemmas.Bool.{false≢true}
use Rattle.std.proofs.lemmas.Int.{ints}
use Rattle.query_model.specs.declared.bounds.Bound.{Bound}
use Rattle.query_model.specs.declared.bounds.Nullity.TheVariants.{Never, Possibly, Always}
use Rattle.query_model.specs.declared.query.ItemKind.{ItemKind}
use Rattle.query_model.specs.declared.query.ItemKind.TheVariants.{Count, Sum, Min, Max, Avg}
use Rattle.daq_table.specs.Tables.{Cells, Frame, row_of}
use Rattle.query_model.specs.Answers.{answer, answer_of, outcome_of, values_of}
use Rattle.query_model.specs.Bounds.{Admits, IsExtremes, IsNested, Occurs, Pair, bound_of, bound_under, pair_of, pairs}
use Rattle.query_model.specs.Knowledge.{IsCompletion, IsKnowledge, Knowledge, ranges_of, taken}
use Rattle.query_model.specs.Laws.{AreEndOutcomes, ArePairs, present}
use Rattle.query_model.specs.Queries.{Aggregate, Query}
use Rattle.query_model.specs.Truths.{IsIn}
use Rattle.query_model.proofs.ListExtremes.{admits_choice, bounds_are_extremes_of_lists}
use Rattle.query_model.proofs.Nesting.{choices_are_older, nested_by_choices, taken_is_knowledge}
use Rattle.query_model.proofs.Queries.{bounds_contain, completions_exist, none_where_possible, ranges_ordered, row_chosen, tells_from_admits, values_chosen}
use Rattle.clip_bounds.specs.declared.clip.Clip.{Clip}
use Rattle.clip_bounds.specs.Clips.{is_clipped_kind}
use Rattle.clip_bounds.specs.Clipped.{all_clipped, clipped}
use Rattle.clip_bounds.specs.ClipLaws.{ClipsAreExtremes, ClipsContain, ClipsLieWithin, ClipsNest, IsOfLongs}
use Rattle.clip_bounds.proofs.Passing.{HasNumbers}
use Rattle.clip_bounds.proofs.Choices.{AreWithin, clipped_choice, rows_ordered, rows_within, unclipped_choice}
use Rattle.clip_bounds.proofs.Reaching.{completion_for_ends}
use Rattle.clip_bounds.proofs.Rows.{IsClippedBy, clipped_by, clipped_ordered, long_number, not_average, outcome_within}

-- what is so of clipped pairs, where the clip has numbers, and of none, where it has none
pub by_numbers : (clip : Clip) (P : (List Pair → List Pair) → Type 0) → (HasNumbers clip → P (map (clipped clip))) → (clip.high <ℤ clip.low → P (λ ps. [])) → P (all_clipped clip)
by_numbers clip P full none = by_test (int_le clip.low clip.high) refl
  where
    by_test : (b : Bool) → int_le clip.low clip.high ≡ b → P (λ ps. cond b (map (clipped clip) ps) [])
    by_test true t = full (omega (arith, ints))
    by_test false f = none (omega (arith, ints))

-- no clipped pair is empty
pub pairs_ordered : (query : Query) (item : Aggregate) (clip : Clip) (frame : Frame) (known : Knowledge) → IsClippedBy query item clip → HasNumbers clip → IsOfLongs frame clip.column → IsKnowledge frame known →
    ArePairs (map (clipped clip) (pairs query item [] frame known))
pairs_ordered query item clip frame known own full longs k =
    rows_ordered clip (λ r. pair_of query item [] (ranges_of frame known r)) 0 frame.rows frame.rows (omega arith)
    (λ r r_in p e. clipped_ordered query item clip frame known r p own full longs (ranges_ordered frame known r k r_in) e)

-- the values of a completion lie in the clip
values_within : (query : Query) (item : Aggregate) (clip : Clip) (frame : Frame) (known : Knowledge) (cells : Cells) → IsClippedBy query item clip → IsOfLongs frame clip.column → IsKnowledge frame known →
    IsCompletion frame known cells → AreWithin clip (values_of query item [] frame cells)
values_within query item clip frame known cells own longs k h =
    rows_within clip (λ r. outcome_of query item [] (row_of frame cells r)) 0 frame.rows frame.rows (omega arith)
    (λ r r_in x e.
    let told = outcome_within query item clip (row_of frame cells r) x own e in
    let there = subst (IsIn (ranges_of frame known r clip.column)) told.0 (row_chosen frame known cells r k h r_in clip.column) in
    told.1 (long_number frame known r clip.column x longs there.1))

-- ---- a clip without numbers

nothing_within : (clip : Clip) (xs : List ℤ) → clip.high <ℤ clip.low → AreWithin clip xs → xs ≡ []
nothing_within clip [] none w = refl
nothing_within clip (x ∷ xs) none w =
    let low = w.0.above in
    let high = w.0.below in
    absurd (omega (arith, ints))

always_never : Always ≡ Never → ⊥
always_never e = cc

pub always_possibly : Always ≡ Possibly → ⊥
always_possibly e = cc

-- the bound of no pairs
pub nothing_is_null : (kind : ItemKind) → IsTrue (is_clipped_kind kind) → (bound_of kind []).null ≡ Always
nothing_is_null Count h = absurd (false≢true h)
nothing_is_null Sum h = refl
nothing_is_null Min h = refl
nothing_is_null Max h = refl
nothing_is_null Avg h = absurd (false≢true h)

no_answer : (kind : ItemKind) → IsTrue (is_clipped_kind kind) → answer kind [] ≡ None
no_answer Count h = absurd (false≢true h)
no_answer Sum h = refl
no_answer Min h = refl
no_answer Max h = refl
no_answer Avg h = absurd (false≢true h)

-- the answer of each completion is null
answers_null : (query : Query) (item : Aggregate) (clip : Clip) (frame : Frame) (known : Knowledge) (cells : Cells) → IsClippedBy query item clip → clip.high <ℤ clip.low → IsOfLongs frame clip.column → IsKnowledge frame known →
    IsCompletion frame known cells → answer_of query item [] frame cells ≡ None
answers_null query item clip frame known cells own none longs k h =
    ap (answer item.kind) (nothing_within clip (values_of query item [] frame cells) none (values_within query item clip frame known cells own longs k h)) ∙ no_answer item.kind own.kind

nothing_contains : (kind : ItemKind) (a : Option ℤ) → IsTrue (is_clipped_kind kind) → a ≡ None → Admits (bound_of kind []) a
nothing_contains kind a h e = subst (Admits (bound_of kind [])) (sym e) (λ never. always_never (sym (nothing_is_null kind h) ∙ never))

-- a bound that admits null has the bound of no pairs within it
nothing_nested : (kind : ItemKind) (plain : Bound) → IsTrue (is_clipped_kind kind) → plain.null ≢ Never → IsNested plain (bound_of kind [])
nothing_nested kind plain h may =
    let null = nothing_is_null kind h in
    record { null = λ _. may; full = λ some. absurd (some null); lo = λ some. absurd (some null); hi = λ some. absurd (some null) }

-- ---- the laws

pub clips_contain : ClipsContain
clips_contain query item clip frame known cells e longs k h =
    let own = clipped_by query item clip e in
    let ps = pairs query item [] frame known in
    let give = values_chosen query item [] frame known cells k h in
    let within = subst (AreWithin clip) (sym give.2) (values_within query item clip frame known cells own longs k h) in
    by_numbers clip (λ f. Admits (bound_of item.kind (f ps)) (answer_of query item [] frame cells))
    (λ full. subst (λ values. Admits (bound_of item.kind (map (clipped clip) ps)) (answer item.kind values)) give.2
    (admits_choice item.kind (map (clipped clip) ps) give.0 (not_average item.kind own.kind) (clipped_choice clip ps give.0 give.1 within)))
    (λ none. nothing_contains item.kind (answer_of query item [] frame cells) own.kind (answers_null query item clip frame known cells own none longs k h))

pub clips_lie_within : ClipsLieWithin
clips_lie_within query item clip frame known e longs k =
    let own = clipped_by query item clip e in
    let ps = pairs query item [] frame known in
    by_numbers clip (λ f. IsNested (bound_under query item [] frame known) (bound_of item.kind (f ps)))
    (λ full. nested_by_choices item.kind ps (map (clipped clip) ps) (not_average item.kind own.kind) (pairs_ordered query item clip frame known own full longs k)
    (λ os c. (os, (unclipped_choice clip ps os c).0, refl)))
    (λ none. (let some = completions_exist frame known k in
    nothing_nested item.kind (bound_under query item [] frame known) own.kind
    (subst (Admits (bound_under query item [] frame known)) (answers_null query item clip frame known some.0 own none longs k some.1)
    (bounds_contain query item [] frame known some.0 (not_average item.kind own.kind) k some.1))))

pub clips_nest : ClipsNest
clips_nest query item clip frame known c bits e longs k t =
    let own = clipped_by query item clip e in
    let old = pairs query item [] frame known in
    let new = pairs query item [] frame (taken known c bits) in
    by_numbers clip (λ f. IsNested (bound_of item.kind (f old)) (bound_of item.kind (f new)))
    (λ full. nested_by_choices item.kind (map (clipped clip) old) (map (clipped clip) new) (not_average item.kind own.kind)
    (pairs_ordered query item clip frame (taken known c bits) own full longs (taken_is_knowledge frame known c bits k t))
    (λ os ends.
    let plain = unclipped_choice clip new os ends in
    let older = choices_are_older query item [] frame known c bits k t os plain.0 in
    (older.0, clipped_choice clip old older.0 older.1 (subst (AreWithin clip) (sym older.2) plain.1), older.2)))
    (λ none. nothing_nested item.kind (bound_of item.kind []) own.kind (λ never. always_never (sym (nothing_is_null item.kind own.kind) ∙ never)))

pub clips_are_extremes : ClipsAreExtremes
clips_are_extremes query item clip frame known e longs attains k =
    let own = clipped_by query item clip e in
    let ps = pairs query item [] frame known in
    let worlds : Cells → Type 0 = IsCompletion frame known in
    let told : Cells → Option ℤ = answer_of query item [] frame in
    by_numbers clip (λ f. ((cells : Cells) → worlds cells → Admits (bound_of item.kind (f ps)) (told cells)) → IsExtremes worlds told (bound_of item.kind (f ps)))
    (λ full admits.
    let new = map (clipped clip) ps in
    let bound = bound_of item.kind new in
    let law = (bounds_are_extremes_of_lists item.kind new (not_average item.kind own.kind) (pairs_ordered query item clip frame known own full longs k)).1 in
    let occurs : (a : Option ℤ) → Occurs (AreEndOutcomes new) (λ os. answer item.kind (present os)) a → Occurs worlds told a =
    λ a found. (let some = completion_for_ends query item clip frame known found.0 own full longs attains k found.1 in (some.0, some.1, ap (answer item.kind) some.2 ∙ found.2)) in
    record {
      admits = admits;
      null = tells_from_admits worlds told bound bound.null refl admits
          (λ possibly. occurs None (none_where_possible (AreEndOutcomes new) (λ os. answer item.kind (present os)) bound.null law.null possibly));
      lo = λ w. occurs (Some bound.lo) (law.lo w);
      hi = λ w. occurs (Some bound.hi) (law.hi w);
    })
    (λ none admits.
    let bound = bound_of item.kind [] in
    let null = nothing_is_null item.kind own.kind in
    record {
      admits = admits;
      null = tells_from_admits worlds told bound bound.null refl admits (λ possibly. absurd (always_possibly (sym null ∙ possibly)));
      lo = λ some. absurd (some null);
      hi = λ some. absurd (some null);
    })
    (λ cells h. clips_contain query item clip frame known cells e longs k h)
