-- The clipped bound of an engine's item: what it says of whole tables, and how it is shown.
use Rattle.std.proofs.Common.{◌≡◌, ◌≢◌, ℕ, zero, suc, ◌<◌, ℤ, pos, ◌+ℤ◌, ◌≤ℤ◌, ◌<ℤ◌, int_le, true, false, List, [], ◌∷◌, length, map, slice_get, IfSome, IsTrue, FitsSigned, Option, Some, None, refl, sym, ap, subst, ◌∙◌, arith, inl, inr, ◌⊎◌}
use Rattle.std.specs.Int.{int_max, int_min, w128}
use Rattle.std.proofs.lemmas.Bool.{cases_Bool, cond-true, cond-false, cond_both, false≢true}
use Rattle.std.proofs.lemmas.Int.{ints}
use Rattle.std.proofs.lemmas.Option.{same_Some}
use Rattle.daq_table.specs.Tables.{Frame, frame_of}
use Rattle.daq_table.specs.declared.table_head.Head.{Head}
use Rattle.query_model.specs.declared.bounds.Bound.{Bound}
use Rattle.query_model.specs.declared.bounds.Nullity.{Nullity}
use Rattle.query_model.specs.declared.bounds.Nullity.TheVariants.{Never, Possibly, Always}
use Rattle.query_model.specs.declared.query.Face.{Face}
use Rattle.query_model.specs.declared.query.Face.TheVariants.{Number, OfColumn}
use Rattle.query_model.specs.declared.query.ItemKind.{ItemKind}
use Rattle.query_model.specs.declared.query.ItemKind.TheVariants.{Count, Sum, Min, Max, Avg}
use Rattle.query_model.specs.Answers.{total}
use Rattle.query_model.specs.Bounds.{Admits, IsNested, Pair, bound_of, bound_under, greatest_sum, high_share, least_sum, low_share, nullity_of, some_certain}
use Rattle.query_model.specs.Knowledge.{IsKnowledge}
use Rattle.query_model.specs.Laws.{ArePairs}
use Rattle.query_model.specs.Meaning.{ReadsBelow}
use Rattle.query_model.specs.Queries.{Aggregate, Term}
use Rattle.query_model.specs.Validity.{FitsHead}
use Rattle.query_model.proofs.Fits.{wide_inside}
use Rattle.query_model.proofs.ListBounds.{nullity_of-certain}
use Rattle.query_model.proofs.ListExtremes.{bounds_are_extremes_of_lists}
use Rattle.query_model.proofs.WholeTables.{fitting_heads_have_parts}
use Rattle.round_engine.specs.Promises.{IsShownWithin}
use Rattle.round_engine.specs.Stages.{IsOpenStage, Stage}
use Rattle.round_engine.proofs.Kept.{open_item_at}
use Rattle.clip_bounds.specs.declared.clip.Clip.{Clip}
use Rattle.clip_bounds.specs.Clips.{clip_of, is_clipped_kind}
use Rattle.clip_bounds.specs.Clipped.{IsCertainClip, clipped, clipped_ends, clipped_in, clipped_pairs, pairs_in}
use Rattle.clip_bounds.specs.ClipLaws.{IsOfLongs}
use Rattle.clip_bounds.specs.Sums.{IsItemWithClip, IsSumWithClip, is_always, is_sum, is_uncertain}
use Rattle.clip_bounds.proofs.Passing.{HasNumbers}
use Rattle.clip_bounds.proofs.ClipBounds.{by_numbers, clips_lie_within, nothing_is_null, pairs_ordered}
use Rattle.clip_bounds.proofs.Certain.{clips_are_certain}
use Rattle.clip_bounds.proofs.ClippedEnds.{IsExtremeKind, extreme_clipped, nullity_clipped, same_bound}
use Rattle.clip_bounds.proofs.ClippedSums.{above, at_most, greatest_sum_lowered, greatest_sum_moved, least_sum_moved, least_sum_raised}
use Rattle.clip_bounds.proofs.Rows.{clipped_by, not_average}

-- ---- the column

-- the clip is of a column of the query
pub column_there : (stage : Stage) (place : ℕ) (i : Aggregate) (clip : Clip) → IsOpenStage stage → slice_get stage.query.items place ≡ Some i → clip_of stage.query i ≡ Some clip → clip.column < length stage.frame.columns
column_there stage place i clip open_stage at has =
    subst (λ (e : Term). ReadsBelow (length stage.frame.columns) e) (clipped_by stage.query i clip has).argument (open_item_at stage place i open_stage at).columns

-- the item at a place within the list, and what holds of it
pub the_item : (items : List Aggregate) (place : ℕ) (P : Aggregate → Type 0) → place < length items → IfSome (slice_get items place) P → (i : Aggregate) × (slice_get items place ≡ Some i) × P i
the_item [] place P within h = absurd (omega arith)
the_item (i ∷ is) zero P within h = (i, refl, h)
the_item (i ∷ is) (suc place) P within h = the_item is place P (omega (arith, within)) h

pub clip_there : (stage : Stage) (place : ℕ) (clip : Clip) → IsOpenStage stage → place < length stage.query.items → IfSome (slice_get stage.query.items place) (λ i. clip_of stage.query i ≡ Some clip) → clip.column < length stage.frame.columns
clip_there stage place clip open_stage within h =
    let own = the_item stage.query.items place (λ i. clip_of stage.query i ≡ Some clip) within h in
    column_there stage place own.0 clip open_stage own.1 own.2

-- ---- whole tables

pub clip_is_certain : (stage : Stage) (i : Aggregate) (clip : Clip) (head : Head) → clip_of stage.query i ≡ Some clip → IsOfLongs stage.frame clip.column → IsKnowledge stage.frame stage.known → FitsHead stage.query stage.frame head →
    IsCertainClip stage i clip (frame_of head)
clip_is_certain stage i clip head has longs k fits =
    clips_are_certain stage i clip (frame_of head) has (fitting_heads_have_parts stage.query stage.frame head fits) longs k

-- ---- ends

-- the ends of a bound over pairs are in order
ends_ordered : (kind : ItemKind) (ps : List Pair) → kind ≢ Avg → ArePairs ps → (bound_of kind ps).null ≢ Always → (bound_of kind ps).lo ≤ℤ (bound_of kind ps).hi
ends_ordered kind ps not_avg ordered some =
    let law = (bounds_are_extremes_of_lists kind ps not_avg ordered).0 in
    let found = law.lo some in
    let admits : Admits (bound_of kind ps) (Some (bound_of kind ps).lo) = subst (Admits (bound_of kind ps)) found.2 (law.admits found.0 found.1) in
    admits.2

-- the bound of no value
abbrev pub no_bound : Bound
no_bound = record { null = Always; lo = pos 0; hi = pos 0 }

-- the clipped bound lies between the ends of the item's own
pub record LiesBetween (outer inner : Bound) : Type 0 where
  pub null : inner.null ≡ outer.null
  pub low : outer.lo ≤ℤ inner.lo
  pub ordered : inner.lo ≤ℤ inner.hi
  pub high : inner.hi ≤ℤ outer.hi

null_of : (kind : ItemKind) (ps : List Pair) → IsTrue (is_clipped_kind kind) → (bound_of kind ps).null ≡ nullity_of ps
null_of Count ps h = absurd (false≢true h)
null_of Sum ps h = refl
null_of Min ps h = refl
null_of Max ps h = refl
null_of Avg ps h = absurd (false≢true h)

same_null : (kind : ItemKind) (clip : Clip) (ps : List Pair) → IsTrue (is_clipped_kind kind) → (bound_of kind (map (clipped clip) ps)).null ≡ (bound_of kind ps).null
same_null kind clip ps h = null_of kind (map (clipped clip) ps) h ∙ nullity_clipped clip ps ∙ sym (null_of kind ps h)

-- the clipped bound, where the clip has numbers and where it has none
pub clipped_there : (stage : Stage) (i : Aggregate) (clip : Clip) → HasNumbers clip → clipped_in stage i clip ≡ bound_of i.kind (clipped_pairs stage i clip)
clipped_there stage i clip full =
    let t = at_most clip.low clip.high full in
    ap (bound_of i.kind) (cond-true (int_le clip.low clip.high) (clipped_pairs stage i clip) [] t)

pub nothing_there : (stage : Stage) (i : Aggregate) (clip : Clip) → IsTrue (is_clipped_kind i.kind) → clip.high <ℤ clip.low → no_bound ≡ clipped_in stage i clip
nothing_there stage i clip kind none =
    let f = above clip.low clip.high none in
    sym (by_kind i.kind kind) ∙ sym (ap (bound_of i.kind) (cond-false (int_le clip.low clip.high) (clipped_pairs stage i clip) [] f))
  where
    by_kind : (kind : ItemKind) → IsTrue (is_clipped_kind kind) → bound_of kind [] ≡ no_bound
    by_kind Count h = absurd (false≢true h)
    by_kind Sum h = refl
    by_kind Min h = refl
    by_kind Max h = refl
    by_kind Avg h = absurd (false≢true h)

pub lies_between : (stage : Stage) (i : Aggregate) (clip : Clip) → clip_of stage.query i ≡ Some clip → HasNumbers clip → IsOfLongs stage.frame clip.column → IsKnowledge stage.frame stage.known → (bound_under stage.query i [] stage.frame stage.known).null ≢ Always →
    LiesBetween (bound_under stage.query i [] stage.frame stage.known) (bound_of i.kind (clipped_pairs stage i clip))
lies_between stage i clip has full longs k some =
    let own = clipped_by stage.query i clip has in
    let inner = bound_of i.kind (clipped_pairs stage i clip) in
    let within = subst (IsNested (bound_under stage.query i [] stage.frame stage.known)) (clipped_there stage i clip full) (clips_lie_within stage.query i clip stage.frame stage.known has longs k) in
    let same = same_null i.kind clip (pairs_in stage i) own.kind in
    let still : inner.null ≢ Always = λ e. some (sym same ∙ e) in
    record {
      null = same;
      low = within.lo still;
      ordered = ends_ordered i.kind (clipped_pairs stage i clip) (not_average i.kind own.kind) (pairs_ordered stage.query i clip stage.frame stage.known own full longs k) still;
      high = within.hi still;
    }

-- what lies between numbers that a column may have is such a number
pub shown_between : (frame : Frame) (face : Face) (outer inner : Bound) → LiesBetween outer inner → IsShownWithin frame face outer → IsShownWithin frame face inner
shown_between frame (Number scale) outer inner lies shown = tt
shown_between frame (OfColumn c) outer inner lies shown = λ some.
    let ends = shown (λ e. some (lies.null ∙ e)) in
    let low = lies.low in
    let ordered = lies.ordered in
    let high = lies.high in
    let least = ends.0.above in
    let greatest = ends.1.below in
    (record { above = omega (arith, ints); below = omega (arith, ints) }, record { above = omega (arith, ints); below = omega (arith, ints) })

-- ---- extremes

some_pair : (ps : List Pair) → nullity_of ps ≢ Always → (p : Pair) × (rest : List Pair) × (ps ≡ p ∷ rest)
some_pair [] some = absurd (some refl)
some_pair (p ∷ ps) some = (p, ps, refl)

pub extreme_in : (stage : Stage) (i : Aggregate) (clip : Clip) → IsExtremeKind i.kind → HasNumbers clip → nullity_of (pairs_in stage i) ≢ Always → clipped_ends clip (bound_under stage.query i [] stage.frame stage.known) ≡ clipped_in stage i clip
extreme_in stage i clip extreme full some =
    let found = some_pair (pairs_in stage i) some in
    subst (λ ps. clipped_ends clip (bound_of i.kind ps) ≡ bound_of i.kind (map (clipped clip) ps)) (sym found.2) (sym (extreme_clipped i.kind clip found.0 found.1 extreme))
    ∙ sym (clipped_there stage i clip full)

-- ---- sums

-- where no row is certain and some row may give a value
uncertain : (p : Pair) (ps : List Pair) → nullity_of (p ∷ ps) ≢ Never → some_certain (p ∷ ps) ≡ false
uncertain p ps never = elim (cases_Bool (some_certain (p ∷ ps))) [ inl t ↦ absurd (never (cond_both (some_certain (p ∷ ps)) Never Possibly (λ w. w ≡ Never) (λ _. refl) (λ f. absurd (false≢true (sym f ∙ t))))) | inr f ↦ f ]

pub lone_low : (clip : Clip) (ps : List Pair) → nullity_of ps ≢ Always → nullity_of ps ≢ Never → pos 0 <ℤ clip.low → int_max (least_sum ps) clip.low ≡ least_sum (map (clipped clip) ps)
lone_low clip [] some never h = absurd (some refl)
lone_low clip (p ∷ ps) some never h = sym (least_sum_raised clip p ps h (uncertain p ps never))

pub lone_high : (clip : Clip) (ps : List Pair) → nullity_of ps ≢ Always → nullity_of ps ≢ Never → clip.high <ℤ pos 0 → int_min (greatest_sum ps) clip.high ≡ greatest_sum (map (clipped clip) ps)
lone_high clip [] some never h = absurd (some refl)
lone_high clip (p ∷ ps) some never h = sym (greatest_sum_lowered clip p ps h (uncertain p ps never))

-- the item's own bound, as that of a sum
own_sum : (stage : Stage) (i : Aggregate) (clip : Clip) (plain : Bound) → IsSumWithClip stage i clip plain → plain ≡ bound_of Sum (pairs_in stage i)
own_sum stage i clip plain sum = sum.clipped.bound ∙ ap (λ k. bound_of k (pairs_in stage i)) sum.kind

own_word : (stage : Stage) (i : Aggregate) (clip : Clip) (plain : Bound) → IsSumWithClip stage i clip plain → plain.null ≡ nullity_of (pairs_in stage i)
own_word stage i clip plain sum = ap (λ (b : Bound). b.null) (own_sum stage i clip plain sum)

pub least_sum_by_move : (stage : Stage) (i : Aggregate) (clip : Clip) (plain : Bound) (d : ℤ) → IsSumWithClip stage i clip plain →
    total (map low_share (clipped_pairs stage i clip)) ≡ (total (map low_share (pairs_in stage i)) +ℤ d) → (clip.low ≤ℤ pos 0) ⊎ (plain.null ≡ Never) → (plain.lo +ℤ d) ≡ least_sum (clipped_pairs stage i clip)
least_sum_by_move stage i clip plain d sum moved at =
    ap (λ (b : Bound). b.lo +ℤ d) (own_sum stage i clip plain sum)
    ∙ sym (least_sum_moved clip (pairs_in stage i) d moved (elim at [ inl h ↦ inl h | inr never ↦ inr (nullity_of-certain (pairs_in stage i) (sym (own_word stage i clip plain sum) ∙ never)) ]))

pub greatest_sum_by_move : (stage : Stage) (i : Aggregate) (clip : Clip) (plain : Bound) (d : ℤ) → IsSumWithClip stage i clip plain →
    total (map high_share (clipped_pairs stage i clip)) ≡ (total (map high_share (pairs_in stage i)) +ℤ d) → (pos 0 ≤ℤ clip.high) ⊎ (plain.null ≡ Never) → (plain.hi +ℤ d) ≡ greatest_sum (clipped_pairs stage i clip)
greatest_sum_by_move stage i clip plain d sum moved at =
    ap (λ (b : Bound). b.hi +ℤ d) (own_sum stage i clip plain sum)
    ∙ sym (greatest_sum_moved clip (pairs_in stage i) d moved (elim at [ inl h ↦ inl h | inr never ↦ inr (nullity_of-certain (pairs_in stage i) (sym (own_word stage i clip plain sum) ∙ never)) ]))

pub least_sum_alone : (stage : Stage) (i : Aggregate) (clip : Clip) (plain : Bound) → IsSumWithClip stage i clip plain → pos 0 <ℤ clip.low → plain.null ≢ Never → int_max plain.lo clip.low ≡ least_sum (clipped_pairs stage i clip)
least_sum_alone stage i clip plain sum h never =
    let word = own_word stage i clip plain sum in
    ap (λ (b : Bound). int_max b.lo clip.low) (own_sum stage i clip plain sum) ∙ lone_low clip (pairs_in stage i) (λ e. sum.some (word ∙ e)) (λ e. never (word ∙ e)) h

pub greatest_sum_alone : (stage : Stage) (i : Aggregate) (clip : Clip) (plain : Bound) → IsSumWithClip stage i clip plain → clip.high <ℤ pos 0 → plain.null ≢ Never → int_min plain.hi clip.high ≡ greatest_sum (clipped_pairs stage i clip)
greatest_sum_alone stage i clip plain sum h never =
    let word = own_word stage i clip plain sum in
    ap (λ (b : Bound). int_min b.hi clip.high) (own_sum stage i clip plain sum) ∙ lone_high clip (pairs_in stage i) (λ e. sum.some (word ∙ e)) (λ e. never (word ∙ e)) h

-- both ends of the clipped sum are numbers of 128 bits, since those of the sum are
pub sums_fit : (stage : Stage) (i : Aggregate) (clip : Clip) (plain : Bound) → IsSumWithClip stage i clip plain → HasNumbers clip → FitsSigned w128 plain.lo → FitsSigned w128 plain.hi →
    FitsSigned w128 (least_sum (clipped_pairs stage i clip)) × FitsSigned w128 (greatest_sum (clipped_pairs stage i clip))
sums_fit stage i clip plain sum full low high =
    let own = sum.clipped in
    let outer = bound_under stage.query i [] stage.frame stage.known in
    let some : outer.null ≢ Always = λ e. sum.some (ap (λ (b : Bound). b.null) own.bound ∙ e) in
    let lies = lies_between stage i clip own.has_clip full own.longs own.knowledge some in
    let inner = bound_of i.kind (clipped_pairs stage i clip) in
    let fits = wide_inside (record { low = inner.lo; high = inner.hi }) (record { low = outer.lo; high = outer.hi })
    (record { ordered = lies.ordered; inside = record { low = lies.low; high = lies.high } })
    (subst (λ (b : Bound). FitsSigned w128 b.lo × FitsSigned w128 b.hi) own.bound (low, high)) in
    subst (λ k. FitsSigned w128 (bound_of k (clipped_pairs stage i clip)).lo × FitsSigned w128 (bound_of k (clipped_pairs stage i clip)).hi) sum.kind fits

-- the bound of both ends
pub whole_sum : (stage : Stage) (i : Aggregate) (clip : Clip) (plain : Bound) (lo hi : ℤ) → IsSumWithClip stage i clip plain → HasNumbers clip → lo ≡ least_sum (clipped_pairs stage i clip) → hi ≡ greatest_sum (clipped_pairs stage i clip) →
    ◌≡◌ {A = Bound} (record { null = plain.null; lo = lo; hi = hi }) (clipped_in stage i clip)
whole_sum stage i clip plain lo hi sum full low high =
    same_bound plain.null (nullity_of (clipped_pairs stage i clip)) lo (least_sum (clipped_pairs stage i clip)) hi (greatest_sum (clipped_pairs stage i clip)) (own_word stage i clip plain sum ∙ sym (nullity_clipped clip (pairs_in stage i))) low high
    ∙ sym (ap (λ k. bound_of k (clipped_pairs stage i clip)) sum.kind) ∙ sym (clipped_there stage i clip full)

-- what holds of an item that is there
pub the_value : (o : Option Aggregate) (P : Aggregate → Type 0) (i : Aggregate) → IfSome o P → o ≡ Some i → P i
the_value None P i h e = absurd (none_there e)
  where
    none_there : None ≡ Some i → ⊥
    none_there e = cc
the_value (Some j) P i h e = subst P (same_Some j i e) h

-- the clipped bound of an extreme
extreme_bound : (stage : Stage) (i : Aggregate) (clip : Clip) (plain : Bound) → IsItemWithClip stage i clip plain → IsExtremeKind i.kind → HasNumbers clip → plain.null ≢ Always → clipped_ends clip plain ≡ clipped_in stage i clip
extreme_bound stage i clip plain own extreme full some =
    let kind = (clipped_by stage.query i clip own.has_clip).kind in
    let word : plain.null ≡ nullity_of (pairs_in stage i) = ap (λ (b : Bound). b.null) own.bound ∙ null_of i.kind (pairs_in stage i) kind in
    ap (clipped_ends clip) own.bound ∙ extreme_in stage i clip extreme full (λ e. some (word ∙ e))

-- the clipped bound is shown within what the item's own is
pub clip_is_shown : (stage : Stage) (i : Aggregate) (clip : Clip) → clip_of stage.query i ≡ Some clip → IsOfLongs stage.frame clip.column → IsKnowledge stage.frame stage.known →
    IsShownWithin stage.frame i.face (bound_under stage.query i [] stage.frame stage.known) → IsShownWithin stage.frame i.face (clipped_in stage i clip)
clip_is_shown stage i clip has longs k shown =
    by_numbers clip (λ f. IsShownWithin stage.frame i.face (bound_of i.kind (f (pairs_in stage i))))
    (λ full. by_word (bound_under stage.query i [] stage.frame stage.known).null refl full)
    (λ none. none_shown stage.frame i.face (bound_of i.kind []) (nothing_is_null i.kind own_kind))
  where
    own_kind : IsTrue (is_clipped_kind i.kind)
    own_kind = (clipped_by stage.query i clip has).kind

    none_shown : (frame : Frame) (face : Face) (bound : Bound) → bound.null ≡ Always → IsShownWithin frame face bound
    none_shown frame (Number scale) bound e = tt
    none_shown frame (OfColumn c) bound e = λ some. absurd (some e)

    not_never : Never ≡ Always → ⊥
    not_never e = cc

    not_possibly : Possibly ≡ Always → ⊥
    not_possibly e = cc

    by_word : (w : Nullity) → (bound_under stage.query i [] stage.frame stage.known).null ≡ w → HasNumbers clip → IsShownWithin stage.frame i.face (bound_of i.kind (clipped_pairs stage i clip))
    by_word Never e full = shown_between stage.frame i.face _ _ (lies_between stage i clip has full longs k (λ always. not_never (sym e ∙ always))) shown
    by_word Possibly e full = shown_between stage.frame i.face _ _ (lies_between stage i clip has full longs k (λ always. not_possibly (sym e ∙ always))) shown
    by_word Always e full = none_shown stage.frame i.face (bound_of i.kind (clipped_pairs stage i clip)) (same_null i.kind clip (pairs_in stage i) own_kind ∙ e)

-- the kinds that have a clip
pub sum_kind : (kind : ItemKind) → is_sum kind ≡ true → kind ≡ Sum
sum_kind Count h = absurd (false≢true h)
sum_kind Sum h = refl
sum_kind Min h = absurd (false≢true h)
sum_kind Max h = absurd (false≢true h)
sum_kind Avg h = absurd (false≢true h)

extreme_kind : (kind : ItemKind) → IsTrue (is_clipped_kind kind) → is_sum kind ≡ false → IsExtremeKind kind
extreme_kind Count h n = absurd (false≢true h)
extreme_kind Sum h n = absurd (false≢true (sym n))
extreme_kind Min h n = tt
extreme_kind Max h n = tt
extreme_kind Avg h n = absurd (false≢true h)

pub other_bound : (stage : Stage) (i : Aggregate) (clip : Clip) (plain : Bound) → IsItemWithClip stage i clip plain → is_sum i.kind ≡ false → HasNumbers clip → plain.null ≢ Always → clipped_ends clip plain ≡ clipped_in stage i clip
other_bound stage i clip plain own other full some = extreme_bound stage i clip plain own (extreme_kind i.kind (clipped_by stage.query i clip own.has_clip).kind other) full some

-- the words
pub never_word : (w : Nullity) → is_uncertain w ≡ false → w ≡ Never
never_word Never h = refl
never_word Possibly h = absurd (false≢true (sym h))
never_word Always h = absurd (false≢true (sym h))

pub not_never_word : (w : Nullity) → is_uncertain w ≡ true → w ≢ Never
not_never_word w h e = false≢true (sym (ap is_uncertain e) ∙ h)

pub not_always_word : (w : Nullity) → is_always w ≡ false → w ≢ Always
not_always_word w h e = false≢true (sym h ∙ ap is_always e)
