-- That the parts stay in the order of their tags, and where a part stands among them.
use Rattle.std.proofs.Common.{◌≡◌, ℕ, zero, suc, ◌<◌, ◌≤◌, List, [], ◌∷◌, length, get_or, map, set, refl, sym, ap, subst, ◌∙◌, inl, inr, ◌⊎◌, arith, MatchResult, OnErr, OnOk}
use Rattle.std.proofs.lemmas.Cmp.{nat_list_cmp_total, tied_itself}
use Rattle.std.proofs.lemmas.List.{get_or-map, get_or_default, length-map}
use Rattle.std.proofs.lemmas.Map.Keys.{Less-from_sorted, sorted_tail}
use Rattle.std.proofs.lemmas.Map.Text.{is_eq-slice_cmp}
use Rattle.std.proofs.lemmas.Slice.Eq.{bytes_eq-Decides}
use Rattle.std.specs.Cmp.Lexicographic.{slice_cmp}
use Rattle.std.specs.List.{AllByRecursion, AllWithin, HoldsAt, insert}
use Rattle.std.specs.List.Sorted.{IsBinarySearchResult, IsNonDecreasingBy, IsSearchInRange, IsStrictlySortedBy}
use Rattle.std.specs.Ordering.{is_eq, nat_cmp, ordering_index, ordering_reverse}
use Rattle.std.specs.declared.cmp.Ordering.{Ordering}
use Rattle.std.specs.declared.cmp.Ordering.TheVariants.{Less, Equal, Greater}
use Rattle.std.specs.declared.result.Result.{Result}
use Rattle.std.specs.declared.result.Result.TheVariants.{Ok, Err}
use Rattle.report_parts.specs.declared.fault.InputFault.{InputFault}
use Rattle.report_parts.specs.declared.fault.InputFault.TheVariants.{Line}
use Rattle.report_parts.specs.declared.fault.LineFault.{LineFault}
use Rattle.report_parts.specs.declared.fault.LineFault.TheVariants.{NoMemory}
use Rattle.report_parts.specs.declared.shape.Shape.{Shape}
use Rattle.report_parts.specs.Tags.{AreInOrder, BelongsAt, HasPart, IsRefused, StandsAt, against, by_order, part_at, told_of, with_part}
use Rattle.report_parts.specs.Told.{Told, nothing_told}

-- ---- tags in order

pub equal_is : (a b : List ℕ) → slice_cmp nat_cmp a b ≡ Equal → a ≡ b
equal_is a b e = (bytes_eq-Decides a b).0 (sym (is_eq-slice_cmp a b) ∙ ap is_eq e)

pub tag_is : (tag : List ℕ) (part : Told) → against tag part ≡ Equal → part.tag ≡ tag
tag_is tag part e = equal_is part.tag tag e

tags_rise : (parts : List Told) (i j : ℕ) (d : Told) → AreInOrder parts → i < j → j < length parts →
    slice_cmp nat_cmp (get_or parts i d).tag (get_or parts j d).tag ≡ Less
tags_rise parts i j d sorted before lt =
    let here : get_or (map (λ (p : Told). p.tag) parts) i d.tag ≡ (get_or parts i d).tag = get_or-map (λ (p : Told). p.tag) parts i d d.tag (omega (arith, before, lt)) in
    let there : get_or (map (λ (p : Told). p.tag) parts) j d.tag ≡ (get_or parts j d).tag = get_or-map (λ (p : Told). p.tag) parts j d d.tag lt in
    let wide : length (map (λ (p : Told). p.tag) parts) ≡ length parts = length-map parts (λ (p : Told). p.tag) in
    let less = Less-from_sorted (slice_cmp nat_cmp) (map (λ (p : Told). p.tag) parts) i j d.tag sorted before (omega (arith, lt, wide)) in
    subst (λ (t : List ℕ). slice_cmp nat_cmp t (get_or parts j d).tag ≡ Less) here
    (subst (λ (t : List ℕ). slice_cmp nat_cmp (get_or (map (λ (p : Told). p.tag) parts) i d.tag) t ≡ Less) there less)

rises : (o p : Ordering) → (p ≡ Less → o ≡ Less) → (p ≡ Equal → o ≡ Less) → ordering_index o ≤ ordering_index p
rises o Less f g = rw (f refl) (omega arith)
rises o Equal f g = rw (g refl) (omega arith)
rises Less Greater f g = omega arith
rises Equal Greater f g = omega arith
rises Greater Greater f g = omega arith

before_or_at : (i j : ℕ) → i ≤ j → (i < j) ⊎ (i ≡ j)
before_or_at i j le = grind arith

orders_rise : (tag : List ℕ) (parts : List Told) → AreInOrder parts → IsNonDecreasingBy (λ (y : Told). ordering_index (against tag y)) parts
orders_rise tag parts sorted = λ i j d le lt.
    elim (before_or_at i j le) [
      | inl before ↦
          let below = tags_rise parts i j d sorted before lt in
          rises (against tag (get_or parts i d)) (against tag (get_or parts j d))
          (λ h. nat_list_cmp_total.trans (get_or parts i d).tag (get_or parts j d).tag tag below h)
          (λ h. subst (λ (t : List ℕ). slice_cmp nat_cmp (get_or parts i d).tag t ≡ Less) (tag_is tag (get_or parts j d) h) below)
      | inr same ↦ rw same (omega arith)
    ]

-- ---- where a part stands

told_there : (tag : List ℕ) (parts : List Told) (place : ℕ) (d : Told) → AreInOrder parts → place < length parts →
    HoldsAt (λ (y : Told). against tag y ≡ Equal) parts place → told_of tag parts ≡ get_or parts place d
told_there tag [] place d sorted lt h = absurd (omega (arith, lt))
told_there tag (part ∷ parts) zero d sorted lt h = rw (h d) refl
told_there tag (part ∷ parts) (suc k) d sorted lt h =
    let below : against tag part ≡ Less = subst (λ (t : List ℕ). slice_cmp nat_cmp part.tag t ≡ Less) (tag_is tag (get_or parts k d) (h d)) (tags_rise (part ∷ parts) 0 (suc k) d sorted (omega arith) lt) in
    rw below (told_there tag parts k d (sorted_tail (slice_cmp nat_cmp) part.tag (map (λ (p : Told). p.tag) parts) sorted) (omega (arith, lt)) (λ e. h e))

put_there : (told : Told) (parts : List Told) (place : ℕ) → AreInOrder parts → place < length parts →
    HoldsAt (λ (y : Told). against told.tag y ≡ Equal) parts place → with_part told parts ≡ set parts place told
put_there told [] place sorted lt h = absurd (omega (arith, lt))
put_there told (part ∷ parts) zero sorted lt h = rw (h told) refl
put_there told (part ∷ parts) (suc k) sorted lt h =
    let below : against told.tag part ≡ Less = subst (λ (t : List ℕ). slice_cmp nat_cmp part.tag t ≡ Less) (tag_is told.tag (get_or parts k told) (h told)) (tags_rise (part ∷ parts) 0 (suc k) told sorted (omega arith) lt) in
    rw below (ap (λ (ps : List Told). part ∷ ps) (put_there told parts k (sorted_tail (slice_cmp nat_cmp) part.tag (map (λ (p : Told). p.tag) parts) sorted) (omega (arith, lt)) (λ e. h e)))

none_there : (tag : List ℕ) (parts : List Told) (place : ℕ) → place ≤ length parts →
    AllWithin (λ (y : Told). against tag y ≡ Less) parts 0 place → AllWithin (λ (y : Told). against tag y ≡ Greater) parts place (length parts) →
    told_of tag parts ≡ nothing_told tag
none_there tag [] place le below above = refl
none_there tag (part ∷ parts) zero le below above = rw (above 0 part (omega arith) (omega arith)) refl
none_there tag (part ∷ parts) (suc k) le below above =
    rw (below 0 part (omega arith) (omega arith))
    (none_there tag parts k (omega (arith, le)) (λ j d from lt. below (suc j) d (omega arith) (omega (arith, lt))) (λ j d from lt. above (suc j) d (omega (arith, from)) (omega (arith, lt))))

-- a part has the tag of the part that stands at a place
has_there : (tag : List ℕ) (parts : List Told) (place : ℕ) → place < length parts → (part_at place parts).tag ≡ tag → HasPart tag parts
has_there tag parts place lt same =
    let wide : length (map (λ (p : Told). p.tag) parts) ≡ length parts = length-map parts (λ (p : Told). p.tag) in
    (place, omega (arith, lt, wide), get_or-map (λ (p : Told). p.tag) parts place (nothing_told []) tag lt ∙ same)

-- a tag stands neither before itself nor behind
not_before : (tag : List ℕ) → slice_cmp nat_cmp tag tag ≡ Less → ⊥
not_before tag e = let f : Less ≡ Greater = sym e ∙ nat_list_cmp_total.antisymm tag tag ∙ ap ordering_reverse e in cc

not_behind : (tag : List ℕ) → slice_cmp nat_cmp tag tag ≡ Greater → ⊥
not_behind tag e = let f : Greater ≡ Less = sym e ∙ nat_list_cmp_total.antisymm tag tag ∙ ap ordering_reverse e in cc

absent_by : (tag : List ℕ) (parts : List Told) (place k : ℕ) →
    AllWithin (λ (y : Told). against tag y ≡ Less) parts 0 place → AllWithin (λ (y : Told). against tag y ≡ Greater) parts place (length parts) →
    k < length parts → (get_or parts k (nothing_told tag)).tag ≡ tag → (k < place) ⊎ (place ≤ k) → ⊥
absent_by tag parts place k below above lt same (inl before) =
    not_before tag (subst (λ (t : List ℕ). slice_cmp nat_cmp t tag ≡ Less) same (below k (nothing_told tag) (omega arith) before))
absent_by tag parts place k below above lt same (inr behind) =
    not_behind tag (subst (λ (t : List ℕ). slice_cmp nat_cmp t tag ≡ Greater) same (above k (nothing_told tag) behind lt))

before_or_behind : (k place : ℕ) → (k < place) ⊎ (place ≤ k)
before_or_behind k place = grind arith

absent_there : (tag : List ℕ) (parts : List Told) (place : ℕ) →
    AllWithin (λ (y : Told). against tag y ≡ Less) parts 0 place → AllWithin (λ (y : Told). against tag y ≡ Greater) parts place (length parts) →
    ¬ HasPart tag parts
absent_there tag parts place below above (k, lt, same) =
    let wide : length (map (λ (p : Told). p.tag) parts) ≡ length parts = length-map parts (λ (p : Told). p.tag) in
    let within : k < length parts = omega (arith, lt, wide) in
    absent_by tag parts place k below above within
    (sym (get_or-map (λ (p : Told). p.tag) parts k (nothing_told tag) tag within) ∙ same) (before_or_behind k place)

none_by : (tag : List ℕ) (part : Told) (parts : List Told) (o : Ordering) → against tag part ≡ o → (part.tag ≡ tag → ⊥) →
    told_of tag parts ≡ nothing_told tag → by_order o (told_of tag parts) part (nothing_told tag) ≡ nothing_told tag
none_by tag part parts Less e other rest = rest
none_by tag part parts Equal e other rest = absurd (other (tag_is tag part e))
none_by tag part parts Greater e other rest = refl

-- where no part has the tag, nothing is told of it
pub absent_none : (tag : List ℕ) (parts : List Told) → ¬ HasPart tag parts → told_of tag parts ≡ nothing_told tag
absent_none tag [] absent = refl
absent_none tag (part ∷ parts) absent =
    none_by tag part parts (against tag part) refl (λ same. absent (0, omega arith, same))
    (absent_none tag parts (λ has. absent (suc has.0, omega (arith, has.1), has.2)))

put_new : (told : Told) (parts : List Told) (place : ℕ) → place ≤ length parts →
    AllWithin (λ (y : Told). against told.tag y ≡ Less) parts 0 place → AllWithin (λ (y : Told). against told.tag y ≡ Greater) parts place (length parts) →
    with_part told parts ≡ insert parts place told
put_new told [] zero le below above = refl
put_new told [] (suc k) le below above = absurd (omega (arith, le))
put_new told (part ∷ parts) zero le below above = rw (above 0 part (omega arith) (omega arith)) refl
put_new told (part ∷ parts) (suc k) le below above =
    rw (below 0 part (omega arith) (omega arith))
    (ap (λ (ps : List Told). part ∷ ps)
    (put_new told parts k (omega (arith, le)) (λ j d from lt. below (suc j) d (omega arith) (omega (arith, lt))) (λ j d from lt. above (suc j) d (omega (arith, from)) (omega (arith, lt)))))

-- a binary search by tags finds the part, or where it belongs
pub searched : (tag : List ℕ) (parts : List Told) (r : Result ℕ ℕ) → AreInOrder parts → IsSearchInRange r (length parts) →
    IsBinarySearchResult (against tag) parts r → MatchResult r (StandsAt tag parts) (BelongsAt tag parts)
searched tag parts (Ok place) sorted within h = record {
  within = within;
  told = told_there tag parts place (nothing_told []) sorted within h;
  tagged = tag_is tag (part_at place parts) (h (nothing_told []));
  there = has_there tag parts place within (tag_is tag (part_at place parts) (h (nothing_told [])));
  put = λ told e. put_there told parts place sorted within (subst (λ (t : List ℕ). HoldsAt (λ (y : Told). against t y ≡ Equal) parts place) (sym e) h);
}
searched tag parts (Err place) sorted within h =
    let point = h (orders_rise tag parts sorted) in
    record {
      within = within;
      none = none_there tag parts place within point.0 point.1;
      absent = absent_there tag parts place point.0 point.1;
      put = λ told e. put_new told parts place within
          (subst (λ (t : List ℕ). AllWithin (λ (y : Told). against t y ≡ Less) parts 0 place) (sym e) point.0)
          (subst (λ (t : List ℕ). AllWithin (λ (y : Told). against t y ≡ Greater) parts place (length parts)) (sym e) point.1);
    }

-- a part stands where its tag is seen
pub seen_there : (tag : List ℕ) (parts : List Told) (place : ℕ) → AreInOrder parts → place < length parts → (part_at place parts).tag ≡ tag →
    StandsAt tag parts place
seen_there tag parts place sorted within same =
    let equal : slice_cmp nat_cmp (part_at place parts).tag tag ≡ Equal =
    subst (λ (t : List ℕ). slice_cmp nat_cmp (part_at place parts).tag t ≡ Equal) same (tied_itself nat_list_cmp_total (part_at place parts).tag) in
    searched tag parts (Ok place) sorted within
    (λ d. subst (λ (part : Told). against tag part ≡ Equal) (get_or_default parts place (nothing_told []) d within) equal)

-- ---- the order stays

each : {X : Type 0} (P : X → Type 0) (o : Ordering) (a b c : X) → P a → P b → P c → P (by_order o a b c)
each P Less a b c x y z = x
each P Equal a b c x y z = y
each P Greater a b c x y z = z

all_with : (tag : List ℕ) (told : Told) (parts : List Told) → AllByRecursion (λ y. slice_cmp nat_cmp tag y ≡ Less) (map (λ (p : Told). p.tag) parts) →
    slice_cmp nat_cmp tag told.tag ≡ Less → AllByRecursion (λ y. slice_cmp nat_cmp tag y ≡ Less) (map (λ (p : Told). p.tag) (with_part told parts))
all_with tag told [] all h = (h, tt)
all_with tag told (part ∷ parts) all h =
    each (λ (ps : List Told). AllByRecursion (λ y. slice_cmp nat_cmp tag y ≡ Less) (map (λ (p : Told). p.tag) ps)) (against told.tag part)
    (part ∷ with_part told parts) (told ∷ parts) (told ∷ part ∷ parts) (all.0, all_with tag told parts all.1 h) (h, all.1) (h, all)

all_above : (low tag : List ℕ) (tags : List (List ℕ)) → slice_cmp nat_cmp low tag ≡ Less → AllByRecursion (λ y. slice_cmp nat_cmp tag y ≡ Less) tags →
    AllByRecursion (λ y. slice_cmp nat_cmp low y ≡ Less) tags
all_above low tag [] less all = tt
all_above low tag (next ∷ tags) less all = (nat_list_cmp_total.trans low tag next less all.0, all_above low tag tags less all.1)

stays_by : (told part : Told) (parts : List Told) (o : Ordering) → against told.tag part ≡ o → AreInOrder (part ∷ parts) → AreInOrder (with_part told parts) →
    AreInOrder (by_order o (part ∷ with_part told parts) (told ∷ parts) (told ∷ part ∷ parts))
unfolding IsStrictlySortedBy
stays_by told part parts Less e sorted rest = (all_with part.tag told parts sorted.0 e, rest)
stays_by told part parts Equal e sorted rest =
    (subst (λ (t : List ℕ). AllByRecursion (λ y. slice_cmp nat_cmp t y ≡ Less) (map (λ (p : Told). p.tag) parts)) (tag_is told.tag part e) sorted.0, sorted.1)
stays_by told part parts Greater e sorted rest =
    let less : slice_cmp nat_cmp told.tag part.tag ≡ Less = nat_list_cmp_total.antisymm told.tag part.tag ∙ ap ordering_reverse e in
    ((less, all_above told.tag part.tag (map (λ (p : Told). p.tag) parts) less sorted.0), sorted)

pub none_in_order : AreInOrder []
unfolding IsStrictlySortedBy
none_in_order = tt

pub order_stays : (told : Told) (parts : List Told) → AreInOrder parts → AreInOrder (with_part told parts)
unfolding IsStrictlySortedBy
order_stays told [] sorted = (tt, tt)
order_stays told (part ∷ parts) sorted = stays_by told part parts (against told.tag part) refl sorted (order_stays told parts sorted.1)

-- ---- after a line

-- where the part that stands at a place was changed, but for its tag
pub order_at : (tag : List ℕ) (seen old new : List Told) (place : ℕ) → seen ≡ old → StandsAt tag seen place → AreInOrder old →
    (told : Told) × (told.tag ≡ (part_at place old).tag) × (new ≡ set old place told) → AreInOrder new
order_at tag seen old new place e stands sorted changed =
    let here : StandsAt tag old place = subst (λ (ps : List Told). StandsAt tag ps place) e stands in
    subst (λ (ps : List Told). AreInOrder ps) (here.put changed.0 (changed.1 ∙ here.tagged) ∙ sym changed.2) (order_stays changed.0 old sorted)

-- where a part came in at its place, or none did
pub order_first : (tag : List ℕ) (seen old new : List Told) (place : ℕ) (r : Result (Unit {0}) LineFault) (Also : Told → Type 0) → seen ≡ old →
    BelongsAt tag seen place → AreInOrder old → OnOk r ((told : Told) × (told.tag ≡ tag) × Also told × (new ≡ insert old place told)) →
    OnErr r (new ≡ old) → AreInOrder new
order_first tag seen old new place (Ok done) Also e belongs sorted came kept =
    let here : BelongsAt tag old place = subst (λ (ps : List Told). BelongsAt tag ps place) e belongs in
    subst (λ (ps : List Told). AreInOrder ps) (here.put came.0 came.1 ∙ sym came.3) (order_stays came.0 old sorted)
order_first tag seen old new place (Err why) Also e belongs sorted came kept = subst (λ (ps : List Told). AreInOrder ps) (sym kept) sorted

-- where memory ran out the line is of no part more
pub starved_refused : (why : InputFault) (query : List ℕ) (shape : Shape) (count : ℕ) (parts : List Told) (line : List ℕ) (most : ℕ) (own : List Told) →
    why ≡ Line NoMemory → most ≡ count → own ≡ parts → IsRefused why query shape count parts line → IsRefused (Line NoMemory) query shape most own line
starved_refused why query shape count parts line most own is few same refused =
    subst (λ (n : ℕ). IsRefused (Line NoMemory) query shape n own line) (sym few)
    (subst (λ (ps : List Told). IsRefused (Line NoMemory) query shape count ps line) (sym same)
    (subst (λ (f : InputFault). IsRefused f query shape count parts line) is refused))
