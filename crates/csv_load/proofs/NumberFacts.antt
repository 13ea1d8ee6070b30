-- Texts that are kept once each: what one more does to them, and to the list that the numbers tell.
use Rattle.std.proofs.Common.{◌≡◌, ℕ, ◌+◌, ◌<◌, ℤ, pos, Bool, true, false, ◌||◌, if◌then◌else◌, Some, All, List, [], ◌∷◌, ◌++◌, slice_get, get_or, length, length-append, map, fold, take, IsTrue, refl, sym, ap, subst, ◌∙◌, arith}
use Rattle.std.proofs.lemmas.List.{get_or-map, get_or_append_left, length-map, map-append, take_more}
use Rattle.std.proofs.lemmas.List.Elements.{All-push, All-tail}
use Rattle.std.proofs.lemmas.List.Folds.{list_any-from_Any}
use Rattle.std.proofs.lemmas.List.Quantifiers.{position-Some}
use Rattle.std.proofs.lemmas.Map.Keys.{any_passes_from_place}
use Rattle.std.proofs.lemmas.Map.Text.{is_eq-slice_cmp}
use Rattle.std.proofs.lemmas.Option.{get_or_from_slice_get, slice_get-get_or, slice_get-map, slice_get_within}
use Rattle.std.proofs.lemmas.Slice.Eq.{bytes_eq-Decides}
use Rattle.std.specs.BTreeSet.{insert_key}
use Rattle.std.specs.Cmp.Lexicographic.{slice_cmp}
use Rattle.std.specs.List.{list_any, position}
use Rattle.std.specs.Option.{option_map}
use Rattle.std.specs.List.Sorted.{IsStrictlySortedBy}
use Rattle.std.specs.Ordering.{is_eq, match_ordering, nat_cmp}
use Rattle.std.specs.Str.{bytes_eq}
use Rattle.std.specs.declared.cmp.Ordering.{Ordering}
use Rattle.std.specs.declared.cmp.Ordering.TheVariants.{Less, Equal, Greater}
use Rattle.indexmap.specs.IndexSet.{insert_key as add}
use Rattle.daq_table.proofs.Dictionaries.{all_come, insert_viewed, known_stays, sorted_after}
use Rattle.daq_table.specs.Dictionaries.{distinct}
use Rattle.csv_load.specs.Columns.{IsShortText}
use Rattle.csv_load.specs.Numbered.{AreNumbered, HasNumber, texts_at}
use Rattle.csv_load.proofs.RowFacts.{distinct_more}

-- ---- in order

empty_sorted : IsStrictlySortedBy (slice_cmp nat_cmp) []
unfolding IsStrictlySortedBy
empty_sorted = tt

-- ---- one more among names in order

differs : (text x : List ℕ) (o : Ordering) → slice_cmp nat_cmp text x ≡ o → bytes_eq text x ≡ is_eq o
differs text x o e = sym (is_eq-slice_cmp text x) ∙ ap is_eq e

bytes_eq_same : (text : List ℕ) → bytes_eq text text ≡ true
bytes_eq_same text = (bytes_eq-Decides text text).1 refl

-- a name that is not there is one more
longer_by : (text x : List ℕ) (names : List (List ℕ)) (o : Ordering) → slice_cmp nat_cmp text x ≡ o → list_any (bytes_eq text) (x ∷ names) ≡ false
    → (list_any (bytes_eq text) names ≡ false → length (insert_key (slice_cmp nat_cmp) names text) ≡ length names + 1)
    → length (match_ordering o (text ∷ x ∷ names) (x ∷ names) (x ∷ insert_key (slice_cmp nat_cmp) names text)) ≡ length (x ∷ names) + 1
longer_by text x names Less e h more = omega arith
longer_by text x names Equal e h more = absurd (let bad : true ≡ false = ap (λ b. b || list_any (bytes_eq text) names) (sym (differs text x Equal e)) ∙ h in cc)
longer_by text x names Greater e h more =
    let rest : length (insert_key (slice_cmp nat_cmp) names text) ≡ length names + 1 = more (ap (λ b. b || list_any (bytes_eq text) names) (sym (differs text x Greater e)) ∙ h) in
    omega (arith, rest)

longer : (names : List (List ℕ)) (text : List ℕ) → list_any (bytes_eq text) names ≡ false → length (insert_key (slice_cmp nat_cmp) names text) ≡ length names + 1
longer [] text h = refl
longer (x ∷ names) text h = longer_by text x names (slice_cmp nat_cmp text x) refl h (longer names text)

-- what is neither there nor comes is not there then
both_false : (p q : Bool) → (p || q) ≡ false → (p ≡ false) × (q ≡ false)
both_false true q e = absurd cc
both_false false q e = (refl, e)

absent_by : (text other x : List ℕ) (names : List (List ℕ)) (o : Ordering) → bytes_eq text other ≡ false → list_any (bytes_eq text) (x ∷ names) ≡ false → list_any (bytes_eq text) (insert_key (slice_cmp nat_cmp) names other) ≡ false
    → list_any (bytes_eq text) (match_ordering o (other ∷ x ∷ names) (x ∷ names) (x ∷ insert_key (slice_cmp nat_cmp) names other)) ≡ false
absent_by text other x names Less d h more = ap (λ b. b || list_any (bytes_eq text) (x ∷ names)) d ∙ h
absent_by text other x names Equal d h more = h
absent_by text other x names Greater d h more = ap (λ b. b || list_any (bytes_eq text) (insert_key (slice_cmp nat_cmp) names other)) (both_false (bytes_eq text x) (list_any (bytes_eq text) names) h).0 ∙ more

absent_added : (names : List (List ℕ)) (text other : List ℕ) → bytes_eq text other ≡ false → list_any (bytes_eq text) names ≡ false → list_any (bytes_eq text) (insert_key (slice_cmp nat_cmp) names other) ≡ false
absent_added [] text other d h = ap (λ b. b || false) d
absent_added (x ∷ names) text other d h = absent_by text other x names (slice_cmp nat_cmp other x) d h (absent_added names text other d (both_false (bytes_eq text x) (list_any (bytes_eq text) names) h).1)

absent_all : (texts names : List (List ℕ)) (text : List ℕ) → list_any (bytes_eq text) texts ≡ false → list_any (bytes_eq text) names ≡ false → list_any (bytes_eq text) (fold (insert_key (slice_cmp nat_cmp)) names texts) ≡ false
absent_all [] names text h k = k
absent_all (other ∷ texts) names text h k =
    let both = both_false (bytes_eq text other) (list_any (bytes_eq text) texts) h in
    absent_all texts (insert_key (slice_cmp nat_cmp) names other) text both.1 (absent_added names text other both.0 k)

-- ---- one more text

-- the text that was there is in order too
there_in_order : (kept : List (List ℕ)) (n : ℕ) (text : List ℕ) → slice_get kept n ≡ Some text → list_any (bytes_eq text) (distinct kept) ≡ true
there_in_order kept n text e =
    subst (λ t. list_any (bytes_eq t) (distinct kept) ≡ true) (get_or_from_slice_get kept n text [] e) (all_come kept [] n [] (slice_get_within kept n text e))

texts_more : (kept : List (List ℕ)) (numbers : List ℕ) (n : ℕ) (text : List ℕ) → slice_get kept n ≡ Some text → texts_at kept (numbers ++ n ∷ []) ≡ texts_at kept numbers ++ text ∷ []
texts_more kept numbers n text e = map-append (λ (m : ℕ). get_or kept m []) numbers (n ∷ []) ∙ ap (λ (t : List ℕ). texts_at kept numbers ++ t ∷ []) (get_or_from_slice_get kept n text [] e)

-- numbers tell the same of a longer list
texts_stay : (kept : List (List ℕ)) (text : List ℕ) (numbers : List ℕ) → All (λ n. n < length kept) numbers → texts_at (kept ++ text ∷ []) numbers ≡ texts_at kept numbers
texts_stay kept text [] all = refl
texts_stay kept text (n ∷ numbers) all =
    rw (get_or_append_left kept (text ∷ []) [] n (all 0 n (omega arith)), texts_stay kept text numbers (All-tail (λ (m : ℕ). m < length kept) n numbers all)) refl

numbered_known : (kept : List (List ℕ)) (numbers : List ℕ) (n : ℕ) (text : List ℕ) → AreNumbered kept numbers → slice_get kept n ≡ Some text → AreNumbered kept (numbers ++ n ∷ [])
numbered_known kept numbers n text a e = record {
  within = All-push (λ (m : ℕ). m < length kept) numbers n a.within (slice_get_within kept n text e);
  same = sym (known_stays (distinct kept) text (sorted_after kept [] empty_sorted) (there_in_order kept n text e)) ∙ ap (λ (ns : List (List ℕ)). insert_key (slice_cmp nat_cmp) ns text) a.same
      ∙ distinct_more (texts_at kept numbers) text ∙ ap distinct (sym (texts_more kept numbers n text e));
  differ = a.differ;
  short = a.short;
}

new_texts : (kept : List (List ℕ)) (numbers : List ℕ) (n : ℕ) (text : List ℕ) → AreNumbered kept numbers → slice_get (kept ++ text ∷ []) n ≡ Some text
    → texts_at (kept ++ text ∷ []) (numbers ++ n ∷ []) ≡ texts_at kept numbers ++ text ∷ []
new_texts kept numbers n text a e = texts_more (kept ++ text ∷ []) numbers n text e ∙ ap (λ (ts : List (List ℕ)). ts ++ text ∷ []) (texts_stay kept text numbers a.within)

numbered_new : (kept : List (List ℕ)) (numbers : List ℕ) (n : ℕ) (text : List ℕ) → AreNumbered kept numbers → IsShortText text → list_any (bytes_eq text) kept ≡ false → slice_get (kept ++ text ∷ []) n ≡ Some text
    → AreNumbered (kept ++ text ∷ []) (numbers ++ n ∷ [])
numbered_new kept numbers n text a s h e =
    let count = length-append kept (text ∷ []) in
    let more = longer (distinct kept) text (absent_all kept [] text h refl) in
    let order = ap length (distinct_more kept text) in
    record {
      within = All-push (λ (m : ℕ). m < length (kept ++ text ∷ [])) numbers n (λ k d lt. omega (arith, a.within k d lt, count)) (slice_get_within (kept ++ text ∷ []) n text e);
      same = sym (distinct_more kept text) ∙ ap (λ (ns : List (List ℕ)). insert_key (slice_cmp nat_cmp) ns text) a.same ∙ distinct_more (texts_at kept numbers) text ∙ ap distinct (sym (new_texts kept numbers n text a e));
      differ = omega (arith, count, more, order, a.differ);
      short = All-push IsShortText kept text a.short s;
    }

-- the numbers, with one more, tell the texts with one more
abbrev TellsMore : List (List ℕ) → List (List ℕ) → List ℕ → ℕ → List ℕ → Type 0
TellsMore old new numbers n text = AreNumbered new (numbers ++ n ∷ []) × (texts_at new (numbers ++ n ∷ []) ≡ texts_at old numbers ++ text ∷ [])

more_by : (old new : List (List ℕ)) (numbers : List ℕ) (n : ℕ) (text : List ℕ) (known : Bool) → list_any (bytes_eq text) old ≡ known → AreNumbered old numbers → IsShortText text → new ≡ (if known then old else old ++ text ∷ []) → slice_get new n ≡ Some text
    → TellsMore old new numbers n text
more_by old new numbers n text true e a s k there =
    subst (λ (ks : List (List ℕ)). slice_get ks n ≡ Some text → TellsMore old ks numbers n text) (sym k) (λ h. (numbered_known old numbers n text a h, texts_more old numbers n text h)) there
more_by old new numbers n text false e a s k there =
    subst (λ (ks : List (List ℕ)). slice_get ks n ≡ Some text → TellsMore old ks numbers n text) (sym k) (λ h. (numbered_new old numbers n text a s e h, new_texts old numbers n text a h)) there

pub numbered_more : (old new : List (List ℕ)) (numbers : List ℕ) (n : ℕ) (text : List ℕ) → AreNumbered old numbers → HasNumber old new text n → TellsMore old new numbers n text
numbered_more old new numbers n text a h = more_by old new numbers n text (list_any (bytes_eq text) old) refl a h.short h.kept h.there

-- ---- keys as the texts that they are seen as

any_viewed : {K : Type 0} (view : K → List ℕ) (keys : List K) (text : List ℕ) → list_any (λ k. bytes_eq text (view k)) keys ≡ list_any (bytes_eq text) (map view keys)
any_viewed view [] text = refl
any_viewed view (k ∷ keys) text = ap (λ b. bytes_eq text (view k) || b) (any_viewed view keys text)

map_chosen : {K : Type 0} (view : K → List ℕ) (first second : List K) (b : Bool) → map view (if b then first else second) ≡ (if b then map view first else map view second)
map_chosen view first second true = refl
map_chosen view first second false = refl

added_viewed : {K : Type 0} (view : K → List ℕ) (keys : List K) (key : K) → map view (add (λ x y. bytes_eq (view x) (view y)) keys key) ≡ add bytes_eq (map view keys) (view key)
added_viewed view keys key =
    let known = list_any (λ k. bytes_eq (view key) (view k)) keys in
    map_chosen view keys (keys ++ key ∷ []) known ∙ ap (λ (ts : List (List ℕ)). if known then map view keys else ts) (map-append view keys (key ∷ []))
    ∙ ap (λ b. if b then map view keys else map view keys ++ view key ∷ []) (any_viewed view keys (view key))

there_viewed : {K : Type 0} (view : K → List ℕ) (keys : List K) (n : ℕ) (k : K) (text : List ℕ) → slice_get keys n ≡ Some k → bytes_eq text (view k) ≡ true → slice_get (map view keys) n ≡ Some text
there_viewed view keys n k text e same = slice_get-map view keys n ∙ ap (option_map view) e ∙ ap Some (sym ((bytes_eq-Decides text (view k)).0 same))

found_at : {K : Type 0} (view : K → List ℕ) (keys : List K) (n : ℕ) (d : K) (text : List ℕ) → All IsShortText (map view keys) → position (λ k. bytes_eq text (view k)) keys ≡ Some n → HasNumber (map view keys) (map view keys) text n
found_at {K} view keys n d text all e =
    let p = λ (k : K). bytes_eq text (view k) in
    let at = position-Some p keys n d e in
    let here = slice_get-get_or keys n d at.0 in
    let some = list_any-from_Any p keys (n, get_or keys n d, at.0, get_or_from_slice_get keys n (get_or keys n d) (get_or keys n d) here, at.1) in
    let there = there_viewed view keys n (get_or keys n d) text here at.1 in
    record {
      short = subst IsShortText (get_or_from_slice_get (map view keys) n text [] there) (all n [] (slice_get_within (map view keys) n text there));
      kept = ap (λ b. if b then map view keys else map view keys ++ text ∷ []) (sym some ∙ any_viewed view keys text);
      there = there;
    }

pub number_found : {K : Type 0} (view : K → List ℕ) (keys : List K) (n : ℕ) (text : List ℕ) → All IsShortText (map view keys) → position (λ k. bytes_eq text (view k)) keys ≡ Some n → HasNumber (map view keys) (map view keys) text n
number_found view [] n text all e = absurd cc
number_found view (k ∷ keys) n text all e = found_at view (k ∷ keys) n k text all e

-- a key under a number, as the text that it is seen as
pub seen_there : {K : Type 0} (view : K → List ℕ) (keys : List K) (n : ℕ) (k : K) (text : List ℕ) → slice_get keys n ≡ Some k → view k ≡ text → slice_get (map view keys) n ≡ Some text
seen_there view keys n k text e v = slice_get-map view keys n ∙ ap (option_map view) e ∙ ap Some v

-- a text that is kept under a number
pub number_there : (kept : List (List ℕ)) (n : ℕ) (text : List ℕ) → All IsShortText kept → slice_get kept n ≡ Some text → HasNumber kept kept text n
number_there kept n text all there =
    let some : list_any (bytes_eq text) kept ≡ true = any_passes_from_place (bytes_eq text) kept n text there (bytes_eq_same text) in
    record {
      short = subst IsShortText (get_or_from_slice_get kept n text [] there) (all n [] (slice_get_within kept n text there));
      kept = ap (λ b. if b then kept else kept ++ text ∷ []) (sym some);
      there = there;
    }

pub number_given : {K : Type 0} (view : K → List ℕ) (keys new : List K) (n : ℕ) (key k : K) (text : List ℕ) → IsShortText text → new ≡ add (λ x y. bytes_eq (view x) (view y)) keys key → slice_get new n ≡ Some k → bytes_eq (view key) (view k) ≡ true → view key ≡ text
    → HasNumber (map view keys) (map view new) text n
number_given view keys new n key k text s e there same v = record {
  short = s;
  kept = ap (map view) e ∙ added_viewed view keys key ∙ ap (add bytes_eq (map view keys)) v;
  there = there_viewed view new n k (view key) there same ∙ ap Some v;
}

-- one more key in order
pub sorted_more : {K : Type 0} (view : K → List ℕ) (keys new items : List K) (i : ℕ) (item key : K) → map view keys ≡ distinct (map view (take i items)) → i < length items → item ≡ get_or items i item
    → new ≡ insert_key (λ x y. slice_cmp nat_cmp (view x) (view y)) keys key → view key ≡ view item → map view new ≡ distinct (map view (take (i + 1) items))
sorted_more view keys new items i item key e lt is n v =
    let longer_part = take_more items i item lt ∙ ap (λ x. take i items ++ x ∷ []) (sym is) in
    ap (map view) n ∙ insert_viewed view keys key ∙ ap (insert_key (slice_cmp nat_cmp) (map view keys)) v ∙ ap (λ (ns : List (List ℕ)). insert_key (slice_cmp nat_cmp) ns (view item)) e
    ∙ distinct_more (map view (take i items)) (view item) ∙ ap distinct (sym (ap (map view) longer_part ∙ map-append view (take i items) (item ∷ [])))

-- ---- ranks

pub all_known : (kept names : List (List ℕ)) (numbers : List ℕ) → AreNumbered kept numbers → names ≡ distinct (texts_at kept numbers) → All (λ text. IsTrue (list_any (bytes_eq text) names)) kept
all_known kept names numbers a e = subst (λ (ns : List (List ℕ)). All (λ text. IsTrue (list_any (bytes_eq text) ns)) kept) (a.same ∙ sym e) (all_come kept [])

pub ranks_at : (f : List ℕ → ℤ) (kept : List (List ℕ)) (numbers : List ℕ) → All (λ n. n < length kept) numbers → map (λ n. get_or (map f kept) n (pos 0)) numbers ≡ map f (texts_at kept numbers)
ranks_at f kept [] all = refl
ranks_at f kept (n ∷ numbers) all =
    rw (get_or-map f kept n [] (pos 0) (all 0 n (omega arith)), ranks_at f kept numbers (All-tail (λ (m : ℕ). m < length kept) n numbers all)) refl

pub item_known : {K : Type 0} (view : K → List ℕ) (items : List K) (i : ℕ) (item : K) (text : List ℕ) (names : List (List ℕ)) → All (λ t. IsTrue (list_any (bytes_eq t) names)) (map view items) → i < length items → item ≡ get_or items i item
    → text ≡ view item → IsTrue (list_any (bytes_eq text) names)
item_known view items i item text names all lt is e =
    let at : get_or (map view items) i [] ≡ text = get_or-map view items i item [] lt ∙ ap view (sym is) ∙ sym e in
    subst (λ (t : List ℕ). IsTrue (list_any (bytes_eq t) names)) at (all i [] (omega (arith, lt, length-map items view)))
