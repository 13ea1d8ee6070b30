-- The report of a table holds of each of its completions.
use Rattle.std.proofs.Common.{◌≡◌, ◌≢◌, ℕ, zero, suc, ◌+◌, ◌<◌, ◌≤◌, ℤ, ◌≤ℤ◌, int_lt, nat_eq, nat_lt, Bool, true, false, not, ◌&&◌, ◌||◌, cond, List, [], ◌∷◌, refl, sym, ap, ◌∙◌, subst, arith, IsTrue, inl, inr, map, Option, Some, None}
use Rattle.std.specs.declared.cmp.Ordering.{Ordering}
use Rattle.std.specs.declared.cmp.Ordering.TheVariants.{Less, Equal, Greater}
use Rattle.std.specs.List.{count_by, filter, range_with_len}
use Rattle.std.specs.Option.{option_map}
use Rattle.std.specs.Cmp.Lexicographic.{slice_cmp}
use Rattle.std.specs.Ordering.{int_cmp, int_eq, is_eq, is_gt, is_le, is_lt, nat_cmp, ordering_reverse, ordering_then}
use Rattle.std.proofs.lemmas.Bool.{and_from, and_parts, both_ways, cases_Bool, cases_eq, cases_lt, eq-eqb, false≢true, le-ltb, lt-ltb, ltb-true, true≢false}
use Rattle.std.proofs.lemmas.Cmp.{int_cmp_total, nat_cmp_total, tied_itself}
use Rattle.std.proofs.lemmas.Int.{ints}
use Rattle.std.proofs.lemmas.List.Sums.{length-filter}
use Rattle.daq_table.specs.Tables.{Cells, Frame, IsTable, ends_at, row_of, rows_of}
use Rattle.daq_table.specs.declared.head.Ends.{Ends}
use Rattle.query_model.specs.declared.bounds.Standing.{Standing}
use Rattle.query_model.specs.declared.bounds.Standing.TheVariants.{Certain, Possible, Excluded}
use Rattle.query_model.specs.Answers.{same_value}
use Rattle.query_model.specs.Groups.{IsKeyPart}
use Rattle.query_model.specs.Knowledge.{IsCompletion, IsKnowledge, Knowledge, known_at, prefix_at, ranges_of}
use Rattle.query_model.specs.Laws.{AreValuesWithin, CompletionsAreSelections, StandingsAreRight}
use Rattle.query_model.specs.Meaning.{holds}
use Rattle.query_model.specs.Ranking.{beats, belongs, comes_before as number_before, key_before, rows_with}
use Rattle.query_model.specs.Truths.{IsIn as IsInRange, Range}
use Rattle.shard_groups.specs.declared.keys.KeyValue.{KeyValue}
use Rattle.shard_groups.specs.declared.keys.KeyValue.TheVariants.{Number, Text}
use Rattle.shard_groups.specs.Keys.{allows, at_most, is_between}
use Rattle.part_rows.specs.declared.row.PartRow.{PartRow}
use Rattle.part_rows.specs.declared.row.RowName.{RowName}
use Rattle.part_rows.specs.Marks.{Mark, comes_before, key_cmp, name_cmp, value_cmp}
use Rattle.part_rows.specs.Tables.{IsKeyed, IsKeyNumber, Part, ReportsHold, asked_of, is_certain, is_excluded, listed, mark_in, name_of, passing, report, span_of, standing_in}
use Rattle.part_rows.specs.Worlds.{AreNamedOnce, HasMark, IsFirstOfPart, IsIn, IsListed}
use Rattle.part_rows.proofs.Counts.{step}
use Rattle.part_rows.proofs.Joins.{ahead, named_by}
use Rattle.part_rows.proofs.KeyNumbers.{AreOfColumn, of_column, of_range, of_row}
use Rattle.part_rows.proofs.Ranking.{count_filtered}

-- ---- lists of what is chosen from some numbers

-- it comes from an element that passes
pub record Chosen {X Y : Type 0} (f : X → Y) (p : X → Bool) (xs : List X) (y : Y) : Type 0 where
  pub element : X
  pub is : IsIn element xs
  pub passes : IsTrue (p element)
  pub same : y ≡ f element

farther : {X Y : Type 0} (f : X → Y) (p : X → Bool) (x : X) (xs : List X) (y : Y) → Chosen f p xs y → Chosen f p (x ∷ xs) y
farther f p x xs y c = record { element = c.element; is = inr c.is; passes = c.passes; same = c.same }

pub chosen : {X Y : Type 0} (f : X → Y) (p : X → Bool) (xs : List X) (y : Y) → IsIn y (map f (filter p xs)) → Chosen f p xs y
chosen f p [] y i = absurd i
chosen f p (x ∷ xs) y i =
    elim (cases_Bool (p x)) [
      | inl t ↦ elim (subst (λ b. IsIn y (map f (cond b (x ∷ filter p xs) (filter p xs)))) t i) [
        | inl e ↦ record { element = x; is = inl refl; passes = t; same = e }
        | inr j ↦ farther f p x xs y (chosen f p xs y j)
      ]
      | inr s ↦ farther f p x xs y (chosen f p xs y (subst (λ b. IsIn y (map f (cond b (x ∷ filter p xs) (filter p xs)))) s i))
    ]

pub choose : {X Y : Type 0} (f : X → Y) (p : X → Bool) (x : X) (xs : List X) → IsIn x xs → IsTrue (p x) → IsIn (f x) (map f (filter p xs))
choose f p x [] i t = absurd i
choose f p x (z ∷ zs) (inl e) t =
    subst (λ b. IsIn (f x) (map f (cond b (z ∷ filter p zs) (filter p zs)))) (sym t ∙ ap p e) (inl (ap f e))
choose f p x (z ∷ zs) (inr i) t =
    elim (cases_Bool (p z)) [
      | inl s ↦ subst (λ b. IsIn (f x) (map f (cond b (z ∷ filter p zs) (filter p zs)))) (sym s) (inr (choose f p x zs i t))
      | inr s ↦ subst (λ b. IsIn (f x) (map f (cond b (z ∷ filter p zs) (filter p zs)))) (sym s) (choose f p x zs i t)
    ]

in_range : (a n r : ℕ) → IsIn r (range_with_len a n) → (a ≤ r) × (r < a + n)
in_range a zero r i = absurd i
in_range a (suc n) r (inl e) = (omega (arith, e), omega (arith, e))
in_range a (suc n) r (inr i) = let h = in_range (a + 1) n r i in (omega (arith, h.0), omega (arith, h.1))

to_range : (a n r : ℕ) → a ≤ r → r < a + n → IsIn r (range_with_len a n)
to_range a zero r p q = absurd (omega (arith, p, q))
to_range a (suc n) r p q =
    elim (cases_eq r a) [
      | inl e ↦ inl e
      | inr f ↦ inr (to_range (a + 1) n r (omega (arith, p, f)) (omega (arith, q)))
    ]

-- what is chosen from ascending numbers, and numbered by them, is named once
once_chosen : {Y : Type 0} (g : Y → RowName) (f : ℕ → Y) (p : ℕ → Bool) → ((r : ℕ) → (g (f r)).number ≡ r + 1) → (a n : ℕ) →
    AreNamedOnce (map g (map f (filter p (range_with_len a n))))
once_chosen g f p numbered a zero = tt
once_chosen g f p numbered a (suc n) =
    let rest = once_chosen g f p numbered (a + 1) n in
    elim (cases_Bool (p a)) [
      | inl t ↦ subst (λ b. AreNamedOnce (map g (map f (cond b (a ∷ filter p (range_with_len (a + 1) n)) (filter p (range_with_len (a + 1) n))))))
          (sym t) ((λ i. not_again g f p numbered a n i), rest)
      | inr s ↦ subst (λ b. AreNamedOnce (map g (map f (cond b (a ∷ filter p (range_with_len (a + 1) n)) (filter p (range_with_len (a + 1) n))))))
          (sym s) rest
    ]
  where
    not_again : {Y : Type 0} (g : Y → RowName) (f : ℕ → Y) (p : ℕ → Bool) → ((r : ℕ) → (g (f r)).number ≡ r + 1) → (a n : ℕ) →
        ¬ IsIn (g (f a)) (map g (map f (filter p (range_with_len (a + 1) n))))
    not_again g f p numbered a n i =
        let found = named_by g (g (f a)) (map f (filter p (range_with_len (a + 1) n))) i in
        let from = chosen f p (range_with_len (a + 1) n) found.element found.is in
        let later = in_range (a + 1) n from.element from.is in
        let same : from.element + 1 ≡ a + 1 =
        sym (numbered from.element) ∙ ap (λ y. (g y).number) (sym from.same) ∙ ap (λ m. m.number) found.named ∙ numbered a in
        absurd (omega (arith, later.0, same))

-- ---- the order of numbers is that of their values

abbrev pub key_ends : Part → Ends
key_ends part = ends_at part.frame part.order.key

number_first : (y r : ℕ) → is_lt (nat_cmp (y + 1) (r + 1)) ≡ nat_lt y r
number_first y r =
    elim (cases_lt y r) [
      | inl l ↦ ap (λ b. is_lt (cond b Less (cond (nat_eq (y + 1) (r + 1)) Equal Greater))) (lt-ltb (y + 1) (r + 1) (omega (arith, l))) ∙ sym (lt-ltb y r l)
      | inr k ↦ ap (λ b. is_lt (cond b Less (cond (nat_eq (y + 1) (r + 1)) Equal Greater))) (le-ltb (y + 1) (r + 1) (omega (arith, k)))
          ∙ not_less (nat_eq (y + 1) (r + 1)) ∙ sym (le-ltb y r k)
    ]
  where
    not_less : (b : Bool) → is_lt (cond b Equal Greater) ≡ false
    not_less true = refl
    not_less false = refl

then_by : (s t : Bool) (o : Ordering) (n : Bool) → is_lt o ≡ n →
    is_lt (ordering_then (cond s Less (cond t Greater Equal)) o) ≡ (s || (is_eq (cond s Less (cond t Greater Equal)) && n))
then_by true t o n e = refl
then_by false true o n e = refl
then_by false false o n e = e

int_then : (a b : ℤ) (o : Ordering) (n : Bool) → is_lt o ≡ n → is_lt (ordering_then (int_cmp a b) o) ≡ (int_lt a b || (int_eq a b && n))
int_then a b o n e = then_by (int_lt a b) (int_lt b a) o n e

eq_back : (o p : Ordering) → o ≡ ordering_reverse p → is_eq o ≡ is_eq p
eq_back o Less e = ap is_eq e
eq_back o Equal e = ap is_eq e
eq_back o Greater e = ap is_eq e

key_first : (value : ℤ → KeyValue) (ends : Ends) → ((a b : ℤ) → IsKeyPart ends (Some a) → IsKeyPart ends (Some b) → value_cmp (value a) (value b) ≡ int_cmp a b) →
    (down : Bool) (a b : Option ℤ) (o : Ordering) (n : Bool) → IsKeyPart ends a → IsKeyPart ends b → is_lt o ≡ n →
    is_lt (ordering_then (key_cmp down (option_map value a) (option_map value b)) o) ≡ (key_before down a b || (same_value a b && n))
key_first value ends h down None None o n is_a is_b e = e
key_first value ends h down None (Some b) o n is_a is_b e = refl
key_first value ends h down (Some a) None o n is_a is_b e = refl
key_first value ends h true (Some a) (Some b) o n is_a is_b e =
    ap (λ k. is_lt (ordering_then k o)) (h b a is_b is_a) ∙ int_then b a o n e
    ∙ ap (λ s. int_lt b a || (s && n)) (eq_back (int_cmp b a) (int_cmp a b) (int_cmp_total.antisymm b a))
key_first value ends h false (Some a) (Some b) o n is_a is_b e = ap (λ k. is_lt (ordering_then k o)) (h a b is_a is_b) ∙ int_then a b o n e

-- of one part the row with the lesser number comes first
name_first : (part : Part) (y r : ℕ) → is_lt (name_cmp (name_of part y) (name_of part r)) ≡ nat_lt y r
name_first part y r =
    ap (λ o. is_lt (ordering_then (ordering_then o (slice_cmp nat_cmp [] [])) (nat_cmp (y + 1) (r + 1)))) (tied_itself nat_cmp_total part.place)
    ∙ number_first y r

ahead_is : (part : Part) (cells : Cells) → IsKeyed part → IsTable part.frame cells → (r y : ℕ) →
    ahead (asked_of part) (mark_in part cells r) (mark_in part cells y)
    ≡ number_before part.order.down (row_of part.frame cells y part.order.key) y (row_of part.frame cells r part.order.key) r
ahead_is part cells keyed table r y =
    let key = part.order.key in
    let of = of_row part.frame cells table key keyed.column in
    ap (λ b. b && comes_before part.order.down (mark_in part cells y) (mark_in part cells r)) (eq-eqb part.place part.place refl)
    ∙ key_first part.value (ends_at part.frame key) keyed.ordered part.order.down (row_of part.frame cells y key) (row_of part.frame cells r key)
    (name_cmp (name_of part y) (name_of part r)) (nat_lt y r) (of y) (of r) (name_first part y r)

-- ---- as many rows come first

pub count_mapped : {X Y : Type 0} (f : X → Y) (q : Y → Bool) (xs : List X) → count_by q (map f xs) ≡ count_by (λ x. q (f x)) xs
count_mapped f q [] = refl
count_mapped f q (x ∷ xs) = omega (arith, step q (f x) (map f xs), step (λ z. q (f z)) x xs, count_mapped f q xs)

rank_is : (part : Part) (cells : Cells) → IsKeyed part → IsTable part.frame cells → (r : ℕ) →
    count_by (ahead (asked_of part) (mark_in part cells r)) (passing part cells)
    ≡ rows_with part.frame (λ y. beats part.pred part.order part.frame cells y r)
rank_is part cells keyed table r =
    let passes = λ (y : ℕ). holds part.pred (row_of part.frame cells y) in
    let test = ahead (asked_of part) (mark_in part cells r) in
    count_mapped (mark_in part cells) test (filter passes (rows_of part.frame))
    ∙ count_filtered passes (λ y. test (mark_in part cells y)) (rows_of part.frame)
    ∙ (λ i. count_by (λ y. passes y && ahead_is part cells keyed table r y i) (rows_of part.frame))
    ∙ sym (length-filter (λ y. beats part.pred part.order part.frame cells y r) (rows_of part.frame))

-- ---- keys

value_at_most : (a b : KeyValue) → is_gt (value_cmp a b) ≡ false → IsTrue (at_most a b)
value_at_most (Number x) (Number y) t = grind (arith, ints)
value_at_most (Number x) (Text s) t = refl
value_at_most (Text s) (Number y) t = absurd (true≢false t)
value_at_most (Text s) (Text u) t = le (slice_cmp nat_cmp s u) t
  where
    le : (o : Ordering) → is_gt o ≡ false → IsTrue (is_le o)
    le Less f = refl
    le Equal f = refl
    le Greater f = absurd (true≢false f)

up_to : (a b : ℤ) → a ≤ℤ b → is_gt (int_cmp a b) ≡ false
up_to a b t = grind (arith, ints)

-- numbers in order have values in order
pub value_in_order : (part : Part) → IsKeyed part → (a b : ℤ) → IsKeyNumber part a → IsKeyNumber part b → a ≤ℤ b →
    IsTrue (at_most (part.value a) (part.value b))
value_in_order part keyed a b is_a is_b t = value_at_most (part.value a) (part.value b) (ap is_gt (keyed.ordered a b is_a is_b) ∙ up_to a b t)

allowed : (part : Part) → IsKeyed part → (range : Range) (k : Option ℤ) → AreOfColumn (key_ends part) range → IsInRange range k →
    IsTrue (allows (span_of part.value range) (option_map part.value k))
allowed part keyed range None of t = t
allowed part keyed range (Some x) of t =
    let is = of_column (key_ends part) range x of t.1.above t.1.below in
    subst (λ b. IsTrue (is_between (cond b (Some (record { low = part.value range.numbers.low; high = part.value range.numbers.high })) None) (part.value x)))
    (sym t.0)
    (and_from (at_most (part.value range.numbers.low) (part.value x)) (at_most (part.value x) (part.value range.numbers.high))
    (value_in_order part keyed range.numbers.low x of.low is t.1.above)
    (value_in_order part keyed x range.numbers.high is of.high t.1.below))

-- ---- the report

pub means_certain : (o : Standing) → IsTrue (is_certain o) → o ≡ Certain
means_certain Certain t = refl
means_certain Possible t = absurd (false≢true t)
means_certain Excluded t = absurd (false≢true t)

pub is_listed_by : (o : Standing) → o ≢ Excluded → IsTrue (not (is_excluded o))
is_listed_by Certain n = refl
is_listed_by Possible n = refl
is_listed_by Excluded n = absurd (n refl)

-- what is known of the part, and one of its completions
record Setting (part : Part) (known : Knowledge) (cells : Cells) : Type 0 where
  pub right : StandingsAreRight
  pub within : AreValuesWithin part.frame known (row_of part.frame cells)
  pub keyed : IsKeyed part
  pub knows : IsKnowledge part.frame known
  pub completion : IsCompletion part.frame known cells

abbrev passes : Part → Cells → ℕ → Bool
passes part cells r = holds part.pred (row_of part.frame cells r)

abbrev pub is_told : Part → Knowledge → ℕ → Bool
is_told part known r = not (is_excluded (standing_in part known r))

abbrev ahead_of : Part → Cells → ℕ → ℕ
ahead_of part cells r = rows_with part.frame (λ y. beats part.pred part.order part.frame cells y r)

pub of_table : (frame : Frame) (r : ℕ) → IsIn r (rows_of frame) → r < frame.rows
of_table frame r i = let h = in_range 0 frame.rows r i in omega (arith, h.1)

-- what is known of a key are numbers that its column may hold
pub key_range : (part : Part) (known : Knowledge) → IsKeyed part → IsKnowledge part.frame known → (r : ℕ) → r < part.frame.rows →
    AreOfColumn (key_ends part) (ranges_of part.frame known r part.order.key)
key_range part known keyed knows r r_in =
    let key = part.order.key in
    of_range (ends_at part.frame key) (known_at known key).read (prefix_at known key r) (knows.legal key r keyed.column r_in)

certain : (part : Part) (known : Knowledge) (cells : Cells) → Setting part known cells → (row : PartRow) → IsIn row (report part known) →
    IsTrue row.certain → HasMark (asked_of part) (passing part cells) row.name
certain part known cells s row i t =
    let from = chosen (listed part known) (is_told part known) (rows_of part.frame) row i in
    let r = from.element in
    let is_so = means_certain (standing_in part known r) (ap (λ (z : PartRow). z.certain) (sym from.same) ∙ t) in
    let right = s.right part.pred part.order part.frame known r s.knows (of_table part.frame r from.is) in
    let parts = and_parts (passes part cells r) (nat_lt (ahead_of part cells r) part.order.limit) (right.certain is_so cells s.completion) in
    record {
      mark = mark_in part cells r;
      is = choose (mark_in part cells) (passes part cells) r (rows_of part.frame) from.is parts.0;
      named = ap (λ (z : PartRow). z.name) (sym from.same);
      first = subst (λ n. n < part.order.limit) (sym (rank_is part cells s.keyed s.completion.table r)) (ltb-true (ahead_of part cells r) part.order.limit parts.1);
    }

told : (part : Part) (known : Knowledge) (cells : Cells) → Setting part known cells → (mark : Mark) → IsIn mark (passing part cells) →
    IsFirstOfPart (asked_of part) (passing part cells) mark → IsListed (report part known) mark.name
told part known cells s mark i first =
    let from = chosen (mark_in part cells) (passes part cells) (rows_of part.frame) mark i in
    let r = from.element in
    let right = s.right part.pred part.order part.frame known r s.knows (of_table part.frame r from.is) in
    let below = subst (λ n. n < part.order.limit) (rank_is part cells s.keyed s.completion.table r)
    (subst (λ m. IsFirstOfPart (asked_of part) (passing part cells) m) from.same first) in
    let so = and_from (passes part cells r) (nat_lt (ahead_of part cells r) part.order.limit) from.passes
    (lt-ltb (ahead_of part cells r) part.order.limit below) in
    let not_out : standing_in part known r ≢ Excluded =
    λ e. both_ways (belongs part.pred part.order part.frame cells r) (right.excluded e cells s.completion) so in
    record {
      row = listed part known r;
      is = choose (listed part known) (is_told part known) r (rows_of part.frame) from.is (is_listed_by (standing_in part known r) not_out);
      named = ap (λ (m : Mark). m.name) (sym from.same);
    }

keys_told : (part : Part) (known : Knowledge) (cells : Cells) → Setting part known cells → (row : PartRow) (mark : Mark) →
    IsIn row (report part known) → IsIn mark (passing part cells) → mark.name ≡ row.name → IsTrue (allows row.key mark.key)
keys_told part known cells s row mark i j e =
    let a = chosen (listed part known) (is_told part known) (rows_of part.frame) row i in
    let b = chosen (mark_in part cells) (passes part cells) (rows_of part.frame) mark j in
    let r = a.element in
    let numbers : b.element + 1 ≡ r + 1 =
    ap (λ (m : Mark). m.name.number) (sym b.same) ∙ ap (λ n. n.number) e ∙ ap (λ (z : PartRow). z.name.number) a.same in
    let same : r ≡ b.element = omega (arith, numbers) in
    let here = allowed part s.keyed (ranges_of part.frame known r part.order.key) (row_of part.frame cells r part.order.key)
    (key_range part known s.keyed s.knows r (of_table part.frame r a.is))
    (s.within r part.order.key (of_table part.frame r a.is) s.keyed.column) in
    subst (λ (z : PartRow). IsTrue (allows z.key mark.key)) (sym a.same)
    (subst (λ (m : Mark). IsTrue (allows (listed part known r).key m.key)) (sym b.same)
    (subst (λ n. IsTrue (allows (listed part known r).key (mark_in part cells n).key)) same here))

pub reports_hold : StandingsAreRight → CompletionsAreSelections → ReportsHold
reports_hold right selections part known cells keyed knows completion =
    let s : Setting part known cells = record {
      right = right;
      within = (selections part.frame known knows).within cells completion;
      keyed = keyed;
      knows = knows;
      completion = completion;
    } in
    record {
      named = once_chosen (λ (z : PartRow). z.name) (listed part known) (is_told part known) (λ r. refl) 0 part.frame.rows;
      is_world = record {
        named = once_chosen (λ (m : Mark). m.name) (mark_in part cells) (passes part cells) (λ r. refl) 0 part.frame.rows;
        certain = certain part known cells s;
        listed = told part known cells s;
        keys = keys_told part known cells s;
      };
    }
