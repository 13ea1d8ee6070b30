-- What is judged of several parts holds as the report of one part.
use Rattle.std.proofs.Common.{◌≡◌, ◌≢◌, ℕ, ◌<◌, Bool, not, ◌&&◌, cond, List, [], ◌∷◌, ◌++◌, refl, sym, ap, ◌∙◌, subst, arith, IsTrue, inl, inr, map}
use Rattle.std.specs.declared.cmp.Ordering.{Ordering}
use Rattle.std.specs.declared.cmp.Ordering.TheVariants.{Less, Equal, Greater}
use Rattle.std.specs.Cmp.Lexicographic.{slice_cmp}
use Rattle.std.specs.FinMap.{nat_cmp-IsAntisymmetric}
use Rattle.std.specs.List.{count_by, filter}
use Rattle.std.specs.Ordering.{is_eq, is_lt, nat_cmp, ordering_then}
use Rattle.std.proofs.lemmas.Bool.{cases_Bool, eq-eqb, false≢true}
use Rattle.std.proofs.lemmas.Cmp.{tied_itself}
use Rattle.std.proofs.lemmas.Map.Text.{is_eq-slice_cmp}
use Rattle.std.proofs.lemmas.Slice.Eq.{bytes_eq-Decides}
use Rattle.query_model.specs.declared.bounds.Standing.TheVariants.{Excluded}
use Rattle.shard_groups.specs.Keys.{allows}
use Rattle.query_kinds.specs.declared.rows.FirstRows.{FirstRows}
use Rattle.part_rows.specs.declared.row.PartRow.{PartRow}
use Rattle.part_rows.specs.declared.row.RowName.{RowName}
use Rattle.part_rows.specs.Laws.{AreRight}
use Rattle.part_rows.specs.Marks.{Mark, comes_before, key_cmp, name_cmp}
use Rattle.part_rows.specs.Standings.{standing}
use Rattle.part_rows.specs.Tables.{is_excluded}
use Rattle.part_rows.specs.Trees.{AreOfOnePart, ToldRowsHold, renamed, told_row, told_rows}
use Rattle.part_rows.specs.Worlds.{AreNamedOnce, HasMark, IsFirst, IsFirstOfPart, IsIn, IsListed, World, names_in, names_of}
use Rattle.part_rows.proofs.Counts.{as_number, step}
use Rattle.part_rows.proofs.Joins.{ahead, in_left, in_right, named_by}
use Rattle.part_rows.proofs.Lists.{in_map}
use Rattle.part_rows.proofs.Orders.{name_total}
use Rattle.part_rows.proofs.Reports.{choose, chosen, count_mapped, is_listed_by, means_certain}
use Rattle.part_rows.proofs.Right.{first_of_part, standings_are_right}

-- ---- names that tie are equal

first_equal : (o p : Ordering) → ordering_then o p ≡ Equal → o ≡ Equal
first_equal Less p e = e
first_equal Equal p e = refl
first_equal Greater p e = e

second_equal : (o p : Ordering) → ordering_then o p ≡ Equal → p ≡ Equal
second_equal Less p e = absurd (false≢true (ap is_eq e))
second_equal Equal p e = e
second_equal Greater p e = absurd (false≢true (ap is_eq e))

same_text : (s t : List ℕ) → slice_cmp nat_cmp s t ≡ Equal → s ≡ t
same_text s t e = (bytes_eq-Decides s t).0 (sym (is_eq-slice_cmp s t) ∙ ap is_eq e)

pub same_name : (a b : RowName) → name_cmp a b ≡ Equal → a ≡ b
same_name a b e =
    let front = first_equal (ordering_then (nat_cmp a.part b.part) (slice_cmp nat_cmp a.tag b.tag)) (nat_cmp a.number b.number) e in
    let part = nat_cmp-IsAntisymmetric a.part b.part (first_equal (nat_cmp a.part b.part) (slice_cmp nat_cmp a.tag b.tag) front) in
    let tag = same_text a.tag b.tag (second_equal (nat_cmp a.part b.part) (slice_cmp nat_cmp a.tag b.tag) front) in
    let number = nat_cmp-IsAntisymmetric a.number b.number
    (second_equal (ordering_then (nat_cmp a.part b.part) (slice_cmp nat_cmp a.tag b.tag)) (nat_cmp a.number b.number) e) in
    λ i. record { part = part i; tag = tag i; number = number i }

-- ---- lists

-- it is what the function makes of an element
pub record Mapped {X Y : Type 0} (f : X → Y) (xs : List X) (y : Y) : Type 0 where
  pub element : X
  pub is : IsIn element xs
  pub same : y ≡ f element

pub out_of_map : {X Y : Type 0} (f : X → Y) (xs : List X) (y : Y) → IsIn y (map f xs) → Mapped f xs y
out_of_map f [] y i = absurd i
out_of_map f (x ∷ xs) y (inl e) = record { element = x; is = inl refl; same = e }
out_of_map f (x ∷ xs) y (inr i) = let m = out_of_map f xs y i in record { element = m.element; is = inr m.is; same = m.same }

pub out_of_filter : {X : Type 0} (p : X → Bool) (x : X) (xs : List X) → IsIn x (filter p xs) → IsIn x xs
out_of_filter p x [] i = absurd i
out_of_filter p x (z ∷ zs) i =
    elim (cases_Bool (p z)) [
      | inl t ↦ elim (subst (λ b. IsIn x (cond b (z ∷ filter p zs) (filter p zs))) t i) [
        | inl e ↦ inl e
        | inr j ↦ inr (out_of_filter p x zs j)
      ]
      | inr s ↦ inr (out_of_filter p x zs (subst (λ b. IsIn x (cond b (z ∷ filter p zs) (filter p zs))) s i))
    ]

once_filtered : {X : Type 0} (f : X → RowName) (p : X → Bool) (xs : List X) → AreNamedOnce (map f xs) → AreNamedOnce (map f (filter p xs))
once_filtered f p [] n = tt
once_filtered f p (x ∷ xs) n =
    elim (cases_Bool (p x)) [
      | inl t ↦ subst (λ b. AreNamedOnce (map f (cond b (x ∷ filter p xs) (filter p xs)))) (sym t) (
        (λ i. let found = named_by f (f x) (filter p xs) i in
            n.0 (subst (λ name. IsIn name (map f xs)) found.named (in_map f found.element xs (out_of_filter p found.element xs found.is)))),
        once_filtered f p xs n.1,
      )
      | inr s ↦ subst (λ b. AreNamedOnce (map f (cond b (x ∷ filter p xs) (filter p xs)))) (sym s) (once_filtered f p xs n.1)
    ]

-- what has other names, one for each, is named once
once_mapped : {X Y : Type 0} (f : X → Y) (g : Y → RowName) (h : X → RowName) (xs : List X) → AreNamedOnce (map h xs) →
    ((x y : X) → IsIn x xs → IsIn y xs → g (f x) ≡ g (f y) → h x ≡ h y) → AreNamedOnce (map g (map f xs))
once_mapped f g h [] n same = tt
once_mapped f g h (x ∷ xs) n same = (
  (λ i.
      let found = named_by g (g (f x)) (map f xs) i in
      let from = out_of_map f xs found.element found.is in
      n.0 (subst (λ name. IsIn name (map h xs)) (sym (same x from.element (inl refl) (inr from.is) (sym found.named ∙ ap g from.same)))
      (in_map h from.element xs from.is))),
  once_mapped f g h xs n.1 (λ a b i j. same a b (inr i) (inr j)),
)

count_same : {X : Type 0} (p q : X → Bool) (xs : List X) → ((x : X) → IsIn x xs → p x ≡ q x) → count_by p xs ≡ count_by q xs
count_same p q [] h = refl
count_same p q (x ∷ xs) h =
    omega (arith, step p x xs, step q x xs, ap as_number (h x (inl refl)), count_same p q xs (λ z i. h z (inr i)))

-- ---- other names

abbrev mark_by : (RowName → RowName) → Mark → Mark
mark_by rename mark = record { key = mark.key; name = rename mark.name }

abbrev is_told : FirstRows → List PartRow → PartRow → Bool
is_told asked rows row = not (is_excluded (standing asked rows row))

same_by : (rename : RowName → RowName) (part : ℕ) (names : List RowName) → AreOfOnePart rename part names → (a b : RowName) → IsIn a names →
    IsIn b names → rename a ≡ rename b → a ≡ b
same_by rename part names one a b i j e =
    same_name a b (sym (one.ordered a b i j) ∙ ap (λ n. name_cmp n (rename b)) e ∙ tied_itself name_total (rename b))

abbrev all_names : List PartRow → World → List RowName
all_names rows world = names_of rows ++ names_in world

row_named : (rows : List PartRow) (world : World) (row : PartRow) → IsIn row rows → IsIn row.name (all_names rows world)
row_named rows world row i = in_left row.name (names_of rows) (names_in world) (in_map (λ (z : PartRow). z.name) row rows i)

mark_named : (rows : List PartRow) (world : World) (mark : Mark) → IsIn mark world → IsIn mark.name (all_names rows world)
mark_named rows world mark i = in_right mark.name (names_of rows) (names_in world) (in_map (λ (m : Mark). m.name) mark world i)

-- as many come before it in the one part as in all
ahead_alike : (rename : RowName → RowName) (part : ℕ) (asked : FirstRows) (rows : List PartRow) (world : World) →
    AreOfOnePart rename part (all_names rows world) → (x : Mark) → IsIn x world →
    count_by (ahead asked (mark_by rename x)) (renamed rename world) ≡ count_by (λ y. comes_before asked.down y x) world
ahead_alike rename part asked rows world one x i =
    count_mapped (mark_by rename) (ahead asked (mark_by rename x)) world
    ∙ count_same (λ y. ahead asked (mark_by rename x) (mark_by rename y)) (λ y. comes_before asked.down y x) world (λ y j.
    ap (λ b. b && comes_before asked.down (mark_by rename y) (mark_by rename x))
    (eq-eqb (rename y.name).part (rename x.name).part (one.part_is y.name ∙ sym (one.part_is x.name)))
    ∙ ap (λ o. is_lt (ordering_then (key_cmp asked.down y.key x.key) o))
    (one.ordered y.name x.name (mark_named rows world y j) (mark_named rows world x i)))

-- ---- the report

certain : (rename : RowName → RowName) (part : ℕ) (asked : FirstRows) (rows : List PartRow) (world : World) →
    AreOfOnePart rename part (all_names rows world) → AreRight asked rows world → (row : PartRow) → IsIn row (told_rows rename asked rows) →
    IsTrue row.certain → HasMark asked (renamed rename world) row.name
certain rename part asked rows world one right row i t =
    let from = chosen (told_row rename asked rows) (is_told asked rows) rows row i in
    let so = means_certain (standing asked rows from.element) (ap (λ (z : PartRow). z.certain) (sym from.same) ∙ t) in
    let has = right.certain from.element from.is so in
    record {
      mark = mark_by rename has.mark;
      is = in_map (mark_by rename) has.mark world has.is;
      named = ap rename has.named ∙ ap (λ (z : PartRow). z.name) (sym from.same);
      first = subst (λ n. n < asked.limit) (sym (ahead_alike rename part asked rows world one has.mark has.is)) has.first;
    }

told : (rename : RowName → RowName) (part : ℕ) (asked : FirstRows) (rows : List PartRow) (world : World) →
    AreOfOnePart rename part (all_names rows world) → AreRight asked rows world →
    ((mark : Mark) → IsIn mark world → IsFirstOfPart asked world mark → IsListed rows mark.name) → (mark : Mark) →
    IsIn mark (renamed rename world) → IsFirstOfPart asked (renamed rename world) mark → IsListed (told_rows rename asked rows) mark.name
told rename part asked rows world one right listed mark i first =
    let from = out_of_map (mark_by rename) world mark i in
    let x = from.element in
    let is_first : IsFirst asked world x = subst (λ n. n < asked.limit) (ahead_alike rename part asked rows world one x from.is)
    (subst (λ m. IsFirstOfPart asked (renamed rename world) m) from.same first) in
    let known = listed x from.is (first_of_part asked world x is_first) in
    let not_out : standing asked rows known.row ≢ Excluded = λ e. right.excluded known.row x known.is from.is (sym known.named) e is_first in
    record {
      row = told_row rename asked rows known.row;
      is = choose (told_row rename asked rows) (is_told asked rows) known.row rows known.is
          (is_listed_by (standing asked rows known.row) not_out);
      named = ap rename known.named ∙ ap (λ (m : Mark). m.name) (sym from.same);
    }

pub told_rows_hold : ToldRowsHold
told_rows_hold rename part asked rows world one holds =
    let right = standings_are_right asked rows world holds.named holds.is_world in
    let names = all_names rows world in
    record {
      named = once_mapped (told_row rename asked rows) (λ (z : PartRow). z.name) (λ (z : PartRow). z.name) (filter (is_told asked rows) rows)
          (once_filtered (λ (z : PartRow). z.name) (is_told asked rows) rows holds.named)
          (λ x y i j. same_by rename part names one x.name y.name
          (row_named rows world x (out_of_filter (is_told asked rows) x rows i)) (row_named rows world y (out_of_filter (is_told asked rows) y rows j)));
      is_world = record {
        named = once_mapped (mark_by rename) (λ (m : Mark). m.name) (λ (m : Mark). m.name) world holds.is_world.named
            (λ x y i j. same_by rename part names one x.name y.name (mark_named rows world x i) (mark_named rows world y j));
        certain = certain rename part asked rows world one right;
        listed = told rename part asked rows world one right holds.is_world.listed;
        keys = λ row mark i j e.
            let from = chosen (told_row rename asked rows) (is_told asked rows) rows row i in
            let of = out_of_map (mark_by rename) world mark j in
            let same = same_by rename part names one of.element.name from.element.name (mark_named rows world of.element of.is)
            (row_named rows world from.element from.is) (ap (λ (m : Mark). m.name) (sym of.same) ∙ e ∙ ap (λ (z : PartRow). z.name) from.same) in
            subst (λ (z : PartRow). IsTrue (allows z.key mark.key)) (sym from.same)
            (subst (λ (m : Mark). IsTrue (allows from.element.key m.key)) (sym of.same)
            (holds.is_world.keys from.element of.element from.is of.is same));
      };
    }
