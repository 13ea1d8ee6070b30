-- The reports of some parts and of others hold together.
use Rattle.std.proofs.Common.{◌≡◌, ◌≢◌, ℕ, nat_eq, Bool, not, ◌&&◌, List, [], ◌∷◌, ◌++◌, ◌⊎◌, refl, sym, ap, ◌∙◌, subst, arith, IsTrue, IsFalse, inl, inr, map}
use Rattle.std.specs.List.{count_by}
use Rattle.std.proofs.lemmas.Bool.{and_parts, both_ways, eqb-true, false_from_ne_true, not-true}
use Rattle.std.proofs.lemmas.List.Sums.{sum_by-append}
use Rattle.query_kinds.specs.declared.rows.FirstRows.{FirstRows}
use Rattle.part_rows.specs.declared.row.PartRow.{PartRow}
use Rattle.part_rows.specs.declared.row.RowName.{RowName}
use Rattle.part_rows.specs.Marks.{Mark, comes_before}
use Rattle.part_rows.specs.Tables.{ReportsJoin}
use Rattle.part_rows.specs.Worlds.{AreNamedOnce, IsIn, World}
use Rattle.part_rows.proofs.Counts.{as_number, step}
use Rattle.part_rows.proofs.Lists.{in_map}

pub in_left : {X : Type 0} (x : X) (xs ys : List X) → IsIn x xs → IsIn x (xs ++ ys)
in_left x [] ys i = absurd i
in_left x (z ∷ zs) ys (inl e) = inl e
in_left x (z ∷ zs) ys (inr i) = inr (in_left x zs ys i)

pub in_right : {X : Type 0} (x : X) (xs ys : List X) → IsIn x ys → IsIn x (xs ++ ys)
in_right x [] ys i = i
in_right x (z ∷ zs) ys i = inr (in_right x zs ys i)

pub in_either : {X : Type 0} (x : X) (xs ys : List X) → IsIn x (xs ++ ys) → IsIn x xs ⊎ IsIn x ys
in_either x [] ys i = inr i
in_either x (z ∷ zs) ys (inl e) = inl (inl e)
in_either x (z ∷ zs) ys (inr i) =
    elim (in_either x zs ys i) [
      | inl j ↦ inl (inr j)
      | inr j ↦ inr j
    ]

-- an element with that name
pub record Named {X : Type 0} (f : X → RowName) (name : RowName) (xs : List X) : Type 0 where
  pub element : X
  pub is : IsIn element xs
  pub named : f element ≡ name

pub named_by : {X : Type 0} (f : X → RowName) (name : RowName) (xs : List X) → IsIn name (map f xs) → Named f name xs
named_by f name [] i = absurd i
named_by f name (x ∷ xs) (inl e) = record { element = x; is = inl refl; named = sym e }
named_by f name (x ∷ xs) (inr i) =
    let found = named_by f name xs i in record { element = found.element; is = inr found.is; named = found.named }

pub once_together : {X : Type 0} (f : X → RowName) (xs ys : List X) → AreNamedOnce (map f xs) → AreNamedOnce (map f ys) →
    ((x y : X) → IsIn x xs → IsIn y ys → f x ≢ f y) → AreNamedOnce (map f (xs ++ ys))
once_together f [] ys n m apart = m
once_together f (x ∷ xs) ys n m apart = (
  (λ i.
      let found = named_by f (f x) (xs ++ ys) i in
      elim (in_either found.element xs ys found.is) [
        | inl j ↦ n.0 (subst (λ name. IsIn name (map f xs)) found.named (in_map f found.element xs j))
        | inr j ↦ apart x found.element (inl refl) j (sym found.named)
      ]),
  once_together f xs ys n.1 m (λ z y i j. apart z y (inr i) j),
)

-- ---- parts

-- a part is not both one of them and another
no_part : (own : ℕ → Bool) (n m : RowName) → IsTrue (own n.part) → IsTrue (not (own m.part)) → n.part ≢ m.part
no_part own n m t u e = both_ways (own m.part) (not-true (own m.part) u) (ap own (sym e) ∙ t)

no_name : (own : ℕ → Bool) (n m : RowName) → IsTrue (own n.part) → IsTrue (not (own m.part)) → n ≢ m
no_name own n m t u e = no_part own n m t u (ap (λ name. name.part) e)

count_none : (test : Mark → Bool) (world : World) → ((y : Mark) → IsIn y world → IsFalse (test y)) → count_by test world ≡ 0
count_none test [] h = refl
count_none test (y ∷ ys) h = omega (arith, step test y ys, ap as_number (h y (inl refl)), count_none test ys (λ z i. h z (inr i)))

abbrev pub ahead : FirstRows → Mark → Mark → Bool
ahead asked x y = nat_eq y.name.part x.name.part && comes_before asked.down y x

none_ahead : (asked : FirstRows) (x : Mark) (world : World) → ((y : Mark) → IsIn y world → y.name.part ≢ x.name.part) →
    count_by (ahead asked x) world ≡ 0
none_ahead asked x world other =
    count_none (ahead asked x) world (λ y i. false_from_ne_true (ahead asked x y) (λ t.
    other y i (eqb-true y.name.part x.name.part (and_parts (nat_eq y.name.part x.name.part) (comes_before asked.down y x) t).0)))

left_alone : (asked : FirstRows) (x : Mark) (world rest : World) → ((y : Mark) → IsIn y rest → y.name.part ≢ x.name.part) →
    count_by (ahead asked x) (world ++ rest) ≡ count_by (ahead asked x) world
left_alone asked x world rest other =
    omega (arith, sum_by-append (λ y. as_number (ahead asked x y)) world rest, none_ahead asked x rest other)

right_alone : (asked : FirstRows) (x : Mark) (world rest : World) → ((y : Mark) → IsIn y world → y.name.part ≢ x.name.part) →
    count_by (ahead asked x) (world ++ rest) ≡ count_by (ahead asked x) rest
right_alone asked x world rest other =
    omega (arith, sum_by-append (λ y. as_number (ahead asked x y)) world rest, none_ahead asked x world other)

-- ---- reports

pub reports_join : ReportsJoin
reports_join asked own rows others world rest a b h k =
    record {
      named = once_together (λ (row : PartRow). row.name) rows others h.named k.named
          (λ x y i j. no_name own x.name y.name (a.rows_are x i) (b.rows_are y j));
      is_world = record {
        named = once_together (λ (mark : Mark). mark.name) world rest h.is_world.named k.is_world.named
            (λ x y i j. no_name own x.name y.name (a.marks_are x i) (b.marks_are y j));
        certain = λ row i t. elim (in_either row rows others i) [
          | inl j ↦
              let has = h.is_world.certain row j t in
              record {
                mark = has.mark;
                is = in_left has.mark world rest has.is;
                named = has.named;
                first = omega (
                  arith,
                  has.first,
                  left_alone asked has.mark world rest (λ y l e.
                      no_part own has.mark.name y.name (a.marks_are has.mark has.is) (b.marks_are y l) (sym e)),
                );
              }
          | inr j ↦
              let has = k.is_world.certain row j t in
              record {
                mark = has.mark;
                is = in_right has.mark world rest has.is;
                named = has.named;
                first = omega (
                  arith,
                  has.first,
                  right_alone asked has.mark world rest (λ y l e.
                      no_part own y.name has.mark.name (a.marks_are y l) (b.marks_are has.mark has.is) e),
                );
              }
        ];
        listed = λ mark i f. elim (in_either mark world rest i) [
          | inl j ↦
              let told = h.is_world.listed mark j (omega (
                arith,
                f,
                left_alone asked mark world rest (λ y l e.
                    no_part own mark.name y.name (a.marks_are mark j) (b.marks_are y l) (sym e)),
              )) in
              record { row = told.row; is = in_left told.row rows others told.is; named = told.named }
          | inr j ↦
              let told = k.is_world.listed mark j (omega (
                arith,
                f,
                right_alone asked mark world rest (λ y l e.
                    no_part own y.name mark.name (a.marks_are y l) (b.marks_are mark j) e),
              )) in
              record { row = told.row; is = in_right told.row rows others told.is; named = told.named }
        ];
        keys = λ row mark i j e. elim (in_either row rows others i) [
          | inl l ↦ elim (in_either mark world rest j) [
            | inl m ↦ h.is_world.keys row mark l m e
            | inr m ↦ absurd (no_name own row.name mark.name (a.rows_are row l) (b.marks_are mark m) (sym e))
          ]
          | inr l ↦ elim (in_either mark world rest j) [
            | inl m ↦ absurd (no_name own mark.name row.name (a.marks_are mark m) (b.rows_are row l) e)
            | inr m ↦ k.is_world.keys row mark l m e
          ]
        ];
      };
    }
