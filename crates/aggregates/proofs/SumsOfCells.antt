-- A row more in what is kept of a cell for a sum, by numbers of 64 bits.
use Rattle.std.proofs.Common.{◌≡◌, ℕ, ◌+◌, ◌<◌, ◌≤◌, ◌==◌, ℤ, pos, negsuc, ◌+ℤ◌, ◌≤ℤ◌, Bool, true, false, cond, List, Option, Some, None, inl, inr, refl, ap, sym, ◌∙◌, subst, arith, if◌then◌else◌, FitsSigned, IsTrue, to_z, of_z}
use mir.Val.{bool_byte}
use Rattle.std.specs.Int.{int_max, int_min, w64}
use Rattle.std.proofs.lemmas.Bool.{cases_Bool, eq-eqb, eqb-true}
use Rattle.std.proofs.lemmas.Int.{ints, clamps, to_z-of_z}
use Rattle.query_model.specs.declared.query.ItemKind.{ItemKind}
use Rattle.query_model.specs.declared.query.ItemKind.TheVariants.{Count, Sum, Min, Max, Avg}
use Rattle.query_model.specs.Bounds.{Pair}
use Rattle.query_model.specs.Validity.{IsSumKind}
use Rattle.aggregates.specs.Tallies.{tally_of}
use Rattle.aggregates.specs.SumsOfCells.{FitsCell, IsOfRows, end_if}

-- a number of 64 bits, as it stands in the clauses of calls
abbrev pub again : ℤ → ℤ
again z = to_z w64 (of_z w64 z)

fits_64 : (z : ℤ) → negsuc 9223372036854775807 ≤ℤ z → z ≤ℤ pos 9223372036854775807 → FitsSigned w64 z
fits_64 (pos n) low high = (let few : n ≤ 9223372036854775807 = omega (arith, ints, high) in record { sfits = omega arith })
fits_64 (negsuc n) low high = (let few : n ≤ 9223372036854775807 = omega (arith, ints, low) in record { sfits = omega arith })

-- ---- sums

abbrev pub low_part : Bool → Bool → ℤ → ℤ
low_part may certain low = if may then (if certain then low else int_min low (pos 0)) else pos 0

abbrev pub high_part : Bool → Bool → ℤ → ℤ
high_part may certain high = if may then (if certain then high else int_max high (pos 0)) else pos 0

pub low_part_of : (may certain : Bool) (low high : ℤ) → FitsCell low high → IsOfRows (cond may 1 0) (low_part may certain low)
low_part_of true true low high f = (let a = f.low_is in let b = f.ordered in let d = f.high_is in record { least = omega (arith, ints, a); most = omega (arith, ints, b, d) })
low_part_of true false low high f = (let a = f.low_is in let b = f.ordered in let d = f.high_is in record { least = omega (arith, ints, clamps, a); most = omega (arith, ints, clamps) })
low_part_of false certain low high f = record { least = omega (arith, ints); most = omega (arith, ints) }

pub high_part_of : (may certain : Bool) (low high : ℤ) → FitsCell low high → IsOfRows (cond may 1 0) (high_part may certain high)
high_part_of true true low high f = (let a = f.low_is in let b = f.ordered in let d = f.high_is in record { least = omega (arith, ints, a, b); most = omega (arith, ints, d) })
high_part_of true false low high f = (let a = f.low_is in let b = f.ordered in let d = f.high_is in record { least = omega (arith, ints, clamps); most = omega (arith, ints, clamps, d) })
high_part_of false certain low high f = record { least = omega (arith, ints); most = omega (arith, ints) }

-- a sum with the share of a row fits, and is of one row more
pub record IsAddedCell (rows : ℕ) (a b part : ℤ) : Type 0 where
  pub fits : FitsSigned w64 (again a +ℤ again b)
  pub is : again (again a +ℤ again b) ≡ a +ℤ part
  pub of_rows : IsOfRows rows (a +ℤ part)

pub added_cell : (rows more : ℕ) (a b part : ℤ) → rows + more ≤ 16777216 → more ≤ 1 → IsOfRows rows a → IsOfRows more part → b ≡ part → IsAddedCell (rows + more) a b part
added_cell rows more a b part few one old new is =
    let low = old.least in
    let high = old.most in
    let below = new.least in
    let above = new.most in
    let first : again a ≡ a = to_z-of_z w64 a (fits_64 a (omega (arith, ints, low, few)) (omega (arith, ints, high, few))) in
    let second : again b ≡ part = ap again is ∙ to_z-of_z w64 part (fits_64 part (omega (arith, ints, below, one)) (omega (arith, ints, above, one))) in
    let both : again a +ℤ again b ≡ a +ℤ part = ap (λ z. z +ℤ again b) first ∙ ap (λ z. a +ℤ z) second in
    let fits : FitsSigned w64 (a +ℤ part) = fits_64 (a +ℤ part) (omega (arith, ints, low, below, few)) (omega (arith, ints, high, above, few)) in
    record {
      fits = subst (FitsSigned w64) (sym both) fits;
      is = ap again both ∙ to_z-of_z w64 (a +ℤ part) fits;
      of_rows = record { least = omega (arith, ints, low, below); most = omega (arith, ints, high, above) };
    }

-- there is room for a row
pub room_for : (may : Bool) (all : ℕ) → (IsTrue may → all < 16777216) → all ≤ 16777216 → all + cond may 1 0 ≤ 16777216
room_for true all few most = (let more = few refl in omega (arith, more))
room_for false all few most = omega (arith, most)

-- a bit as a number
pub one_of : (b : Bool) → bool_byte b ≡ cond b 1 0
one_of true = refl
one_of false = refl

pub most_one : (b : Bool) → cond b 1 0 ≤ 1
most_one true = omega arith
most_one false = omega arith

-- ---- ends

-- what is kept of an end stays where no row comes
pub end_still : (certain all n m : ℕ) (end number : ℤ) → n ≡ 0 → m ≡ 0 → number ≡ end → end_if (certain + n) (all + m) number ≡ end_if certain all end
end_still certain all n m end number none nothing same =
    let a : certain + n ≡ certain = omega (arith, none) in
    let b : all + m ≡ all = omega (arith, nothing) in
    rw (a, b, same) refl

-- and with a row it is that of the longer list, as long as no row counts for certain
pub end_more : (certain all n : ℕ) (end number : ℤ) (before after : Option ℤ) → end_if certain all end ≡ (if certain == 0 then before else None) →
    (certain ≡ 0 → (if all == 0 then None else Some end) ≡ before → Some number ≡ after) → end_if (certain + n) (all + 1) number ≡ (if certain + n == 0 then after else None)
end_more certain all n end number before after is next =
    elim (cases_Bool (certain + n == 0)) [
      | inl t ↦
          (let zero_is : certain + n ≡ 0 = eqb-true (certain + n) 0 t in
          let none : certain ≡ 0 = omega (arith, zero_is) in
          let here : (certain == 0) ≡ true = eq-eqb certain 0 none in
          let kept : (if all == 0 then None else Some end) ≡ before = ap (λ (b : Bool). if b then (if all == 0 then None else Some end) else None) (sym here) ∙ is ∙ ap (λ (b : Bool). if b then before else None) here in
          rw (t, not_none) (next none kept))
      | inr f ↦ rw f refl
    ]
  where
    not_none : (all + 1 == 0) ≡ false
    not_none =
        elim (cases_Bool (all + 1 == 0)) [
          | inl t ↦ (let none : all + 1 ≡ 0 = eqb-true (all + 1) 0 t in absurd (omega (arith, none)))
          | inr f ↦ f
        ]

-- ---- kinds

-- what is kept for an average is what is kept for a sum
pub sum_tally : (kind : ItemKind) (ps : List Pair) → IsSumKind kind → tally_of kind ps ≡ tally_of Sum ps
sum_tally Count ps h = absurd h
sum_tally Sum ps h = refl
sum_tally Min ps h = absurd h
sum_tally Max ps h = absurd h
sum_tally Avg ps h = refl
