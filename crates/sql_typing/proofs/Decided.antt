-- Whether the numbers of an item fit 128 bits is decided, and so is which item is the first that does not fit.
use Rattle.std.proofs.Common.{◌≡◌, ℕ, zero, suc, ◌<◌, ◌^◌, ℤ, pos, negsuc, List, [], ◌∷◌, Some, slice_get, inl, inr, ◌⊎◌, refl, subst, arith}
use Rattle.std.proofs.lemmas.Bool.{cases_lt}
use Rattle.std.specs.Prelude.{FitsSigned}
use Rattle.std.specs.Int.{w128}
use Rattle.std.specs.List.{AllByRecursion}
use Rattle.interval_calc.specs.Intervals.{Interval}
use Rattle.daq_table.specs.Tables.{Frame}
use Rattle.query_model.specs.Truths.{Ranges, span_of}
use Rattle.query_model.specs.Validity.{FitsItem, FitsKind, FitsSum, FitsWide, IsWideInterval, declared_ranges}
use Rattle.query_model.specs.Queries.{Term, Column, Literal, Add, Sub, Mul, Aggregate}
use Rattle.query_model.specs.declared.query.ItemKind.{ItemKind}
use Rattle.query_model.specs.declared.query.ItemKind.TheVariants.{Count, Sum, Min, Max, Avg}
use Rattle.sql_typing.specs.Refusals.{IsFirstUnfit}

abbrev Decided : Type 0 → Type 0
Decided P = P ⊎ ¬ P

both : {P Q : Type 0} → Decided P → Decided Q → Decided (P × Q)
both (inl p) (inl q) = inl (p, q)
both (inl p) (inr fails) = inr (λ h. fails h.1)
both (inr fails) d = inr (λ h. fails h.0)

all_three : {P Q R : Type 0} → Decided P → Decided Q → Decided R → Decided (P × Q × R)
all_three (inl p) (inl q) (inl r) = inl (p, q, r)
all_three (inl p) (inl q) (inr fails) = inr (λ h. fails h.2)
all_three (inl p) (inr fails) d = inr (λ h. fails h.1)
all_three (inr fails) d e = inr (λ h. fails h.0)

fits_number : (z : ℤ) → Decided (FitsSigned w128 z)
fits_number (pos n) = elim (cases_lt n (2 ^ 127)) [ inl lt ↦ inl (record { sfits = lt }) | inr le ↦ inr (λ f. let g = f.sfits in omega arith) ]
fits_number (negsuc n) = elim (cases_lt n (2 ^ 127)) [ inl lt ↦ inl (record { sfits = lt }) | inr le ↦ inr (λ f. let g = f.sfits in omega arith) ]

is_wide : (i : Interval) → Decided (IsWideInterval i)
is_wide i = both (fits_number i.low) (fits_number i.high)

fits_wide : (e : Term) (ranges : Ranges) → Decided (FitsWide e ranges)
fits_wide (Column c) ranges = is_wide (ranges c).numbers
fits_wide (Literal n) ranges = fits_number n
fits_wide (Add a b) ranges = all_three (fits_wide a ranges) (fits_wide b ranges) (is_wide (span_of (Add a b) ranges))
fits_wide (Sub a b) ranges = all_three (fits_wide a ranges) (fits_wide b ranges) (is_wide (span_of (Sub a b) ranges))
fits_wide (Mul a b) ranges = all_three (fits_wide a ranges) (fits_wide b ranges) (is_wide (span_of (Mul a b) ranges))

fits_sum : (rows : ℕ) (span : Interval) → Decided (FitsSum rows span)
fits_sum rows span = both (fits_number _) (fits_number _)

fits_kind : (kind : ItemKind) (rows : ℕ) (span : Interval) → Decided (FitsKind kind rows span)
fits_kind Count rows span = inl tt
fits_kind Sum rows span = fits_sum rows span
fits_kind Min rows span = inl tt
fits_kind Max rows span = inl tt
fits_kind Avg rows span = both (fits_sum rows span) (fits_number _)

fits_item : (frame : Frame) (item : Aggregate) → Decided (FitsItem frame item)
fits_item frame item = both (fits_wide item.arg (declared_ranges frame)) (fits_kind item.kind frame.rows (span_of item.arg (declared_ranges frame)))

module _ (frame : Frame) where
  FitOrNot : List Aggregate → Type 0
  FitOrNot items = AllByRecursion (FitsItem frame) items ⊎ ((place : ℕ) × IsFirstUnfit frame items place)

  fit_before : (x : Aggregate) (items : List Aggregate) (place : ℕ) → FitsItem frame x → ((i : ℕ) (item : Aggregate) → i < place → slice_get items i ≡ Some item → FitsItem frame item)
      → (i : ℕ) (item : Aggregate) → i < suc place → slice_get (x ∷ items) i ≡ Some item → FitsItem frame item
  fit_before x items place fits before zero item lt e = let same : x ≡ item = cc in subst (FitsItem frame) same fits
  fit_before x items place fits before (suc i) item lt e = before i item (omega (arith, lt)) e

  pub fit_or_not : (items : List Aggregate) → AllByRecursion (FitsItem frame) items ⊎ ((place : ℕ) × IsFirstUnfit frame items place)
  unfolding FitOrNot
  fit_or_not [] = inl tt
  fit_or_not (x ∷ items) = go (fits_item frame x) (fit_or_not items)
    where
      go : Decided (FitsItem frame x) → FitOrNot items → FitOrNot (x ∷ items)
      go (inr fails) rest = inr (0, ((λ i item lt e. absurd (omega (arith, lt))), (x, refl, fails)))
      go (inl fits) (inl all) = inl (fits, all)
      go (inl fits) (inr r) = inr (suc r.0, (fit_before x items r.0 fits r.1.0, r.1.1))
