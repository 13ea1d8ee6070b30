-- The keys of a cell, part by part.
use Rattle.std.proofs.Common.{◌≡◌, ℕ, zero, suc, ◌+◌, ◌-◌, ◌*◌, ◌/◌, ◌%◌, ◌^◌, ◌<◌, ◌≤◌, ◌&&◌, ℤ, List, [], ◌∷◌, length, sum, get_or, drop, inl, inr, sym, ap, ◌∙◌, arith, Some}
use Rattle.std.proofs.lemmas.List.{drop_more}
use Rattle.std.proofs.Math.Nat.{mod-eq_of_lt, mul-le-mul_right, pow-le-pow_right}
use Rattle.daq_table.specs.declared.head.Ends.{Ends}
use Rattle.daq_table.specs.Tables.{first_code, planes, spread, width}
use Rattle.query_model.specs.declared.bounds.Nullity.{Nullity}
use Rattle.query_model.specs.Knowledge.{IsLegal, block, is_legal, prefix_of, range_of}
use Rattle.query_model.specs.Truths.{Range}
use Rattle.query_model.proofs.Blocks.{below_digits, legal_cases, quotient_low}
use Rattle.row_groups.specs.declared.part.GroupPart.{GroupPart}
use Rattle.row_groups.specs.Keeping.{AreParts}
use Rattle.row_groups.specs.Partition.{digits_of, is_legal_cell, planes_of_parts, ranges_of_cell}
use Rattle.row_groups.proofs.Joining.{digits_cons, planes_cons}

-- ---- one column

pub spread_small : (ends : Ends) → planes ends ≤ 16 → spread ends ≤ 65535
spread_small ends h =
    let digits : width ends ≤ 16 = omega arith in
    let most : 2 ^ width ends ≤ 2 ^ 16 = pow-le-pow_right (omega arith) digits in
    omega (arith, below_digits (spread ends), most)

-- the first number of a legal prefix is one of the column
pub low_within : (ends : Ends) (read prefix : ℕ) → IsLegal ends read prefix → prefix * block ends read ≤ first_code ends + spread ends
low_within ends read prefix legal =
    let b = block ends read in
    elim (legal_cases ends read prefix legal) [
      | inl (n, z) ↦ (let none : prefix * b ≡ 0 = ap (λ p. p * b) z ∙ omega arith in omega arith)
      | inr (low, high) ↦
          (let bottom = quotient_low b (first_code ends + spread ends) in
          let step : prefix * b ≤ prefix_of ends read (Some (spread ends)) * b = mul-le-mul_right b high in
          omega arith)
    ]

-- ---- each column

pub part_fine : (ps : List GroupPart) (i : ℕ) (d : GroupPart) → AreParts ps → i < length ps → ((get_or ps i d).read ≤ planes (get_or ps i d).ends) × (planes (get_or ps i d).ends ≤ sum (planes_of_parts ps))
part_fine [] i d are h = absurd (omega arith)
part_fine (p ∷ ps) zero d are h = (are.0, omega (arith, planes_cons p ps))
part_fine (p ∷ ps) (suc i) d are h = (let rest = part_fine ps i d are.1 (omega arith) in (rest.0, omega (arith, rest.1, planes_cons p ps)))

-- the part at i and those behind it
module _ (ps : List GroupPart) (i : ℕ) (p : GroupPart) (h : i < length ps) (is : p ≡ get_or ps i p) where
  pub split_at : drop i ps ≡ p ∷ drop (i + 1) ps
  split_at = drop_more ps i p h ∙ ap (λ q. q ∷ drop (i + 1) ps) (sym is)

  pub digits_at : digits_of (drop i ps) ≡ p.read + digits_of (drop (i + 1) ps)
  digits_at = ap digits_of split_at ∙ digits_cons p (drop (i + 1) ps)

  pub legal_at : (rest unit : ℕ) → unit ≡ 2 ^ digits_of (drop (i + 1) ps) → is_legal_cell (drop i ps) rest ≡ (is_legal p.ends p.read (rest / unit) && is_legal_cell (drop (i + 1) ps) (rest % unit))
  legal_at rest unit e = ap (λ qs. is_legal_cell qs rest) split_at ∙ ap (λ u. is_legal p.ends p.read (rest / u) && is_legal_cell (drop (i + 1) ps) (rest % u)) (sym e)

  pub ranges_at : (rest unit : ℕ) → unit ≡ 2 ^ digits_of (drop (i + 1) ps) → ranges_of_cell (drop i ps) rest ≡ range_of p.ends p.read (rest / unit) ∷ ranges_of_cell (drop (i + 1) ps) (rest % unit)
  ranges_at rest unit e = ap (λ qs. ranges_of_cell qs rest) split_at ∙ ap (λ u. range_of p.ends p.read (rest / u) ∷ ranges_of_cell (drop (i + 1) ps) (rest % u)) (sym e)

-- ---- numbers of the program

abbrev pub range_by : Nullity → ℤ → ℤ → Range
range_by null low high = record { null = null; numbers = record { low = low; high = high } }

pub same_range : (n m : Nullity) (l k h j : ℤ) → n ≡ m → l ≡ k → h ≡ j → range_by n l h ≡ range_by m k j
same_range n m l k h j a b c = ap (λ (x : Nullity). range_by x l h) a ∙ ap (λ (x : ℤ). range_by m x h) b ∙ ap (λ (x : ℤ). range_by m k x) c

pub power_few : (n modulus : ℕ) → n ≤ 16 → 65536 < modulus → 1 * 2 ^ n % modulus ≡ 2 ^ n
power_few n modulus h large = (let small : 2 ^ n ≤ 2 ^ 16 = pow-le-pow_right (omega arith) h in mod-eq_of_lt {n = 1 * 2 ^ n} {m = modulus} (omega arith) ∙ omega arith)

-- the last code of a block, over plain numbers
pub block_end : (p b : ℕ) → 0 < b → p * b + (b - 1) ≡ (p + 1) * b - 1
block_end p b h = omega arith
