-- Lists of pairs with ends of 16 bits.
use Rattle.std.proofs.Common.{◌*◌, ◌<◌, ◌≤◌, pos, negsuc, ◌+ℤ◌, ◌≤ℤ◌, Bool, List, [], ◌∷◌, ◌++◌, length, map, arith, FitsSigned}
use Rattle.std.specs.Int.{w16, w128, int_min, int_max}
use Rattle.std.proofs.lemmas.Int.{ints, clamps}
use Rattle.interval_calc.specs.declared.Interval as code
use Rattle.query_model.specs.declared.query.ItemKind.{ItemKind}
use Rattle.query_model.specs.Answers.{total}
use Rattle.query_model.specs.Bounds.{Pair}
use Rattle.query_model.specs.Laws.{SumsFit}
use Rattle.aggregates.specs.Tallies.{pair_with, MayGet}
use Rattle.aggregates.proofs.Adding.{fits_between}
use Rattle.aggregates.proofs.Appending.{length-more}

pub record IsSmall (p : Pair) : Type 0 where
  pub low : pos 0 ≤ℤ (p.low +ℤ pos 32768)
  pub high : p.high ≤ℤ pos 32767

pub is_small : (certain : Bool) (span : code.Interval) → FitsSigned w16 span.lo → FitsSigned w16 span.hi → IsSmall (pair_with certain span)
is_small certain span low high =
    let a = low.sfits in
    let b = high.sfits in
    record { low = omega (arith, ints); high = omega (arith, ints) }

abbrev pub AreSmall : List Pair → Type 0
AreSmall [] = Unit {0}
AreSmall (p ∷ ps) = IsSmall p × AreSmall ps

pub small-more : (ps : List Pair) (p : Pair) → AreSmall ps → IsSmall p → AreSmall (ps ++ p ∷ [])
small-more [] p h s = (s, tt)
small-more (q ∷ qs) p h s = (h.0, small-more qs p h.1 s)

low_sum : (ps : List Pair) → AreSmall ps → (pos 0 ≤ℤ (total (map (λ p. int_min p.low (pos 0)) ps) +ℤ pos (length ps * 32768))) × (total (map (λ p. int_min p.low (pos 0)) ps) ≤ℤ pos 0)
low_sum [] h = (omega (arith, ints), omega (arith, ints))
low_sum (p ∷ ps) h =
    let here = h.0.low in
    let rest = low_sum ps h.1 in
    let above = rest.0 in
    let below = rest.1 in
    (omega (arith, ints, clamps), omega (arith, ints, clamps))

high_sum : (ps : List Pair) → AreSmall ps → (pos 0 ≤ℤ total (map (λ p. int_max p.high (pos 0)) ps)) × (total (map (λ p. int_max p.high (pos 0)) ps) ≤ℤ pos (length ps * 32767))
high_sum [] h = (omega (arith, ints), omega (arith, ints))
high_sum (p ∷ ps) h =
    let here = h.0.high in
    let rest = high_sum ps h.1 in
    let above = rest.0 in
    let below = rest.1 in
    (omega (arith, ints, clamps), omega (arith, ints, clamps))

small_sums_fit : (ps : List Pair) → AreSmall ps → length ps ≤ 1000 → SumsFit ps
small_sums_fit ps h few =
    let low = low_sum ps h in
    let high = high_sum ps h in
    let low_above = low.0 in
    let low_below = low.1 in
    let high_above = high.0 in
    let high_below = high.1 in
    let least : FitsSigned w128 (negsuc 32767999) = record { sfits = omega arith } in
    let none : FitsSigned w128 (pos 0) = record { sfits = omega arith } in
    let most : FitsSigned w128 (pos 32767000) = record { sfits = omega arith } in
    record {
      low = fits_between (negsuc 32767999) _ (pos 0) (omega (arith, ints)) low_below least none;
      high = fits_between (pos 0) _ (pos 32767000) high_above (omega (arith, ints)) none most;
    }

pub may_get_small : (kind : ItemKind) (ps : List Pair) (p : Pair) → AreSmall ps → IsSmall p → length ps < 1000 → MayGet kind ps p
may_get_small kind ps p h s few = record {
  few = omega arith;
  fits = λ _. small_sums_fit (ps ++ p ∷ []) (small-more ps p h s) (omega (arith, length-more ps p));
}
