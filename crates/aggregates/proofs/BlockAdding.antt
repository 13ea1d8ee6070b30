-- The rows of a block, added one by one.
use Rattle.std.proofs.Common.{◌≡◌, ℕ, zero, suc, ◌+◌, ◌-◌, ◌<◌, pos, ◌≤ℤ◌, Bool, true, false, List, [], ◌∷◌, ◌++◌, length, map, take, set, refl, ap, sym, ◌∙◌, subst, arith, Option, Some, None, slice_get, get_or, min, length-take, length-set, length-append, append-nil, FitsSigned, if◌then◌else◌}
use Rattle.std.specs.Int.{w128, int_min, int_max}
use Rattle.std.specs.List.{filter_map, range_with_len}
use Rattle.std.specs.Option.{option_map}
use Rattle.std.proofs.Math.Seq.{take-set-lt}
use Rattle.std.proofs.lemmas.List.{append_assoc}
use Rattle.std.proofs.lemmas.Int.{ints, clamps}
use Rattle.std.proofs.lemmas.List.Elements.{filter_map-append}
use Rattle.std.proofs.lemmas.Option.{same_Some, slice_get-get_or}
use Rattle.interval_calc.specs.declared.Interval as code
use Rattle.plane_kernels.specs.Rows.{digit_at}
use Rattle.query_model.specs.declared.query.ItemKind.{ItemKind}
use Rattle.query_model.specs.Answers.{total}
use Rattle.query_model.specs.Bounds.{Pair}
use Rattle.query_model.specs.Laws.{SumsFit}
use Rattle.aggregates.specs.declared.tally.Tally.{Tally}
use Rattle.aggregates.specs.BlockPairs.{AreAllAdded, MayGetAll, pair_in, pairs_in}
use Rattle.aggregates.specs.Tallies.{AreOrdered, MayGet, pair_with, tally_of}
use Rattle.aggregates.proofs.Adding.{fits_between, found_at, seen, set_at, set_elsewhere}

-- ---- the pairs of the first rows

abbrev pub pairs_to : ℕ → ℕ → List code.Interval → ℕ → List Pair
pairs_to may must spans n = filter_map (pair_in may must spans) (range_with_len 0 n)

range_parts : (a m k : ℕ) → range_with_len a (m + k) ≡ range_with_len a m ++ range_with_len (a + m) k
range_parts a zero k = ap (λ n. range_with_len a n) (omega arith) ∙ ap (λ b. range_with_len b k) (omega arith)
range_parts a (suc m) k =
    let up : suc m + k ≡ suc (m + k) = omega arith in
    let start : a + 1 + m ≡ a + suc m = omega arith in
    ap (range_with_len a) up ∙ ap (λ ns. a ∷ ns) (range_parts (a + 1) m k ∙ ap (λ b. range_with_len (a + 1) m ++ range_with_len b k) start)

pub parts_of : (give : ℕ → Option Pair) (m k : ℕ) → filter_map give (range_with_len 0 (m + k)) ≡ filter_map give (range_with_len 0 m) ++ filter_map give (range_with_len m k)
parts_of give m k =
    let start : 0 + m ≡ m = omega arith in
    ap (filter_map give) (range_parts 0 m k ∙ ap (λ b. range_with_len 0 m ++ range_with_len b k) start) ∙ filter_map-append give (range_with_len 0 m) (range_with_len m k)

one_given : (give : ℕ → Option Pair) (row : ℕ) (p : Pair) → give row ≡ Some p → filter_map give (row ∷ []) ≡ p ∷ []
one_given give row p given = rw given refl

none_given : (give : ℕ → Option Pair) (row : ℕ) → give row ≡ None → filter_map give (row ∷ []) ≡ []
none_given give row given = rw given refl

module _ (may must : ℕ) (spans : List code.Interval) where
  pub with_row : (n : ℕ) (p : Pair) → pair_in may must spans n ≡ Some p → pairs_to may must spans (n + 1) ≡ pairs_to may must spans n ++ p ∷ []
  with_row n p given = parts_of (pair_in may must spans) n 1 ∙ ap (λ ps. pairs_to may must spans n ++ ps) (one_given (pair_in may must spans) n p given)

  pub without_row : (n : ℕ) → pair_in may must spans n ≡ None → pairs_to may must spans (n + 1) ≡ pairs_to may must spans n
  without_row n given = parts_of (pair_in may must spans) n 1 ∙ ap (λ ps. pairs_to may must spans n ++ ps) (none_given (pair_in may must spans) n given) ∙ append-nil (pairs_to may must spans n)

  abbrev pub rest_from : ℕ → List Pair
  rest_from n = filter_map (pair_in may must spans) (range_with_len (n + 1) (length spans - (n + 1)))

  pub parts_at : (n : ℕ) (p : Pair) → n < length spans → pair_in may must spans n ≡ Some p → pairs_in may must spans ≡ (pairs_to may must spans n ++ p ∷ []) ++ rest_from n
  parts_at n p within given =
      let all : length spans ≡ (n + 1) + (length spans - (n + 1)) = omega arith in
      ap (pairs_to may must spans) all ∙ parts_of (pair_in may must spans) (n + 1) (length spans - (n + 1)) ∙ ap (λ ps. ps ++ rest_from n) (with_row n p given)

  ordered_by : (b c : Bool) (span : Option code.Interval) (p : Pair) → (if b then option_map (pair_with c) span else None) ≡ Some p → p.low ≤ℤ p.high
  ordered_by true c (Some span) p h = subst (λ (q : Pair). q.low ≤ℤ q.high) (same_Some _ _ h) span.ordered
  ordered_by true c None p h = cc
  ordered_by false c span p h = cc

  pub ordered_rows : (rows : List ℕ) → AreOrdered (filter_map (pair_in may must spans) rows)
  ordered_rows [] = tt
  ordered_rows (r ∷ rows) = by_pair (pair_in may must spans r) refl (ordered_rows rows)
    where
      by_pair : (o : Option Pair) → pair_in may must spans r ≡ o → AreOrdered (filter_map (pair_in may must spans) rows) → AreOrdered (filter_map (pair_in may must spans) (r ∷ rows))
      by_pair None is rest = rw is rest
      by_pair (Some p) is rest = rw is (ordered_by (digit_at r may) (digit_at r must) (slice_get spans r) p is, rest)

  pub pair_there : (row : ℕ) (bit certain : Bool) (span : code.Interval) → bit ≡ digit_at row may → bit ≡ true → certain ≡ digit_at row must → span ≡ get_or spans row span → row < length spans →
      pair_in may must spans row ≡ Some (pair_with certain span)
  pair_there row bit certain span is set certain_is span_is within =
      ap (λ (b : Bool). if b then option_map (pair_with (digit_at row must)) (slice_get spans row) else None) (sym is ∙ set)
      ∙ ap (option_map (pair_with (digit_at row must))) (slice_get-get_or spans row span within ∙ ap Some (sym span_is)) ∙ ap (λ b. Some (pair_with b span)) (sym certain_is)

  pub no_pair : (row : ℕ) (bit : Bool) → bit ≡ digit_at row may → bit ≡ false → pair_in may must spans row ≡ None
  no_pair row bit is unset = ap (λ (b : Bool). if b then option_map (pair_with (digit_at row must)) (slice_get spans row) else None) (sym is ∙ unset)

pub ordered_both : (ps qs : List Pair) → AreOrdered ps → AreOrdered qs → AreOrdered (ps ++ qs)
ordered_both [] qs h k = k
ordered_both (p ∷ ps) qs h k = (h.0, ordered_both ps qs h.1 k)

-- ---- the first pairs of a list that fits

lows_below : (ps : List Pair) → total (map (λ p. int_min p.low (pos 0)) ps) ≤ℤ pos 0
lows_below [] = omega (arith, ints)
lows_below (p ∷ ps) = (let rest = lows_below ps in omega (arith, ints, clamps))

highs_above : (ps : List Pair) → pos 0 ≤ℤ total (map (λ p. int_max p.high (pos 0)) ps)
highs_above [] = omega (arith, ints)
highs_above (p ∷ ps) = (let rest = highs_above ps in omega (arith, ints, clamps))

lows_more : (ps qs : List Pair) → total (map (λ p. int_min p.low (pos 0)) (ps ++ qs)) ≤ℤ total (map (λ p. int_min p.low (pos 0)) ps)
lows_more [] qs = lows_below qs
lows_more (p ∷ ps) qs = (let rest = lows_more ps qs in omega (arith, ints))

highs_more : (ps qs : List Pair) → total (map (λ p. int_max p.high (pos 0)) ps) ≤ℤ total (map (λ p. int_max p.high (pos 0)) (ps ++ qs))
highs_more [] qs = highs_above qs
highs_more (p ∷ ps) qs = (let rest = highs_more ps qs in omega (arith, ints))

zero_fits : FitsSigned w128 (pos 0)
zero_fits = record { sfits = omega arith }

first_fit : (ps qs : List Pair) → SumsFit (ps ++ qs) → SumsFit ps
first_fit ps qs fit = record {
  low = fits_between _ _ _ (lows_more ps qs) (lows_below ps) fit.low zero_fits;
  high = fits_between _ _ _ (highs_above ps) (highs_more ps qs) zero_fits fit.high;
}

pub may_get_row : (kind : ItemKind) (ps : List Pair) (may must : ℕ) (spans : List code.Interval) (n : ℕ) (p : Pair) → MayGetAll kind ps (pairs_in may must spans) → n < length spans → pair_in may must spans n ≡ Some p →
    MayGet kind (ps ++ pairs_to may must spans n) p
may_get_row kind ps may must spans n p all within given =
    let before = pairs_to may must spans n in
    let rest = rest_from may must spans n in
    let parts = parts_at may must spans n p within given in
    let whole : ps ++ pairs_in may must spans ≡ ((ps ++ before) ++ p ∷ []) ++ rest =
    ap (λ qs. ps ++ qs) parts ∙ sym (append_assoc ps (before ++ p ∷ []) rest) ∙ ap (λ qs. qs ++ rest) (sym (append_assoc ps before (p ∷ []))) in
    let long = ap length parts in
    let outer = length-append (before ++ p ∷ []) rest in
    let inner = length-append before (p ∷ []) in
    let joined = length-append ps before in
    record {
      few = (let few = all.few in omega (arith, long, outer, inner, joined, few));
      fits = λ sums. first_fit ((ps ++ before) ++ p ∷ []) rest (subst SumsFit whole (all.fits sums));
    }

-- ---- a cell's place

pub are_added : (kind : ItemKind) (n : ℕ) (xs : List Tally) (cell : ℕ) (old new : Tally) (qs : List Pair) → cell < n → cell < length xs → AreOrdered qs → old ≡ get_or xs cell old →
    ((ps : List Pair) → old ≡ tally_of kind ps → new ≡ tally_of kind (ps ++ qs)) →
    AreAllAdded (seen kind n xs) (seen kind n (set xs cell new)) cell qs
are_added kind n xs cell old new qs in_cells in_room o was next =
    let same : take n (set xs cell new) ≡ set (take n xs) cell new = take-set-lt n xs cell new in_cells in
    let taken : length (take n xs) ≡ min n (length xs) = length-take n xs in
    record {
      kind = refl;
      room = length-set xs cell new;
      count = ap length same ∙ length-set (take n xs) cell new;
      others = λ other h. ap (λ ts. slice_get ts other) same ∙ set_elsewhere (take n xs) cell other new h;
      appended = λ ps stands. record {
        kept = ap (λ ts. slice_get ts cell) same ∙ set_at (take n xs) cell new (omega arith) ∙ ap Some (next ps (found_at n xs cell (tally_of kind ps) old stands.kept was));
        ordered = ordered_both ps qs stands.ordered o;
      };
    }
