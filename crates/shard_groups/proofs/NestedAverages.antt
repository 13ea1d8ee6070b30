-- The averages of a line, with later reports of the shards.
use Rattle.std.proofs.Common.{◌≡◌, ◌≢◌, ℕ, Bool, true, false, List, [], ◌∷◌, map, refl, sym, ◌∙◌, subst, inl, inr, ◌⊎◌, if◌then◌else◌, IsTrue, Some, None}
use Rattle.std.proofs.lemmas.Bool.{both_ways, false≢true}
use Rattle.interval_calc.specs.Intervals.{Fraction}
use Rattle.query_model.specs.declared.bounds.Nullity.{Nullity}
use Rattle.query_model.specs.declared.bounds.Nullity.TheVariants.{Never, Possibly, Always}
use Rattle.query_model.specs.Bounds.{AverageBound, IsNestedAverage}
use Rattle.shard_bounds.specs.Averages.{AreDivisible, IsDivisible, hull_by, hull_of_two, is_exact, no_average}
use Rattle.shard_bounds.specs.Laws.{AreNestedReports, IsNestedReport}
use Rattle.shard_bounds.proofs.AverageNests.{averages_nest}
use Rattle.shard_bounds.proofs.FractionOrder.{IsAtMost, at_most-trans}
use Rattle.shard_bounds.proofs.Hulls.{IsRound, ends_are, round_first, round_second}
use Rattle.shard_groups.specs.declared.cells.Cell.{Cell}
use Rattle.shard_groups.specs.declared.keys.Span.{Span}
use Rattle.shard_groups.specs.Groups.{all_keys, average_at, average_share, average_share_by, cells_within, keys_in, loose_word, loosened, only, uncertain_average}
use Rattle.shard_groups.specs.Keys.{Key, holds, is_within, meets}
use Rattle.shard_groups.specs.Laws.{AreAveragesFrom, AreAveragesKept, AreCellAverages, AreCellsDivisible, AreLaterAverages, AreSome, HasAverageAgain, IsAverageFrom, IsCellAverage, IsLaterAverage, IsOneOf, LinesNestAverages}
use Rattle.shard_groups.specs.Lines.{AreApart, AreCovered, IsApart, IsCovered}
use Rattle.shard_groups.proofs.AverageLines.{all_divide, kept_divide, loose_null, share_divides, uncertain_divides, uncertain_null}
use Rattle.shard_groups.proofs.Later.{keep_only, keep_rest, line_within, meets_line, meets_within, one_covered, others_none}
use Rattle.shard_groups.proofs.LineSets.{covered_append, covered_back, covered_front, covered_within}
use Rattle.shard_groups.proofs.Places.{within_line}
use Rattle.shard_groups.proofs.Spans.{holds_more, meets_both, within_chain}

-- ---- a bound of several, each of which may be of another key

-- one of the bounds has it within
abbrev SomeNests : List AverageBound → AverageBound → Type 0
SomeNests [] q = ⊥
SomeNests (b ∷ bounds) q = IsNestedAverage b q ⊎ SomeNests bounds q

nested_round : (hull b q : AverageBound) → hull.null ≢ Never → IsDivisible b → (b.null ≢ Always → IsRound hull b) → IsNestedAverage b q → IsNestedAverage hull q
nested_round hull b q loose d round p = record {
  null = λ w. loose;
  full = λ w. (round (p.full w)).full;
  lo = λ w. at_most-trans hull.lo b.lo q.lo d.lo (round (p.full w)).lo (p.lo w);
  hi = λ w. at_most-trans q.hi b.hi hull.hi d.hi (p.hi w) (round (p.full w)).hi;
}

loose_full : (w : Nullity) → w ≢ Always → loose_word w ≢ Always
loose_full Never n = λ e. cc
loose_full Possibly n = λ e. cc
loose_full Always n = n

loose_back : (w : Nullity) → loose_word w ≢ Always → w ≢ Always
loose_back Never n = λ e. cc
loose_back Possibly n = λ e. cc
loose_back Always n = n

loosened_nests : (b q : AverageBound) → IsNestedAverage b q → IsNestedAverage (loosened b) q
loosened_nests b q p = record { null = λ w. loose_null b.null; full = λ w. loose_full b.null (p.full w); lo = p.lo; hi = p.hi }

uncertain_nests : (bounds : List AverageBound) (q : AverageBound) → AreDivisible bounds → SomeNests bounds q → IsNestedAverage (uncertain_average bounds) q
uncertain_nests [] q d some = absurd some
uncertain_nests (b ∷ bounds) q d (inl p) =
    let rest = uncertain_average bounds in
    nested_round (hull_of_two (loosened b) rest) (loosened b) q (uncertain_null (b ∷ bounds)) (record { lo = d.0.lo; hi = d.0.hi })
    (λ n. round_first (loose_word b.null) rest.null (loosened b) rest refl refl n) (loosened_nests b q p)
uncertain_nests (b ∷ bounds) q d (inr some) =
    let rest = uncertain_average bounds in
    nested_round (hull_of_two (loosened b) rest) rest q (uncertain_null (b ∷ bounds)) (uncertain_divides bounds d.1)
    (λ n. round_second (loose_word b.null) rest.null (loosened b) rest refl refl n) (uncertain_nests bounds q d.1 some)

-- ---- what lies within a bound that may be NULL

abbrev AllNested : AverageBound → List AverageBound → Type 0
AllNested b [] = Unit {0}
AllNested b (q ∷ bounds) = IsNestedAverage b q × AllNested b bounds

within_loosened : (b q : AverageBound) → b.null ≢ Never → IsNestedAverage b q → IsNestedAverage b (loosened q)
within_loosened b q n p = record {
  null = λ w. n;
  full = λ w. p.full (loose_back q.null w);
  lo = λ w. p.lo (loose_back q.null w);
  hi = λ w. p.hi (loose_back q.null w);
}

nests_two : (b x y : AverageBound) → b.null ≢ Never → IsNestedAverage b x → IsNestedAverage b y → IsNestedAverage b (hull_of_two x y)
nests_two b x y n p q = record {
  null = λ w. n;
  full = λ w. elim (ends_are x.null y.null x y refl refl w).0 [ inl e ↦ p.full e.0 | inr e ↦ q.full e.0 ];
  lo = λ w. elim (ends_are x.null y.null x y refl refl w).0 [
    | inl e ↦ subst (λ z. IsAtMost b.lo z) (sym e.1) (p.lo e.0)
    | inr e ↦ subst (λ z. IsAtMost b.lo z) (sym e.1) (q.lo e.0)
  ];
  hi = λ w. elim (ends_are x.null y.null x y refl refl w).1 [
    | inl e ↦ subst (λ z. IsAtMost z b.hi) (sym e.1) (p.hi e.0)
    | inr e ↦ subst (λ z. IsAtMost z b.hi) (sym e.1) (q.hi e.0)
  ];
}

nests_uncertain : (b : AverageBound) (bounds : List AverageBound) → b.null ≢ Never → AllNested b bounds → IsNestedAverage b (uncertain_average bounds)
nests_uncertain b [] n all = record { null = λ w. n; full = λ w. absurd (w refl); lo = λ w. absurd (w refl); hi = λ w. absurd (w refl) }
nests_uncertain b (q ∷ bounds) n all = nests_two b (loosened q) (uncertain_average bounds) n (within_loosened b q n all.0) (nests_uncertain b bounds n all.1)

-- ---- where there is no average

none_by : (w v : Nullity) (a b : AverageBound) → (hull_by (loose_word w) v (record { null = loose_word w; lo = a.lo; hi = a.hi }) b).null ≡ Always →
    (b.null ≡ Always → b ≡ no_average) → b.null ≡ v → hull_by (loose_word w) v (record { null = loose_word w; lo = a.lo; hi = a.hi }) b ≡ no_average
none_by Never Never a b e none is = absurd (cc)
none_by Never Possibly a b e none is = absurd (cc)
none_by Never Always a b e none is = absurd (cc)
none_by Possibly Never a b e none is = absurd (cc)
none_by Possibly Possibly a b e none is = absurd (cc)
none_by Possibly Always a b e none is = absurd (cc)
none_by Always v a b e none is = none e

uncertain_none : (bounds : List AverageBound) → (uncertain_average bounds).null ≡ Always → uncertain_average bounds ≡ no_average
uncertain_none [] e = refl
uncertain_none (b ∷ bounds) e = none_by b.null (uncertain_average bounds).null b (uncertain_average bounds) e (uncertain_none bounds) refl

none_if : (t : Bool) (item : ℕ) (cell : Cell) → IsCellAverage (average_at item cell) →
    (average_share_by item (if t then Some cell else None) (cell ∷ [])).null ≡ Always → average_share_by item (if t then Some cell else None) (cell ∷ []) ≡ no_average
none_if true item cell is e = is.none e
none_if false item cell is e = uncertain_none (average_at item cell ∷ []) e

share_none : (item : ℕ) (line : List Span) (found : List Cell) → AreCellAverages item found →
    (average_share_by item (only line found) found).null ≡ Always → average_share_by item (only line found) found ≡ no_average
share_none item line [] are e = refl
share_none item line (cell ∷ []) are e = none_if (is_within line cell.keys) item cell are.0 e
share_none item line (cell ∷ next ∷ cells) are e = uncertain_none (map (average_at item) (cell ∷ next ∷ cells)) e

exact_none : (w : Nullity) (lo hi : Fraction) → w ≢ Never → IsTrue (is_exact (record { null = w; lo = lo; hi = hi })) → w ≡ Always
exact_none Never lo hi n t = absurd (n refl)
exact_none Possibly lo hi n t = absurd (false≢true t)
exact_none Always lo hi n t = refl

always_by : (w : Nullity) → (w ≢ Always → ⊥) → w ≡ Always
always_by Never f = absurd (f (λ e. cc))
always_by Possibly f = absurd (f (λ e. cc))
always_by Always f = refl

-- a report that may be NULL looks exact only where there is no average, and then there is none in the later one
loose_report : (b s : AverageBound) → b.null ≢ Never → IsNestedAverage b s → (b.null ≡ Always → b ≡ no_average) → (s.null ≡ Always → s ≡ no_average) → IsNestedReport b s
loose_report b s n p none later = record {
  nested = p;
  kept = λ t.
      let e = exact_none b.null b.lo b.hi n t in
      later (always_by s.null (λ full. p.full full e)) ∙ sym (none e);
}

-- ---- later cells lie within lines of the earlier ones

from_covered : (item : ℕ) (cell : Cell) (olds : List Cell) (lines : List (List Span)) → AreCovered (keys_in olds) lines → IsAverageFrom item cell olds → IsCovered cell.keys lines
from_covered item cell [] lines covered from = absurd from
from_covered item cell (old ∷ olds) lines covered (inl h) = covered_within cell.keys old.keys lines h.0 covered.0
from_covered item cell (old ∷ olds) lines covered (inr from) = from_covered item cell olds lines covered.1 from

all_from : (item : ℕ) (cells olds : List Cell) (lines : List (List Span)) → AreCovered (keys_in olds) lines → AreAveragesFrom item olds cells → AreCovered (keys_in cells) lines
all_from item [] olds lines covered from = tt
all_from item (cell ∷ cells) olds lines covered from = (from_covered item cell olds lines covered from.0, all_from item cells olds lines covered from.1)

later_covered : (item : ℕ) (before shards : List (List Cell)) (lines : List (List Span)) → AreCovered (all_keys before) lines →
    AreLaterAverages item before shards → AreCovered (all_keys shards) lines
later_covered item [] [] lines covered later = tt
later_covered item [] (cells ∷ shards) lines covered later = absurd later
later_covered item (olds ∷ before) [] lines covered later = absurd later
later_covered item (olds ∷ before) (cells ∷ shards) lines covered later =
    covered_append (keys_in cells) (all_keys shards) lines
    (all_from item cells olds lines (covered_front (keys_in olds) (all_keys before) lines covered) later.0.from)
    (later_covered item before shards lines (covered_back (keys_in olds) (all_keys before) lines covered) later.1)

-- ---- the cells of a later report that lie within a line

from_kept : (t : Bool) (item : ℕ) (old : Cell) (rest : List Cell) (q : AverageBound) → IsTrue t → IsNestedAverage (average_at item old) q →
    SomeNests (map (average_at item) (if t then old ∷ rest else rest)) q
from_kept true item old rest q t p = inl p
from_kept false item old rest q t p = absurd (false≢true t)

from_rest : (t : Bool) (item : ℕ) (old : Cell) (rest : List Cell) (q : AverageBound) → SomeNests (map (average_at item) rest) q →
    SomeNests (map (average_at item) (if t then old ∷ rest else rest)) q
from_rest true item old rest q some = inr some
from_rest false item old rest q some = some

some_from : (item : ℕ) (cell : Cell) (olds : List Cell) (line : List Span) (lines : List (List Span)) → AreApart lines → IsOneOf line lines →
    AreCovered (keys_in olds) lines → IsTrue (meets cell.keys cell.keys) → IsTrue (is_within cell.keys line) → IsAverageFrom item cell olds →
    SomeNests (map (average_at item) (cells_within line olds)) (average_at item cell)
some_from item cell [] line lines apart one covered some w from = absurd from
some_from item cell (old ∷ olds) line lines apart one covered some w (inl h) =
    from_kept (is_within old.keys line) item old (cells_within line olds) (average_at item cell)
    (meets_line old.keys line lines apart covered.0 one (meets_both cell.keys cell.keys old.keys line h.0 w some)) h.1
some_from item cell (old ∷ olds) line lines apart one covered some w (inr from) =
    from_rest (is_within old.keys line) item old (cells_within line olds) (average_at item cell)
    (some_from item cell olds line lines apart one covered.1 some w from)

-- each cell that is kept has such a bound
abbrev AllSomeNest : ℕ → List AverageBound → List Cell → Type 0
AllSomeNest item bounds [] = Unit {0}
AllSomeNest item bounds (cell ∷ cells) = SomeNests bounds (average_at item cell) × AllSomeNest item bounds cells

all_kept : (t : Bool) (item : ℕ) (bounds : List AverageBound) (cell : Cell) (rest : List Cell) → (IsTrue t → SomeNests bounds (average_at item cell)) →
    AllSomeNest item bounds rest → AllSomeNest item bounds (if t then cell ∷ rest else rest)
all_kept true item bounds cell rest h k = (h refl, k)
all_kept false item bounds cell rest h k = k

all_some : (item : ℕ) (cells olds : List Cell) (old line : List Span) (lines : List (List Span)) → AreApart lines → IsOneOf old lines →
    AreCovered (keys_in olds) lines → IsTrue (is_within line old) → AreSome cells → AreAveragesFrom item olds cells →
    AllSomeNest item (map (average_at item) (cells_within old olds)) (cells_within line cells)
all_some item [] olds old line lines apart one covered w some from = tt
all_some item (cell ∷ cells) olds old line lines apart one covered w some from =
    all_kept (is_within cell.keys line) item (map (average_at item) (cells_within old olds)) cell (cells_within line cells)
    (λ t. some_from item cell olds old lines apart one covered some.0 (within_chain cell.keys line old t w) from.0)
    (all_some item cells olds old line lines apart one covered w some.1 from.1)

all_nested : (item : ℕ) (bounds : List AverageBound) (b : AverageBound) (cells : List Cell) →
    ((q : AverageBound) → SomeNests bounds q → IsNestedAverage b q) → AllSomeNest item bounds cells → AllNested b (map (average_at item) cells)
all_nested item bounds b [] h all = tt
all_nested item bounds b (cell ∷ cells) h all = (h (average_at item cell) all.0, all_nested item bounds b cells h all.1)

-- so the share of the later report lies within a bound that may be NULL
share_if : (t : Bool) (item : ℕ) (b : AverageBound) (cell : Cell) → IsNestedAverage b (average_at item cell) → IsNestedAverage b (uncertain_average (average_at item cell ∷ [])) →
    IsNestedAverage b (average_share_by item (if t then Some cell else None) (cell ∷ []))
share_if true item b cell p q = p
share_if false item b cell p q = q

share_within : (item : ℕ) (b : AverageBound) (line : List Span) (cells : List Cell) → b.null ≢ Never → AllNested b (map (average_at item) cells) →
    IsNestedAverage b (average_share_by item (only line cells) cells)
share_within item b line [] n all = nests_uncertain b [] n all
share_within item b line (cell ∷ []) n all = share_if (is_within line cell.keys) item b cell all.0 (nests_uncertain b (average_at item cell ∷ []) n all)
share_within item b line (cell ∷ next ∷ cells) n all = nests_uncertain b (map (average_at item) (cell ∷ next ∷ cells)) n all

-- ---- a cell that is certain of an average is there again

not_beside : (item : ℕ) (line own : List Span) (old : Cell) (cells : List Cell) → IsTrue (is_within line old.keys) → IsTrue (meets own own) →
    IsApart own (keys_in cells) → HasAverageAgain item old cells → IsTrue (is_within own line) → ⊥
not_beside item line own old [] w some apart again t = again
not_beside item line own old (cell ∷ cells) w some apart (inl h) t =
    both_ways (meets own cell.keys) apart.0
    (meets_within own cell.keys some (within_chain own line cell.keys t (within_chain line old.keys cell.keys w h.0)))
not_beside item line own old (cell ∷ cells) w some apart (inr again) t = not_beside item line own old cells w some apart.1 again t

by_whole : (t : Bool) (item : ℕ) (b : AverageBound) (cell : Cell) → IsTrue t → IsNestedReport b (average_at item cell) →
    IsNestedReport b (average_share_by item (if t then Some cell else None) (cell ∷ []))
by_whole true item b cell t p = p
by_whole false item b cell t p = absurd (false≢true t)

again : (item : ℕ) (key : Key) (old : Cell) (line : List Span) (cells : List Cell) (lines : List (List Span)) →
    AreApart lines → IsOneOf line lines → IsTrue (holds line key) → AreCovered (keys_in cells) lines →
    IsTrue (is_within line old.keys) → AreSome cells → AreApart (keys_in cells) → HasAverageAgain item old cells →
    IsNestedReport (average_at item old) (average_share item line cells)
again item key old line [] lines all one k covered w some apart has = absurd has
again item key old line (cell ∷ cells) lines all one k covered w some apart (inl h) =
    let whole = within_chain line old.keys cell.keys w h.0 in
    let here = within_line cell.keys line lines key all covered.0 one (holds_more line cell.keys key whole k) k in
    let e = keep_only (is_within cell.keys line) cell (cells_within line cells) here (others_none line cell.keys cells whole some.1 apart.0) in
    subst (λ (cs : List Cell). IsNestedReport (average_at item old) (average_share_by item (only line cs) cs)) (sym e)
    (by_whole (is_within line cell.keys) item (average_at item old) cell whole h.1)
again item key old line (cell ∷ cells) lines all one k covered w some apart (inr has) =
    let e = keep_rest (is_within cell.keys line) cell (cells_within line cells) (not_beside item line cell.keys old cells w some.0 apart.0 has) in
    subst (λ (cs : List Cell). IsNestedReport (average_at item old) (average_share_by item (only line cs) cs)) (sym e)
    (again item key old line cells lines all one k covered.1 w some.1 apart.1 has)

-- ---- the share of a shard

averages_more : (t : Bool) (item : ℕ) (cell : Cell) (rest : List Cell) → IsCellAverage (average_at item cell) → AreCellAverages item rest →
    AreCellAverages item (if t then cell ∷ rest else rest)
averages_more true item cell rest h k = (h, k)
averages_more false item cell rest h k = k

kept_averages : (item : ℕ) (line : List Span) (cells : List Cell) → AreCellAverages item cells → AreCellAverages item (cells_within line cells)
kept_averages item line [] h = tt
kept_averages item line (cell ∷ cells) h = averages_more (is_within cell.keys line) item cell (cells_within line cells) h.0 (kept_averages item line cells h.1)

kept_more : (t : Bool) (item : ℕ) (old : Cell) (rest cells : List Cell) → ((average_at item old).null ≢ Never ⊎ HasAverageAgain item old cells) →
    AreAveragesKept item rest cells → AreAveragesKept item (if t then old ∷ rest else rest) cells
kept_more true item old rest cells h k = (h, k)
kept_more false item old rest cells h k = k

kept_again : (item : ℕ) (line : List Span) (olds cells : List Cell) → AreAveragesKept item olds cells → AreAveragesKept item (cells_within line olds) cells
kept_again item line [] cells h = tt
kept_again item line (old ∷ olds) cells h = kept_more (is_within old.keys line) item old (cells_within line olds) cells h.0 (kept_again item line olds cells h.1)

are_divisible : (item : ℕ) (cells : List Cell) → AreCellAverages item cells → AreCellsDivisible item cells
are_divisible item [] h = tt
are_divisible item (cell ∷ cells) h = (h.0.divisible, are_divisible item cells h.1)

alone : (bound q : AverageBound) → SomeNests (bound ∷ []) q → IsNestedAverage bound q
alone bound q some = elim some [ inl p ↦ p | inr e ↦ absurd e ]

-- what is known of a line of the later report, and of the cells of a shard
record IsPlaced (item : ℕ) (key : Key) (line : List Span) (lines : List (List Span)) (cells : List Cell) : Type 0 where
  pub apart : AreApart lines
  pub one : IsOneOf line lines
  pub has : IsTrue (holds line key)
  pub covered : AreCovered (keys_in cells) lines
  pub some : AreSome cells
  pub cells_apart : AreApart (keys_in cells)
  pub averages : AreCellAverages item cells

module _ (item : ℕ) (key : Key) (line : List Span) (lines : List (List Span)) (cells : List Cell) (place : IsPlaced item key line lines cells) where
  later_none : (average_share item line cells).null ≡ Always → average_share item line cells ≡ no_average
  later_none e = share_none item line (cells_within line cells) (kept_averages item line cells place.averages) e

  -- where no cell alone has all keys of the line
  by_uncertain : (found : List Cell) → AreCellAverages item found → AllSomeNest item (map (average_at item) found) (cells_within line cells) →
      IsNestedReport (uncertain_average (map (average_at item) found)) (average_share item line cells)
  by_uncertain found are all =
      let bounds = map (average_at item) found in
      let nested = share_within item (uncertain_average bounds) line (cells_within line cells) (uncertain_null bounds)
      (all_nested item bounds (uncertain_average bounds) (cells_within line cells)
      (λ q some. uncertain_nests bounds q (all_divide item found (are_divisible item found are)) some) all) in
      loose_report (uncertain_average bounds) (average_share item line cells) (uncertain_null bounds) nested (uncertain_none bounds) later_none

  by_open : (old : Cell) → IsCellAverage (average_at item old) → (average_at item old).null ≢ Never →
      AllSomeNest item (average_at item old ∷ []) (cells_within line cells) → IsNestedReport (average_at item old) (average_share item line cells)
  by_open old is u all =
      let b = average_at item old in
      let nested = share_within item b line (cells_within line cells) u
      (all_nested item (b ∷ []) b (cells_within line cells) (λ q some. alone b q some) all) in
      loose_report b (average_share item line cells) u nested is.none later_none

  by_test : (t : Bool) (old : List Span) (cell : Cell) → is_within old cell.keys ≡ t → IsTrue (is_within line old) → IsCellAverage (average_at item cell) →
      ((average_at item cell).null ≢ Never ⊎ HasAverageAgain item cell cells) → AllSomeNest item (average_at item cell ∷ []) (cells_within line cells) →
      IsNestedReport (average_share_by item (if t then Some cell else None) (cell ∷ [])) (average_share item line cells)
  by_test false old cell e w is kept all = by_uncertain (cell ∷ []) (is, tt) all
  by_test true old cell e w is kept all =
      elim kept [
        | inl u ↦ by_open cell is u all
        | inr has ↦ again item key cell line cells lines place.apart place.one place.has place.covered (within_chain line old cell.keys w e)
            place.some place.cells_apart has
      ]

  by_found : (old : List Span) (found : List Cell) → IsTrue (is_within line old) → AreCellAverages item found → AreAveragesKept item found cells →
      AllSomeNest item (map (average_at item) found) (cells_within line cells) →
      IsNestedReport (average_share_by item (only old found) found) (average_share item line cells)
  by_found old [] w are kept all = by_uncertain [] tt all
  by_found old (cell ∷ []) w are kept all = by_test (is_within old cell.keys) old cell refl w are.0 kept.0 all
  by_found old (cell ∷ next ∷ found) w are kept all = by_uncertain (cell ∷ next ∷ found) are all

  share_nests : (olds : List Cell) (before : List (List Span)) (old : List Span) → AreApart before → IsOneOf old before → AreCovered (keys_in olds) before →
      IsTrue (is_within line old) → IsLaterAverage item olds cells → IsNestedReport (average_share item old olds) (average_share item line cells)
  share_nests olds before old apart one covered w later =
      by_found old (cells_within old olds) w (kept_averages item old olds later.before) (kept_again item old olds cells later.kept)
      (all_some item cells olds old line before apart one covered w later.some later.from)

-- ---- all shards

module _ (item : ℕ) (key : Key) (olds lines : List (List Span)) (old line : List Span) (apart : AreApart olds) (one : IsOneOf old olds)
    (later_apart : AreApart lines) (two : IsOneOf line lines) (has : IsTrue (holds line key)) (w : IsTrue (is_within line old)) where
  all_nest : (before shards : List (List Cell)) → AreCovered (all_keys before) olds → AreCovered (all_keys shards) lines → AreLaterAverages item before shards →
      AreNestedReports (map (average_share item old) before) (map (average_share item line) shards)
  all_nest [] [] covered later_covered later = tt
  all_nest [] (cells ∷ shards) covered later_covered later = absurd later
  all_nest (first ∷ before) [] covered later_covered later = absurd later
  all_nest (first ∷ before) (cells ∷ shards) covered later_covered later =
      let place : IsPlaced item key line lines cells = record {
        apart = later_apart;
        one = two;
        has = has;
        covered = covered_front (keys_in cells) (all_keys shards) lines later_covered;
        some = later.0.some;
        cells_apart = later.0.apart;
        averages = later.0.now;
      } in (
        share_nests item key line lines cells place first olds old apart one (covered_front (keys_in first) (all_keys before) olds covered) w later.0,
        all_nest before shards (covered_back (keys_in first) (all_keys before) olds covered) (covered_back (keys_in cells) (all_keys shards) lines later_covered) later.1,
      )

old_divide : (item : ℕ) (line : List Span) (before shards : List (List Cell)) → AreLaterAverages item before shards → AreDivisible (map (average_share item line) before)
old_divide item line [] shards later = tt
old_divide item line (olds ∷ before) [] later = absurd later
old_divide item line (olds ∷ before) (cells ∷ shards) later =
    (share_divides item line (cells_within line olds) (kept_divide item line olds (are_divisible item olds later.0.before)), old_divide item line before shards later.1)

new_divide : (item : ℕ) (line : List Span) (before shards : List (List Cell)) → AreLaterAverages item before shards → AreDivisible (map (average_share item line) shards)
new_divide item line before [] later = tt
new_divide item line [] (cells ∷ shards) later = absurd later
new_divide item line (olds ∷ before) (cells ∷ shards) later =
    (share_divides item line (cells_within line cells) (kept_divide item line cells (are_divisible item cells later.0.now)), new_divide item line before shards later.1)

pub lines_nest_averages : LinesNestAverages
lines_nest_averages item key before shards olds lines old line was are later one two h k =
    let covered = one_covered line lines olds two (are.narrowest olds was.apart (later_covered item before shards olds was.covered later)) in
    let w = line_within key line old olds was.apart covered one k h in
    record {
      keys = w;
      average = averages_nest (map (average_share item old) before) (map (average_share item line) shards)
          (old_divide item old before shards later) (new_divide item line before shards later)
          (all_nest item key olds lines old line was.apart one are.apart two k w before shards was.covered are.covered later);
    }
