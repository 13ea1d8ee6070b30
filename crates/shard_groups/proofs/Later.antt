-- The line of a key, and its bound, with later reports of the shards.
use Rattle.std.proofs.Common.{◌≡◌, ℕ, Bool, true, false, List, [], ◌∷◌, map, refl, sym, ap, subst, inl, inr, ◌⊎◌, if◌then◌else◌, IsTrue, Some, None}
use Rattle.std.proofs.lemmas.Bool.{both_ways, false≢true}
use Rattle.query_model.specs.declared.bounds.Bound.{Bound}
use Rattle.query_model.specs.declared.query.ItemKind.{ItemKind}
use Rattle.query_model.specs.Bounds.{IsNested}
use Rattle.shard_bounds.specs.Combined.{AreBoundsOf, IsBoundOf}
use Rattle.shard_bounds.specs.Laws.{AreNested}
use Rattle.shard_bounds.proofs.Nests.{combinations_nest}
use Rattle.shard_groups.specs.declared.cells.Cell.{Cell}
use Rattle.shard_groups.specs.declared.keys.Span.{Span}
use Rattle.shard_groups.specs.Groups.{all_keys, bound_at, cells_within, keys_in, only, share, share_by, shares, uncertain}
use Rattle.shard_groups.specs.Keys.{Key, holds, is_within, meets}
use Rattle.shard_groups.specs.Laws.{AreCellBounds, AreCells, AreFrom, AreKept, AreLater, AreSome, HasAgain, IsCellBound, IsFrom, IsLater, IsOneOf, IsUncertain, LinesNest}
use Rattle.shard_groups.specs.Lines.{AreApart, AreCovered, IsApart, IsCovered}
use Rattle.shard_groups.proofs.LineSets.{covered_append, covered_back, covered_front, covered_within}
use Rattle.shard_groups.proofs.Nests.{AllBounds, AllNested, IsOpen, SomeNests, nests_uncertain, open_cell, uncertain_is, uncertain_nests, uncertain_open}
use Rattle.shard_groups.proofs.Places.{within_line}
use Rattle.shard_groups.proofs.Spans.{holds_more, meets_back, meets_both, meets_more, within_chain}

-- ---- where cells are

pub meets_within : (a b : List Span) → IsTrue (meets a a) → IsTrue (is_within a b) → IsTrue (meets a b)
meets_within a b some w = meets_back b a (meets_more a b a w some)

apart_meets : (m line : List Span) (lines : List (List Span)) → IsApart m lines → IsOneOf line lines → IsTrue (meets m line) → ⊥
apart_meets m line [] apart one t = one
apart_meets m line (l ∷ lines) apart (inl e) t = both_ways (meets m l) apart.0 (subst (λ (x : List Span). IsTrue (meets m x)) e t)
apart_meets m line (l ∷ lines) apart (inr one) t = apart_meets m line lines apart.1 one t

apart_covers : (m cell : List Span) (lines : List (List Span)) → IsApart m lines → IsCovered cell lines → IsTrue (meets cell m) → ⊥
apart_covers m cell [] apart covered t = covered
apart_covers m cell (l ∷ lines) apart (inl w) t = both_ways (meets m l) apart.0 (meets_back l m (meets_more cell l m w t))
apart_covers m cell (l ∷ lines) apart (inr covered) t = apart_covers m cell lines apart.1 covered t

-- a cell that meets a line lies within it
pub meets_line : (cell line : List Span) (lines : List (List Span)) → AreApart lines → IsCovered cell lines → IsOneOf line lines →
    IsTrue (meets cell line) → IsTrue (is_within cell line)
meets_line cell line [] apart covered one t = absurd one
meets_line cell line (m ∷ lines) apart (inl w) (inl e) t = subst (λ (x : List Span). IsTrue (is_within cell x)) (sym e) w
meets_line cell line (m ∷ lines) apart (inl w) (inr one) t = absurd (apart_meets m line lines apart.0 one (meets_more cell m line w t))
meets_line cell line (m ∷ lines) apart (inr covered) (inl e) t =
    absurd (apart_covers m cell lines apart.0 covered (subst (λ (x : List Span). IsTrue (meets cell x)) e t))
meets_line cell line (m ∷ lines) apart (inr covered) (inr one) t = meets_line cell line lines apart.1 covered one t

-- ---- later cells lie within lines of the earlier ones

from_covered : (item : ℕ) (cell : Cell) (olds : List Cell) (lines : List (List Span)) → AreCovered (keys_in olds) lines → IsFrom item cell olds →
    IsCovered cell.keys lines
from_covered item cell [] lines covered from = absurd from
from_covered item cell (old ∷ olds) lines covered (inl h) = covered_within cell.keys old.keys lines h.0 covered.0
from_covered item cell (old ∷ olds) lines covered (inr from) = from_covered item cell olds lines covered.1 from

all_from : (item : ℕ) (cells olds : List Cell) (lines : List (List Span)) → AreCovered (keys_in olds) lines → AreFrom item olds cells →
    AreCovered (keys_in cells) lines
all_from item [] olds lines covered from = tt
all_from item (cell ∷ cells) olds lines covered from =
    (from_covered item cell olds lines covered from.0, all_from item cells olds lines covered from.1)

later_covered : (kind : ItemKind) (item : ℕ) (before shards : List (List Cell)) (lines : List (List Span)) → AreCovered (all_keys before) lines →
    AreLater kind item before shards → AreCovered (all_keys shards) lines
later_covered kind item [] [] lines covered later = tt
later_covered kind item [] (cells ∷ shards) lines covered later = absurd later
later_covered kind item (olds ∷ before) [] lines covered later = absurd later
later_covered kind item (olds ∷ before) (cells ∷ shards) lines covered later =
    covered_append (keys_in cells) (all_keys shards) lines
    (all_from item cells olds lines (covered_front (keys_in olds) (all_keys before) lines covered) later.0.from)
    (later_covered kind item before shards lines (covered_back (keys_in olds) (all_keys before) lines covered) later.1)

pub one_covered : (line : List Span) (lines others : List (List Span)) → IsOneOf line lines → AreCovered lines others → IsCovered line others
one_covered line [] others one covered = absurd one
one_covered line (l ∷ lines) others (inl e) covered = subst (λ (x : List Span). IsCovered x others) (sym e) covered.0
one_covered line (l ∷ lines) others (inr one) covered = one_covered line lines others one covered.1

-- ---- the cells of a later report that lie within a line

-- a cell that is kept comes from one that is kept of the earlier report
from_kept : (t : Bool) (item : ℕ) (old : Cell) (rest : List Cell) (q : Bound) → IsTrue t → IsNested (bound_at item old) q →
    SomeNests (map (bound_at item) (if t then old ∷ rest else rest)) q
from_kept true item old rest q t p = inl p
from_kept false item old rest q t p = absurd (false≢true t)

from_rest : (t : Bool) (item : ℕ) (old : Cell) (rest : List Cell) (q : Bound) → SomeNests (map (bound_at item) rest) q →
    SomeNests (map (bound_at item) (if t then old ∷ rest else rest)) q
from_rest true item old rest q some = inr some
from_rest false item old rest q some = some

some_from : (item : ℕ) (cell : Cell) (olds : List Cell) (line : List Span) (lines : List (List Span)) → AreApart lines → IsOneOf line lines →
    AreCovered (keys_in olds) lines → IsTrue (meets cell.keys cell.keys) → IsTrue (is_within cell.keys line) → IsFrom item cell olds →
    SomeNests (map (bound_at item) (cells_within line olds)) (bound_at item cell)
some_from item cell [] line lines apart one covered some w from = absurd from
some_from item cell (old ∷ olds) line lines apart one covered some w (inl h) =
    from_kept (is_within old.keys line) item old (cells_within line olds) (bound_at item cell)
    (meets_line old.keys line lines apart covered.0 one (meets_both cell.keys cell.keys old.keys line h.0 w some)) h.1
some_from item cell (old ∷ olds) line lines apart one covered some w (inr from) =
    from_rest (is_within old.keys line) item old (cells_within line olds) (bound_at item cell)
    (some_from item cell olds line lines apart one covered.1 some w from)

-- each cell that is kept has such a bound
abbrev AllSomeNest : ItemKind → ℕ → List Bound → List Cell → Type 0
AllSomeNest kind item bounds [] = Unit {0}
AllSomeNest kind item bounds (cell ∷ cells) =
    (IsCellBound kind (bound_at item cell) × SomeNests bounds (bound_at item cell)) × AllSomeNest kind item bounds cells

all_kept : (t : Bool) (kind : ItemKind) (item : ℕ) (bounds : List Bound) (cell : Cell) (rest : List Cell) →
    (IsTrue t → IsCellBound kind (bound_at item cell) × SomeNests bounds (bound_at item cell)) → AllSomeNest kind item bounds rest →
    AllSomeNest kind item bounds (if t then cell ∷ rest else rest)
all_kept true kind item bounds cell rest h k = (h refl, k)
all_kept false kind item bounds cell rest h k = k

all_some : (kind : ItemKind) (item : ℕ) (cells olds : List Cell) (old line : List Span) (lines : List (List Span)) → AreApart lines → IsOneOf old lines →
    AreCovered (keys_in olds) lines → IsTrue (is_within line old) → AreSome cells → AreCellBounds kind item cells → AreFrom item olds cells →
    AllSomeNest kind item (map (bound_at item) (cells_within old olds)) (cells_within line cells)
all_some kind item [] olds old line lines apart one covered w some are from = tt
all_some kind item (cell ∷ cells) olds old line lines apart one covered w some are from =
    all_kept (is_within cell.keys line) kind item (map (bound_at item) (cells_within old olds)) cell (cells_within line cells)
    (λ t. (are.0, some_from item cell olds old lines apart one covered some.0 (within_chain cell.keys line old t w) from.0))
    (all_some kind item cells olds old line lines apart one covered w some.1 are.1 from.1)

all_nested : (kind : ItemKind) (item : ℕ) (bounds : List Bound) (b : Bound) (cells : List Cell) →
    ((q : Bound) → IsCellBound kind q → SomeNests bounds q → IsNested b q) → AllSomeNest kind item bounds cells → AllNested kind b (map (bound_at item) cells)
all_nested kind item bounds b [] h all = tt
all_nested kind item bounds b (cell ∷ cells) h all =
    ((all.0.0, h (bound_at item cell) all.0.0 all.0.1), all_nested kind item bounds b cells h all.1)

-- so the share of the later report lies within a bound that is open
share_if : (t : Bool) (kind : ItemKind) (item : ℕ) (b : Bound) (cell : Cell) → IsNested b (bound_at item cell) → IsNested b (uncertain kind (bound_at item cell ∷ [])) →
    IsNested b (share_by kind item (if t then Some cell else None) (cell ∷ []))
share_if true kind item b cell p q = p
share_if false kind item b cell p q = q

share_within : (kind : ItemKind) (item : ℕ) (b : Bound) (line : List Span) (cells : List Cell) → IsOpen kind b → AllNested kind b (map (bound_at item) cells) →
    IsNested b (share_by kind item (only line cells) cells)
share_within kind item b line [] is all = nests_uncertain kind b [] is all
share_within kind item b line (cell ∷ []) is all =
    share_if (is_within line cell.keys) kind item b cell all.0.1 (nests_uncertain kind b (bound_at item cell ∷ []) is all)
share_within kind item b line (cell ∷ next ∷ cells) is all = nests_uncertain kind b (map (bound_at item) (cell ∷ next ∷ cells)) is all

-- ---- a cell that is certain of an answer is there again

keep_none : (t : Bool) (cell : Cell) (rest : List Cell) → (IsTrue t → ⊥) → rest ≡ [] → (if t then cell ∷ rest else rest) ≡ []
keep_none true cell rest never e = absurd (never refl)
keep_none false cell rest never e = e

pub keep_only : (t : Bool) (cell : Cell) (rest : List Cell) → IsTrue t → rest ≡ [] → (if t then cell ∷ rest else rest) ≡ cell ∷ []
keep_only true cell rest t e = ap (λ cs. cell ∷ cs) e
keep_only false cell rest t e = absurd (false≢true t)

pub keep_rest : (t : Bool) (cell : Cell) (rest : List Cell) → (IsTrue t → ⊥) → (if t then cell ∷ rest else rest) ≡ rest
keep_rest true cell rest never = absurd (never refl)
keep_rest false cell rest never = refl

pub others_none : (line own : List Span) (cells : List Cell) → IsTrue (is_within line own) → AreSome cells → IsApart own (keys_in cells) →
    cells_within line cells ≡ []
others_none line own [] w some apart = refl
others_none line own (cell ∷ cells) w some apart =
    keep_none (is_within cell.keys line) cell (cells_within line cells)
    (λ t. both_ways (meets own cell.keys) apart.0 (meets_back cell.keys own (meets_within cell.keys own some.0 (within_chain cell.keys line own t w))))
    (others_none line own cells w some.1 apart.1)

not_beside : (item : ℕ) (line own : List Span) (old : Cell) (cells : List Cell) → IsTrue (is_within line old.keys) → IsTrue (meets own own) →
    IsApart own (keys_in cells) → HasAgain item old cells → IsTrue (is_within own line) → ⊥
not_beside item line own old [] w some apart again t = again
not_beside item line own old (cell ∷ cells) w some apart (inl h) t =
    both_ways (meets own cell.keys) apart.0
    (meets_within own cell.keys some (within_chain own line cell.keys t (within_chain line old.keys cell.keys w h.0)))
not_beside item line own old (cell ∷ cells) w some apart (inr again) t = not_beside item line own old cells w some apart.1 again t

by_whole : (t : Bool) (kind : ItemKind) (item : ℕ) (b : Bound) (cell : Cell) → IsTrue t → IsNested b (bound_at item cell) →
    IsNested b (share_by kind item (if t then Some cell else None) (cell ∷ []))
by_whole true kind item b cell t p = p
by_whole false kind item b cell t p = absurd (false≢true t)

again : (kind : ItemKind) (item : ℕ) (key : Key) (old : Cell) (line : List Span) (cells : List Cell) (lines : List (List Span)) →
    AreApart lines → IsOneOf line lines → IsTrue (holds line key) → AreCovered (keys_in cells) lines →
    IsTrue (is_within line old.keys) → AreSome cells → AreApart (keys_in cells) → HasAgain item old cells →
    IsNested (bound_at item old) (share kind item line cells)
again kind item key old line [] lines all one k covered w some apart has = absurd has
again kind item key old line (cell ∷ cells) lines all one k covered w some apart (inl h) =
    let whole = within_chain line old.keys cell.keys w h.0 in
    let here = within_line cell.keys line lines key all covered.0 one (holds_more line cell.keys key whole k) k in
    let e = keep_only (is_within cell.keys line) cell (cells_within line cells) here (others_none line cell.keys cells whole some.1 apart.0) in
    subst (λ (cs : List Cell). IsNested (bound_at item old) (share_by kind item (only line cs) cs)) (sym e)
    (by_whole (is_within line cell.keys) kind item (bound_at item old) cell whole h.1)
again kind item key old line (cell ∷ cells) lines all one k covered w some apart (inr has) =
    let e = keep_rest (is_within cell.keys line) cell (cells_within line cells) (not_beside item line cell.keys old cells w some.0 apart.0 has) in
    subst (λ (cs : List Cell). IsNested (bound_at item old) (share_by kind item (only line cs) cs)) (sym e)
    (again kind item key old line cells lines all one k covered.1 w some.1 apart.1 has)

-- ---- the share of a shard

bounds_more : (t : Bool) (kind : ItemKind) (item : ℕ) (cell : Cell) (rest : List Cell) → IsCellBound kind (bound_at item cell) →
    AreCellBounds kind item rest → AreCellBounds kind item (if t then cell ∷ rest else rest)
bounds_more true kind item cell rest h k = (h, k)
bounds_more false kind item cell rest h k = k

kept_bounds : (kind : ItemKind) (item : ℕ) (line : List Span) (cells : List Cell) → AreCellBounds kind item cells →
    AreCellBounds kind item (cells_within line cells)
kept_bounds kind item line [] h = tt
kept_bounds kind item line (cell ∷ cells) h =
    bounds_more (is_within cell.keys line) kind item cell (cells_within line cells) h.0 (kept_bounds kind item line cells h.1)

kept_more : (t : Bool) (kind : ItemKind) (item : ℕ) (old : Cell) (rest cells : List Cell) → (IsUncertain kind (bound_at item old)) ⊎ (HasAgain item old cells) →
    AreKept kind item rest cells → AreKept kind item (if t then old ∷ rest else rest) cells
kept_more true kind item old rest cells h k = (h, k)
kept_more false kind item old rest cells h k = k

kept_again : (kind : ItemKind) (item : ℕ) (line : List Span) (olds cells : List Cell) → AreKept kind item olds cells →
    AreKept kind item (cells_within line olds) cells
kept_again kind item line [] cells h = tt
kept_again kind item line (old ∷ olds) cells h =
    kept_more (is_within old.keys line) kind item old (cells_within line olds) cells h.0 (kept_again kind item line olds cells h.1)

alone : (bound q : Bound) → SomeNests (bound ∷ []) q → IsNested bound q
alone bound q some = elim some [ inl p ↦ p | inr e ↦ absurd e ]

-- where no cell alone has all keys of the line
by_uncertain : (kind : ItemKind) (item : ℕ) (found : List Cell) (line : List Span) (cells : List Cell) →
    AllSomeNest kind item (map (bound_at item) found) (cells_within line cells) →
    IsNested (uncertain kind (map (bound_at item) found)) (share kind item line cells)
by_uncertain kind item found line cells all =
    let bounds = map (bound_at item) found in
    share_within kind item (uncertain kind bounds) line (cells_within line cells) (uncertain_open kind bounds)
    (all_nested kind item bounds (uncertain kind bounds) (cells_within line cells) (λ q is some. uncertain_nests kind bounds q is some) all)

by_open : (kind : ItemKind) (item : ℕ) (old : Cell) (line : List Span) (cells : List Cell) → IsCellBound kind (bound_at item old) →
    IsUncertain kind (bound_at item old) → AllSomeNest kind item (bound_at item old ∷ []) (cells_within line cells) →
    IsNested (bound_at item old) (share kind item line cells)
by_open kind item old line cells is u all =
    share_within kind item (bound_at item old) line (cells_within line cells) (open_cell kind (bound_at item old) is u)
    (all_nested kind item (bound_at item old ∷ []) (bound_at item old) (cells_within line cells) (λ q is some. alone (bound_at item old) q some) all)

-- what is known of a line of the later report, and of the cells of a shard
record IsPlaced (kind : ItemKind) (item : ℕ) (key : Key) (line : List Span) (lines : List (List Span)) (cells : List Cell) : Type 0 where
  pub apart : AreApart lines
  pub one : IsOneOf line lines
  pub has : IsTrue (holds line key)
  pub covered : AreCovered (keys_in cells) lines
  pub are : AreCells kind item cells

by_test : (t : Bool) (kind : ItemKind) (item : ℕ) (key : Key) (old line : List Span) (lines : List (List Span)) (cell : Cell) (cells : List Cell) →
    is_within old cell.keys ≡ t → IsTrue (is_within line old) → IsPlaced kind item key line lines cells → IsCellBound kind (bound_at item cell) →
    (IsUncertain kind (bound_at item cell)) ⊎ (HasAgain item cell cells) → AllSomeNest kind item (bound_at item cell ∷ []) (cells_within line cells) →
    IsNested (share_by kind item (if t then Some cell else None) (cell ∷ [])) (share kind item line cells)
by_test false kind item key old line lines cell cells e w place is kept all = by_uncertain kind item (cell ∷ []) line cells all
by_test true kind item key old line lines cell cells e w place is kept all =
    elim kept [
      | inl u ↦ by_open kind item cell line cells is u all
      | inr has ↦ again kind item key cell line cells lines place.apart place.one place.has place.covered (within_chain line old cell.keys w e)
          place.are.some place.are.apart has
    ]

by_found : (kind : ItemKind) (item : ℕ) (key : Key) (old line : List Span) (lines : List (List Span)) (found cells : List Cell) →
    IsTrue (is_within line old) → IsPlaced kind item key line lines cells → AreCellBounds kind item found → AreKept kind item found cells →
    AllSomeNest kind item (map (bound_at item) found) (cells_within line cells) →
    IsNested (share_by kind item (only old found) found) (share kind item line cells)
by_found kind item key old line lines [] cells w place are kept all = by_uncertain kind item [] line cells all
by_found kind item key old line lines (cell ∷ []) cells w place are kept all =
    by_test (is_within old cell.keys) kind item key old line lines cell cells refl w place are.0 kept.0 all
by_found kind item key old line lines (cell ∷ next ∷ found) cells w place are kept all = by_uncertain kind item (cell ∷ next ∷ found) line cells all

share_nests : (kind : ItemKind) (item : ℕ) (key : Key) (olds cells : List Cell) (before lines : List (List Span)) (old line : List Span) →
    AreApart before → IsOneOf old before → AreCovered (keys_in olds) before → IsTrue (is_within line old) → IsPlaced kind item key line lines cells →
    IsLater kind item olds cells → IsNested (share kind item old olds) (share kind item line cells)
share_nests kind item key olds cells before lines old line apart one covered w place later =
    by_found kind item key old line lines (cells_within old olds) cells w place (kept_bounds kind item old olds later.before.bounds)
    (kept_again kind item old olds cells later.kept)
    (all_some kind item cells olds old line before apart one covered w later.now.some later.now.bounds later.from)

-- ---- the share is a bound

all_bounds : (kind : ItemKind) (item : ℕ) (cells : List Cell) → AreCellBounds kind item cells → AllBounds kind (map (bound_at item) cells)
all_bounds kind item [] h = tt
all_bounds kind item (cell ∷ cells) h = (h.0, all_bounds kind item cells h.1)

is_if : (t : Bool) (kind : ItemKind) (item : ℕ) (cell : Cell) → IsBoundOf kind (bound_at item cell) → IsBoundOf kind (uncertain kind (bound_at item cell ∷ [])) →
    IsBoundOf kind (share_by kind item (if t then Some cell else None) (cell ∷ []))
is_if true kind item cell p q = p
is_if false kind item cell p q = q

is_by : (kind : ItemKind) (item : ℕ) (line : List Span) (cells : List Cell) → AreCellBounds kind item cells →
    IsBoundOf kind (share_by kind item (only line cells) cells)
is_by kind item line [] h = uncertain_is kind [] tt
is_by kind item line (cell ∷ []) h = is_if (is_within line cell.keys) kind item cell h.0.is_bound (uncertain_is kind (bound_at item cell ∷ []) (h.0, tt))
is_by kind item line (cell ∷ next ∷ cells) h =
    uncertain_is kind (map (bound_at item) (cell ∷ next ∷ cells)) (all_bounds kind item (cell ∷ next ∷ cells) h)

are_bounds : (kind : ItemKind) (item : ℕ) (line : List Span) (before shards : List (List Cell)) → AreLater kind item before shards →
    AreBoundsOf kind (shares kind item line shards)
are_bounds kind item line [] [] later = tt
are_bounds kind item line [] (cells ∷ shards) later = absurd later
are_bounds kind item line (olds ∷ before) [] later = absurd later
are_bounds kind item line (olds ∷ before) (cells ∷ shards) later =
    (is_by kind item line (cells_within line cells) (kept_bounds kind item line cells later.0.now.bounds), are_bounds kind item line before shards later.1)

-- ---- all shards

all_nest : (kind : ItemKind) (item : ℕ) (key : Key) (before shards : List (List Cell)) (olds lines : List (List Span)) (old line : List Span) →
    AreApart olds → IsOneOf old olds → AreCovered (all_keys before) olds → AreApart lines → IsOneOf line lines → IsTrue (holds line key) →
    AreCovered (all_keys shards) lines → IsTrue (is_within line old) → AreLater kind item before shards →
    AreNested (shares kind item old before) (shares kind item line shards)
all_nest kind item key [] [] olds lines old line apart one covered apart2 one2 k covered2 w later = tt
all_nest kind item key [] (cells ∷ shards) olds lines old line apart one covered apart2 one2 k covered2 w later = absurd later
all_nest kind item key (first ∷ before) [] olds lines old line apart one covered apart2 one2 k covered2 w later = absurd later
all_nest kind item key (first ∷ before) (cells ∷ shards) olds lines old line apart one covered apart2 one2 k covered2 w later =
    let place : IsPlaced kind item key line lines cells = record {
      apart = apart2;
      one = one2;
      has = k;
      covered = covered_front (keys_in cells) (all_keys shards) lines covered2;
      are = later.0.now;
    } in (
      share_nests kind item key first cells olds lines old line apart one (covered_front (keys_in first) (all_keys before) olds covered) w place later.0,
      all_nest kind item key before shards olds lines old line apart one (covered_back (keys_in first) (all_keys before) olds covered)
          apart2 one2 k (covered_back (keys_in cells) (all_keys shards) lines covered2) w later.1,
    )

-- the line of the key lies within its line before
pub line_within : (key : Key) (line old : List Span) (olds : List (List Span)) → AreApart olds → IsCovered line olds → IsOneOf old olds →
    IsTrue (holds line key) → IsTrue (holds old key) → IsTrue (is_within line old)
line_within key line old olds apart covered one k h = within_line line old olds key apart covered one k h

pub lines_nest : LinesNest
lines_nest kind item key before shards olds lines old line n was are later one two h k =
    let covered = one_covered line lines olds two (are.narrowest olds was.apart (later_covered kind item before shards olds was.covered later)) in
    let w = line_within key line old olds was.apart covered one k h in
    record {
      keys = w;
      bound = combinations_nest kind (shares kind item old before) (shares kind item line shards) n (are_bounds kind item line before shards later)
          (all_nest kind item key before shards olds lines old line was.apart one was.covered are.apart two k are.covered w later);
    }
