-- Where each cell has one key, so has each line, and bounds that say the answers of the shards say that of the whole.
use Rattle.std.proofs.Common.{◌≡◌, ℕ, ℤ, Bool, true, false, not, ◌&&◌, ◌||◌, List, [], ◌∷◌, ◌++◌, refl, sym, subst, inl, inr, if◌then◌else◌, IsTrue, IsFalse, Option, Some, None, ◌⊎◌}
use Rattle.std.specs.List.{list_any}
use Rattle.std.specs.Option.{is_some}
use Rattle.std.proofs.lemmas.Bool.{and_from, and_parts, both_ways, cases_Bool, false≢true, or_cases, or_parts}
use Rattle.query_model.specs.declared.query.ItemKind.{ItemKind}
use Rattle.query_model.specs.declared.query.ItemKind.TheVariants.{Count, Sum, Min, Max, Avg}
use Rattle.query_model.specs.Answers.{answer}
use Rattle.shard_bounds.specs.Laws.{AreTold, Tells}
use Rattle.shard_bounds.proofs.Exact.{combinations_tell}
use Rattle.shard_groups.specs.declared.cells.Cell.{Cell}
use Rattle.shard_groups.specs.declared.keys.Ends.{Ends}
use Rattle.shard_groups.specs.declared.keys.Relation.TheVariants.{Meet, Within}
use Rattle.shard_groups.specs.declared.keys.Span.{Span}
use Rattle.shard_groups.specs.Groups.{all_keys, bound_at, cells_within, keys_in, no_rows, only, share, share_by, shares}
use Rattle.shard_groups.specs.Keys.{Key, at_most, ends_meet, ends_within, holds, is_within, meets, related_spans}
use Rattle.shard_groups.specs.Laws.{AreAllToldAt, AreOneKeys, AreToldAt, is_one_key, is_one_part, is_one_value, IsOneOf, IsToldAt, LinesTell, has_cell}
use Rattle.shard_groups.specs.Lines.{AreApart, AreCovered, AreLines, IsApart, IsCovered}
use Rattle.shard_groups.proofs.Contains.{AreWithin, are_within}
use Rattle.shard_groups.proofs.LineSets.{all_more, covered_back, covered_front}
use Rattle.shard_groups.proofs.ValueOrder.{follows}
use Rattle.shard_groups.proofs.Spans.{holds_more, meets_back, meets_more, within_chain, within_itself}

-- ---- cells of one key

both : (a b : Bool) → IsTrue (a && b) → (IsTrue a) × (IsTrue b)
both a b t = and_parts a b t

value_within : (a b : Option Ends) → IsTrue (is_one_value a) → IsTrue (ends_meet a b) → IsTrue (ends_within a b)
value_within None b one m = refl
value_within (Some a) None one m = absurd (false≢true m)
value_within (Some a) (Some b) one m =
    let o = both (at_most a.low a.high) (at_most a.high a.low) one in
    let e = both (at_most a.low b.high) (at_most b.low a.high) m in
    and_from (at_most b.low a.low) (at_most a.high b.high) (follows b.low a.high a.low e.1 o.1) (follows a.high a.low b.high o.1 e.0)

none_within : (a b : Option Ends) → IsTrue (not (is_some a)) → IsTrue (ends_within a b)
none_within None b t = refl
none_within (Some a) b t = absurd (false≢true t)

none_meets : (a b : Option Ends) → IsTrue (not (is_some a)) → IsTrue (ends_meet a b) → ⊥
none_meets None b t m = false≢true m
none_meets (Some a) b t m = false≢true t

-- by whether the one allows null
part_by : (n m : Bool) (a b : Option Ends) → IsTrue (if n then not (is_some a) else is_one_value a) → IsTrue ((n && m) || ends_meet a b) →
    IsTrue ((not n || m) && ends_within a b)
part_by true true a b one t = none_within a b one
part_by true false a b one t = absurd (none_meets a b one t)
part_by false m a b one t = value_within a b one t

part_within : (a b : Span) → IsTrue (is_one_part a) → IsTrue (related_spans Meet a b) → IsTrue (related_spans Within a b)
part_within a b one m = part_by a.null b.null a.ends b.ends one m

value_meets : (a : Option Ends) → IsTrue (is_one_value a) → IsTrue (ends_meet a a)
value_meets None one = one
value_meets (Some a) one =
    let o = both (at_most a.low a.high) (at_most a.high a.low) one in
    and_from (at_most a.low a.high) (at_most a.low a.high) o.0 o.0

part_by_itself : (n : Bool) (a : Option Ends) → IsTrue (if n then not (is_some a) else is_one_value a) → IsTrue ((n && n) || ends_meet a a)
part_by_itself true a one = refl
part_by_itself false a one = value_meets a one

-- one key that meets a set lies within it
pub one_within : (a b : List Span) → IsTrue (is_one_key a) → IsTrue (meets a b) → IsTrue (is_within a b)
one_within [] b one m = m
one_within (x ∷ a) [] one m = m
one_within (x ∷ a) (y ∷ b) one m =
    let o = both (is_one_part x) (is_one_key a) one in
    let e = both (related_spans Meet x y) (meets a b) m in
    and_from (related_spans Within x y) (is_within a b) (part_within x y o.0 e.0) (one_within a b o.1 e.1)

pub one_meets : (a : List Span) → IsTrue (is_one_key a) → IsTrue (meets a a)
one_meets [] one = refl
one_meets (x ∷ a) one =
    let o = both (is_one_part x) (is_one_key a) one in
    and_from (related_spans Meet x x) (meets a a) (part_by_itself x.null x.ends o.0) (one_meets a o.1)

-- two of one key, the one within the other
pub one_back : (a b : List Span) → IsTrue (is_one_key a) → IsTrue (is_one_key b) → IsTrue (is_within a b) → IsTrue (is_within b a)
one_back a b one two w = one_within b a two (meets_more a b a w (one_meets a one))

-- ---- lines of such cells

abbrev with_one : Bool → List Span → List (List Span) → List (List Span)
with_one true c ds = ds
with_one false c ds = c ∷ ds

-- each key once
abbrev distinct : List (List Span) → List (List Span)
distinct [] = []
distinct (c ∷ cells) = with_one (list_any (meets c) (distinct cells)) c (distinct cells)

apart_from : (c : List Span) (ds : List (List Span)) → IsFalse (list_any (meets c) ds) → IsApart c ds
apart_from c [] f = tt
apart_from c (d ∷ ds) f = (let e = or_parts (meets c d) (list_any (meets c) ds) f in (e.0, apart_from c ds e.1))

with_apart : (t : Bool) (c : List Span) (ds : List (List Span)) → list_any (meets c) ds ≡ t → AreApart ds → AreApart (with_one t c ds)
with_apart true c ds e h = h
with_apart false c ds e h = (apart_from c ds e, h)

distinct_apart : (cells : List (List Span)) → AreApart (distinct cells)
distinct_apart [] = tt
distinct_apart (c ∷ cells) = with_apart (list_any (meets c) (distinct cells)) c (distinct cells) refl (distinct_apart cells)

covered_by : (c : List Span) (ds : List (List Span)) → IsTrue (is_one_key c) → IsTrue (list_any (meets c) ds) → IsCovered c ds
covered_by c [] one t = absurd (false≢true t)
covered_by c (d ∷ ds) one t =
    elim (or_cases (meets c d) (list_any (meets c) ds) t) [
      | inl m ↦ inl (one_within c d one m)
      | inr m ↦ inr (covered_by c ds one m)
    ]

with_covered : (t : Bool) (c : List Span) (cells ds : List (List Span)) → list_any (meets c) ds ≡ t → IsTrue (is_one_key c) → AreCovered cells ds →
    AreCovered (c ∷ cells) (with_one t c ds)
with_covered true c cells ds e one h = (covered_by c ds one e, h)
with_covered false c cells ds e one h = (inl (within_itself c), all_more cells ds (c ∷ ds) (λ d k. inr k) h)

distinct_covers : (cells : List (List Span)) → AreOneKeys cells → AreCovered cells (distinct cells)
distinct_covers [] ones = tt
distinct_covers (c ∷ cells) ones =
    with_covered (list_any (meets c) (distinct cells)) c cells (distinct cells) refl ones.0 (distinct_covers cells ones.1)

with_ones : (t : Bool) (c : List Span) (ds : List (List Span)) → IsTrue (is_one_key c) → AreOneKeys ds → AreOneKeys (with_one t c ds)
with_ones true c ds one h = h
with_ones false c ds one h = (one, h)

distinct_ones : (cells : List (List Span)) → AreOneKeys cells → AreOneKeys (distinct cells)
distinct_ones [] ones = tt
distinct_ones (c ∷ cells) ones = with_ones (list_any (meets c) (distinct cells)) c (distinct cells) ones.0 (distinct_ones cells ones.1)

-- a set of one key that has the line
abbrev pub OneKeyOf : List Span → Type 0
OneKeyOf line = (one : List Span) × IsTrue (is_one_key one) × IsTrue (is_within line one)

one_key : (line : List Span) (ds : List (List Span)) → IsCovered line ds → AreOneKeys ds → OneKeyOf line
one_key line [] covered ones = absurd covered
one_key line (d ∷ ds) (inl w) ones = (d, ones.0, w)
one_key line (d ∷ ds) (inr covered) ones = one_key line ds covered ones.1

line_of : (line : List Span) (lines others : List (List Span)) → IsOneOf line lines → AreCovered lines others → IsCovered line others
line_of line [] others one covered = absurd one
line_of line (l ∷ lines) others (inl e) covered = subst (λ (x : List Span). IsCovered x others) (sym e) covered.0
line_of line (l ∷ lines) others (inr one) covered = line_of line lines others one covered.1

pub line_of_one : (cells lines : List (List Span)) (line : List Span) → AreLines cells lines → IsOneOf line lines → AreOneKeys cells → OneKeyOf line
line_of_one cells lines line are one ones =
    one_key line (distinct cells)
    (line_of line lines (distinct cells) one (are.narrowest (distinct cells) (distinct_apart cells) (distinct_covers cells ones)))
    (distinct_ones cells ones)

-- within a line of one key all cells of one key are the same
pub same_cell : (line cell : List Span) → OneKeyOf line → IsTrue (is_one_key cell) → IsTrue (is_within cell line) → IsTrue (is_within line cell)
same_cell line cell one own w =
    within_chain line one.0 cell one.2 (one_back cell one.0 own one.1 (within_chain cell line one.0 w one.2))

-- ---- the share of a shard

abbrev pub AreAllWithin : List Span → List Cell → Type 0
AreAllWithin line [] = Unit {0}
AreAllWithin line (cell ∷ cells) = IsTrue (is_within cell.keys line) × AreAllWithin line cells

no_rows_tell : (kind : ItemKind) → Tells (no_rows kind) (answer kind [])
no_rows_tell Count = (refl, refl, refl)
no_rows_tell Sum = refl
no_rows_tell Min = refl
no_rows_tell Max = refl
no_rows_tell Avg = refl

-- the cells that are kept
within_more : (t : Bool) (line : List Span) (cell : Cell) (rest : List Cell) → is_within cell.keys line ≡ t → AreAllWithin line rest →
    AreAllWithin line (if t then cell ∷ rest else rest)
within_more true line cell rest e h = (e, h)
within_more false line cell rest e h = h

kept_within : (line : List Span) (cells : List Cell) → AreAllWithin line (cells_within line cells)
kept_within line [] = tt
kept_within line (cell ∷ cells) = within_more (is_within cell.keys line) line cell (cells_within line cells) refl (kept_within line cells)

ones_more : (t : Bool) (cell : Cell) (rest : List Cell) → IsTrue (is_one_key cell.keys) → AreOneKeys (keys_in rest) →
    AreOneKeys (keys_in (if t then cell ∷ rest else rest))
ones_more true cell rest one h = (one, h)
ones_more false cell rest one h = h

kept_ones : (line : List Span) (cells : List Cell) → AreOneKeys (keys_in cells) → AreOneKeys (keys_in (cells_within line cells))
kept_ones line [] ones = tt
kept_ones line (cell ∷ cells) ones = ones_more (is_within cell.keys line) cell (cells_within line cells) ones.0 (kept_ones line cells ones.1)

told_more : (t : Bool) (kind : ItemKind) (item : ℕ) (key : Key) (cell : Cell) (rest : List Cell) (values : List ℤ) →
    (IsTrue (holds cell.keys key) → Tells (bound_at item cell) (answer kind values)) → AreToldAt kind item key rest values →
    AreToldAt kind item key (if t then cell ∷ rest else rest) values
told_more true kind item key cell rest values h k = (h, k)
told_more false kind item key cell rest values h k = k

kept_told : (kind : ItemKind) (item : ℕ) (key : Key) (line : List Span) (cells : List Cell) (values : List ℤ) → AreToldAt kind item key cells values →
    AreToldAt kind item key (cells_within line cells) values
kept_told kind item key line [] values h = tt
kept_told kind item key line (cell ∷ cells) values h =
    told_more (is_within cell.keys line) kind item key cell (cells_within line cells) values h.0 (kept_told kind item key line cells values h.1)

apart_more : (t : Bool) (own : List Span) (cell : Cell) (rest : List Cell) → IsFalse (meets own cell.keys) → IsApart own (keys_in rest) →
    IsApart own (keys_in (if t then cell ∷ rest else rest))
apart_more true own cell rest f h = (f, h)
apart_more false own cell rest f h = h

kept_apart_one : (own line : List Span) (cells : List Cell) → IsApart own (keys_in cells) → IsApart own (keys_in (cells_within line cells))
kept_apart_one own line [] h = tt
kept_apart_one own line (cell ∷ cells) h =
    apart_more (is_within cell.keys line) own cell (cells_within line cells) h.0 (kept_apart_one own line cells h.1)

all_apart_more : (t : Bool) (cell : Cell) (rest : List Cell) → IsApart cell.keys (keys_in rest) → AreApart (keys_in rest) →
    AreApart (keys_in (if t then cell ∷ rest else rest))
all_apart_more true cell rest f h = (f, h)
all_apart_more false cell rest f h = h

kept_apart : (line : List Span) (cells : List Cell) → AreApart (keys_in cells) → AreApart (keys_in (cells_within line cells))
kept_apart line [] h = tt
kept_apart line (cell ∷ cells) h =
    all_apart_more (is_within cell.keys line) cell (cells_within line cells) (kept_apart_one cell.keys line cells h.0) (kept_apart line cells h.1)

-- where none is kept, none has the key
kept_some : (t : Bool) (cell : Cell) (rest : List Cell) → IsTrue t → (if t then cell ∷ rest else rest) ≡ [] → ⊥
kept_some true cell rest t e = cc
kept_some false cell rest t e = false≢true t

kept_none : (t : Bool) (cell : Cell) (rest : List Cell) → (if t then cell ∷ rest else rest) ≡ [] → rest ≡ []
kept_none true cell rest e = absurd (kept_some true cell rest refl e)
kept_none false cell rest e = e

none_has : (key : Key) (line : List Span) (cells : List Cell) → AreWithin key line cells → cells_within line cells ≡ [] → IsTrue (has_cell key cells) → ⊥
none_has key line [] within e has = false≢true has
none_has key line (cell ∷ cells) within e has =
    elim (or_cases (holds cell.keys key) (has_cell key cells) has) [
      | inl h ↦ kept_some (is_within cell.keys line) cell (cells_within line cells) (within.0 h) e
      | inr h ↦ none_has key line cells within.1 (kept_none (is_within cell.keys line) cell (cells_within line cells) e) h
    ]

pub no_values : (key : Key) (line : List Span) (cells : List Cell) (values : List ℤ) → AreWithin key line cells →
    (IsFalse (has_cell key cells) → values ≡ []) → cells_within line cells ≡ [] → values ≡ []
no_values key line cells values within missing e =
    elim (cases_Bool (has_cell key cells)) [ inl h ↦ absurd (none_has key line cells within e h) | inr f ↦ missing f ]

-- two cells of one key in a line of one key meet
both_meet : (line c d : List Span) → OneKeyOf line → IsTrue (is_one_key c) → IsTrue (is_one_key d) → IsTrue (is_within c line) → IsTrue (is_within d line) →
    IsTrue (meets c d)
both_meet line c d own one two v w =
    let within = within_chain c line d v (same_cell line d own two w) in
    meets_back d c (meets_more c d c within (one_meets c one))

tell_one : (t : Bool) (kind : ItemKind) (item : ℕ) (key : Key) (line : List Span) (cell : Cell) (values : List ℤ) → is_within line cell.keys ≡ t → IsTrue t →
    IsTrue (holds line key) → (IsTrue (holds cell.keys key) → Tells (bound_at item cell) (answer kind values)) →
    Tells (share_by kind item (if t then Some cell else None) (cell ∷ [])) (answer kind values)
tell_one true kind item key line cell values e w k told = told (holds_more line cell.keys key e k)
tell_one false kind item key line cell values e w k told = absurd (false≢true w)

tell_found : (kind : ItemKind) (item : ℕ) (key : Key) (line : List Span) (found : List Cell) (values : List ℤ) → OneKeyOf line → IsTrue (holds line key) →
    AreOneKeys (keys_in found) → AreApart (keys_in found) → AreAllWithin line found → AreToldAt kind item key found values →
    (found ≡ [] → values ≡ []) → Tells (share_by kind item (only line found) found) (answer kind values)
tell_found kind item key line [] values own k ones apart within told none =
    subst (λ (vs : List ℤ). Tells (no_rows kind) (answer kind vs)) (sym (none refl)) (no_rows_tell kind)
tell_found kind item key line (cell ∷ []) values own k ones apart within told none =
    tell_one (is_within line cell.keys) kind item key line cell values refl (same_cell line cell.keys own ones.0 within.0) k told.0
tell_found kind item key line (cell ∷ next ∷ cells) values own k ones apart within told none =
    absurd (both_ways (meets cell.keys next.keys) apart.0.0 (both_meet line cell.keys next.keys own ones.0 ones.1.0 within.0 within.1.0))

share_tells : (kind : ItemKind) (item : ℕ) (key : Key) (line : List Span) (cells : List Cell) (values : List ℤ) → OneKeyOf line → IsTrue (holds line key) →
    AreWithin key line cells → IsToldAt kind item key cells values → Tells (share kind item line cells) (answer kind values)
share_tells kind item key line cells values own k within told =
    tell_found kind item key line (cells_within line cells) values own k (kept_ones line cells told.one_keys) (kept_apart line cells told.apart)
    (kept_within line cells) (kept_told kind item key line cells values told.told) (no_values key line cells values within told.missing)

-- ---- the only cell of a line

abbrev pub OnlyCell : List Span → List Cell → Type 0
OnlyCell line found = (cell : Cell) × (found ≡ cell ∷ []) × IsTrue (is_within line cell.keys)

only_found : (line : List Span) (found : List Cell) → OneKeyOf line → AreOneKeys (keys_in found) → AreApart (keys_in found) → AreAllWithin line found →
    (found ≡ []) ⊎ OnlyCell line found
only_found line [] own ones apart within = inl refl
only_found line (cell ∷ []) own ones apart within = inr (cell, refl, same_cell line cell.keys own ones.0 within.0)
only_found line (cell ∷ next ∷ cells) own ones apart within =
    absurd (both_ways (meets cell.keys next.keys) apart.0.0 (both_meet line cell.keys next.keys own ones.0 ones.1.0 within.0 within.1.0))

-- no cell of a shard is kept, or one that has all keys of the line
pub one_found : (line : List Span) (cells : List Cell) → OneKeyOf line → AreOneKeys (keys_in cells) → AreApart (keys_in cells) →
    (cells_within line cells ≡ []) ⊎ OnlyCell line (cells_within line cells)
one_found line cells own ones apart =
    only_found line (cells_within line cells) own (kept_ones line cells ones) (kept_apart line cells apart) (kept_within line cells)

-- ---- all shards

pub ones_append : (front back : List (List Span)) → AreOneKeys front → AreOneKeys back → AreOneKeys (front ++ back)
ones_append [] back h k = k
ones_append (c ∷ front) back h k = (h.0, ones_append front back h.1 k)

all_ones : (kind : ItemKind) (item : ℕ) (key : Key) (shards : List (List Cell)) (tables : List (List ℤ)) → AreAllToldAt kind item key shards tables →
    AreOneKeys (all_keys shards)
all_ones kind item key [] tables told = tt
all_ones kind item key (cells ∷ shards) [] told = absurd told
all_ones kind item key (cells ∷ shards) (values ∷ tables) told =
    ones_append (keys_in cells) (all_keys shards) told.0.one_keys (all_ones kind item key shards tables told.1)

all_tell : (kind : ItemKind) (item : ℕ) (key : Key) (shards : List (List Cell)) (tables : List (List ℤ)) (lines : List (List Span)) (line : List Span) →
    AreApart lines → IsOneOf line lines → OneKeyOf line → IsTrue (holds line key) → AreCovered (all_keys shards) lines →
    AreAllToldAt kind item key shards tables → AreTold kind (shares kind item line shards) tables
all_tell kind item key [] [] lines line apart one own k covered told = tt
all_tell kind item key [] (values ∷ tables) lines line apart one own k covered told = told
all_tell kind item key (cells ∷ shards) [] lines line apart one own k covered told = told
all_tell kind item key (cells ∷ shards) (values ∷ tables) lines line apart one own k covered told = (
  share_tells kind item key line cells values own k
      (are_within key line lines cells apart one k (covered_front (keys_in cells) (all_keys shards) lines covered)) told.0,
  all_tell kind item key shards tables lines line apart one own k (covered_back (keys_in cells) (all_keys shards) lines covered) told.1,
)

pub lines_tell : LinesTell
lines_tell kind item key shards tables lines line n are one k told =
    combinations_tell kind (shares kind item line shards) tables n
    (all_tell kind item key shards tables lines line are.apart one
    (line_of_one (all_keys shards) lines line are one (all_ones kind item key shards tables told)) k are.covered told)
