-- A line contains the answers of its keys.
use Rattle.std.proofs.Common.{◌≡◌, ℕ, ℤ, Bool, true, false, List, [], ◌∷◌, map, refl, sym, subst, inl, inr, if◌then◌else◌, IsTrue, Option, Some, None}
use Rattle.std.proofs.lemmas.Bool.{cases_Bool, false≢true, or_cases}
use Rattle.query_model.specs.declared.query.ItemKind.{ItemKind}
use Rattle.query_model.specs.Answers.{answer}
use Rattle.query_model.specs.Bounds.{Admits}
use Rattle.shard_bounds.specs.Laws.{AreAdmitted}
use Rattle.shard_bounds.proofs.Contains.{combinations_contain}
use Rattle.shard_groups.specs.declared.cells.Cell.{Cell}
use Rattle.shard_groups.specs.declared.keys.Span.{Span}
use Rattle.shard_groups.specs.Groups.{all_keys, bound_at, cells_within, keys_in, only, share, share_by, shares, uncertain}
use Rattle.shard_groups.specs.Keys.{Key, holds, is_within}
use Rattle.shard_groups.specs.Laws.{AreAdmittedAt, AreCertainAt, IsCertainAt, IsOneOf, LinesContain, has_cell}
use Rattle.shard_groups.specs.Lines.{AreApart, AreCovered}
use Rattle.shard_groups.proofs.LineSets.{covered_back, covered_front}
use Rattle.shard_groups.proofs.Places.{within_line}
use Rattle.shard_groups.proofs.Spans.{holds_more}
use Rattle.shard_groups.proofs.Uncertain.{SomeAdmits, admits_none, loose, uncertain_admits}

-- ---- the cells of a shard that have the key

-- the cells that are kept are admitted as all are
kept_more : (t : Bool) (kind : ItemKind) (item : ℕ) (key : Key) (cell : Cell) (rest : List Cell) (values : List ℤ) →
    (IsTrue (holds cell.keys key) → Admits (bound_at item cell) (answer kind values)) → AreAdmittedAt kind item key rest values →
    AreAdmittedAt kind item key (if t then cell ∷ rest else rest) values
kept_more true kind item key cell rest values h k = (h, k)
kept_more false kind item key cell rest values h k = k

kept : (kind : ItemKind) (item : ℕ) (key : Key) (line : List Span) (cells : List Cell) (values : List ℤ) → AreAdmittedAt kind item key cells values →
    AreAdmittedAt kind item key (cells_within line cells) values
kept kind item key line [] values h = tt
kept kind item key line (cell ∷ cells) values h =
    kept_more (is_within cell.keys line) kind item key cell (cells_within line cells) values h.0 (kept kind item key line cells values h.1)

-- each cell that has the key lies within the line
abbrev pub AreWithin : Key → List Span → List Cell → Type 0
AreWithin key line [] = Unit {0}
AreWithin key line (cell ∷ cells) = (IsTrue (holds cell.keys key) → IsTrue (is_within cell.keys line)) × AreWithin key line cells

pub are_within : (key : Key) (line : List Span) (lines : List (List Span)) (cells : List Cell) → AreApart lines → IsOneOf line lines →
    IsTrue (holds line key) → AreCovered (keys_in cells) lines → AreWithin key line cells
are_within key line lines [] apart one k covered = tt
are_within key line lines (cell ∷ cells) apart one k covered =
    ((λ h. within_line cell.keys line lines key apart covered.0 one h k), are_within key line lines cells apart one k covered.1)

-- so some cell that is kept admits the answer
some_more : (t : Bool) (item : ℕ) (cell : Cell) (rest : List Cell) (a : Option ℤ) → IsTrue t → (Admits (bound_at item cell) a) →
    SomeAdmits (map (bound_at item) (if t then cell ∷ rest else rest)) a
some_more true item cell rest a t h = inl h
some_more false item cell rest a t h = absurd (false≢true t)

some_rest : (t : Bool) (item : ℕ) (cell : Cell) (rest : List Cell) (a : Option ℤ) → SomeAdmits (map (bound_at item) rest) a →
    SomeAdmits (map (bound_at item) (if t then cell ∷ rest else rest)) a
some_rest true item cell rest a h = inr h
some_rest false item cell rest a h = h

some_admits : (kind : ItemKind) (item : ℕ) (key : Key) (line : List Span) (cells : List Cell) (values : List ℤ) →
    AreWithin key line cells → AreAdmittedAt kind item key cells values → IsTrue (has_cell key cells) →
    SomeAdmits (map (bound_at item) (cells_within line cells)) (answer kind values)
some_admits kind item key line [] values within admitted has = absurd (false≢true has)
some_admits kind item key line (cell ∷ cells) values within admitted has =
    elim (or_cases (holds cell.keys key) (has_cell key cells) has) [
      | inl h ↦ some_more (is_within cell.keys line) item cell (cells_within line cells) (answer kind values) (within.0 h) (admitted.0 h)
      | inr h ↦ some_rest (is_within cell.keys line) item cell (cells_within line cells) (answer kind values)
          (some_admits kind item key line cells values within.1 admitted.1 h)
    ]

-- ---- the share of a shard

by_uncertain : (kind : ItemKind) (item : ℕ) (key : Key) (line : List Span) (cells : List Cell) (values : List ℤ) →
    AreWithin key line cells → IsCertainAt kind item key cells values →
    Admits (uncertain kind (map (bound_at item) (cells_within line cells))) (answer kind values)
by_uncertain kind item key line cells values within certain =
    let bounds = map (bound_at item) (cells_within line cells) in
    elim (cases_Bool (has_cell key cells)) [
      | inl h ↦ uncertain_admits kind bounds values (some_admits kind item key line cells values within certain.admits h)
      | inr f ↦ subst (λ (vs : List ℤ). Admits (uncertain kind bounds) (answer kind vs)) (sym (certain.missing f))
          (admits_none kind (uncertain kind bounds) (loose kind bounds))
    ]

-- of cells in the line, one that has all its keys has the key
pub by_only : (t : Bool) (kind : ItemKind) (item : ℕ) (key : Key) (line : List Span) (cell : Cell) (values : List ℤ) → is_within line cell.keys ≡ t →
    IsTrue (holds line key) → (IsTrue (holds cell.keys key) → Admits (bound_at item cell) (answer kind values)) →
    Admits (uncertain kind (bound_at item cell ∷ [])) (answer kind values) →
    Admits (share_by kind item (if t then Some cell else None) (cell ∷ [])) (answer kind values)
by_only true kind item key line cell values e k admitted other = admitted (holds_more line cell.keys key e k)
by_only false kind item key line cell values e k admitted other = other

by_found : (kind : ItemKind) (item : ℕ) (key : Key) (line : List Span) (found : List Cell) (values : List ℤ) →
    IsTrue (holds line key) → AreAdmittedAt kind item key found values → Admits (uncertain kind (map (bound_at item) found)) (answer kind values) →
    Admits (share_by kind item (only line found) found) (answer kind values)
by_found kind item key line [] values k admitted other = other
by_found kind item key line (cell ∷ []) values k admitted other =
    by_only (is_within line cell.keys) kind item key line cell values refl k admitted.0 other
by_found kind item key line (cell ∷ next ∷ cells) values k admitted other = other

pub share_admits : (kind : ItemKind) (item : ℕ) (key : Key) (line : List Span) (cells : List Cell) (values : List ℤ) →
    IsTrue (holds line key) → AreWithin key line cells → IsCertainAt kind item key cells values → Admits (share kind item line cells) (answer kind values)
share_admits kind item key line cells values k within certain =
    by_found kind item key line (cells_within line cells) values k (kept kind item key line cells values certain.admits)
    (by_uncertain kind item key line cells values within certain)

-- ---- all shards

all_admit : (kind : ItemKind) (item : ℕ) (key : Key) (shards : List (List Cell)) (tables : List (List ℤ)) (lines : List (List Span)) (line : List Span) →
    AreApart lines → IsOneOf line lines → IsTrue (holds line key) → AreCovered (all_keys shards) lines → AreCertainAt kind item key shards tables →
    AreAdmitted kind (shares kind item line shards) tables
all_admit kind item key [] [] lines line apart one k covered certain = tt
all_admit kind item key [] (values ∷ tables) lines line apart one k covered certain = certain
all_admit kind item key (cells ∷ shards) [] lines line apart one k covered certain = certain
all_admit kind item key (cells ∷ shards) (values ∷ tables) lines line apart one k covered certain = (
  share_admits kind item key line cells values k
      (are_within key line lines cells apart one k (covered_front (keys_in cells) (all_keys shards) lines covered)) certain.0,
  all_admit kind item key shards tables lines line apart one k (covered_back (keys_in cells) (all_keys shards) lines covered) certain.1,
)

pub lines_contain : LinesContain
lines_contain kind item key shards tables lines line n are one k certain =
    combinations_contain kind (shares kind item line shards) tables n
    (all_admit kind item key shards tables lines line are.apart one k are.covered certain)
