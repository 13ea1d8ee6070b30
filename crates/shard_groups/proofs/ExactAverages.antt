-- Where each shard's report is exact, a line says the averages of its keys.
use Rattle.std.proofs.Common.{◌≡◌, ℕ, ℤ, Bool, true, false, List, [], ◌∷◌, map, refl, sym, subst, inl, inr, if◌then◌else◌, IsTrue, Some, None}
use Rattle.std.proofs.lemmas.Bool.{false≢true}
use Rattle.query_model.specs.Answers.{average}
use Rattle.shard_bounds.specs.Averages.{TellsAverage}
use Rattle.shard_bounds.specs.Laws.{AreAveragesTold}
use Rattle.shard_bounds.proofs.ExactAverages.{combinations_tell_averages}
use Rattle.shard_groups.specs.declared.cells.Cell.{Cell}
use Rattle.shard_groups.specs.declared.keys.Span.{Span}
use Rattle.shard_groups.specs.Groups.{all_keys, average_at, average_share, average_share_by, cells_within, keys_in, only}
use Rattle.shard_groups.specs.Keys.{Key, holds, is_within}
use Rattle.shard_groups.specs.Laws.{AreAllAveragesToldAt, AreAveragesToldAt, AreOneKeys, IsAverageToldAt, IsOneOf, LinesTellAverages}
use Rattle.shard_groups.specs.Lines.{AreApart, AreCovered}
use Rattle.shard_groups.proofs.Contains.{AreWithin, are_within}
use Rattle.shard_groups.proofs.Exact.{OneKeyOf, line_of_one, no_values, one_found, ones_append}
use Rattle.shard_groups.proofs.LineSets.{covered_back, covered_front}
use Rattle.shard_groups.proofs.Spans.{holds_more}

kept_more : (t : Bool) (item : ℕ) (key : Key) (cell : Cell) (rest : List Cell) (values : List ℤ) →
    (IsTrue (holds cell.keys key) → TellsAverage (average_at item cell) (average values)) → AreAveragesToldAt item key rest values →
    AreAveragesToldAt item key (if t then cell ∷ rest else rest) values
kept_more true item key cell rest values h k = (h, k)
kept_more false item key cell rest values h k = k

kept : (item : ℕ) (key : Key) (line : List Span) (cells : List Cell) (values : List ℤ) → AreAveragesToldAt item key cells values →
    AreAveragesToldAt item key (cells_within line cells) values
kept item key line [] values h = tt
kept item key line (cell ∷ cells) values h =
    kept_more (is_within cell.keys line) item key cell (cells_within line cells) values h.0 (kept item key line cells values h.1)

by_whole : (t : Bool) (item : ℕ) (key : Key) (line : List Span) (cell : Cell) (values : List ℤ) → is_within line cell.keys ≡ t → IsTrue t →
    IsTrue (holds line key) → (IsTrue (holds cell.keys key) → TellsAverage (average_at item cell) (average values)) →
    TellsAverage (average_share_by item (if t then Some cell else None) (cell ∷ [])) (average values)
by_whole true item key line cell values e w k told = told (holds_more line cell.keys key e k)
by_whole false item key line cell values e w k told = absurd (false≢true w)

no_average_tells : (line : List Span) (item : ℕ) → TellsAverage (average_share_by item (only line []) []) (average [])
no_average_tells line item = refl

share_tells : (item : ℕ) (key : Key) (line : List Span) (cells : List Cell) (values : List ℤ) → OneKeyOf line → IsTrue (holds line key) →
    AreWithin key line cells → IsAverageToldAt item key cells values → TellsAverage (average_share item line cells) (average values)
share_tells item key line cells values own k within told =
    elim (one_found line cells own told.one_keys told.apart) [
      | inl e ↦ subst (λ (cs : List Cell). TellsAverage (average_share_by item (only line cs) cs) (average values)) (sym e)
          (subst (λ (vs : List ℤ). TellsAverage (average_share_by item (only line []) []) (average vs))
          (sym (no_values key line cells values within told.missing e)) (no_average_tells line item))
      | inr found ↦ subst (λ (cs : List Cell). TellsAverage (average_share_by item (only line cs) cs) (average values)) (sym found.1)
          (by_whole (is_within line found.0.keys) item key line found.0 values refl found.2 k
          (subst (λ (cs : List Cell). AreAveragesToldAt item key cs values) found.1 (kept item key line cells values told.told)).0)
    ]

all_ones : (item : ℕ) (key : Key) (shards : List (List Cell)) (tables : List (List ℤ)) → AreAllAveragesToldAt item key shards tables →
    AreOneKeys (all_keys shards)
all_ones item key [] tables told = tt
all_ones item key (cells ∷ shards) [] told = absurd told
all_ones item key (cells ∷ shards) (values ∷ tables) told =
    ones_append (keys_in cells) (all_keys shards) told.0.one_keys (all_ones item key shards tables told.1)

all_tell : (item : ℕ) (key : Key) (shards : List (List Cell)) (tables : List (List ℤ)) (lines : List (List Span)) (line : List Span) →
    AreApart lines → IsOneOf line lines → OneKeyOf line → IsTrue (holds line key) → AreCovered (all_keys shards) lines →
    AreAllAveragesToldAt item key shards tables → AreAveragesTold (map (average_share item line) shards) tables
all_tell item key [] [] lines line apart one own k covered told = tt
all_tell item key [] (values ∷ tables) lines line apart one own k covered told = told
all_tell item key (cells ∷ shards) [] lines line apart one own k covered told = told
all_tell item key (cells ∷ shards) (values ∷ tables) lines line apart one own k covered told = (
  share_tells item key line cells values own k
      (are_within key line lines cells apart one k (covered_front (keys_in cells) (all_keys shards) lines covered)) told.0,
  all_tell item key shards tables lines line apart one own k (covered_back (keys_in cells) (all_keys shards) lines covered) told.1,
)

pub lines_tell_averages : LinesTellAverages
lines_tell_averages item key shards tables lines line are one k told =
    combinations_tell_averages (map (average_share item line) shards) tables
    (all_tell item key shards tables lines line are.apart one
    (line_of_one (all_keys shards) lines line are one (all_ones item key shards tables told)) k are.covered told)
