-- Blocks of 512 rows in which stand the rows that may count and need not.
use Rattle.std.proofs.Common.{◌≡◌, ℕ, ◌+◌, ◌*◌, ◌<◌, ◌≤◌, Bool, true, false, List, length, map, get_or, replicate, ◌⊎◌, inl, inr, sym, ap, ◌∙◌, arith}
use Rattle.std.proofs.lemmas.Bool.{false≢true}
use Rattle.std.proofs.lemmas.List.{get_or-replicate, get_or_past, length-map}
use Rattle.aggregates.specs.Widening.{CoverOthers}
use Rattle.aggregates.specs.Selections.{has_row}
use Rattle.aggregates.proofs.BlockWords.{place}
use Rattle.kleene_filter.specs.Filters.{is_certain, is_possible, AreSettled}
use Rattle.query_model.specs.declared.bounds.Truth.{Truth}

-- all blocks
pub all_cover : (may must blocks : List Bool) → length must ≡ length may → length may ≤ 512 * length blocks → blocks ≡ replicate (length blocks) true → CoverOthers may must blocks
all_cover may must blocks same room all = record { room = room; same = λ block j few off. by_place block j few off (place block (length blocks)) }
  where
    by_place : (block j : ℕ) → j < 512 → has_row blocks block ≡ false → (block < length blocks) ⊎ (length blocks ≤ block) → has_row must (512 * block + j) ≡ has_row may (512 * block + j)
    by_place block j few off (inl within) = absurd (false≢true (sym off ∙ ap (λ l. get_or l block false) all ∙ get_or-replicate (length blocks) block true false within))
    by_place block j few off (inr past) =
        get_or_past must (512 * block + j) false (omega (arith, same, room, past)) ∙ sym (get_or_past may (512 * block + j) false (omega (arith, room, past)))

-- those in which a condition may be unknown
pub settled_cover : (truths : List Truth) (may must blocks : List Bool) → may ≡ map is_possible truths → must ≡ map is_certain truths → AreSettled (map is_certain truths) (map is_possible truths) blocks → CoverOthers may must blocks
settled_cover truths may must blocks may_is must_is settled = record {
  room = omega (arith, settled.room, ap length may_is, length-map truths is_possible, length-map truths is_certain);
  same = λ block j few off. ap (λ l. get_or l (512 * block + j) false) must_is ∙ settled.same block j few off ∙ ap (λ l. get_or l (512 * block + j) false) (sym may_is);
}
