-- The lines of one shard are its cells.
use Rattle.std.proofs.Common.{◌≡◌, ℕ, Bool, true, false, ◌||◌, List, [], ◌∷◌, refl, sym, ap, ◌∙◌, subst, inl, inr, if◌then◌else◌, IsTrue, IsFalse, Option, Some, None}
use Rattle.std.proofs.lemmas.Bool.{both_ways}
use Rattle.std.proofs.lemmas.List.{append-nil}
use Rattle.query_model.specs.declared.query.ItemKind.{ItemKind}
use Rattle.shard_bounds.specs.Combined.{combined, IsBoundOf}
use Rattle.shard_bounds.proofs.Single.{one_shard_is_all as one_bound}
use Rattle.shard_groups.specs.declared.cells.Cell.{Cell}
use Rattle.shard_groups.specs.declared.keys.Span.{Span}
use Rattle.shard_groups.specs.Groups.{bound_at, cells_within, is_present_by, is_present_in, keys_in, only, share, share_by}
use Rattle.shard_groups.specs.Keys.{is_within, meets}
use Rattle.shard_groups.specs.Laws.{AreCellBounds, AreSome, IsCellOf, OneShardIsAll}
use Rattle.shard_groups.specs.Lines.{AreApart, AreLines, IsApart}
use Rattle.shard_groups.proofs.Later.{keep_only, keep_rest, meets_within, others_none}
use Rattle.shard_groups.proofs.LineSets.{covers_itself, used_itself}
use Rattle.shard_groups.proofs.Spans.{within_itself}

own_lines : (cells : List (List Span)) → AreApart cells → AreLines cells cells
own_lines cells apart = record { covered = covers_itself cells; used = used_itself cells; apart = apart; narrowest = λ others h covered. covered }

apart_of : (cell : Cell) (own : List Span) (cells : List Cell) → IsApart own (keys_in cells) → IsCellOf cell cells → IsFalse (meets own cell.keys)
apart_of cell own [] apart one = absurd one
apart_of cell own (other ∷ cells) apart (inl e) = subst (λ (c : Cell). IsFalse (meets own c.keys)) (sym e) apart.0
apart_of cell own (other ∷ cells) apart (inr one) = apart_of cell own cells apart.1 one

-- within a cell of the shard is this cell alone
pub alone : (cell : Cell) (cells : List Cell) → AreSome cells → AreApart (keys_in cells) → IsCellOf cell cells → cells_within cell.keys cells ≡ cell ∷ []
alone cell [] some apart one = absurd one
alone cell (other ∷ cells) some apart (inl e) =
    subst (λ (c : Cell). cells_within c.keys (other ∷ cells) ≡ c ∷ []) (sym e)
    (keep_only (is_within other.keys other.keys) other (cells_within other.keys cells) (within_itself other.keys)
    (others_none other.keys other.keys cells (within_itself other.keys) some.1 apart.0))
alone cell (other ∷ cells) some apart (inr one) =
    keep_rest (is_within other.keys cell.keys) other (cells_within cell.keys cells)
    (λ w. both_ways (meets other.keys cell.keys) (apart_of cell other.keys cells apart.0 one) (meets_within other.keys cell.keys some.0 w))
    ∙ alone cell cells some.1 apart.1 one

whole_if : (t : Bool) (cell : Cell) → IsTrue t → ◌≡◌ {A = Option Cell} (if t then Some cell else None) (Some cell)
whole_if true cell t = refl
whole_if false cell t = absurd (both_ways false refl t)

pub only_own : (cell : Cell) → only cell.keys (cell ∷ []) ≡ Some cell
only_own cell = whole_if (is_within cell.keys cell.keys) cell (within_itself cell.keys)

bound_of_cell : (kind : ItemKind) (item : ℕ) (cell : Cell) (cells : List Cell) → AreCellBounds kind item cells → IsCellOf cell cells → IsBoundOf kind (bound_at item cell)
bound_of_cell kind item cell [] are one = absurd one
bound_of_cell kind item cell (other ∷ cells) are (inl e) = subst (λ (c : Cell). IsBoundOf kind (bound_at item c)) (sym e) are.0.is_bound
bound_of_cell kind item cell (other ∷ cells) are (inr one) = bound_of_cell kind item cell cells are.1 one

same_or : (b : Bool) → (b || false) ≡ b
same_or true = refl
same_or false = refl

pub one_shard_is_all : OneShardIsAll
one_shard_is_all kind item cells n are = record {
  lines = subst (λ (ks : List (List Span)). AreLines ks (keys_in cells)) (sym (append-nil (keys_in cells))) (own_lines (keys_in cells) are.apart);
  each = λ cell one.
      let here = alone cell cells are.some are.apart one in
      let found = ap (only cell.keys) here ∙ only_own cell in
      let shared : share kind item cell.keys cells ≡ bound_at item cell = ap (λ (o : Option Cell). share_by kind item o (cells_within cell.keys cells)) found in
      record {
        bound = ap (λ b. combined kind (b ∷ [])) shared ∙ one_bound kind (bound_at item cell) n (bound_of_cell kind item cell cells are.bounds one);
        present = same_or (is_present_in cell.keys cells) ∙ ap is_present_by found;
      };
}
