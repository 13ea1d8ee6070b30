-- Where the keys of a cell are.
use Rattle.std.proofs.Common.{List, [], ◌∷◌, sym, subst, inl, inr, IsTrue}
use Rattle.std.proofs.lemmas.Bool.{both_ways}
use Rattle.shard_groups.specs.declared.keys.Span.{Span}
use Rattle.shard_groups.specs.Keys.{Key, holds, is_within, meets}
use Rattle.shard_groups.specs.Laws.{IsOneOf}
use Rattle.shard_groups.specs.Lines.{AreApart, IsApart, IsCovered}
use Rattle.shard_groups.proofs.Spans.{holds_both, holds_more}

-- a line that has a key of the cell is none that is apart from the cell's
pub apart_one : (l line : List Span) (lines : List (List Span)) (key : Key) → IsApart l lines → IsOneOf line lines →
    IsTrue (holds l key) → IsTrue (holds line key) → ⊥
apart_one l line [] key apart one h k = one
apart_one l line (m ∷ lines) key apart (inl e) h k =
    both_ways (meets l m) apart.0 (holds_both l m key h (subst (λ (x : List Span). IsTrue (holds x key)) e k))
apart_one l line (m ∷ lines) key apart (inr one) h k = apart_one l line lines key apart.1 one h k

apart_cell : (line cell : List Span) (lines : List (List Span)) (key : Key) → IsApart line lines → IsCovered cell lines →
    IsTrue (holds cell key) → IsTrue (holds line key) → ⊥
apart_cell line cell [] key apart covered h k = covered
apart_cell line cell (m ∷ lines) key apart (inl w) h k = both_ways (meets line m) apart.0 (holds_both line m key k (holds_more cell m key w h))
apart_cell line cell (m ∷ lines) key apart (inr covered) h k = apart_cell line cell lines key apart.1 covered h k

-- a cell that has a key of a line lies within it
pub within_line : (cell line : List Span) (lines : List (List Span)) (key : Key) → AreApart lines → IsCovered cell lines → IsOneOf line lines →
    IsTrue (holds cell key) → IsTrue (holds line key) → IsTrue (is_within cell line)
within_line cell line [] key apart covered one h k = absurd one
within_line cell line (m ∷ lines) key apart (inl w) (inl e) h k = subst (λ (x : List Span). IsTrue (is_within cell x)) (sym e) w
within_line cell line (m ∷ lines) key apart (inl w) (inr one) h k = absurd (apart_one m line lines key apart.0 one (holds_more cell m key w h) k)
within_line cell line (m ∷ lines) key apart (inr covered) (inl e) h k =
    absurd (apart_cell m cell lines key apart.0 covered h (subst (λ (x : List Span). IsTrue (holds x key)) e k))
within_line cell line (m ∷ lines) key apart (inr covered) (inr one) h k = within_line cell line lines key apart.1 covered one h k
