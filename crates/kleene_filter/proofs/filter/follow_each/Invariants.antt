use Rattle.std.proofs.Common.{◌≡◌, ℕ, ◌≤◌, ◌<◌, List, length, slice_get, Some}
use Rattle.query_model.specs.declared.query.Atom.{Atom}
use Rattle.kleene_filter.specs.declared.masks.AtomMasks.{AtomMasks}
use Rattle.kleene_filter.specs.Masks.{Follows, WereMasksOf}
use Rattle.kleene_filter.proofs.filter.follow_each.Given as goal

abbrev pub invariant-loop-own : goal.invariant-loop-own
invariant-loop-own l = record {
  count : length l.own-items ≡ length l.fn.masks.items;
  left : (k : ℕ) → l.own-index ≤ k → slice_get l.own-items k ≡ slice_get l.fn.masks.items k;
  done : (atoms : List Atom) → WereMasksOf l.fn.masks.items atoms l.columns l.column l.plane → (k : ℕ) (own : AtomMasks) (atom : Atom) → k < l.own-index → slice_get l.own-items k ≡ Some own → slice_get atoms k ≡ Some atom → Follows own atom l.columns;
}
