-- The order of the shards makes no difference.
use Rattle.std.proofs.Common.{◌≡◌, Bool, true, false, ◌||◌, List, ◌++◌, refl, ap, ◌∙◌, inl, inr}
use Rattle.shard_bounds.specs.Combined.{Reordered}
use Rattle.shard_bounds.specs.Combined.Reordered.{same, swapped, farther, both}
use Rattle.shard_bounds.proofs.Orders.{map-reordered, order_is_free as orders}
use Rattle.shard_groups.specs.declared.cells.Cell.{Cell}
use Rattle.shard_groups.specs.declared.keys.Span.{Span}
use Rattle.shard_groups.specs.Groups.{all_keys, is_present, is_present_in, keys_in, share, shares}
use Rattle.shard_groups.specs.Laws.{LinesAreOne, OrderIsFree}
use Rattle.shard_groups.specs.Lines.{AreCovered, AreLines, IsUsed}
use Rattle.shard_groups.proofs.LineSets.{all_used, covered_append, covered_back, covered_front, used_cases, used_left, used_right}

either_way : (a b c : Bool) → (a || (b || c)) ≡ (b || (a || c))
either_way true true c = refl
either_way true false c = refl
either_way false b c = refl

present_reordered : (line : List Span) (shards others : List (List Cell)) → Reordered shards others → is_present line shards ≡ is_present line others
present_reordered line xs ys (same zs) = refl
present_reordered line xs ys (swapped x y zs) = either_way (is_present_in line x) (is_present_in line y) (is_present line zs)
present_reordered line xs ys (farther x us vs r) = ap (λ (b : Bool). is_present_in line x || b) (present_reordered line us vs r)
present_reordered line xs ys (both us vs ws r s) = present_reordered line us vs r ∙ present_reordered line vs ws s

covered_reordered : (shards others : List (List Cell)) (lines : List (List Span)) → Reordered shards others → AreCovered (all_keys shards) lines →
    AreCovered (all_keys others) lines
covered_reordered xs ys lines (same zs) h = h
covered_reordered xs ys lines (swapped x y zs) h =
    let first = covered_front (keys_in x) (keys_in y ++ all_keys zs) lines h in
    let rest = covered_back (keys_in x) (keys_in y ++ all_keys zs) lines h in
    covered_append (keys_in y) (keys_in x ++ all_keys zs) lines (covered_front (keys_in y) (all_keys zs) lines rest)
    (covered_append (keys_in x) (all_keys zs) lines first (covered_back (keys_in y) (all_keys zs) lines rest))
covered_reordered xs ys lines (farther x us vs r) h =
    covered_append (keys_in x) (all_keys vs) lines (covered_front (keys_in x) (all_keys us) lines h)
    (covered_reordered us vs lines r (covered_back (keys_in x) (all_keys us) lines h))
covered_reordered xs ys lines (both us vs ws r s) h = covered_reordered vs ws lines s (covered_reordered us vs lines r h)

used_reordered : (shards others : List (List Cell)) (line : List Span) → Reordered shards others → IsUsed line (all_keys shards) →
    IsUsed line (all_keys others)
used_reordered xs ys line (same zs) h = h
used_reordered xs ys line (swapped x y zs) h =
    elim (used_cases line (keys_in x) (keys_in y ++ all_keys zs) h) [
      | inl k ↦ used_right line (keys_in y) (keys_in x ++ all_keys zs) (used_left line (keys_in x) (all_keys zs) k)
      | inr k ↦ elim (used_cases line (keys_in y) (all_keys zs) k) [
        | inl f ↦ used_left line (keys_in y) (keys_in x ++ all_keys zs) f
        | inr f ↦ used_right line (keys_in y) (keys_in x ++ all_keys zs) (used_right line (keys_in x) (all_keys zs) f)
      ]
    ]
used_reordered xs ys line (farther x us vs r) h =
    elim (used_cases line (keys_in x) (all_keys us) h) [
      | inl k ↦ used_left line (keys_in x) (all_keys vs) k
      | inr k ↦ used_right line (keys_in x) (all_keys vs) (used_reordered us vs line r k)
    ]
used_reordered xs ys line (both us vs ws r s) h = used_reordered vs ws line s (used_reordered us vs line r h)

back : {X : Type 0} (xs ys : List X) → Reordered xs ys → Reordered ys xs
back xs ys (same zs) = same zs
back xs ys (swapped x y zs) = swapped y x zs
back xs ys (farther x us vs r) = farther x vs us (back us vs r)
back xs ys (both us vs ws r s) = both ws vs us (back vs ws s) (back us vs r)

lines_reordered : (shards others : List (List Cell)) (lines : List (List Span)) → Reordered shards others → AreLines (all_keys shards) lines →
    AreLines (all_keys others) lines
lines_reordered shards others lines r are = record {
  covered = covered_reordered shards others lines r are.covered;
  used = all_used lines (all_keys shards) (all_keys others) (λ line h. used_reordered shards others line r h) are.used;
  apart = are.apart;
  narrowest = λ more apart covered. are.narrowest more apart (covered_reordered others shards more (back shards others r) covered);
}

pub order_is_free : OrderIsFree
order_is_free kind item shards others lines r = record {
  same = λ are. lines_reordered shards others lines r are;
  bound = λ line. orders kind (shares kind item line shards) (shares kind item line others)
      (map-reordered (share kind item line) shards others r);
  present = λ line. present_reordered line shards others r;
}

pub lines_are_one : LinesAreOne
lines_are_one cells lines others are were = are.narrowest others were.apart were.covered
