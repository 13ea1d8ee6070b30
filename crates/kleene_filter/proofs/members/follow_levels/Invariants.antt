use Rattle.std.proofs.Common.{◌≡◌, ℕ, ℤ, ◌≤◌, ◌<◌, length, get_or}
use Rattle.kleene_filter.specs.declared.members.Level.{Level}
use Rattle.kleene_filter.specs.Members.{has_level, IsLevel}
use Rattle.kleene_filter.proofs.members.follow_levels.Given as goal

abbrev pub invariant-loop-level : goal.invariant-loop-level
invariant-loop-level l = record {
  count : length l.level-items ≡ length l.fn.levels.items;
  done : (k : ℕ) (d : Level) → k < l.level-index → IsLevel l.column l.values (get_or l.level-items k d);
  left : (k : ℕ) (d : Level) → l.level-index ≤ k → get_or l.level-items k d ≡ get_or l.fn.levels.items k d;
  numbers : (number : ℤ) → has_level l.level-items number ≡ has_level l.fn.levels.items number;
}
