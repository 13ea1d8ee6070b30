use Rattle.std.proofs.Common.{◌≡◌, ◌≤◌, ℕ, Bool, List, length, count_by}
use Rattle.known_column.specs.Columns.{rows_of_column}
use Rattle.topk_bounds.specs.Cuts.{HaveRows, IsCut, place_in}
use Rattle.topk_bounds.proofs.search.Search.follow.Given as goal

abbrev pub invariant-loop-plane : goal.invariant-loop-plane
invariant-loop-plane l = record {
  read : l.self.read ≡ l.key.known.read;
  rows : HaveRows (rows_of_column l.key) l.self.cut;
  there : l.self.share.there ≡ count_by (λ b. b) l.self.cut.counted;
  wanted : l.self.share.wanted ≤ l.self.share.there;
  cut :
      (counted among : List Bool) (limit : ℕ) → length among ≡ rows_of_column l.key → IsCut counted among limit (place_in l.down l.key l.fn.self.read) l.fn.self.cut l.fn.self.share →
      IsCut counted among limit (place_in l.down l.key l.plane) l.self.cut l.self.share;
}
