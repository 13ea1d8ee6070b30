use Rattle.std.proofs.Common.{◌≡◌, ◌<◌, ◌≤◌, ℕ, length, map, vec_items, get_or}
use Rattle.csv_load.specs.States.{AreFinished, State, emptied}
use Rattle.csv_load.proofs.building.table_of.Given as goal

-- the columns before the place are finished and emptied, and those from it on are as they were
abbrev pub invariant-loop-place : goal.invariant-loop-place
invariant-loop-place l = record {
  done : AreFinished l.schema.columns l.fn.columns l.place l.heads.items (map vec_items l.lists.items) (map vec_items l.marks.items);
  wide : length l.columns ≡ length l.fn.columns;
  empty : (k : ℕ) (d : State) → k < l.place → get_or l.columns k d ≡ emptied (get_or l.fn.columns k d);
  left : (k : ℕ) (d : State) → l.place ≤ k → get_or l.columns k d ≡ get_or l.fn.columns k d;
}
