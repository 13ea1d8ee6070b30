use Rattle.std.proofs.Common.{◌≡◌, ◌<◌, length, map, slice_index, take}
use Rattle.std.specs.List.{All}
use Rattle.multi_session.proofs.columns.Columns.numbers.Given as goal

abbrev pub invariant-loop-place : goal.invariant-loop-place
invariant-loop-place l = record {
  inside : All (λ number. number < length l.self.places.items) l.numbers.items;
  named : take l.place-index l.places ≡ map (slice_index l.self.places.items) l.numbers.items;
}
