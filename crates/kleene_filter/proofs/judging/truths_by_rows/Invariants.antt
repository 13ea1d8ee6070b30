use Rattle.std.proofs.Common.{ℕ, ◌+◌, ◌-◌, ◌*◌, ◌≤◌, ◌<◌}
use Rattle.query_model.specs.Knowledge.{ranges_of}
use Rattle.query_model.specs.Truths.{truths_of_atom}
use Rattle.kleene_filter.specs.Blocks.{HasTruths}
use Rattle.kleene_filter.proofs.judging.truths_by_rows.Given as goal

abbrev pub invariant-loop-word : goal.invariant-loop-word
invariant-loop-word g l = record {
  from : l.place.word ≤ l.word;
  told : (row : ℕ) → 64 * l.place.word ≤ row → row < l.place.to → row < 64 * l.word →
      HasTruths row (truths_of_atom l.atom (ranges_of (g.R.KnownRows.table l.rows).frame (g.R.KnownRows.table l.rows).known (l.place.first + (row - 64 * l.place.word)))) l.truths;
}
