use Rattle.std.proofs.Common.{◌≡◌, ◌<◌, ℕ}
use Rattle.query_model.specs.Knowledge.{known_at}
use Rattle.kleene_filter.proofs.filter.is_unread.Given as goal

abbrev pub invariant-loop-column : goal.invariant-loop-column
invariant-loop-column l = (c : ℕ) → c < l.column → (known_at l.columns.known c).read ≡ 0
