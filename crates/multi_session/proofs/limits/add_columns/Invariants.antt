use Rattle.std.proofs.Common.{◌≡◌, fold, take}
use Rattle.multi_session.specs.Sessions.{with_column}
use Rattle.multi_session.proofs.limits.add_columns.Given as goal

abbrev pub invariant-loop-place : goal.invariant-loop-place
invariant-loop-place l = l.columns.items ≡ fold with_column l.initial.columns.items (take l.place-index l.more)
