use Rattle.std.proofs.Common.{◌≡◌, [], fold, take}
use Rattle.std.specs.List.{flat_map}
use Rattle.multi_session.specs.Sessions.{with_column}
use Rattle.multi_session.proofs.limits.columns_named.Given as goal

abbrev pub invariant-loop-query : goal.invariant-loop-query
invariant-loop-query l = l.columns.items ≡ fold with_column [] (flat_map (λ query. query.columns) (take l.query-index l.queries))
