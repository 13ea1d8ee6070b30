use Rattle.std.proofs.Common.{◌≡◌, ◌+◌, ◌≤◌, drop, map}
use Rattle.sql_text.specs.Tree.{name_of}
use Rattle.query_kinds.specs.Kinds.{columns_named}
use Rattle.query_kinds.proofs.kinds.columns_named.Given as goal

abbrev pub invariant-loop-at : goal.invariant-loop-at
invariant-loop-at l =
    (l.columns ≤ l.at) × (l.columns + columns_named (map name_of (drop l.at l.names)) ≡ columns_named (map name_of l.names))
