-- The columns found and the names left give the same columns as at the start.
use Rattle.std.proofs.Common.{◌≡◌, [], drop, map}
use Rattle.sql_text.specs.Tree.{name_of}
use Rattle.sql_typing.specs.Names.{number_of}
use Rattle.sql_typing.specs.Typing.{distinct_after}
use Rattle.sql_typing.proofs.shape.group_columns.Given as goal

abbrev pub invariant-loop-name : goal.invariant-loop-name
invariant-loop-name l = distinct_after l.groups.items (map (λ n. number_of l.table l.columns n.name) (drop l.name-index (map name_of l.names)))
    ≡ distinct_after [] (map (λ n. number_of l.table l.columns n.name) (map name_of l.names))
