use Rattle.std.proofs.Common.{◌≡◌, drop, map}
use Rattle.std.specs.List.{list_any}
use Rattle.std.specs.Str.{bytes_eq}
use Rattle.sql_text.specs.Tree.{name_of}
use Rattle.query_kinds.proofs.kinds.is_among.Given as goal

abbrev pub invariant-loop-other : goal.invariant-loop-other
invariant-loop-other l =
    list_any (bytes_eq (name_of l.name).name) (map (λ n. n.name) (map name_of (drop l.other-index l.names)))
    ≡ list_any (bytes_eq (name_of l.name).name) (map (λ n. n.name) (map name_of l.names))
