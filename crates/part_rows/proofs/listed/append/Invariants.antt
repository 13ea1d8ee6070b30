use Rattle.std.proofs.Common.{◌≡◌, ◌++◌, map, take}
use Rattle.part_rows.specs.Combined.{listing}
use Rattle.part_rows.proofs.listed.append.Given as goal

abbrev pub invariant-loop-line : goal.invariant-loop-line
invariant-loop-line l =
    map listing l.rows.items ≡ map listing l.fn.rows.items
    ++ map (λ line. record { part = l.place; tag = l.part.tag.now; line = line }) (take l.line-index l.part.rows.now)
