use Rattle.std.proofs.Common.{◌≡◌, ◌+◌, ◌<◌, ◌++◌, [], ◌∷◌, length, map, take, ap, ◌∙◌, arith}
use Rattle.std.proofs.lemmas.Grind.{take-set_at}
use Rattle.std.proofs.lemmas.List.{map-append}
use Rattle.row_groups.specs.Partition.{range_for}
use Rattle.row_groups.proofs.keys.with_part.Goals as goal

pub returns-clause-ranges : goal.returns-clause-ranges
returns-clause-ranges c =
    let parts = c.args.keys.parts in
    let at = c.from.result in
    let range = c.args.range in
    let within : at < length parts = omega arith in
    let next : c.args.keys.columns + 1 ≡ at + 1 = omega arith in
    ap (map range_for) (take-set_at parts at (c.args.keys.columns + 1) range next within) ∙ map-append range_for (take at parts) (range ∷ [])
    ∙ ap (λ n. map range_for (take n parts) ++ range_for range ∷ []) c.from.ensures
