use Rattle.std.proofs.Common.{◌&&◌, length, ap, sym, ◌∙◌}
use Rattle.std.specs.Simd.Lanes.{zip2}
use Rattle.std.proofs.lemmas.Simd.{length-zip2}
use Rattle.aggregates.proofs.EndSigns.{none_left, rows_left}
use Rattle.aggregates.proofs.EndSums.{Counts}
use Rattle.aggregates.proofs.signs.select_none.Goals as goal

pub and_not_into-requires : goal.and_not_into-requires
and_not_into-requires c = ap length c.possible.ensures ∙ rows_left c.args.known.now ∙ sym c.requires.out

pub and_into-requires : goal.and_into-requires
and_into-requires c =
    c.requires.within
    ∙ sym (ap length c.and_not_into.ensures ∙ length-zip2 _ c.args.out.now c.possible.result.now (c.requires.out ∙ sym (ap length c.possible.ensures ∙ rows_left c.args.known.now)) ∙ c.requires.out)

pub returns : goal.returns
returns c =
    let column = c.args.known.now in
    let counts : Counts column c.args.within.now = record { sound = c.number_planes-planes.ensures.sound; rows = c.requires.within; values = c.requires.values } in
    c.and_into.ensures ∙ ap (λ l. zip2 (λ a b. a && b) l c.args.within.now) c.and_not_into.ensures
    ∙ none_left column c.args.within.now c.args.out.now c.possible.result.now counts c.possible.ensures c.requires.out
