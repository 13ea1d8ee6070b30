use Rattle.std.proofs.Common.{◌≡◌, ◌+◌, ◌+ℤ◌, ℤ, sym, ap, ◌∙◌, arith, to_z, of_z}
use Rattle.std.specs.Int.{w128}
use Rattle.std.proofs.lemmas.Int.{ints}
use Rattle.avg_exact.specs.declared.passes.Tally.{Tally}
use Rattle.avg_exact.specs.Passes.{all_rows, tally_of}
use Rattle.avg_exact.proofs.ColumnPairs.{both_tally, sure_tally}
use Rattle.avg_exact.proofs.ways.count_by_planes.Goals as goal

pub returns-in-None-clause-tally : goal.returns-in-None-clause-tally
returns-in-None-clause-tally c =
    c.tally_part-sure.ensures.tally ∙ sure_tally c.args.engine.now c.args.item c.args.planes.now.column c.requires.planes.over c.args.end
    ∙ ap (λ over. tally_of over (all_rows c.args.engine.now c.args.item c.args.end)) (sym c.in-None.is)

abbrev with_sum : ℤ → Tally → Tally → Tally
with_sum z s t = record { sum = z; rows = s.rows + t.rows; taken = t.taken }

pub returns-in-Some-clause-tally : goal.returns-in-Some-clause-tally
returns-in-Some-clause-tally c =
    let sure = c.tally_part-sure.result in
    let taken = c.count_taken-taken.result in
    let a = c.tally_part-sure.ensures.few.sum in
    let b = c.count_taken-taken.ensures.few.sum in
    let whole : to_z w128 (of_z w128 (to_z w128 (of_z w128 sure.sum) +ℤ to_z w128 (of_z w128 taken.sum))) ≡ sure.sum +ℤ taken.sum = omega (arith, ints, a.0, a.1, b.0, b.1) in
    ap (λ z. with_sum z sure taken) whole
    ∙ both_tally c.args.engine.now c.args.item c.args.planes.now.column c.requires.planes.over c.args.end c.in-Some.over sure taken
    (c.tally_part-sure.ensures.tally ∙ sure_tally c.args.engine.now c.args.item c.args.planes.now.column c.requires.planes.over c.args.end) c.count_taken-taken.ensures.tally
    ∙ ap (λ over. tally_of over (all_rows c.args.engine.now c.args.item c.args.end)) (sym c.in-Some.is)
