use Rattle.std.proofs.Common.{◌≡◌, ◌&&◌, length, sym, ap, subst, ◌∙◌}
use Rattle.std.proofs.lemmas.List.{length-map}
use Rattle.std.proofs.lemmas.Simd.{length-zip2}
use Rattle.std.specs.Simd.Lanes.{zip2}
use Rattle.known_column.specs.Columns.{is_possible, rows_where}
use Rattle.aggregates.specs.Selections.{MayHaveValues}
use Rattle.aggregates.proofs.Values.{taken_from_possible}
use Rattle.tests_rows.proofs.ends.rows_of.Goals as goal

pub returns-clause-rows : goal.returns-clause-rows
returns-clause-rows c =
    let known = c.args.known.now in
    let mask = c.loop-row.mask in
    let all : length (rows_where is_possible known) ≡ length known.known.prefixes = length-map known.known.prefixes (is_possible known.ends known.known.read) in
    ap length (c.and_into.ensures ∙ ap (zip2 (λ a b. a && b) mask) c.possible.ensures) ∙ length-zip2 (λ a b. a && b) mask (rows_where is_possible known) (c.loop-row.invariant ∙ sym all)
    ∙ c.loop-row.invariant

pub returns-clause-values : goal.returns-clause-values
returns-clause-values c =
    let known = c.args.known.now in
    let mask = c.loop-row.mask in
    subst (MayHaveValues known) (sym (c.and_into.ensures ∙ ap (zip2 (λ a b. a && b) mask) c.possible.ensures)) (taken_from_possible known mask)
