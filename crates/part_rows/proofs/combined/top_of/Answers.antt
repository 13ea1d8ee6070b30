use Rattle.std.proofs.Common.{◌≡◌, ◌≤◌, ◌-◌, ap, arith, length, refl, ◌∙◌}
use Rattle.std.proofs.lemmas.List.{take_all}
use Rattle.report_text.specs.RowBlocks.{certain_rows, possible_rows}
use Rattle.report_text.proofs.RowCounts.{possible_is}
use Rattle.part_rows.proofs.combined.top_of.Goals as goal

pub returns-clause-top : goal.returns-clause-top
returns-clause-top c =
    let lines = c.args.lines.now in
    let all : length lines ≤ c.loop-line.line-index = omega (arith, c.loop-line-test.false) in
    let certain : c.loop-line.certain ≡ certain_rows lines =
    c.loop-line.invariant ∙ ap certain_rows (take_all c.loop-line.line-index lines all) in
    let possible : length lines - c.loop-line.certain ≡ possible_rows lines =
    possible_is lines (length lines) c.loop-line.certain refl certain in
    λ i. record { limit = c.args.limit; certain = certain i; possible = possible i }
