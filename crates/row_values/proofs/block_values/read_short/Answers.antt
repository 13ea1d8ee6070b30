use Rattle.std.proofs.Common.{◌≡◌, pos, Some, slice_get, get_or, ◌∙◌, arith}
use Rattle.std.proofs.lemmas.Int.{ints}
use Rattle.std.proofs.lemmas.Option.{slice_get-get_or}
use Rattle.row_values.specs.declared.short.ShortInterval.{ShortInterval}
use Rattle.row_values.proofs.block_values.read_short.Goals as goal

pub returns-clause-spans : goal.returns-clause-spans
returns-clause-spans c = λ r span below at some.
    let shorts = c.short_spans.new.spans in
    let zero : ShortInterval = record { lo = pos 0; hi = pos 0; ordered = omega (arith, ints) } in
    let short = get_or shorts r zero in
    let there : slice_get shorts r ≡ Some short = slice_get-get_or shorts r zero (omega (arith, below)) in
    c.loop-i.invariant.rows r span (omega (arith, below)) at short there ∙ (c.short_spans.ensures r short below there).exact some
