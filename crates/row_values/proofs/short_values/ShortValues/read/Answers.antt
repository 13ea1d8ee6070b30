use Rattle.std.proofs.Common.{arith}
use Rattle.row_values.proofs.short_values.ShortValues.read.Goals as goal

pub returns : goal.returns
returns c = record {
  possible = c.possible_rows.ensures;
  sure = c.sure_rows.ensures;
  count = omega arith;
  spans = c.short_spans.ensures;
}
