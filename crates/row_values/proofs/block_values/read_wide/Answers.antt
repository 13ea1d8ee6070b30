use Rattle.std.proofs.Common.{◌≡◌, ◌+◌, ◌*◌, length-set, ap, ◌∙◌, arith}
use Rattle.interval_calc.specs.Intervals.{interval_of}
use Rattle.query_model.specs.Knowledge.{ranges_of}
use Rattle.query_model.specs.Queries.{term_of}
use Rattle.query_model.specs.Truths.{span_of}
use Rattle.known_column.specs.KnownTables.{KnownTable}
use Rattle.row_values.proofs.BlockRows.{holds_further}
use Rattle.row_values.proofs.block_values.read_wide.Goals as goal

pub loop-i-preserved : goal.loop-i-preserved
loop-i-preserved c =
    let i = c.loop-i.i in
    let term = term_of c.args.expr.now in
    let table = c.args.columns.now in
    let rows = ap (λ (t : KnownTable). t.frame.rows) c.requires.block in
    record {
      count = length-set c.loop-i.spans i c.span_of.result ∙ c.loop-i.invariant.count;
      rows = holds_further (λ r span. interval_of span ≡ span_of term (ranges_of table.frame table.known (64 * c.args.number + r))) i c.loop-i.spans c.span_of.result
          (c.span_of.ensures.span ∙ ap (λ (t : KnownTable). span_of term (ranges_of t.frame t.known i)) c.requires.block
          ∙ ap (λ ranges. span_of term ranges) (c.blocks_have_their_rows.ensures table c.args.number i (omega (arith, rows)))) c.loop-i.invariant.rows;
    }
