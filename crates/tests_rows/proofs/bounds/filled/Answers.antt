use Rattle.std.proofs.Common.{◌∙◌, arith}
use Rattle.aggregates.proofs.Appending.{length-more}
use Rattle.tests_rows.proofs.Small.{is_small, may_get_small, small-more}
use Rattle.tests_rows.proofs.bounds.filled.Goals as goal

pub add-requires : goal.add-requires
add-requires c =
    let stands = c.loop-row.invariant.stands in
    let count = stands.2 in
    let small = is_small _ c.span.result c.span.ensures.low c.span.ensures.high in
    record { pairs = stands.0; stands = stands.1; may_get = may_get_small c.loop-row.running.kind stands.0 _ stands.3 small (omega (arith, count)) }

pub loop-row-preserved : goal.loop-row-preserved
loop-row-preserved c =
    let stands = c.loop-row.invariant.stands in
    let count = stands.2 in
    let small = is_small _ c.span.result c.span.ensures.low c.span.ensures.high in
    record {
      kind = c.add.ensures.kind ∙ c.loop-row.invariant.kind;
      cell = (let same = c.add.ensures.count in let some = c.loop-row.invariant.cell in omega (arith, same));
      stands = (_, c.add.ensures.appended stands.0 stands.1, length-more stands.0 _ ∙ omega (arith, count), small-more stands.0 _ stands.3 small);
    }
