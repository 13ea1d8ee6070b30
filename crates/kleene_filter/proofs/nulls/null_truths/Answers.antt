use Rattle.std.proofs.Common.{◌*◌, ◌+◌, ◌∙◌, arith}
use Rattle.query_model.specs.Truths.{may_be_null}
use Rattle.known_column.specs.Columns.{is_possible, is_sure, range_at}
use Rattle.kleene_filter.proofs.BlockBits.{none_in, not_of}
use Rattle.kleene_filter.proofs.Parting.{not_sure, where_row}
use Rattle.kleene_filter.proofs.nulls.null_truths.Goals as goal

pub returns : goal.returns
returns c =
    let column = c.args.column.now in
    let block = c.args.block in
    λ r from few. record {
      hold =
          not_of _ _ _ (c.unset.ensures r (omega (arith, few)))
          (where_row is_sure column c.sure.result.now c.read_block.result block r c.sure.ensures c.read_block.ensures few)
          ∙ not_sure (may_be_null (range_at column (512 * block + r)).null);
      fail = where_row is_possible column c.possible.result.now c.read_block-2.result block r c.possible.ensures c.read_block-2.ensures few;
      null = none_in r (omega (arith, few));
    }
