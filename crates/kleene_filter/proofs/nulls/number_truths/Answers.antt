use Rattle.std.proofs.Common.{◌≡◌, ◌+◌, ◌*◌, false, not, ◌&&◌, refl, sym, ap, ◌∙◌, arith}
use Rattle.query_model.specs.Truths.{is_false, is_true, may_be_null, may_be_number, truth_over}
use Rattle.known_column.specs.Columns.{is_possible, is_sure, missing_at, numbers_at}
use Rattle.kleene_filter.specs.Blocks.{bit_in}
use Rattle.kleene_filter.proofs.BlockBits.{and_of, none_in, not_of}
use Rattle.kleene_filter.proofs.Parting.{never_null, not_sure, only_numbers, where_row}
use Rattle.kleene_filter.proofs.nulls.number_truths.Goals as goal

pub returns-then-not-nullable : goal.returns-then-not-nullable
returns-then-not-nullable c = λ test on r from few.
    let column = c.args.column.now in
    let row = 512 * c.args.block + r in
    let plain : column.ends.nullable ≡ false = sym c.nullable.ensures ∙ c.if-not-nullable.true in
    let never = never_null column row plain in
    record {
      hold = on.pass r few never.0 ∙ sym (ap (λ b. b && not (is_false (truth_over (numbers_at column row) test))) never.0);
      fail = on.fail r few never.0 ∙ sym (ap (λ b. b && not (is_true (truth_over (numbers_at column row) test))) never.0);
      null = none_in r (omega (arith, few)) ∙ sym never.1;
    }

pub returns : goal.returns
returns c = λ test on r from few.
    let column = c.args.column.now in
    let block = c.args.block in
    let some = may_be_number (missing_at column (512 * block + r)) in
    let possible : bit_in r c.read_block-possible.result ≡ some = where_row is_possible column c.possible.result.now c.read_block-possible.result block r c.possible.ensures c.read_block-possible.ensures few in
    record {
      hold =
          and_of _ _ _ _ _ (c.both.ensures r (omega (arith, few))) possible refl
          ∙ only_numbers some (bit_in r c.args.pass.now) (not (is_false (truth_over (numbers_at column (512 * block + r)) test))) (on.pass r few);
      fail =
          and_of _ _ _ _ _ (c.both-2.ensures r (omega (arith, few))) possible refl
          ∙ only_numbers some (bit_in r c.args.fail.now) (not (is_true (truth_over (numbers_at column (512 * block + r)) test))) (on.fail r few);
      null =
          not_of _ _ _ (c.unset.ensures r (omega (arith, few)))
          (where_row is_sure column c.sure.result.now c.read_block.result block r c.sure.ensures c.read_block.ensures few)
          ∙ not_sure (may_be_null (missing_at column (512 * block + r)));
    }
