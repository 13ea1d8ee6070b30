use Rattle.std.proofs.Common.{refl, sym, ap, ◌∙◌, arith}
use Rattle.kleene_filter.specs.Blocks.{bit_in}
use Rattle.kleene_filter.proofs.BlockBits.{mask_row}
use Rattle.kleene_filter.proofs.lanes.renew_block.Goals as goal

pub returns-then-are_same-clause-put : goal.returns-then-are_same-clause-put
returns-then-are_same-clause-put c = record {
  rows = refl;
  before = λ k h. refl;
  behind = λ k h. refl;
  here = λ row few. sym (mask_row c.args.mask.now c.args.old.now c.args.block row c.requires.old.are c.told-old (omega (arith, few)) (omega (arith, few))) ∙ ap (bit_in row) (c.are_same.ensures c.if-are_same.true);
}
