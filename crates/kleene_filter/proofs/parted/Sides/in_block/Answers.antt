use Rattle.std.proofs.Common.{◌+◌, ◌*◌, ◌<◌, Bool, false, List, length, get_or, replicate, refl, sym, ap, subst, ◌∙◌}
use Rattle.query_model.specs.declared.bounds.Truth.TheVariants.{Unknown}
use Rattle.kleene_filter.specs.Parted.{AreBlockSides}
use Rattle.kleene_filter.proofs.BlockBits.{all_chosen, none_in}
use Rattle.kleene_filter.proofs.parted.Sides.in_block.Goals as goal

pub returns-in-AllLess : goal.returns-in-AllLess
returns-in-AllLess c = subst (λ s. AreBlockSides c.args.op s c.args.block (record { passed = c.chosen.result; equal = replicate 8 0; at_equal = Unknown })) (sym c.in-AllLess.is) (record {
  passed = λ r few has. all_chosen r _ _ _ few (c.chosen.ensures r) c.less_compares.ensures;
  equal = λ r few has. none_in r few;
  at_equal = tt;
})

pub returns-in-Parted : goal.returns-in-Parted
returns-in-Parted c = subst (λ s. AreBlockSides c.args.op s c.args.block (record { passed = c.read_block.result; equal = c.read_block-in-Parted.result; at_equal = c.in-Parted.parted.at_equal })) (sym c.in-Parted.is) (record {
  passed = λ r few has. c.read_block.ensures r few has.0;
  equal = λ r few has.
      c.read_block-in-Parted.ensures r few (subst (λ (l : List Bool). 512 * c.args.block + r < length l) (sym c.mask.ensures) has.1)
      ∙ ap (λ (l : List Bool). get_or l (512 * c.args.block + r) false) c.mask.ensures;
  at_equal = refl;
})

pub returns-in-AllGreater : goal.returns-in-AllGreater
returns-in-AllGreater c = subst (λ s. AreBlockSides c.args.op s c.args.block (record { passed = c.chosen-in-AllGreater.result; equal = replicate 8 0; at_equal = Unknown })) (sym c.in-AllGreater.is) (record {
  passed = λ r few has. all_chosen r _ _ _ few (c.chosen-in-AllGreater.ensures r) c.greater_compares.ensures;
  equal = λ r few has. none_in r few;
  at_equal = tt;
})
