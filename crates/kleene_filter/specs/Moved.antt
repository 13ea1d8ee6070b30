-- Rows of a block before and after it was judged.
use Rattle.std.specs.Prelude.{ℕ}
use Rattle.kleene_filter.specs.declared.truth_masks.MovedRows.{MovedRows}
use Rattle.kleene_filter.specs.declared.truth_masks.TruthMasks.{TruthMasks}
use Rattle.kleene_filter.specs.Blocks.{AreRowsIn}

-- these are the rows of a block that both masks had and have
pub record AreMoved (block : ℕ) (old new : TruthMasks) (rows : MovedRows) : Type 0 where
  pub certain_before : AreRowsIn old.must block rows.before.certain
  pub possible_before : AreRowsIn old.may block rows.before.possible
  pub certain : AreRowsIn new.must block rows.after.certain
  pub possible : AreRowsIn new.may block rows.after.possible
