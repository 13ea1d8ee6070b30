use Rattle.product_sums.proofs.EvenMasks.{all_same, none_same}
use Rattle.product_sums.proofs.even_masks.are_both_even.Goals as goal

pub returns-then-has_no_row : goal.returns-then-has_no_row
returns-then-has_no_row c = λ none. none_same c.args.mask.now c.args.other.now c.requires (c.has_no_row.ensures c.if-has_no_row.true) (c.has_no_row-then-has_no_row.ensures none)

pub returns-then-has_all_rows : goal.returns-then-has_all_rows
returns-then-has_all_rows c = λ all. all_same c.args.mask.now c.args.other.now c.requires (c.has_all_rows.ensures c.if-has_all_rows.true) (c.has_all_rows-then-has_all_rows.ensures all)
