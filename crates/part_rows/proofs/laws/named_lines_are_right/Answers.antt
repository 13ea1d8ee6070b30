use Rattle.part_rows.proofs.Whole.{named_lines_are_right}
use Rattle.part_rows.proofs.laws.named_lines_are_right.Goals as goal

pub returns : goal.returns
returns c = named_lines_are_right
