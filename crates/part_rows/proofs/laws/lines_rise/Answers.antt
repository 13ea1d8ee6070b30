use Rattle.part_rows.proofs.Rising.{lines_rise}
use Rattle.part_rows.proofs.laws.lines_rise.Goals as goal

pub returns : goal.returns
returns c = lines_rise
