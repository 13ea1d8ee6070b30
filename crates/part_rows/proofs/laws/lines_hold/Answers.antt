use Rattle.part_rows.proofs.Joined.{lines_hold}
use Rattle.part_rows.proofs.laws.lines_hold.Goals as goal

pub returns : goal.returns
returns c = lines_hold
