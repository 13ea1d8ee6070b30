use Rattle.part_rows.proofs.RisingRows.{rising_lines_are_listed_once}
use Rattle.part_rows.proofs.laws.rising_lines_are_listed_once.Goals as goal

pub returns : goal.returns
returns c = rising_lines_are_listed_once
