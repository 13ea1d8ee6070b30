use Rattle.report_text.proofs.OneRow.{rows_say_one}
use Rattle.report_text.proofs.laws.rows_say_one.Goals as goal

pub returns : goal.returns
returns c = rows_say_one
