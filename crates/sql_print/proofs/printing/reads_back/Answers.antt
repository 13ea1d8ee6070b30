-- The two laws of the printed form.
use Rattle.sql_print.proofs.TreeTexts.{read_back}
use Rattle.sql_print.proofs.TreeUtf8.{printed_utf8}
use Rattle.sql_print.proofs.printing.reads_back.Goals as goal

pub returns-clause-again : goal.returns-clause-again
returns-clause-again c = read_back

pub returns-clause-text : goal.returns-clause-text
returns-clause-text c = printed_utf8
