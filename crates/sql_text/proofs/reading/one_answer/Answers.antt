-- A text has one answer: the law of each pair of answers.
use Rattle.sql_text.proofs.Answering.{one_query, one_fault, not_both}
use Rattle.sql_text.proofs.reading.one_answer.Goals as goal

pub returns-clause-queries : goal.returns-clause-queries
returns-clause-queries c = one_query

pub returns-clause-faults : goal.returns-clause-faults
returns-clause-faults c = one_fault

pub returns-clause-apart : goal.returns-clause-apart
returns-clause-apart c = not_both
