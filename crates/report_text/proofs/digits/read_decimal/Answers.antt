use Rattle.std.proofs.Common.{sym, ◌∙◌}
use Rattle.std.proofs.lemmas.Bool.{false≢true}
use Rattle.report_text.proofs.ReadNumbers.{digits_read, digits_written, no_number}
use Rattle.report_text.proofs.digits.read_decimal.Goals as goal

pub returns-then-is_trimmed-clause-read : goal.returns-then-is_trimmed-clause-read
returns-then-is_trimmed-clause-read c = λ n few e. digits_read c.args.text.now n c.read_digits.result c.read_digits.ensures few e

pub returns-then-is_trimmed-clause-written : goal.returns-then-is_trimmed-clause-written
returns-then-is_trimmed-clause-written c = digits_written c.args.text.now c.read_digits.result c.read_digits.ensures (c.is_trimmed.ensures.only c.if-is_trimmed.true)

pub returns-else-is_trimmed-clause-read : goal.returns-else-is_trimmed-clause-read
returns-else-is_trimmed-clause-read c = λ n few e. absurd (false≢true (sym c.if-is_trimmed.false ∙ c.is_trimmed.ensures.yes (no_number c.args.text.now n few e)))
