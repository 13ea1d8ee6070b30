-- What is left is shorter.
use Rattle.std.proofs.Common.{length}
use Rattle.sql_print.proofs.printing.+put_values.Given as goal

abbrev pub decreases-put_values : goal.decreases-put_values
decreases-put_values l = length l.items.now
