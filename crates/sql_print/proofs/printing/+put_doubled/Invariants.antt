-- What is left is shorter.
use Rattle.std.proofs.Common.{length}
use Rattle.sql_print.proofs.printing.+put_doubled.Given as goal

abbrev pub decreases-put_doubled : goal.decreases-put_doubled
decreases-put_doubled l = length l.text.now
