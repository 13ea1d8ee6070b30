use Rattle.std.proofs.Common.{arith}
use Rattle.daq_table.proofs.CellDigits.{few_digits_small}
use Rattle.std.proofs.lemmas.Int.Digits.{digits_value-lt}
use Rattle.daq_table.proofs.dates.number_of.Goals as goal

pub overflow_cast-result : goal.overflow_cast-result
overflow_cast-result c =
    omega (arith, c.in-Some.ensures, few_digits_small c.args.bytes.now 4 c.in-Some.ensures.0.0 c.requires)

pub returns-in-Some-clause-small : goal.returns-in-Some-clause-small
returns-in-Some-clause-small c = omega (arith, c.in-Some.ensures, digits_value-lt 10 c.args.bytes.now c.in-Some.ensures.0.0)

pub returns-in-None-clause-value : goal.returns-in-None-clause-value
returns-in-None-clause-value c =
    λ digits. c.in-None.ensures (digits, omega (arith, few_digits_small c.args.bytes.now 4 digits c.requires))
