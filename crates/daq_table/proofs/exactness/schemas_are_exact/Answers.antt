use Rattle.daq_table.proofs.OneMeaning.{faultless, one_fault}
use Rattle.daq_table.proofs.exactness.schemas_are_exact.Goals as goal

pub returns-clause-one : goal.returns-clause-one
returns-clause-one c = one_fault

pub returns-clause-none : goal.returns-clause-none
returns-clause-none c = faultless
